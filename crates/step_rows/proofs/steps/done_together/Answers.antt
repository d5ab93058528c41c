use Rattle.std.proofs.Common.{sym, ap, ◌∙◌, Some}
use Rattle.cal_base.specs.declared.answer.Answer.TheVariants.{Update}
use Rattle.step_rows.specs.Steps.{many}
use Rattle.step_rows.proofs.ManyRoutines.{together_answer}
use Rattle.step_rows.proofs.steps.done_together.Goals as goal

pub of-requires : goal.of-requires
of-requires c = together_answer many c.args.k c.requires ∙ ap (λ u. Some (Update u)) (sym c.in_ok-update.ensures)
