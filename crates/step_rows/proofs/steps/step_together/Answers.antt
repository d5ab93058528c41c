use Rattle.std.proofs.Common.{ap, ◌∙◌, []}
use Rattle.cal_base.specs.Pages.{first_memory}
use Rattle.step_rows.specs.Steps.{many}
use Rattle.step_rows.proofs.ManyRoutines.{together_number, together_opening, together_size}
use Rattle.step_rows.proofs.steps.step_together.Goals as goal

pub make-requires-clause-step : goal.make-requires-clause-step
make-requires-clause-step c = together_number many

pub make-requires-clause-opening : goal.make-requires-clause-opening
make-requires-clause-opening c = c.requires.memory ∙ together_opening many

pub make-requires-clause-size : goal.make-requires-clause-size
make-requires-clause-size c = c.requires.size ∙ together_size many
