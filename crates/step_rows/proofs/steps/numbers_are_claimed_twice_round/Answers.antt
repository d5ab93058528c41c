use Rattle.std.proofs.Common.{ap, ◌∙◌, []}
use Rattle.cal_base.specs.Pages.{first_memory}
use Rattle.step_rows.specs.Steps.{many}
use Rattle.step_rows.proofs.ManyRoutines.{apart_opening}
use Rattle.step_rows.proofs.steps.numbers_are_claimed_twice_round.Goals as goal

pub close-closed-requires-clause-opening : goal.close-closed-requires-clause-opening
close-closed-requires-clause-opening g c = c.in_ok-image.ensures.memory ∙ (ap (λ n. first_memory n [] []) c.most_routines-n.ensures.value ∙ apart_opening many)
