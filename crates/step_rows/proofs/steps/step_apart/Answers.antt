use Rattle.std.proofs.Common.{ap, ◌∙◌, []}
use Rattle.cal_base.specs.Pages.{first_memory}
use Rattle.step_rows.specs.Steps.{many}
use Rattle.step_rows.proofs.ManyRoutines.{apart_number, apart_opening, apart_size}
use Rattle.step_rows.proofs.steps.step_apart.Goals as goal

pub make-requires-clause-step : goal.make-requires-clause-step
make-requires-clause-step c = apart_number many

pub make-requires-clause-opening : goal.make-requires-clause-opening
make-requires-clause-opening c = c.requires.memory ∙ (ap (λ n. first_memory n [] []) c.requires.size ∙ apart_opening many)

pub make-requires-clause-size : goal.make-requires-clause-size
make-requires-clause-size c = c.requires.size ∙ apart_size many
