use Rattle.std.proofs.Common.{◌∙◌}
use Rattle.step_rows.specs.Steps.{many}
use Rattle.step_rows.proofs.ManyRoutines.{together_opening}
use Rattle.step_rows.proofs.steps.all_add_to_one_word.Goals as goal

pub close-closed-requires-clause-opening : goal.close-closed-requires-clause-opening
close-closed-requires-clause-opening g c = c.in_ok-image.ensures.memory ∙ together_opening many
