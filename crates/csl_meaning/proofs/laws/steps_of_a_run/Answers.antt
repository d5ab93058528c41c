use Rattle.csl_meaning.proofs.Counts.{steps_are_numbered, steps_are_bounded}
use Rattle.csl_meaning.proofs.laws.steps_of_a_run.Goals as goal

pub returns-clause-numbered : goal.returns-clause-numbered
returns-clause-numbered c = steps_are_numbered

pub returns-clause-bounded : goal.returns-clause-bounded
returns-clause-bounded c = steps_are_bounded
