use Rattle.engine_laws.proofs.Units.{steps_are_numbered, steps_take_units}
use Rattle.engine_laws.proofs.steps_of_main.Goals as goal

pub returns-clause-numbered : goal.returns-clause-numbered
returns-clause-numbered c = steps_are_numbered

pub returns-clause-units : goal.returns-clause-units
returns-clause-units c = steps_take_units
