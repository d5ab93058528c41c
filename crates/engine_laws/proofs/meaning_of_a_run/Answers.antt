use Rattle.engine_laws.proofs.Running.{runs_are_meant, parts_are_meant, closed_steps_are_counted}
use Rattle.engine_laws.proofs.meaning_of_a_run.Goals as goal

pub returns-clause-whole : goal.returns-clause-whole
returns-clause-whole c = runs_are_meant

pub returns-clause-part : goal.returns-clause-part
returns-clause-part c = parts_are_meant

pub returns-clause-counted : goal.returns-clause-counted
returns-clause-counted c = closed_steps_are_counted
