use Rattle.step_laws.proofs.StepLaws.{no_second_first, each_first_once}
use Rattle.step_laws.proofs.first_deliveries.Goals as goal

pub returns-clause-no_second : goal.returns-clause-no_second
returns-clause-no_second c = no_second_first

pub returns-clause-each_once : goal.returns-clause-each_once
returns-clause-each_once c = each_first_once
