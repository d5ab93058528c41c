use Rattle.step_laws.proofs.StepLaws.{prefixes_are_legal, delivered_grows, wanted_shrinks}
use Rattle.step_laws.proofs.prefixes_of_a_history.Goals as goal

pub returns-clause-legal : goal.returns-clause-legal
returns-clause-legal c = prefixes_are_legal

pub returns-clause-delivered : goal.returns-clause-delivered
returns-clause-delivered c = delivered_grows

pub returns-clause-wanted : goal.returns-clause-wanted
returns-clause-wanted c = wanted_shrinks
