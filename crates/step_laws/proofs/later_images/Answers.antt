use Rattle.cal_base.proofs.Later.{later_transitive, writes_are_later}
use Rattle.step_laws.proofs.later_images.Goals as goal

pub returns-clause-transitive : goal.returns-clause-transitive
returns-clause-transitive c = later_transitive

pub returns-clause-writes : goal.returns-clause-writes
returns-clause-writes c = writes_are_later
