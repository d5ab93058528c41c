use Rattle.std.proofs.Common.{arith}
use Rattle.progress_table.proofs.Tables.{least_there, none_there}
use Rattle.progress_table.proofs.table.ProgressTable.least_wanted.Goals as goal

pub returns-then-self-len-clause-least : goal.returns-then-self-len-clause-least
returns-then-self-len-clause-least c = least_there _ _ _ _ _ c.self.view_is c.self.invariant (omega arith)

pub returns-else-self-len-clause-least : goal.returns-else-self-len-clause-least
returns-else-self-len-clause-least c = none_there _ _ _ _ _ c.self.view_is c.self.invariant (omega arith)
