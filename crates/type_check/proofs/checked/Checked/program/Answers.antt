use Rattle.type_check.proofs.WordLemmas.{accepted-sized}
use Rattle.type_check.proofs.checked.Checked.program.Goals as goal

pub returns-clause-sized : goal.returns-clause-sized
returns-clause-sized c = rw (← c.self.view_is) (accepted-sized c.self.inside.program c.self.invariant.1)
