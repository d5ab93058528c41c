use Rattle.machine_meaning.proofs.Never as laws
use Rattle.machine_meaning.proofs.routines_end.Goals as goal

pub returns : goal.returns
returns c = λ m ok. laws.routines_end m ok
