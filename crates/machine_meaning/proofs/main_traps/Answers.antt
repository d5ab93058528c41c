use Rattle.machine_meaning.proofs.Reaches as laws
use Rattle.machine_meaning.proofs.main_traps.Goals as goal

pub returns : goal.returns
returns c = λ m ok. laws.main_traps m ok
