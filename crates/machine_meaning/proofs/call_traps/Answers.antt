use Rattle.machine_meaning.proofs.Composes as laws
use Rattle.machine_meaning.proofs.call_traps.Goals as goal

pub returns : goal.returns
returns c = λ m. laws.call_traps m
