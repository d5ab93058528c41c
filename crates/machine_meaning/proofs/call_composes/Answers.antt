use Rattle.machine_meaning.proofs.Composes as laws
use Rattle.machine_meaning.proofs.call_composes.Goals as goal

pub returns : goal.returns
returns c = λ m. laws.call_composes m
