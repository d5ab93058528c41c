use Rattle.machine_meaning.proofs.Never as laws
use Rattle.machine_meaning.proofs.never_stuck.Goals as goal

pub returns : goal.returns
returns c = λ m ok. laws.never_stuck m ok
