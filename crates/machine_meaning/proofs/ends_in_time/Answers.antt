use Rattle.machine_meaning.proofs.Never as laws
use Rattle.machine_meaning.proofs.ends_in_time.Goals as goal

pub returns : goal.returns
returns c = λ m ok. laws.ends_in_time m ok
