use Rattle.machine_meaning.proofs.Goes as laws
use Rattle.machine_meaning.proofs.main_comes.Goals as goal

pub returns : goal.returns
returns c = λ m ok. laws.main_comes m ok
