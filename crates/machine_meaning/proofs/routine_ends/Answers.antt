use Rattle.machine_meaning.proofs.Reaches as laws
use Rattle.machine_meaning.proofs.routine_ends.Goals as goal

pub returns : goal.returns
returns c = λ m ok. laws.routine_ends m ok
