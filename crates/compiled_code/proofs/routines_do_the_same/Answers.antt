use Rattle.compiled_code.proofs.Meaning.{has_routines}
use Rattle.compiled_code.proofs.routines_do_the_same.Goals as goal

pub returns : goal.returns
returns c = λ p ok shape. has_routines p ok shape
