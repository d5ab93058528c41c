use Rattle.compiled_code.proofs.Meaning.{means_the_same}
use Rattle.compiled_code.proofs.module_means_the_program.Goals as goal

pub returns : goal.returns
returns c = λ p ok shape fuel. means_the_same p ok shape fuel
