use Rattle.compiled_code.proofs.Meaning.{opens_the_same}
use Rattle.compiled_code.proofs.module_opens_the_steps.Goals as goal

pub returns : goal.returns
returns c = λ p ok shape fuel. opens_the_same p ok shape fuel
