use Rattle.compiled_code.proofs.Meaning.{means_the_same}
use Rattle.accepted_code.proofs.Accepted.{accepted_shape}
use Rattle.accepted_code.proofs.accepted_keeps_its_meaning.Goals as goal

pub returns : goal.returns
returns c = λ p spelled accepted ok fuel. means_the_same p ok (accepted_shape p spelled accepted) fuel
