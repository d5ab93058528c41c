use Rattle.accepted_code.proofs.Accepted.{accepted_shape}
use Rattle.accepted_code.proofs.accepted_has_shape.Goals as goal

pub returns : goal.returns
returns c = λ p spelled accepted. accepted_shape p spelled accepted
