use Rattle.compiled_code.proofs.Meaning.{means_the_same}
use Rattle.accepted_code.proofs.Accepted.{accepted_shape}
use Rattle.accepted_code.proofs.Verified.{is_verified}
use Rattle.accepted_code.proofs.accepted_means_the_same.Goals as goal

pub returns : goal.returns
returns c = λ p spelled accepted fuel. means_the_same p (is_verified p spelled accepted) (accepted_shape p spelled accepted) fuel
