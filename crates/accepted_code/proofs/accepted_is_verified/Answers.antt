use Rattle.accepted_code.proofs.Verified.{is_verified}
use Rattle.accepted_code.proofs.accepted_is_verified.Goals as goal

pub returns : goal.returns
returns c = λ p spelled accepted. is_verified p spelled accepted
