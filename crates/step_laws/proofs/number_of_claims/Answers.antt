use Rattle.step_laws.proofs.StepLaws.{claims_are_bounded}
use Rattle.step_laws.proofs.number_of_claims.Goals as goal

pub returns : goal.returns
returns c = claims_are_bounded
