use Rattle.step_laws.proofs.StepLaws.{claims_are_right, caller_delivers_first}
use Rattle.step_laws.proofs.answers_to_claims.Goals as goal

pub returns-clause-right : goal.returns-clause-right
returns-clause-right c = claims_are_right

pub returns-clause-caller : goal.returns-clause-caller
returns-clause-caller c = caller_delivers_first
