use Rattle.step_laws.proofs.Caller.{caller_completes}
use Rattle.step_laws.proofs.caller_completes.Goals as goal

pub returns : goal.returns
returns c = caller_completes
