use Rattle.std.proofs.Common.{length}
use Rattle.step_rows.proofs.steps.+has_caller_claimed.Given as goal

abbrev pub decreases-has_caller_claimed : goal.decreases-has_caller_claimed
decreases-has_caller_claimed l = length l.history.now
