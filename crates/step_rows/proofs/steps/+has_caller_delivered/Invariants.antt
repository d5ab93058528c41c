use Rattle.std.proofs.Common.{length}
use Rattle.step_rows.proofs.steps.+has_caller_delivered.Given as goal

abbrev pub decreases-has_caller_delivered : goal.decreases-has_caller_delivered
decreases-has_caller_delivered l = length l.history.now
