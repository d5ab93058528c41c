use Rattle.std.proofs.Common.{◌≡◌, ◌+◌, vec_len}
use Rattle.calypso_engine.proofs.team.end_workers.Given as goal

-- one worker less for each that was ended
abbrev pub invariant-loop-ended : goal.invariant-loop-ended
invariant-loop-ended l = vec_len l.workers + l.ended ≡ l.count
