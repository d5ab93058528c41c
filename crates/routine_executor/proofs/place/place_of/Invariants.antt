use Rattle.std.proofs.Common.{◌≡◌, ◌+◌, take, sum}
use Rattle.routine_executor.proofs.place.place_of.Given as goal

-- the widths so far are fewer routines than the number says
abbrev pub invariant-loop-block : goal.invariant-loop-block
invariant-loop-block l = l.k ≡ sum (take l.block l.widths) + l.id
