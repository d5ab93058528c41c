use Rattle.std.proofs.Common.{◌≡◌, take}
use Rattle.calypso_engine.proofs.event.widths_of.Given as goal

-- the widths so far
abbrev pub invariant-loop-i : goal.invariant-loop-i
invariant-loop-i l = l.widths.items ≡ take l.i l.machine.widths
