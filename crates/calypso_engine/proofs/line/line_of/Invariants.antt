use Rattle.std.proofs.Common.{◌≡◌, ◌++◌, drop, map}
use Rattle.cal_base.specs.Printing.{line_of}
use Rattle.routine_vm.specs.Events.{piece_of}
use Rattle.calypso_engine.proofs.line.line_of.Given as goal

-- the line so far, and the rest of it
abbrev pub invariant-loop-i : goal.invariant-loop-i
invariant-loop-i l = l.line.items ++ line_of (map (piece_of l.code) (drop l.i l.machine.items)) ≡ line_of (map (piece_of l.code) l.machine.items)
