use Rattle.std.proofs.Common.{◌≡◌}
use Rattle.module_rows.proofs.machine.tell_blocks.Given as goal

-- main's state is kept
abbrev pub invariant-loop-i : goal.invariant-loop-i
invariant-loop-i l = l.machine ≡ l.fn.machine
