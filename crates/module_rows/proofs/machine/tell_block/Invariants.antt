use Rattle.std.proofs.Common.{◌≡◌}
use Rattle.module_rows.proofs.machine.tell_block.Given as goal

-- main's state is kept
abbrev pub invariant-loop-id : goal.invariant-loop-id
invariant-loop-id l = l.machine ≡ l.fn.machine
