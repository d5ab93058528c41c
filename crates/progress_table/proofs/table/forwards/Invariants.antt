use Rattle.std.proofs.Common.{◌≡◌, ◌<◌, ◌+◌, ℕ, length, get_or}
use Rattle.progress_table.proofs.table.forwards.Given as goal

-- each number so far has the next one behind it, and the end has the first
abbrev pub invariant-loop-i : goal.invariant-loop-i
invariant-loop-i l = record {
  size : length l.next.items ≡ l.n + 1;
  each : (j : ℕ) → j < l.i → get_or l.next.items j 0 ≡ j + 1;
  end : get_or l.next.items l.n 0 ≡ 0;
}
