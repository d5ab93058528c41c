use Rattle.std.proofs.Common.{◌≡◌, ◌<◌, ◌+◌, ℕ, length, get_or}
use Rattle.progress_table.proofs.table.backwards.Given as goal

-- each number so far stands before the next one, and the end before the first
abbrev pub invariant-loop-i : goal.invariant-loop-i
invariant-loop-i l = record {
  size : length l.prev.items ≡ l.n + 1;
  first : get_or l.prev.items 0 0 ≡ l.n;
  each : (j : ℕ) → j < l.i → get_or l.prev.items (j + 1) 0 ≡ j;
}
