use Rattle.std.proofs.Common.{◌≡◌, ℕ, ◌*◌, ◌<◌, ◌≤◌, false}
use Rattle.write_buffer.specs.Bits.{is_marked}
use Rattle.write_buffer.proofs.bits.next_set.Given as goal

abbrev pub invariant-loop-p : goal.invariant-loop-p
invariant-loop-p l = (a : ℕ) → l.from ≤ a → a < 64 * l.p → is_marked l.masks a ≡ false
