use Rattle.std.proofs.Common.{◌≡◌, ◌<◌, ℕ, length, get_or}
use Rattle.cal_terms.specs.declared.kinds.WordKind.TheVariants.{Ordinary}
use Rattle.cal_base.specs.Memory.{kind_at}
use Rattle.write_buffer.proofs.buffer.all_kinds.Given as goal

abbrev pub invariant-loop-a : goal.invariant-loop-a
invariant-loop-a l = record {
  size : length l.kinds.items ≡ l.words;
  so_far : (k : ℕ) → k < l.a → get_or l.kinds.items k Ordinary ≡ kind_at l.image.memory k;
}
