use Rattle.std.proofs.Common.{◌≡◌}
use Rattle.write_buffer.specs.Buffered.{AreOut}
use Rattle.page_rows.proofs.pages.sum_of.Given as goal

abbrev pub invariant-sums : goal.invariant-sums
invariant-sums l = record {
  own : AreOut l.pool l.buffer.frames;
  kinds : l.buffer.kinds ≡ l.initial.buffer.kinds;
}
