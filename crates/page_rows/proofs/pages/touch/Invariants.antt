use Rattle.std.proofs.Common.{◌≡◌}
use Rattle.page_rows.proofs.pages.touch.Given as goal

abbrev pub invariant-loop-a : goal.invariant-loop-a
invariant-loop-a g l = record {
  opening : g.W.Words.opening l.words ≡ l.image.memory;
  keeps : g.W.Words.keeps l.initial.words l.words;
}
