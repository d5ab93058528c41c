use Rattle.std.proofs.Common.{◌≡◌, ◌<◌, length}
use Rattle.shared_pages.specs.Cached.{Fits, IsBacked}
use Rattle.page_rows.proofs.pages.differences.Given as goal

abbrev pub invariant-reads : goal.invariant-reads
invariant-reads l = record {
  range : l.a < l.words;
  fits : Fits l.pool l.cache.kept l.source.image.now;
  backed : IsBacked l.pool l.cache.size l.cache.kept;
}
