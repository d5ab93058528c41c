use Rattle.std.proofs.Common.{sym, subst}
use Rattle.shared_pages.specs.Shelf.{Shelved}
use Rattle.shared_pages.specs.Cached.{Fits}
use Rattle.shared_pages.proofs.cache.PageCache.hold.Goals as goal

pub returns-clause-fits : goal.returns-clause-fits
returns-clause-fits g c =
    subst (λ (s : Shelved). Fits c.fetch-i.new.pool s.kept (g.S.PageSource.pages c.args.source.now)) (sym c.mark-2.ensures) c.fetch-i.ensures.fits
