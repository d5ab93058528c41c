use Rattle.std.proofs.Common.{sym, subst}
use Rattle.shared_pages.specs.Cached.{Cached, Fits}
use Rattle.shared_pages.proofs.Fitting.{fits_later}
use Rattle.page_rows.proofs.pages.fetched_again.Goals as goal

pub word-changed-requires-clause-fits : goal.word-changed-requires-clause-fits
word-changed-requires-clause-fits c =
    subst (λ (k : Cached). Fits c.word-kept.new.pool k.kept c.set.new.self) (sym c.begin_step-2.ensures)
    (fits_later c.word-kept.new.pool c.word-kept.new.self.kept c.args.image.now c.set.new.self c.word-kept.ensures.fits c.set.ensures.later)
