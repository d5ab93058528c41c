-- What fits a source.
use Rattle.std.proofs.Common.{Some, ap, ◌∙◌, arith}
use Rattle.shared_pages.specs.Kept.{page_at}
use Rattle.shared_pages.specs.Cached.{LaterFits}

pub fits_later : LaterFits
fits_later pool kept first second fits later = λ i v u there had now.
    let one = later.pages (page_at kept i) u now in
    let fit = fits i v one.was there had one.had in
    record {
      no_later = omega (arith, fit.no_later, one.no_later);
      same = λ e. fit.same (omega (arith, fit.no_later, one.no_later)) ∙ ap (λ ws. Some ws) (one.same (omega (arith, fit.no_later, one.no_later)));
    }
