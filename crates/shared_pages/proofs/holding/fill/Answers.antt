use Rattle.std.proofs.Common.{ℤ, List, length, ap, arith}
use Rattle.cal_base.proofs.Pages.{length-page_words}
use Rattle.shared_pages.proofs.holding.fill.Goals as goal

pub copy-requires : goal.copy-requires
copy-requires g c =
    omega (arith, ap (λ (ws : List ℤ). length ws) c.page-page.ensures, length-page_words (g.S.PageSource.pages c.args.source.now).memory c.args.p)
