use Rattle.std.proofs.Common.{ap, ◌∙◌, Some, set}
use Rattle.cal_base.specs.Pages.{page_words}
use Rattle.shared_pages.proofs.Held.{opened, held}
use Rattle.shared_pages.proofs.holding.fetch.Goals as goal

pub returns : goal.returns
returns g c =
    let source = g.S.PageSource.pages c.args.source.now in
    let shelf = c.args.shelf.now in
    let after = c.open-i.new.shelf in
    let i = c.open-i.result in
    let is = opened c.args.pool.now c.open-i.new.pool shelf after c.args.p c.args.version i c.requires.backed c.open-i.ensures in
    held c.args.pool.now c.open-i.new.pool c.fill.new.pool shelf after source c.args.p c.args.version i is c.frame.ensures.apart c.requires.fits c.requires.version
    (c.fill.ensures ∙ ap (λ f. set c.open-i.new.pool f (Some (page_words source.memory c.args.p))) c.frame.ensures.frame)
