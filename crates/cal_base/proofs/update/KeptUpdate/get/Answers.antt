use Rattle.std.proofs.Common.{ap, sym, ◌∙◌}
use Rattle.std.specs.FinMap.{get}
use Rattle.cal_base.proofs.Updates.{get-lookup}
use Rattle.cal_base.proofs.update.KeptUpdate.get.Goals as goal

pub returns : goal.returns
returns c =
    c.copied.ensures
    ∙ (c.get.ensures.value
    ∙ (sym (get-lookup c.args.a c.self.inside.words.entries)
    ∙ ap (λ u. get u c.args.a) c.self.view_is))
