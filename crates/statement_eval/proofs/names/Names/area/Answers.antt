use Rattle.std.proofs.Common.{sym, ap, ◌∙◌}
use Rattle.std.specs.Option.{option_copied}
use Rattle.csl_meaning.specs.Layout.{area_of}
use Rattle.csl_meaning.specs.Value.{declared}
use Rattle.statement_eval.specs.Areas.{area_among}
use Rattle.statement_eval.proofs.AreaLemmas.{within}
use Rattle.statement_eval.proofs.names.Names.area.Goals as goal

pub returns-in-Some : goal.returns-in-Some
returns-in-Some c =
    let area_is =
    ap (λ r. declared (option_copied r)) (sym c.in-Some.is)
    ∙ ap declared (c.get.ensures.value
    ∙ ap (area_among c.self.inside.areas) c.as_slice.ensures
    ∙ c.self.invariant c.args.name.now
    ∙ ap (λ p. area_of p.shared c.args.name.now) c.self.view_is) in
    record { area = area_is; within = within c.args.self.now.shared c.args.name.now _ c.requires area_is }

pub returns-in-None : goal.returns-in-None
returns-in-None c =
    let area_is =
    ap (λ r. declared (option_copied r)) (sym c.in-None.is)
    ∙ ap declared (c.get.ensures.value
    ∙ ap (area_among c.self.inside.areas) c.as_slice.ensures
    ∙ c.self.invariant c.args.name.now
    ∙ ap (λ p. area_of p.shared c.args.name.now) c.self.view_is) in
    record { area = area_is; within = within c.args.self.now.shared c.args.name.now _ c.requires area_is }
