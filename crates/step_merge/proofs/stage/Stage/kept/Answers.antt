use Rattle.std.proofs.Common.{◌≡◌, pos, SFits, get_or, rules, arith, ◌∙◌, ap, length}
use Rattle.std.specs.Int.{w128}
use Rattle.std.proofs.lemmas.Int.{to_z-of_z}
use Rattle.step_merge.proofs.Searching.{get_or_any}
use Rattle.step_merge.proofs.Sound.{high_bound, low_bound}
use Rattle.step_merge.proofs.stage.Stage.kept.Goals as goal

pub returns-clause-high : goal.returns-clause-high
returns-clause-high c =
    let fits : SFits w128 c.index.result.now = search rules in
    let at : c.index.result.now ≡ get_or c.self.inside.values.items c.args.a c.index.result.now = search rules in
    let value : c.index.result.now ≡ get_or c.self.inside.values.items c.args.a (pos 0) = at
    ∙ get_or_any c.self.inside.values.items c.args.a c.index.result.now (pos 0) (omega (arith, c.requires, ap (λ s. length s.kinds) c.self.view_is)) in
    rw (to_z-of_z w128 c.index.result.now fits) (rw value (high_bound _ c.args.a c.self.invariant))

pub returns-clause-low : goal.returns-clause-low
returns-clause-low c =
    let fits : SFits w128 c.index.result.now = search rules in
    let at : c.index.result.now ≡ get_or c.self.inside.values.items c.args.a c.index.result.now = search rules in
    let value : c.index.result.now ≡ get_or c.self.inside.values.items c.args.a (pos 0) = at
    ∙ get_or_any c.self.inside.values.items c.args.a c.index.result.now (pos 0) (omega (arith, c.requires, ap (λ s. length s.kinds) c.self.view_is)) in
    rw (to_z-of_z w128 c.index.result.now fits) (rw value (low_bound _ c.args.a c.self.invariant))
