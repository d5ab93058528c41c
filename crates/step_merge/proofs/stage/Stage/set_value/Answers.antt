use Rattle.std.proofs.Common.{SFits, set, sym, subst, rules}
use Rattle.std.specs.Int.{w128}
use Rattle.std.proofs.lemmas.Int.{to_z-of_z}
use Rattle.step_merge.specs.Steps.{IsSound}
use Rattle.step_merge.proofs.Sound.{sound_value}
use Rattle.step_merge.proofs.stage.Stage.set_value.Goals as goal

pub invariant_of-self : goal.invariant_of-self
invariant_of-self c =
    let fits : SFits w128 c.args.v = search rules in
    rw (to_z-of_z w128 c.args.v fits)
    (subst (λ s. IsSound (record s { values = set s.values c.args.a c.args.v })) (sym c.self.view_is)
    (sound_value c.args.self.now c.args.a c.args.v (subst IsSound c.self.view_is c.self.invariant) c.requires.word c.requires.ordinary c.requires.high c.requires.low))
