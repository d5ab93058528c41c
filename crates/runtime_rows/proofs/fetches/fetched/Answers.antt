use Rattle.std.proofs.Common.{◌≤◌, List, sym, ap, ◌∙◌, subst, arith}
use Rattle.std.specs.List.{AllByRecursion}
use Rattle.event_world.specs.World.{Delivery, freed}
use Rattle.event_engine.proofs.Scenes.{first_modes}
use Rattle.runtime_rows.proofs.fetches.fetched.Goals as goal

pub play_step-played-requires-clause-scene : goal.play_step-played-requires-clause-scene
play_step-played-requires-clause-scene c = record {
  within = omega arith;
  free = λ who. ap freed (first_modes who) ∙ sym (first_modes who);
  older = subst (λ (ds : List Delivery). AllByRecursion (λ (d : Delivery). d.step ≤ 0) ds) (sym c.new.ensures.items) tt;
}
