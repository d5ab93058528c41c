use Rattle.std.proofs.Common.{◌≡◌, ℕ, ◌<◌, ◌≤◌, length}
use Rattle.event_world.specs.World.{freed}
use Rattle.event_engine.specs.Scenes.{modes_in}
use Rattle.event_engine.proofs.scene.free.Given as goal

-- the workers so far are free, and the others are at what they were
abbrev pub invariant-loop-who : goal.invariant-loop-who
invariant-loop-who l = record {
  count : length l.modes ≡ 32;
  done : (w : ℕ) → w < l.who → modes_in l.modes w ≡ freed (modes_in l.initial.modes w);
  rest : (w : ℕ) → l.who ≤ w → modes_in l.modes w ≡ modes_in l.initial.modes w;
}
