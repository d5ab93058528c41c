-- The worlds in which main runs.
use Rattle.std.specs.Prelude.{◌+◌, ◌≤◌, ◌^◌, ◌<◌, length}
use Rattle.cal_base.specs.Stores.{memory_in}
use Rattle.csl_meaning.specs.declared.state.World.{World}
use Rattle.cal_terms.specs.declared.limits.TheConstants.{MOST_WORDS}

-- there are at most 262,144 words, and steps and fuel fit 32 bits together
pub record IsMain (w : World) : Type 0 where
  pub words : length (memory_in w.store) ≤ MOST_WORDS
  pub steps : w.steps + w.fuel < 2 ^ 32

-- main goes on in such a world, with no more fuel than before
pub record GoesOn (before now : World) : Type 0 where
  pub main : IsMain now
  pub fuel : now.fuel ≤ before.fuel
