-- Where a routine of a step stands.
use Rattle.std.specs.Prelude.{◌≡◌, ℕ, ◌+◌, ◌<◌, List, take, sum, Some, slice_get}
use Rattle.routine_executor.specs.declared.place.Place.{Place}

-- the place of number k: a block, its width, and a number below it, so that k is the sum of the widths before the block and this number
pub record IsPlace (widths : List ℕ) (k : ℕ) (place : Place) : Type 0 where
  pub block : slice_get widths place.block ≡ Some place.width
  pub within : place.id < place.width
  pub number : k ≡ sum (take place.block widths) + place.id
