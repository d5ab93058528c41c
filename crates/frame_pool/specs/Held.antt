-- How a pool keeps its frames: steps of the code.
use Rattle.std.specs.Prelude.{◌≡◌, ℕ, ◌<◌, ◌≤◌, ℤ, Bool, true, false, List, [], ◌∷◌, Some, None, length, slice_index_or}
use Rattle.frame_pool.specs.Pool.{Pool}

-- the words of the frames that are out
abbrev pub held : List Bool → List (List ℤ) → Pool
held [] frames = []
held (out ∷ more) [] = []
held (true ∷ more) (words ∷ frames) = Some words ∷ held more frames
held (false ∷ more) (words ∷ frames) = None ∷ held more frames

-- there is a flag for each frame, and every frame below this one is out
pub record IsHeld (out : List Bool) (frames : List (List ℤ)) (from : ℕ) : Type 0 where
  pub flags : length out ≡ length frames
  pub limit : length out ≤ 8192
  pub within : from ≤ length out
  pub below : (q : ℕ) → q < from → slice_index_or out q false ≡ true

-- the first flag from this place on that is not set
pub record IsFirstFree (out : List Bool) (from f : ℕ) : Type 0 where
  pub later : from ≤ f
  pub within : f ≤ length out
  pub between : (q : ℕ) → from ≤ q → q < f → slice_index_or out q false ≡ true
  pub free : f < length out → slice_index_or out f false ≡ false
