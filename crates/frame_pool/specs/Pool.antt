-- Frames of 64 words each, out or free.
use Rattle.std.specs.Prelude.{◌≡◌, ◌≢◌, ℕ, zero, suc, ◌+◌, ◌<◌, ℤ, List, [], ◌∷◌, Option, Some, None, IsSome, length, slice_index_or}

-- for each frame its words, where it is out, and nothing where it is free
abbrev pub Pool : Type 0
Pool = List (Option (List ℤ))

-- the words of the frame, if it is out
abbrev pub frame_at : Pool → ℕ → Option (List ℤ)
frame_at pool f = slice_index_or pool f None

-- the frame is out
abbrev pub IsOut : Pool → ℕ → Type 0
IsOut pool f = IsSome (frame_at pool f)

-- how many frames are free
unfoldable pub free_count : Pool → ℕ
free_count [] = zero
free_count (None ∷ pool) = suc (free_count pool)
free_count (Some words ∷ pool) = free_count pool

-- all frames are out
abbrev pub NoneIsFree : Pool → Type 0
NoneIsFree pool = (q : ℕ) → q < length pool → IsOut pool q

-- the lowest free frame is taken: now it is out, with some words, and the others stay as they are
pub record TakesLowest (before after : Pool) (f : ℕ) : Type 0 where
  pub there : f < length before
  pub free : frame_at before f ≡ None
  pub lowest : (q : ℕ) → q < f → IsOut before q
  pub out : IsOut after f
  pub others : (q : ℕ) → q ≢ f → frame_at after q ≡ frame_at before q
  pub frames : length after ≡ length before
  pub count : free_count before ≡ free_count after + 1
