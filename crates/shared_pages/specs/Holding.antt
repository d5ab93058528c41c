-- How a page comes to be held: steps of the code.
use Rattle.std.specs.Prelude.{◌≡◌, ◌≢◌, ℕ, ◌<◌, true, IsTrue, List, [], ◌∷◌, ◌++◌, length, Option, Some, slice_set, ◌⊎◌}
use Rattle.cal_base.specs.Pages.{Paged, page_words}
use Rattle.frame_pool.specs.Pool.{Pool, TakesLowest, frame_at as words_in}
use Rattle.shared_pages.specs.declared.kept.Kept.{Kept}
use Rattle.shared_pages.specs.Kept.{page_at, version_at, frame_at}
use Rattle.shared_pages.specs.Shelf.{Shelved}
use Rattle.shared_pages.specs.Cached.{is_kept, is_same_version, Fits, IsBacked, KeepsFrames, KeepsPage}

-- the page is kept in this version at this place
pub record IsCurrent (kept : List Kept) (p : ℕ) (wanted : Option ℕ) (i : ℕ) : Type 0 where
  pub there : i < length kept
  pub page : page_at kept i ≡ p
  pub version : is_same_version (version_at kept i) wanted ≡ true
  pub found : IsTrue (is_kept kept p wanted)

-- page p takes a place that is there
pub record Reuses (pool later : Pool) (shelf after : Shelved) (p : ℕ) (version : Option ℕ) (i : ℕ) : Type 0 where
  pub place : i < length shelf.kept
  pub full : page_at shelf.kept i ≢ p → length shelf.kept ≡ shelf.size
  pub kept : after ≡ record shelf { kept = slice_set shelf.kept i (record { page = p; version = version; frame = frame_at shelf.kept i }) }
  pub same : later ≡ pool

-- page p takes a place more, with a free frame
pub record Grows (pool later : Pool) (shelf after : Shelved) (p : ℕ) (version : Option ℕ) (i : ℕ) : Type 0 where
  pub place : i ≡ length shelf.kept
  pub room : length shelf.kept < shelf.size
  pub frame : ℕ
  pub taken : TakesLowest pool later frame
  pub kept : after ≡ record shelf { kept = shelf.kept ++ record { page = p; version = version; frame = frame } ∷ [] }

-- a place is made for page p
abbrev pub Opens : Pool → Pool → Shelved → Shelved → ℕ → Option ℕ → ℕ → Type 0
Opens pool later shelf after p version i = Reuses pool later shelf after p version i ⊎ Grows pool later shelf after p version i

-- a place was made for page p, and its frame is out
pub record Opened (pool later : Pool) (shelf after : Shelved) (p : ℕ) (version : Option ℕ) (i : ℕ) : Type 0 where
  pub size : after.size ≡ shelf.size
  pub keeps : KeepsPage shelf.size shelf.kept after.kept p version i
  pub frames : KeepsFrames pool later shelf.kept after.kept
  pub backed : IsBacked later after.size after.kept
  pub old : (j : ℕ) → j < length after.kept → j ≢ i → j < length shelf.kept
  pub unmoved : (j : ℕ) → j < length shelf.kept → words_in later (frame_at shelf.kept j) ≡ words_in pool (frame_at shelf.kept j)

-- page p of the source is held at this place
pub record Holds (pool later : Pool) (shelf after : Shelved) (source : Paged) (p : ℕ) (version : Option ℕ) (place : ℕ) : Type 0 where
  pub size : after.size ≡ shelf.size
  pub keeps : KeepsPage shelf.size shelf.kept after.kept p version place
  pub words : words_in later (frame_at after.kept place) ≡ Some (page_words source.memory p)
  pub frames : KeepsFrames pool later shelf.kept after.kept
  pub backed : IsBacked later after.size after.kept
  pub fits : Fits later after.kept source
