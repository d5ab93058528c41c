-- How the kept pages are held: steps of the code.
use Rattle.std.specs.Prelude.{◌≡◌, ℕ, ◌<◌, ◌≤◌, Bool, List, length, Option, Some, None, slice_index_or}
use Rattle.shared_pages.specs.declared.kept.Kept.{Kept}
use Rattle.shared_pages.specs.Kept.{page_at, AreApart}

-- for how many pages there is room, and those that are kept
pub record Shelved : Type 0 where
  pub size : ℕ
  pub kept : List Kept

-- the place that is noted for a page, if any is
abbrev pub place_of : List (Option ℕ) → ℕ → Option ℕ
place_of places p = slice_index_or places p None

-- the table of places tells just where each page is kept, and there is room for all
pub record IsShelf (kept : List Kept) (marks : List Bool) (places : List (Option ℕ)) (hand capacity : ℕ) : Type 0 where
  pub least : 2 ≤ length marks
  pub most : length marks ≤ 4096
  pub few : length kept ≤ length marks
  pub room : length marks ≤ capacity
  pub pages : length places ≡ 4096
  pub hand_within : hand < length marks
  pub noted : (i : ℕ) → i < length kept → place_of places (page_at kept i) ≡ Some i
  pub within : (p i : ℕ) → place_of places p ≡ Some i → i < length kept
  pub kept_there : (p i : ℕ) → place_of places p ≡ Some i → page_at kept i ≡ p
  pub apart : AreApart kept
