-- How the masks are held: steps of the code.
use Rattle.std.specs.Prelude.{◌≡◌, ◌≢◌, ℕ, zero, suc, ◌*◌, ◌<◌, ◌≤◌, ◌==◌, nat_lt, IsTrue, List, [], ◌∷◌, length, slice_index_or}
use Rattle.std.specs.List.{list_any}
use Rattle.write_buffer.specs.Bits.{mask_of, is_marked}

-- the page is in the list
abbrev pub IsListedIn : List ℕ → ℕ → Type 0
IsListedIn pages p = IsTrue (list_any (λ q. q == p) pages)

-- how many pages have a mark
unfoldable pub touched_count : List ℕ → ℕ
touched_count [] = zero
touched_count (zero ∷ masks) = touched_count masks
touched_count (suc mask ∷ masks) = suc (touched_count masks)

-- a bit tells of each page whether it has a mark, and just the pages with one are listed, with room for all
pub record IsMarks (masks pages touched : List ℕ) (capacity : ℕ) : Type 0 where
  pub limit : length masks ≤ 4096
  pub enough : length masks ≤ 64 * length pages
  pub few : length pages ≤ 64
  pub room : length masks ≤ capacity
  pub told : (p : ℕ) → is_marked pages p ≡ nat_lt 0 (mask_of masks p)
  pub counted : length touched ≡ touched_count masks
  pub listed : (p : ℕ) → mask_of masks p ≢ 0 → IsListedIn touched p
  pub small : (i : ℕ) → i < length touched → slice_index_or touched i 0 < length masks
