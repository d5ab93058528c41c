-- Bits of a list of masks.
use Rattle.std.specs.Prelude.{◌≡◌, ℕ, ◌*◌, ◌/◌, ◌%◌, ◌^◌, ◌<◌, ◌≤◌, ◌==◌, Bool, true, false, List, Option, Some, None, bit_or}
use Rattle.std.specs.Prelude.{slice_index_or, slice_set}
use Rattle.std.specs.Int.{bit_at}

-- the mask of a page, and 0 where there is none
abbrev pub mask_of : List ℕ → ℕ → ℕ
mask_of masks p = slice_index_or masks p 0

-- is the word marked? Its bit of its page's mask is set
unfoldable pub is_marked : List ℕ → ℕ → Bool
is_marked masks a = bit_at (mask_of masks (a / 64)) (a % 64) == 1

-- the masks with one word more that is marked
unfoldable pub with_mark : List ℕ → ℕ → List ℕ
with_mark masks a = slice_set masks (a / 64) (bit_or (mask_of masks (a / 64)) (1 * 2 ^ (a % 64) % 2 ^ 64))

-- the lowest bit that is set
pub record IsLowest (mask bit : ℕ) : Type 0 where
  pub within : bit < 64
  pub set : bit_at mask bit ≡ 1
  pub below : (i : ℕ) → i < bit → bit_at mask i ≡ 0

-- the lowest bit from this one on that is set, if one is
abbrev pub IsNextBit : ℕ → ℕ → Option ℕ → Type 0
IsNextBit mask from None = (i : ℕ) → from ≤ i → bit_at mask i ≡ 0
IsNextBit mask from (Some bit) = (from ≤ bit) × (bit < 64) × (bit_at mask bit ≡ 1) × ((i : ℕ) → from ≤ i → i < bit → bit_at mask i ≡ 0)

-- the first marked word from this one on, if one is
abbrev pub IsNextMarked : List ℕ → ℕ → Option ℕ → Type 0
IsNextMarked masks from None = (a : ℕ) → from ≤ a → is_marked masks a ≡ false
IsNextMarked masks from (Some next) =
    (from ≤ next) × (is_marked masks next ≡ true) × ((a : ℕ) → from ≤ a → a < next → is_marked masks a ≡ false)
