-- Lists of kept pages.
use Rattle.std.specs.Prelude.{◌≡◌, ◌≢◌, ℕ, ◌<◌, List, length, Option, None, slice_index_or}
use Rattle.shared_pages.specs.declared.kept.Kept.{Kept}

-- what stands for a page that is not there
abbrev pub no_page : Kept
no_page = record { page = 0; version = None; frame = 0 }

-- the page that is kept at this place
abbrev pub kept_at : List Kept → ℕ → Kept
kept_at kept i = slice_index_or kept i no_page

-- its number
abbrev pub page_at : List Kept → ℕ → ℕ
page_at kept i = (kept_at kept i).page

-- the version in which it is kept
abbrev pub version_at : List Kept → ℕ → Option ℕ
version_at kept i = (kept_at kept i).version

-- the frame in which it is kept
abbrev pub frame_at : List Kept → ℕ → ℕ
frame_at kept i = (kept_at kept i).frame

-- the page is not kept
abbrev pub IsAbsent : List Kept → ℕ → Type 0
IsAbsent kept p = (i : ℕ) → i < length kept → page_at kept i ≢ p

-- the page is kept at this place at most
abbrev pub MayStandAt : List Kept → ℕ → ℕ → Type 0
MayStandAt kept p i = (j : ℕ) → j < length kept → page_at kept j ≡ p → j ≡ i

-- the page is kept, and at this place alone
pub record IsOnlyPlace (kept : List Kept) (p i : ℕ) : Type 0 where
  pub there : i < length kept
  pub page : page_at kept i ≡ p
  pub only : MayStandAt kept p i

-- no page is kept in this frame
abbrev pub IsNewFrame : List Kept → ℕ → Type 0
IsNewFrame kept f = (i : ℕ) → i < length kept → frame_at kept i ≢ f

-- no two pages are kept in one frame
abbrev pub AreApart : List Kept → Type 0
AreApart kept = (i j : ℕ) → i < length kept → j < length kept → frame_at kept i ≡ frame_at kept j → i ≡ j
