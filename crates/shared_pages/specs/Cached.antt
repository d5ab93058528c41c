-- Pages that are kept of a memory that changes in versions.
use Rattle.std.specs.Prelude.{◌≡◌, ◌≢◌, ℕ, ◌+◌, ◌<◌, ◌≤◌, ◌&&◌, ◌==◌, Bool, false, if◌then◌else◌, IsTrue, List, length, Option, Some, None}
use Rattle.std.specs.List.{list_any}
use Rattle.cal_base.specs.Causes.{next_number}
use Rattle.cal_base.specs.Pages.{Paged, page_words, version_of, IsLater}
use Rattle.frame_pool.specs.Pool.{Pool, free_count, IsOut, frame_at as words_in}
use Rattle.shared_pages.specs.declared.kept.Kept.{Kept}
use Rattle.shared_pages.specs.Kept.{kept_at, page_at, version_at, frame_at, IsNewFrame}

-- how many frames a cache may keep, the pages that it keeps, and how many it has fetched
pub record Cached : Type 0 where
  pub size : ℕ
  pub kept : List Kept
  pub fetched : ℕ

-- are these one version? No version is never the same as another
abbrev pub is_same_version : Option ℕ → Option ℕ → Bool
is_same_version None other = false
is_same_version (Some v) None = false
is_same_version (Some v) (Some u) = v == u

-- is the page kept in this version?
abbrev pub is_kept : List Kept → ℕ → Option ℕ → Bool
is_kept kept p version = list_any (λ k. (k.page == p) && is_same_version k.version version) kept

-- where a kept page had version v and has version u now, that is no earlier one, and where it is the same the frame has the page's words
pub record FitsPage (pool : Pool) (page : Kept) (source : Paged) (v u : ℕ) : Type 0 where
  pub no_later : v ≤ u
  pub same : v ≡ u → words_in pool page.frame ≡ Some (page_words source.memory page.page)

-- each kept page fits the source
abbrev pub Fits : Pool → List Kept → Paged → Type 0
Fits pool kept source =
    (i v u : ℕ) → i < length kept → version_at kept i ≡ Some v → version_of source (page_at kept i) ≡ Some u
    → FitsPage pool (kept_at kept i) source v u

-- the frames of the kept pages are out of the pool
abbrev pub AreOut : Pool → List Kept → Type 0
AreOut pool kept = (i : ℕ) → i < length kept → IsOut pool (frame_at kept i)

-- the frames of the kept pages are out of the pool, which has as many frames free as may still be taken
pub record IsBacked (pool : Pool) (size : ℕ) (kept : List Kept) : Type 0 where
  pub out : AreOut pool kept
  pub room : size ≤ length kept + free_count pool

-- the frames that were kept are, and free ones may have been taken; every frame that is not kept stays as it is
pub record KeepsFrames (pool later : Pool) (kept after : List Kept) : Type 0 where
  pub no_fewer : length kept ≤ length after
  pub same : (i : ℕ) → i < length kept → frame_at after i ≡ frame_at kept i
  pub taken : (i : ℕ) → length kept ≤ i → i < length after → words_in pool (frame_at after i) ≡ None
  pub others : (f : ℕ) → IsNewFrame after f → words_in later f ≡ words_in pool f

-- page p is kept in the wanted version afterwards, at this place; another one is dropped only where as many are kept as there is room for
pub record KeepsPage (size : ℕ) (kept after : List Kept) (p : ℕ) (wanted : Option ℕ) (place : ℕ) : Type 0 where
  pub there : place < length after
  pub page : page_at after place ≡ p
  pub version : version_at after place ≡ wanted
  pub more : length after ≤ length kept + 1
  pub others : (i : ℕ) → i < length kept → i ≢ place → kept_at after i ≡ kept_at kept i
  pub dropped : place < length kept → page_at kept place ≢ p → length kept ≡ size

-- how many pages were fetched, after this one was asked for
abbrev pub fetched_after : Cached → ℕ → Option ℕ → ℕ
fetched_after cache p version = if is_kept cache.kept p version then cache.fetched else next_number cache.fetched

-- page p of this version was asked for: it is kept, at some place, and was fetched where it was not kept in this version
pub record Serves (cache after : Cached) (p : ℕ) (version : Option ℕ) : Type 0 where
  pub size : after.size ≡ cache.size
  pub fetched : after.fetched ≡ fetched_after cache p version
  pub stays : IsTrue (is_kept cache.kept p version) → after.kept ≡ cache.kept
  pub place : ℕ
  pub keeps : KeepsPage cache.size cache.kept after.kept p version place

-- the frames of the kept pages are free again, and every other one stays as it is
pub record GivesBack (pool later : Pool) (kept : List Kept) : Type 0 where
  pub free : (i : ℕ) → i < length kept → words_in later (frame_at kept i) ≡ None
  pub others : (f : ℕ) → IsNewFrame kept f → words_in later f ≡ words_in pool f
  pub count : free_count later ≡ free_count pool + length kept

-- what fits a source fits a later one
abbrev pub LaterFits : Type 0
LaterFits = (pool : Pool) (kept : List Kept) (first second : Paged) → Fits pool kept first → IsLater first second → Fits pool kept second
