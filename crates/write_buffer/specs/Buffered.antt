-- What a routine wrote and added, in frames of a pool.
use Rattle.std.specs.Prelude.{◌≡◌, ◌≢◌, ℕ, ◌+◌, ◌*◌, ◌/◌, ◌%◌, ◌<◌, ℤ, pos, ◌+ℤ◌, if◌then◌else◌, IsTrue, IsFalse, List, length, map, Option}
use Rattle.std.specs.Prelude.{Some, None, Result, Ok, Err, slice_index_or}
use Rattle.std.specs.List.{range_with_len}
use Rattle.std.specs.Option.{option_map_or, unwrap_or}
use Rattle.std.specs.FinMap.{get, insert}
use Rattle.cal_terms.specs.declared.kinds.WordKind.{WordKind}
use Rattle.cal_base.specs.declared.ends.Overflow.{Overflow}
use Rattle.cal_base.specs.Arithmetic.{fits_word}
use Rattle.cal_base.specs.Updates.{Written}
use Rattle.cal_base.specs.Entries.{own_from}
use Rattle.frame_pool.specs.Pool.{Pool, frame_at, free_count, IsOut}
use Rattle.write_buffer.specs.Bits.{is_marked}

-- the kinds of the words, the frame of each page, and a mask of each page
pub record Buffered : Type 0 where
  pub kinds : List WordKind
  pub frames : List ℕ
  pub masks : List ℕ

-- the frame of a page
abbrev pub frame_of : List ℕ → ℕ → ℕ
frame_of frames p = slice_index_or frames p 0

-- the word at this place of a frame
abbrev pub word_in : Pool → ℕ → ℕ → ℤ
word_in pool f place = option_map_or (λ words. slice_index_or words place (pos 0)) (frame_at pool f) (pos 0)

-- what was written or added to the word, if anything was: the word at its place of its page's frame, where it is marked
abbrev pub entry_at : Pool → Buffered → ℕ → Option ℤ
entry_at pool buffer a =
    if is_marked buffer.masks a then Some (word_in pool (frame_of buffer.frames (a / 64)) (a % 64)) else None

-- all that was written and added
unfoldable pub written_of : Pool → Buffered → Written
written_of pool buffer = own_from 0 (map (entry_at pool buffer) (range_with_len 0 (64 * length buffer.masks)))

-- the frame is none of these
abbrev pub IsForeign : List ℕ → ℕ → Type 0
IsForeign frames f = (p : ℕ) → p < length frames → frame_of frames p ≢ f

-- these frames are out of the pool
abbrev pub AreOut : Pool → List ℕ → Type 0
AreOut pool frames = (p : ℕ) → p < length frames → IsOut pool (frame_of frames p)

-- no two of them are one
abbrev pub AreApart : List ℕ → Type 0
AreApart frames = (p q : ℕ) → p < length frames → q < length frames → frame_of frames p ≡ frame_of frames q → p ≡ q

-- every frame but these stays as it is
abbrev pub KeepsOthers : Pool → Pool → List ℕ → Type 0
KeepsOthers pool later frames = (f : ℕ) → IsForeign frames f → frame_at later f ≡ frame_at pool f

-- these frames were free, and are taken; the others stay
pub record TakesFrames (pool later : Pool) (frames : List ℕ) : Type 0 where
  pub free : (p : ℕ) → p < length frames → frame_at pool (frame_of frames p) ≡ None
  pub out : AreOut later frames
  pub apart : AreApart frames
  pub others : KeepsOthers pool later frames
  pub count : free_count pool ≡ free_count later + length frames

-- these frames are free again; the others stay
pub record GivesFrames (pool later : Pool) (frames : List ℕ) : Type 0 where
  pub free : (p : ℕ) → p < length frames → frame_at later (frame_of frames p) ≡ None
  pub others : KeepsOthers pool later frames
  pub count : free_count later ≡ free_count pool + length frames

-- the buffer keeps its frames and kinds, and changes the words of its own frames alone
pub record ChangesOwn (pool later : Pool) (buffer after : Buffered) : Type 0 where
  pub kinds : after.kinds ≡ buffer.kinds
  pub frames : after.frames ≡ buffer.frames
  pub out : AreOut later buffer.frames
  pub others : KeepsOthers pool later buffer.frames
  pub count : free_count later ≡ free_count pool

-- the running sum of a word with this much more
abbrev pub sum_with : Written → ℕ → ℤ → ℤ
sum_with written a v = unwrap_or (get written a) (pos 0) +ℤ v

-- an adding to a running sum ended so: with the sum, or, where it is outside 64 bits, with nothing changed
abbrev pub AddsToSum : Written → ℕ → ℤ → Written → Result (Unit {0}) Overflow → Type 0
AddsToSum before a v after (Ok done) = IsTrue (fits_word (sum_with before a v)) × (after ≡ insert before a (sum_with before a v))
AddsToSum before a v after (Err met) = IsFalse (fits_word (sum_with before a v)) × (after ≡ before)
