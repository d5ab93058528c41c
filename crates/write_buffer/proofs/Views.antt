-- What a view reads and keeps.
use Rattle.std.proofs.Common.{◌≡◌, ℕ, ◌/◌, ◌%◌, ◌<◌, ◌≤◌, ℤ, pos, List, length, get_or, Option, None, Some, true, false, is_some, refl, sym, ap, ◌∙◌, arith, ⊎_elim}
use Rattle.std.specs.Option.{option_map_or}
use Rattle.std.proofs.lemmas.Bool.{cases_lt}
use Rattle.cal_terms.specs.declared.kinds.WordKind.{WordKind}
use Rattle.cal_base.specs.Memory.{Memory, kinds_of, kind_at}
use Rattle.cal_base.specs.Pages.{Paged}
use Rattle.cal_base.specs.Updates.{IsNextFrom}
use Rattle.frame_pool.specs.Pool.{Pool, frame_at as words_in}
use Rattle.shared_pages.specs.Kept.{frame_at, IsNewFrame}
use Rattle.shared_pages.specs.Cached.{Cached, Fits, IsBacked, KeepsFrames, Serves}
use Rattle.write_buffer.specs.Bits.{is_marked, IsNextMarked}
use Rattle.write_buffer.specs.Buffered.{Buffered, frame_of, word_in, written_of}
use Rattle.write_buffer.specs.Joined.{Joined, KeepsView}
use Rattle.write_buffer.specs.Keeping.{free_not_out}
use Rattle.write_buffer.proofs.Written.{get_written, entry_none, entry_some, same_written, page_of_marked, bool_is}
use Rattle.write_buffer.proofs.WordKinds.{kind_of_kinds}

-- ---- the next entry

pub next_is_none : (pool : Pool) (buffer now : Buffered) (from : ℕ) → buffer ≡ now → IsNextMarked buffer.masks from None → IsNextFrom (written_of pool now) from None
next_is_none pool buffer now from view none a later =
    get_written pool now a ∙ entry_none pool now a (ap (λ (b : Buffered). is_marked b.masks a) (sym view) ∙ none a later)

pub next_is_some : (pool : Pool) (buffer now : Buffered) (from a : ℕ) (v : ℤ) → buffer ≡ now → IsNextMarked buffer.masks from (Some a) → v ≡ word_in pool (frame_of now.frames (a / 64)) (a % 64)
    → IsNextFrom (written_of pool now) from (Some (a, v))
next_is_some pool buffer now from a v view next value = (
  next.0,
  get_written pool now a ∙ entry_some pool now a (ap (λ (b : Buffered). is_marked b.masks a) (sym view) ∙ next.1) ∙ ap (λ x. Some x) (sym value),
  λ q later before. get_written pool now q ∙ entry_none pool now q (ap (λ (b : Buffered). is_marked b.masks q) (sym view) ∙ next.2 q later before),
)

pub next_in_page : (buffer now : Buffered) (from a : ℕ) → buffer ≡ now → length buffer.frames ≡ length buffer.masks → IsNextMarked buffer.masks from (Some a) → a / 64 < length now.frames
next_in_page buffer now from a view same next =
    let size = ap (λ (b : Buffered). length b.frames) view in
    omega (arith, page_of_marked buffer.masks a next.1, same, size)

-- ---- a page is read

-- a frame of the buffer is none that the cache keeps afterwards
foreign_stays : (pool later : Pool) (cache after : Cached) (buffer : Buffered) (source : Paged) → Joined pool cache buffer source → KeepsFrames pool later cache.kept after.kept → (p : ℕ)
    → p < length buffer.frames → IsNewFrame after.kept (frame_of buffer.frames p)
foreign_stays pool later cache after buffer source joined keeps p there i low same =
    ⊎_elim
    (λ (early : i < length cache.kept). joined.apart p there i early (sym (keeps.same i early) ∙ same))
    (λ (late : length cache.kept ≤ i). free_not_out pool (frame_at after.kept i) (frame_of buffer.frames p) (keeps.taken i late low) (joined.own p there) same)
    (cases_lt i (length cache.kept))

frame_stays : (pool later : Pool) (cache after : Cached) (buffer : Buffered) (source : Paged) → Joined pool cache buffer source → KeepsFrames pool later cache.kept after.kept → (p : ℕ)
    → p < length buffer.frames → words_in later (frame_of buffer.frames p) ≡ words_in pool (frame_of buffer.frames p)
frame_stays pool later cache after buffer source joined keeps p there = keeps.others (frame_of buffer.frames p) (foreign_stays pool later cache after buffer source joined keeps p there)

pub written_stays : (pool later : Pool) (cache after : Cached) (buffer : Buffered) (source : Paged) → Joined pool cache buffer source → KeepsFrames pool later cache.kept after.kept
    → length buffer.masks ≡ length buffer.frames → written_of later buffer ≡ written_of pool buffer
written_stays pool later cache after buffer source joined keeps same =
    same_written pool later buffer buffer (λ a.
    ⊎_elim
    (λ (marked : is_marked buffer.masks a ≡ true).
    let there : a / 64 < length buffer.frames = omega (arith, page_of_marked buffer.masks a marked) in
    entry_some later buffer a marked
    ∙ ap (λ (o : Option (List ℤ)). Some (option_map_or (λ ws. get_or ws (a % 64) (pos 0)) o (pos 0))) (frame_stays pool later cache after buffer source joined keeps (a / 64) there)
    ∙ sym (entry_some pool buffer a marked))
    (λ (none : is_marked buffer.masks a ≡ false). entry_none later buffer a none ∙ sym (entry_none pool buffer a none))
    (bool_is (is_marked buffer.masks a)))

pub view_stays : (pool later : Pool) (cache after : Cached) (buffer : Buffered) (p : ℕ) (version : Option ℕ) → KeepsFrames pool later cache.kept after.kept → Serves cache after p version
    → KeepsView pool later cache after buffer buffer
view_stays pool later cache after buffer p version keeps serves = record {
  size = serves.size;
  kinds = refl;
  frames = refl;
  no_fewer = keeps.no_fewer;
  same = keeps.same;
  taken = keeps.taken;
  others = λ f new foreign. keeps.others f new;
}

pub joined_stays : (pool later : Pool) (cache after : Cached) (buffer : Buffered) (source : Paged) → Joined pool cache buffer source → KeepsFrames pool later cache.kept after.kept
    → Fits later after.kept source → IsBacked later after.size after.kept → Joined later after buffer source
joined_stays pool later cache after buffer source joined keeps fits backed = record {
  fits = fits;
  backed = backed;
  own = λ p there. ap (λ (o : Option (List ℤ)). is_some o) (frame_stays pool later cache after buffer source joined keeps p there) ∙ joined.own p there;
  apart = foreign_stays pool later cache after buffer source joined keeps;
  kinds = joined.kinds;
}

-- the kind of a word is the one that the buffer has
pub kind_joined : (kinds : List WordKind) (memory : Memory) (a : ℕ) (kind : WordKind) → kinds ≡ kinds_of memory → a < length memory → kind ≡ get_or kinds a kind → kind_at memory a ≡ kind
kind_joined kinds memory a kind same there is = sym (is ∙ ap (λ (l : List WordKind). get_or l a kind) same ∙ kind_of_kinds memory a kind there)
