-- The map that a buffer stands for.
use Rattle.std.proofs.Common.{◌≡◌, ◌≢◌, ℕ, ◌*◌, ◌/◌, ◌%◌, ◌<◌, ◌≤◌, ℤ, pos, Bool, true, false, List, length, replicate, map, get_or, set, Option, Some, None, refl, sym, ap, ◌∙◌, subst, arith, ⊎_elim}
use Rattle.std.proofs.Common.{◌⊎◌, inl, inr, is_some}
use Rattle.std.specs.List.{range_with_len}
use Rattle.std.specs.Option.{option_map_or}
use Rattle.std.specs.FinMap.{get, insert, empty, get-empty, same_map, nat_cmp-IsAntisymmetric}
use Rattle.std.specs.Cmp.{nat_cmp_total}
use Rattle.std.specs.Ordering.{nat_cmp}
use Rattle.std.proofs.lemmas.Bool.{cases_eq, cases_lt}
use Rattle.std.proofs.lemmas.List.{get_or-set_same, get_or-set_other}
use Rattle.std.proofs.lemmas.List.FromFn.{get_or-map-range_with_len, length-map-range_with_len}
use Rattle.cal_terms.specs.declared.kinds.WordKind.{WordKind}
use Rattle.cal_base.specs.Updates.{IsBelow}
use Rattle.cal_base.proofs.Entries.{get_own, own_past}
use Rattle.cal_base.proofs.Updates.{get_put, get_put_other}
use Rattle.frame_pool.specs.Pool.{Pool, frame_at, IsOut}
use Rattle.frame_pool.proofs.Frames.{out_within, out_written, free_count-written}
use Rattle.write_buffer.specs.Bits.{is_marked, with_mark}
use Rattle.write_buffer.specs.Buffered.{Buffered, frame_of, word_in, entry_at, written_of, AreOut, ChangesOwn}
use Rattle.write_buffer.specs.Held.{IsBuffer}
use Rattle.write_buffer.proofs.Masks.{length-with_mark, marked_same, marked_other, unmarked_past}
use Rattle.write_buffer.proofs.Touched.{unmarked_all}

pub entry_none : (pool : Pool) (buffer : Buffered) (a : ℕ) → is_marked buffer.masks a ≡ false → entry_at pool buffer a ≡ None
entry_none pool buffer a none = rw none refl

pub entry_some : (pool : Pool) (buffer : Buffered) (a : ℕ) → is_marked buffer.masks a ≡ true → entry_at pool buffer a ≡ Some (word_in pool (frame_of buffer.frames (a / 64)) (a % 64))
entry_some pool buffer a some = rw some refl

-- the map has just the entries
pub get_written : (pool : Pool) (buffer : Buffered) (a : ℕ) → get (written_of pool buffer) a ≡ entry_at pool buffer a
unfolding written_of
get_written pool buffer a =
    let n : ℕ = 64 * length buffer.masks in
    let size = length-map-range_with_len (entry_at pool buffer) 0 n in
    ⊎_elim
    (λ (low : a < n). get_own (map (entry_at pool buffer) (range_with_len 0 n)) a ∙ get_or-map-range_with_len (entry_at pool buffer) 0 n a a None low (omega arith))
    (λ (high : n ≤ a).
    own_past (map (entry_at pool buffer) (range_with_len 0 n)) a (omega arith)
    ∙ sym (entry_none pool buffer a (unmarked_past buffer.masks a (omega arith))))
    (cases_lt a n)

pub same_written : (pool later : Pool) (buffer after : Buffered) → ((a : ℕ) → entry_at later after a ≡ entry_at pool buffer a) → written_of later after ≡ written_of pool buffer
same_written pool later buffer after same =
    same_map nat_cmp_total nat_cmp-IsAntisymmetric _ _ (λ a. get_written later after a ∙ same a ∙ sym (get_written pool buffer a))

pub written_none : (pool : Pool) (buffer : Buffered) (n : ℕ) → buffer.masks ≡ replicate n 0 → written_of pool buffer ≡ empty
written_none pool buffer n none =
    same_map nat_cmp_total nat_cmp-IsAntisymmetric _ _
    (λ a. get_written pool buffer a ∙ entry_none pool buffer a (ap (λ (l : List ℕ). is_marked l a) none ∙ unmarked_all n a) ∙ sym (get-empty nat_cmp a))

pub written_put : (pool later : Pool) (buffer after : Buffered) (a : ℕ) (v : ℤ) → entry_at later after a ≡ Some v → ((q : ℕ) → q ≢ a → entry_at later after q ≡ entry_at pool buffer q)
    → written_of later after ≡ insert (written_of pool buffer) a v
written_put pool later buffer after a v here others =
    same_map nat_cmp_total nat_cmp-IsAntisymmetric _ _ (λ q.
    get_written later after q
    ∙ ⊎_elim
    (λ (e : q ≡ a). ap (λ x. entry_at later after x) e ∙ here ∙ sym (get_put (written_of pool buffer) a v) ∙ ap (λ x. get (insert (written_of pool buffer) a v) x) (sym e))
    (λ (apart : q ≢ a). others q apart ∙ sym (get_written pool buffer q) ∙ sym (get_put_other (written_of pool buffer) a v q apart))
    (cases_eq q a))

-- no entry lies past the pages
pub written_below : (pool : Pool) (buffer : Buffered) (bound : ℕ) → 64 * length buffer.masks ≤ bound → IsBelow bound (written_of pool buffer)
written_below pool buffer bound high a past = get_written pool buffer a ∙ entry_none pool buffer a (unmarked_past buffer.masks a (omega arith))

-- a frame with other words
word_of_frame : (pool : Pool) (f place : ℕ) (words : List ℤ) → frame_at pool f ≡ Some words → word_in pool f place ≡ get_or words place (pos 0)
word_of_frame pool f place words is = rw is refl

-- a marked word is in a page
pub page_of_marked : (masks : List ℕ) (a : ℕ) → is_marked masks a ≡ true → a / 64 < length masks
page_of_marked masks a is = ⊎_elim (λ (low : a / 64 < length masks). low) (λ (high : length masks ≤ a / 64). let none = unmarked_past masks a high in cc) (cases_lt (a / 64) (length masks))

pub bool_is : (b : Bool) → (b ≡ true) ⊎ (b ≡ false)
bool_is true = inl refl
bool_is false = inr refl

-- the buffer that was seen as this one has one entry more, or another there, and nothing else changed
abbrev pub Puts : Pool → Buffered → Buffered → ℕ → ℕ → List ℤ → ℤ → Type 0
Puts pool buffer now f a new v =
    (written_of (set pool f (Some new)) (record buffer { masks = with_mark buffer.masks a }) ≡ insert (written_of pool now) a v)
    × ChangesOwn pool (set pool f (Some new)) now (record buffer { masks = with_mark buffer.masks a })

put_here : (pool : Pool) (buffer : Buffered) (f a : ℕ) (words new : List ℤ) (v : ℤ) → IsBuffer buffer.kinds buffer.frames buffer.masks → AreOut pool buffer.frames → a < length buffer.kinds
    → f ≡ frame_of buffer.frames (a / 64) → frame_at pool f ≡ Some words → length words ≡ 64 → new ≡ set words (a % 64) v
    → Puts pool buffer buffer f a new v
put_here pool buffer f a words new v is own range frame read size made =
    let later : Pool = set pool f (Some new) in
    let after : Buffered = record buffer { masks = with_mark buffer.masks a } in
    let p : ℕ = a / 64 in
    let in_masks : p < length buffer.masks = omega (arith, is.pages, is.limit) in
    let in_frames : p < length buffer.frames = omega (arith, is.same) in
    let out : IsOut pool f = ap (λ x. is_some (frame_at pool x)) frame ∙ own p in_frames in
    let now : frame_at later f ≡ Some new = get_or-set_same pool f (Some new) None (out_within pool f out) in
    let others : (g : ℕ) → g ≢ f → frame_at later g ≡ frame_at pool g = λ g apart. get_or-set_other pool f g (Some new) None apart in
    let here : entry_at later after a ≡ Some v =
    entry_some later after a (marked_same buffer.masks a in_masks)
    ∙ ap (λ x. Some x)
    (ap (λ g. word_in later g (a % 64)) (sym frame) ∙ word_of_frame later f (a % 64) new now ∙ ap (λ (ws : List ℤ). get_or ws (a % 64) (pos 0)) made
    ∙ get_or-set_same words (a % 64) v (pos 0) (omega (arith, size)))
    in
    let word_kept : (q : ℕ) → q ≢ a → is_marked buffer.masks q ≡ true → word_in later (frame_of buffer.frames (q / 64)) (q % 64) ≡ word_in pool (frame_of buffer.frames (q / 64)) (q % 64) =
    λ q apart marked.
    ⊎_elim
    (λ (page : q / 64 ≡ p).
    let same : frame_of buffer.frames (q / 64) ≡ f = ap (λ x. frame_of buffer.frames x) page ∙ sym frame in
    ap (λ g. word_in later g (q % 64)) same
    ∙ word_of_frame later f (q % 64) new now ∙ ap (λ (ws : List ℤ). get_or ws (q % 64) (pos 0)) made
    ∙ get_or-set_other words (a % 64) (q % 64) v (pos 0) (λ e. apart (omega arith))
    ∙ sym (word_of_frame pool f (q % 64) words read)
    ∙ ap (λ g. word_in pool g (q % 64)) (sym same))
    (λ (page : q / 64 ≢ p).
    let there : q / 64 < length buffer.frames = omega (arith, page_of_marked buffer.masks q marked, is.same) in
    let other : frame_of buffer.frames (q / 64) ≢ f = λ e. page (is.apart (q / 64) p there in_frames (e ∙ frame)) in
    ap (λ (o : Option (List ℤ)). option_map_or (λ ws. get_or ws (q % 64) (pos 0)) o (pos 0)) (others (frame_of buffer.frames (q / 64)) other))
    (cases_eq (q / 64) p)
    in
    let kept : (q : ℕ) → q ≢ a → entry_at later after q ≡ entry_at pool buffer q =
    λ q apart.
    let same = marked_other buffer.masks a q in_masks apart in
    ⊎_elim
    (λ (marked : is_marked buffer.masks q ≡ true).
    entry_some later after q (same ∙ marked) ∙ ap (λ x. Some x) (word_kept q apart marked) ∙ sym (entry_some pool buffer q marked))
    (λ (none : is_marked buffer.masks q ≡ false). entry_none later after q (same ∙ none) ∙ sym (entry_none pool buffer q none))
    (bool_is (is_marked buffer.masks q))
    in (
      written_put pool later buffer after a v here kept,
      record {
        kinds = refl;
        frames = refl;
        out = λ x there. out_written pool (frame_of buffer.frames x) f new (own x there);
        others = λ g foreign. others g (λ e. foreign p in_frames (sym frame ∙ sym e));
        count = free_count-written pool f new out;
      },
    )

-- an entry is put: its word is written, and marked
pub put_in : (pool : Pool) (buffer now : Buffered) (f a : ℕ) (words new : List ℤ) (v : ℤ) → buffer ≡ now → IsBuffer buffer.kinds buffer.frames buffer.masks → AreOut pool now.frames
    → a < length now.kinds → f ≡ frame_of buffer.frames (a / 64) → frame_at pool f ≡ Some words → length words ≡ 64 → new ≡ set words (a % 64) v
    → Puts pool buffer now f a new v
put_in pool buffer now f a words new v view is own range frame read size made =
    subst (λ (n : Buffered). Puts pool buffer n f a new v) view
    (put_here pool buffer f a words new v is (subst (λ (n : Buffered). AreOut pool n.frames) (sym view) own) (let e = ap (λ (n : Buffered). length n.kinds) view in omega arith) frame read size made)

pub buffer_marked : (kinds : List WordKind) (frames masks : List ℕ) (a : ℕ) → IsBuffer kinds frames masks → IsBuffer kinds frames (with_mark masks a)
buffer_marked kinds frames masks a is = let size = length-with_mark masks a in record { limit = is.limit; pages = size ∙ is.pages; same = is.same ∙ sym size; apart = is.apart }
