-- The pages that were touched.
use Rattle.std.proofs.Common.{◌≡◌, ◌≢◌, ℕ, zero, suc, ◌+◌, ◌*◌, ◌/◌, ◌<◌, ◌≤◌, Bool, true, false, ◌||◌, nat_lt, List, [], ◌∷◌, ◌++◌, length, replicate, get_or, set, Some, None, refl, sym, ap, ◌∙◌}
use Rattle.std.proofs.Common.{subst, arith, ⊎_elim}
use Rattle.std.proofs.lemmas.Bool.{cases_eq, cases_lt, eq-eqb, ne_eqb, lt-ltb, ltb-true, ltb-false}
use Rattle.std.proofs.lemmas.List.{get_or-set_same, get_or-set_other, length-set, length-append, length-replicate, get_or_append_left, get_or_at, get_or_default, ext_get_or}
use Rattle.write_buffer.specs.Bits.{mask_of, is_marked, with_mark, IsLowest, IsNextMarked}
use Rattle.write_buffer.specs.Marks.{IsMarks, IsListedIn, touched_count}
use Rattle.write_buffer.proofs.Masks.{length-with_mark, mask_other, mask_some, marked_same, marked_other, unmarked_page, marked_cleared, next_later}

count_more : (masks : List ℕ) (p m : ℕ) → p < length masks → mask_of masks p ≡ 0 → m ≢ 0 → touched_count (set masks p m) ≡ touched_count masks + 1
unfolding touched_count
count_more [] p m there none some = absurd (omega arith)
count_more (zero ∷ masks) zero zero there none some = absurd (some refl)
count_more (zero ∷ masks) zero (suc m) there none some = omega arith
count_more (suc k ∷ masks) zero m there none some = absurd (omega arith)
count_more (zero ∷ masks) (suc p) m there none some = count_more masks p m (omega arith) none some
count_more (suc k ∷ masks) (suc p) m there none some = let more = count_more masks p m (omega arith) none some in omega arith

count_same : (masks : List ℕ) (p m : ℕ) → mask_of masks p ≢ 0 → m ≢ 0 → touched_count (set masks p m) ≡ touched_count masks
unfolding touched_count
count_same [] p m was some = refl
count_same (zero ∷ masks) zero m was some = absurd (was refl)
count_same (suc k ∷ masks) zero zero was some = absurd (some refl)
count_same (suc k ∷ masks) zero (suc m) was some = refl
count_same (zero ∷ masks) (suc p) m was some = count_same masks p m was some
count_same (suc k ∷ masks) (suc p) m was some = ap suc (count_same masks p m was some)

count_most : (masks : List ℕ) → touched_count masks ≤ length masks
unfolding touched_count
count_most [] = omega arith
count_most (zero ∷ masks) = let more = count_most masks in omega arith
count_most (suc m ∷ masks) = let more = count_most masks in omega arith

count_room : (masks : List ℕ) (p : ℕ) → p < length masks → mask_of masks p ≡ 0 → touched_count masks < length masks
unfolding touched_count
count_room [] p there none = absurd (omega arith)
count_room (zero ∷ masks) zero there none = let more = count_most masks in omega arith
count_room (suc m ∷ masks) zero there none = absurd (omega arith)
count_room (zero ∷ masks) (suc p) there none = let more = count_room masks p (omega arith) none in omega arith
count_room (suc m ∷ masks) (suc p) there none = let more = count_room masks p (omega arith) none in omega arith

count_none : (n : ℕ) → touched_count (replicate n 0) ≡ 0
unfolding touched_count
count_none zero = refl
count_none (suc n) = count_none n

-- ---- lists of pages

or_right : (b : Bool) → (b || true) ≡ true
or_right true = refl
or_right false = refl

listed_last : (pages : List ℕ) (p : ℕ) → IsListedIn (pages ++ p ∷ []) p
listed_last [] p = let same = eq-eqb p p refl in rw same refl
listed_last (q ∷ pages) p = let more = listed_last pages p in rw more (or_right _)

listed_before : (pages : List ℕ) (q p : ℕ) → IsListedIn pages p → IsListedIn (pages ++ q ∷ []) p
listed_before [] q p is = cc
listed_before (x ∷ pages) q p is =
    ⊎_elim
    (λ (e : x ≡ p). let same = eq-eqb x p e in rw same refl)
    (λ (apart : x ≢ p). let other = ne_eqb x p apart in let rest : IsListedIn pages p = rw other at is in rw other (listed_before pages q p rest))
    (cases_eq x p)

listed_other : (pages : List ℕ) (q p : ℕ) → p ≢ q → IsListedIn (pages ++ q ∷ []) p → IsListedIn pages p
listed_other [] q p apart is = let other = ne_eqb q p (λ e. apart (sym e)) in let none : false ≡ true = rw other at is in cc
listed_other (x ∷ pages) q p apart is =
    ⊎_elim
    (λ (e : x ≡ p). let same = eq-eqb x p e in rw same refl)
    (λ (other_page : x ≢ p). let other = ne_eqb x p other_page in let rest : IsListedIn (pages ++ q ∷ []) p = rw other at is in rw other (listed_other pages q p apart rest))
    (cases_eq x p)

-- whether a number is above 0
above_zero : (m : ℕ) → m ≢ 0 → nat_lt 0 m ≡ true
above_zero m some = lt-ltb 0 m (omega arith)

pub none_above : (m : ℕ) → nat_lt 0 m ≡ false → m ≡ 0
none_above m none = let le = ltb-false 0 m none in omega arith

pub some_above : (m : ℕ) → nat_lt 0 m ≡ true → m ≢ 0
some_above m some e = let lt = ltb-true 0 m some in omega arith

-- ---- the marks

no_mask : (n p : ℕ) → mask_of (replicate n 0) p ≡ 0
no_mask zero p = refl
no_mask (suc n) zero = refl
no_mask (suc n) (suc p) = no_mask n p

pub unmarked_all : (n a : ℕ) → is_marked (replicate n 0) a ≡ false
unmarked_all n a = unmarked_page (replicate n 0) a (no_mask n (a / 64))

pub no_marks : (n words capacity : ℕ) → n ≤ 4096 → n ≤ 64 * words → words ≤ 64 → n ≤ capacity → IsMarks (replicate n 0) (replicate words 0) [] capacity
no_marks n words capacity limit enough few room = record {
  limit = let same = length-replicate {A = ℕ} n 0 in omega arith;
  enough = let same = length-replicate {A = ℕ} n 0 in let long = length-replicate {A = ℕ} words 0 in omega arith;
  few = let long = length-replicate {A = ℕ} words 0 in omega arith;
  room = let same = length-replicate {A = ℕ} n 0 in omega arith;
  told = λ p. unmarked_all words p ∙ ap (λ m. nat_lt 0 m) (sym (no_mask n p));
  counted = sym (count_none n);
  listed = λ p some. absurd (some (no_mask n p));
  small = λ i there. absurd (omega arith);
}

count_marked_same : (masks : List ℕ) (a : ℕ) → a / 64 < length masks → mask_of masks (a / 64) ≢ 0 → touched_count (with_mark masks a) ≡ touched_count masks
unfolding with_mark
count_marked_same masks a there some = count_same masks (a / 64) _ some (λ none. mask_some masks a there (get_or-set_same masks (a / 64) _ 0 there ∙ none))

count_marked_more : (masks : List ℕ) (a : ℕ) → a / 64 < length masks → mask_of masks (a / 64) ≡ 0 → touched_count (with_mark masks a) ≡ touched_count masks + 1
unfolding with_mark
count_marked_more masks a there none = count_more masks (a / 64) _ there none (λ zero_now. mask_some masks a there (get_or-set_same masks (a / 64) _ 0 there ∙ zero_now))

-- a word of a page that was touched before
pub marks_again : (masks pages touched : List ℕ) (capacity a : ℕ) → IsMarks masks pages touched capacity → a / 64 < length masks → mask_of masks (a / 64) ≢ 0
    → IsMarks (with_mark masks a) pages touched capacity
marks_again masks pages touched capacity a is there some =
    let size = length-with_mark masks a in
    let now = mask_some masks a there in
    record {
      limit = omega (arith, is.limit);
      enough = omega (arith, is.enough);
      few = is.few;
      room = omega (arith, is.room);
      told = λ p.
          is.told p
          ∙ ⊎_elim
          (λ (e : p ≡ a / 64).
          ap (λ x. nat_lt 0 (mask_of masks x)) e ∙ above_zero (mask_of masks (a / 64)) some
          ∙ sym (ap (λ x. nat_lt 0 (mask_of (with_mark masks a) x)) e ∙ above_zero (mask_of (with_mark masks a) (a / 64)) now))
          (λ (apart : p ≢ a / 64). ap (λ m. nat_lt 0 m) (sym (mask_other masks a p apart)))
          (cases_eq p (a / 64));
      counted = is.counted ∙ sym (count_marked_same masks a there some);
      listed = λ p mask.
          ⊎_elim
          (λ (e : p ≡ a / 64). is.listed p (λ none. some (ap (λ x. mask_of masks x) (sym e) ∙ none)))
          (λ (apart : p ≢ a / 64). is.listed p (λ none. mask (mask_other masks a p apart ∙ none)))
          (cases_eq p (a / 64));
      small = λ i low. omega (arith, is.small i low);
    }

-- the first word of a page
pub marks_first : (masks pages touched : List ℕ) (capacity a : ℕ) → IsMarks masks pages touched capacity → a / 64 < length masks → mask_of masks (a / 64) ≡ 0
    → IsMarks (with_mark masks a) (with_mark pages (a / 64)) (touched ++ a / 64 ∷ []) capacity
marks_first masks pages touched capacity a is there none =
    let size = length-with_mark masks a in
    let words = length-with_mark pages (a / 64) in
    let now = mask_some masks a there in
    let more = length-append touched (a / 64 ∷ []) in
    let in_pages : a / 64 / 64 < length pages = omega (arith, is.enough) in
    record {
      limit = omega (arith, is.limit);
      enough = omega (arith, is.enough);
      few = omega (arith, is.few);
      room = omega (arith, is.room);
      told = λ p.
          ⊎_elim
          (λ (e : p ≡ a / 64).
          ap (λ x. is_marked (with_mark pages (a / 64)) x) e ∙ marked_same pages (a / 64) in_pages
          ∙ sym (ap (λ x. nat_lt 0 (mask_of (with_mark masks a) x)) e ∙ above_zero (mask_of (with_mark masks a) (a / 64)) now))
          (λ (apart : p ≢ a / 64). marked_other pages (a / 64) p in_pages apart ∙ is.told p ∙ ap (λ m. nat_lt 0 m) (sym (mask_other masks a p apart)))
          (cases_eq p (a / 64));
      counted = let one = count_marked_more masks a there none in omega (arith, is.counted);
      listed = λ p mask.
          ⊎_elim
          (λ (e : p ≡ a / 64). subst (λ x. IsListedIn (touched ++ a / 64 ∷ []) x) (sym e) (listed_last touched (a / 64)))
          (λ (apart : p ≢ a / 64). listed_before touched (a / 64) p (is.listed p (λ zero_mask. mask (mask_other masks a p apart ∙ zero_mask))))
          (cases_eq p (a / 64));
      small = λ i low.
          ⊎_elim
          (λ (before : i < length touched). let same = get_or_append_left touched (a / 64 ∷ []) 0 i before in omega (arith, is.small i before))
          (λ (last : length touched ≤ i). let same = get_or_at touched (a / 64) [] 0 i (omega arith) in omega arith)
          (cases_lt i (length touched));
    }

-- there is room for one touched page more
pub marks_room : (masks pages touched : List ℕ) (capacity p : ℕ) → IsMarks masks pages touched capacity → p < length masks → mask_of masks p ≡ 0 → length touched < capacity
marks_room masks pages touched capacity p is there none = omega (arith, is.counted, count_room masks p there none, is.room)

-- ---- the next marked word

none_between : (masks pages touched : List ℕ) (capacity from p q : ℕ) → IsMarks masks pages touched capacity → ((a : ℕ) → from ≤ a → a < 64 * p → is_marked masks a ≡ false)
    → ((b : ℕ) → p ≤ b → b < q → is_marked pages b ≡ false)
    → (a : ℕ) → from ≤ a → a < 64 * q → is_marked masks a ≡ false
none_between masks pages touched capacity from p q is before none a later low =
    ⊎_elim
    (λ (first : a < 64 * p). before a later first)
    (λ (far : 64 * p ≤ a). unmarked_page masks a (none_above (mask_of masks (a / 64)) (sym (is.told (a / 64)) ∙ none (a / 64) (omega arith) (omega arith))))
    (cases_lt a (64 * p))

pub next_page : (masks pages touched : List ℕ) (capacity from p q bit : ℕ) → IsMarks masks pages touched capacity → from ≤ 64 * p → ((a : ℕ) → from ≤ a → a < 64 * p → is_marked masks a ≡ false)
    → IsNextMarked pages p (Some q) → IsLowest (mask_of masks q) bit → IsNextMarked masks from (Some (64 * q + bit))
next_page masks pages touched capacity from p q bit is below before next low =
    next_later masks from q bit (none_between masks pages touched capacity from p q is before next.2) (omega (arith, next.0)) low

pub next_none : (masks pages touched : List ℕ) (capacity from p : ℕ) → IsMarks masks pages touched capacity → ((a : ℕ) → from ≤ a → a < 64 * p → is_marked masks a ≡ false) → IsNextMarked pages p None
    → IsNextMarked masks from None
next_none masks pages touched capacity from p is before none a later =
    none_between masks pages touched capacity from p (a / 64 + 1) is before (λ b high low. none b high) a later (omega arith)

-- ---- clearing

-- what is still to be cleared is listed
pub record IsClearing (n words : ℕ) (masks pages touched : List ℕ) : Type 0 where
  pub size : length masks ≡ n
  pub count : length pages ≡ words
  pub enough : n ≤ 64 * words
  pub listed : (p : ℕ) → mask_of masks p ≢ 0 → IsListedIn touched p
  pub told : (p : ℕ) → is_marked pages p ≡ true → IsListedIn touched p
  pub small : (i : ℕ) → i < length touched → get_or touched i 0 < n

pub clearing_begins : (masks pages touched : List ℕ) (capacity : ℕ) → IsMarks masks pages touched capacity → IsClearing (length masks) (length pages) masks pages touched
clearing_begins masks pages touched capacity is = record {
  size = refl;
  count = refl;
  enough = is.enough;
  listed = is.listed;
  told = λ p marked. is.listed p (some_above (mask_of masks p) (sym (is.told p) ∙ marked));
  small = is.small;
}

pub clearing_more : (n words : ℕ) (masks pages touched rest : List ℕ) (p : ℕ) → IsClearing n words masks pages touched → touched ≡ rest ++ p ∷ []
    → IsClearing n words (set masks p 0) (set pages (p / 64) 0) rest
clearing_more n words masks pages touched rest p is popped =
    let longer : length touched ≡ length rest + 1 = ap (λ (l : List ℕ). length l) popped ∙ length-append rest (p ∷ []) in
    let last : get_or touched (length rest) 0 ≡ p = ap (λ (l : List ℕ). get_or l (length rest) 0) popped ∙ get_or_at rest p [] 0 (length rest) refl in
    let there : p < n = let low = is.small (length rest) (omega arith) in omega arith in
    let others : (q : ℕ) → q ≢ p → IsListedIn touched q → IsListedIn rest q = λ q apart one. listed_other rest p q apart (subst (λ (l : List ℕ). IsListedIn l q) popped one) in
    record {
      size = length-set masks p 0 ∙ is.size;
      count = length-set pages (p / 64) 0 ∙ is.count;
      enough = is.enough;
      listed = λ q some.
          ⊎_elim
          (λ (e : q ≡ p). absurd (some (ap (λ x. mask_of (set masks p 0) x) e ∙ get_or-set_same masks p 0 0 (omega (arith, is.size)))))
          (λ (apart : q ≢ p). others q apart (is.listed q (λ none. some (get_or-set_other masks p q 0 0 apart ∙ none))))
          (cases_eq q p);
      told = λ q marked.
          let still = marked_cleared pages (p / 64) q (omega (arith, is.count, is.enough)) marked in
          others q (λ e. still.0 (ap (λ x. x / 64) e)) (is.told q still.1);
      small = λ i low.
          let same : get_or touched i 0 ≡ get_or rest i 0 = ap (λ (l : List ℕ). get_or l i 0) popped ∙ get_or_append_left rest (p ∷ []) 0 i low in
          omega (arith, is.small i (omega arith));
    }

-- what was popped is a page
pub clearing_page : (n words : ℕ) (masks pages touched rest : List ℕ) (p : ℕ) → IsClearing n words masks pages touched → touched ≡ rest ++ p ∷ [] → p < n
clearing_page n words masks pages touched rest p is popped =
    let longer : length touched ≡ length rest + 1 = ap (λ (l : List ℕ). length l) popped ∙ length-append rest (p ∷ []) in
    let last : get_or touched (length rest) 0 ≡ p = ap (λ (l : List ℕ). get_or l (length rest) 0) popped ∙ get_or_at rest p [] 0 (length rest) refl in
    let low = is.small (length rest) (omega arith) in
    omega arith

pub cleared_masks : (n words : ℕ) (masks pages touched : List ℕ) → IsClearing n words masks pages touched → touched ≡ [] → masks ≡ replicate n 0
cleared_masks n words masks pages touched is none =
    let same = length-replicate {A = ℕ} n 0 in
    ext_get_or 0 masks (replicate n 0) (omega (arith, is.size)) (λ i low.
    ⊎_elim
    (λ (e : mask_of masks i ≡ 0). e ∙ sym (no_mask n i))
    (λ (some : mask_of masks i ≢ 0). let listed : IsListedIn [] i = subst (λ (l : List ℕ). IsListedIn l i) none (is.listed i some) in cc)
    (cases_eq (mask_of masks i) 0))

bool_cases : (b : Bool) → (b ≡ true → ⊥) → b ≡ false
bool_cases true no_true = absurd (no_true refl)
bool_cases false no_true = refl

pub cleared_pages : (n words : ℕ) (masks pages touched : List ℕ) → IsClearing n words masks pages touched → touched ≡ [] → (p : ℕ) → is_marked pages p ≡ false
cleared_pages n words masks pages touched is none p =
    bool_cases (is_marked pages p) (λ marked. let listed : IsListedIn [] p = subst (λ (l : List ℕ). IsListedIn l p) none (is.told p marked) in cc)

-- after clearing no word is marked
pub marks_cleared : (masks pages touched cleared : List ℕ) (capacity : ℕ) → IsMarks masks pages touched capacity → length cleared ≡ length pages → ((p : ℕ) → is_marked cleared p ≡ false)
    → IsMarks (replicate (length masks) 0) cleared [] capacity
marks_cleared masks pages touched cleared capacity is same none =
    let size = length-replicate {A = ℕ} (length masks) 0 in
    record {
      limit = omega (arith, is.limit);
      enough = omega (arith, is.enough);
      few = omega (arith, is.few);
      room = omega (arith, is.room);
      told = λ p. none p ∙ ap (λ m. nat_lt 0 m) (sym (no_mask (length masks) p));
      counted = sym (count_none (length masks));
      listed = λ p some. absurd (some (no_mask (length masks) p));
      small = λ i low. absurd (omega arith);
    }

within_masks : (masks : List ℕ) (p : ℕ) → mask_of masks p ≢ 0 → p < length masks
within_masks [] p some = absurd (some refl)
within_masks (m ∷ masks) zero some = omega arith
within_masks (m ∷ masks) (suc p) some = let more = within_masks masks p some in omega arith

-- what was read of a touched page is its mask
pub page_read : (masks pages touched : List ℕ) (capacity q m : ℕ) → IsMarks masks pages touched capacity → is_marked pages q ≡ true → m ≡ get_or masks q m → m ≡ mask_of masks q
page_read masks pages touched capacity q m is marked read =
    read ∙ get_or_default masks q m 0 (within_masks masks q (some_above (mask_of masks q) (sym (is.told q) ∙ marked)))
