-- Bits of a list of masks.
use Rattle.std.proofs.Common.{◌≡◌, ◌≢◌, ℕ, zero, suc, ◌+◌, ◌-◌, ◌*◌, ◌/◌, ◌%◌, ◌^◌, ◌<◌, ◌≤◌, true, false, List, [], ◌∷◌, length, set, Some, None, refl, sym, ap, ◌∙◌, arith, ⊎_elim, bit_and, bit_or}
use Rattle.std.proofs.Common.{nat_eq, w64, shr-shr}
use Rattle.std.specs.Int.{bit_at}
use Rattle.std.specs.Int.Count.{count_trailing_zeros}
use Rattle.std.proofs.lemmas.Bool.{cases_eq, cases_lt}
use Rattle.std.proofs.lemmas.Nat.Bits.{shr_and_one, bit_at-zero, bit_at-trailing_zeros, bit_at_set_same, bit_at_set_other, bit_at_above}
use Rattle.std.proofs.lemmas.List.{get_or-set_same, get_or-set_other, length-set}
use Rattle.write_buffer.specs.Bits.{mask_of, is_marked, with_mark, IsLowest, IsNextBit, IsNextMarked}

-- what the test of a bit answers
pub marked_is : (masks : List ℕ) (a : ℕ) → nat_eq (bit_and (mask_of masks (a / 64) / 2 ^ (a % 64)) 1) 1 ≡ is_marked masks a
unfolding is_marked
marked_is masks a = ap (λ x. nat_eq x 1) (shr_and_one (mask_of masks (a / 64)) (a % 64))

pub lowest_is : (mask bit : ℕ) → mask ≢ 0 → mask < 2 ^ 64 → bit ≡ count_trailing_zeros 64 mask → IsLowest mask bit
lowest_is mask bit some small same =
    let is = bit_at-trailing_zeros w64 mask (omega arith) small in
    rw same (record { within = is.0; set = is.1; below = is.2 })

-- a bit of a mask is one of the mask shifted
pub bit_shifted : (n from i : ℕ) → from ≤ i → bit_at (n / 2 ^ from) (i - from) ≡ bit_at n i
bit_shifted n from i later = ap (λ x. x % 2) (shr-shr n from (i - from)) ∙ ap (λ x. bit_at n x) (let e : from + (i - from) ≡ i = omega arith in e)

pub no_next_bit : (mask from : ℕ) → mask / 2 ^ from ≡ 0 → IsNextBit mask from None
no_next_bit mask from none i later = sym (bit_shifted mask from i later) ∙ ap (λ x. bit_at x (i - from)) none ∙ bit_at-zero (i - from)

-- a bit that is set is one of 64
within_word : (mask i : ℕ) → mask < 2 ^ 64 → bit_at mask i ≡ 1 → i < 64
within_word mask i small is =
    ⊎_elim (λ (low : i < 64). low) (λ (high : 64 ≤ i). let e = bit_at_above mask 64 i small high in absurd (omega arith)) (cases_lt i 64)

pub some_next_bit : (mask from low : ℕ) → mask < 2 ^ 64 → IsLowest (mask / 2 ^ from) low → IsNextBit mask from (Some (from + low))
some_next_bit mask from low small is =
    let at : bit_at mask (from + low) ≡ 1 =
    sym (bit_shifted mask from (from + low) (omega arith)) ∙ ap (λ x. bit_at (mask / 2 ^ from) x) (let e : from + low - from ≡ low = omega arith in e) ∙ is.set
    in
    (omega arith, within_word mask (from + low) small at, at, λ i later before. sym (bit_shifted mask from i later) ∙ is.below (i - from) (omega arith))

-- a word that is marked, and one that isn't
pub marked_at : (masks : List ℕ) (p i a : ℕ) → a ≡ 64 * p + i → i < 64 → bit_at (mask_of masks p) i ≡ 1 → is_marked masks a ≡ true
unfolding is_marked
marked_at masks p i a same small is =
    let page : a / 64 ≡ p = omega arith in
    let place : a % 64 ≡ i = omega arith in
    rw (page, place, is) refl

pub unmarked_at : (masks : List ℕ) (p i a : ℕ) → a ≡ 64 * p + i → i < 64 → bit_at (mask_of masks p) i ≡ 0 → is_marked masks a ≡ false
unfolding is_marked
unmarked_at masks p i a same small is =
    let page : a / 64 ≡ p = omega arith in
    let place : a % 64 ≡ i = omega arith in
    rw (page, place, is) refl

pub next_first : (masks : List ℕ) (from bit : ℕ) → IsNextBit (mask_of masks (from / 64)) (from % 64) (Some bit) → IsNextMarked masks from (Some (64 * (from / 64) + bit))
next_first masks from bit is = (
  omega (arith, is.0),
  marked_at masks (from / 64) bit _ refl is.1 is.2,
  λ a later before. unmarked_at masks (from / 64) (a % 64) a (omega (arith, is.1)) (omega arith) (is.3 (a % 64) (omega (arith, is.1)) (omega (arith, is.1))),
)

pub none_in_first : (masks : List ℕ) (from : ℕ) → IsNextBit (mask_of masks (from / 64)) (from % 64) None → (a : ℕ) → from ≤ a → a < 64 * (from / 64 + 1) → is_marked masks a ≡ false
none_in_first masks from none a later before = unmarked_at masks (from / 64) (a % 64) a (omega arith) (omega arith) (none (a % 64) (omega arith))

pub none_more : (masks : List ℕ) (from p : ℕ) → ((a : ℕ) → from ≤ a → a < 64 * p → is_marked masks a ≡ false) → mask_of masks p ≡ 0 → (a : ℕ) → from ≤ a → a < 64 * (p + 1) → is_marked masks a ≡ false
none_more masks from p none empty a later before =
    ⊎_elim
    (λ (low : a < 64 * p). none a later low)
    (λ (high : 64 * p ≤ a). unmarked_at masks p (a - 64 * p) a (omega arith) (omega arith) (ap (λ m. bit_at m (a - 64 * p)) empty ∙ bit_at-zero (a - 64 * p)))
    (cases_lt a (64 * p))

pub next_later : (masks : List ℕ) (from p bit : ℕ) → ((a : ℕ) → from ≤ a → a < 64 * p → is_marked masks a ≡ false) → from ≤ 64 * p → IsLowest (mask_of masks p) bit
    → IsNextMarked masks from (Some (64 * p + bit))
next_later masks from p bit none below is = (
  omega arith,
  marked_at masks p bit _ refl is.within is.set,
  λ a later before.
      ⊎_elim
      (λ (low : a < 64 * p). none a later low)
      (λ (high : 64 * p ≤ a). unmarked_at masks p (a - 64 * p) a (omega arith) (omega (arith, is.within)) (is.below (a - 64 * p) (omega arith)))
      (cases_lt a (64 * p)),
)

past : (masks : List ℕ) (p : ℕ) → length masks ≤ p → mask_of masks p ≡ 0
past [] p none = refl
past (m ∷ masks) zero none = absurd (omega arith)
past (m ∷ masks) (suc p) none = past masks p (omega arith)

pub unmarked_past : (masks : List ℕ) (a : ℕ) → length masks ≤ a / 64 → is_marked masks a ≡ false
unmarked_past masks a none =
    unmarked_at masks (a / 64) (a % 64) a (omega arith) (omega arith) (ap (λ m. bit_at m (a % 64)) (past masks (a / 64) none) ∙ bit_at-zero (a % 64))

pub none_past : (masks : List ℕ) (from p : ℕ) → ((a : ℕ) → from ≤ a → a < 64 * p → is_marked masks a ≡ false) → length masks ≤ p → IsNextMarked masks from None
none_past masks from p none end a later =
    ⊎_elim (λ (low : a < 64 * p). none a later low) (λ (high : 64 * p ≤ a). unmarked_past masks a (omega arith)) (cases_lt a (64 * p))

-- ---- one word more is marked

pub length-with_mark : (masks : List ℕ) (a : ℕ) → length (with_mark masks a) ≡ length masks
unfolding with_mark
length-with_mark masks a = length-set masks (a / 64) _

pub mask_other : (masks : List ℕ) (a p : ℕ) → p ≢ a / 64 → mask_of (with_mark masks a) p ≡ mask_of masks p
unfolding with_mark
mask_other masks a p apart = get_or-set_other masks (a / 64) p _ 0 apart

mask_same : (masks : List ℕ) (a : ℕ) → a / 64 < length masks → mask_of (with_mark masks a) (a / 64) ≡ bit_or (mask_of masks (a / 64)) (1 * 2 ^ (a % 64) % 2 ^ 64)
unfolding with_mark
mask_same masks a there = get_or-set_same masks (a / 64) _ 0 there

pub mask_some : (masks : List ℕ) (a : ℕ) → a / 64 < length masks → mask_of (with_mark masks a) (a / 64) ≢ 0
mask_some masks a there none =
    let is = bit_at_set_same w64 (mask_of masks (a / 64)) (a % 64) (omega arith) in
    let bit : bit_at (mask_of (with_mark masks a) (a / 64)) (a % 64) ≡ 1 = ap (λ m. bit_at m (a % 64)) (mask_same masks a there) ∙ is in
    let zero_bit : bit_at (mask_of (with_mark masks a) (a / 64)) (a % 64) ≡ 0 = ap (λ m. bit_at m (a % 64)) none ∙ bit_at-zero (a % 64) in
    omega (arith, bit, zero_bit)

pub marked_same : (masks : List ℕ) (a : ℕ) → a / 64 < length masks → is_marked (with_mark masks a) a ≡ true
marked_same masks a there =
    marked_at (with_mark masks a) (a / 64) (a % 64) a (omega arith) (omega arith)
    (ap (λ m. bit_at m (a % 64)) (mask_same masks a there) ∙ bit_at_set_same w64 (mask_of masks (a / 64)) (a % 64) (omega arith))

pub marked_other : (masks : List ℕ) (a q : ℕ) → a / 64 < length masks → q ≢ a → is_marked (with_mark masks a) q ≡ is_marked masks q
unfolding is_marked
marked_other masks a q there apart =
    ap (λ bit. nat_eq bit 1)
    (⊎_elim
    (λ (page : q / 64 ≡ a / 64).
    ap (λ p. bit_at (mask_of (with_mark masks a) p) (q % 64)) page
    ∙ ap (λ m. bit_at m (q % 64)) (mask_same masks a there)
    ∙ bit_at_set_other w64 (mask_of masks (a / 64)) (a % 64) (omega arith) (q % 64) (λ e. apart (omega arith))
    ∙ ap (λ p. bit_at (mask_of masks p) (q % 64)) (sym page))
    (λ (page : q / 64 ≢ a / 64). ap (λ m. bit_at m (q % 64)) (mask_other masks a (q / 64) page))
    (cases_eq (q / 64) (a / 64)))

-- a mask that is 0 marks no word
pub unmarked_page : (masks : List ℕ) (a : ℕ) → mask_of masks (a / 64) ≡ 0 → is_marked masks a ≡ false
unmarked_page masks a none = unmarked_at masks (a / 64) (a % 64) a (omega arith) (omega arith) (ap (λ m. bit_at m (a % 64)) none ∙ bit_at-zero (a % 64))

marked_kept : (masks : List ℕ) (p q : ℕ) → q / 64 ≢ p → is_marked (set masks p 0) q ≡ is_marked masks q
unfolding is_marked
marked_kept masks p q apart = ap (λ m. nat_eq (bit_at m (q % 64)) 1) (get_or-set_other masks p (q / 64) 0 0 apart)

-- masks in which a page was cleared
pub marked_cleared : (masks : List ℕ) (p q : ℕ) → p < length masks → is_marked (set masks p 0) q ≡ true → (q / 64 ≢ p) × (is_marked masks q ≡ true)
marked_cleared masks p q there is = (
  λ e.
      let none = unmarked_page (set masks p 0) q (ap (λ x. mask_of (set masks p 0) x) e ∙ get_or-set_same masks p 0 0 there) in
      cc,
  ⊎_elim
      (λ (e : q / 64 ≡ p).
      let none = unmarked_page (set masks p 0) q (ap (λ x. mask_of (set masks p 0) x) e ∙ get_or-set_same masks p 0 0 there) in
      cc)
      (λ (apart : q / 64 ≢ p). sym (marked_kept masks p q apart) ∙ is)
      (cases_eq (q / 64) p),
)
