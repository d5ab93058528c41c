-- The words of a page, and the words of the first memory.
use Rattle.std.proofs.Common.{◌≡◌, ℕ, zero, suc, ◌+◌, ◌*◌, ◌<◌, ◌≤◌, ℤ, pos, List, [], ◌∷◌, ◌++◌, length, get_or, take, map, cond, refl, sym, ap, ◌∙◌, arith, Option, Some, None, true, false}
use Rattle.std.specs.Prelude.{find, ◌==◌, ◌||◌}
use Rattle.std.specs.List.{All, list_any, range_with_len, AllByRecursion}
use Rattle.std.proofs.lemmas.List.Elements.{recursion_from_All}
use Rattle.std.specs.Option.{option_map_or}
use Rattle.std.proofs.lemmas.List.{ext_get_or, get_or-map, get_or-take, length-map, length-take, take_more}
use Rattle.std.proofs.lemmas.List.Kept.{AllPairs-from_increasing}
use Rattle.std.specs.List.Sorted.{IsStrictlyIncreasing}
use Rattle.std.proofs.lemmas.List.FromFn.{get_or-map-range_with_len, length-map-range_with_len}
use Rattle.std.proofs.lemmas.Bool.{eq-eqb, ne_eqb}
use Rattle.cal_terms.specs.declared.kinds.WordKind.{WordKind}
use Rattle.cal_terms.specs.declared.kinds.WordKind.TheVariants.{Ordinary, Tally}
use Rattle.cal_base.specs.Memory.{Memory, memory_of, value_at}
use Rattle.cal_base.specs.Pages.{page_size, page_words, first_kind, first_value, first_memory}

pub length-page_words : (memory : Memory) (p : ℕ) → length (page_words memory p) ≡ page_size
unfolding page_words
length-page_words memory p = length-map-range_with_len (λ a. value_at memory a) (page_size * p) page_size

pub get_or-page_words : (memory : Memory) (p i : ℕ) (d : ℤ) → i < page_size → get_or (page_words memory p) i d ≡ value_at memory (page_size * p + i)
unfolding page_words
get_or-page_words memory p i d within = get_or-map-range_with_len (λ a. value_at memory a) (page_size * p) page_size i (page_size * p + i) d within refl

-- a list of as many values, each the memory's, is the page
pub page_words_of : (memory : Memory) (p : ℕ) (values : List ℤ) → length values ≡ page_size → ((i : ℕ) → i < page_size → get_or values i (pos 0) ≡ value_at memory (page_size * p + i))
    → values ≡ page_words memory p
page_words_of memory p values size same =
    ext_get_or (pos 0) values (page_words memory p) (size ∙ sym (length-page_words memory p)) (λ i within.
    same i (omega (arith, size)) ∙ sym (get_or-page_words memory p i (pos 0) (omega (arith, size))))

-- two memories with the same words there have one page
pub same_page : (m n : Memory) (p : ℕ) → ((i : ℕ) → i < page_size → value_at m (page_size * p + i) ≡ value_at n (page_size * p + i)) → page_words m p ≡ page_words n p
same_page m n p same = page_words_of n p (page_words m p) (length-page_words m p) (λ i within. get_or-page_words m p i (pos 0) within ∙ same i within)

-- ---- the first memory

abbrev Stated : Type 0
Stated = List (ℕ × ℤ)

kind_push : (xs : List ℕ) (x a : ℕ) → first_kind (xs ++ x ∷ []) a ≡ cond (x == a) Tally (first_kind xs a)
kind_push [] x a = elim (x == a) as (λ b. cond (b || false) Tally Ordinary ≡ cond b Tally Ordinary) [ true ↦ refl | false ↦ refl ]
kind_push (y ∷ xs) x a =
    elim (y == a) as (λ b. cond (b || list_any (λ t. t == a) (xs ++ x ∷ [])) Tally Ordinary ≡ cond (x == a) Tally (cond (b || list_any (λ t. t == a) xs) Tally Ordinary)) [
      | true ↦ elim (x == a) as (λ b. Tally ≡ cond b Tally Tally) [ true ↦ refl | false ↦ refl ]
      | false ↦ kind_push xs x a
    ]

pub kind_more_same : (xs : List ℕ) (x : ℕ) → first_kind (xs ++ x ∷ []) x ≡ Tally
kind_more_same xs x = kind_push xs x x ∙ ap (λ b. cond b Tally (first_kind xs x)) (eq-eqb x x refl)

pub kind_more_other : (xs : List ℕ) (x a : ℕ) → (x ≡ a → ⊥) → first_kind (xs ++ x ∷ []) a ≡ first_kind xs a
kind_more_other xs x a apart = kind_push xs x a ∙ ap (λ b. cond b Tally (first_kind xs a)) (ne_eqb x a apart)

abbrev stated_in : Option (ℕ × ℤ) → ℤ
stated_in found = option_map_or (λ entry. entry.1) found (pos 0)

pub value_more_same : (xs : Stated) (x : ℕ × ℤ) → ((i : ℕ) → i < length xs → (get_or xs i x).0 < x.0) → first_value (xs ++ x ∷ []) x.0 ≡ x.1
value_more_same [] x lower = ap (λ b. stated_in (cond b (Some x) None)) (eq-eqb x.0 x.0 refl)
value_more_same (y ∷ xs) x lower =
    ap (λ b. stated_in (cond b (Some y) (find (λ e. e.0 == x.0) (xs ++ x ∷ [])))) (ne_eqb y.0 x.0 (λ e. let lt : y.0 < x.0 = lower 0 (omega arith) in omega arith))
    ∙ value_more_same xs x (λ i h. lower (suc i) (omega arith))

pub value_more_other : (xs : Stated) (x : ℕ × ℤ) (a : ℕ) → (x.0 ≡ a → ⊥) → first_value (xs ++ x ∷ []) a ≡ first_value xs a
value_more_other [] x a apart = ap (λ b. stated_in (cond b (Some x) None)) (ne_eqb x.0 a apart)
value_more_other (y ∷ xs) x a apart =
    elim (y.0 == a) as (λ b. stated_in (cond b (Some y) (find (λ e. e.0 == a) (xs ++ x ∷ []))) ≡ stated_in (cond b (Some y) (find (λ e. e.0 == a) xs))) [
      | true ↦ refl
      | false ↦ value_more_other xs x a apart
    ]

-- one stated value more
pub value_next_same : (xs : Stated) (i : ℕ) (d : ℕ × ℤ) → i < length xs → IsStrictlyIncreasing (map (λ entry. entry.0) xs) → first_value (take (i + 1) xs) (get_or xs i d).0 ≡ (get_or xs i d).1
value_next_same xs i d within ascend =
    ap (λ ys. first_value ys (get_or xs i d).0) (take_more xs i d within)
    ∙ value_more_same (take i xs) (get_or xs i d) (λ j h.
    let size : length (take i xs) ≡ i = length-take i xs ∙ omega (arith, within) in
    let lower = AllPairs-from_increasing (map (λ entry. entry.0) xs) ascend j i 0 (omega (arith, size)) (omega (arith, within, length-map xs (λ (entry : ℕ × ℤ). entry.0))) in
    let at_j : get_or (map (λ entry. entry.0) xs) j 0 ≡ (get_or (take i xs) j (get_or xs i d)).0 =
    get_or-map (λ (entry : ℕ × ℤ). entry.0) xs j (get_or xs i d) 0 (omega (arith, size)) ∙ ap (λ (e : ℕ × ℤ). e.0) (sym (get_or-take i xs j (get_or xs i d) (omega (arith, size))))
    in
    let at_i : get_or (map (λ entry. entry.0) xs) i 0 ≡ (get_or xs i d).0 = get_or-map (λ (entry : ℕ × ℤ). entry.0) xs i d 0 within in
    omega (arith, lower, at_j, at_i))

pub value_next_other : (xs : Stated) (i : ℕ) (d : ℕ × ℤ) (a : ℕ) → i < length xs → ((get_or xs i d).0 ≡ a → ⊥) → first_value (take (i + 1) xs) a ≡ first_value (take i xs) a
value_next_other xs i d a within apart = ap (λ ys. first_value ys a) (take_more xs i d within) ∙ value_more_other (take i xs) (get_or xs i d) a apart

-- nothing is stated past the last word
past_stated : (words : ℕ) (xs : Stated) (a : ℕ) → AllByRecursion (λ entry. entry.0 < words) xs → words ≤ a → first_value xs a ≡ pos 0
past_stated words [] a all past = refl
past_stated words (x ∷ xs) a all past =
    ap (λ b. stated_in (cond b (Some x) (find (λ e. e.0 == a) xs))) (ne_eqb x.0 a (λ e. omega (arith, all.0)))
    ∙ past_stated words xs a all.1 past

pub value_past : (words : ℕ) (xs : Stated) (a : ℕ) → All (λ entry. entry.0 < words) xs → words ≤ a → first_value xs a ≡ pos 0
value_past words xs a all past = past_stated words xs a (recursion_from_All (λ entry. entry.0 < words) xs all) past

pub take_whole : {A : Type 0} (n : ℕ) (xs : List A) → length xs ≤ n → take n xs ≡ xs
take_whole zero [] le = refl
take_whole (suc n) [] le = refl
take_whole zero (x ∷ xs) le = absurd (omega arith)
take_whole (suc n) (x ∷ xs) le = let rest = take_whole n xs (omega arith) in λ i. x ∷ rest i

-- words that are the first ones, from an address on
words_from : (kinds : List WordKind) (values : List ℤ) (tallies : List ℕ) (stated : Stated) (at : ℕ) → length kinds ≤ length values
    → ((i : ℕ) → i < length kinds → get_or kinds i Ordinary ≡ first_kind tallies (at + i))
    → ((i : ℕ) → i < length kinds → get_or values i (pos 0) ≡ first_value stated (at + i))
    → memory_of kinds values ≡ map (λ a. record { kind = first_kind tallies a; value = first_value stated a }) (range_with_len at (length kinds))
words_from [] values tallies stated at enough of_kind of_value = refl
words_from (k ∷ kinds) [] tallies stated at enough of_kind of_value = absurd (omega arith)
words_from (k ∷ kinds) (v ∷ values) tallies stated at enough of_kind of_value =
    let kind_here : k ≡ first_kind tallies at = of_kind 0 (omega arith) ∙ ap (λ a. first_kind tallies a) (omega arith) in
    let value_here : v ≡ first_value stated at = of_value 0 (omega arith) ∙ ap (λ a. first_value stated a) (omega arith) in
    let rest = words_from kinds values tallies stated (at + 1) (omega arith)
    (λ i h. of_kind (suc i) (omega arith) ∙ ap (λ a. first_kind tallies a) (omega arith))
    (λ i h. of_value (suc i) (omega arith) ∙ ap (λ a. first_value stated a) (omega arith))
    in
    λ i. record { kind = kind_here i; value = value_here i } ∷ rest i

pub first_words : (words : ℕ) (kinds : List WordKind) (values : List ℤ) (tallies : List ℕ) (stated : Stated) → length kinds ≡ words → length kinds ≤ length values
    → ((a : ℕ) → a < words → get_or kinds a Ordinary ≡ first_kind tallies a)
    → ((a : ℕ) → get_or values a (pos 0) ≡ first_value stated a)
    → memory_of kinds values ≡ first_memory words tallies stated
first_words words kinds values tallies stated size enough of_kind of_value =
    words_from kinds values tallies stated 0 enough
    (λ i h. of_kind i (omega (arith, size)) ∙ ap (λ a. first_kind tallies a) (omega arith))
    (λ i h. of_value i ∙ ap (λ a. first_value stated a) (omega arith))
    ∙ ap (λ n. first_memory n tallies stated) size
