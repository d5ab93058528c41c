-- The words of shared declarations: their tally words, and those that do not begin at 0.
use Rattle.std.proofs.Common.{◌≡◌, ℕ, zero, suc, ℤ, pos, ◌+◌, ◌<◌, ◌≤◌, Bool, true, false, if◌then◌else◌, List, [], ◌∷◌, ◌++◌, length, map, drop, replicate, Some, refl, sym, ap, ◌∙◌}
use Rattle.std.proofs.Common.{arith, get_or, length-append}
use Rattle.std.specs.Prelude.{slice_get}
use Rattle.std.specs.Ordering.{int_eq}
use Rattle.std.proofs.lemmas.List.{drop_all}
use Rattle.std.proofs.lemmas.Option.{slice_get-get_or}
use Rattle.cal_terms.specs.declared.kinds.WordKind.{WordKind}
use Rattle.cal_terms.specs.declared.kinds.WordKind.TheVariants.{Ordinary, Tally}
use Rattle.cal_base.specs.Memory.{Memory, memory_of}
use Rattle.csl_tree.specs.declared.program.Shared.{Shared}
use Rattle.csl_tree.specs.declared.program.Valued.{Valued}
use Rattle.cal_terms.proofs.Lists.{next_item}
use Rattle.csl_meaning.specs.Layout.{words_in, first_words, first_memory}
use Rattle.compiled_code.specs.Modules.{tallies_from, initial_from}
use Rattle.expression_code.specs.Counts.{words_in_all}
use Rattle.accepted_code.proofs.SharedWords.{length_words, tallies_append, no_tallies}

-- ---- two memories, one behind the other

initial_append : (xs ys : Memory) (at : ℕ) → initial_from at (xs ++ ys) ≡ initial_from at xs ++ initial_from (at + length xs) ys
initial_append [] ys at = let here : at ≡ at + 0 = omega arith in ap (λ (n : ℕ). initial_from n ys) here
initial_append (w ∷ xs) ys at = by (int_eq w.value (pos 0)) (initial_append xs ys (suc at) ∙ ap (λ (n : ℕ). initial_from (suc at) xs ++ initial_from n ys) same)
  where
    same : suc at + length xs ≡ at + suc (length xs)
    same = omega arith

    by : (b : Bool) → initial_from (suc at) (xs ++ ys) ≡ initial_from (suc at) xs ++ initial_from (at + suc (length xs)) ys
        → (if b then initial_from (suc at) (xs ++ ys) else (at, w.value) ∷ initial_from (suc at) (xs ++ ys))
        ≡ (if b then initial_from (suc at) xs else (at, w.value) ∷ initial_from (suc at) xs) ++ initial_from (at + suc (length xs)) ys
    by true h = h
    by false h = ap (λ (l : List (ℕ × ℤ)). (at, w.value) ∷ l) h

-- ---- the tally words of a declaration

-- so many addresses from this one on
abbrev pub addresses : ℕ → ℕ → List ℕ
addresses at zero = []
addresses at (suc n) = addresses at n ++ (at + n) ∷ []

addresses_first : (at n : ℕ) → addresses at (suc n) ≡ at ∷ addresses (suc at) n
addresses_first at zero = let here : at + 0 ≡ at = omega arith in ap (λ (n : ℕ). n ∷ []) here
addresses_first at (suc n) = let same : at + suc n ≡ suc at + n = omega arith in λ i. addresses_first at n i ++ same i ∷ []

enough : (xs : List ℤ) (n : ℕ) → n ≤ length (xs ++ replicate n (pos 0))
enough [] zero = omega arith
enough [] (suc n) = let h = enough [] n in omega (arith, h)
enough (x ∷ xs) n = let h = enough xs n in omega (arith, h)

all_tallies : (n : ℕ) (values : List ℤ) (at : ℕ) → n ≤ length values → tallies_from at (memory_of (replicate n Tally) values) ≡ addresses at n
all_tallies zero values at le = refl
all_tallies (suc n) [] at le = absurd (omega (arith, le))
all_tallies (suc n) (z ∷ values) at le = ap (λ (l : List ℕ). at ∷ l) (all_tallies n values (suc at) (omega (arith, le))) ∙ sym (addresses_first at n)

-- the words of a tally declaration are all tally words
pub tallies_of_tally : (s : Shared) (at : ℕ) → s.kind ≡ Tally → tallies_from at (first_words s) ≡ addresses at (words_in s)
tallies_of_tally s at e =
    let values : List ℤ = map (λ v. v.number) s.values ++ replicate (words_in s) (pos 0) in
    ap (λ (k : WordKind). tallies_from at (memory_of (replicate (words_in s) k) values)) e ∙ all_tallies (words_in s) values at (enough (map (λ v. v.number) s.values) (words_in s))

-- and those of an ordinary one are none
pub tallies_of_ordinary : (s : Shared) (at : ℕ) → s.kind ≡ Ordinary → tallies_from at (first_words s) ≡ []
tallies_of_ordinary s at e =
    let values : List ℤ = map (λ v. v.number) s.values ++ replicate (words_in s) (pos 0) in
    ap (λ (k : WordKind). tallies_from at (memory_of (replicate (words_in s) k) values)) e ∙ no_tallies (words_in s) values at

-- ---- the words of a declaration that are not 0

-- what is listed of the words from one on
abbrev pub initial_past : ℕ → Shared → ℕ → List (ℕ × ℤ)
initial_past at s i = initial_from (at + i) (drop i (first_words s))

word_at : (n : ℕ) (kind : WordKind) (values : List ℤ) (i : ℕ) (z : ℤ) → i < n → slice_get values i ≡ Some z
    → drop i (memory_of (replicate n kind) values) ≡ record { kind = kind; value = z } ∷ drop (suc i) (memory_of (replicate n kind) values)
word_at zero kind values i z lt e = absurd (omega (arith, lt))
word_at (suc n) kind [] zero z lt e = absurd cc
word_at (suc n) kind [] (suc i) z lt e = absurd cc
word_at (suc n) kind (v ∷ values) zero z lt e = let same : v ≡ z = cc in ap (λ (x : ℤ). record { kind = kind; value = x } ∷ memory_of (replicate n kind) values) same
word_at (suc n) kind (v ∷ values) (suc i) z lt e = word_at n kind values i z (omega (arith, lt)) e

number_at : (vs : List Valued) (others : List ℤ) (i : ℕ) (v : Valued) → slice_get vs i ≡ Some v → slice_get (map (λ x. x.number) vs ++ others) i ≡ Some v.number
number_at [] others zero v e = absurd cc
number_at [] others (suc i) v e = absurd cc
number_at (x ∷ vs) others zero v e = let same : x ≡ v = cc in ap (λ (y : Valued). Some y.number) same
number_at (x ∷ vs) others (suc i) v e = number_at vs others i v e

first_word : (s : Shared) (i : ℕ) (v : Valued) → i < words_in s → slice_get s.values i ≡ Some v → drop i (first_words s) ≡ record { kind = s.kind; value = v.number } ∷ drop (suc i) (first_words s)
first_word s i v lt e = word_at (words_in s) s.kind (map (λ x. x.number) s.values ++ replicate (words_in s) (pos 0)) i v.number lt (number_at s.values (replicate (words_in s) (pos 0)) i v e)

-- the words from the first one on
pub initial_all : (at : ℕ) (s : Shared) → initial_past at s 0 ≡ initial_from at (first_words s)
initial_all at s = let here : at + 0 ≡ at = omega arith in ap (λ (n : ℕ). initial_from n (first_words s)) here

-- this value at this address, if it is not 0
abbrev pub listed : ℕ → ℤ → List (ℕ × ℤ)
listed address z = if int_eq z (pos 0) then [] else (address, z) ∷ []

-- a value that is not 0 is listed, and then come those behind it
pub initial_word : (at : ℕ) (s : Shared) (i : ℕ) (d : Valued) → i < words_in s → i < length s.values → initial_past at s i ≡ listed (at + i) (get_or s.values i d).number ++ initial_past at s (i + 1)
initial_word at s i d lt within =
    let z : ℤ = (get_or s.values i d).number in
    let next : suc (at + i) ≡ at + suc i = omega arith in
    let one : suc i ≡ i + 1 = omega arith in
    ap (λ (memory : Memory). initial_from (at + i) memory) (first_word s i (get_or s.values i d) lt (slice_get-get_or s.values i d within))
    ∙ by z (int_eq z (pos 0)) (initial_from (suc (at + i)) (drop (suc i) (first_words s)))
    ∙ ap (λ (n : ℕ). listed (at + i) z ++ initial_from n (drop (suc i) (first_words s))) next
    ∙ ap (λ (n : ℕ). listed (at + i) z ++ initial_past at s n) one
  where
    by : (z : ℤ) (b : Bool) (others : List (ℕ × ℤ)) → (if b then others else (at + i, z) ∷ others) ≡ (if b then [] else (at + i, z) ∷ []) ++ others
    by z true others = refl
    by z false others = refl

-- behind the last word nothing is listed
pub initial_none : (at : ℕ) (s : Shared) (i : ℕ) → words_in s ≤ i → initial_past at s i ≡ []
initial_none at s i le = let same = length_words s in ap (λ (memory : Memory). initial_from (at + i) memory) (drop_all i (first_words s) (omega (arith, le, same)))

zeros_left : (n m : ℕ) (kind : WordKind) (values : List ℤ) (at i : ℕ) → length values ≤ i → initial_from at (drop i (memory_of (replicate n kind) (values ++ replicate m (pos 0)))) ≡ []
zeros_left zero m kind values at zero le = refl
zeros_left zero m kind values at (suc i) le = refl
zeros_left (suc n) zero kind [] at zero le = refl
zeros_left (suc n) zero kind [] at (suc i) le = refl
zeros_left (suc n) (suc m) kind [] at zero le = zeros_left n m kind [] (suc at) zero (omega arith)
zeros_left (suc n) (suc m) kind [] at (suc i) le = zeros_left n m kind [] at i (omega arith)
zeros_left (suc n) m kind (z ∷ values) at zero le = absurd (omega (arith, le))
zeros_left (suc n) m kind (z ∷ values) at (suc i) le = zeros_left n m kind values at i (omega (arith, le))

numbers_length : (vs : List Valued) → length (map (λ v. v.number) vs) ≡ length vs
numbers_length [] = refl
numbers_length (v ∷ vs) = ap suc (numbers_length vs)

-- nor behind the last stated value
pub initial_rest : (at : ℕ) (s : Shared) (i : ℕ) → length s.values ≤ i → initial_past at s i ≡ []
initial_rest at s i le = let same = numbers_length s.values in zeros_left (words_in s) (words_in s) s.kind (map (λ v. v.number) s.values) (at + i) i (omega (arith, le, same))

-- ---- all declarations

-- what is listed of declarations, and of those behind the first one
pub tallies_more : (at next : ℕ) (left : List Shared) (s : Shared) (rest : List Shared) → left ≡ s ∷ rest → next ≡ at + words_in s
    → tallies_from at (first_memory left) ≡ tallies_from at (first_words s) ++ tallies_from next (first_memory rest)
tallies_more at next left s rest e here =
    let same : at + length (first_words s) ≡ next = ap (λ (n : ℕ). at + n) (length_words s) ∙ sym here in
    ap (λ (all : List Shared). tallies_from at (first_memory all)) e
    ∙ tallies_append (first_words s) (first_memory rest) at
    ∙ ap (λ (n : ℕ). tallies_from at (first_words s) ++ tallies_from n (first_memory rest)) same

pub initial_more : (at next : ℕ) (left : List Shared) (s : Shared) (rest : List Shared) → left ≡ s ∷ rest → next ≡ at + words_in s
    → initial_from at (first_memory left) ≡ initial_from at (first_words s) ++ initial_from next (first_memory rest)
initial_more at next left s rest e here =
    let same : at + length (first_words s) ≡ next = ap (λ (n : ℕ). at + n) (length_words s) ∙ sym here in
    ap (λ (all : List Shared). initial_from at (first_memory all)) e
    ∙ initial_append (first_words s) (first_memory rest) at
    ∙ ap (λ (n : ℕ). initial_from at (first_words s) ++ initial_from n (first_memory rest)) same

-- how many words are left
pub length_more : (at next : ℕ) (left : List Shared) (s : Shared) (rest : List Shared) → left ≡ s ∷ rest → next ≡ at + words_in s → at + length (first_memory left) ≡ next + length (first_memory rest)
length_more at next left s rest e here =
    let more = ap (λ (all : List Shared). length (first_memory all)) e ∙ length-append (first_words s) (first_memory rest) in
    let own = length_words s in
    omega (arith, here, more, own)

-- the words of the next declaration are among those that are left
pub words_left : (all : List Shared) (i : ℕ) (s : Shared) → i < length all → s ≡ get_or all i s → length (first_memory (drop i all)) ≡ words_in s + length (first_memory (drop (i + 1) all))
words_left all i s within at = omega (arith, length_more 0 (words_in s) (drop i all) s (drop (i + 1) all) (next_item all i s within at) (omega arith))

-- all words stand in the first memory
pub all_words : (shared : List Shared) → words_in_all shared ≡ length (first_memory shared)
all_words [] = refl
all_words (s ∷ rest) = omega (arith, length-append (first_words s) (first_memory rest), length_words s, all_words rest)
