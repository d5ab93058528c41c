-- Entries of lists, as loops go over them.
use Rattle.std.proofs.Common.{◌≡◌, ℕ, zero, suc, ◌+◌, ◌<◌, ◌≤◌, Bool, true, false, not, List, [], ◌∷◌, length, get_or, Some, None, ◌⊎◌, inl, inr, refl, sym, ap, subst, ◌∙◌, arith}
use Rattle.std.specs.Prelude.{slice_get, IsTrue, ◌↔◌, Result, Err, MatchResult}
use Rattle.std.specs.List.Sorted.{IsBinarySearchResult}
use Rattle.std.specs.Ordering.{nat_cmp}
use Rattle.std.proofs.lemmas.List.Sorted.{searched}
use Rattle.bytecode.specs.Spelling.{AreAscending, AreAscendingFrom}
use Rattle.std.specs.List.{Contains}
use Rattle.std.proofs.lemmas.Bool.{cases_lt}
use Rattle.std.proofs.lemmas.Option.{slice_get_within, get_or_from_slice_get}
use Rattle.bytecode.specs.declared.module.Module.{Module}
use Rattle.code_verify.specs.Rules.{HoldsNoTally}
use Rattle.code_verify.specs.Tests.{Each, EachBelow, HoldsTally}
use Rattle.code_verify.proofs.Walking.{not_past}
use Rattle.cal_terms.proofs.Lists.{some_same}

-- an entry within a list is there
pub entry_there : {A : Type 0} (xs : List A) (n : ℕ) (x : A) → n < length xs → x ≡ get_or xs n x → slice_get xs n ≡ Some x
entry_there [] n x lt e = absurd (omega arith)
entry_there (a ∷ xs) zero x lt e = ap (λ y. Some y) (sym e)
entry_there (a ∷ xs) (suc n) x lt e = entry_there xs n x (omega arith) e

module _ {A : Type 0} (P : ℕ → A → Type 0) (xs : List A) where
  pub each_next : (n : ℕ) (x : A) → EachBelow P xs n → slice_get xs n ≡ Some x → P n x → EachBelow P xs (n + 1)
  each_next n x before st holds k y less here = elim (cases_lt k n) [
    | inl lt ↦ before k y lt here
    | inr le ↦
        let same : n ≡ k = omega (arith, less, le) in
        let same_entry : x ≡ y = some_same x y (slice_get xs n) st (ap (slice_get xs) same ∙ here) in
        subst (λ (i : ℕ). P i y) same (subst (λ (z : A). P n z) same_entry holds)
  ]

  pub each_all : (n : ℕ) → EachBelow P xs n → slice_get xs n ≡ None → Each P xs
  each_all n before none k x here = before k x (within k x here) here
    where
      within : (k : ℕ) (x : A) → slice_get xs k ≡ Some x → k < n
      within k x here = elim (cases_lt k n) [
        | inl lt ↦ lt
        | inr le ↦ let inside = slice_get_within xs k x here in absurd (not_past xs n (omega (arith, inside, le)) none)
      ]

  pub each_whole : (n : ℕ) → EachBelow P xs n → length xs ≤ n → Each P xs
  each_whole n before le k x here = let inside = slice_get_within xs k x here in before k x (omega (arith, inside, le)) here

-- ---- tally words in a range

contains_later : (t : ℕ) (rest : List ℕ) (a : ℕ) → Contains rest a → Contains (t ∷ rest) a
contains_later t rest a c = (suc c.0, (let lt = c.1 in omega (arith, lt)), c.2)

contains_here : (t : ℕ) (rest : List ℕ) → Contains (t ∷ rest) t
contains_here t rest = (0, omega arith, refl)

contains_cases : (t : ℕ) (rest : List ℕ) (a : ℕ) → Contains (t ∷ rest) a → (t ≡ a) ⊎ Contains rest a
contains_cases t rest a (zero, lt, e) = inl e
contains_cases t rest a (suc k, lt, e) = inr (k, omega (arith, lt), e)

-- what is contained stands at an index
contains_get : (xs : List ℕ) (a : ℕ) → Contains xs a → (k : ℕ) × (k < length xs) × (get_or xs k 0 ≡ a)
contains_get [] a (k, lt, e) = absurd (omega (arith, lt))
contains_get (t ∷ rest) a c = elim (contains_cases t rest a c) [
  | inl e ↦ (0, omega arith, e)
  | inr later ↦ let r = contains_get rest a later in (suc r.0, (let lt = r.1 in omega (arith, lt)), r.2)
]

contains_at : (xs : List ℕ) (k : ℕ) → k < length xs → Contains xs (get_or xs k 0)
contains_at [] k lt = absurd (omega (arith, lt))
contains_at (t ∷ rest) zero lt = contains_here t rest
contains_at (t ∷ rest) (suc k) lt = contains_later t rest (get_or rest k 0) (contains_at rest k (omega (arith, lt)))

least_at : (least : ℕ) (xs : List ℕ) (k : ℕ) → AreAscendingFrom least xs → k < length xs → least ≤ get_or xs k 0
least_at least [] k up lt = absurd (omega (arith, lt))
least_at least (n ∷ rest) zero up lt = up.0
least_at least (n ∷ rest) (suc k) up lt =
    let first = up.0 in
    let further : n + 1 ≤ get_or rest k 0 = least_at (n + 1) rest k up.1 (omega (arith, lt)) in
    omega (arith, first, further)

rises : (least : ℕ) (xs : List ℕ) → AreAscendingFrom least xs → (i j : ℕ) → i ≤ j → j < length xs → get_or xs i 0 ≤ get_or xs j 0
rises least [] up i j le lt = absurd (omega (arith, lt))
rises least (n ∷ rest) up zero zero le lt = omega arith
rises least (n ∷ rest) up zero (suc j) le lt = let further : n + 1 ≤ get_or rest j 0 = least_at (n + 1) rest j up.1 (omega (arith, lt)) in omega (arith, further)
rises least (n ∷ rest) up (suc i) zero le lt = absurd (omega (arith, le))
rises least (n ∷ rest) up (suc i) (suc j) le lt = rises (n + 1) rest up.1 i j (omega (arith, le)) (omega (arith, lt))

-- the first of ascending tally words that is not below the range is in it, or none is
module _ (tallies : List ℕ) (up : AreAscending tallies) (b n : ℕ) (r : Result ℕ ℕ) (found : IsBinarySearchResult (λ y. nat_cmp y b) tallies r) where
  abbrev Said : Result ℕ ℕ → Type 0
  Said r = MatchResult r (λ i. (i < length tallies) × (get_or tallies i 0 ≡ b)) (λ i. (i ≤ length tallies) × ((k : ℕ) → k < i → get_or tallies k 0 < b)
      × ((k : ℕ) → i ≤ k → k < length tallies → b < get_or tallies k 0))

  said : Said r
  said = searched tallies b r found (rises 0 tallies up)

  module _ (i : ℕ) (e : r ≡ Err i) where
    apart : (i ≤ length tallies) × ((k : ℕ) → k < i → get_or tallies k 0 < b) × ((k : ℕ) → i ≤ k → k < length tallies → b < get_or tallies k 0)
    apart = subst (λ (x : Result ℕ ℕ). Said x) e said

    below : (a k : ℕ) → b ≤ a → get_or tallies k 0 ≡ a → k < i → ⊥
    below a k low is lt = let less = apart.1 k lt in omega (arith, low, is, less)

    pub held_past : slice_get tallies i ≡ None → HoldsTally tallies b n → ⊥
    held_past none held =
        let at = contains_get tallies held.0 held.3 in
        let inside = at.1 in
        below held.0 at.0 held.1 at.2 (elim (cases_lt i (length tallies)) [
          | inl lt ↦ absurd (not_past tallies i lt none)
          | inr le ↦ omega (arith, le, inside)
        ])

    pub held_next : (t : ℕ) → slice_get tallies i ≡ Some t → (is_in : Bool) → IsTrue is_in ↔ ((b ≤ t) × (t < b + n)) → IsTrue is_in ↔ HoldsTally tallies b n
    held_next t here is_in h = (λ is. let w = h.0 is in (t, w.0, w.1, subst (λ (a : ℕ). Contains tallies a) same (contains_at tallies i lt)), back)
      where
        lt : i < length tallies
        lt = slice_get_within tallies i t here

        same : get_or tallies i 0 ≡ t
        same = get_or_from_slice_get tallies i t 0 here

        back : HoldsTally tallies b n → IsTrue is_in
        back held =
            let at = contains_get tallies held.0 held.3 in
            let inside = at.1 in
            let is = at.2 in
            let high = held.2 in
            elim (cases_lt at.0 i) [
              | inl less ↦ absurd (below held.0 at.0 held.1 is less)
              | inr le ↦
                  let above = apart.2 i (omega arith) lt in
                  let rising = rises 0 tallies up i at.0 le inside in
                  h.1 (omega (arith, above, same), omega (arith, rising, same, is, high))
            ]

pub no_tally : (r : Bool) (m : Module) (b n : ℕ) → IsTrue r ↔ HoldsTally m.tallies b n → IsTrue (not r) ↔ HoldsNoTally m b n
no_tally true m b n h = (λ no. absurd cc, λ none. let found = h.0 refl in absurd (none found.0 found.1 found.2 found.3))
no_tally false m b n h = (λ yes a le lt is. let no : false ≡ true = h.1 (a, le, lt, is) in cc, λ none. refl)

pub one_tally : (r : Bool) (tallies : List ℕ) (a : ℕ) → IsTrue r ↔ HoldsTally tallies a 1 → IsTrue r ↔ Contains tallies a
one_tally r tallies a h = (λ yes. at (h.0 yes), λ is. h.1 (a, omega arith, omega arith, is))
  where
    at : HoldsTally tallies a 1 → Contains tallies a
    at (x, le, lt, is) = let same : x ≡ a = omega (arith, le, lt) in subst (λ (y : ℕ). Contains tallies y) same is
