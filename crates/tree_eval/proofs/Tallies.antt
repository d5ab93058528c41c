-- The addresses of the tally words of a memory.
use Rattle.std.proofs.Common.{◌≡◌, ◌<◌, ◌≤◌, ◌+◌, ℕ, zero, suc, length, List, [], ◌∷◌, ◌++◌, sym, ap, ◌∙◌, refl, arith, ⊎_elim}
use Rattle.std.specs.List.{All, range_with_len}
use Rattle.std.specs.List.Sorted.{IsStrictlyIncreasing}
use Rattle.std.specs.Prelude.{map}
use Rattle.std.proofs.lemmas.Bool.{cases_eq, ne_eqb}
use Rattle.std.proofs.lemmas.List.Elements.{All-nil, All-cons}
use Rattle.std.proofs.lemmas.List.Folds.{list_any_none}
use Rattle.std.proofs.Common.{cond, ◌==◌}
use Rattle.cal_terms.specs.declared.kinds.WordKind.{WordKind}
use Rattle.cal_terms.specs.declared.kinds.WordKind.TheVariants.{Ordinary, Tally}
use Rattle.cal_base.specs.Memory.{Memory, kinds_of, kind_at}
use Rattle.cal_base.specs.Pages.{first_kind, first_memory, first_value}
use Rattle.cal_base.proofs.Pages.{kind_more_same, kind_more_other}
use Rattle.tree_eval.specs.Merged.{AreTallies}

-- these ascend, from the first bound on and below the second
abbrev pub Ascends : ℕ → List ℕ → ℕ → Type 0
Ascends least [] bound = least ≤ bound
Ascends least (x ∷ xs) bound = (least ≤ x) × Ascends (x + 1) xs bound

bounds_apart : (least : ℕ) (xs : List ℕ) (bound : ℕ) → Ascends least xs bound → least ≤ bound
bounds_apart least [] bound h = h
bounds_apart least (x ∷ xs) bound h = omega (arith, h.0, bounds_apart (x + 1) xs bound h.1)

all_below : (least : ℕ) (xs : List ℕ) (bound : ℕ) → Ascends least xs bound → All (λ x. x < bound) xs
all_below least [] bound h = All-nil (λ x. x < bound)
all_below least (x ∷ xs) bound h = All-cons (λ y. y < bound) x xs (omega (arith, bounds_apart (x + 1) xs bound h.1)) (all_below (x + 1) xs bound h.1)

increasing : (least : ℕ) (xs : List ℕ) (bound : ℕ) → Ascends least xs bound → IsStrictlyIncreasing xs
increasing least [] bound h k lt = absurd (omega arith)
increasing least (x ∷ []) bound h k lt = absurd (omega arith)
increasing least (x ∷ y ∷ xs) bound h zero lt = let above = h.1.0 in omega (arith, above)
increasing least (x ∷ y ∷ xs) bound h (suc k) lt = let e : suc k + 1 ≡ suc (k + 1) = omega arith in rw e (increasing (x + 1) (y ∷ xs) bound h.1 k (omega arith))

ascends_more : (least : ℕ) (xs : List ℕ) (bound : ℕ) → Ascends least xs bound → Ascends least xs (bound + 1)
ascends_more least [] bound h = omega arith
ascends_more least (x ∷ xs) bound h = (h.0, ascends_more (x + 1) xs bound h.1)

ascends_push : (least : ℕ) (xs : List ℕ) (bound : ℕ) → Ascends least xs bound → Ascends least (xs ++ bound ∷ []) (bound + 1)
ascends_push least [] bound h = (h, omega arith)
ascends_push least (x ∷ xs) bound h = (h.0, ascends_push (x + 1) xs bound h.1)

-- these are the addresses of the tally words below this one
pub record AreFirst (n : ℕ) (tallies : List ℕ) (memory : Memory) : Type 0 where
  pub ascend : Ascends 0 tallies n
  pub kinds : (a : ℕ) → a < n → first_kind tallies a ≡ kind_at memory a

pub none_first : (tallies : List ℕ) (memory : Memory) → tallies ≡ [] → AreFirst 0 tallies memory
none_first tallies memory none = rw none (record { ascend = omega arith; kinds = λ a h. absurd (omega arith) })

-- a word past all listed ones is ordinary
past_all : (n : ℕ) (tallies : List ℕ) → Ascends 0 tallies n → first_kind tallies n ≡ Ordinary
past_all n tallies h =
    ap (λ b. cond b Tally Ordinary) (list_any_none (λ t. t == n) tallies (λ k d l. ne_eqb _ n (λ e. let below = all_below 0 tallies n h k d l in absurd (omega (arith, below, e)))))

pub first_ordinary : (n : ℕ) (tallies : List ℕ) (memory : Memory) (kind : WordKind) → AreFirst n tallies memory → Ordinary ≡ kind → kind ≡ kind_at memory n → AreFirst (n + 1) tallies memory
first_ordinary n tallies memory kind so_far is at = record {
  ascend = ascends_more 0 tallies n so_far.ascend;
  kinds = λ a h. ⊎_elim
      (λ (here : a ≡ n). ap (λ j. first_kind tallies j) here ∙ past_all n tallies so_far.ascend ∙ is ∙ at ∙ ap (λ j. kind_at memory j) (sym here))
      (λ (apart : a ≡ n → ⊥). so_far.kinds a (omega arith))
      (cases_eq a n);
}

pub first_tally : (n : ℕ) (tallies : List ℕ) (memory : Memory) (kind : WordKind) → AreFirst n tallies memory → Tally ≡ kind → kind ≡ kind_at memory n → AreFirst (n + 1) (tallies ++ n ∷ []) memory
first_tally n tallies memory kind so_far is at = record {
  ascend = ascends_push 0 tallies n so_far.ascend;
  kinds = λ a h. ⊎_elim
      (λ (here : a ≡ n). ap (λ j. first_kind (tallies ++ n ∷ []) j) here ∙ kind_more_same tallies n ∙ is ∙ at ∙ ap (λ j. kind_at memory j) (sym here))
      (λ (apart : a ≡ n → ⊥). kind_more_other tallies n a (λ e. apart (sym e)) ∙ so_far.kinds a (omega arith))
      (cases_eq a n);
}

pub all_first : (n : ℕ) (tallies : List ℕ) (memory : Memory) → n ≡ length memory → AreFirst n tallies memory → AreTallies tallies memory
all_first n tallies memory size so_far = record {
  within = λ k d l. let below = all_below 0 tallies n so_far.ascend k d l in omega (arith, below, size);
  ascend = increasing 0 tallies n so_far.ascend;
  kinds = λ a h. so_far.kinds a (omega (arith, h, size));
}

kinds_from : (tallies : List ℕ) (base : ℕ) (memory : Memory) → ((i : ℕ) → i < length memory → first_kind tallies (base + i) ≡ kind_at memory i)
    → kinds_of (map (λ address. record { kind = first_kind tallies address; value = first_value [] address }) (range_with_len base (length memory))) ≡ kinds_of memory
kinds_from tallies base [] h = refl
kinds_from tallies base (word ∷ memory) h =
    let here : first_kind tallies base ≡ word.kind = ap (λ j. first_kind tallies j) (let e : base ≡ base + 0 = omega arith in e) ∙ h 0 (omega arith) in
    let rest = kinds_from tallies (base + 1) memory (λ i l. ap (λ j. first_kind tallies j) (let e : (base + 1) + i ≡ base + suc i = omega arith in e) ∙ h (suc i) (omega arith)) in
    λ i. here i ∷ rest i

-- the first memory with these tally words has words of the same kinds
pub made_kinds : (tallies : List ℕ) (memory : Memory) → AreTallies tallies memory → kinds_of (first_memory (length memory) tallies []) ≡ kinds_of memory
made_kinds tallies memory are = kinds_from tallies 0 memory (λ i h. ap (λ j. first_kind tallies j) (let e : 0 + i ≡ i = omega arith in e) ∙ are.kinds i h)
