-- The first memory of a program's module, and the kinds of what a step leaves.
use Rattle.std.proofs.Common.{◌≡◌, ℕ, zero, suc, ◌+◌, ◌<◌, Bool, true, false, if◌then◌else◌, [], ◌∷◌, length, map, Option, Some, None, Ok, Err, refl, sym, ap, ◌∙◌, arith}
use Rattle.std.specs.Prelude.{ℤ, pos, slice_get, find, ◌==◌, ◌||◌, nat_lt}
use Rattle.std.specs.List.{list_any, range_with_len, enumerate_from, position}
use Rattle.std.specs.Option.{option_map_or}
use Rattle.std.specs.Ordering.{int_eq}
use Rattle.std.proofs.lemmas.Bool.{eq-eqb, ne_eqb}
use Rattle.std.proofs.lemmas.Bool.Decides.{Decides-int_eq}
use Rattle.cal_base.specs.declared.step.Word.{Word}
use Rattle.cal_terms.specs.declared.kinds.WordKind.{WordKind}
use Rattle.cal_terms.specs.declared.kinds.WordKind.TheVariants.{Ordinary, Tally}
use Rattle.cal_base.specs.Memory.{Memory, kinds_of, kind_at, value_at}
use Rattle.cal_base.specs.Pages.{first_kind, first_value}
use Rattle.cal_base.specs.Claims.{StepJob, meant}
use Rattle.cal_base.specs.Answers.{Answers}
use Rattle.cal_base.specs.After.{after, merged_memory, is_outside, unless_outside, value_after, least_faulty, fault_of}
use Rattle.csl_tree.specs.declared.program.Program.{Program}
use Rattle.csl_meaning.specs.Layout as layout
use Rattle.machine_meaning.specs.Meaning.{module_memory}
use Rattle.compiled_code.specs.Modules.{with_tally, tallies_from, initial_from, module_of}
use Rattle.compiled_code.proofs.Kept.{listed_tally}

-- ---- the first memory

-- an address before the first has no tally word
none_before : (n from : ℕ) (memory : Memory) → n < from → list_any (λ t. t == n) (tallies_from from memory) ≡ false
none_before n from [] lt = refl
none_before n from (w ∷ memory) lt = by w.kind (none_before n (suc from) memory (omega arith))
  where
    by : (kind : WordKind) → list_any (λ t. t == n) (tallies_from (suc from) memory) ≡ false → list_any (λ t. t == n) (with_tally kind from (tallies_from (suc from) memory)) ≡ false
    by Ordinary h = h
    by Tally h = ap (λ (b : Bool). b || list_any (λ t. t == n) (tallies_from (suc from) memory)) (ne_eqb from n (λ e. omega (arith, e, lt))) ∙ h

not_listed : (memory : Memory) (from a : ℕ) → kind_at memory a ≡ Ordinary → list_any (λ t. t == from + a) (tallies_from from memory) ≡ false
not_listed [] from a e = refl
not_listed (w ∷ memory) from zero e = by w.kind e
  where
    at : from + 0 ≡ from
    at = omega arith

    by : (kind : WordKind) → kind ≡ Ordinary → list_any (λ t. t == from + 0) (with_tally kind from (tallies_from (suc from) memory)) ≡ false
    by Ordinary is = ap (λ (n : ℕ). list_any (λ t. t == n) (tallies_from (suc from) memory)) at ∙ none_before from (suc from) memory (omega arith)
    by Tally is = absurd cc
not_listed (w ∷ memory) from (suc a) e = by w.kind (not_listed memory (suc from) a e)
  where
    at : from + suc a ≡ suc from + a
    at = omega arith

    by : (kind : WordKind) → list_any (λ t. t == suc from + a) (tallies_from (suc from) memory) ≡ false
        → list_any (λ t. t == from + suc a) (with_tally kind from (tallies_from (suc from) memory)) ≡ false
    by Ordinary h = ap (λ (n : ℕ). list_any (λ t. t == n) (tallies_from (suc from) memory)) at ∙ h
    by Tally h =
        ap (λ (b : Bool). b || list_any (λ t. t == from + suc a) (tallies_from (suc from) memory)) (ne_eqb from (from + suc a) (λ e'. omega (arith, e')))
        ∙ ap (λ (n : ℕ). list_any (λ t. t == n) (tallies_from (suc from) memory)) at ∙ h

kind_first : (memory : Memory) (a : ℕ) → first_kind (tallies_from 0 memory) a ≡ kind_at memory a
kind_first memory a = by (kind_at memory a) refl
  where
    at : 0 + a ≡ a
    at = omega arith

    by : (kind : WordKind) → kind_at memory a ≡ kind → (if list_any (λ t. t == a) (tallies_from 0 memory) then Tally else Ordinary) ≡ kind
    by Ordinary e = ap (λ (n : ℕ). if list_any (λ t. t == n) (tallies_from 0 memory) then Tally else Ordinary) (sym at) ∙ ap (λ (b : Bool). if b then Tally else Ordinary) (not_listed memory 0 a e)
    by Tally e = ap (λ (n : ℕ). if list_any (λ t. t == n) (tallies_from 0 memory) then Tally else Ordinary) (sym at) ∙ ap (λ (b : Bool). if b then Tally else Ordinary) (listed_tally memory 0 a e)

-- an address before the first has no value
no_value : (n from : ℕ) (memory : Memory) → n < from → find (λ e. e.0 == n) (initial_from from memory) ≡ None
no_value n from [] lt = refl
no_value n from (w ∷ memory) lt = by (int_eq w.value (pos 0)) (no_value n (suc from) memory (omega arith))
  where
    by : (b : Bool) → find (λ e. e.0 == n) (initial_from (suc from) memory) ≡ None → find (λ e. e.0 == n)
        (if b then initial_from (suc from) memory else (from, w.value) ∷ initial_from (suc from) memory) ≡ None
    by true h = h
    by false h = ap (λ (b : Bool). if b then Some (from, w.value) else find (λ e. e.0 == n) (initial_from (suc from) memory)) (ne_eqb from n (λ e. omega (arith, e, lt))) ∙ h

value_first : (memory : Memory) (from a : ℕ) → option_map_or (λ e. e.1) (find (λ e. e.0 == from + a) (initial_from from memory)) (pos 0) ≡ value_at memory a
value_first [] from a = refl
value_first (w ∷ memory) from zero = by (int_eq w.value (pos 0)) refl
  where
    at : from + 0 ≡ from
    at = omega arith

    by : (b : Bool) → int_eq w.value (pos 0) ≡ b → option_map_or (λ e. e.1) (find (λ e. e.0 == from + 0)
        (if b then initial_from (suc from) memory else (from, w.value) ∷ initial_from (suc from) memory)) (pos 0) ≡ w.value
    by true e = ap (λ (n : ℕ). option_map_or (λ x. x.1) (find (λ x. x.0 == n) (initial_from (suc from) memory)) (pos 0)) at
        ∙ ap (λ (o : Option (ℕ × ℤ)). option_map_or (λ x. x.1) o (pos 0)) (no_value from (suc from) memory (omega arith)) ∙ sym ((Decides-int_eq w.value (pos 0)).0 e)
    by false e = ap (λ (b : Bool). option_map_or (λ x. x.1) (if b then Some (from, w.value) else find (λ x. x.0 == from + 0) (initial_from (suc from) memory)) (pos 0))
        (eq-eqb from (from + 0) (omega arith))
value_first (w ∷ memory) from (suc a) = by (int_eq w.value (pos 0)) (value_first memory (suc from) a)
  where
    at : from + suc a ≡ suc from + a
    at = omega arith

    by : (b : Bool) → option_map_or (λ e. e.1) (find (λ e. e.0 == suc from + a) (initial_from (suc from) memory)) (pos 0) ≡ value_at memory a
        → option_map_or (λ e. e.1) (find (λ e. e.0 == from + suc a) (if b then initial_from (suc from) memory else (from, w.value) ∷ initial_from (suc from) memory)) (pos 0) ≡ value_at memory a
    by true h = ap (λ (n : ℕ). option_map_or (λ x. x.1) (find (λ x. x.0 == n) (initial_from (suc from) memory)) (pos 0)) at ∙ h
    by false h =
        ap (λ (b : Bool). option_map_or (λ x. x.1) (if b then Some (from, w.value) else find (λ x. x.0 == from + suc a) (initial_from (suc from) memory)) (pos 0))
        (ne_eqb from (from + suc a) (λ e. omega (arith, e)))
        ∙ ap (λ (n : ℕ). option_map_or (λ x. x.1) (find (λ x. x.0 == n) (initial_from (suc from) memory)) (pos 0)) at ∙ h

-- a list by its elements
by_elements : (f : ℕ → Word) (from : ℕ) (memory : Memory) → ((k : ℕ) (w : Word) → slice_get memory k ≡ Some w → f (from + k) ≡ w) → map f (range_with_len from (length memory)) ≡ memory
by_elements f from [] h = refl
by_elements f from (w ∷ memory) h =
    let at : from + 0 ≡ from = omega arith in
    let first : f from ≡ w = ap f (sym at) ∙ h 0 w refl in
    let rest = by_elements f (from + 1) memory (λ k x e. let next_at : from + 1 + k ≡ from + suc k = omega arith in ap f next_at ∙ h (suc k) x e) in
    λ i. first i ∷ rest i

word_of : (memory : Memory) (k : ℕ) (w : Word) → slice_get memory k ≡ Some w → (kind_at memory k ≡ w.kind) × (value_at memory k ≡ w.value)
word_of memory k w e = (ap (λ (o : Option Word). option_map_or (λ x. x.kind) o Ordinary) e, ap (λ (o : Option Word). option_map_or (λ x. x.value) o (pos 0)) e)

-- the module begins on the program's first memory
pub first_same : (p : Program) → module_memory (module_of p) ≡ layout.first_memory p.shared
first_same p =
    let m = layout.first_memory p.shared in
    by_elements (λ a. record { kind = first_kind (tallies_from 0 m) a; value = first_value (initial_from 0 m) a }) 0 m (λ k w e.
    let at : 0 + k ≡ k = omega arith in
    let is = word_of m k w e in
    let kind : first_kind (tallies_from 0 m) (0 + k) ≡ w.kind = kind_first m (0 + k) ∙ ap (λ (n : ℕ). kind_at m n) at ∙ is.0 in
    let value : first_value (initial_from 0 m) (0 + k) ≡ w.value = value_first m 0 k ∙ is.1 in
    λ i. record { kind = kind i; value = value i })

-- ---- what a step leaves

merged_kinds : (memory : Memory) (answers : Answers) → kinds_of (merged_memory memory answers) ≡ kinds_of memory
unfolding merged_memory
merged_kinds memory answers = by memory 0
  where
    by : (ws : Memory) (n : ℕ) → kinds_of (map (λ (place : ℕ × Word). record { kind = place.1.kind; value = value_after place.1.kind answers place.0 place.1.value }) (enumerate_from n ws)) ≡ kinds_of
        ws
    by [] n = refl
    by (w ∷ ws) n = let rest = by ws (n + 1) in λ i. w.kind ∷ rest i

after_kinds : (memory later : Memory) (answers : Answers) → after memory answers ≡ Ok later → kinds_of later ≡ kinds_of memory
unfolding after
after_kinds memory later answers e = by (nat_lt (least_faulty (kinds_of memory) answers) (length answers)) e
  where
    outside : (o : Option ℕ) → unless_outside o (merged_memory memory answers) ≡ Ok later → kinds_of later ≡ kinds_of memory
    outside (Some a) e' = absurd cc
    outside None e' = let same : merged_memory memory answers ≡ later = cc in ap (λ (x : Memory). kinds_of x) (sym same) ∙ merged_kinds memory answers

    by : (b : Bool) → (if b then Err (fault_of (kinds_of memory) answers (least_faulty (kinds_of memory) answers)) else unless_outside (position is_outside (merged_memory memory answers))
        (merged_memory memory answers)) ≡ Ok later → kinds_of later ≡ kinds_of memory
    by true e' = absurd cc
    by false e' = outside (position is_outside (merged_memory memory answers)) e'

-- a step leaves the kinds of the words
pub meant_kinds : (job : StepJob) (later : Memory) → meant job ≡ Ok later → kinds_of later ≡ kinds_of job.opening
meant_kinds job later e = after_kinds job.opening later _ e
