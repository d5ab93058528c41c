-- The kinds of the words stay.
use Rattle.std.proofs.Common.{◌≡◌, ℕ, zero, suc, ◌+◌, Bool, true, false, List, [], ◌∷◌, refl, sym, ap, ◌∙◌, arith}
use Rattle.std.specs.Prelude.{ℤ, slice_get, unwrap_or, ◌==◌, ◌&&◌, ◌||◌, not, nat_lt}
use Rattle.std.specs.List.{list_any}
use Rattle.std.specs.FinMap.{get}
use Rattle.std.proofs.lemmas.Bool.{eq-eqb, ne_eqb}
use Rattle.cal_base.specs.declared.value.Store.{Store}
use Rattle.cal_base.specs.declared.value.Store.TheVariants.{Main, Routine}
use Rattle.cal_terms.specs.declared.kinds.WordKind.{WordKind}
use Rattle.cal_terms.specs.declared.kinds.WordKind.TheVariants.{Ordinary, Tally}
use Rattle.cal_base.specs.Memory.{Memory, kinds_of, kind_at, value_at}
use Rattle.cal_base.specs.Stores.{memory_in, read_word, write_word, base_of, routine_base}
use Rattle.cal_base.proofs.Images.{kinds-with_value}
use Rattle.csl_tree.specs.declared.program.Program.{Program}
use Rattle.csl_meaning.specs.Layout.{first_memory}
use Rattle.machine_meaning.specs.Machine.{is_tally, may_use}
use Rattle.compiled_code.specs.Modules.{with_tally, tallies_from, module_of}
use Rattle.compiled_code.proofs.Does.{HasKinds}

-- a write leaves the kinds
pub written_kinds : (p : Program) (store : Store) (a : ℕ) (z : ℤ) → HasKinds p (memory_in store) → HasKinds p (memory_in (write_word store a z))
written_kinds p (Main memory) a z h = kinds-with_value memory a z ∙ h
written_kinds p (Routine opening written) a z h = h

-- the kind of a word, by the kinds
kind_by : (memory other : Memory) (a : ℕ) → kinds_of memory ≡ kinds_of other → kind_at memory a ≡ kind_at other a
kind_by memory other a e = by_kinds memory a ∙ ap (λ (ks : List WordKind). unwrap_or (slice_get ks a) Ordinary) e ∙ sym (by_kinds other a)
  where
    by_kinds : (m : Memory) (n : ℕ) → kind_at m n ≡ unwrap_or (slice_get (kinds_of m) n) Ordinary
    by_kinds [] n = refl
    by_kinds (w ∷ m) zero = refl
    by_kinds (w ∷ m) (suc n) = by_kinds m n

-- the tally words are listed
pub listed_tally : (memory : Memory) (from a : ℕ) → kind_at memory a ≡ Tally → list_any (λ t. t == from + a) (tallies_from from memory) ≡ true
listed_tally [] from a e = absurd cc
listed_tally (w ∷ memory) from zero e = here w.kind e
  where
    here : (kind : WordKind) → kind ≡ Tally → list_any (λ t. t == from + 0) (with_tally kind from (tallies_from (suc from) memory)) ≡ true
    here Ordinary is = absurd cc
    here Tally is = ap (λ (b : Bool). b || list_any (λ t. t == from + 0) (tallies_from (suc from) memory)) (eq-eqb from (from + 0) (omega arith))
listed_tally (w ∷ memory) from (suc a) e = later w.kind (listed_tally memory (suc from) a e)
  where
    same : from + suc a ≡ suc from + a
    same = omega arith

    later : (kind : WordKind) → list_any (λ t. t == suc from + a) (tallies_from (suc from) memory) ≡ true
        → list_any (λ t. t == from + suc a) (with_tally kind from (tallies_from (suc from) memory)) ≡ true
    later Ordinary h = ap (λ (n : ℕ). list_any (λ t. t == n) (tallies_from (suc from) memory)) same ∙ h
    later Tally h =
        ap (λ (b : Bool). b || list_any (λ t. t == from + suc a) (tallies_from (suc from) memory)) (ne_eqb from (from + suc a) (λ e'. omega (arith, e')))
        ∙ ap (λ (n : ℕ). list_any (λ t. t == n) (tallies_from (suc from) memory)) same ∙ h

tally_is : (p : Program) (memory : Memory) (a : ℕ) → HasKinds p memory → kind_at memory a ≡ Tally → is_tally (module_of p) a ≡ true
tally_is p memory a h e =
    let at : 0 + a ≡ a = omega arith in
    ap (λ (n : ℕ). list_any (λ t. t == n) (tallies_from 0 (first_memory p.shared))) (sym at) ∙ listed_tally (first_memory p.shared) 0 a (sym (kind_by memory (first_memory p.shared) a h) ∙ e)

-- a word that may be read and set is added to as it reads
pub base_same : (p : Program) (store : Store) (a : ℕ) → HasKinds p (memory_in store) → may_use (module_of p) store a ≡ true → base_of store a ≡ read_word store a
base_same p (Main memory) a h may = refl
base_same p (Routine opening written) a h may = by (kind_at opening a) refl
  where
    clash : (b c : Bool) → c ≡ true → b && not (true && c) ≡ true → ⊥
    clash true true e f = cc
    clash true false e f = cc
    clash false c e f = cc

    by : (kind : WordKind) → kind_at opening a ≡ kind → routine_base kind opening written a ≡ unwrap_or (get written a) (value_at opening a)
    by Ordinary e = refl
    by Tally e = absurd (clash (nat_lt a (module_of p).words) (is_tally (module_of p) a) (tally_is p opening a h e) may)
