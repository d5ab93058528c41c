-- Words that may be read and set.
use Rattle.std.proofs.Common.{◌≡◌, ℕ, zero, suc, ◌+◌, ◌<◌, Bool, true, false, not, ltb, cond, List, length, Option, Some, refl, sym, ap, zero-add, subst, ◌∙◌, arith}
use Rattle.std.specs.Prelude.{◌&&◌, slice_get}
use Rattle.std.specs.Option.{option_map, option_map_or}
use Rattle.std.specs.List.{range_with_len}
use Rattle.std.proofs.lemmas.Bool.{ltb-true}
use Rattle.std.proofs.lemmas.List.{length-map}
use Rattle.std.proofs.lemmas.List.FromFn.{length-range_with_len}
use Rattle.std.proofs.lemmas.Option.{slice_get-map}
use Rattle.cal_terms.specs.declared.kinds.WordKind.{WordKind}
use Rattle.cal_terms.specs.declared.kinds.WordKind.TheVariants.{Ordinary, Tally}
use Rattle.cal_base.specs.declared.value.Store.{Store}
use Rattle.cal_base.specs.declared.step.Word.{Word}
use Rattle.cal_base.specs.Memory.{kinds_of, is_ordinary, has_one_writer}
use Rattle.cal_base.specs.Pages.{first_kind, first_value}
use Rattle.cal_base.specs.Stores.{memory_in}
use Rattle.bytecode.specs.declared.module.Module.{Module}
use Rattle.machine_meaning.specs.Machine.{in_routine, is_tally, may_use}
use Rattle.machine_meaning.specs.Meaning.{module_memory}
use Rattle.routine_vm.specs.Sites.{MayUse}
use Rattle.routine_vm.specs.States.{HasWordsOf}

range_at : (a n k : ℕ) → k < n → slice_get (range_with_len a n) k ≡ Some (a + k)
range_at a zero k lt = absurd (omega arith)
range_at a (suc n) zero lt = ap (λ (x : ℕ). Some x) (omega arith)
range_at a (suc n) (suc k) lt = let e : a + 1 + k ≡ a + suc k = omega arith in range_at (a + 1) n k (omega arith) ∙ ap (λ (x : ℕ). Some x) e

both : (x y : Bool) → (x && y) ≡ true → (x ≡ true) × (y ≡ true)
both true true e = (refl, refl)
both true false e = absurd cc
both false y e = absurd cc

first_length : (m : Module) → length (kinds_of (module_memory m)) ≡ m.words
first_length m =
    length-map (module_memory m) (λ w. w.kind)
    ∙ length-map (range_with_len 0 m.words) (λ address. record { kind = first_kind m.tallies address; value = first_value m.initial address })
    ∙ length-range_with_len 0 m.words

-- a memory with the module's kinds has its words
pub words_long : (m : Module) (store : Store) → HasWordsOf m store → length (memory_in store) ≡ m.words
words_long m store e = sym (length-map (memory_in store) (λ w. w.kind)) ∙ ap length e ∙ first_length m

first_kind_at : (m : Module) (a : ℕ) → a < m.words → slice_get (kinds_of (module_memory m)) a ≡ Some (first_kind m.tallies a)
first_kind_at m a lt =
    slice_get-map (λ w. w.kind) (module_memory m) a
    ∙ ap (λ (o : Option Word). option_map (λ w. w.kind) o) (slice_get-map (λ address. record { kind = first_kind m.tallies address; value = first_value m.initial address }) (range_with_len 0 m.words)
    a)
    ∙ ap (λ (o : Option ℕ). option_map (λ (w : Word). w.kind) (option_map (λ address. record { kind = first_kind m.tallies address; value = first_value m.initial address }) o))
    (range_at 0 m.words a lt ∙ ap (λ (x : ℕ). Some x) (zero-add a))

ordinary_at : (m : Module) (a : ℕ) → a < m.words → is_tally m a ≡ false → is_ordinary (kinds_of (module_memory m)) a ≡ true
ordinary_at m a lt plain =
    ap (λ (o : Option WordKind). option_map_or has_one_writer o false) (first_kind_at m a lt)
    ∙ ap (λ (b : Bool). has_one_writer (cond b Tally Ordinary)) plain

plain_in : (m : Module) (store : Store) (a : ℕ) → in_routine store ≡ true → not (in_routine store && is_tally m a) ≡ true → is_tally m a ≡ false
plain_in m store a in_one e = told (in_routine store) (is_tally m a) in_one e
  where
    told : (r t : Bool) → r ≡ true → not (r && t) ≡ true → t ≡ false
    told true true in_one e = absurd cc
    told true false in_one e = refl
    told false t in_one e = absurd cc

-- a word that may be used is there, and in a routine it is ordinary
pub may_be_used : (m : Module) (store : Store) (a : ℕ) → HasWordsOf m store → may_use m store a ≡ true → MayUse store a
may_be_used m store a e may =
    let parts = both (ltb a m.words) (not (in_routine store && is_tally m a)) may in
    let lt = ltb-true a m.words parts.0 in
    let long = words_long m store e in
    record { range = omega (arith, lt, long); ordinary = λ in_one. subst (λ (ks : List WordKind). is_ordinary ks a ≡ true) (sym e) (ordinary_at m a lt (plain_in m store a in_one parts.1)) }
