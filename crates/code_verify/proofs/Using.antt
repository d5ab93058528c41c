-- Which functions read or set a tally word, found one after another.
use Rattle.std.proofs.Common.{◌≡◌, ℕ, zero, suc, ◌<◌, ◌≤◌, Bool, true, List, [], ◌∷◌, ◌++◌, length, Option, Some, None, inl, inr, refl, sym, ap, subst, ◌∙◌, arith}
use Rattle.std.specs.Prelude.{slice_get, IsTrue, ◌↔◌}
use Rattle.std.proofs.lemmas.Bool.{cases_lt}
use Rattle.std.proofs.lemmas.List.{length-append}
use Rattle.std.proofs.lemmas.Option.{slice_get_within}
use Rattle.bytecode.specs.declared.instr.Instr.{Instr}
use Rattle.bytecode.specs.declared.instr.Instr.TheVariants as i
use Rattle.bytecode.specs.declared.module.Code.{Code}
use Rattle.bytecode.specs.declared.module.Module.{Module}
use Rattle.code_verify.specs.Rules.{Stands, ReadsOrSetsTally, UsesTally, UsesNoTally, Itself, Through}
use Rattle.code_verify.specs.Tests.{UsesBy, SomeUses, CallBackwards, TellsUses}
use Rattle.code_verify.proofs.Walking.{not_past, some_is}

pub get_before : {A : Type 0} (xs : List A) (x : A) (n : ℕ) → n < length xs → slice_get (xs ++ x ∷ []) n ≡ slice_get xs n
get_before [] x n lt = absurd (omega arith)
get_before (y ∷ xs) x zero lt = refl
get_before (y ∷ xs) x (suc n) lt = let less : n < length xs = omega arith in get_before xs x n less

pub get_last : {A : Type 0} (xs : List A) (x : A) → slice_get (xs ++ x ∷ []) (length xs) ≡ Some x
get_last [] x = refl
get_last (y ∷ xs) x = get_last xs x

pub no_uses : (m : Module) (uses : List Bool) → uses ≡ [] → TellsUses m uses (length uses)
no_uses m uses e = record { long = refl; told = λ f lt. absurd (let none : length uses ≡ 0 = ap length e in omega (arith, lt, none)) }

-- what an instruction of a function uses
module _ (m : Module) (backwards : CallBackwards m) (uses : List Bool) (tells : TellsUses m uses (length uses)) (c : Code) (at : slice_get m.functions (length uses) ≡ Some c) where
  use_of : (place : ℕ) (x : Instr) → Stands c place x → UsesBy m uses x → UsesTally m (length uses)
  use_of place (i.Word a) st u = Itself (length uses) c place (i.Word a) at st u
  use_of place (i.Put a) st u = Itself (length uses) c place (i.Put a) at st u
  use_of place (i.Call g) st u = Through (length uses) g c place at st ((tells.told g (slice_get_within uses g true u)).0 u)
  use_of place _ st u = absurd u

  found_by : (x : Instr) → ReadsOrSetsTally m x → UsesBy m uses x
  found_by (i.Word a) r = r
  found_by (i.Put a) r = r
  found_by _ r = absurd r

  uses_found : (f : ℕ) → f ≡ length uses → UsesTally m f → SomeUses m uses c
  uses_found f e (Itself f' c' place x at' st r) =
      let same : c' ≡ c = some_is c' c (slice_get m.functions f) at' (ap (slice_get m.functions) e ∙ at) in
      record { place = place; instr = x; stands = subst (λ (d : Code). Stands d place x) same st; found = found_by x r }
  uses_found f e (Through f' g c' place at' st u) =
      let same : c' ≡ c = some_is c' c (slice_get m.functions f) at' (ap (slice_get m.functions) e ∙ at) in
      let le = backwards f c' place g at' st in
      elim (cases_lt g (length uses)) [
        | inl lt ↦ record { place = place; instr = i.Call g; stands = subst (λ (d : Code). Stands d place (i.Call g)) same st; found = (tells.told g lt).1 u }
        | inr ge ↦ uses_found g (omega (arith, le, ge, e)) u
      ]

  pub tells_next : (used : Bool) → IsTrue used ↔ SomeUses m uses c → TellsUses m (uses ++ used ∷ []) (length (uses ++ used ∷ []))
  tells_next used h = record { long = refl; told = told }
    where
      last : (Some used ≡ Some true) ↔ UsesTally m (length uses)
      last = (λ e. let yes : used ≡ true = cc in let s = h.0 yes in use_of s.place s.instr s.stands s.found, λ u. ap (λ (b : Bool). Some b) (h.1 (uses_found (length uses) refl u)))

      told : (f : ℕ) → f < length (uses ++ used ∷ []) → (slice_get (uses ++ used ∷ []) f ≡ Some true) ↔ UsesTally m f
      told f lt = elim (cases_lt f (length uses)) [
        | inl less ↦ subst (λ (o : Option Bool). (o ≡ Some true) ↔ UsesTally m f) (sym (get_before uses used f less)) (tells.told f less)
        | inr ge ↦
            let long = length-append uses (used ∷ []) in
            let same : length uses ≡ f = omega (arith, lt, ge, long) in
            subst (λ (n : ℕ). (slice_get (uses ++ used ∷ []) n ≡ Some true) ↔ UsesTally m n) same
            (subst (λ (o : Option Bool). (o ≡ Some true) ↔ UsesTally m (length uses)) (sym (get_last uses used)) last)
      ]

pub all_told : (m : Module) (uses : List Bool) → length uses ≤ length m.functions → slice_get m.functions (length uses) ≡ None → TellsUses m uses (length uses) → TellsUses m uses (length m.functions)
all_told m uses within none tells =
    elim (cases_lt (length uses) (length m.functions)) [
      | inl lt ↦ absurd (not_past m.functions (length uses) lt none)
      | inr ge ↦ subst (λ (n : ℕ). TellsUses m uses n) (omega (arith, within, ge)) tells
    ]

-- ---- what a block may not use

used_function : (m : Module) (f : ℕ) → UsesTally m f → f < length m.functions
used_function m f (Itself f' c place x at st r) = slice_get_within m.functions f c at
used_function m f (Through f' g c place at st u) = slice_get_within m.functions f c at

module _ (m : Module) (uses : List Bool) (tells : TellsUses m uses (length m.functions)) where
  pub uses_clash : (x : Instr) → UsesNoTally m x → UsesBy m uses x → ⊥
  uses_clash (i.Word a) n u = n u
  uses_clash (i.Put a) n u = n u
  uses_clash (i.Call g) n u =
      let lt = slice_get_within uses g true u in
      let long = tells.long in
      n ((tells.told g (omega (arith, lt, long))).0 u)
  uses_clash _ n u = u

  pub uses_none : (c : Code) (place : ℕ) (x : Instr) → Stands c place x → (SomeUses m uses c → ⊥) → UsesNoTally m x
  uses_none c place (i.Word a) st quiet = λ is. quiet (record { place = place; instr = i.Word a; stands = st; found = is })
  uses_none c place (i.Put a) st quiet = λ is. quiet (record { place = place; instr = i.Put a; stands = st; found = is })
  uses_none c place (i.Call g) st quiet = λ u. quiet (record { place = place; instr = i.Call g; stands = st; found = (tells.told g (used_function m g u)).1 u })
  uses_none c place _ st quiet = tt
