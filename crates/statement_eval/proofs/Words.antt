-- Words of the memory and locals, one of them changed.
use Rattle.std.proofs.Common.{◌≡◌, ℕ, zero, suc, ℤ, ◌<◌, length, take, drop, get_or, set, true, if◌then◌else◌, List, [], ◌∷◌, ◌++◌, Some, None, refl, sym, ap, ◌∙◌, subst, arith}
use Rattle.std.specs.Prelude.{slice_get}
use Rattle.std.specs.Str.{bytes_eq}
use Rattle.cal_base.specs.declared.value.Val.{Val}
use Rattle.cal_base.specs.declared.step.Word.{Word}
use Rattle.cal_base.specs.Memory.{Memory, with_value}
use Rattle.csl_meaning.specs.declared.state.Local.{Local}
use Rattle.csl_meaning.specs.Locals.{Locals, set_local}

-- a word that is there
pub with_value-there : (memory : Memory) (a : ℕ) (v : ℤ) (word : Word) → Some word ≡ slice_get memory a → set memory a (record { kind = word.kind; value = v }) ≡ with_value memory a v
with_value-there [] a v word e = refl
with_value-there (w ∷ memory) zero v word e = let same : word ≡ w = cc in λ i. record { kind = (same i).kind; value = v } ∷ memory
with_value-there (w ∷ memory) (suc a) v word e = ap (λ m. w ∷ m) (with_value-there memory a v word e)

-- a word that is not there
pub with_value-none : (memory : Memory) (a : ℕ) (v : ℤ) → None ≡ slice_get memory a → memory ≡ with_value memory a v
with_value-none [] a v e = refl
with_value-none (w ∷ memory) zero v e = cc
with_value-none (w ∷ memory) (suc a) v e = ap (λ m. w ∷ m) (with_value-none memory a v e)

-- the first local with this name stands at this place
pub set_local-there : (all : Locals) (i : ℕ) (x : Local) (name : List ℕ) (v : Val) → i < length all → x ≡ get_or all i x → bytes_eq x.name name ≡ true
    → set all i (record { name = x.name; value = v }) ≡ take i all ++ set_local (drop i all) name v
set_local-there [] i x name v lt is same = absurd (omega arith)
set_local-there (l ∷ rest) zero x name v lt is same =
    ap (λ (y : Local). record { name = y.name; value = v } ∷ rest) is
    ∙ sym (ap (λ b. if b then record l { value = v } ∷ rest else l ∷ set_local rest name v) (subst (λ (y : Local). bytes_eq y.name name ≡ true) is same))
set_local-there (l ∷ rest) (suc i) x name v lt is same = ap (λ m. l ∷ m) (set_local-there rest i x name v (omega arith) is same)
