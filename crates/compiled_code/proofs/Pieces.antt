-- Code that stands at a place.
use Rattle.std.proofs.Common.{◌≡◌, ℕ, zero, suc, ◌+◌, ◌<◌, List, [], ◌∷◌, ◌++◌, length, Some, ap, ◌∙◌, subst, arith, append_assoc, length-append}
use Rattle.std.specs.Prelude.{slice_get}
use Rattle.std.proofs.Math.Seq.{get_or-append_seam}
use Rattle.std.proofs.lemmas.Option.{slice_get-get_or}
use Rattle.bytecode.specs.declared.instr.Instr.{Instr}

-- the instructions stand in the code at this place
abbrev pub Holds : List Instr → ℕ → List Instr → Type 0
Holds code at [] = Unit {0}
Holds code at (i ∷ is) = (slice_get code at ≡ Some i) × Holds code (at + 1) is

pub front : (code : List Instr) (at : ℕ) (a b : List Instr) → Holds code at (a ++ b) → Holds code at a
front code at [] b h = tt
front code at (i ∷ a) b h = (h.0, front code (at + 1) a b h.1)

-- behind code of this length
pub back : (code : List Instr) (at : ℕ) (a b : List Instr) (n : ℕ) → length a ≡ n → Holds code at (a ++ b) → Holds code (at + n) b
back code at [] b n e h = let here : at ≡ at + n = omega (arith, e) in subst (λ (k : ℕ). Holds code k b) here h
back code at (i ∷ a) b zero e h = absurd (omega arith)
back code at (i ∷ a) b (suc n) e h =
    let place : at + 1 + n ≡ at + suc n = omega arith in
    let short : length a ≡ n = omega arith in
    subst (λ (k : ℕ). Holds code k b) place (back code (at + 1) a b n short h.1)

-- code stands behind what is written before it
pub stands : (is pre rest : List Instr) → Holds (pre ++ (is ++ rest)) (length pre) is
stands [] pre rest = tt
stands (i ∷ is) pre rest =
    let within : length pre < length (pre ++ i ∷ (is ++ rest)) = omega (arith, length-append pre (i ∷ (is ++ rest))) in
    let here = slice_get-get_or (pre ++ i ∷ (is ++ rest)) (length pre) i within ∙ ap Some (get_or-append_seam pre i (is ++ rest) i) in
    let n : length (pre ++ i ∷ []) ≡ length pre + 1 = omega (arith, length-append pre (i ∷ [])) in
    let others = stands is (pre ++ i ∷ []) rest in
    let others' = subst (λ (l : List Instr). Holds l (length (pre ++ i ∷ [])) is) (append_assoc pre (i ∷ []) (is ++ rest)) others in
    (here, subst (λ (k : ℕ). Holds (pre ++ i ∷ (is ++ rest)) k is) n others')
