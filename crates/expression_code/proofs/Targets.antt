-- Branches and jumps that get their places when what they skip is written.
use Rattle.std.proofs.Common.{◌≡◌, ℕ, ◌+◌, List, [], ◌∷◌, ◌++◌, length, refl, ap, ◌∙◌, arith, append_assoc, length-append, slice_set}
use Rattle.csl_tree.specs.declared.program.Program.{Program}
use Rattle.csl_tree.specs.declared.program.BinaryOp.TheVariants.{And, Or}
use Rattle.csl_tree.specs.declared.program.Expr.{Expr}
use Rattle.bytecode.specs.declared.instr.Instr.{Instr}
use Rattle.bytecode.specs.declared.instr.Instr.TheVariants as i
use Rattle.compiled_code.specs.Slots.{Slots}
use Rattle.compiled_code.specs.Sizes.{size_of}
use Rattle.compiled_code.specs.Values.{code_of}
use Rattle.compiled_code.proofs.Lengths.{expr_length}
use Rattle.expression_code.specs.Lists.{right_code}

-- an entry is set
pub set_there : {X : Type 0} (xs : List X) (x y : X) (ys : List X) → slice_set (xs ++ x ∷ ys) (length xs) y ≡ xs ++ y ∷ ys
set_there [] x y ys = refl
set_there (z ∷ xs) x y ys = ap (λ l. z ∷ l) (set_there xs x y ys)

one_more : {X : Type 0} (xs ys : List X) (x : X) → ys ≡ xs ++ x ∷ [] → length ys ≡ length xs + 1
one_more xs ys x e = ap length e ∙ length-append xs (x ∷ [])

module _ (p : Program) (slots : Slots) (b : Expr) (l : List Instr) where
  -- an instruction and the operand behind it
  behind : (x : Instr) (one two : List Instr) → one ≡ l ++ x ∷ [] → two ≡ one ++ code_of p slots b (length one) → two ≡ l ++ x ∷ code_of p slots b (length l + 1)
  behind x one two first second =
      second ∙ (λ j. first j ++ code_of p slots b (one_more l one x first j)) ∙ append_assoc l (x ∷ []) (code_of p slots b (length l + 1))

  behind_long : (x : Instr) (one two : List Instr) → one ≡ l ++ x ∷ [] → two ≡ one ++ code_of p slots b (length one) → length two ≡ length l + 1 + size_of b
  behind_long x one two first second =
      let whole = ap length (behind x one two first second) ∙ length-append l (x ∷ code_of p slots b (length l + 1)) in
      let own = expr_length p slots b (length l + 1) in
      omega (arith, whole, own)

  module _ (one two three four : List Instr) (no end : ℕ) (first : one ≡ l ++ i.Branch 0 ∷ []) (second : two ≡ one ++ code_of p slots b (length one)) (third : three ≡ two ++ i.Jump end ∷ [])
      (fourth : four ≡ three ++ i.False ∷ []) where
    and_whole : four ≡ l ++ (i.Branch 0 ∷ (code_of p slots b (length l + 1) ++ i.Jump end ∷ i.False ∷ []))
    and_whole =
        let code : List Instr = code_of p slots b (length l + 1) in
        fourth ∙ ap (λ c. c ++ i.False ∷ []) (third ∙ ap (λ c. c ++ i.Jump end ∷ []) (behind (i.Branch 0) one two first second))
        ∙ append_assoc (l ++ i.Branch 0 ∷ code) (i.Jump end ∷ []) (i.False ∷ [])
        ∙ append_assoc l (i.Branch 0 ∷ code) (i.Jump end ∷ i.False ∷ [])

    -- the right operand of an `&&` is written
    pub and_written : (new : List Instr) → no ≡ length two + 1 → end ≡ no + 1 → new ≡ slice_set four (length l) (i.Branch no)
        → new ≡ l ++ right_code And (length l) (size_of b) (λ at. code_of p slots b at)
    and_written new no_is end_is e =
        let long = behind_long (i.Branch 0) one two first second in
        let no_at : no ≡ length l + 1 + size_of b + 1 = omega (arith, long, no_is) in
        let end_at : end ≡ length l + 1 + size_of b + 2 = omega (arith, no_at, end_is) in
        e ∙ ap (λ c. slice_set c (length l) (i.Branch no)) and_whole
        ∙ set_there l (i.Branch 0) (i.Branch no) (code_of p slots b (length l + 1) ++ i.Jump end ∷ i.False ∷ [])
        ∙ (λ j. l ++ (i.Branch (no_at j) ∷ (code_of p slots b (length l + 1) ++ i.Jump (end_at j) ∷ i.False ∷ [])))

-- the right operand of an `||` is written
module _ (p : Program) (slots : Slots) (b : Expr) (l one two three four : List Instr) (other : ℕ) (first : one ≡ l ++ i.Branch other ∷ []) (second : two ≡ one ++ i.True ∷ [])
    (third : three ≡ two ++ i.Jump 0 ∷ []) (fourth : four ≡ three ++ code_of p slots b (length three)) where
  two_long : length two ≡ length l + 2
  two_long = let a = one_more l one (i.Branch other) first in let c = one_more one two i.True second in omega (arith, a, c)

  two_is : two ≡ l ++ i.Branch other ∷ i.True ∷ []
  two_is = second ∙ ap (λ c. c ++ i.True ∷ []) first ∙ append_assoc l (i.Branch other ∷ []) (i.True ∷ [])

  pub or_written : (new : List Instr) (end : ℕ) → other ≡ length l + 3 → end ≡ length four → new ≡ slice_set four (length two) (i.Jump end)
      → new ≡ l ++ right_code Or (length l) (size_of b) (λ at. code_of p slots b at)
  or_written new end other_is end_is e =
      let long = behind_long p slots b two (i.Jump 0) three four third fourth in
      let short = two_long in
      let at : length two + 1 ≡ length l + 3 = omega (arith, short) in
      let end_at : end ≡ length l + 3 + size_of b = omega (arith, long, short, end_is) in
      let code : List Instr = code_of p slots b (length l + 3) in
      e ∙ ap (λ c. slice_set c (length two) (i.Jump end)) (behind p slots b two (i.Jump 0) three four third fourth)
      ∙ set_there two (i.Jump 0) (i.Jump end) (code_of p slots b (length two + 1))
      ∙ (λ j. two_is j ++ i.Jump (end_at j) ∷ code_of p slots b (at j))
      ∙ append_assoc l (i.Branch other ∷ i.True ∷ []) (i.Jump (length l + 3 + size_of b) ∷ code)
      ∙ (λ j. l ++ i.Branch (other_is j) ∷ i.True ∷ i.Jump (length l + 3 + size_of b) ∷ code)
