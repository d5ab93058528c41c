-- Numbers that ascend.
use Rattle.std.proofs.Common.{◌≡◌, ℕ, zero, suc, ◌+◌, List, [], ◌∷◌, arith}
use Rattle.std.specs.List.Sorted.{IsStrictlyIncreasing}
use Rattle.bytecode.specs.Spelling.{AreAscendingFrom}

pub ascending : (least : ℕ) (ns : List ℕ) → AreAscendingFrom least ns → IsStrictlyIncreasing ns
ascending least [] h k lt = absurd (omega arith)
ascending least (n ∷ []) h k lt = absurd (omega arith)
ascending least (n ∷ x ∷ ns) h zero lt = let above = h.1.0 in omega (arith, above)
ascending least (n ∷ x ∷ ns) h (suc k) lt = let e : suc k + 1 ≡ suc (k + 1) = omega arith in rw e (ascending (n + 1) (x ∷ ns) h.1 k (omega arith))
