-- The answers at hand.
use Rattle.std.proofs.Common.{◌≡◌, ◌<◌, ℕ, zero, suc, length, get_or, take, List, [], ◌∷◌, ◌++◌, Some, sym, refl, arith}
use Rattle.std.specs.Prelude.{slice_get}

-- an item that is there does not depend on the default
pub get_or_any : {A : Type 0} (xs : List A) (i : ℕ) (d e : A) → i < length xs → get_or xs i d ≡ get_or xs i e
get_or_any [] i d e within = absurd (omega arith)
get_or_any (x ∷ xs) zero d e within = refl
get_or_any (x ∷ xs) (suc i) d e within = get_or_any xs i d e (omega arith)

-- one element more
pub take_found : {A : Type 0} (xs : List A) (i : ℕ) (x : A) → slice_get xs i ≡ Some x → take i xs ++ x ∷ [] ≡ take (suc i) xs
take_found [] zero x at = absurd (cc)
take_found [] (suc i) x at = absurd (cc)
take_found (y ∷ xs) zero x at = let same : y ≡ x = cc in λ i. sym same i ∷ []
take_found (y ∷ xs) (suc i) x at = let rest = take_found xs i x at in λ j. y ∷ rest j
