-- Lemmas on lists, options and truths that several crates cite.
use Rattle.std.proofs.Common.{◌≡◌, ℕ, suc, ◌+◌, ◌<◌, length, get_or, drop, add-one, drop-cons, Bool, true, false, not, ◌&&◌, List, [], ◌∷◌, ◌++◌, Option, Some, refl, sym, ap, ◌∙◌}

-- an option has one value at most
pub some_same : {A : Type 0} (x y : A) (o : Option A) → o ≡ Some x → o ≡ Some y → x ≡ y
some_same x y o p q = cc

pub some_equal : {A : Type 0} {x y : A} → Some x ≡ Some y → x ≡ y
some_equal e = cc

-- an item of a list and those after it
pub next_item : {A : Type 0} (s : List A) (i : ℕ) (x : A) → i < length s → x ≡ get_or s i x → drop i s ≡ x ∷ drop (i + 1) s
next_item s i x lt is = rw add-one (drop-cons s i x lt ∙ ap (λ y. y ∷ drop (suc i) s) (sym is))

-- nothing behind a list
pub append_none : {X : Type 0} (xs : List X) → xs ++ [] ≡ xs
append_none [] = refl
append_none (x ∷ xs) = ap (λ r. x ∷ r) (append_none xs)

-- both of two truths
pub and_left : (a b : Bool) → a && b ≡ true → a ≡ true
and_left true b e = refl
and_left false b e = cc

pub and_right : (a b : Bool) → a && b ≡ true → b ≡ true
and_right true b e = e
and_right false b e = cc

-- what is not false
pub true_of : (b : Bool) → not b ≡ false → b ≡ true
true_of true e = refl
true_of false e = cc
