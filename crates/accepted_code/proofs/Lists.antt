-- What holds of each entry of a list.
use Rattle.std.proofs.Common.{◌≡◌, ℕ, zero, suc, List, [], ◌∷◌, ◌++◌, Some, map, refl, subst}
use Rattle.std.specs.Prelude.{slice_get}
use Rattle.std.specs.List.{AllByRecursion}

-- of each entry of two lists, if of each entry of both
pub all_both : {A : Type 0} (P : A → Type 0) (xs ys : List A) → AllByRecursion P xs → AllByRecursion P ys → AllByRecursion P (xs ++ ys)
all_both P [] ys h g = g
all_both P (x ∷ xs) ys h g = (h.0, all_both P xs ys h.1 g)

-- so it holds of each entry of the first, and of the second
pub all_in_first : {A : Type 0} (P : A → Type 0) (xs ys : List A) → AllByRecursion P (xs ++ ys) → AllByRecursion P xs
all_in_first P [] ys h = tt
all_in_first P (x ∷ xs) ys h = (h.0, all_in_first P xs ys h.1)

pub all_in_second : {A : Type 0} (P : A → Type 0) (xs ys : List A) → AllByRecursion P (xs ++ ys) → AllByRecursion P ys
all_in_second P [] ys h = h
all_in_second P (x ∷ xs) ys h = all_in_second P xs ys h.1

-- what holds of each holds of the one at an index
pub all_at : {A : Type 0} (P : A → Type 0) (xs : List A) (k : ℕ) (x : A) → AllByRecursion P xs → slice_get xs k ≡ Some x → P x
all_at P [] k x all e = absurd cc
all_at P (y ∷ xs) zero x all e = let same : y ≡ x = cc in subst P same all.0
all_at P (y ∷ xs) (suc k) x all e = all_at P xs k x all.1 e

-- and what holds at each index holds of each
pub all_from : {A : Type 0} (P : A → Type 0) (xs : List A) → ((k : ℕ) (x : A) → slice_get xs k ≡ Some x → P x) → AllByRecursion P xs
all_from P [] each = tt
all_from P (x ∷ xs) each = (each 0 x refl, all_from P xs (λ k y e. each (suc k) y e))

-- an entry of a list that was made from another
pub record MadeFrom {A B : Type 0} (f : A → B) (xs : List A) (k : ℕ) (y : B) : Type 0 where
  pub entry : A
  pub there : slice_get xs k ≡ Some entry
  pub same : f entry ≡ y

pub made_from : {A B : Type 0} (f : A → B) (xs : List A) (k : ℕ) (y : B) → slice_get (map f xs) k ≡ Some y → MadeFrom f xs k y
made_from f [] k y e = absurd cc
made_from f (x ∷ xs) zero y e = record { entry = x; there = refl; same = cc }
made_from f (x ∷ xs) (suc k) y e = let rest = made_from f xs k y e in record { entry = rest.entry; there = rest.there; same = rest.same }
