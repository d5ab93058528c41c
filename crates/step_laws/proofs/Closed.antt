-- Facts of each element, and the jobs of closed steps.
use Rattle.std.proofs.Common.{◌≡◌, ℕ, zero, suc, List, [], ◌∷◌, ◌++◌, refl, ap, subst, Some}
use Rattle.std.specs.Prelude.{slice_get}
use Rattle.step_laws.specs.Closed.{ClosedStep, Each, jobs_in}

pub each_push : {A : Type 0} (P : A → Type 0) (xs : List A) (x : A) → Each P xs → P x → Each P (xs ++ x ∷ [])
each_push P [] x all here = (here, tt)
each_push P (y ∷ xs) x all here = (all.0, each_push P xs x all.1 here)

pub each_append : {A : Type 0} (P : A → Type 0) (xs ys : List A) → Each P xs → Each P ys → Each P (xs ++ ys)
each_append P [] ys all more = more
each_append P (x ∷ xs) ys all more = (all.0, each_append P xs ys all.1 more)

pub each_get : {A : Type 0} (P : A → Type 0) (xs : List A) (i : ℕ) (x : A) → Each P xs → slice_get xs i ≡ Some x → P x
each_get P [] zero x all at = absurd (cc)
each_get P [] (suc i) x all at = absurd (cc)
each_get P (y ∷ xs) zero x all at = let same : y ≡ x = cc in subst P same all.0
each_get P (y ∷ xs) (suc i) x all at = each_get P xs i x all.1 at

pub jobs_in-append : (xs ys : List ClosedStep) → jobs_in (xs ++ ys) ≡ jobs_in xs ++ jobs_in ys
jobs_in-append [] ys = refl
jobs_in-append (x ∷ xs) ys = ap (λ more. x.job ∷ more) (jobs_in-append xs ys)
