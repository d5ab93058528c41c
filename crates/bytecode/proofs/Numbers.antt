-- Numbers: what is read is spelled so, and what is spelled so is read.
use Rattle.std.proofs.Common.{◌≡◌, ℕ, zero, suc, ◌+◌, ◌-◌, ◌*◌, ◌/◌, ◌%◌, ◌^◌, ◌<◌, ◌≤◌, Bool, true, false, cond, ltb, eqb, List, [], ◌∷◌, ◌++◌, get_or, Option, Some, None, refl, sym, ap, subst, ◌∙◌}
use Rattle.std.proofs.Common.{arith, inl, inr}
use Rattle.std.proofs.lemmas.Bool.{cases_lt, ltb-true, ltb-false, lt-ltb, le-ltb, eqb-false, ne_eqb}
use Rattle.std.proofs.lemmas.Nat.{div_below}
use Rattle.bytecode.specs.Spelling.{num_in, num}
use Rattle.bytecode.specs.Reading.{Read, ◌>>=◌, num_at}
pub use Rattle.cal_terms.proofs.Lists.{some_same}

abbrev pub IsBytes : List ℕ → Type 0
IsBytes bytes = (i : ℕ) → get_or bytes i 0 < 256

-- what a reader took from the front
pub record Takes {A : Type 0} (spell : A → List ℕ) (Fits : A → Type 0) (bytes : List ℕ) (x : A × List ℕ) : Type 0 where
  pub parts : bytes ≡ spell x.0 ++ x.1
  pub fits : Fits x.0
  pub rest_bytes : IsBytes x.1

-- what is read is spelled so, and what is spelled so is read
pub record IsForm {A : Type 0} (spell : A → List ℕ) (Fits : A → Type 0) (reads : List ℕ → Read A) : Type 0 where
  pub takes : (bytes : List ℕ) (x : A × List ℕ) → IsBytes bytes → reads bytes ≡ Some x → Takes spell Fits bytes x
  pub again : (a : A) (rest : List ℕ) → Fits a → reads (spell a ++ rest) ≡ Some (a, rest)

-- the value of a step that did not fail
pub bind_some : {A B : Type 0} (r : Option A) (f : A → Option B) (y : B) → (r >>= f) ≡ Some y → (x : A) × (r ≡ Some x) × (f x ≡ Some y)
bind_some (Some x) f y e = (x, refl, e)
bind_some None f y e = absurd cc

-- a test that held, or did not
pub when_some : {A : Type 0} (b : Bool) (x : Option A) (y : A) → cond b x None ≡ Some y → (b ≡ true) × (x ≡ Some y)
when_some true x y e = (refl, e)
when_some false x y e = absurd cc

pub unless_some : {A : Type 0} (b : Bool) (x : Option A) (y : A) → cond b None x ≡ Some y → (b ≡ false) × (x ≡ Some y)
unless_some false x y e = (refl, e)
unless_some true x y e = absurd cc

pub num_in_more : (most n : ℕ) → 0 < most → 128 ≤ n → num_in most n ≡ (128 + n % 128) ∷ num_in (most - 1) (n / 128)
unfolding num_in
num_in_more zero n lt le = absurd (omega arith)
num_in_more (suc most) n lt le =
    let k : suc most - 1 ≡ most = omega arith in
    rw (le-ltb n 128 le, k) refl

num_in_one : (most n : ℕ) → n < 128 → num_in (suc most) n ≡ n ∷ []
unfolding num_in
num_in_one most n lt = rw (lt-ltb n 128 lt) refl

num_takes : (most : ℕ) (bytes : List ℕ) (x : ℕ × List ℕ) → IsBytes bytes → num_at most bytes ≡ Some x → Takes (num_in most) (λ n. n < 2 ^ 64) bytes x
unfolding num_at
num_takes zero bytes x h e = absurd cc
num_takes (suc most) [] x h e = absurd cc
num_takes (suc most) (b ∷ bytes) x h e = tested (λ high more. num_takes most bytes high (λ i. h (suc i)) more) (ltb b 128) refl e
  where
    rest_bytes : IsBytes bytes
    rest_bytes i = h (suc i)

    tested : ((high : ℕ × List ℕ) → num_at most bytes ≡ Some high → Takes (num_in most) (λ n. n < 2 ^ 64) bytes high) → (t : Bool) → ltb b 128 ≡ t
        → cond t (Some (b, bytes)) (num_at most bytes >>= (λ high. cond (eqb high.0 0) None (cond (ltb high.0 (2 ^ 57)) (Some (b - 128 + 128 * high.0, high.1)) None))) ≡ Some x
        → Takes (num_in (suc most)) (λ n. n < 2 ^ 64) (b ∷ bytes) x
    tested ih true t e =
        let lt : b < 128 = ltb-true b 128 t in
        subst (λ (y : ℕ × List ℕ). Takes (num_in (suc most)) (λ n. n < 2 ^ 64) (b ∷ bytes) y) (some_same (b, bytes) x (Some (b, bytes)) refl e)
        (record { parts = rw (num_in_one most b lt) refl; fits = omega arith; rest_bytes = rest_bytes })
    tested ih false t e =
        let le : 128 ≤ b = ltb-false b 128 t in
        let small : b < 256 = h 0 in
        let high = bind_some (num_at most bytes) (λ high. cond (eqb high.0 0) None (cond (ltb high.0 (2 ^ 57)) (Some (b - 128 + 128 * high.0, high.1)) None)) x e in
        let above = unless_some (eqb high.0.0 0) (cond (ltb high.0.0 (2 ^ 57)) (Some (b - 128 + 128 * high.0.0, high.0.1)) None) x high.2 in
        let below = when_some (ltb high.0.0 (2 ^ 57)) (Some (b - 128 + 128 * high.0.0, high.0.1)) x above.1 in
        let taken = ih high.0 high.1 in
        let n = b - 128 + 128 * high.0.0 in
        let positive : 0 < high.0.0 = grind (arith, eqb-false high.0.0 0 above.0) in
        let limit : high.0.0 < 2 ^ 57 = ltb-true high.0.0 (2 ^ 57) below.0 in
        let low : n % 128 ≡ b - 128 = omega arith in
        let up : n / 128 ≡ high.0.0 = omega arith in
        let big : 128 ≤ n = omega arith in
        let first : 128 + n % 128 ≡ b = omega arith in
        let spelled : num_in (suc most) n ≡ b ∷ num_in most high.0.0 = num_in_more (suc most) n (omega arith) big ∙ rw (first, up) (ap (λ (k : ℕ). b ∷ num_in k high.0.0) (omega arith)) in
        subst (λ (y : ℕ × List ℕ). Takes (num_in (suc most)) (λ n. n < 2 ^ 64) (b ∷ bytes) y) (some_same (n, high.0.1) x (Some (n, high.0.1)) refl below.1)
        (record { parts = ap (λ (l : List ℕ). b ∷ l) taken.parts ∙ ap (λ (l : List ℕ). l ++ high.0.1) (sym spelled); fits = omega arith; rest_bytes = taken.rest_bytes })

-- the numbers of this many bytes
abbrev limit : ℕ → ℕ
limit zero = 1
limit (suc k) = limit k * 128

num_again_one : (most n : ℕ) (rest : List ℕ) → n < 128 → num_at (suc most) (num_in (suc most) n ++ rest) ≡ Some (n, rest)
unfolding num_at num_in
num_again_one most n rest small = rw (lt-ltb n 128 small) (rw (lt-ltb n 128 small) refl)

num_again_more : (most n : ℕ) (rest : List ℕ) → 128 ≤ n → n < 2 ^ 64 → num_at most (num_in most (n / 128) ++ rest) ≡ Some (n / 128, rest)
    → num_at (suc most) (num_in (suc most) n ++ rest) ≡ Some (n, rest)
unfolding num_at num_in
num_again_more most n rest big fits ih =
    let not_one : ltb n 128 ≡ false = le-ltb n 128 big in
    let first : ltb (128 + n % 128) 128 ≡ false = le-ltb (128 + n % 128) 128 (omega arith) in
    let positive : eqb (n / 128) 0 ≡ false = ne_eqb (n / 128) 0 (λ z. omega (arith, z)) in
    let below : ltb (n / 128) (2 ^ 57) ≡ true = lt-ltb (n / 128) (2 ^ 57) (omega arith) in
    let back : 128 + n % 128 - 128 + 128 * (n / 128) ≡ n = omega arith in
    rw not_one (rw (first, ih, positive, below, back) refl)

num_again : (most n : ℕ) (rest : List ℕ) → n < limit (suc most) → n < 2 ^ 64 → num_at (suc most) (num_in (suc most) n ++ rest) ≡ Some (n, rest)
num_again zero n rest lt fits = num_again_one 0 n rest (omega arith)
num_again (suc most) n rest lt fits =
    elim (cases_lt n 128) [
      | inl small ↦ num_again_one (suc most) n rest small
      | inr big ↦ num_again_more (suc most) n rest big fits (num_again most (n / 128) rest (div_below n 128 (limit (suc most)) (omega arith) lt) (omega arith))
    ]

pub num_form : IsForm num (λ n. n < 2 ^ 64) (num_at 10)
num_form = record { takes = num_takes 10; again = λ n rest fits. num_again 9 n rest (omega arith) fits }
