-- Texts, one after the other.
use Rattle.std.proofs.Common.{◌≡◌, ℕ, suc, ◌+◌, Bool, List, [], ◌∷◌, ◌++◌, take, length, Option, refl, sym, ap, ◌∙◌, arith, append_assoc, length-append}
use Rattle.std.specs.Io.{StartsWith}
use Rattle.std.specs.Io.KnownBytes.{Appends}
use Rattle.std.proofs.KnownBytes.{Appends-nil, Appends-trans}
use Rattle.cal_base.specs.Contents.{AppendsPrefix}
use Rattle.cal_base.specs.Main.{Event}
use Rattle.cal_base.specs.Text.{event_text, text_of}

-- the text of events and more events
pub text_then : (steps : Bool) (shown more : List Event) → text_of steps (shown ++ more) ≡ text_of steps shown ++ text_of steps more
text_then steps [] more = refl
text_then steps (e ∷ shown) more = ap (λ t. event_text steps e ++ t) (text_then steps shown more) ∙ sym (append_assoc (event_text steps e) (text_of steps shown) (text_of steps more))

pub starts_nothing : (xs : List ℕ) → StartsWith xs []
starts_nothing xs = refl

zero_sum : (n : ℕ) → 0 + n ≡ n
zero_sum n = omega arith

suc_sum : (a b : ℕ) → suc a + b ≡ suc (a + b)
suc_sum a b = omega arith

take_more : (xs ys : List ℕ) (n : ℕ) → take (length xs + n) (xs ++ ys) ≡ xs ++ take n ys
take_more [] ys n = ap (λ k. take k ys) (zero_sum n)
take_more (x ∷ xs) ys n = rw (suc_sum (length xs) n) (ap (λ t. x ∷ t) (take_more xs ys n))

pub starts_after : (xs ys front : List ℕ) → StartsWith ys front → StartsWith (xs ++ ys) (xs ++ front)
starts_after xs ys front s = ap (λ n. take n (xs ++ ys)) (length-append xs front) ∙ take_more xs ys (length front) ∙ ap (λ t. xs ++ t) s

pub starts_more : (xs f ys : List ℕ) → StartsWith xs f → StartsWith (xs ++ ys) f
starts_more xs [] ys e = refl
starts_more [] (x ∷ f) ys e = cc
starts_more (z ∷ xs) (x ∷ f) ys e = let same : z ≡ x = cc in let rest : take (length f) xs ≡ f = cc in λ i. same i ∷ starts_more xs f ys rest i

-- nothing was written
pub prefix_none : (was : Option (List ℕ)) (text : List ℕ) → AppendsPrefix was was text
prefix_none was text = ([], starts_nothing text, Appends-nil was)

-- a front of what comes first
pub prefix_more : (was now : Option (List ℕ)) (text more : List ℕ) → AppendsPrefix was now text → AppendsPrefix was now (text ++ more)
prefix_more was now text more p = (p.0, starts_more text p.0 more p.1, p.2)

-- what comes first, and a front of the rest
pub prefix_then : (was mid now : Option (List ℕ)) (text more : List ℕ) → Appends was mid text → AppendsPrefix mid now more → AppendsPrefix was now (text ++ more)
prefix_then was mid now text more first p = (text ++ p.0, starts_after text more p.0 p.1, Appends-trans was mid now text p.0 first p.2)
