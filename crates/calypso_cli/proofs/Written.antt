-- What a file holds behind a load, a create and appends.
use Rattle.std.proofs.Common.{◌≡◌, ◌⊎◌, ◌≤◌, ◌++◌, ℕ, List, [], Option, Some, None, refl, ap, ◌∙◌, arith, inl, inr}
use Rattle.std.specs.Prelude.{unwrap_or}
use Rattle.std.specs.Io.{StartsWith}
use Rattle.cal_base.specs.Causes.{Rose}
use Rattle.cal_base.specs.Contents.{Contents, Told, SameFiles, Empties, KeepsOrEmpties, AppendsTo, AppendsPrefixTo}
use Rattle.calypso_cli.specs.Endings.{done, cannot_write}
use Rattle.calypso_cli.specs.Steps.{HoldsAll, HoldsSome, EndsFile, written, not_written}

-- two changes, one after the other
pub told_then : (a b c : Option Contents) (Q R S : Contents → Contents → Type 0) → Told a b Q → Told b c R
    → ((m n k : Contents) → Q m n → R n k → S m k) → Told a c S
told_then None b c Q R S h k f = tt
told_then (Some m) None c Q R S h k f = absurd h
told_then (Some m) (Some n) None Q R S h k f = absurd k
told_then (Some m) (Some n) (Some l) Q R S h k f = f m n l h k

pub told_as : (a b : Option Contents) (R S : Contents → Contents → Type 0) → ((m n : Contents) → R m n → S m n) → Told a b R → Told a b S
told_as None b R S f h = tt
told_as (Some m) None R S f h = absurd h
told_as (Some m) (Some n) R S f h = f m n h

-- behind a load
pub same_same : (m n k : Contents) → SameFiles m n → SameFiles n k → SameFiles m k
same_same m n k h r = λ name. r name ∙ h name

pub all_behind : (file text : List ℕ) (m n k : Contents) → SameFiles m n → HoldsAll file text n k → HoldsAll file text m k
all_behind file text m n k h r = record { here = r.here; others = λ other no. r.others other no ∙ h other }

as_before_load : (file text : List ℕ) (m n k : Contents) → SameFiles m n → (k file ≡ n file) ⊎ ((front : List ℕ) × StartsWith text front × (k file ≡ Some front))
    → (k file ≡ m file) ⊎ ((front : List ℕ) × StartsWith text front × (k file ≡ Some front))
as_before_load file text m n k h (inl e) = inl (e ∙ h file)
as_before_load file text m n k h (inr f) = inr f

pub some_behind : (file text : List ℕ) (m n k : Contents) → SameFiles m n → HoldsSome file text n k → HoldsSome file text m k
some_behind file text m n k h r = record { here = as_before_load file text m n k h r.here; others = λ other no. r.others other no ∙ h other }

pub rose_behind : (before mid after : ℕ) → before ≤ mid → Rose mid after → Rose before after
rose_behind before mid after later rose = omega (arith, later, rose)

-- a file that was not created
kept_or_empty : (file text : List ℕ) (m n : Contents) → (n file ≡ m file) ⊎ (n file ≡ Some []) → (n file ≡ m file) ⊎ ((front : List ℕ) × StartsWith text front × (n file ≡ Some front))
kept_or_empty file text m n (inl e) = inl e
kept_or_empty file text m n (inr e) = inr ([], refl, e)

not_created : (file text : List ℕ) (m n : Contents) → KeepsOrEmpties file m n → HoldsSome file text m n
not_created file text m n h = record { here = kept_or_empty file text m n h.here; others = h.others }

-- a file that was created and appended to
all_appended : (file text : List ℕ) (m n k : Contents) → Empties file m n → AppendsTo file text n k → HoldsAll file text m k
all_appended file text m n k h r = record {
  here = r.here ∙ ap (λ old. Some (unwrap_or old [] ++ text)) h.here;
  others = λ other no. r.others other no ∙ h.others other no;
}

some_appended : (file text : List ℕ) (m n k : Contents) → Empties file m n → AppendsPrefixTo file text n k → HoldsSome file text m k
some_appended file text m n k h r = record {
  here = inr (r.0, r.1, r.2.here ∙ ap (λ old. Some (unwrap_or old [] ++ r.0)) h.here);
  others = λ other no. r.2.others other no ∙ h.others other no;
}

-- how the writing ends
pub ends_created : (file text : List ℕ) (a b : Option Contents) (before after : ℕ) → Rose before after → Told a b (KeepsOrEmpties file) → EndsFile file text a b before after (cannot_write file)
ends_created file text a b before after rose h = not_written rose (told_as a b (KeepsOrEmpties file) (HoldsSome file text) (not_created file text) h)

pub ends_written : (file text : List ℕ) (a b c : Option Contents) (before after : ℕ) → Told a b (Empties file) → Told b c (AppendsTo file text) → EndsFile file text a c before after done
ends_written file text a b c before after h k = written (told_then a b c (Empties file) (AppendsTo file text) (HoldsAll file text) h k (all_appended file text))

pub ends_appended : (file text : List ℕ) (a b c : Option Contents) (before mid after : ℕ) → before ≤ mid → Rose mid after → Told a b (Empties file) → Told b c (AppendsPrefixTo file text)
    → EndsFile file text a c before after (cannot_write file)
ends_appended file text a b c before mid after later rose h k =
    not_written (rose_behind before mid after later rose) (told_then a b c (Empties file) (AppendsPrefixTo file text) (HoldsSome file text) h k (some_appended file text))
