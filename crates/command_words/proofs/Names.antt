-- Which argument a name means, to `clap` and to us.
use Rattle.std.proofs.Common.{suc, ◌+◌, lt-ltb, ◌≡◌, ◌∙◌, ℕ, Bool, cond, true, false, refl, sym, ap, subst, arith, List, [], ◌∷◌, length, Option, Some, None, inl, inr, ◌⊎◌, ◌||◌, true≢false, take}
use Rattle.std.proofs.Common.{drop, nat_lt}
use Rattle.std.proofs.Math.Numerals.{one-add}
use Rattle.std.specs.List.{list_any, position_or_len, before_first, after_first}
use Rattle.std.specs.Cmp.Lexicographic.{same_text}
use Rattle.std.specs.Str.{bytes_eq}
use Rattle.clap.specs.Walk.{Rule, Text, arg_by_long, takes_values}
use Rattle.command_words.specs.declared.name.Verb.{Verb}
use Rattle.command_words.specs.declared.name.Verb.TheVariants.{Run, Sim, Exec}
use Rattle.command_words.specs.declared.name.Setting.{Setting}
use Rattle.command_words.specs.declared.name.Setting.TheVariants.{Workers, Fuel, Frames, Script, Log, Report, Steps}
use Rattle.command_words.specs.Words.{has_setting, has_value, setting_named, is_equals, has_equals}
use Rattle.command_words.specs.Line.{name_of}
use Rattle.command_words.proofs.Rules.{shape, setting_built}

-- the argument of a setting that the command has
abbrev pub allowed : Verb → Option Setting → Option Rule
allowed v None = None
allowed v (Some s) = cond (has_setting v s) (Some (setting_built s)) None

long_known : (v : Verb) (s : Setting) → arg_by_long (shape v).rules (name_of s) ≡ allowed v (Some s)
long_known Run Workers = refl
long_known Run Fuel = refl
long_known Run Frames = refl
long_known Run Script = refl
long_known Run Log = refl
long_known Run Report = refl
long_known Run Steps = refl
long_known Exec Workers = refl
long_known Exec Fuel = refl
long_known Exec Frames = refl
long_known Exec Script = refl
long_known Exec Log = refl
long_known Exec Report = refl
long_known Exec Steps = refl
long_known Sim Workers = refl
long_known Sim Fuel = refl
long_known Sim Frames = refl
long_known Sim Script = refl
long_known Sim Log = refl
long_known Sim Report = refl
long_known Sim Steps = refl
long_known _ s = refl

named_known : (s : Setting) → setting_named (45 ∷ 45 ∷ name_of s) ≡ Some s
named_known Workers = refl
named_known Fuel = refl
named_known Frames = refl
named_known Script = refl
named_known Log = refl
named_known Report = refl
named_known Steps = refl

bytes-sym : (a b : List ℕ) → bytes_eq a b ≡ bytes_eq b a
bytes-sym a b = go (bytes_eq a b) refl
  where
    self : (x : List ℕ) → bytes_eq x x ≡ true
    self [] = refl
    self (x ∷ xs) = grind (arith, self xs)

    go : (p : Bool) → bytes_eq a b ≡ p → p ≡ bytes_eq b a
    go true e = sym (subst (λ x. bytes_eq x a ≡ true) (same_text a b (sym e)) (self a))
    go false e = back (bytes_eq b a) refl
      where
        back : (p : Bool) → bytes_eq b a ≡ p → false ≡ p
        back false f = refl
        back true f = absurd (true≢false (sym (subst (λ x. bytes_eq x b ≡ true) (same_text b a (sym f)) (self b)) ∙ e))

-- the name is that of no setting
pub record Unknown (name : Text) : Type 0 where
  pub workers : bytes_eq (name_of Workers) name ≡ false
  pub fuel : bytes_eq (name_of Fuel) name ≡ false
  pub frames : bytes_eq (name_of Frames) name ≡ false
  pub script : bytes_eq (name_of Script) name ≡ false
  pub log : bytes_eq (name_of Log) name ≡ false
  pub report : bytes_eq (name_of Report) name ≡ false
  pub steps : bytes_eq (name_of Steps) name ≡ false

abbrev pub Known : Text → Type 0
Known name = (s : Setting) × (name_of s ≡ name)

cases : (name : Text) → Known name ⊎ Unknown name
cases name = try Workers (λ a. try Fuel (λ b. try Frames (λ c. try Script (λ d. try Log (λ e. try Report (λ f. try Steps (λ g.
    inr (record { workers = a; fuel = b; frames = c; script = d; log = e; report = f; steps = g }))))))))
  where
    try : (s : Setting) → (bytes_eq (name_of s) name ≡ false → Known name ⊎ Unknown name) → Known name ⊎ Unknown name
    try s next = go (bytes_eq (name_of s) name) refl
      where
        go : (b : Bool) → bytes_eq (name_of s) name ≡ b → Known name ⊎ Unknown name
        go true e = inl (s, same_text (name_of s) name (sym e))
        go false e = next e

long_unknown : (v : Verb) (name : Text) → Unknown name → arg_by_long (shape v).rules name ≡ None
long_unknown Run name u = rw (u.workers, u.fuel, u.frames, u.script, u.log, u.report, u.steps)
long_unknown Exec name u = rw (u.workers, u.fuel, u.frames, u.script, u.log, u.report, u.steps)
long_unknown Sim name u = rw u.log
long_unknown _ name u = refl

named_unknown : (name : Text) → Unknown name → setting_named (45 ∷ 45 ∷ name) ≡ None
named_unknown name u = rw (
  bytes-sym name (name_of Workers) ∙ u.workers,
  bytes-sym name (name_of Fuel) ∙ u.fuel,
  bytes-sym name (name_of Frames) ∙ u.frames,
  bytes-sym name (name_of Script) ∙ u.script,
  bytes-sym name (name_of Log) ∙ u.log,
  bytes-sym name (name_of Report) ∙ u.report,
  bytes-sym name (name_of Steps) ∙ u.steps,
)

-- the argument that a name means
pub by_name : (v : Verb) (name : Text) → arg_by_long (shape v).rules name ≡ allowed v (setting_named (45 ∷ 45 ∷ name))
by_name v name = elim (cases name) [
  | inl k ↦ subst (λ n. arg_by_long (shape v).rules n ≡ allowed v (setting_named (45 ∷ 45 ∷ n))) k.1 (long_known v k.0 ∙ ap (allowed v) (sym (named_known k.0)))
  | inr u ↦ long_unknown v name u ∙ ap (allowed v) (sym (named_unknown name u))
]

pub takes : (s : Setting) → takes_values (setting_built s) ≡ has_value s
takes Workers = refl
takes Fuel = refl
takes Frames = refl
takes Script = refl
takes Log = refl
takes Report = refl
takes Steps = refl

-- ---- `=`

-- how many bytes stand before the first `=`
abbrev before : List ℕ → ℕ
before xs = position_or_len is_equals xs

before-more : (x : ℕ) (xs : List ℕ) → is_equals x ≡ false → before (x ∷ xs) ≡ suc (before xs)
before-more x xs h = rw h (one-add (before xs))

equals_here : (x : ℕ) (xs : List ℕ) → is_equals x ≡ true → before (x ∷ xs) ≡ 0
equals_here x xs h = rw h refl

pub equals_there : (xs : List ℕ) → nat_lt (before xs) (length xs) ≡ list_any is_equals xs
equals_there [] = refl
equals_there (x ∷ xs) = go (is_equals x) refl (equals_there xs)
  where
    go : (b : Bool) → is_equals x ≡ b → nat_lt (before xs) (length xs) ≡ list_any is_equals xs → nat_lt (before (x ∷ xs)) (length (x ∷ xs)) ≡ (is_equals x || list_any is_equals xs)
    go true e ih = ap (λ n. nat_lt n (length (x ∷ xs))) (equals_here x xs e) ∙ (lt-ltb 0 (length (x ∷ xs)) (omega arith) ∙ sym (ap (λ b. b || list_any is_equals xs) e))
    go false e ih = ap (λ n. nat_lt n (length (x ∷ xs))) (before-more x xs e) ∙ (next (before xs) (length xs) ∙ (ih ∙ sym (ap (λ b. b || list_any is_equals xs) e)))
      where
        next : (a b : ℕ) → nat_lt (suc a) (suc b) ≡ nat_lt a b
        next a b = grind arith

pub all_before : (xs : List ℕ) → list_any is_equals xs ≡ false → before_first is_equals xs ≡ xs
all_before [] h = refl
all_before (x ∷ xs) h = go (is_equals x) refl h (all_before xs)
  where
    go : (b : Bool) → is_equals x ≡ b → (is_equals x || list_any is_equals xs) ≡ false → (list_any is_equals xs ≡ false → before_first is_equals xs ≡ xs)
        → before_first is_equals (x ∷ xs) ≡ x ∷ xs
    go true e f ih = absurd (true≢false (sym (ap (λ b. b || list_any is_equals xs) e) ∙ f))
    go false e f ih = ap (λ n. take n (x ∷ xs)) (before-more x xs e) ∙ ap (λ l. x ∷ l) (ih (sym (ap (λ b. b || list_any is_equals xs) e) ∙ f))

module _ (r : Text) where
  two_more : before (45 ∷ 45 ∷ r) ≡ suc (suc (before r))
  two_more = before-more 45 (45 ∷ r) refl ∙ ap suc (before-more 45 r refl)

  pub equals_in : has_equals (45 ∷ 45 ∷ r) ≡ list_any is_equals r
  equals_in = equals_there (45 ∷ 45 ∷ r)

  pub before_in : before_first is_equals (45 ∷ 45 ∷ r) ≡ 45 ∷ 45 ∷ before_first is_equals r
  before_in = ap (λ n. take n (45 ∷ 45 ∷ r)) two_more

  pub after_in : after_first is_equals (45 ∷ 45 ∷ r) ≡ after_first is_equals r
  after_in = ap (λ n. drop (n + 1) (45 ∷ 45 ∷ r)) two_more ∙ (ap (λ n. drop n (45 ∷ 45 ∷ r)) (moved (before r)))
    where
      moved : (n : ℕ) → suc (suc n) + 1 ≡ suc (suc (n + 1))
      moved n = omega arith
