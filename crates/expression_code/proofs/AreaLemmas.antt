-- What is kept under names: the words of shared names and the numbers of functions, as names are added.
use Rattle.std.proofs.Common.{◌≡◌, ℕ, suc, ◌+◌, ◌≤◌, ◌<◌, length, get_or, Bool, true, false, cond, if◌then◌else◌, List, [], ◌∷◌, drop, Option, Some, None, Bor, is_some, refl, sym, ap, ◌∙◌, arith}
use Rattle.std.specs.Prelude.{slice_get, unwrap_or}
use Rattle.std.specs.Option.{option_or, option_copied}
use Rattle.std.specs.Str.{bytes_eq}
use Rattle.std.proofs.lemmas.Slice.Eq.{bytes_eq-Decides}
use Rattle.cal_terms.proofs.Lists.{next_item}
use Rattle.csl_tree.specs.declared.program.Function.{Function}
use Rattle.csl_tree.specs.declared.program.Shared.{Shared}
use Rattle.csl_meaning.specs.Effect.{function_named}
use Rattle.csl_meaning.specs.Layout.{Text, word_count, words_in}
use Rattle.compiled_code.specs.Sizes.{given_by}
use Rattle.compiled_code.specs.Values.{function_number}
use Rattle.expression_code.specs.Counts.{words_in_all}

-- a name under which something is kept keeps it
pub kept : {X : Type 0} (f : Text → Option X) (name other : Text) (x : X) → is_some (f name) ≡ true → f other ≡ option_or (f other) (if bytes_eq name other then Some x else None)
kept {X} f name other x there = by (f other) refl (bytes_eq name other) refl
  where
    by : (o : Option X) → f other ≡ o → (b : Bool) → bytes_eq name other ≡ b → o ≡ option_or o (if b then Some x else None)
    by (Some y) p b q = refl
    by None p false q = refl
    by None p true q = let never : false ≡ true = sym (ap is_some p) ∙ sym (ap (λ n. is_some (f n)) ((bytes_eq-Decides name other).0 q)) ∙ there in cc

-- one more name
pub added : {X : Type 0} (f g : Text → Option X) (name other : Text) (x : X) → f name ≡ None → g other ≡ cond (bytes_eq name other) (Some x) (f other)
    → g other ≡ option_or (f other) (if bytes_eq name other then Some x else None)
added {X} f g name other x absent e = e ∙ by (f other) refl (bytes_eq name other) refl
  where
    by : (o : Option X) → f other ≡ o → (b : Bool) → bytes_eq name other ≡ b → cond b (Some x) o ≡ option_or o (if b then Some x else None)
    by None p true q = refl
    by None p false q = refl
    by (Some y) p false q = refl
    by (Some y) p true q = let never : None ≡ Some y = sym absent ∙ ap f ((bytes_eq-Decides name other).0 q) ∙ p in absurd cc

-- what isn't there
pub none_is : {X : Type 0} (o : Option X) → is_some o ≡ false → o ≡ None
none_is None e = refl
none_is (Some x) e = cc

-- whether a value is there, seen through its reference
pub copied-is_some : {X : Type 0} (o : Option (Bor X)) → is_some (option_copied o) ≡ is_some o
copied-is_some None = refl
copied-is_some (Some x) = refl

-- one more function with its number
pub number_step : (f g : Text → Option ℕ) (functions : List Function) (i : ℕ) (x : Function) (name : Text) → drop i functions ≡ x ∷ drop (i + 1) functions
    → g name ≡ option_or (f name) (if bytes_eq x.name.text name then Some i else None)
    → unwrap_or (g name) (i + 1 + function_number (drop (i + 1) functions) name) ≡ unwrap_or (f name) (i + function_number (drop i functions) name)
number_step f g functions i x name split e =
    ap (λ o. unwrap_or o (i + 1 + function_number (drop (i + 1) functions) name)) e
    ∙ by (f name) (bytes_eq x.name.text name) (function_number (drop (i + 1) functions) name)
    ∙ ap (λ (l : List Function). unwrap_or (f name) (i + function_number l name)) (sym split)
  where
    by : (o : Option ℕ) (b : Bool) (n : ℕ) → unwrap_or (option_or o (if b then Some i else None)) (i + 1 + n) ≡ unwrap_or o (i + (if b then 0 else suc n))
    by (Some k) b n = refl
    by None true n = omega arith
    by None false n = omega arith

-- what the function with a name gives back, by its number
pub given_at : (functions : List Function) (name : Text) → given_by (slice_get functions (function_number functions name)) ≡ given_by (function_named functions name)
given_at [] name = refl
given_at (f ∷ functions) name = by (bytes_eq f.name.text name) (given_at functions name)
  where
    by : (b : Bool) → given_by (slice_get functions (function_number functions name)) ≡ given_by (function_named functions name)
        → given_by (slice_get (f ∷ functions) (if b then 0 else suc (function_number functions name))) ≡ given_by (if b then Some f else function_named functions name)
    by true h = refl
    by false h = h

-- no more functions stand before one than there are
pub number_within : (functions : List Function) (name : Text) → function_number functions name ≤ length functions
number_within [] name = omega arith
number_within (f ∷ functions) name = by (bytes_eq f.name.text name) (number_within functions name)
  where
    by : (b : Bool) → function_number functions name ≤ length functions → (if b then 0 else suc (function_number functions name)) ≤ suc (length functions)
    by true h = omega arith
    by false h = omega (arith, h)

-- a scalar takes one word
pub count_of : (size : Option ℕ) → unwrap_or size 1 ≡ word_count size
count_of None = refl
count_of (Some n) = refl

-- the words of the next declaration stand before those of the rest
pub words_next : (shared : List Shared) (i : ℕ) (s : Shared) → i < length shared → s ≡ get_or shared i s → words_in_all (drop i shared) ≡ words_in s + words_in_all (drop (i + 1) shared)
words_next shared i s within at = ap words_in_all (next_item shared i s within at)
