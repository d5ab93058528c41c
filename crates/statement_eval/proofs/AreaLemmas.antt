-- The words of shared names: what a look-up finds as names are added.
use Rattle.std.proofs.Common.{◌≡◌, ◌≤◌, ◌+◌, ℕ, map, arith, Bool, true, false, cond, if◌then◌else◌, List, [], ◌∷◌, Option, Some, None, Bor, is_some, refl, sym, ap, subst, ◌∙◌}
use Rattle.std.specs.Prelude.{sum}
use Rattle.std.specs.List.{fold}
use Rattle.std.specs.Option.{option_or, option_copied, unwrap_or}
use Rattle.std.specs.Str.{bytes_eq}
use Rattle.std.proofs.lemmas.Slice.Eq.{bytes_eq-Decides}
use Rattle.csl_meaning.specs.declared.state.Area.{Area}
use Rattle.csl_tree.specs.declared.program.Shared.{Shared}
use Rattle.csl_meaning.specs.Layout.{Text, area_from, area_of, items_in, words_in, word_count}
use Rattle.csl_meaning.specs.Value.{declared}
use Rattle.statement_eval.specs.Fits.{words_of}

fold_from : (a : ℕ) (xs : List ℕ) → fold ◌+◌ a xs ≡ a + fold ◌+◌ 0 xs
fold_from a [] = omega arith
fold_from a (x ∷ xs) = omega (arith, fold_from (a + x) xs, fold_from (0 + x) xs)

pub sum_cons : (n : ℕ) (ns : List ℕ) → sum (n ∷ ns) ≡ n + sum ns
sum_cons n ns = omega (arith, fold_from (0 + n) ns)

-- a name under which something is kept keeps it
pub kept : {X : Type 0} (f : Text → Option X) (name other : Text) (x : X) → is_some (f name) ≡ true → f other ≡ option_or (f other) (if bytes_eq name other then Some x else None)
kept {X} f name other x there = by (f other) refl (bytes_eq name other) refl
  where
    by : (o : Option X) → f other ≡ o → (b : Bool) → bytes_eq name other ≡ b → o ≡ option_or o (if b then Some x else None)
    by (Some y) p b q = refl
    by None p false q = refl
    by None p true q = let never : false ≡ true = sym (ap is_some p) ∙ sym (ap (λ n. is_some (f n)) ((bytes_eq-Decides name other).0 q)) ∙ there in cc

-- one more name
pub added : {X : Type 0} (f g : Text → Option X) (name other : Text) (x : X) → f name ≡ None → g other ≡ cond (bytes_eq name other) (Some x) (f other)
    → g other ≡ option_or (f other) (if bytes_eq name other then Some x else None)
added {X} f g name other x absent e = e ∙ by (f other) refl (bytes_eq name other) refl
  where
    by : (o : Option X) → f other ≡ o → (b : Bool) → bytes_eq name other ≡ b → cond b (Some x) o ≡ option_or o (if b then Some x else None)
    by None p true q = refl
    by None p false q = refl
    by (Some y) p false q = refl
    by (Some y) p true q = let never : None ≡ Some y = sym absent ∙ ap f ((bytes_eq-Decides name other).0 q) ∙ p in absurd cc

-- what isn't there
pub none_is : {X : Type 0} (o : Option X) → is_some o ≡ false → o ≡ None
none_is None e = refl
none_is (Some x) e = cc

-- whether a value is there, seen through its reference
pub copied-is_some : {X : Type 0} (o : Option (Bor X)) → is_some (option_copied o) ≡ is_some o
copied-is_some None = refl
copied-is_some (Some x) = refl

-- ---- the words of a name lie in the memory

abbrev pub IsWithin : Option Area → Type 0
IsWithin found = (declared found).first + unwrap_or (declared found).items 0 ≤ 262144

no_more : (n : Option ℕ) → unwrap_or n 0 ≤ word_count n
no_more None = omega arith
no_more (Some n) = omega arith

within_from : (first : ℕ) (shared : List Shared) (name : Text) → first + words_of shared ≤ 262144 → IsWithin (area_from first shared name)
within_from first [] name room = omega arith
within_from first (s ∷ rest) name room =
    by (bytes_eq s.name.text name) (within_from (first + words_in s) rest name (omega (arith, room, sum_cons (words_in s) (map words_in rest))))
  where
    by : (b : Bool) → IsWithin (area_from (first + words_in s) rest name)
        → IsWithin (if b then Some (record { first = first; items = items_in s.size }) else area_from (first + words_in s) rest name)
    by true h = omega (arith, room, sum_cons (words_in s) (map words_in rest), no_more (items_in s.size))
    by false h = h

pub within : (shared : List Shared) (name : Text) (area : Area) → words_of shared ≤ 262144 → area ≡ declared (area_of shared name) → area.first + unwrap_or area.items 0 ≤ 262144
within shared name area room is = subst (λ (x : Area). x.first + unwrap_or x.items 0 ≤ 262144) (sym is) (within_from 0 shared name (omega (arith, room)))
