-- Names that are declared one behind the other, and how one is found.
use Rattle.std.proofs.Common.{◌≡◌, ℕ, Bool, true, false, if◌then◌else◌, List, [], ◌∷◌, ◌++◌, Option, Some, None, refl, sym}
use Rattle.std.specs.Str.{bytes_eq}
use Rattle.std.specs.Map.{lookup}
use Rattle.std.proofs.lemmas.Slice.Eq.{bytes_eq-Decides}
use Rattle.type_check.specs.declared.names.Declaration.{Declaration}
use Rattle.type_check.specs.Names.{Names}

pub bytes_same : (a b : List ℕ) → bytes_eq a b ≡ true → a ≡ b
bytes_same a b e = (bytes_eq-Decides a b).0 e

pub bytes_self : (a : List ℕ) → bytes_eq a a ≡ true
bytes_self a = (bytes_eq-Decides a a).1 refl

-- two names are the same in either order
pub bytes_turned : (a b : List ℕ) (x : Bool) → bytes_eq a b ≡ x → bytes_eq b a ≡ x
bytes_turned a b true e = (bytes_eq-Decides b a).1 (sym (bytes_same a b e))
bytes_turned a b false e = by (bytes_eq b a) refl
  where
    by : (y : Bool) → bytes_eq b a ≡ y → bytes_eq b a ≡ false
    by false is = is
    by true is = let never : bytes_eq a b ≡ true = (bytes_eq-Decides a b).1 (sym (bytes_same b a is)) in cc

-- what is found, or else this where the name is the same
abbrev pub found_in : {A : Type 0} → Option A → Bool → A → Option A
found_in (Some x) same d = Some x
found_in None true d = Some d
found_in None false d = None

-- a name that is declared behind others is found, if none of them has it
pub found_behind : (names : Names) (name other : List ℕ) (d : Declaration) → lookup (bytes_eq name) (names ++ (other, d) ∷ []) ≡ found_in (lookup (bytes_eq name) names) (bytes_eq name other) d
found_behind [] name other d = by (bytes_eq name other)
  where
    by : (b : Bool) → (if b then Some d else None) ≡ found_in None b d
    by true = refl
    by false = refl
found_behind ((key, x) ∷ names) name other d = by (bytes_eq name key) (found_behind names name other d)
  where
    by : (b : Bool) → lookup (bytes_eq name) (names ++ (other, d) ∷ []) ≡ found_in (lookup (bytes_eq name) names) (bytes_eq name other) d
        → (if b then Some x else lookup (bytes_eq name) (names ++ (other, d) ∷ [])) ≡ found_in (if b then Some x else lookup (bytes_eq name) names) (bytes_eq name other) d
    by true h = refl
    by false h = h
