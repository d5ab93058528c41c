-- The first fault of the sorted list is the first of the faults as they were found.
use Rattle.std.proofs.Common.{◌≡◌, ◌↔◌, ◌⊎◌, ◌∙◌, ℕ, zero, suc, ◌+◌, ◌*◌, ◌<◌, ◌≤◌, Bool, true, false, nat_lt, nat_eq, ◌&&◌, ◌||◌, if◌then◌else◌, List, [], ◌∷◌, fold, Option, Some, None, refl, sym}
use Rattle.std.proofs.Common.{ap, subst, inl, inr, le_refl, arith, ltb-true, ltb-false, eqb-true, eq-eqb}
use Rattle.std.specs.List.{AllByRecursion, Contains}
use Rattle.type_check.specs.declared.fault.Fault.{Fault}
use Rattle.type_check.specs.declared.fault.CheckKind.{CheckKind}
use Rattle.type_check.specs.declared.fault.CheckKind.TheVariants.{UnknownName, NameTaken, WrongUse, WrongType, WrongCount, NoReturn, WrongReturn, NotInLoop, OnlyInMain, TallyUsed, Limit}
use Rattle.type_check.specs.Listed.{number, is_before, placed, in_position, first}
use Rattle.type_check.specs.Laws.{IsFirst}

-- the place and the number of a fault in one
abbrev rank : Fault → ℕ
rank x = x.at * 12 + number x.kind

few_kinds : (k : CheckKind) → number k ≤ 11
few_kinds UnknownName = omega arith
few_kinds NameTaken = omega arith
few_kinds WrongUse = omega arith
few_kinds WrongType = omega arith
few_kinds WrongCount = omega arith
few_kinds NoReturn = omega arith
few_kinds WrongReturn = omega arith
few_kinds NotInLoop = omega arith
few_kinds OnlyInMain = omega arith
few_kinds TallyUsed = omega arith
few_kinds Limit = omega arith

-- a fault that stands before another has a lower rank
before_rank : (x y : Fault) → is_before x y ≡ true → rank x < rank y
before_rank x y e = by (nat_lt x.at y.at) (nat_eq x.at y.at) (nat_lt (number x.kind) (number y.kind)) refl refl refl e
  where
    by : (a b c : Bool) → nat_lt x.at y.at ≡ a → nat_eq x.at y.at ≡ b → nat_lt (number x.kind) (number y.kind) ≡ c → (a || (b && c)) ≡ true → rank x < rank y
    by true b c p q r h = omega (arith, ltb-true x.at y.at p, few_kinds x.kind)
    by false true true p q r h = omega (arith, eqb-true x.at y.at q, ltb-true (number x.kind) (number y.kind) r)
    by false true false p q r h = cc
    by false false c p q r h = cc

-- and one that doesn't has no lower rank
not_before_rank : (x y : Fault) → is_before x y ≡ false → rank y ≤ rank x
not_before_rank x y e = by (nat_lt x.at y.at) (nat_eq x.at y.at) (nat_lt (number x.kind) (number y.kind)) refl refl refl e
  where
    apart : (b : Bool) → nat_lt y.at x.at ≡ b → y.at ≤ x.at → nat_eq x.at y.at ≡ false → rank y ≤ rank x
    apart true p l q = omega (arith, ltb-true y.at x.at p, few_kinds y.kind)
    apart false p l q = let same : x.at ≡ y.at = omega (arith, ltb-false y.at x.at p, l) in let equal = eq-eqb x.at y.at same in cc

    by : (a b c : Bool) → nat_lt x.at y.at ≡ a → nat_eq x.at y.at ≡ b → nat_lt (number x.kind) (number y.kind) ≡ c → (a || (b && c)) ≡ false → rank y ≤ rank x
    by true b c p q r h = cc
    by false true true p q r h = cc
    by false true false p q r h = omega (arith, eqb-true x.at y.at q, ltb-false (number x.kind) (number y.kind) r)
    by false false c p q r h = apart (nat_lt y.at x.at) refl (ltb-false x.at y.at p) q

-- so a fault of no lower rank doesn't stand before it
rank_not_before : (x f : Fault) → rank f ≤ rank x → is_before x f ≡ false
rank_not_before x f l = by (is_before x f) refl
  where
    by : (b : Bool) → is_before x f ≡ b → b ≡ false
    by true e = absurd (omega (arith, l, before_rank x f e))
    by false e = refl

contains_here : (x : Fault) (xs : List Fault) → Contains (x ∷ xs) x
contains_here x xs = (zero, omega arith, refl)

contains_later : (x : Fault) (xs : List Fault) (f : Fault) → Contains xs f → Contains (x ∷ xs) f
contains_later x xs f (k, lt, is) = (suc k, omega (arith, lt), is)

-- what the sorted list begins with, when more faults are put into a list that begins with h
record Leads (h : Fault) (more sorted : List Fault) : Type 0 where
  head : Fault
  told : first sorted ≡ Some head
  one : (h ≡ head) ⊎ Contains more head
  least : rank head ≤ rank h
  all : AllByRecursion (λ x. rank head ≤ rank x) more

leads : (h : Fault) (rest more : List Fault) → Leads h more (fold (λ sorted x. placed x sorted) (h ∷ rest) more)
leads h rest [] = record { head = h; told = refl; one = inl refl; least = le_refl (rank h); all = tt }
leads h rest (x ∷ more) = by (λ u. leads h (placed x rest) more) (λ u. leads x (h ∷ rest) more) (is_before h x) refl
  where
    sorted : Bool → List Fault
    sorted b = fold (λ sorted x. placed x sorted) (if b then h ∷ placed x rest else x ∷ h ∷ rest) more

    later : (f : Fault) → (h ≡ f) ⊎ Contains more f → (h ≡ f) ⊎ Contains (x ∷ more) f
    later f (inl e) = inl e
    later f (inr c) = inr (contains_later x more f c)

    put : (f : Fault) → (x ≡ f) ⊎ Contains more f → (h ≡ f) ⊎ Contains (x ∷ more) f
    put f (inl e) = inr (subst (λ (g : Fault). Contains (x ∷ more) g) e (contains_here x more))
    put f (inr c) = inr (contains_later x more f c)

    by : (Unit {0} → Leads h more (sorted true)) → (Unit {0} → Leads x more (sorted false)) → (b : Bool) → is_before h x ≡ b → Leads h (x ∷ more) (sorted b)
    by stays goes true e =
        let l = stays tt in
        record { head = l.head; told = l.told; one = later l.head l.one; least = l.least; all = (omega (arith, l.least, before_rank h x e), l.all) }
    by stays goes false e =
        let l = goes tt in
        record { head = l.head; told = l.told; one = put l.head l.one; least = omega (arith, l.least, not_before_rank h x e); all = (l.least, l.all) }

none_before : (f : Fault) (xs : List Fault) → AllByRecursion (λ x. rank f ≤ rank x) xs → AllByRecursion (λ x. is_before x f ≡ false) xs
none_before f [] all = tt
none_before f (x ∷ xs) (l, all) = (rank_not_before x f l, none_before f xs all)

abbrev some_fault : Fault → Option Fault → Fault
some_fault d None = d
some_fault d (Some f) = f

-- the fault that is told first is the first one
pub first_is_first : (xs : List Fault) (f : Fault) → first (in_position xs) ≡ Some f → IsFirst xs f
first_is_first [] f e = cc
first_is_first (x ∷ xs) f e = subst (λ (g : Fault). IsFirst (x ∷ xs) g) (ap (some_fault x) (sym l.told ∙ e)) (held l.one, none_before l.head (x ∷ xs) (l.least, l.all))
  where
    l : Leads x xs (in_position (x ∷ xs))
    l = leads x [] xs

    held : (x ≡ l.head) ⊎ Contains xs l.head → Contains (x ∷ xs) l.head
    held (inl same) = subst (λ (g : Fault). Contains (x ∷ xs) g) same (contains_here x xs)
    held (inr c) = contains_later x xs l.head c

-- nothing is told where there is no fault, and only there
pub accepted_iff : (xs : List Fault) → (in_position xs ≡ []) ↔ (xs ≡ [])
accepted_iff xs = (none xs, λ e. ap in_position e)
  where
    none : (ys : List Fault) → in_position ys ≡ [] → ys ≡ []
    none [] e = refl
    none (y ∷ ys) e = let l = leads y [] ys in let no : first [] ≡ Some l.head = sym (ap first e) ∙ l.told in cc
