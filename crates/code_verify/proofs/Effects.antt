-- Kinds that are taken from the top, one after another.
use Rattle.std.proofs.Common.{◌≡◌, ℕ, suc, ◌+◌, ◌-◌, ◌<◌, List, [], ◌∷◌, ◌++◌, Option, Some, None, refl, sym, ap, ◌∙◌, append_assoc, arith}
use Rattle.std.proofs.lemmas.List.{append-nil}
use Rattle.bytecode.specs.declared.instr.PrintItem.{PrintItem}
use Rattle.cal_terms.specs.declared.types.Ty.TheVariants as ty
use Rattle.code_verify.specs.Kinds.{Kinds, below, item_kinds, items_kinds, ints}
use Rattle.code_verify.specs.Walk.{◌>>=◌}

pub below_then : (a b ks : Kinds) → below (a ++ b) ks ≡ (below a ks >>= (λ rest. below b rest))
below_then [] b ks = refl
below_then (k ∷ a) b [] = refl
below_then (ty.Int ∷ a) b (ty.Int ∷ ks) = below_then a b ks
below_then (ty.Bool ∷ a) b (ty.Bool ∷ ks) = below_then a b ks
below_then (ty.Int ∷ a) b (ty.Bool ∷ ks) = refl
below_then (ty.Bool ∷ a) b (ty.Int ∷ ks) = refl

pub items_last : (others : List PrintItem) (x : PrintItem) → items_kinds (others ++ x ∷ []) ≡ item_kinds x ++ items_kinds others
items_last [] x = sym (append-nil (item_kinds x))
items_last (y ∷ others) x = ap (λ (l : Kinds). l ++ item_kinds y) (items_last others x) ∙ append_assoc (item_kinds x) (items_kinds others) (item_kinds y)

-- where the first of two lists is there, or is not
pub first_there : (a b ks later : Kinds) → below a ks ≡ Some later → below (a ++ b) ks ≡ below b later
first_there a b ks later e = below_then a b ks ∙ ap (λ (o : Option Kinds). o >>= (λ rest. below b rest)) e

pub first_missing : (a b ks : Kinds) → below a ks ≡ None → below (a ++ b) ks ≡ None
first_missing a b ks e = below_then a b ks ∙ ap (λ (o : Option Kinds). o >>= (λ rest. below b rest)) e

pub item_there : (items others : List PrintItem) (x : PrintItem) (ks later : Kinds) → items ≡ others ++ x ∷ [] → below (item_kinds x) ks ≡ Some later
    → below (items_kinds items) ks ≡ below (items_kinds others) later
item_there items others x ks later e h = ap (λ (l : List PrintItem). below (items_kinds l) ks) e ∙ ap (λ (l : Kinds). below l ks) (items_last others x)
    ∙ first_there (item_kinds x) (items_kinds others) ks later h

pub item_missing : (items others : List PrintItem) (x : PrintItem) (ks : Kinds) → items ≡ others ++ x ∷ [] → below (item_kinds x) ks ≡ None → below (items_kinds items) ks ≡ None
item_missing items others x ks e h = ap (λ (l : List PrintItem). below (items_kinds l) ks) e ∙ ap (λ (l : Kinds). below l ks) (items_last others x)
    ∙ first_missing (item_kinds x) (items_kinds others) ks h

pub int_there : (count i : ℕ) (ks later : Kinds) → i < count → below (ty.Int ∷ []) ks ≡ Some later → below (ints (count - i)) ks ≡ below (ints (count - (i + 1))) later
int_there count i ks later lt e =
    let k : count - i ≡ suc (count - (i + 1)) = omega arith in
    ap (λ (n : ℕ). below (ints n) ks) k ∙ first_there (ty.Int ∷ []) (ints (count - (i + 1))) ks later e
