-- Laws of updates.
use Rattle.std.proofs.Common.{◌≡◌, ℕ, ◌+◌, ◌<◌, ◌≤◌, ℤ, List, [], ◌∷◌, refl, sym, ap, ◌∙◌, ⊎_elim, arith, Option, Some, None, true, false, cond}
use Rattle.std.specs.Option.{IsSome}
use Rattle.std.specs.declared.cmp.Ordering.TheVariants.{Less, Equal}
use Rattle.std.specs.declared.ops.Bound.TheVariants.{Included, Unbounded}
use Rattle.std.specs.FinMap.{get, find, insert, empty, from_entries, get-from_entries, get-insert, get-empty, same_map, nat_cmp-IsAntisymmetric}
use Rattle.std.specs.Map.{lookup}
use Rattle.std.specs.BTreeMap.{BTreeMap, is_at, get as at}
use Rattle.std.specs.BTreeMap.Range.{IsRangeOf}
use Rattle.std.specs.Cmp.{nat_cmp_total, nat_cmp_is, unsigned_tied, eq_by_cmp_equiv}
use Rattle.std.specs.Ordering.{nat_cmp, eq_by_cmp, is_eq, is_gt}
use Rattle.std.proofs.lemmas.Bool.{cases_lt, cases_eq, eq-eqb, ne_eqb}
use Rattle.std.proofs.lemmas.Map.Keys.{le_from_not_gt}
use Rattle.cal_base.specs.Updates.{Written, IsBelow, IsNextFrom}

abbrev Entries : Type 0
Entries = List (ℕ × ℤ)

find-lookup : (q : ℕ) (entries : Entries) → find nat_cmp q entries ≡ lookup (is_at (nat_cmp q)) entries
find-lookup q [] = refl
find-lookup q (entry ∷ entries) = ap (λ o. cond (eq_by_cmp nat_cmp q entry.0) (Some entry.1) o) (find-lookup q entries)

-- the map of a tree's entries has what the tree has
pub get-lookup : (q : ℕ) (entries : Entries) → get (from_entries {R = nat_cmp} entries) q ≡ lookup (is_at (nat_cmp q)) entries
get-lookup q entries = get-from_entries nat_cmp_total entries q ∙ find-lookup q entries

tied : (q : ℕ) → eq_by_cmp nat_cmp q q ≡ true
tied q = unsigned_tied q q ∙ eq-eqb q q refl

untied : (q a : ℕ) → (q ≡ a → ⊥) → eq_by_cmp nat_cmp q a ≡ false
untied q a apart = unsigned_tied q a ∙ ne_eqb q a apart

pub get_put : (update : Written) (a : ℕ) (v : ℤ) → get (insert update a v) a ≡ Some v
get_put update a v = get-insert nat_cmp_total update a v a ∙ ap (λ b. cond b (Some v) (get update a)) (tied a)

pub get_put_other : (update : Written) (a : ℕ) (v : ℤ) (q : ℕ) → (q ≡ a → ⊥) → get (insert update a v) q ≡ get update q
get_put_other update a v q apart = get-insert nat_cmp_total update a v q ∙ ap (λ b. cond b (Some v) (get update q)) (untied q a apart)

-- a tree that has one entry more, or another at its address, is the map with that entry
pub put_is : (before later : Entries) (a : ℕ) (v : ℤ) → ((q : ℕ) → lookup (is_at (nat_cmp q)) later ≡ cond (is_eq (nat_cmp a q)) (Some v) (lookup (is_at (nat_cmp q)) before))
    → from_entries {R = nat_cmp} later ≡ insert (from_entries before) a v
put_is before later a v is =
    same_map nat_cmp_total nat_cmp-IsAntisymmetric _ _ (λ q.
    get-lookup q later
    ∙ (is q
    ∙ (λ i. cond ((eq_by_cmp_equiv nat_cmp_total).symm a q i) (Some v) (sym (get-lookup q before) i))
    ∙ sym (get-insert nat_cmp_total (from_entries before) a v q)))

pub empty_below : (bound : ℕ) → IsBelow bound empty
empty_below bound a le = get-empty nat_cmp a

pub put_below : (bound : ℕ) (update : Written) (a : ℕ) (v : ℤ) → IsBelow bound update → a < bound → IsBelow bound (insert update a v)
put_below bound update a v below small q le = get_put_other update a v q (λ e. omega arith) ∙ below q le

not_gt : (a b : ℕ) → a ≤ b → is_gt (nat_cmp a b) ≡ false
not_gt a b le = ⊎_elim (λ (l : a < b). ap is_gt (sym (nat_cmp_is a b Less l))) (λ (g : b ≤ a). ap is_gt (sym (nat_cmp_is a b Equal (omega arith)))) (cases_lt a b)

-- a word that was skipped has no entry
skipped : (o : Option ℤ) → (IsSome o → ⊥) → o ≡ None
skipped None none = refl
skipped (Some v) none = absurd (none refl)

-- the first entry of a tree from an address on
pub first_in_range : (tree : BTreeMap ℕ ℤ) (from : ℕ) (entry : ℕ × ℤ) (rest : Entries) → IsRangeOf nat_cmp (Included from) Unbounded tree (entry ∷ rest)
    → IsNextFrom (from_entries tree.entries) from (Some entry)
first_in_range tree from entry rest range = (
  le_from_not_gt from entry.0 range.1.0.0,
  get-lookup entry.0 tree.entries ∙ range.1.1,
  λ a le lt. get-lookup a tree.entries ∙ skipped (at nat_cmp tree a) (λ there. let after : entry.0 ≤ a = le_from_not_gt entry.0 a (range.2 a (not_gt from a le, tt) there) in absurd (omega arith)),
)

pub none_in_range : (tree : BTreeMap ℕ ℤ) (from : ℕ) → IsRangeOf nat_cmp (Included from) Unbounded tree [] → IsNextFrom (from_entries tree.entries) from None
none_in_range tree from range a le = get-lookup a tree.entries ∙ range.5 refl a (not_gt from a le, tt)

-- the copy so far: each entry below the address, and no other
pub record IsCopied (update kept : Written) (from : ℕ) : Type 0 where
  pub same : (a : ℕ) → a < from → get kept a ≡ get update a
  pub none : IsBelow from kept

pub copied_none : (update : Written) → IsCopied update empty 0
copied_none update = record { same = λ a lt. absurd (omega arith); none = empty_below 0 }

pub copied_more : (update kept : Written) (from a : ℕ) (v : ℤ) → IsCopied update kept from → IsNextFrom update from (Some (a, v)) → IsCopied update (insert kept a v) (a + 1)
copied_more update kept from a v copied next = record {
  same = λ b lt.
      ⊎_elim
      (λ (e : b ≡ a). ap (λ q. get (insert kept a v) q) e ∙ (get_put kept a v ∙ (sym next.1 ∙ ap (λ q. get update q) (sym e))))
      (λ (apart : b ≡ a → ⊥).
      get_put_other kept a v b apart
      ∙ ⊎_elim
      (λ (l : b < from). copied.same b l)
      (λ (g : from ≤ b). copied.none b g ∙ sym (next.2 b g (omega arith)))
      (cases_lt b from))
      (cases_eq b a);
  none = λ b le. get_put_other kept a v b (λ e. omega arith) ∙ copied.none b (omega (arith, next.0));
}

pub copied_all : (update kept : Written) (from : ℕ) → IsCopied update kept from → IsBelow from update → kept ≡ update
copied_all update kept from copied none =
    same_map nat_cmp_total nat_cmp-IsAntisymmetric _ _
    (λ a. ⊎_elim (λ (l : a < from). copied.same a l) (λ (g : from ≤ a). copied.none a g ∙ sym (none a g)) (cases_lt a from))
