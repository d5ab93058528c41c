-- Names by their places: what a map from names to places has as names are added, and what a name stands for.
use Rattle.std.proofs.Common.{◌≡◌, ◌⊎◌, inl, inr, ℕ, zero, suc, ◌<◌, Bool, true, false, cond, List, [], ◌∷◌, ◌++◌, length, Option, Some, None, refl, sym, ap, ◌∙◌, subst, arith}
use Rattle.std.specs.Prelude.{Vec, slice_get}
use Rattle.std.specs.Ordering.{nat_cmp, is_eq, match_ordering}
use Rattle.std.specs.declared.cmp.Ordering.{Ordering}
use Rattle.std.specs.declared.cmp.Ordering.TheVariants.{Less, Equal, Greater}
use Rattle.std.specs.Cmp.Lexicographic.{slice_cmp}
use Rattle.std.specs.BTreeMap.{BTreeMap, insert_entry}
use Rattle.std.specs.Map.{lookup}
use Rattle.std.specs.Str.{bytes_eq}
use Rattle.std.proofs.lemmas.Cmp.{nat_list_eq_equiv}
use Rattle.std.proofs.lemmas.Map.Entries.{place_from_lookup}
use Rattle.std.proofs.lemmas.Map.Text.{is_eq-slice_cmp}
use Rattle.std.proofs.lemmas.Option.{some_pair_parts}
use Rattle.std.proofs.lemmas.Slice.Eq.{bytes_eq-Decides}
use Rattle.type_check.specs.declared.names.Declaration.{Declaration}
use Rattle.type_check.specs.Names.{Names}
use Rattle.type_check.specs.Places.{place_among, HavePlaces}

-- ---- a map with names as keys

bytes_self : (a : List ℕ) → bytes_eq a a ≡ true
bytes_self a = (bytes_eq-Decides a a).1 refl

same_value : {X : Type 0} (b c : Bool) (x y z : X) → b ≡ c → cond b x z ≡ cond c x (cond b y z)
same_value b c x y z e = by b ∙ ap (λ d. cond d x (cond b y z)) e
  where
    by : (b : Bool) → cond b x z ≡ cond b x (cond b y z)
    by true = refl
    by false = refl

apart : {X : Type 0} (b c : Bool) (x y z : X) → (b ≡ true → c ≡ true → ⊥) → cond b x (cond c y z) ≡ cond c y (cond b x z)
apart true true x y z h = absurd (h refl refl)
apart true false x y z h = refl
apart false true x y z h = refl
apart false false x y z h = refl

module _ {A : Type 0} where
  -- whether a key is this name
  abbrev pub named : List ℕ → Vec ℕ A → Bool
  named name k = is_eq (slice_cmp nat_cmp name k.items)

  named_turned : (name : List ℕ) (k : Vec ℕ A) → named name k ≡ bytes_eq k.items name
  named_turned name k = is_eq-slice_cmp name k.items ∙ nat_list_eq_equiv.symm name k.items

module _ {A X : Type 0} where
  -- what is found once a name has a value
  pub lookup-inserted : (es : List (Vec ℕ A × X)) (k : Vec ℕ A) (v : X) (name : List ℕ)
      → lookup (named name) (insert_entry (λ x y. slice_cmp nat_cmp x.items y.items) es k v) ≡ cond (bytes_eq k.items name) (Some v) (lookup (named name) es)
  lookup-inserted [] k v name = ap (λ b. cond b (Some v) None) (named_turned name k)
  lookup-inserted (e ∷ es) k v name = by (slice_cmp nat_cmp k.items e.0.items) refl (lookup-inserted es k v name)
    where
      others : List (Vec ℕ A × X)
      others = insert_entry (λ x y. slice_cmp nat_cmp x.items y.items) es k v

      by : (o : Ordering) → slice_cmp nat_cmp k.items e.0.items ≡ o → lookup (named name) others ≡ cond (bytes_eq k.items name) (Some v) (lookup (named name) es)
          → lookup (named name) (match_ordering o ((k, v) ∷ e ∷ es) ((e.0, v) ∷ es) (e ∷ others)) ≡ cond (bytes_eq k.items name) (Some v) (lookup (named name) (e ∷ es))
      by Less p h = ap (λ b. cond b (Some v) (lookup (named name) (e ∷ es))) (named_turned name k)
      by Equal p h =
          let same : k.items ≡ e.0.items = (bytes_eq-Decides k.items e.0.items).0 (sym (is_eq-slice_cmp k.items e.0.items) ∙ ap is_eq p) in
          same_value (named name e.0) (bytes_eq k.items name) (Some v) (Some e.1) (lookup (named name) es) (named_turned name e.0 ∙ ap (λ a. bytes_eq a name) (sym same))
      by Greater p h =
          ap (λ r. cond (named name e.0) (Some e.1) r) h
          ∙ apart (named name e.0) (bytes_eq k.items name) (Some e.1) (Some v) (lookup (named name) es)
          (λ one two.
          let both : bytes_eq k.items e.0.items ≡ true = ap (λ a. bytes_eq k.items a) ((bytes_eq-Decides e.0.items name).0 (sym (named_turned name e.0) ∙ one)) ∙ two in
          let differ : bytes_eq k.items e.0.items ≡ false = sym (is_eq-slice_cmp k.items e.0.items) ∙ ap is_eq p in
          let never : true ≡ false = sym both ∙ differ in
          absurd cc)

-- ---- visible names

-- a visible name stands at some place
stands : (names : Names) (name : List ℕ) (d : Declaration) → lookup (bytes_eq name) names ≡ Some d → (i : ℕ) × (slice_get names i ≡ Some (name, d))
stands names name d e =
    let at = place_from_lookup (bytes_eq name) names d e in
    (at.0, at.2 ∙ ap (λ (k : List ℕ). Some (k, d)) (sym ((bytes_eq-Decides name at.1).0 at.3)))

-- a name that stands at some place is visible
found : (names : Names) (i : ℕ) (name : List ℕ) (d : Declaration) → slice_get names i ≡ Some (name, d) → (x : Declaration) × (lookup (bytes_eq name) names ≡ Some x)
found [] i name d e = absurd cc
found (x ∷ names) zero name d e =
    let same : x ≡ (name, d) = cc in
    (d, ap (λ (y : List ℕ × Declaration). lookup (bytes_eq name) (y ∷ names)) same ∙ ap (λ b. cond b (Some d) (lookup (bytes_eq name) names)) (bytes_self name))
found (x ∷ names) (suc i) name d e = by (bytes_eq name x.0) refl (found names i name d e)
  where
    by : (b : Bool) → bytes_eq name x.0 ≡ b → (y : Declaration) × (lookup (bytes_eq name) names ≡ Some y) → (y : Declaration) × (lookup (bytes_eq name) (x ∷ names) ≡ Some y)
    by true p h = (x.1, ap (λ b. cond b (Some x.1) (lookup (bytes_eq name) names)) p)
    by false p h = (h.0, ap (λ b. cond b (Some x.1) (lookup (bytes_eq name) names)) p ∙ h.1)

module _ {A : Type 0} (places : BTreeMap (Vec ℕ A) ℕ) (names : Names) (have : HavePlaces places names) (name : List ℕ) where
  -- it stands where its place says
  at_place : (d : Declaration) → lookup (bytes_eq name) names ≡ Some d → (i : ℕ) × (slice_get names i ≡ Some (name, d)) × (place_among places name ≡ Some i)
  at_place d e = let s = stands names name d e in (s.0, s.1, have s.0 (name, d) s.1)

  -- a name without a place stands for nothing
  pub no_place : place_among places name ≡ None → lookup (bytes_eq name) names ≡ None
  no_place none = by (lookup (bytes_eq name) names) refl
    where
      by : (o : Option Declaration) → lookup (bytes_eq name) names ≡ o → o ≡ None
      by None e = refl
      by (Some d) e = let never : None ≡ Some (at_place d e).0 = sym none ∙ (at_place d e).2 in cc

  -- nor does one whose place is behind the others
  pub past_place : (i : ℕ) → place_among places name ≡ Some i → slice_get names i ≡ None → lookup (bytes_eq name) names ≡ None
  past_place i place none = by (lookup (bytes_eq name) names) refl
    where
      by : (o : Option Declaration) → lookup (bytes_eq name) names ≡ o → o ≡ None
      by None e = refl
      by (Some d) e =
          let same : Some i ≡ Some (at_place d e).0 = sym place ∙ (at_place d e).2 in
          let there : slice_get names i ≡ Some (name, d) = let h : i ≡ (at_place d e).0 = cc in ap (slice_get names) h ∙ (at_place d e).1 in
          let never : None ≡ Some (name, d) = sym none ∙ there in
          cc

  -- nor one at whose place another stands
  pub other_place : (i : ℕ) (x : List ℕ × Declaration) → place_among places name ≡ Some i → slice_get names i ≡ Some x → bytes_eq x.0 name ≡ false → lookup (bytes_eq name) names ≡ None
  other_place i x place there differ = by (lookup (bytes_eq name) names) refl
    where
      by : (o : Option Declaration) → lookup (bytes_eq name) names ≡ o → o ≡ None
      by None e = refl
      by (Some d) e =
          let same : Some i ≡ Some (at_place d e).0 = sym place ∙ (at_place d e).2 in
          let own : slice_get names i ≡ Some (name, d) = let h : i ≡ (at_place d e).0 = cc in ap (slice_get names) h ∙ (at_place d e).1 in
          let both : Some x ≡ Some (name, d) = sym there ∙ own in
          let is : x ≡ (name, d) = cc in
          let never : false ≡ true = sym differ ∙ ap (λ (y : List ℕ × Declaration). bytes_eq y.0 name) is ∙ bytes_self name in
          cc

  -- one that stands at its place stands for what is there
  pub own_place : (i : ℕ) (x : List ℕ × Declaration) → place_among places name ≡ Some i → slice_get names i ≡ Some x → bytes_eq x.0 name ≡ true → lookup (bytes_eq name) names ≡ Some x.1
  own_place i x place there same_name =
      let here : slice_get names i ≡ Some (name, x.1) = there ∙ ap (λ (n : List ℕ). Some (n, x.1)) ((bytes_eq-Decides x.0 name).0 same_name) in
      let seen = found names i name x.1 here in
      let at = at_place seen.0 seen.1 in
      let same : Some i ≡ Some at.0 = sym place ∙ at.2 in
      let own : slice_get names i ≡ Some (name, seen.0) = let h : i ≡ at.0 = cc in ap (slice_get names) h ∙ at.1 in
      let both : Some (name, x.1) ≡ Some (name, seen.0) = sym here ∙ own in
      seen.1 ∙ ap Some (sym (some_pair_parts name name x.1 seen.0 both).1)

-- ---- one more name

-- an entry of a list with one more is among the others, or it is the last one
last_or : {X : Type 0} (xs : List X) (last x : X) (i : ℕ) → slice_get (xs ++ last ∷ []) i ≡ Some x → (slice_get xs i ≡ Some x) ⊎ ((x ≡ last) × (i ≡ length xs))
last_or [] last x zero e = let same : last ≡ x = cc in inr (sym same, refl)
last_or [] last x (suc i) e = absurd cc
last_or (y ∷ xs) last x zero e = inl e
last_or (y ∷ xs) last x (suc i) e = elim (last_or xs last x i e) [
  | inl h ↦ inl h
  | inr h ↦ inr (h.0, ap suc h.1)
]

module _ {A : Type 0} (places new : BTreeMap (Vec ℕ A) ℕ) (names : Names) (have : HavePlaces places names) (key : Vec ℕ A) (name : List ℕ) (same : key.items ≡ name)
    (absent : lookup (bytes_eq name) names ≡ None)
    (inserted : new.entries ≡ insert_entry (λ x y. slice_cmp nat_cmp x.items y.items) places.entries key (length names)) where
  placed : (other : List ℕ) → place_among new other ≡ cond (bytes_eq name other) (Some (length names)) (place_among places other)
  placed other =
      ap (lookup (named other)) inserted
      ∙ lookup-inserted places.entries key (length names) other
      ∙ ap (λ (n : List ℕ). cond (bytes_eq n other) (Some (length names)) (place_among places other)) same

  -- the others keep their places
  pub places_kept : HavePlaces new names
  places_kept i e there = placed e.0 ∙ by (bytes_eq name e.0) refl
    where
      by : (b : Bool) → bytes_eq name e.0 ≡ b → cond b (Some (length names)) (place_among places e.0) ≡ Some i
      by false p = have i e there
      by true p =
          let here : slice_get names i ≡ Some (name, e.1) = there ∙ ap (λ (n : List ℕ). Some (n, e.1)) (sym ((bytes_eq-Decides name e.0).0 p)) in
          let seen = found names i name e.1 here in
          let never : None ≡ Some seen.0 = sym absent ∙ seen.1 in
          absurd cc

  -- and it stands behind them
  pub places_grown : (d : Declaration) → HavePlaces new (names ++ (name, d) ∷ [])
  places_grown d i e there = elim (last_or names (name, d) e i there) [
    | inl h ↦ places_kept i e h
    | inr h ↦ ap (λ (x : List ℕ × Declaration). place_among new x.0) h.0 ∙ placed name ∙ ap (λ b. cond b (Some (length names)) (place_among places name)) (bytes_self name) ∙ ap Some (sym h.1)
  ]
