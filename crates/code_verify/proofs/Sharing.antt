-- Stacks that share what lies below: what a node more changes, and what it leaves.
use Rattle.std.proofs.Common.{◌≡◌, ◌≢◌, ℕ, zero, suc, ◌+◌, ◌<◌, ◌≤◌, Bool, List, [], ◌∷◌, ◌++◌, length, replicate, get_or, Option, Some, None, ◌⊎◌, inl, inr, refl, sym, ap, subst, ◌∙◌, arith}
use Rattle.std.specs.Prelude.{slice_get, slice_set, unwrap_or, option_map, IsTrue, ◌↔◌, Result, Ok, Err, OnOk, OnErr, IfOk}
use Rattle.std.proofs.lemmas.Bool.{cases_lt}
use Rattle.std.proofs.lemmas.List.{length-append}
use Rattle.std.proofs.lemmas.Option.{slice_get_within, slice_get-map, slice_get-get_or}
use Rattle.cal_terms.specs.declared.types.Ty.{Ty}
use Rattle.cal_terms.specs.declared.types.Ty.TheVariants as ty
use Rattle.code_verify.specs.declared.stacks.Node.{Node}
use Rattle.code_verify.specs.Kinds.{Kinds}
use Rattle.code_verify.specs.Walk.{Changes, Table, agreed, expects, looped, opened, unknown}
use Rattle.code_verify.specs.Stacks.{stack_at, on_top, stack_of, stacks_from, stacks_of, above, linked, Finds, Fits, IsTree, Keeps, known_in, Held, AreHeld}
use Rattle.code_verify.proofs.Walking.{not_past, some_is, set_same, set_other, set_long, either_place, expects_by, looped_by}
use Rattle.code_verify.proofs.Using.{get_before, get_last}

-- ---- the stacks of nodes

from_long : (stacks : List Kinds) (nodes : List Node) → length (stacks_from stacks nodes) ≡ length stacks + length nodes
from_long stacks [] = omega arith
from_long stacks (n ∷ nodes) =
    let rest = from_long (stacks ++ stack_of stacks n ∷ []) nodes in
    let one = length-append stacks (stack_of stacks n ∷ []) in
    omega (arith, rest, one)

-- as many stacks as nodes
pub stacks_long : (nodes : List Node) → length (stacks_of nodes) ≡ length nodes
stacks_long nodes = let long = from_long [] nodes in omega (arith, long)

from_more : (stacks : List Kinds) (nodes : List Node) (n : Node) → stacks_from stacks (nodes ++ n ∷ []) ≡ stacks_from stacks nodes ++ stack_of (stacks_from stacks nodes) n ∷ []
from_more stacks [] n = refl
from_more stacks (x ∷ nodes) n = from_more (stacks ++ stack_of stacks x ∷ []) nodes n

from_set : (stacks : List Kinds) (nodes : List Node) (p : ℕ) (n later : Node) → slice_get nodes p ≡ Some n → later.top ≡ n.top → later.below ≡ n.below
    → stacks_from stacks (slice_set nodes p later) ≡ stacks_from stacks nodes
from_set stacks [] p n later e top below = refl
from_set stacks (x ∷ nodes) zero n later e top below =
    let same : x ≡ n = cc in
    let stack : stack_of stacks later ≡ stack_of stacks x = ap (λ (o : Option Ty). on_top o (stack_at stacks later.below)) top ∙ ap (λ (b : ℕ). on_top n.top (stack_at stacks b)) below
    ∙ ap (λ (y : Node). stack_of stacks y) (sym same) in
    ap (λ (ks : Kinds). stacks_from (stacks ++ ks ∷ []) nodes) stack
from_set stacks (x ∷ nodes) (suc p) n later e top below = from_set (stacks ++ stack_of stacks x ∷ []) nodes p n later e top below

linked_top : (n : Node) (k : Ty) (q : ℕ) → (linked n k q).top ≡ n.top
linked_top n ty.Int q = refl
linked_top n ty.Bool q = refl

linked_below : (n : Node) (k : Ty) (q : ℕ) → (linked n k q).below ≡ n.below
linked_below n ty.Int q = refl
linked_below n ty.Bool q = refl

linked_height : (n : Node) (k : Ty) (q : ℕ) → (linked n k q).height ≡ n.height
linked_height n ty.Int q = refl
linked_height n ty.Bool q = refl

-- a stack that is there
pub at_is : (stacks : List Kinds) (p : ℕ) (ks : Kinds) → slice_get stacks p ≡ Some ks → stack_at stacks p ≡ ks
at_is stacks p ks e = ap (λ (o : Option Kinds). unwrap_or o []) e

pub is_there : (stacks : List Kinds) (p : ℕ) → p < length stacks → slice_get stacks p ≡ Some (stack_at stacks p)
is_there [] p lt = absurd (omega arith)
is_there (ks ∷ stacks) zero lt = refl
is_there (ks ∷ stacks) (suc p) lt = let less : p < length stacks = omega arith in is_there stacks p less

pub none_there : (stacks : List Kinds) (p : ℕ) → length stacks ≤ p → stack_at stacks p ≡ []
none_there [] p le = refl
none_there (ks ∷ stacks) zero le = absurd (omega arith)
none_there (ks ∷ stacks) (suc p) le = let less : length stacks ≤ p = omega arith in none_there stacks p less

no_longer : (k : Ty) (ks : Kinds) → ks ≡ k ∷ ks → ⊥
no_longer k ks e = let long : length ks ≡ suc (length ks) = ap (λ (l : Kinds). length l) e in omega (arith, long)

-- a stack that is found has a place that is not 0
pub found_there : (stacks : List Kinds) (ks : Kinds) (q : ℕ) → q ≢ 0 → Finds stacks ks q → slice_get stacks q ≡ Some ks
found_there stacks ks zero ne f = absurd (ne refl)
found_there stacks ks (suc q) ne f = f

found_at : (stacks : List Kinds) (ks : Kinds) (q : ℕ) → 0 < q → slice_get stacks q ≡ Some ks → Finds stacks ks q
found_at stacks ks zero lt e = absurd (omega arith)
found_at stacks ks (suc q) lt e = e

-- ---- one stack more

module _ (stacks : List Kinds) (new : Kinds) where
  abbrev more : List Kinds
  more = stacks ++ new ∷ []

  more_at : (p : ℕ) → p < length stacks → stack_at more p ≡ stack_at stacks p
  more_at p lt = ap (λ (o : Option Kinds). unwrap_or o []) (get_before stacks new p lt)

  pub more_keeps : Keeps stacks more
  more_keeps = record { long = (let one = length-append stacks (new ∷ []) in omega (arith, one)); same = more_at }

  pub more_last : (p : ℕ) → p ≡ length stacks → (p < length more) × (stack_at more p ≡ new)
  more_last p e = ((let one = length-append stacks (new ∷ []) in omega (arith, one, e)), ap (stack_at more) e ∙ at_is more (length stacks) new (get_last stacks new))

  -- a stack is one of those before, or the new one
  either_stack : (p : ℕ) (ks : Kinds) → slice_get more p ≡ Some ks → (slice_get stacks p ≡ Some ks) ⊎ ((p ≡ length stacks) × (ks ≡ new))
  either_stack p ks e = elim (cases_lt p (length stacks)) [
    | inl lt ↦ inl (sym (get_before stacks new p lt) ∙ e)
    | inr le ↦
        let inside = slice_get_within more p ks e in
        let one = length-append stacks (new ∷ []) in
        let last : p ≡ length stacks = omega (arith, inside, one, le) in
        inr (last, some_is ks new (slice_get more p) e (ap (slice_get more) last ∙ get_last stacks new))
  ]

  find_more : (ks : Kinds) (q : ℕ) → Finds stacks ks q → ks ≢ new → Finds more ks q
  find_more ks zero none ne = λ p e. elim (either_stack p ks e) [
    | inl old ↦ none p old
    | inr last ↦ ne last.1
  ]
  find_more ks (suc q) found ne = get_before stacks new (suc q) (slice_get_within stacks (suc q) ks found) ∙ found

  stack_more : (n : Node) → n.below < length stacks → stack_of more n ≡ stack_of stacks n
  stack_more n lt = ap (on_top n.top) (more_at n.below lt)

  fits_more : (p : ℕ) (n : Node) → Fits stacks p n → ((k : Ty) → k ∷ stack_of stacks n ≢ new) → Fits more p n
  fits_more p n f ne =
      let same = stack_more n f.below in
      record {
        stack = get_before stacks new p (slice_get_within stacks p (stack_of stacks n) f.stack) ∙ f.stack ∙ ap (λ (ks : Kinds). Some ks) (sym same);
        below = (let one = length-append stacks (new ∷ []) in let lt = f.below in omega (arith, one, lt));
        height = f.height ∙ ap (λ (ks : Kinds). length ks) (sym same);
        low = f.low;
        over = λ k. subst (λ (ks : Kinds). Finds more (k ∷ ks) (above n k)) (sym same) (find_more (k ∷ stack_of stacks n) (above n k) (f.over k) (ne k));
      }

-- ---- one node more

module _ (nodes : List Node) (tree : IsTree nodes) (at : ℕ) (n : Node) (there : slice_get nodes at ≡ Some n) (k : Ty) (none : above n k ≡ 0) where
  abbrev old : List Kinds
  old = stacks_of nodes

  abbrev new : Kinds
  new = k ∷ stack_of old n

  abbrev later : List Kinds
  later = old ++ new ∷ []

  fits_n : Fits old at n
  fits_n = tree.fits at n there

  is_new : (p : ℕ) → slice_get old p ≡ Some new → ⊥
  is_new = subst (λ (q : ℕ). Finds old new q) none (fits_n.over k)

  -- what lies below a stack is a stack
  tail_there : (p : ℕ) (j : Ty) (ks : Kinds) → slice_get old p ≡ Some (j ∷ ks) → (q : ℕ) × (slice_get old q ≡ Some ks)
  tail_there p j ks e = by_node (slice_get nodes p) refl
    where
      by_top : (x : Node) (o : Option Ty) → on_top o (stack_at old x.below) ≡ j ∷ ks → stack_at old x.below ≡ ks
      by_top x None h = absurd cc
      by_top x (Some i) h = cc

      by_node : (o : Option Node) → slice_get nodes p ≡ o → (q : ℕ) × (slice_get old q ≡ Some ks)
      by_node None h = absurd (not_past nodes p (let inside = slice_get_within old p (j ∷ ks) e in let long = stacks_long nodes in omega (arith, inside, long)) h)
      by_node (Some x) h =
          let f = tree.fits p x h in
          let same : stack_at old x.below ≡ ks = by_top x x.top (some_is (stack_of old x) (j ∷ ks) (slice_get old p) f.stack e) in
          (x.below, is_there old x.below f.below ∙ ap (λ (l : Kinds). Some l) same)

  none_over : (j : Ty) → Finds later (j ∷ new) 0
  none_over j p e = elim (either_stack old new p (j ∷ new) e) [
    | inl before ↦ let t = tail_there p j new before in is_new t.0 t.1
    | inr last ↦ no_longer j new (sym last.1)
  ]

  abbrev added : Node
  added = record { top = Some k; below = at; height = n.height + 1; ints = 0; truths = 0 }

  at_within : at < length old
  at_within = slice_get_within old at (stack_of old n) fits_n.stack

  at_stack : stack_at old at ≡ stack_of old n
  at_stack = at_is old at (stack_of old n) fits_n.stack

  added_stack : stack_of later added ≡ new
  added_stack = ap (λ (ks : Kinds). k ∷ ks) (more_at old new at at_within ∙ at_stack)

  added_fits : Fits later (length nodes) added
  added_fits = record {
    stack = ap (slice_get later) (sym (stacks_long nodes)) ∙ get_last old new ∙ ap (λ (ks : Kinds). Some ks) (sym added_stack);
    below = (let one = length-append old (new ∷ []) in let lt = at_within in omega (arith, one, lt));
    height = (let h = fits_n.height in let e : length (stack_of later added) ≡ suc (length (stack_of old n)) = ap (λ (ks : Kinds). length ks) added_stack in omega (arith, h, e));
    low = (let l = fits_n.low in let lt = at_within in let long = stacks_long nodes in omega (arith, l, lt, long));
    over = λ j. over j;
  }
    where
      over : (j : Ty) → Finds later (j ∷ stack_of later added) (above added j)
      over ty.Int = subst (λ (ks : Kinds). Finds later (ty.Int ∷ ks) 0) (sym added_stack) (none_over ty.Int)
      over ty.Bool = subst (λ (ks : Kinds). Finds later (ty.Bool ∷ ks) 0) (sym added_stack) (none_over ty.Bool)

  abbrev names : Node
  names = linked n k (length nodes)

  names_stack : stack_of later names ≡ stack_of old n
  names_stack = ap (λ (o : Option Ty). on_top o (stack_at later names.below)) (linked_top n k (length nodes)) ∙ ap (λ (b : ℕ). on_top n.top (stack_at later b)) (linked_below n k (length nodes))
      ∙ stack_more old new n fits_n.below

  names_over : (j : Ty) → Finds later (j ∷ stack_of old n) (above names j)
  names_over j = by_kinds k refl j
    where
      here : slice_get later (length nodes) ≡ Some new
      here = ap (slice_get later) (sym (stacks_long nodes)) ∙ get_last old new

      positive : 0 < length nodes
      positive = let lt = at_within in let long = stacks_long nodes in omega (arith, lt, long)

      by_kinds : (i : Ty) → k ≡ i → (j : Ty) → Finds later (j ∷ stack_of old n) (above (linked n i (length nodes)) j)
      by_kinds ty.Int e ty.Int = found_at later (ty.Int ∷ stack_of old n) (length nodes) positive (subst (λ (i : Ty). slice_get later (length nodes) ≡ Some (i ∷ stack_of old n)) e here)
      by_kinds ty.Bool e ty.Bool = found_at later (ty.Bool ∷ stack_of old n) (length nodes) positive (subst (λ (i : Ty). slice_get later (length nodes) ≡ Some (i ∷ stack_of old n)) e here)
      by_kinds ty.Int e ty.Bool = find_more old new (ty.Bool ∷ stack_of old n) n.truths (fits_n.over ty.Bool)
          (λ same. let other : ty.Bool ≡ k = cc in let no : ty.Bool ≡ ty.Int = other ∙ e in absurd cc)
      by_kinds ty.Bool e ty.Int = find_more old new (ty.Int ∷ stack_of old n) n.ints (fits_n.over ty.Int) (λ same. let other : ty.Int ≡ k = cc in let no : ty.Int ≡ ty.Bool = other ∙ e in absurd cc)

  names_fits : Fits later at names
  names_fits = record {
    stack = get_before old new at at_within ∙ fits_n.stack ∙ ap (λ (ks : Kinds). Some ks) (sym names_stack);
    below = (let one = length-append old (new ∷ []) in let lt = fits_n.below in let e = linked_below n k (length nodes) in omega (arith, one, lt, e));
    height = linked_height n k (length nodes) ∙ fits_n.height ∙ ap (λ (ks : Kinds). length ks) (sym names_stack);
    low = (let l = fits_n.low in let e = linked_height n k (length nodes) in omega (arith, l, e));
    over = λ j. subst (λ (ks : Kinds). Finds later (j ∷ ks) (above names j)) (sym names_stack) (names_over j);
  }

  -- no other node's stack lies right below the new one
  other_fits : (p : ℕ) (x : Node) → p ≢ at → slice_get nodes p ≡ Some x → Fits later p x
  other_fits p x ne e =
      let f = tree.fits p x e in
      fits_more old new p x f (λ j same. let tails : stack_of old x ≡ stack_of old n = cc in ne (tree.distinct p at (stack_of old n) (f.stack ∙ ap (λ (ks : Kinds). Some ks) tails) fits_n.stack))

  abbrev grown : List Node
  grown = slice_set (nodes ++ added ∷ []) at names

  before_added : slice_get (nodes ++ added ∷ []) at ≡ Some n
  before_added = get_before nodes added at (slice_get_within nodes at n there) ∙ there

  pub grown_stacks : stacks_of grown ≡ old ++ new ∷ []
  grown_stacks = from_set [] (nodes ++ added ∷ []) at n names before_added (linked_top n k (length nodes)) (linked_below n k (length nodes)) ∙ from_more [] nodes added
      ∙ ap (λ (ks : Kinds). old ++ (k ∷ ks) ∷ []) at_stack

  grown_fits : (p : ℕ) (x : Node) → slice_get grown p ≡ Some x → Fits later p x
  grown_fits p x e = elim (either_place p at) [
    | inl same ↦
        let here : slice_get grown at ≡ Some names = set_same (nodes ++ added ∷ []) at names (slice_get_within (nodes ++ added ∷ []) at n before_added) in
        let is : names ≡ x = some_is names x (slice_get grown at) here (ap (slice_get grown) (sym same) ∙ e) in
        subst (λ (q : ℕ). Fits later q x) (sym same) (subst (λ (y : Node). Fits later at y) is names_fits)
    | inr other ↦ elsewhere other (sym (set_other (nodes ++ added ∷ []) at p names other) ∙ e)
  ]
    where
      elsewhere : p ≢ at → slice_get (nodes ++ added ∷ []) p ≡ Some x → Fits later p x
      elsewhere other h = elim (cases_lt p (length nodes)) [
        | inl lt ↦ other_fits p x other (sym (get_before nodes added p lt) ∙ h)
        | inr le ↦
            let inside = slice_get_within (nodes ++ added ∷ []) p x h in
            let one = length-append nodes (added ∷ []) in
            let last : p ≡ length nodes = omega (arith, inside, one, le) in
            let is : added ≡ x = some_is added x (slice_get (nodes ++ added ∷ []) (length nodes)) (get_last nodes added) (ap (slice_get (nodes ++ added ∷ [])) (sym last) ∙ h) in
            subst (λ (q : ℕ). Fits later q x) (sym last) (subst (λ (y : Node). Fits later (length nodes) y) is added_fits)
      ]

  later_distinct : (p q : ℕ) (ks : Kinds) → slice_get later p ≡ Some ks → slice_get later q ≡ Some ks → p ≡ q
  later_distinct p q ks x y = elim (either_stack old new p ks x) [
    | inl p_old ↦ elim (either_stack old new q ks y) [
      | inl q_old ↦ tree.distinct p q ks p_old q_old
      | inr q_new ↦ absurd (is_new p (p_old ∙ ap (λ (l : Kinds). Some l) q_new.1))
    ]
    | inr p_new ↦ elim (either_stack old new q ks y) [
      | inl q_old ↦ absurd (is_new q (q_old ∙ ap (λ (l : Kinds). Some l) p_new.1))
      | inr q_new ↦ p_new.0 ∙ sym q_new.0
    ]
  ]

  later_root : slice_get later 0 ≡ Some []
  later_root = get_before old new 0 (slice_get_within old 0 [] tree.root) ∙ tree.root

  pub grown_tree : IsTree grown
  grown_tree =
      let is = sym grown_stacks in
      record {
        root = subst (λ (l : List Kinds). slice_get l 0 ≡ Some []) is later_root;
        distinct = subst (λ (l : List Kinds). (p q : ℕ) (ks : Kinds) → slice_get l p ≡ Some ks → slice_get l q ≡ Some ks → p ≡ q) is later_distinct;
        fits = λ p x e. subst (λ (l : List Kinds). Fits l p x) is (grown_fits p x e);
      }

-- ---- what a node says of its stack

module _ (nodes : List Node) (stacks : List Kinds) (is : stacks_of nodes ≡ stacks) (p : ℕ) where
  pub none_at : slice_get nodes p ≡ None → stack_at stacks p ≡ []
  none_at none = subst (λ (l : List Kinds). stack_at l p ≡ []) is (elim (cases_lt p (length nodes)) [
    | inl lt ↦ absurd (not_past nodes p lt none)
    | inr le ↦ let long = stacks_long nodes in none_there (stacks_of nodes) p (omega (arith, le, long))
  ])

  module _ (tree : IsTree nodes) (n : Node) (at : slice_get nodes p ≡ Some n) where
    fit : Fits stacks p n
    fit = subst (λ (l : List Kinds). Fits l p n) is (tree.fits p n at)

    pub node_at : stack_at stacks p ≡ stack_of stacks n
    node_at = at_is stacks p (stack_of stacks n) fit.stack

    pub height_at : n.height ≡ length (stack_at stacks p)
    height_at = fit.height ∙ ap (λ (ks : Kinds). length ks) (sym node_at)

    pub low_at : (n.height ≤ p) × (p < length nodes)
    low_at = (fit.low, slice_get_within nodes p n at)

    pub root_at : n.top ≡ None → stack_at stacks p ≡ []
    root_at e = node_at ∙ ap (λ (o : Option Ty). on_top o (stack_at stacks n.below)) e

    pub split_at : (k : Ty) → n.top ≡ Some k → (n.below < length stacks) × (stack_at stacks p ≡ k ∷ stack_at stacks n.below)
    split_at k e = (fit.below, node_at ∙ ap (λ (o : Option Ty). on_top o (stack_at stacks n.below)) e)

    -- where a stack with one kind more is known
    pub known_at : (k : Ty) → above n k ≢ 0 → (above n k < length stacks) × (stack_at stacks (above n k) ≡ k ∷ stack_at stacks p)
    known_at k ne =
        let found = found_there stacks (k ∷ stack_of stacks n) (above n k) ne (fit.over k) in
        (slice_get_within stacks (above n k) (k ∷ stack_of stacks n) found, at_is stacks (above n k) (k ∷ stack_of stacks n) found ∙ ap (λ (ks : Kinds). k ∷ ks) (sym node_at))

pub keeps_all : (stacks : List Kinds) → Keeps stacks stacks
keeps_all stacks = record { long = omega arith; same = λ p lt. refl }

-- a node is there where its stack is
pub node_there : (nodes : List Node) (stacks : List Kinds) → stacks_of nodes ≡ stacks → (p : ℕ) → p < length stacks → p < length nodes
node_there nodes stacks is p lt =
    let same : length (stacks_of nodes) ≡ length stacks = ap (λ (l : List Kinds). length l) is in
    let long = stacks_long nodes in
    omega (arith, lt, same, long)

-- what an index names that is not there
abbrev pub plain : Node
plain = record { top = None; below = 0; height = 0; ints = 0; truths = 0 }

pub read_at : (nodes read : List Node) (p : ℕ) → read ≡ nodes → p < length nodes → slice_get nodes p ≡ Some (get_or read p plain)
read_at nodes read p is lt = slice_get-get_or nodes p plain lt ∙ ap (λ (l : List Node). Some (get_or l p plain)) (sym is)

module _ {E : Type 0} (r : Result ℕ E) (nodes grown : List Node) (stacks : List Kinds) (is : stacks_of nodes ≡ stacks) (n : Node) (k : Ty) where
  pub grown_keeps : OnOk r (stacks_of grown ≡ stacks_of nodes ++ (k ∷ stack_of (stacks_of nodes) n) ∷ []) → OnErr r (grown ≡ nodes) → Keeps stacks (stacks_of grown)
  grown_keeps = by_result r
    where
      by_result : (r : Result ℕ E) → OnOk r (stacks_of grown ≡ stacks_of nodes ++ (k ∷ stack_of (stacks_of nodes) n) ∷ []) → OnErr r (grown ≡ nodes) → Keeps stacks (stacks_of grown)
      by_result (Ok p) added_one same = subst (λ (l : List Kinds). Keeps l (stacks_of grown)) is
          (subst (λ (l : List Kinds). Keeps (stacks_of nodes) l) (sym added_one) (more_keeps (stacks_of nodes) (k ∷ stack_of (stacks_of nodes) n)))
      by_result (Err e) none_added same = subst (λ (l : List Kinds). Keeps stacks l) (sym (ap stacks_of same ∙ is)) (keeps_all stacks)

  pub grown_place : (p : ℕ) → IsTree nodes → slice_get nodes p ≡ Some n → OnOk r (stacks_of grown ≡ stacks_of nodes ++ (k ∷ stack_of (stacks_of nodes) n) ∷ []) → IfOk r (λ q. q ≡ length nodes)
      → IfOk r (λ q. (q < length (stacks_of grown)) × (stack_at (stacks_of grown) q ≡ k ∷ stack_at stacks p))
  grown_place p tree at = by_result r
    where
      tail : k ∷ stack_of (stacks_of nodes) n ≡ k ∷ stack_at stacks p
      tail = ap (λ (l : List Kinds). k ∷ stack_of l n) is ∙ ap (λ (ks : Kinds). k ∷ ks) (sym (node_at nodes stacks is p tree n at))

      by_result : (r : Result ℕ E) → OnOk r (stacks_of grown ≡ stacks_of nodes ++ (k ∷ stack_of (stacks_of nodes) n) ∷ []) → IfOk r (λ q. q ≡ length nodes)
          → IfOk r (λ q. (q < length (stacks_of grown)) × (stack_at (stacks_of grown) q ≡ k ∷ stack_at stacks p))
      by_result (Ok q) added_one last =
          let there = more_last (stacks_of nodes) (k ∷ stack_of (stacks_of nodes) n) q (last ∙ sym (stacks_long nodes)) in
          subst (λ (l : List Kinds). (q < length l) × (stack_at l q ≡ k ∷ stack_at stacks p)) (sym added_one) (there.0, there.1 ∙ tail)
      by_result (Err e) none_added last = last

-- ---- what is known of places

pub known_long : (stacks : List Kinds) (places : List (Option ℕ)) → length (known_in stacks places) ≡ length places
known_long stacks [] = refl
known_long stacks (o ∷ places) = ap suc (known_long stacks places)

pub known_get : (stacks : List Kinds) (places : List (Option ℕ)) (q : ℕ) → slice_get (known_in stacks places) q ≡ option_map (λ o. option_map (λ p. stack_at stacks p) o) (slice_get places q)
known_get stacks places q = slice_get-map (λ (o : Option ℕ). option_map (λ p. stack_at stacks p) o) places q

pub known_set : (stacks : List Kinds) (places : List (Option ℕ)) (q p : ℕ) → known_in stacks (slice_set places q (Some p)) ≡ slice_set (known_in stacks places) q (Some (stack_at stacks p))
known_set stacks [] q p = refl
known_set stacks (o ∷ places) zero p = refl
known_set stacks (o ∷ places) (suc q) p = ap (λ (t : Table). option_map (λ r. stack_at stacks r) o ∷ t) (known_set stacks places q p)

pub known_none : (stacks : List Kinds) (count : ℕ) → known_in stacks (replicate count None) ≡ unknown count
known_none stacks zero = refl
known_none stacks (suc count) = ap (λ (t : Table). None ∷ t) (known_none stacks count)

pub known_kept : (before after : List Kinds) → Keeps before after → (places : List (Option ℕ)) → ((q p : ℕ) → slice_get places q ≡ Some (Some p) → p < length before)
    → known_in after places ≡ known_in before places
known_kept before after keeps [] inside = refl
known_kept before after keeps (None ∷ places) inside = ap (λ (t : Table). None ∷ t) (known_kept before after keeps places (λ q p e. inside (suc q) p e))
known_kept before after keeps (Some h ∷ places) inside =
    let here : stack_at after h ≡ stack_at before h = keeps.same h (inside 0 h refl) in
    ap (λ (ks : Kinds). Some ks ∷ known_in after places) here ∙ ap (λ (t : Table). Some (stack_at before h) ∷ t) (known_kept before after keeps places (λ q p e. inside (suc q) p e))

-- the stacks are held still where one waits at a place more
pub held_put : (stacks : List Kinds) (hand next : ℕ) (places : List (Option ℕ)) (q : ℕ) → AreHeld stacks hand places → next < length stacks → AreHeld stacks next (slice_set places q (Some next))
held_put stacks hand next places q held lt = record { at_hand = lt; at_places = inside }
  where
    inside : (r p : ℕ) → slice_get (slice_set places q (Some next)) r ≡ Some (Some p) → p < length stacks
    inside r p e = elim (either_place r q) [
      | inl same ↦
          let long = slice_get_within (slice_set places q (Some next)) r (Some p) e in
          let kept = set_long places q (Some next) in
          let here : slice_get (slice_set places q (Some next)) q ≡ Some (Some next) = set_same places q (Some next) (omega (arith, long, kept, same)) in
          let is : Some next ≡ Some p = some_is (Some next) (Some p) (slice_get (slice_set places q (Some next)) q) here (ap (slice_get (slice_set places q (Some next))) (sym same) ∙ e) in
          let number : next ≡ p = cc in
          subst (λ (n : ℕ). n < length stacks) number lt
      | inr other ↦ held.at_places r p (sym (set_other places q r (Some next) other) ∙ e)
    ]

-- ---- what is held, as contracts see it

module _ (stacks : List Kinds) (hand : ℕ) (places : List (Option ℕ)) (held : Held) (is : ◌≡◌ {A = Held} (record { hand = stack_at stacks hand; known = known_in stacks places }) held) (q : ℕ) where
  abbrev table : Table
  table = known_in stacks places

  at_known : (o : Option (Option ℕ)) → slice_get places q ≡ o → slice_get table q ≡ option_map (λ o. option_map (λ p. stack_at stacks p) o) o
  at_known o e = known_get stacks places q ∙ ap (λ (x : Option (Option ℕ)). option_map (λ o. option_map (λ p. stack_at stacks p) o) x) e

  pub expects_known : (b : Bool) (p : ℕ) → slice_get places q ≡ Some (Some p) → IsTrue b ↔ (stack_at stacks p ≡ stack_at stacks hand) → Changes b held.known (expects held.known q held.hand)
  expects_known b p e same = subst (λ (h : Held). Changes b h.known (expects h.known q h.hand)) is (expects_by b table q (stack_at stacks p) (stack_at stacks hand) (at_known (Some (Some p)) e) same)

  pub looped_known : (b : Bool) (p : ℕ) → slice_get places q ≡ Some (Some p) → IsTrue b ↔ (stack_at stacks p ≡ stack_at stacks hand)
      → Changes b held.known (looped held.known held.hand (slice_get held.known q))
  looped_known b p e same = subst (λ (h : Held). Changes b h.known (looped h.known h.hand (slice_get h.known q))) is
      (looped_by b table q (stack_at stacks p) (stack_at stacks hand) (at_known (Some (Some p)) e) same)

  pub looped_new : slice_get places q ≡ Some None → looped held.known held.hand (slice_get held.known q) ≡ None
  looped_new e = subst (λ (h : Held). looped h.known h.hand (slice_get h.known q) ≡ None) is (ap (looped table (stack_at stacks hand)) (at_known (Some None) e))

  pub looped_past : slice_get places q ≡ None → looped held.known held.hand (slice_get held.known q) ≡ None
  looped_past e = subst (λ (h : Held). looped h.known h.hand (slice_get h.known q) ≡ None) is (ap (looped table (stack_at stacks hand)) (at_known None e))

  pub expects_new : slice_get places q ≡ Some None → expects held.known q held.hand ≡ Some (known_in stacks (slice_set places q (Some hand)))
  expects_new e = subst (λ (h : Held). expects h.known q h.hand ≡ Some (known_in stacks (slice_set places q (Some hand)))) is
      (ap (agreed table q (stack_at stacks hand)) (at_known (Some None) e) ∙ ap (λ (t : Table). Some t) (sym (known_set stacks places q hand)))

  pub opens_new : (next : ℕ) → stack_at stacks next ≡ [] → slice_get places q ≡ Some None → known_in stacks (slice_set places q (Some next)) ≡ opened held.known q (slice_get held.known q)
  opens_new next none e = subst (λ (h : Held). known_in stacks (slice_set places q (Some next)) ≡ opened h.known q (slice_get h.known q)) is
      (known_set stacks places q next ∙ ap (λ (ks : Kinds). slice_set table q (Some ks)) none ∙ sym (ap (opened table q) (at_known (Some None) e)))
