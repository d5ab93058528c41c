-- Stacks of kinds that share what lies below, as a tree of nodes. The root is the empty stack.
-- For the proof of the body: no public clause cites this.
use Rattle.std.specs.Prelude.{◌≡◌, ℕ, zero, suc, ◌<◌, ◌≤◌, List, [], ◌∷◌, ◌++◌, length, map, Option, Some, None, slice_get, unwrap_or}
use Rattle.std.specs.Prelude.{option_map}
use Rattle.cal_terms.specs.declared.types.Ty.{Ty}
use Rattle.cal_terms.specs.declared.types.Ty.TheVariants.{Int, Bool as Truth}
use Rattle.code_verify.specs.declared.stacks.Node.{Node}
use Rattle.code_verify.specs.Kinds.{Kinds}
use Rattle.code_verify.specs.Walk.{Table}

-- the stack at a place, or the empty one where there is none
abbrev pub stack_at : List Kinds → ℕ → Kinds
stack_at stacks p = unwrap_or (slice_get stacks p) []

-- a kind on a stack, or the empty stack where there is no kind
abbrev pub on_top : Option Ty → Kinds → Kinds
on_top None ks = []
on_top (Some k) ks = k ∷ ks

-- the stack of a node that lies on one of these
abbrev pub stack_of : List Kinds → Node → Kinds
stack_of stacks n = on_top n.top (stack_at stacks n.below)

-- these stacks and those of the nodes, each on one before it
abbrev pub stacks_from : List Kinds → List Node → List Kinds
stacks_from stacks [] = stacks
stacks_from stacks (n ∷ nodes) = stacks_from (stacks ++ stack_of stacks n ∷ []) nodes

-- the stacks of the nodes
abbrev pub stacks_of : List Node → List Kinds
stacks_of nodes = stacks_from [] nodes

-- the place that a node names for the stack with this kind on its own
abbrev pub above : Node → Ty → ℕ
above n Int = n.ints
above n Truth = n.truths

-- the node that names this place for it
abbrev pub linked : Node → Ty → ℕ → Node
linked n Int p = record { top = n.top; below = n.below; height = n.height; ints = p; truths = n.truths }
linked n Truth p = record { top = n.top; below = n.below; height = n.height; ints = n.ints; truths = p }

-- the place of these kinds, or 0 where they are no stack
abbrev pub Finds : List Kinds → Kinds → ℕ → Type 0
Finds stacks ks zero = (p : ℕ) → slice_get stacks p ≡ Some ks → ⊥
Finds stacks ks (suc p) = slice_get stacks (suc p) ≡ Some ks

-- a node says what is so of its stack
pub record Fits (stacks : List Kinds) (p : ℕ) (n : Node) : Type 0 where
  pub stack : slice_get stacks p ≡ Some (stack_of stacks n)
  pub below : n.below < length stacks
  pub height : n.height ≡ length (stack_of stacks n)
  pub low : n.height ≤ p
  pub over : (k : Ty) → Finds stacks (k ∷ stack_of stacks n) (above n k)

-- the nodes are a tree: no two of them have one stack
pub record IsTree (nodes : List Node) : Type 0 where
  pub root : slice_get (stacks_of nodes) 0 ≡ Some []
  pub distinct : (p q : ℕ) (ks : Kinds) → slice_get (stacks_of nodes) p ≡ Some ks → slice_get (stacks_of nodes) q ≡ Some ks → p ≡ q
  pub fits : (p : ℕ) (n : Node) → slice_get nodes p ≡ Some n → Fits (stacks_of nodes) p n

-- the stacks that were there are there still
pub record Keeps (before later : List Kinds) : Type 0 where
  pub long : length before ≤ length later
  pub same : (p : ℕ) → p < length before → stack_at later p ≡ stack_at before p

-- the kinds of each place, where a stack is known of it
abbrev pub known_in : List Kinds → List (Option ℕ) → Table
known_in stacks places = map (λ o. option_map (λ p. stack_at stacks p) o) places

-- the kinds at hand, and those that are known of places
pub record Held : Type 0 where
  pub hand : Kinds
  pub known : Table

-- the places of stacks are places of these stacks
pub record AreHeld (stacks : List Kinds) (hand : ℕ) (places : List (Option ℕ)) : Type 0 where
  pub at_hand : hand < length stacks
  pub at_places : (q p : ℕ) → slice_get places q ≡ Some (Some p) → p < length stacks
