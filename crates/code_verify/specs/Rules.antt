-- The rules for a module. In a code that keeps them each place has one list of kinds.
use Rattle.std.specs.Prelude.{◌≡◌, ℕ, ◌+◌, ◌<◌, ◌≤◌, ◌==◌, if◌then◌else◌, Bool, true, false, IsTrue, List, [], ◌∷◌, length, Some, slice_get}
use Rattle.std.specs.List.{AllByRecursion, Contains}
use Rattle.bytecode.specs.declared.instr.PrintItem.{PrintItem}
use Rattle.bytecode.specs.declared.instr.PrintItem.TheVariants as item
use Rattle.bytecode.specs.declared.instr.Instr.{Instr}
use Rattle.bytecode.specs.declared.instr.Instr.TheVariants as i
use Rattle.cal_terms.specs.declared.types.Ty.{Ty}
use Rattle.cal_terms.specs.declared.types.Ty.TheVariants.{Int}
use Rattle.bytecode.specs.declared.module.Code.{Code}
use Rattle.bytecode.specs.declared.module.Module.{Module}
use Rattle.bytecode.specs.Spelling.{HasSpelling}
use Rattle.code_verify.specs.Kinds.{Kinds, after}
use Rattle.cal_terms.specs.declared.limits.TheConstants.{MOST_WORDS}

-- this instruction stands at this place of the code
abbrev pub Stands : Code → ℕ → Instr → Type 0
Stands c place instr = slice_get c.instrs place ≡ Some instr

-- ---- operands in range

-- a word of the module
abbrev pub IsWord : Module → ℕ → Type 0
IsWord m a = a < m.words

-- an array of at least one word, within the words
abbrev pub IsArray : Module → ℕ → ℕ → Type 0
IsArray m b n = (1 ≤ n) × (b + n ≤ m.words)

-- a place of the code
abbrev pub IsPlace : Code → ℕ → Type 0
IsPlace c t = t < length c.instrs

-- the text of a printed item is one of the module
abbrev pub HasText : Module → PrintItem → Type 0
HasText m (item.Text index) = index < length m.texts
HasText m item.Int = Unit {0}
HasText m item.Truth = Unit {0}

-- locals, words, arrays, texts, functions and targets are there
abbrev pub IsInRange : Module → Code → Instr → Type 0
IsInRange m c (i.Load l) = l < length c.locals
IsInRange m c (i.Store l) = l < length c.locals
IsInRange m c (i.Word a) = IsWord m a
IsInRange m c (i.Put a) = IsWord m a
IsInRange m c (i.AddWord a) = IsWord m a
IsInRange m c (i.Item b n) = IsArray m b n
IsInRange m c (i.SetItem b n) = IsArray m b n
IsInRange m c (i.AddItem b n) = IsArray m b n
IsInRange m c (i.Jump t) = IsPlace c t
IsInRange m c (i.Branch t) = IsPlace c t
IsInRange m c (i.Loop t) = IsPlace c t
IsInRange m c (i.Call f) = f < length m.functions
IsInRange m c (i.Print items) = AllByRecursion (HasText m) items
IsInRange m c _ = Unit {0}

-- ---- the directions of jumps, and the last instruction

-- Jump and Branch go on, Loop goes back or stays
abbrev pub IsAhead : ℕ → Instr → Type 0
IsAhead place (i.Jump t) = place < t
IsAhead place (i.Branch t) = place < t
IsAhead place (i.Loop t) = t ≤ place
IsAhead place _ = Unit {0}

-- nothing follows this instruction but its target
abbrev pub Closes : Instr → Type 0
Closes (i.Jump t) = Unit {0}
Closes (i.Loop t) = Unit {0}
Closes i.Return = Unit {0}
Closes _ = ⊥

-- ---- the kinds at each place

-- can the instruction at this place lead to that one, with what it leaves? A Loop leads to no list of its own
abbrev pub leads : Instr → ℕ → ℕ → Bool
leads (i.Jump t) place to = t == to
leads (i.Branch t) place to = if t == to then true else place + 1 == to
leads (i.Loop t) place to = false
leads i.Return place to = false
leads _ place to = place + 1 == to

-- the kinds with which each instruction is taken, in the order of the code
abbrev pub Taken : Type 0
Taken = List Kinds

-- this place is taken with these kinds
abbrev pub KindsAt : Taken → ℕ → Kinds → Type 0
KindsAt taken place ks = slice_get taken place ≡ Some ks

-- an instruction leads to this place and leaves these kinds
pub record Comes (m : Module) (c : Code) (taken : Taken) (to : ℕ) (ks : Kinds) : Type 0 where
  pub place : ℕ
  pub instr : Instr
  pub here : Kinds
  pub stands : Stands c place instr
  pub taken_with : KindsAt taken place here
  pub leads_on : IsTrue (leads instr place to)
  pub leaves : after m c instr here ≡ Some ks

-- each instruction of the code is taken with one list of kinds
pub record IsTaken (m : Module) (c : Code) (taken : Taken) : Type 0 where
  -- as many lists as instructions
  pub each : length taken ≡ length c.instrs
  -- the first with none
  pub first : KindsAt taken 0 []
  -- one to which others lead, with what each of them leaves
  pub comes : (to : ℕ) (ks : Kinds) → Comes m c taken to ks → KindsAt taken to ks
  -- one to which no other leads, with none
  pub alone : (to : ℕ) → to < length c.instrs → ((ks : Kinds) → Comes m c taken to ks → ⊥) → KindsAt taken to []

-- where jumps go on there is at most one such table
abbrev pub HasOneTable : Module → Code → Type 0
HasOneTable m c =
    ((place : ℕ) (instr : Instr) → Stands c place instr → IsAhead place instr)
    → (t u : Taken) → IsTaken m c t → IsTaken m c u → (place : ℕ) → place < length c.instrs → slice_get t place ≡ slice_get u place

-- the kinds at a Loop are those with which its target was taken
abbrev pub GoesBack : Taken → Instr → Kinds → Type 0
GoesBack taken (i.Loop t) ks = KindsAt taken t ks
GoesBack taken _ ks = Unit {0}

-- at a Return nothing is left below the result
abbrev pub LeavesNothing : Instr → Kinds → Type 0
LeavesNothing i.Return rest = rest ≡ []
LeavesNothing _ rest = Unit {0}

-- the longest list of operands
abbrev pub most_operands : ℕ
most_operands = 1024

-- the instruction at a place keeps the rules on its operands
pub record IsRight (m : Module) (c : Code) (taken : Taken) (place : ℕ) (instr : Instr) (ks : Kinds) : Type 0 where
  pub in_range : IsInRange m c instr
  pub ahead : IsAhead place instr
  -- it finds the kinds that it pops, and at a Return they are all that there is
  pub finds : (rest : Kinds) × (after m c instr ks ≡ Some rest) × LeavesNothing instr rest
  pub back : GoesBack taken instr ks
  pub short : length ks ≤ most_operands

-- the limits of a code, and its last instruction, which is a Return, a Jump or a Loop
pub record HasShape (c : Code) : Type 0 where
  pub few_locals : length c.locals ≤ 64
  pub few_params : c.params ≤ 8
  pub has_params : c.params ≤ length c.locals
  pub closes : (last : ℕ) × (instr : Instr) × (last + 1 ≡ length c.instrs) × Stands c last instr × Closes instr

-- a code that keeps the rules on its own instructions
pub record IsSound (m : Module) (c : Code) : Type 0 where
  pub shape : HasShape c
  -- the kinds with which its instructions are taken
  pub taken : Taken
  pub is_taken : IsTaken m c taken
  pub right : (place : ℕ) (instr : Instr) (ks : Kinds) → Stands c place instr → KindsAt taken place ks → IsRight m c taken place instr ks

-- ---- where an instruction may stand

-- the address is a tally word of the module
abbrev pub IsTally : Module → ℕ → Type 0
IsTally m a = Contains m.tallies a

-- no word of the range is a tally word
abbrev pub HoldsNoTally : Module → ℕ → ℕ → Type 0
HoldsNoTally m b n = (a : ℕ) → b ≤ a → a < b + n → IsTally m a → ⊥

-- no array holds a tally word
abbrev pub IsPlainArray : Module → Instr → Type 0
IsPlainArray m (i.Item b n) = HoldsNoTally m b n
IsPlainArray m (i.SetItem b n) = HoldsNoTally m b n
IsPlainArray m (i.AddItem b n) = HoldsNoTally m b n
IsPlainArray m _ = Unit {0}

-- the instruction reads a tally word, or sets it
abbrev pub ReadsOrSetsTally : Module → Instr → Type 0
ReadsOrSetsTally m (i.Word a) = IsTally m a
ReadsOrSetsTally m (i.Put a) = IsTally m a
ReadsOrSetsTally m _ = ⊥

-- a function that reads or sets a tally word itself or through its calls
pub data UsesTally (m : Module) : ℕ → Type 0 where
  Itself : (f : ℕ) (c : Code) (place : ℕ) (instr : Instr) → slice_get m.functions f ≡ Some c → Stands c place instr
      → ReadsOrSetsTally m instr → UsesTally m f
  Through : (f g : ℕ) (c : Code) (place : ℕ) → slice_get m.functions f ≡ Some c → Stands c place (i.Call g) → UsesTally m g → UsesTally m f

-- the instruction neither reads nor sets a tally word, itself or by a call
abbrev pub UsesNoTally : Module → Instr → Type 0
UsesNoTally m (i.Word a) = IsTally m a → ⊥
UsesNoTally m (i.Put a) = IsTally m a → ⊥
UsesNoTally m (i.Call f) = UsesTally m f → ⊥
UsesNoTally m _ = Unit {0}

-- prints and parallel steps stand in main alone
abbrev pub IsNotMains : Instr → Type 0
IsNotMains (i.Print items) = ⊥
IsNotMains (i.Par b n) = ⊥
IsNotMains _ = Unit {0}

-- short lines, and steps of at least one block and of blocks that there are
abbrev pub MayStandInMain : Module → Instr → Type 0
MayStandInMain m (i.Print items) = length items ≤ 64
MayStandInMain m (i.Par b n) = (1 ≤ n) × (n ≤ 64) × (b + n ≤ length m.blocks)
MayStandInMain m _ = Unit {0}

-- a function calls itself and those before it
abbrev pub CallsNoLater : ℕ → Instr → Type 0
CallsNoLater f (i.Call g) = g ≤ f
CallsNoLater f _ = Unit {0}

-- ---- the whole module

-- a function's code prints nothing, opens no step, and calls no later function
pub record IsFunction (m : Module) (f : ℕ) (c : Code) : Type 0 where
  pub sound : IsSound m c
  pub each : (place : ℕ) (instr : Instr) → Stands c place instr → IsPlainArray m instr × IsNotMains instr × CallsNoLater f instr

-- a block's code prints nothing, opens no step, and neither reads nor sets a tally word; its first two locals, its width and its number, are ints
pub record IsBlock (m : Module) (c : Code) : Type 0 where
  pub sound : IsSound m c
  pub params : (rest : List Ty) × (c.locals ≡ Int ∷ Int ∷ rest)
  pub each : (place : ℕ) (instr : Instr) → Stands c place instr → IsPlainArray m instr × IsNotMains instr × UsesNoTally m instr

-- main's code
pub record IsMain (m : Module) (c : Code) : Type 0 where
  pub sound : IsSound m c
  pub each : (place : ℕ) (instr : Instr) → Stands c place instr → IsPlainArray m instr × MayStandInMain m instr

-- the module keeps all rules
pub record IsVerified (m : Module) : Type 0 where
  pub spelled : HasSpelling m
  pub few_words : m.words ≤ MOST_WORDS
  pub few_functions : length m.functions ≤ 256
  pub tallies : AllByRecursion (λ a. IsWord m a) m.tallies
  pub initial : AllByRecursion (λ e. IsWord m e.0) m.initial
  pub functions : (f : ℕ) (c : Code) → slice_get m.functions f ≡ Some c → IsFunction m f c
  pub blocks : (b : ℕ) (c : Code) → slice_get m.blocks b ≡ Some c → IsBlock m c
  pub main : IsMain m m.main
