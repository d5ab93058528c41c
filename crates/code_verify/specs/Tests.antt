-- What the verifier tests of a module, code by code.
-- For the proof of the body: no public clause cites this.
use Rattle.std.specs.Prelude.{◌≡◌, ℕ, ◌+◌, ◌<◌, ◌≤◌, ◌↔◌, true, Bool, List, ◌∷◌, length, Some, slice_get}
use Rattle.std.specs.List.{AllByRecursion, Contains}
use Rattle.cal_terms.specs.declared.types.Ty.{Ty}
use Rattle.cal_terms.specs.declared.types.Ty.TheVariants.{Int}
use Rattle.bytecode.specs.Spelling.{HasSpelling}
use Rattle.bytecode.specs.declared.instr.Instr.{Instr}
use Rattle.bytecode.specs.declared.instr.Instr.TheVariants as i
use Rattle.bytecode.specs.declared.module.Code.{Code}
use Rattle.bytecode.specs.declared.module.Module.{Module}
use Rattle.code_verify.specs.declared.owner.Owner.{Owner}
use Rattle.code_verify.specs.declared.owner.Owner.TheVariants.{Function, Block, Main}
use Rattle.code_verify.specs.Rules.{Stands, IsSound, IsWord, IsInRange, IsAhead, IsPlainArray, IsNotMains, CallsNoLater, MayStandInMain}
use Rattle.code_verify.specs.Rules.{IsTally, UsesTally}
use Rattle.cal_terms.specs.declared.limits.TheConstants.{MOST_WORDS}

-- the instruction may stand in the code of this owner, tally words aside
abbrev pub MayStandIn : Module → Owner → Instr → Type 0
MayStandIn m (Function f) instr = IsNotMains instr × CallsNoLater f instr
MayStandIn m Block instr = IsNotMains instr
MayStandIn m Main instr = MayStandInMain m instr

-- the instruction at a place keeps the rules that need no kinds
pub record KeepsRules (m : Module) (owner : Owner) (c : Code) (place : ℕ) (instr : Instr) : Type 0 where
  pub in_range : IsInRange m c instr
  pub ahead : IsAhead place instr
  pub plain : IsPlainArray m instr
  pub stands : MayStandIn m owner instr

-- the entries of a list below an index have a property
abbrev pub EachBelow : {A : Type 0} → (ℕ → A → Type 0) → List A → ℕ → Type 0
EachBelow P xs bound = (k : ℕ) (x : _) → k < bound → slice_get xs k ≡ Some x → P k x

-- the entries of a list have a property
abbrev pub Each : {A : Type 0} → (ℕ → A → Type 0) → List A → Type 0
Each P xs = (k : ℕ) (x : _) → slice_get xs k ≡ Some x → P k x

-- the instruction reads or sets a tally word, or calls a function that the list says to do so
abbrev pub UsesBy : Module → List Bool → Instr → Type 0
UsesBy m uses (i.Word a) = IsTally m a
UsesBy m uses (i.Put a) = IsTally m a
UsesBy m uses (i.Call g) = slice_get uses g ≡ Some true
UsesBy m uses _ = ⊥

-- an instruction of the code does
pub record SomeUses (m : Module) (uses : List Bool) (c : Code) : Type 0 where
  pub place : ℕ
  pub instr : Instr
  pub stands : Stands c place instr
  pub found : UsesBy m uses instr

-- each function calls itself and those before it
abbrev pub CallBackwards : Module → Type 0
CallBackwards m = (f : ℕ) (c : Code) (place g : ℕ) → slice_get m.functions f ≡ Some c → Stands c place (i.Call g) → g ≤ f

-- the list says of this many functions, from the first on, which read or set a tally word themselves or through their calls
pub record TellsUses (m : Module) (uses : List Bool) (count : ℕ) : Type 0 where
  pub long : length uses ≡ count
  pub told : (f : ℕ) → f < count → (slice_get uses f ≡ Some true) ↔ UsesTally m f

-- one of these tally words is in the range
abbrev pub HoldsTally : List ℕ → ℕ → ℕ → Type 0
HoldsTally tallies b n = (a : ℕ) × (b ≤ a) × (a < b + n) × Contains tallies a

-- a code of this owner that keeps all rules, tally words aside that a block uses
pub record IsCode (m : Module) (owner : Owner) (c : Code) : Type 0 where
  pub sound : IsSound m c
  pub each : (place : ℕ) (instr : Instr) → Stands c place instr → IsPlainArray m instr × MayStandIn m owner instr

-- the code begins with two locals of kind int
abbrev pub BeginsWithInts : Code → Type 0
BeginsWithInts c = (rest : List Ty) × (c.locals ≡ Int ∷ Int ∷ rest)

-- a routine block, where the list says which functions read or set a tally word
pub record IsQuietBlock (m : Module) (uses : List Bool) (c : Code) : Type 0 where
  pub code : IsCode m Block c
  pub params : BeginsWithInts c
  pub quiet : SomeUses m uses c → ⊥

-- the rules on the module's parts but its codes
pub record HasParts (m : Module) : Type 0 where
  pub spelled : HasSpelling m
  pub few_words : m.words ≤ MOST_WORDS
  pub few_functions : length m.functions ≤ 256
  pub tallies : AllByRecursion (λ a. IsWord m a) m.tallies
  pub initial : AllByRecursion (λ e. IsWord m e.0) m.initial
