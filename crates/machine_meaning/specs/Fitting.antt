-- What holds of each state that a verified module's machine reaches.
use Rattle.std.specs.Prelude.{◌≡◌, ◌+◌, ◌≤◌, ◌⊎◌, ℕ, Bool, false, IsTrue, List, [], ◌∷◌, ◌++◌, length, map, Some, slice_get}
use Rattle.bytecode.specs.declared.instr.Instr.{Instr}
use Rattle.bytecode.specs.declared.instr.Instr.TheVariants as i
use Rattle.cal_terms.specs.declared.types.Gives.{Gives}
use Rattle.bytecode.specs.declared.module.Code.{Code}
use Rattle.bytecode.specs.declared.module.Module.{Module}
use Rattle.code_verify.specs.Kinds.{Kinds, result}
use Rattle.code_verify.specs.Rules.{KindsAt, IsSound, Stands, IsTally, HoldsNoTally, UsesTally}
use Rattle.machine_meaning.specs.Machine.{Call, State, kind_of, in_routine, most_callers}
use Rattle.machine_meaning.specs.Runs.{instructions}

-- the code is main's, a block's or a function's of the module
abbrev pub IsOf : Module → Code → Type 0
IsOf m c = (c ≡ m.main) ⊎ (((b : ℕ) × (slice_get m.blocks b ≡ Some c)) ⊎ ((f : ℕ) × (slice_get m.functions f ≡ Some c)))

-- the instruction may run, in a routine or not: a routine prints nothing, opens no step, and neither reads nor sets a tally word
abbrev pub MayRun : Module → Bool → Instr → Type 0
MayRun m routine (i.Print items) = routine ≡ false
MayRun m routine (i.Par b n) = (routine ≡ false) × (b + n ≤ length m.blocks)
MayRun m routine (i.Word a) = IsTrue routine → IsTally m a → ⊥
MayRun m routine (i.Put a) = IsTrue routine → IsTally m a → ⊥
MayRun m routine (i.Call f) = IsTrue routine → UsesTally m f → ⊥
MayRun m routine (i.Item b n) = HoldsNoTally m b n
MayRun m routine (i.SetItem b n) = HoldsNoTally m b n
MayRun m routine (i.AddItem b n) = HoldsNoTally m b n
MayRun m routine _ = Unit {0}

-- a sound code of the module, each of whose instructions may run
pub record Runs (m : Module) (routine : Bool) (c : Code) : Type 0 where
  pub of : IsOf m c
  pub sound : IsSound m c
  pub small : length c.instrs ≤ instructions m
  pub may : (place : ℕ) (instr : Instr) → Stands c place instr → MayRun m routine instr

-- a call of such a code whose locals have their kinds, and whose operands below those above them have the kinds of its place
pub record IsCall (m : Module) (routine : Bool) (above : Kinds) (c : Call) : Type 0 where
  pub runs : Runs m routine c.code
  pub locals : map kind_of c.locals ≡ c.code.locals
  pub operands : KindsAt runs.sound.taken c.place (above ++ map kind_of c.operands)

-- each call that waits goes on once it is given what the one above it gives back
abbrev pub Wait : Module → Bool → Gives → List Call → Type 0
Wait m routine gives [] = Unit {0}
Wait m routine gives (c ∷ callers) = IsCall m routine (result gives) c × Wait m routine c.code.gives callers

-- the state of main, or of a routine, fits the rules, whatever its words and its fuel are
pub record Fits (m : Module) (routine : Bool) (s : State) : Type 0 where
  pub owner : in_routine s.store ≡ routine
  pub call : IsCall m routine [] s.call
  pub waits : Wait m routine s.call.code.gives s.callers
  pub few : length s.callers ≤ most_callers
