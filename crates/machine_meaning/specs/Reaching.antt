-- Runs of small steps, composed.
use Rattle.std.specs.Prelude.{◌≡◌, ℕ, suc, ◌<◌, List, ◌∷◌, ◌++◌, length, Some, slice_get, reverse}
use Rattle.cal_base.specs.declared.ends.Cause.{Cause}
use Rattle.cal_base.specs.declared.ends.RoutineEnd.TheVariants.{Ended, Fault}
use Rattle.cal_base.specs.declared.ends.RunEnd.TheVariants.{MainFault}
use Rattle.cal_base.specs.Main as outline
use Rattle.cal_base.specs.Memory.{Memory}
use Rattle.cal_base.specs.declared.value.Val.{Val}
use Rattle.cal_base.specs.declared.value.Store.{Store}
use Rattle.bytecode.specs.declared.instr.Instr.TheVariants as i
use Rattle.bytecode.specs.declared.module.Code.{Code}
use Rattle.bytecode.specs.declared.module.Module.{Module}
use Rattle.code_verify.specs.Kinds.{parameters}
use Rattle.machine_meaning.specs.Machine.{Call, State, Ends, Traps, next, split, begun, on_with, most_callers}
use Rattle.machine_meaning.specs.Runs.{Comes, Goes, runs, Reached, main_beginning, routine_beginning}
use Rattle.machine_meaning.specs.Meaning.{main_of, outcome_at, routine_outcome}

module _ (m : Module) where
  -- from a state the machine comes to another by steps, each of which leads to the next state and nothing else
  abbrev pub ComesTo : State → State → Type 0
  ComesTo s s' = (j : ℕ) × (runs m j s ≡ Goes s')

  -- from a state the machine traps
  abbrev pub TrapsAt : State → Cause → Store → ℕ → Type 0
  TrapsAt s cause store fuel = (j : ℕ) × (runs m j s ≡ Comes (Traps cause store fuel))

  -- the function's body, called with these arguments, words and units of fuel by a call that waits
  abbrev pub body : Code → List Val → Call → List Call → Store → ℕ → State
  body f given caller callers store fuel = record { call = begun f given; callers = caller ∷ callers; store = store; fuel = fuel }

  -- a function's body, called above this many calls, gives back these values: the call that waits goes on with them
  abbrev pub GivesBack : Code → List Val → ℕ → Store → ℕ → List Val → Store → ℕ → Type 0
  GivesBack f given depth store fuel back store' fuel' =
      (caller : Call) (callers : List Call) → length callers ≡ depth
      → ComesTo (body f given caller callers store fuel) (record
      { call = record caller { operands = back ++ caller.operands }; callers = callers; store = store'; fuel = fuel' })

  -- a function's body, called above this many calls, traps
  abbrev pub BodyTraps : Code → List Val → ℕ → Store → ℕ → Cause → Store → ℕ → Type 0
  BodyTraps f given depth store fuel cause store' fuel' =
      (caller : Call) (callers : List Call) → length callers ≡ depth → TrapsAt (body f given caller callers store fuel) cause store' fuel'

  -- a call stands at the state's place, with its function, its arguments, a unit of fuel and room above it
  pub record CanCall (s : State) (n : ℕ) (f : Code) (parts : List Val × List Val) (left : ℕ) : Type 0 where
    pub stands : slice_get s.call.code.instrs s.call.place ≡ Some (i.Call n)
    pub function : slice_get m.functions n ≡ Some f
    pub arguments : split (parameters f) s.call.operands ≡ Some parts
    pub unit : s.fuel ≡ suc left
    pub room : length s.callers < most_callers

  -- such a call does what the body does
  abbrev pub CallComposes : Type 0
  CallComposes =
      (s : State) (n : ℕ) (f : Code) (parts : List Val × List Val) (left : ℕ) (back : List Val) (store' : Store) (fuel' : ℕ)
      → CanCall s n f parts left → GivesBack f (reverse parts.0) (length s.callers) s.store left back store' fuel'
      → ComesTo s (record (on_with s (back ++ parts.1)) { store = store'; fuel = fuel' })

  -- such a call traps where the body does
  abbrev pub CallTraps : Type 0
  CallTraps =
      (s : State) (n : ℕ) (f : Code) (parts : List Val × List Val) (left : ℕ) (cause : Cause) (store' : Store) (fuel' : ℕ)
      → CanCall s n f parts left → BodyTraps f (reverse parts.0) (length s.callers) s.store left cause store' fuel'
      → TrapsAt s cause store' fuel'

  -- where a state that main reaches comes to another, main goes on from the one as from the other, which it reaches too
  abbrev pub MainFollows : Type 0
  MainFollows =
      (memory : Memory) (fuel whole steps : ℕ) (s s' : State) → Reached m (main_beginning m memory fuel) s → ComesTo s s'
      → (main_of m whole steps s ≡ main_of m whole steps s') × Reached m (main_beginning m memory fuel) s'

  -- where a state that main reaches traps, main ends with this fault, behind the parallel steps before it
  abbrev pub MainTraps : Type 0
  MainTraps =
      (memory : Memory) (fuel whole steps : ℕ) (s : State) (cause : Cause) (store : Store) (left : ℕ)
      → Reached m (main_beginning m memory fuel) s → TrapsAt s cause store left
      → main_of m whole steps s ≡ outline.Ends (MainFault steps cause)

  -- a routine whose beginning comes to its last step has just that outcome, with the fuel that is left there
  abbrev pub RoutineEnds : Type 0
  RoutineEnds =
      (b : ℕ) (block : Code) (width id : ℕ) (opening : Memory) (fuel : ℕ) (s : State) (store : Store) (left : ℕ)
      → slice_get m.blocks b ≡ Some block
      → ComesTo (routine_beginning block width id opening fuel) s → next m s ≡ Some (Ends store left)
      → routine_outcome m block width id opening fuel ≡ outcome_at Ended store left

  -- a routine whose beginning traps has just that outcome, with the fuel that is left there
  abbrev pub RoutineTraps : Type 0
  RoutineTraps =
      (b : ℕ) (block : Code) (width id : ℕ) (opening : Memory) (fuel : ℕ) (cause : Cause) (store : Store) (left : ℕ)
      → slice_get m.blocks b ≡ Some block
      → TrapsAt (routine_beginning block width id opening fuel) cause store left
      → routine_outcome m block width id opening fuel ≡ outcome_at (Fault cause) store left
