-- Runs of the machine, and what is said of them.
use Rattle.std.specs.Prelude.{◌≡◌, ◌≢◌, ℕ, zero, suc, ◌+◌, ◌-◌, ◌*◌, pos, IsSome, List, [], ◌∷◌, length, Option, Some, None, slice_get}
use Rattle.std.specs.FinMap.{empty}
use Rattle.cal_base.specs.declared.value.Val.{Val}
use Rattle.cal_base.specs.declared.value.Val.TheVariants.{Int}
use Rattle.cal_base.specs.Memory.{Memory}
use Rattle.cal_base.specs.declared.value.Store.{Store}
use Rattle.cal_base.specs.declared.value.Store.TheVariants.{Main, Routine}
use Rattle.bytecode.specs.declared.module.Code.{Code}
use Rattle.bytecode.specs.declared.module.Module.{Module}
use Rattle.machine_meaning.specs.Machine.{Call, State, Next, On, Prints, Opens, Ends, Traps, begun, next}

-- the state to which a step leads on; behind a parallel step main goes on with any words
abbrev pub LeadsTo : Next → State → Type 0
LeadsTo (On s) s' = s' ≡ s
LeadsTo (Prints line s) s' = s' ≡ s
LeadsTo (Opens first widths s) s' = (memory : Memory) × (s' ≡ record s { store = Main memory })
LeadsTo (Ends store fuel) s' = ⊥
LeadsTo (Traps cause store fuel) s' = ⊥

-- the states that come from this one by steps
pub data Reached (m : Module) (first : State) : State → Type 0 where
  Start : Reached m first first
  Then : (s s' : State) (n : Next) → Reached m first s → next m s ≡ Some n → LeadsTo n s' → Reached m first s'

-- a run of a code begins with these arguments, words and units of fuel
abbrev pub beginning : Code → List Val → Store → ℕ → State
beginning c given store fuel = record { call = begun c given; callers = []; store = store; fuel = fuel }

-- main begins
abbrev pub main_beginning : Module → Memory → ℕ → State
main_beginning m memory fuel = beginning m.main [] (Main memory) fuel

-- a routine of a block begins, with its width and its number
abbrev pub routine_beginning : Code → ℕ → ℕ → Memory → ℕ → State
routine_beginning block width id opening fuel = beginning block (Int (pos width) ∷ Int (pos id) ∷ []) (Routine opening empty) fuel

-- main begins, or a routine of one of the blocks
pub data Begins (m : Module) : State → Type 0 where
  Mains : (memory : Memory) (fuel : ℕ) → Begins m (main_beginning m memory fuel)
  Routines : (b : ℕ) (block : Code) (width id : ℕ) (opening : Memory) (fuel : ℕ) → slice_get m.blocks b ≡ Some block
      → Begins m (routine_beginning block width id opening fuel)

-- what a run comes to in a number of steps
pub data Run : Type 0 where
  -- a step that is no step to the next state alone
  Comes : Next → Run
  -- no end yet
  Goes : State → Run
  -- no step goes on from here
  Stuck : State → Run

-- goes on from the next state, if the step leads to one and to nothing else
abbrev pub goes_on : (State → Run) → State → Option Next → Run
goes_on more s None = Stuck s
goes_on more s (Some (On s')) = more s'
goes_on more s (Some (Prints line s')) = Comes (Prints line s')
goes_on more s (Some (Opens first widths s')) = Comes (Opens first widths s')
goes_on more s (Some (Ends store fuel)) = Comes (Ends store fuel)
goes_on more s (Some (Traps cause store fuel)) = Comes (Traps cause store fuel)

-- at most this many steps, up to the first that leads elsewhere than to the next state
abbrev pub runs : Module → ℕ → State → Run
runs m zero s = Goes s
runs m (suc n) s = goes_on (runs m n) s (next m s)

-- the instructions of a list of codes
abbrev pub instructions_in : List Code → ℕ
instructions_in [] = 0
instructions_in (c ∷ cs) = length c.instrs + instructions_in cs

-- the instructions of the module
abbrev pub instructions : Module → ℕ
instructions m = instructions_in m.functions + instructions_in m.blocks + length m.main.instrs

-- the instructions of a call from its place on
abbrev pub ahead : Call → ℕ
ahead c = length c.code.instrs - c.place

-- the same of all calls that wait
abbrev pub all_ahead : List Call → ℕ
all_ahead [] = 0
all_ahead (c ∷ callers) = ahead c + all_ahead callers

-- a number that falls with each step: a unit of fuel is worth each instruction of the module and one more
abbrev pub most_steps : Module → State → ℕ
most_steps m s = s.fuel * (instructions m + 1) + (ahead s.call + all_ahead s.callers)

-- ---- the laws

-- from each state that is reached from a beginning there is a next step
abbrev pub NeverStuck : Module → Type 0
NeverStuck m = (first s : State) → Begins m first → Reached m first s → IsSome (next m s)

-- from each state that is reached no run of so many steps is without an end
abbrev pub EndsInTime : Module → Type 0
EndsInTime m = (first s last : State) → Begins m first → Reached m first s → runs m (most_steps m s + 1) s ≢ Goes last

-- an end, or a trap
abbrev pub IsEnd : Next → Type 0
IsEnd (On s) = ⊥
IsEnd (Prints line s) = ⊥
IsEnd (Opens first widths s) = ⊥
IsEnd (Ends store fuel) = Unit {0}
IsEnd (Traps cause store fuel) = Unit {0}

-- each routine comes to its end or to a trap, and never prints or opens a step
abbrev pub RoutinesEnd : Module → Type 0
RoutinesEnd m =
    (b : ℕ) (block : Code) (width id : ℕ) (opening : Memory) (fuel : ℕ) → slice_get m.blocks b ≡ Some block
    → (n : Next) × (runs m (most_steps m (routine_beginning block width id opening fuel) + 1)
    (routine_beginning block width id opening fuel) ≡ Comes n) × IsEnd n
