-- What a step of the machine does, and where it stops.
-- For the proof of the body: no public clause cites this.
use Rattle.std.specs.Prelude.{◌≡◌, ℕ, zero, suc, ◌≤◌, ◌==◌, Bool, true, false, [], ◌∷◌, ◌++◌, ℤ, Option, Some, None, IsSome, Result, Ok}
use Rattle.std.specs.Prelude.{Err, List, length, slice_get, reverse, take, drop}
use Rattle.std.specs.List.{AllByRecursion}
use Rattle.cal_base.specs.declared.ends.Cause.{Cause}
use Rattle.cal_base.specs.declared.ends.Cause.TheVariants.{TooDeep, FuelSpent}
use Rattle.cal_base.specs.declared.value.Store.{Store}
use Rattle.cal_base.specs.declared.value.Val.{Val}
use Rattle.cal_base.specs.declared.value.Val.TheVariants.{Int}
use Rattle.bytecode.specs.declared.instr.Instr.{Instr}
use Rattle.bytecode.specs.declared.instr.Instr.TheVariants as i
use Rattle.bytecode.specs.declared.module.Code.{Code}
use Rattle.bytecode.specs.declared.module.Module.{Module}
use Rattle.code_verify.specs.Rules.{HasShape}
use Rattle.machine_meaning.specs.Machine.{State, Next, On, Ends, Traps, step, most_callers}
use Rattle.routine_vm.specs.declared.frame.Body.TheVariants.{Function}
use Rattle.routine_vm.specs.declared.run.Run.{Run}
use Rattle.routine_vm.specs.declared.frame.Frame.{Frame}
use Rattle.routine_vm.specs.Frames.{begun_frame, behind}
use Rattle.routine_vm.specs.States.{state_of}
use Rattle.routine_vm.specs.declared.run.Led.{Led}
use Rattle.routine_vm.specs.declared.run.Led.TheVariants as led

-- main shows a line or opens a step
abbrev pub IsEvent : Instr → Type 0
IsEvent (i.Print items) = Unit {0}
IsEvent (i.Par b n) = Unit {0}
IsEvent _ = ⊥

-- the instruction leads on, ends the run or traps, or it is an event's and waits to be done
abbrev pub Steps : Instr → Option Next → State → Led → State → Type 0
Steps instr next before led.On later = next ≡ Some (On later)
Steps instr next before led.Ends later = next ≡ Some (Ends later.store later.fuel)
Steps instr next before (led.Traps cause) later = next ≡ Some (Traps cause later.store later.fuel)
Steps instr next before led.Event later = (later ≡ before) × IsEvent instr

-- the instruction has a step in the state of the run, in some module and with some words
abbrev pub HasStep : Instr → Run → Type 0
HasStep instr r = (m : Module) × ((store : Store) × IsSome (step m instr (state_of m r store)))

-- the instruction leads so in each module and with any words, which it leaves as they are
abbrev pub StepsAnywhere : Instr → Run → Led → Run → Type 0
StepsAnywhere instr before to later = (m : Module) (store : Store)
    → Steps instr (step m instr (state_of m before store)) (state_of m before store) to (state_of m later store)

-- the same bodies run and wait
pub record HasBodiesOf (before later : Run) : Type 0 where
  pub body : later.call.body ≡ before.call.body
  pub waiting : later.waiting ≡ before.waiting

-- ---- the families of instructions

-- puts a constant or a local on top
abbrev pub IsConstant : Instr → Type 0
IsConstant (i.Int z) = Unit {0}
IsConstant i.False = Unit {0}
IsConstant i.True = Unit {0}
IsConstant (i.Load l) = Unit {0}
IsConstant _ = ⊥

-- calculates a number of numbers
abbrev pub IsCalculation : Instr → Type 0
IsCalculation i.Add = Unit {0}
IsCalculation i.Sub = Unit {0}
IsCalculation i.Mul = Unit {0}
IsCalculation i.Div = Unit {0}
IsCalculation i.Rem = Unit {0}
IsCalculation i.Neg = Unit {0}
IsCalculation _ = ⊥

-- finds a truth of values
abbrev pub IsComparison : Instr → Type 0
IsComparison i.Not = Unit {0}
IsComparison i.Eq = Unit {0}
IsComparison i.Ne = Unit {0}
IsComparison i.Lt = Unit {0}
IsComparison i.Le = Unit {0}
IsComparison i.Gt = Unit {0}
IsComparison i.Ge = Unit {0}
IsComparison _ = ⊥

-- reads a word or an array's item, writes it or adds to it
abbrev pub IsOnWords : Instr → Type 0
IsOnWords (i.Word a) = Unit {0}
IsOnWords (i.Put a) = Unit {0}
IsOnWords (i.AddWord a) = Unit {0}
IsOnWords (i.Item b n) = Unit {0}
IsOnWords (i.SetItem b n) = Unit {0}
IsOnWords (i.AddItem b n) = Unit {0}
IsOnWords _ = ⊥

-- says where the call goes on
abbrev pub IsDirection : Instr → Type 0
IsDirection (i.Jump t) = Unit {0}
IsDirection (i.Branch t) = Unit {0}
IsDirection (i.Loop t) = Unit {0}
IsDirection i.Assert = Unit {0}
IsDirection _ = ⊥

-- ---- what the parts of a step do

-- a number is pushed, or the cause that it is traps
abbrev pub Pushes : Result ℤ Cause → Frame → Led → Frame → Type 0
Pushes (Ok z) before to later = (to ≡ led.On) × (later ≡ behind before (Int z ∷ before.operands))
Pushes (Err cause) before to later = to ≡ led.Traps cause

-- each call that waits has room for a result
abbrev pub HaveRoom : List Frame → Type 0
HaveRoom waiting = AllByRecursion (λ f. length f.operands ≤ 1024) waiting

-- the functions have few locals, which begin with their parameters
abbrev pub HaveShape : List Code → Type 0
HaveShape functions = (f : ℕ) (c : Code) → slice_get functions f ≡ Some c → HasShape c

-- goes on behind the instruction with the store that it leaves, or traps
abbrev pub Leaves : Store → Run → Result Store Cause → Led → Store → Run → Type 0
Leaves store before (Ok left) to words later = (to ≡ led.On) × (words ≡ left)
    × (later ≡ record before { call = behind before.call before.call.operands })
Leaves store before (Err cause) to words later = (to ≡ led.Traps cause) × (words ≡ store) × (later ≡ before)

-- a function's call runs with this fuel, and the one that called it waits behind its instruction, unless that is too deep
abbrev pub Enters : ℕ → Code → Run → Led → Run → ℕ → Bool → Type 0
Enters f c before to later left true = (to ≡ led.Traps TooDeep) × (later.fuel ≡ left)
Enters f c before to later left false =
    (to ≡ led.On)
    × (later ≡ record { call = begun_frame (Function f) c (reverse (take c.params before.call.operands)); waiting = behind before.call (drop c.params before.call.operands) ∷ before.waiting; fuel = left })

-- a function is called with this fuel
abbrev pub CallsWith : ℕ → Code → Run → Led → Run → ℕ → Type 0
CallsWith f c before to later zero = (to ≡ led.Traps FuelSpent) × (later.fuel ≡ 0)
CallsWith f c before to later (suc left) = Enters f c before to later left (length before.waiting == most_callers)

-- a function is called, with its arguments on top
abbrev pub Calls : ℕ → Code → Run → Led → Run → Type 0
Calls f c before to later = CallsWith f c before to later before.fuel

-- the last of these calls goes on with what is given back on top, or the run ends
abbrev pub Leads : List Val → Run → Led → Run → List Frame → Type 0
Leads given before to later [] = (to ≡ led.Ends) × (later.fuel ≡ before.fuel)
Leads given before to later (c ∷ waiting) = (to ≡ led.On) × (later ≡ record
    { call = record c { operands = given ++ c.operands }; waiting = waiting; fuel = before.fuel })

-- the call that runs gives this back
abbrev pub GivesBack : Option (List Val) → Run → Led → Run → Type 0
GivesBack None before to later = ⊥
GivesBack (Some given) before to later = Leads given before to later before.waiting
