-- Runs of the machine up to where they stop.
-- For the proof of the body: no public clause cites this.
use Rattle.std.specs.Prelude.{◌≡◌, Some}
use Rattle.cal_base.specs.declared.value.Store.{Store}
use Rattle.bytecode.specs.declared.instr.Instr.{Instr}
use Rattle.bytecode.specs.declared.module.Module.{Module}
use Rattle.code_verify.specs.Rules.{Stands}
use Rattle.machine_meaning.specs.Machine.{State, On, Ends, Traps, next, in_routine}
use Rattle.machine_meaning.specs.Runs.{Comes}
use Rattle.machine_meaning.specs.Fitting.{Fits}
use Rattle.routine_vm.specs.declared.frame.Body.{Body}
use Rattle.routine_vm.specs.declared.go.Stop.{Stop}
use Rattle.routine_vm.specs.declared.go.Stop.TheVariants as stop
use Rattle.routine_vm.specs.declared.run.Led.{Led}
use Rattle.routine_vm.specs.declared.run.Led.TheVariants as led
use Rattle.routine_vm.specs.declared.run.Run.{Run}
use Rattle.routine_vm.specs.States.{HasBody, HasWordsOf, RunsAbove, state_of, outcome_from}
use Rattle.routine_vm.specs.Steps.{IsEvent}

-- what runs, with the words on which it works, is in a state of the verified module's machine
pub record IsReady (m : Module) (r : Run) (store : Store) : Type 0 where
  pub fits : Fits m (in_routine store) (state_of m r store)
  pub bottom : Body
  pub has_bottom : HasBody m bottom
  pub above : RunsAbove m bottom r
  pub words : HasWordsOf m store

-- main is to show a line or to open a step
pub record IsAtEvent (s : State) : Type 0 where
  pub instr : Instr
  pub stands : Stands s.call.code s.call.place instr
  pub event : IsEvent instr

-- one step led from a state to another, or main is at an event
abbrev pub Stepped : Module → State → Led → State → Type 0
Stepped m before led.On later = next m before ≡ Some (On later)
Stepped m before led.Ends later = next m before ≡ Some (Ends later.store later.fuel)
Stepped m before (led.Traps cause) later = next m before ≡ Some (Traps cause later.store later.fuel)
Stepped m before led.Event later = (later ≡ before) × IsAtEvent before

-- the run from a state comes to an end or a trap, or main comes to an event
abbrev pub Stopped : Module → State → Stop → State → Type 0
Stopped m before stop.Ends later = outcome_from m before ≡ Comes (Ends later.store later.fuel)
Stopped m before (stop.Traps cause) later = outcome_from m before ≡ Comes (Traps cause later.store later.fuel)
Stopped m before stop.Event later = (outcome_from m before ≡ outcome_from m later) × IsAtEvent later

-- main goes on from an event
abbrev pub GoesOn : Module → Stop → Run → Store → Type 0
GoesOn m stop.Ends r store = Unit {0}
GoesOn m (stop.Traps cause) r store = Unit {0}
GoesOn m stop.Event r store = IsReady m r store
