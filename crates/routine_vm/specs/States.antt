-- What runs in the machine, seen as a state of the module's machine.
use Rattle.std.specs.Prelude.{◌≡◌, ℕ, ◌+◌, ◌<◌, List, [], ◌∷◌, length, map, slice_index_or}
use Rattle.cal_base.specs.Memory.{kinds_of}
use Rattle.cal_base.specs.declared.value.Store.{Store}
use Rattle.cal_base.specs.Stores.{memory_in}
use Rattle.bytecode.specs.declared.module.Code.{Code}
use Rattle.bytecode.specs.declared.module.Module.{Module}
use Rattle.machine_meaning.specs.Machine.{Call, State}
use Rattle.machine_meaning.specs.Runs as machine
use Rattle.machine_meaning.specs.Runs.{runs, most_steps}
use Rattle.machine_meaning.specs.Meaning.{module_memory}
use Rattle.routine_vm.specs.declared.frame.Body.{Body}
use Rattle.routine_vm.specs.declared.frame.Body.TheVariants as body
use Rattle.routine_vm.specs.declared.frame.Frame.{Frame}
use Rattle.routine_vm.specs.declared.run.Run.{Run}

-- the body is one of the module
abbrev pub HasBody : Module → Body → Type 0
HasBody m body.Main = Unit {0}
HasBody m (body.Block b) = b < length m.blocks
HasBody m (body.Function f) = f < length m.functions

-- the bodies of the calls, the running one first: functions above the one at the bottom
abbrev pub Stacked : Module → Body → Body → List Body → Type 0
Stacked m bottom running [] = running ≡ bottom
Stacked m bottom running (caller ∷ waiting) = ((f : ℕ) × (running ≡ body.Function f) × (f < length m.functions))
    × Stacked m bottom caller waiting

-- the bodies of frames
abbrev pub bodies_of : List Frame → List Body
bodies_of waiting = map (λ f. f.body) waiting

-- the calls of a run above this body
abbrev pub RunsAbove : Module → Body → Run → Type 0
RunsAbove m bottom r = Stacked m bottom r.call.body (bodies_of r.waiting)

-- the code of a body; one that the module has not counts as main
abbrev pub code_of : Module → Body → Code
code_of m body.Main = m.main
code_of m (body.Block b) = slice_index_or m.blocks b m.main
code_of m (body.Function f) = slice_index_or m.functions f m.main

-- a frame as a call
abbrev pub call_of : Module → Frame → Call
call_of m f = record { code = code_of m f.body; place = f.place; locals = f.locals; operands = f.operands }

-- what runs, with the words on which it works, as a state
abbrev pub state_of : Module → Run → Store → State
state_of m r store = record { call = call_of m r.call; callers = map (call_of m) r.waiting; store = store; fuel = r.fuel }

-- the store has the words of the module, with their kinds
abbrev pub HasWordsOf : Module → Store → Type 0
HasWordsOf m store = kinds_of (memory_in store) ≡ kinds_of (module_memory m)

-- what the run from a state comes to
abbrev pub outcome_from : Module → State → machine.Run
outcome_from m s = runs m (most_steps m s + 1) s
