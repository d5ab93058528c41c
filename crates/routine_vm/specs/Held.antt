-- What a machine keeps of main between its events.
use Rattle.std.specs.Prelude.{◌≡◌, ℕ, suc, ◌+◌, ◌≤◌, ℤ, pos, false, List, [], length, map, sum, Some, None, IsSome, ◌⊎◌}
use Rattle.cal_base.specs.Memory.{Memory}
use Rattle.cal_base.specs.Updates.{Written}
use Rattle.cal_base.specs.declared.ends.RoutineEnd.{RoutineEnd}
use Rattle.cal_base.specs.Printing.{line_of}
use Rattle.cal_base.specs.Widths.{step_widths}
use Rattle.cal_base.specs.declared.ends.Cause.TheVariants.{BadWidth, FuelSpent}
use Rattle.cal_base.specs.declared.value.Val.{Val}
use Rattle.cal_base.specs.declared.value.Store.TheVariants.{Main}
use Rattle.bytecode.specs.declared.instr.PrintItem.{PrintItem}
use Rattle.bytecode.specs.declared.instr.Instr.TheVariants as i
use Rattle.bytecode.specs.declared.module.Module.{Module}
use Rattle.code_verify.specs.Rules.{Stands}
use Rattle.machine_meaning.specs.Machine.{State, Next, Prints, Opens, Ends, Traps, many_numbers}
use Rattle.machine_meaning.specs.Fitting.{Fits}
use Rattle.machine_meaning.specs.Meaning.{module_memory, Outcome}
use Rattle.routine_vm.specs.declared.event.Item.{Item}
use Rattle.routine_vm.specs.declared.event.MainEvent.{MainEvent}
use Rattle.routine_vm.specs.declared.event.MainEvent.TheVariants.{Print, Par, Halt, Fault}
use Rattle.routine_vm.specs.declared.frame.Body.TheVariants as body
use Rattle.routine_vm.specs.declared.frame.Frame.{Frame}
use Rattle.routine_vm.specs.Frames.{behind}
use Rattle.routine_vm.specs.States.{call_of}
use Rattle.routine_vm.specs.Events.{piece_of, AreItemsOf}
use Rattle.cal_terms.specs.declared.limits.TheConstants.{MOST_ROUTINES}

-- main's call, its fuel, and the parts of its last event
pub record Held : Type 0 where
  pub call : Frame
  pub fuel : ℕ
  pub items : List Item
  pub widths : List ℕ

-- main's state, with this memory
abbrev pub main_state : Module → Held → Memory → State
main_state m h memory = record { call = call_of m h.call; callers = []; store = Main memory; fuel = h.fuel }

-- the machine was made for the module, and main has not ended
pub record MayGoOn (m : Module) (h : Held) : Type 0 where
  pub main : h.call.body ≡ body.Main
  pub fits : Fits m false (main_state m h (module_memory m))

-- the event, as the small steps come to it: with the state, or the words and the fuel, at it
abbrev pub event_at : Module → MainEvent → Held → Memory → Next
event_at m (Print items) h memory = Prints (line_of (map (piece_of m) h.items)) (main_state m h memory)
event_at m (Par first blocks total) h memory = Opens first h.widths (main_state m h memory)
event_at m Halt h memory = Ends (Main memory) h.fuel
event_at m (Fault cause) h memory = Traps cause (Main memory) h.fuel

-- a step is told: its blocks, which are there, and its routines
pub record TellsStep (m : Module) (first blocks total : ℕ) (h : Held) : Type 0 where
  pub count : blocks ≡ length h.widths
  pub all : total ≡ sum h.widths
  pub few : total ≤ MOST_ROUTINES
  pub there : first + blocks ≤ length m.blocks
  pub may : MayGoOn m h

-- a line is told: its items are those of the instruction that main has just done
pub record TellsLine (m : Module) (items : ℕ) (h : Held) : Type 0 where
  pub count : items ≡ length h.items
  pub place : ℕ
  pub line : List PrintItem
  pub behind : h.call.place ≡ place + 1
  pub stands : Stands m.main place (i.Print line)
  pub named : AreItemsOf line h.items
  pub may : MayGoOn m h

-- the event tells its parts, and main may go on behind it unless it has ended
abbrev pub IsTold : Module → MainEvent → Held → Type 0
IsTold m (Print items) h = TellsLine m items h
IsTold m (Par first blocks total) h = TellsStep m first blocks total h
IsTold m Halt h = Unit {0}
IsTold m (Fault cause) h = Unit {0}

-- main opens a step of so many blocks, with widths from the top and for a unit of fuel, or traps
abbrev pub OpensBlocks : ℕ → ℕ → Held → MainEvent → Held → Type 0
OpensBlocks first count before (Print items) later = ⊥
OpensBlocks first count before Halt later = ⊥
OpensBlocks first count before (Par block blocks total) later =
    (block ≡ first) × (blocks ≡ count) × (blocks ≡ length later.widths) × (total ≡ sum later.widths)
    × (many_numbers count before.call.operands ≡ Some (map pos later.widths, later.call.operands))
    × (step_widths (map pos later.widths) ≡ Some later.widths)
    × (before.fuel ≡ suc later.fuel) × (later.call ≡ behind before.call later.call.operands)
OpensBlocks first count before (Fault cause) later =
    (later.fuel ≡ before.fuel) × (x : List ℤ × List Val) × (many_numbers count before.call.operands ≡ Some x)
    × (((cause ≡ BadWidth) × (step_widths x.0 ≡ None)) ⊎ ((cause ≡ FuelSpent) × (before.fuel ≡ 0) × IsSome (step_widths x.0)))

-- a routine's run ended so, and left this written
pub record IsOutcome (outcome : Outcome) (ending : RoutineEnd) (written : Written) : Type 0 where
  pub ended : outcome.ending ≡ ending
  pub wrote : outcome.written ≡ written
