-- The laws of a program's code.
use Rattle.std.specs.Prelude.{◌≡◌, ℕ, Some, slice_get}
use Rattle.cal_base.specs.Memory.{Memory, kinds_of}
use Rattle.cal_base.specs.Main.{steps_of}
use Rattle.csl_tree.specs.declared.program.Program.{Program}
use Rattle.csl_tree.specs.declared.program.RoutineBlock.{RoutineBlock}
use Rattle.csl_tree.specs.declared.program.Form.TheVariants as form
use Rattle.csl_meaning.specs.Layout.{first_memory}
use Rattle.csl_meaning.specs.Routines.{routine_run, end_of, world_after}
use Rattle.csl_meaning.specs.Meaning.{main, meaning}
use Rattle.bytecode.specs.declared.module.Code.{Code}
use Rattle.bytecode.specs.declared.module.Module.{Module}
use Rattle.code_verify.specs.Rules.{IsVerified}
use Rattle.machine_meaning.specs.Meaning.{machine_main, machine_meaning, routine_outcome, outcome_at}
use Rattle.compiled_code.specs.Sizes.{steps_in}
use Rattle.compiled_code.specs.Modules.{module_of}
use Rattle.compiled_code.specs.Shape.{HasShape}

-- Of a program of this shape, whose module keeps the rules: the module means what the program means, for each amount of fuel. It shows the same lines, opens the same steps, leaves the same memory after each of them, and comes to the same end.
abbrev pub ModuleMeansTheProgram : Type 0
ModuleMeansTheProgram = (p : Program) → IsVerified (module_of p) → HasShape p → (fuel : ℕ)
    → machine_meaning (module_of p) fuel ≡ meaning p fuel

-- And it opens the same steps, in order, a faulted one included: each with its number, its opening memory, and the answers of its routines.
abbrev pub ModuleOpensTheSteps : Type 0
ModuleOpensTheSteps = (p : Program) → IsVerified (module_of p) → HasShape p → (fuel : ℕ)
    → steps_of (machine_main (module_of p) fuel) ≡ steps_of (main p fuel)

-- The code does what the routines of the block do: on each memory whose words have the program's kinds, a routine ends in the same way, writes and adds the same, and leaves the same fuel.
abbrev pub DoesTheSame : Program → Module → RoutineBlock → Code → Type 0
DoesTheSame p m b code =
    (width id : ℕ) (memory : Memory) (fuel : ℕ) → kinds_of memory ≡ kinds_of (first_memory p.shared)
    → routine_outcome m code width id memory fuel
    ≡ outcome_at (end_of (routine_run p memory fuel b width id)) (world_after (routine_run p memory fuel b width id)).store
    (world_after (routine_run p memory fuel b width id)).fuel

-- Each routine block of main, in the text's order, has its code at its place among the module's blocks.
abbrev pub HasRoutines : Program → Module → Type 0
HasRoutines p m = (n : ℕ) (b : RoutineBlock) → slice_get (steps_in (form.Block p.main)) n ≡ Some b
    → (code : Code) × (slice_get m.blocks n ≡ Some code) × DoesTheSame p m b code

-- So it is in the module of a program of this shape.
abbrev pub RoutinesDoTheSame : Type 0
RoutinesDoTheSame = (p : Program) → IsVerified (module_of p) → HasShape p → HasRoutines p (module_of p)
