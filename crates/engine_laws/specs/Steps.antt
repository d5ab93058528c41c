-- The steps that main of a module opens, and the answers of their routines.
use Rattle.std.specs.Prelude.{◌≡◌, ℕ, suc, ◌+◌, ◌<◌, List, length, take, sum, Some, slice_get}
use Rattle.cal_base.specs.Memory.{Memory}
use Rattle.cal_base.specs.Claims.{StepJob}
use Rattle.cal_base.specs.Main.{Main, Ends, Shows, Opens, IsNumbered}
use Rattle.bytecode.specs.declared.module.Code.{Code}
use Rattle.bytecode.specs.declared.module.Module.{Module}
use Rattle.machine_meaning.specs.Meaning.{answers, answered, blocks_of, routine_outcome, machine_main}

-- the job of a step: its number, the memory on which it opens, and the answers of all routines of its blocks, the first of which is given, with these widths, each with the whole fuel of the run
abbrev pub step_job : Module → (fuel number : ℕ) → Memory → (first : ℕ) → (widths : List ℕ) → StepJob
step_job m fuel number opening first widths =
    record { number = number; opening = opening; answers = answers m fuel opening (blocks_of m first (length widths)) widths }

-- each step that main opens takes one of so many units
abbrev pub TakesUnits : ℕ → Main → Type 0
TakesUnits units (Ends ending) = Unit {0}
TakesUnits units (Shows line main) = TakesUnits units main
TakesUnits units (Opens job next) = (left : ℕ) × (units ≡ suc left) × ((later : Memory) → TakesUnits left (next later))

-- the steps of a module's main are numbered from 1, and none has more than 65,536 routines
abbrev pub StepsAreNumbered : Type 0
StepsAreNumbered = (m : Module) (fuel : ℕ) → IsNumbered 0 (machine_main m fuel)

-- each step of a module's main takes a unit of the run's fuel
abbrev pub StepsTakeUnits : Type 0
StepsTakeUnits = (m : Module) (fuel : ℕ) → TakesUnits fuel (machine_main m fuel)

-- a step has as many answers as the widths of its blocks sum to
abbrev pub AnswersAreAll : Type 0
AnswersAreAll =
    (m : Module) (fuel : ℕ) (opening : Memory) (blocks : List Code) (widths : List ℕ) → length blocks ≡ length widths
    → length (answers m fuel opening blocks widths) ≡ sum widths

-- the answer whose number is the sum of the widths before a block and a number below the block's own width is that of this routine of the block
abbrev pub AnswersGoByBlocks : Type 0
AnswersGoByBlocks =
    (m : Module) (fuel : ℕ) (opening : Memory) (blocks : List Code) (widths : List ℕ) (i id width : ℕ) (block : Code)
    → slice_get blocks i ≡ Some block → slice_get widths i ≡ Some width → id < width
    → slice_get (answers m fuel opening blocks widths) (sum (take i widths) + id) ≡ Some
    (answered (routine_outcome m block width id opening fuel))
