-- The laws of what programs mean.
use Rattle.std.specs.Prelude.{◌≡◌, ℕ, ◌≤◌, List, length, Option}
use Rattle.cal_base.specs.Main.{steps_of, IsNumbered}
use Rattle.cal_base.specs.declared.value.Store.{Store}
use Rattle.cal_base.specs.declared.value.Store.TheVariants as store
use Rattle.cal_base.specs.Memory.{Memory}
use Rattle.csl_tree.specs.declared.program.Program.{Program}
use Rattle.csl_tree.specs.declared.program.Expr.{Expr}
use Rattle.csl_tree.specs.declared.program.Stmt.{Stmt}
use Rattle.csl_tree.specs.declared.program.RoutineBlock.{RoutineBlock}
use Rattle.csl_meaning.specs.declared.state.World.{World}
use Rattle.csl_meaning.specs.Locals.{Locals}
use Rattle.csl_meaning.specs.Runs.{Outcome, Gives, Stops, ShowsLine, OpensStep, Run}
use Rattle.csl_meaning.specs.Value.{Calls, value_of}
use Rattle.csl_meaning.specs.Effect.{Went, MainOnly, turns, loop, scoped, statements, step_of, nowhere, calls_to, most_levels}
use Rattle.csl_meaning.specs.Routines.{routine_run}
use Rattle.csl_meaning.specs.Meaning.{in_main, main}

-- a loop of the language is the same for every bound on its turns that is at least the fuel
abbrev pub BoundIsEnough : Program → Calls → (MainOnly → Locals → Run Went) → Type 0
BoundIsEnough p calls main_only =
    (test : Expr) (body : List Stmt) (next : Option Stmt) (n : ℕ) (locals : Locals) (w : World) → w.fuel ≤ n
    → turns n (λ l. value_of p calls l test) (scoped (statements p calls main_only body)) (step_of p calls main_only next) locals w
    ≡ loop (λ l. value_of p calls l test) (scoped (statements p calls main_only body)) (step_of p calls main_only next) locals w

-- so it is in main
abbrev pub BoundIsEnoughInMain : Type 0
BoundIsEnoughInMain = (p : Program) (fuel : ℕ) → BoundIsEnough p (calls_to p most_levels) (in_main p fuel)

-- so it is in functions and routines
abbrev pub BoundIsEnoughElsewhere : Type 0
BoundIsEnoughElsewhere = (p : Program) (levels : ℕ) → BoundIsEnough p (calls_to p levels) nowhere

-- steps are numbered one by one from 1, and none has more than 65,536 routines
abbrev pub StepsAreNumbered : Type 0
StepsAreNumbered = (p : Program) (fuel : ℕ) → IsNumbered 0 (main p fuel)

-- at most as many steps are opened as there are units of fuel
abbrev pub StepsAreBounded : Type 0
StepsAreBounded = (p : Program) (fuel : ℕ) → length (steps_of (main p fuel)) ≤ fuel

-- a routine's store on this opening memory
abbrev pub OpenedOn : Memory → Store → Type 0
OpenedOn memory (store.Main own) = ⊥
OpenedOn memory (store.Routine opening written) = opening ≡ memory

-- no line is shown and no step is opened, and the opening memory stays
abbrev pub IsQuiet : {A : Type 0} → Memory → Outcome A → Type 0
IsQuiet memory (Gives a w) = OpenedOn memory w.store
IsQuiet memory (Stops cause w) = OpenedOn memory w.store
IsQuiet memory (ShowsLine line rest) = ⊥
IsQuiet memory (OpensStep job rest) = ⊥

-- a routine shows no line and opens no step, and it leaves its step's opening memory as it is
abbrev pub RoutinesAreQuiet : Type 0
RoutinesAreQuiet =
    (p : Program) (memory : Memory) (fuel : ℕ) (block : RoutineBlock) (w id : ℕ) → IsQuiet memory (routine_run p memory fuel block w id)
