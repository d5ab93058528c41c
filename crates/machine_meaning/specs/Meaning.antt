-- What a module means: the answers of its routines, and main as it runs.
use Rattle.std.specs.Prelude.{◌≡◌, ℕ, zero, suc, ◌+◌, List, [], ◌∷◌, ◌++◌, map, take, drop, length, Option, Some, None}
use Rattle.std.specs.List.{range_with_len}
use Rattle.cal_base.specs.declared.ends.Cause.TheVariants.{FuelSpent}
use Rattle.cal_base.specs.declared.ends.RoutineEnd.{RoutineEnd}
use Rattle.cal_base.specs.declared.ends.RoutineEnd.TheVariants.{Ended, Fault}
use Rattle.cal_base.specs.declared.ends.RunEnd.TheVariants.{Done, MainFault}
use Rattle.cal_base.specs.Memory.{Memory}
use Rattle.cal_base.specs.Pages.{first_memory}
use Rattle.cal_base.specs.declared.value.Store.{Store}
use Rattle.cal_base.specs.declared.value.Store.TheVariants.{Main}
use Rattle.cal_base.specs.Stores.{memory_in, written_in}
use Rattle.cal_base.specs.Updates.{Written}
use Rattle.cal_base.specs.declared.answer.Answer.{Answer}
use Rattle.cal_base.specs.Answers.{answer_by}
use Rattle.cal_base.specs.Main as outline
use Rattle.cal_base.specs.Main.{Meaning, meaning_of}
use Rattle.bytecode.specs.declared.module.Code.{Code}
use Rattle.bytecode.specs.declared.module.Module.{Module}
use Rattle.machine_meaning.specs.Machine.{State, Next, On, Prints, Opens, Ends, Traps, next}
use Rattle.machine_meaning.specs.Runs.{Reached, Run, Comes, Goes, Stuck, runs, most_steps, main_beginning, routine_beginning}

-- how a routine's run ended: its end, what it wrote and added, and the fuel that it leaves
pub record Outcome : Type 0 where
  pub ending : RoutineEnd
  pub written : Written
  pub fuel : ℕ

-- the outcome at a state, by its end
abbrev pub outcome_at : RoutineEnd → Store → ℕ → Outcome
outcome_at ending store fuel = record { ending = ending; written = written_in store; fuel = fuel }

-- the outcome of a run; those that a verified module's routine never comes to count as out of fuel
abbrev pub outcome_of : Run → Outcome
outcome_of (Comes (Ends store fuel)) = outcome_at Ended store fuel
outcome_of (Comes (Traps cause store fuel)) = outcome_at (Fault cause) store fuel
outcome_of (Comes (On s)) = outcome_at (Fault FuelSpent) s.store s.fuel
outcome_of (Comes (Prints line s)) = outcome_at (Fault FuelSpent) s.store s.fuel
outcome_of (Comes (Opens first widths s)) = outcome_at (Fault FuelSpent) s.store s.fuel
outcome_of (Goes s) = outcome_at (Fault FuelSpent) s.store s.fuel
outcome_of (Stuck s) = outcome_at (Fault FuelSpent) s.store s.fuel

-- the outcome of a routine of a block: its width, its number, the memory on which its step opens, and its units of fuel
abbrev pub routine_outcome : Module → Code → ℕ → ℕ → Memory → ℕ → Outcome
routine_outcome m block width id opening fuel =
    outcome_of (runs m (most_steps m (routine_beginning block width id opening fuel) + 1) (routine_beginning block width id opening fuel))

-- one routine's answer
abbrev pub answered : Outcome → Answer
answered outcome = answer_by outcome.ending outcome.written

-- the answers of all routines of a step, each with the whole fuel of the run: the numbers run through the blocks in order
abbrev pub answers : Module → ℕ → Memory → List Code → List ℕ → List Answer
answers m fuel opening [] widths = []
answers m fuel opening (block ∷ blocks) [] = []
answers m fuel opening (block ∷ blocks) (width ∷ widths) =
    map (λ id. answered (routine_outcome m block width id opening fuel)) (range_with_len 0 width) ++ answers m fuel opening blocks widths

-- the blocks of a step
abbrev pub blocks_of : Module → ℕ → ℕ → List Code
blocks_of m first count = take count (drop first m.blocks)

-- main goes on where its step leads, behind a number of parallel steps, in a run with this fuel; a verified module is never stuck
abbrev pub main_at : Module → (whole steps : ℕ) → (ℕ → State → outline.Main) → Option Next → outline.Main
main_at m whole steps more None = outline.Ends (MainFault steps FuelSpent)
main_at m whole steps more (Some (On s)) = more steps s
main_at m whole steps more (Some (Prints line s)) = outline.Shows line (more steps s)
main_at m whole steps more (Some (Opens first widths s)) =
    outline.Opens (record { number = suc steps; opening = memory_in s.store; answers = answers m whole (memory_in s.store) (blocks_of m first (length widths)) widths })
    (λ later. more (suc steps) (record s { store = Main later }))
main_at m whole steps more (Some (Ends store fuel)) = outline.Ends (Done steps)
main_at m whole steps more (Some (Traps cause store fuel)) = outline.Ends (MainFault steps cause)

-- main goes on from a state, in at most this many small steps, which a verified module never runs out of
abbrev pub main_from : Module → (whole bound steps : ℕ) → State → outline.Main
main_from m whole zero steps s = outline.Ends (MainFault steps FuelSpent)
main_from m whole (suc bound) steps s = main_at m whole steps (λ more_steps later. main_from m whole bound more_steps later) (next m s)

-- the memory on which main begins
abbrev pub module_memory : Module → Memory
module_memory m = first_memory m.words m.tallies m.initial

-- main goes on from a state, behind a number of parallel steps, in a run with this fuel
abbrev pub main_of : Module → (whole steps : ℕ) → State → outline.Main
main_of m whole steps s = main_from m whole (most_steps m s + 1) steps s

-- main as it runs with this fuel
abbrev pub machine_main : Module → ℕ → outline.Main
machine_main m fuel = main_of m fuel 0 (main_beginning m (module_memory m) fuel)

-- what the module means with this fuel: the events of its run and its end
abbrev pub machine_meaning : Module → ℕ → Meaning
machine_meaning m fuel = meaning_of (machine_main m fuel)

-- from each state that main reaches it goes on just where its step leads: to the next state, behind a line, or behind a parallel step with any memory
abbrev pub MainGoesOn : Module → Type 0
MainGoesOn m =
    (memory : Memory) (fuel whole steps : ℕ) (s : State) → Reached m (main_beginning m memory fuel) s
    → main_of m whole steps s ≡ main_at m whole steps (λ more_steps later. main_of m whole more_steps later) (next m s)

-- from each state that main reaches it goes on where its run comes to: behind a line, behind a parallel step, or nowhere
abbrev pub MainComes : Module → Type 0
MainComes m =
    (memory : Memory) (fuel whole steps : ℕ) (s : State) (n : Next) → Reached m (main_beginning m memory fuel) s
    → runs m (most_steps m s + 1) s ≡ Comes n
    → main_of m whole steps s ≡ main_at m whole steps (λ more_steps later. main_of m whole more_steps later) (Some n)
