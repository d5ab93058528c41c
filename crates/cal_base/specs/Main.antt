-- A program that runs, as its main: the lines that it shows, the steps that it opens, and how it ends.
use Rattle.std.specs.Prelude.{◌≡◌, ℕ, suc, ◌≤◌, List, [], ◌∷◌, Result, Ok, Err}
use Rattle.cal_base.specs.declared.ends.RunEnd.{RunEnd}
use Rattle.cal_base.specs.declared.ends.RunEnd.TheVariants.{StepFailed}
use Rattle.cal_base.specs.declared.ends.StepFault.{StepFault}
use Rattle.cal_base.specs.Memory.{Memory}
use Rattle.cal_base.specs.Claims.{StepJob, size_of, meant}
use Rattle.cal_terms.specs.declared.limits.TheConstants.{MOST_ROUTINES}

-- what main does next: it ends, shows a line with its line feed, or opens a step and goes on with the memory that the step leaves
pub data Main : Type 0 where
  Ends : RunEnd → Main
  Shows : List ℕ → Main → Main
  Opens : StepJob → (Memory → Main) → Main

-- what a run shows: a printed line with its line feed, or a completed step with its number, its size and the memory before and after it
pub data Event : Type 0 where
  Line : List ℕ → Event
  Step : (number size : ℕ) → (before later : Memory) → Event

-- the events of a run, in order, and its end
pub record Meaning : Type 0 where
  pub events : List Event
  pub ending : RunEnd

-- a completed step
abbrev pub step_event : StepJob → Memory → Event
step_event job later = Step job.number (size_of job) job.opening later

-- the same after one more event at the front
abbrev pub showing : Event → Meaning → Meaning
showing first meaning = record { events = first ∷ meaning.events; ending = meaning.ending }

-- a step that leaves a memory is shown, and main goes on with it; else the run ends with the step's fault
abbrev pub going_on : StepJob → Result Memory StepFault → (Memory → Meaning) → Meaning
going_on job (Ok later) next = showing (step_event job later) (next later)
going_on job (Err fault) next = record { events = []; ending = StepFailed job.number fault }

-- what the program means: its events and its end, where each step leaves what the answers of all its routines give
abbrev pub meaning_of : Main → Meaning
meaning_of (Ends ending) = record { events = []; ending = ending }
meaning_of (Shows line main) = showing (Line line) (meaning_of main)
meaning_of (Opens job next) = going_on job (meant job) (λ later. meaning_of (next later))

-- the steps behind one that leaves a memory; none behind a fault
abbrev pub steps_behind : Result Memory StepFault → (Memory → List StepJob) → List StepJob
steps_behind (Ok later) next = next later
steps_behind (Err fault) next = []

-- the steps that the meaning opens, in order, the faulted one included
abbrev pub steps_of : Main → List StepJob
steps_of (Ends ending) = []
steps_of (Shows line main) = steps_of main
steps_of (Opens job next) = job ∷ steps_behind (meant job) (λ later. steps_of (next later))

-- steps are numbered one by one behind this many, and no step has more than 65,536 routines
abbrev pub IsNumbered : ℕ → Main → Type 0
IsNumbered steps (Ends ending) = Unit {0}
IsNumbered steps (Shows line main) = IsNumbered steps main
IsNumbered steps (Opens job next) = (job.number ≡ suc steps) × (size_of job ≤ MOST_ROUTINES)
    × ((later : Memory) → IsNumbered (suc steps) (next later))
