-- A run that closes each step by a legal and complete history.
use Rattle.std.specs.Prelude.{◌≡◌, ℕ, ◌+◌, List, [], ◌∷◌, ◌++◌, length, sum_by, Ok, Err}
use Rattle.cal_base.specs.declared.ends.RunEnd.{RunEnd}
use Rattle.cal_base.specs.declared.ends.RunEnd.TheVariants.{StepFailed}
use Rattle.cal_base.specs.declared.ends.StepFault.{StepFault}
use Rattle.cal_base.specs.Memory.{Memory}
use Rattle.cal_base.specs.History.{History, claims_by, is_caller}
use Rattle.cal_base.specs.Claims.{StepJob, merged}
use Rattle.cal_base.specs.Main.{Main, Ends, Shows, Opens, Event, Line, step_event, meaning_of, steps_of, IsNumbered}
use Rattle.step_laws.specs.Closed.{ClosedStep}
use Rattle.step_laws.specs.Closed.{Each, IsWhole, jobs_in}
use Rattle.engine_laws.specs.Steps.{TakesUnits}

-- main ran to this rest of it: it showed these events, and closed these steps, each by a legal and complete history, with what its delivered answers leave
pub data RunsTo (main : Main) : Main → List Event → List ClosedStep → Type 0 where
  Here : RunsTo main main [] []
  Shown : (line : List ℕ) (rest : Main) (shown : List Event) (closed : List ClosedStep)
      → RunsTo main (Shows line rest) shown closed → RunsTo main rest (shown ++ Line line ∷ []) closed
  Closed : (job : StepJob) (next : Memory → Main) (shown : List Event) (closed : List ClosedStep) (history : History) (later : Memory)
      → RunsTo main (Opens job next) shown closed → IsWhole (record { job = job; history = history }) → merged job history ≡ Ok later
      → RunsTo main (next later) (shown ++ step_event job later ∷ []) (closed ++ record { job = job; history = history } ∷ [])

-- main ran to its end, or to a step that leaves no memory: it showed these events, closed these steps, and ended so
pub data RunsThrough (main : Main) : List Event → List ClosedStep → RunEnd → Type 0 where
  Ended : (ending : RunEnd) (shown : List Event) (closed : List ClosedStep)
      → RunsTo main (Ends ending) shown closed → RunsThrough main shown closed ending
  Failed : (job : StepJob) (next : Memory → Main) (shown : List Event) (closed : List ClosedStep) (history : History) (fault : StepFault)
      → RunsTo main (Opens job next) shown closed → IsWhole (record { job = job; history = history }) → merged job history ≡ Err fault
      → RunsThrough main shown (closed ++ record { job = job; history = history } ∷ []) (StepFailed job.number fault)

-- a part of a run: what it showed, and what is still to be shown, is what main means, and so are its steps and its end
pub record IsPart (main rest : Main) (shown : List Event) (closed : List ClosedStep) : Type 0 where
  pub events : shown ++ (meaning_of rest).events ≡ (meaning_of main).events
  pub ending : (meaning_of rest).ending ≡ (meaning_of main).ending
  pub steps : jobs_in closed ++ steps_of rest ≡ steps_of main
  pub whole : Each IsWhole closed

-- a whole run: it showed and ended as main means, by a legal and complete history of each step that the meaning opens
pub record IsMeantRun (main : Main) (shown : List Event) (closed : List ClosedStep) (last : RunEnd) : Type 0 where
  pub events : shown ≡ (meaning_of main).events
  pub ending : last ≡ (meaning_of main).ending
  pub steps : jobs_in closed ≡ steps_of main
  pub whole : Each IsWhole closed

-- a run that closes each step by a legal and complete history shows and ends as main means, and its steps are those that the meaning opens
abbrev pub RunsAreMeant : Type 0
RunsAreMeant = (main : Main) (shown : List Event) (closed : List ClosedStep) (ending : RunEnd) → RunsThrough main shown closed ending
    → IsMeantRun main shown closed ending

-- as far as a run has come, it showed and closed what main means
abbrev pub PartsAreMeant : Type 0
PartsAreMeant = (main rest : Main) (shown : List Event) (closed : List ClosedStep) → RunsTo main rest shown closed
    → IsPart main rest shown closed

-- the next step of a run has the number behind its closed steps, and each closed step took one of the units
abbrev pub ClosedStepsAreCounted : Type 0
ClosedStepsAreCounted =
    (main rest : Main) (shown : List Event) (closed : List ClosedStep) (before units : ℕ) → RunsTo main rest shown closed
    → IsNumbered before main → TakesUnits units main
    → IsNumbered (before + length closed) rest × (left : ℕ) × (units ≡ length closed + left) × TakesUnits left rest

-- the claims of the caller in these steps
unfoldable pub callers_claims : List ClosedStep → ℕ
callers_claims closed = sum_by (λ step. claims_by is_caller step.history) closed
