-- What a program does where its workers do what a list of events says, and the caller does the rest.
use Rattle.std.specs.Prelude.{ℕ, ◌-◌, ◌==◌, nat_lt, Bool, true, false, if◌then◌else◌, List, [], ◌∷◌, ◌++◌, Option, Some, None, Result, Ok}
use Rattle.std.specs.Prelude.{Err, slice_get}
use Rattle.cal_base.specs.declared.step.TheConstants.{CALLER}
use Rattle.cal_base.specs.declared.step.Verdict.{Verdict}
use Rattle.cal_base.specs.declared.step.Claimed.{Claimed}
use Rattle.cal_base.specs.declared.step.Claimed.TheVariants.{Work, AllDone, Spent}
use Rattle.cal_base.specs.declared.ends.RunEnd.{RunEnd}
use Rattle.cal_base.specs.declared.ends.RunEnd.TheVariants.{StepFailed}
use Rattle.cal_base.specs.declared.ends.StepFault.{StepFault}
use Rattle.cal_base.specs.Memory.{Memory}
use Rattle.cal_base.specs.History.{History}
use Rattle.cal_base.specs.Claims.{StepJob, claimed, verdict_on, merged}
pub use Rattle.step_laws.specs.Turns.{after_claim, after_arrival}
pub use Rattle.step_laws.specs.Caller.{pair_of, pairs_by, with_pairs, completed}
pub use Rattle.step_laws.specs.Closed.{ClosedStep}
use Rattle.event_world.specs.declared.event.Event.{Event}
use Rattle.event_world.specs.declared.event.Event.TheVariants as event
use Rattle.cal_base.specs.Main.{Main, Ends, Shows, Opens, Event as Shown, Line, step_event}

-- what a worker is at
pub data Mode : Type 0 where
  Idle : Mode
  Busy : ℕ → Mode
  Stopped : Mode

-- what a worker delivers: the answer of routine k of a step
pub record Delivery : Type 0 where
  pub who : ℕ
  pub step : ℕ
  pub k : ℕ

-- where main stands: in an open step, or at its end
pub data Phase : Type 0 where
  Open : (job : StepJob) → (next : Memory → Main) → (history : History) → Phase
  Over : RunEnd → Phase

-- what main has shown and which steps it has closed so far, and where it stands
pub record Run : Type 0 where
  pub shown : List Shown
  pub closed : List ClosedStep
  pub phase : Phase

-- ---- main

-- is nothing wanted?
abbrev pub is_all_done : Claimed → Bool
is_all_done AllDone = true
is_all_done (Work k) = false
is_all_done Spent = false

-- would the caller's claim find nothing wanted?
abbrev pub is_complete : StepJob → History → Bool
is_complete job history = is_all_done (claimed job history CALLER)

-- the run after something was shown
abbrev pub showing_first : Shown → Run → Run
showing_first first run = record run { shown = first ∷ run.shown }

-- a step is closed with its history, and main goes on with the memory that it leaves, or the run is over
abbrev pub closing : StepJob → History → Result Memory StepFault → (Memory → Run) → Run
closing job history (Ok later) next =
    record { shown = step_event job later ∷ (next later).shown; closed = record { job = job; history = history } ∷ (next later).closed; phase = (next later).phase }
closing job history (Err fault) next =
    record { shown = []; closed = record { job = job; history = history } ∷ []; phase = Over (StepFailed job.number fault) }

-- main runs to its first step that is not complete, or to its end
abbrev pub run_on : Main → Run
run_on (Ends ending) = record { shown = []; closed = []; phase = Over ending }
run_on (Shows bytes main) = showing_first (Line bytes) (run_on main)
run_on (Opens job next) =
    if is_complete job []
    then closing job [] (merged job []) (λ later. run_on (next later))
    else record { shown = []; closed = []; phase = Open job next [] }

-- where a step is complete, it is closed and main runs on
abbrev pub settled : StepJob → (Memory → Main) → History → Run
settled job next history =
    if is_complete job history
    then closing job history (merged job history) (λ later. run_on (next later))
    else record { shown = []; closed = []; phase = Open job next history }

-- ---- events

-- a run, with the workers' modes and all deliveries, the earliest first
pub record State : Type 0 where
  pub run : Run
  pub modes : ℕ → Mode
  pub deliveries : List Delivery

-- the modes, with this one for this worker
abbrev pub with_mode : (ℕ → Mode) → ℕ → Mode → ℕ → Mode
with_mode modes who mode = λ w. if w == who then mode else modes w

-- unfinished claims are dropped where a step was closed
abbrev pub freed : Mode → Mode
freed Idle = Idle
freed (Busy k) = Idle
freed Stopped = Stopped

-- what an event may change in an open step: its history, the workers' modes, and the deliveries
pub record Turn : Type 0 where
  pub history : History
  pub modes : ℕ → Mode
  pub deliveries : List Delivery

-- the modes after a worker's claim got this answer: work makes it busy
abbrev pub modes_after : (ℕ → Mode) → ℕ → Claimed → ℕ → Mode
modes_after modes who (Work k) = with_mode modes who (Busy k)
modes_after modes who AllDone = modes
modes_after modes who Spent = modes

-- a claim got this answer: work is entered and makes the worker busy, and nothing else changes
abbrev pub claim_turn : ℕ → Claimed → Turn → Turn
claim_turn who answer turn = record turn { history = after_claim turn.history who answer; modes = modes_after turn.modes who answer }

-- a worker that is neither busy nor stopped claims
abbrev pub claim_by : StepJob → ℕ → Mode → Turn → Turn
claim_by job who Idle turn = claim_turn who (claimed job turn.history who) turn
claim_by job who (Busy k) turn = turn
claim_by job who Stopped turn = turn

-- a busy worker finishes: its answer is the next delivery
abbrev pub finish_by : StepJob → ℕ → Mode → Turn → Turn
finish_by job who Idle turn = turn
finish_by job who (Busy k) turn =
    record turn { modes = with_mode turn.modes who Idle; deliveries = turn.deliveries ++ record { who = who; step = job.number; k = k } ∷ [] }
finish_by job who Stopped turn = turn

-- a delivery got this verdict: it is entered, unless it is full
abbrev pub arrive_turn : Delivery → Verdict → Turn → Turn
arrive_turn d verdict turn = record turn { history = after_arrival turn.history d.who d.step d.k verdict }

-- a delivery that is there arrives
abbrev pub arrive_of : StepJob → Option Delivery → Turn → Turn
arrive_of job None turn = turn
arrive_of job (Some d) turn = arrive_turn d (verdict_on job turn.history d.who d.step d.k) turn

-- the delivery of this number, counted from 1
abbrev pub delivery_at : List Delivery → ℕ → Option Delivery
delivery_at deliveries number = if nat_lt 0 number then slice_get deliveries (number - 1) else None

-- one event in an open step
abbrev pub turn_of : StepJob → Event → Turn → Turn
turn_of job (event.Claim who) turn = claim_by job who (turn.modes who) turn
turn_of job (event.Fetch who page) turn = turn
turn_of job (event.Finish who) turn = finish_by job who (turn.modes who) turn
turn_of job (event.Arrive number) turn = arrive_of job (delivery_at turn.deliveries number) turn
turn_of job (event.Stop who) turn = record turn { modes = with_mode turn.modes who Stopped }

-- the state after a turn in an open step: where the step is complete it is closed, and claims are dropped
abbrev pub after_turn : Run → StepJob → (Memory → Main) → Turn → State
after_turn run job next turn = record {
  run = record {
    shown = run.shown ++ (settled job next turn.history).shown;
    closed = run.closed ++ (settled job next turn.history).closed;
    phase = (settled job next turn.history).phase;
  };
  modes = if is_complete job turn.history then (λ w. freed (turn.modes w)) else turn.modes;
  deliveries = turn.deliveries;
}

-- when main has ended no event applies
abbrev pub apply_in : Phase → Event → State → State
apply_in (Over ending) e state = state
apply_in (Open job next history) e state =
    after_turn state.run job next (turn_of job e (record { history = history; modes = state.modes; deliveries = state.deliveries }))

-- the state after one event
abbrev pub apply : Event → State → State
apply e state = apply_in state.run.phase e state

-- the state after all events, in order
abbrev pub apply_all : List Event → State → State
apply_all [] state = state
apply_all (e ∷ events) state = apply_all events (apply e state)

-- the state before any event: main has come to its first step that is not complete, or to its end, and no worker has done anything
abbrev pub first_state : Main → State
first_state main = record { run = run_on main; modes = λ w. Idle; deliveries = [] }

-- ---- the caller

-- the caller completes each step from here on
abbrev pub finish_main : Main → Run
finish_main (Ends ending) = record { shown = []; closed = []; phase = Over ending }
finish_main (Shows bytes main) = showing_first (Line bytes) (finish_main main)
finish_main (Opens job next) = closing job (completed job []) (merged job (completed job [])) (λ later. finish_main (next later))

-- the caller completes the open step, and each later one
abbrev pub finish_in : Phase → Run
finish_in (Over ending) = record { shown = []; closed = []; phase = Over ending }
finish_in (Open job next history) = closing job (completed job history) (merged job (completed job history))
    (λ later. finish_main (next later))

-- what the program shows, the steps with their histories, and where it stands: at its end
abbrev pub world : Main → List Event → Run
world main events =
    let state = apply_all events (first_state main) in
    record {
      shown = state.run.shown ++ (finish_in state.run.phase).shown;
      closed = state.run.closed ++ (finish_in state.run.phase).closed;
      phase = (finish_in state.run.phase).phase;
    }
