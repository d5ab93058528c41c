-- What is left of a run over events, case by case.
use Rattle.std.proofs.Common.{◌≡◌, ℕ, Bool, true, false, cond, List, [], ◌∷◌, ◌++◌, refl, sym, ap, subst, ◌∙◌, append_assoc, ⊎_elim, Result, Ok, Err}
use Rattle.std.specs.Prelude.{◌⊎◌}
use Rattle.std.proofs.lemmas.Bool.{cases_Bool}
use Rattle.cal_base.specs.declared.ends.RunEnd.{RunEnd}
use Rattle.cal_base.specs.declared.ends.StepFault.{StepFault}
use Rattle.cal_base.specs.declared.step.TheConstants.{CALLER}
use Rattle.cal_base.specs.declared.step.Claimed.{Claimed}
use Rattle.cal_base.specs.declared.step.Claimed.TheVariants.{Work, AllDone, Spent}
use Rattle.cal_base.specs.Memory.{Memory}
use Rattle.cal_base.specs.History.{History}
use Rattle.cal_base.specs.Claims.{StepJob, claimed, merged, IsComplete}
use Rattle.cal_base.specs.Main.{Main, Ends, Shows, Opens, Event as Shown, Line, step_event}
use Rattle.step_laws.specs.Caller.{completed}
use Rattle.step_laws.specs.Closed.{ClosedStep}
use Rattle.step_laws.specs.Laws.{IsRightClaim}
use Rattle.step_laws.proofs.StepLaws.{claims_are_right}
use Rattle.event_world.specs.declared.event.Event.{Event}
use Rattle.event_world.specs.World.{Mode, Idle, Delivery, Phase, Open, Over, Run, State, Turn, is_all_done, is_complete, closing, run_on, settled, freed, turn_of, apply_in, apply, apply_all}
use Rattle.event_world.specs.World.{finish_main, finish_in, world}
use Rattle.event_engine.specs.Resuming.{behind, run_from, resume, resume_in}
use Rattle.calypso_engine.proofs.Completing.{complete_stays}

-- ---- what came before stays before

-- a state with this shown and closed before
abbrev state_behind : List Shown → List ClosedStep → State → State
state_behind shown closed state = record { run = behind shown closed state.run; modes = state.modes; deliveries = state.deliveries }

module _ (shown : List Shown) (closed : List ClosedStep) where
  apply_behind_in : (e : Event) (more : List Shown) (steps : List ClosedStep) (phase : Phase) (modes : ℕ → Mode) (deliveries : List Delivery)
      → apply_in phase e (state_behind shown closed (record { run = record { shown = more; closed = steps; phase = phase }; modes = modes; deliveries = deliveries }))
      ≡ state_behind shown closed (apply_in phase e (record { run = record { shown = more; closed = steps; phase = phase }; modes = modes; deliveries = deliveries }))
  apply_behind_in e more steps (Over ending) modes deliveries = refl
  apply_behind_in e more steps (Open job next history) modes deliveries =
      let turn : Turn = turn_of job e (record { history = history; modes = modes; deliveries = deliveries }) in
      let rest : Run = settled job next turn.history in
      λ i. record {
        run = record { shown = append_assoc shown more rest.shown i; closed = append_assoc closed steps rest.closed i; phase = rest.phase };
        modes = cond (is_complete job turn.history) (λ w. freed (turn.modes w)) turn.modes;
        deliveries = turn.deliveries;
      }

  apply_behind : (e : Event) (state : State) → apply e (state_behind shown closed state) ≡ state_behind shown closed (apply e state)
  apply_behind e state = apply_behind_in e state.run.shown state.run.closed state.run.phase state.modes state.deliveries

  apply_all_behind : (events : List Event) (state : State) → apply_all events (state_behind shown closed state) ≡ state_behind shown closed (apply_all events state)
  apply_all_behind [] state = refl
  apply_all_behind (e ∷ events) state = ap (apply_all events) (apply_behind e state) ∙ apply_all_behind events (apply e state)

  run_from_behind : (events : List Event) (state : State) → run_from events (state_behind shown closed state) ≡ behind shown closed (run_from events state)
  run_from_behind events state =
      let last : State = apply_all events state in
      let rest : Run = finish_in last.run.phase in
      ap (λ (s : State). record { shown = s.run.shown ++ (finish_in s.run.phase).shown; closed = s.run.closed ++ (finish_in s.run.phase).closed; phase = (finish_in s.run.phase).phase })
      (apply_all_behind events state)
      ∙ (λ i. record { shown = append_assoc shown last.run.shown rest.shown i; closed = append_assoc closed last.run.closed rest.closed i; phase = rest.phase })

-- ---- the end

over_stays : (events : List Event) (ending : RunEnd) (modes : ℕ → Mode) (deliveries : List Delivery)
    → apply_all events (record { run = record { shown = []; closed = []; phase = Over ending }; modes = modes; deliveries = deliveries }) ≡ record
    { run = record { shown = []; closed = []; phase = Over ending }; modes = modes; deliveries = deliveries }
over_stays [] ending modes deliveries = refl
over_stays (e ∷ events) ending modes deliveries = over_stays events ending modes deliveries

over_run : (events : List Event) (ending : RunEnd) (modes : ℕ → Mode) (deliveries : List Delivery)
    → run_from events (record { run = record { shown = []; closed = []; phase = Over ending }; modes = modes; deliveries = deliveries }) ≡ record { shown = []; closed = []; phase = Over ending }
over_run events ending modes deliveries =
    ap (λ (s : State). record { shown = s.run.shown ++ (finish_in s.run.phase).shown; closed = s.run.closed ++ (finish_in s.run.phase).closed; phase = (finish_in s.run.phase).phase })
    (over_stays events ending modes deliveries)

pub resume_end : (ending : RunEnd) (modes : ℕ → Mode) (deliveries : List Delivery) (events : List Event)
    → resume (Ends ending) modes deliveries events ≡ record { shown = []; closed = []; phase = Over ending }
unfolding resume
resume_end ending modes deliveries events = over_run events ending modes deliveries

-- ---- the beginning

pub resume_first : (main : Main) (events : List Event) → resume main (λ w. Idle) [] events ≡ world main events
unfolding resume
resume_first main events = refl

-- ---- a line

pub resume_line : (line : List ℕ) (main : Main) (modes : ℕ → Mode) (deliveries : List Delivery) (events : List Event)
    → resume (Shows line main) modes deliveries events ≡ behind (Line line ∷ []) [] (resume main modes deliveries events)
unfolding resume
resume_line line main modes deliveries events = run_from_behind (Line line ∷ []) [] events (record { run = run_on main; modes = modes; deliveries = deliveries })

-- ---- a step that is closed

module _ (job : StepJob) (next : Memory → Main) (history : History) (modes : ℕ → Mode) (deliveries : List Delivery) (events : List Event) where
  run_closing : (r : Result Memory StepFault)
      → run_from events (record { run = closing job history r (λ later. run_on (next later)); modes = modes; deliveries = deliveries }) ≡ closing job history r
      (λ later. resume (next later) modes deliveries events)
  unfolding resume
  run_closing (Ok later) = run_from_behind (step_event job later ∷ []) (record { job = job; history = history } ∷ []) events
      (record { run = run_on (next later); modes = modes; deliveries = deliveries })
  run_closing (Err fault) = run_from_behind [] (record { job = job; history = history } ∷ []) events _
      ∙ ap (behind [] (record { job = job; history = history } ∷ [])) (over_run events _ modes deliveries)

-- where main goes on in the same way, so does the run
pub closing_same : (job : StepJob) (history : History) (one other : Memory → Run) → ((later : Memory) → one later ≡ other later)
    → closing job history (merged job history) one ≡ closing job history (merged job history) other
closing_same job history one other same = λ i. closing job history (merged job history) (λ later. same later i)

-- ---- the tests

done_by : (job : StepJob) (history : History) (c : Claimed) → IsRightClaim job history CALLER c → IsComplete job history → is_all_done c ≡ true
done_by job history AllDone right complete = refl
done_by job history (Work k) right complete = let on = right.1.passes in let off = complete k in absurd (cc)
done_by job history Spent right complete = let no = right.0 in absurd (cc)

open_by : (job : StepJob) (history : History) (c : Claimed) → IsRightClaim job history CALLER c → (IsComplete job history → ⊥) → is_all_done c ≡ false
open_by job history AllDone right open_still = absurd (open_still right)
open_by job history (Work k) right open_still = refl
open_by job history Spent right open_still = refl

pub complete_is : (job : StepJob) (history : History) → IsComplete job history → is_complete job history ≡ true
complete_is job history complete = done_by job history (claimed job history CALLER) (claims_are_right job history CALLER) complete

pub open_is : (job : StepJob) (history : History) → (IsComplete job history → ⊥) → is_complete job history ≡ false
open_is job history open_still = open_by job history (claimed job history CALLER) (claims_are_right job history CALLER) open_still

complete_from : (job : StepJob) (history : History) (c : Claimed) → IsRightClaim job history CALLER c → is_all_done c ≡ true → IsComplete job history
complete_from job history AllDone right e = right
complete_from job history (Work k) right e = absurd (cc)
complete_from job history Spent right e = absurd (cc)

complete_so : (job : StepJob) (history : History) → is_complete job history ≡ true → completed job history ≡ history
complete_so job history e = complete_stays job history (complete_from job history (claimed job history CALLER) (claims_are_right job history CALLER) e)

-- the same run by the history that the caller completes
completed_closing : (job : StepJob) (history : History) (run : Memory → Run) → is_complete job history ≡ true
    → closing job history (merged job history) run ≡ closing job (completed job history) (merged job (completed job history)) run
completed_closing job history run e = ap (λ (h : History). closing job h (merged job h) run) (sym (complete_so job history e))

-- ---- where no event is left

abbrev no_events : Main → Type 0
no_events main = (modes : ℕ → Mode) (deliveries : List Delivery) → resume main modes deliveries [] ≡ finish_main main

opened_no_events : (job : StepJob) (next : Memory → Main) → ((later : Memory) → no_events (next later)) → (b : Bool) → is_complete job [] ≡ b → (modes : ℕ → Mode) (deliveries : List Delivery)
    → run_from [] (record { run = cond b (closing job [] (merged job []) (λ later. run_on (next later))) (record { shown = []; closed = []; phase = Open job next [] }); modes = modes; deliveries = deliveries }) ≡ finish_main (Opens job next)
opened_no_events job next each true e modes deliveries =
    run_closing job next [] modes deliveries [] (merged job [])
    ∙ closing_same job [] (λ later. resume (next later) modes deliveries []) (λ later. finish_main (next later)) (λ later. each later modes deliveries)
    ∙ completed_closing job [] (λ later. finish_main (next later)) e
opened_no_events job next each false e modes deliveries = refl

pub resume_none : (main : Main) → no_events main
unfolding resume
resume_none (Ends ending) modes deliveries = refl
resume_none (Shows line main) modes deliveries = resume_line line main modes deliveries [] ∙ ap (behind (Line line ∷ []) []) (resume_none main modes deliveries)
resume_none (Opens job next) modes deliveries = opened_no_events job next (λ later. resume_none (next later)) (is_complete job []) refl modes deliveries

-- ---- an open step

module _ (job : StepJob) (next : Memory → Main) where
  -- main opens it
  pub resume_opens : (modes : ℕ → Mode) (deliveries : List Delivery) (events : List Event) → ((w : ℕ) → freed (modes w) ≡ modes w)
      → resume (Opens job next) modes deliveries events ≡ resume_in job next (record { history = []; modes = modes; deliveries = deliveries }) events
  unfolding resume resume_in
  resume_opens modes deliveries events free = λ i. run_from events (record { run = run_on (Opens job next); modes = same (is_complete job []) i; deliveries = deliveries })
    where
      same : (b : Bool) → modes ≡ cond b (λ w. freed (modes w)) modes
      same true = λ i w. sym (free w) i
      same false = refl

  module _ (turn : Turn) where
    abbrev state_by : Bool → State
    state_by b = record {
      run = cond b (closing job turn.history (merged job turn.history) (λ later. run_on (next later))) (record { shown = []; closed = []; phase = Open job next turn.history });
      modes = cond b (λ w. freed (turn.modes w)) turn.modes;
      deliveries = turn.deliveries;
    }

    -- another event
    pub resume_turn : (e : Event) (events : List Event) → is_complete job turn.history ≡ false → resume_in job next turn (e ∷ events) ≡ resume_in job next (turn_of job e turn) events
    unfolding resume_in
    resume_turn e events still = ap (λ (b : Bool). run_from (e ∷ events) (state_by b)) still

    -- it is closed
    complete_closes : (events : List Event) → is_complete job turn.history ≡ true
        → resume_in job next turn events ≡ closing job (completed job turn.history) (merged job (completed job turn.history))
        (λ later. resume (next later) (λ w. freed (turn.modes w)) turn.deliveries events)
    unfolding resume_in
    complete_closes events e =
        ap (λ (b : Bool). run_from events (state_by b)) e
        ∙ run_closing job next turn.history (λ w. freed (turn.modes w)) turn.deliveries events (merged job turn.history)
        ∙ completed_closing job turn.history (λ later. resume (next later) (λ w. freed (turn.modes w)) turn.deliveries events) e

    left_closes : is_complete job turn.history ≡ false
        → resume_in job next turn [] ≡ closing job (completed job turn.history) (merged job (completed job turn.history)) (λ later. resume (next later) (λ w. freed (turn.modes w)) turn.deliveries [])
    unfolding resume_in
    left_closes e =
        ap (λ (b : Bool). run_from [] (state_by b)) e
        ∙ (λ i. closing job (completed job turn.history) (merged job (completed job turn.history)) (λ later. sym (resume_none (next later) (λ w. freed (turn.modes w)) turn.deliveries) i))

    pub resume_closes : (events : List Event) → IsComplete job turn.history ⊎ (events ≡ [])
        → resume_in job next turn events ≡ closing job (completed job turn.history) (merged job (completed job turn.history))
        (λ later. resume (next later) (λ w. freed (turn.modes w)) turn.deliveries events)
    resume_closes events end =
        ⊎_elim (λ (complete : IsComplete job turn.history). complete_closes events (complete_is job turn.history complete))
        (λ (none : events ≡ []).
        subst
        (λ (es : List Event). resume_in job next turn es ≡ closing job (completed job turn.history) (merged job (completed job turn.history))
        (λ later. resume (next later) (λ w. freed (turn.modes w)) turn.deliveries es))
        (sym none)
        (⊎_elim (λ (yes : is_complete job turn.history ≡ true). complete_closes [] yes) (λ (no : is_complete job turn.history ≡ false). left_closes no) (cases_Bool (is_complete job turn.history))))
        end
