-- Mains with the same meaning and the same steps have the same world.
use Rattle.std.proofs.Common.{◌≡◌, ℕ, suc, true, false, cond, List, [], ◌∷◌, ◌++◌, refl, sym, ap, ◌∙◌, subst, Result, Ok, Err}
use Rattle.cal_base.specs.declared.ends.RunEnd.{RunEnd}
use Rattle.cal_base.specs.declared.ends.StepFault.{StepFault}
use Rattle.cal_base.specs.Memory.{Memory}
use Rattle.cal_base.specs.History.{History}
use Rattle.cal_base.specs.Claims.{StepJob, merged, meant, IsLegal, IsComplete}
use Rattle.cal_base.specs.Main.{Main, Ends, Shows, Opens, Event as Shown, Line, step_event, Meaning, going_on, meaning_of, steps_behind, steps_of, IsNumbered}
use Rattle.step_laws.proofs.StepLaws.{merged_is_meant}
use Rattle.step_laws.proofs.Caller.{completed_is_whole}
use Rattle.event_world.specs.declared.event.Event.{Event}
use Rattle.event_world.specs.World.{Mode, Delivery, Phase, Open, Over, Run, ClosedStep, is_complete, closing, run_on, settled, State, Turn, turn_of, after_turn, apply_in, apply, apply_all}
use Rattle.event_world.specs.World.{first_state, completed, finish_main, finish_in}
use Rattle.event_world.specs.Law.{Each, IsOfWorker, IsMeant, WorldIsOfTheMeaning}
use Rattle.event_world.proofs.Turns.{TurnFits, turn_fits}
use Rattle.event_world.proofs.Meant.{PhaseFits, TurnIn, StateFits, completes, first_fits, apply_fits, apply_all_fits, world_is_meant}

-- two mains that show the same lines and open the same jobs, and end alike, as far as the memories that the jobs leave lead
data SameCourse : Main → Main → Type 0 where
  both_end : (ending : RunEnd) → SameCourse (Ends ending) (Ends ending)
  both_show : (line : List ℕ) (one other : Main) → SameCourse one other → SameCourse (Shows line one) (Shows line other)
  both_open : (job : StepJob) (one other : Memory → Main) → ((later : Memory) → meant job ≡ Ok later → SameCourse (one later) (other later)) → SameCourse (Opens job one) (Opens job other)

-- what comes behind a job goes the same way
abbrev SameBehind : StepJob → (Memory → Main) → (Memory → Main) → Type 0
SameBehind job one other = (later : Memory) → meant job ≡ Ok later → SameCourse (one later) (other later)

-- ---- from meanings and steps to courses

abbrev events_behind : StepJob → Result Memory StepFault → (Memory → Main) → Meaning
events_behind job r next = going_on job r (λ later. meaning_of (next later))

behind_same : (job : StepJob) (one other : Memory → Main) (r : Result Memory StepFault)
    → ((later : Memory) → (meaning_of (one later)).events ≡ (meaning_of (other later)).events → (meaning_of (one later)).ending ≡ (meaning_of (other later)).ending
    → steps_of (one later) ≡ steps_of (other later) → SameCourse (one later) (other later))
    → (events_behind job r one).events ≡ (events_behind job r other).events → (events_behind job r one).ending ≡ (events_behind job r other).ending
    → steps_behind r (λ later. steps_of (one later)) ≡ steps_behind r (λ later. steps_of (other later))
    → (later : Memory) → r ≡ Ok later → SameCourse (one later) (other later)
behind_same job one other (Ok memory) each events ending steps later is =
    let same : memory ≡ later = cc in
    subst (λ l. SameCourse (one l) (other l)) same (each memory (cc) ending steps)
behind_same job one other (Err fault) each events ending steps later is = absurd (cc)

no_line : (line : List ℕ) (more : List Shown) (job : StepJob) (r : Result Memory StepFault) (next : Memory → Meaning) → (Line line ∷ more) ≡ (going_on job r next).events → ⊥
no_line line more job (Ok later) next e = cc
no_line line more job (Err fault) next e = cc

same_course : (one other : Main) → (meaning_of one).events ≡ (meaning_of other).events → (meaning_of one).ending ≡ (meaning_of other).ending → steps_of one ≡ steps_of other → SameCourse one other
same_course (Ends a) (Ends b) events ending steps = subst (λ e. SameCourse (Ends a) (Ends e)) ending (both_end a)
same_course (Ends a) (Shows line other) events ending steps = absurd (cc)
same_course (Ends a) (Opens job other) events ending steps = absurd (cc)
same_course (Shows line one) (Ends b) events ending steps = absurd (cc)
same_course (Shows line one) (Shows other_line other) events ending steps =
    let same : line ≡ other_line = cc in
    subst (λ l. SameCourse (Shows line one) (Shows l other)) same (both_show line one other (same_course one other (cc) ending steps))
same_course (Shows line one) (Opens job other) events ending steps = absurd (no_line line (meaning_of one).events job (meant job) (λ later. meaning_of (other later)) events)
same_course (Opens job one) (Ends b) events ending steps = absurd (cc)
same_course (Opens job one) (Shows line other) events ending steps = absurd (no_line line (meaning_of other).events job (meant job) (λ later. meaning_of (one later)) (sym events))
same_course (Opens job one) (Opens other_job other) events ending steps =
    let same : other_job ≡ job = cc in
    let behind : steps_behind (meant job) (λ later. steps_of (one later)) ≡ steps_behind (meant other_job) (λ later. steps_of (other later)) = cc in
    subst (λ j. SameCourse (Opens job one) (Opens j other)) (sym same)
    (both_open job one other
    (behind_same job one other (meant job) (λ later. same_course (one later) (other later))
    (subst (λ j. (events_behind job (meant job) one).events ≡ (events_behind j (meant j) other).events) same events)
    (subst (λ j. (events_behind job (meant job) one).ending ≡ (events_behind j (meant j) other).ending) same ending)
    (subst (λ j. steps_behind (meant job) (λ later. steps_of (one later)) ≡ steps_behind (meant j) (λ later. steps_of (other later))) same behind)))

-- ---- runs on the same course

-- both stand in the same step with the same history, or at the same end
data SamePhase : Phase → Phase → Type 0 where
  both_over : (ending : RunEnd) → SamePhase (Over ending) (Over ending)
  both_in : (job : StepJob) (one other : Memory → Main) (history : History) → SameBehind job one other → SamePhase (Open job one history) (Open job other history)

record SameRun (one other : Run) : Type 0 where
  shown : one.shown ≡ other.shown
  closed : one.closed ≡ other.closed
  phase : SamePhase one.phase other.phase

-- a step that is closed leaves what it means, in both
closing_same : (job : StepJob) (history : History) → IsLegal job history → IsComplete job history → (one other : Memory → Run)
    → ((later : Memory) → meant job ≡ Ok later → SameRun (one later) (other later)) → SameRun (closing job history (merged job history) one) (closing job history (merged job history) other)
closing_same job history legal complete one other same =
    subst (λ r. SameRun (closing job history r one) (closing job history r other)) (sym (merged_is_meant job history legal complete)) (by_result (meant job) refl)
  where
    by_result : (r : Result Memory StepFault) → meant job ≡ r → SameRun (closing job history r one) (closing job history r other)
    by_result (Ok later) is =
        let goes = same later is in
        record {
          shown = ap (λ more. step_event job later ∷ more) goes.shown;
          closed = ap (λ more. record { job = job; history = history } ∷ more) goes.closed;
          phase = goes.phase;
        }
    by_result (Err fault) is = record { shown = refl; closed = refl; phase = both_over _ }

run_on_same : {one other : Main} → SameCourse one other → SameRun (run_on one) (run_on other)
run_on_same (both_end ending) = record { shown = refl; closed = refl; phase = both_over ending }
run_on_same (both_show line one other same) =
    let goes = run_on_same same in
    record { shown = ap (λ more. Line line ∷ more) goes.shown; closed = goes.closed; phase = goes.phase }
run_on_same (both_open job one other same) =
    elim (is_complete job []) as (λ b. is_complete job [] ≡ b
    → SameRun (cond b (closing job [] (merged job []) (λ later. run_on (one later))) (record { shown = []; closed = []; phase = Open job one [] }))
    (cond b (closing job [] (merged job []) (λ later. run_on (other later))) (record { shown = []; closed = []; phase = Open job other [] }))) [
      | true ↦ λ e. closing_same job [] tt (completes job [] e) (λ later. run_on (one later)) (λ later. run_on (other later)) (λ later is. run_on_same (same later is))
      | false ↦ λ e. record { shown = refl; closed = refl; phase = both_in job one other [] same }
    ] refl

settled_same : (job : StepJob) (one other : Memory → Main) (history : History) → IsLegal job history → SameBehind job one other → SameRun (settled job one history) (settled job other history)
settled_same job one other history legal same =
    elim (is_complete job history) as (λ b. is_complete job history ≡ b
    → SameRun (cond b (closing job history (merged job history) (λ later. run_on (one later))) (record { shown = []; closed = []; phase = Open job one history }))
    (cond b (closing job history (merged job history) (λ later. run_on (other later))) (record { shown = []; closed = []; phase = Open job other history }))) [
      | true ↦ λ e. closing_same job history legal (completes job history e) (λ later. run_on (one later)) (λ later. run_on (other later)) (λ later is. run_on_same (same later is))
      | false ↦ λ e. record { shown = refl; closed = refl; phase = both_in job one other history same }
    ] refl

-- ---- events

record SameState (one other : State) : Type 0 where
  run : SameRun one.run other.run
  modes : one.modes ≡ other.modes
  deliveries : one.deliveries ≡ other.deliveries

append_same : {A : Type 0} {a b c d : List A} → a ≡ b → c ≡ d → (a ++ c) ≡ (b ++ d)
append_same e f = cc

after_turn_same : (run also : Run) (job : StepJob) (one other : Memory → Main) (turn : Turn) → run.shown ≡ also.shown → run.closed ≡ also.closed → IsLegal job turn.history → SameBehind job one other
    → SameState (after_turn run job one turn) (after_turn also job other turn)
after_turn_same run also job one other turn shown closed legal same =
    let goes = settled_same job one other turn.history legal same in
    record {
      run = record { shown = append_same shown goes.shown; closed = append_same closed goes.closed; phase = goes.phase };
      modes = refl;
      deliveries = refl;
    }

abbrev turn_at : History → State → Turn
turn_at history state = record { history = history; modes = state.modes; deliveries = state.deliveries }

same_turn : (history : History) (one other : State) → one.modes ≡ other.modes → one.deliveries ≡ other.deliveries
    → turn_at history one ≡ turn_at history other
same_turn history one other modes deliveries = cc

apply_same : (e : Event) (one other : State) {p q : Phase} → IsOfWorker e → PhaseFits 0 p → TurnIn p one.modes one.deliveries → SameState one other → SamePhase p q
    → SameState (apply_in p e one) (apply_in q e other)
apply_same e one other worker fits turn same (both_over ending) = same
apply_same e one other worker fits turn same (both_in job next also history behind) =
    let here : Turn = turn_at history one in
    let right : TurnFits job (turn_of job e here) = turn_fits job fits.small here turn e worker in
    subst (λ (t : Turn). SameState (after_turn one.run job next (turn_of job e here)) (after_turn other.run job also (turn_of job e t))) (same_turn history one other same.modes same.deliveries)
    (after_turn_same one.run other.run job next also (turn_of job e here) same.run.shown same.run.closed right.legal behind)

apply_all_same : (main : Main) (events : List Event) (one other : State) → Each IsOfWorker events → StateFits main one → SameState one other → SameState (apply_all events one) (apply_all events other)
apply_all_same main [] one other workers fits same = same
apply_all_same main (e ∷ events) one other workers fits same =
    apply_all_same main events (apply e one) (apply e other) workers.1 (apply_fits main e one workers.0 fits)
    (apply_same e one other workers.0 fits.run.phase fits.turn same same.run.phase)

-- ---- the caller

closed_same : (job : StepJob) (history : History) → IsLegal job history → IsComplete job history → (one other : Memory → Run)
    → ((later : Memory) → meant job ≡ Ok later → (one later).closed ≡ (other later).closed)
    → (closing job history (merged job history) one).closed ≡ (closing job history (merged job history) other).closed
closed_same job history legal complete one other same =
    subst (λ r. (closing job history r one).closed ≡ (closing job history r other).closed) (sym (merged_is_meant job history legal complete)) (by_result (meant job) refl)
  where
    by_result : (r : Result Memory StepFault) → meant job ≡ r → (closing job history r one).closed ≡ (closing job history r other).closed
    by_result (Ok later) is = ap (λ more. record { job = job; history = history } ∷ more) (same later is)
    by_result (Err fault) is = refl

finish_main_same : (steps : ℕ) {one other : Main} → IsNumbered steps one → SameCourse one other → (finish_main one).closed ≡ (finish_main other).closed
finish_main_same steps numbered (both_end ending) = refl
finish_main_same steps numbered (both_show line one other same) = finish_main_same steps numbered same
finish_main_same steps numbered (both_open job one other same) =
    let done = completed_is_whole job [] tt (record { claims = refl; arrivals = refl }) numbered.1 in
    closed_same job (completed job []) done.legal done.complete (λ later. finish_main (one later)) (λ later. finish_main (other later))
    (λ later is. finish_main_same (suc steps) (numbered.2 later) (same later is))

finish_in_same : (modes : ℕ → Mode) (deliveries : List Delivery) {p q : Phase} → PhaseFits 0 p → TurnIn p modes deliveries → SamePhase p q → (finish_in p).closed ≡ (finish_in q).closed
finish_in_same modes deliveries fits turn (both_over ending) = refl
finish_in_same modes deliveries fits turn (both_in job one other history same) =
    let done = completed_is_whole job history turn.legal turn.alone fits.small in
    closed_same job (completed job history) done.legal done.complete (λ later. finish_main (one later)) (λ later. finish_main (other later))
    (λ later is. finish_main_same job.number (fits.later later) (same later is))

-- ---- the world

abbrev run_at : List Shown → List ClosedStep → Phase → Run
run_at shown closed phase = record { shown = shown; closed = closed; phase = phase }

same_run : {a b : List Shown} {c d : List ClosedStep} {p q : Phase} → a ≡ b → c ≡ d → p ≡ q → run_at a c p ≡ run_at b d q
same_run shown closed phase = cc

pub world_is_of_the_meaning : WorldIsOfTheMeaning
world_is_of_the_meaning one other events numbered also workers means steps =
    let course : SameCourse one other = same_course one other (ap (λ m. m.events) means) (ap (λ m. m.ending) means) steps in
    let first = run_on_same course in
    let last = apply_all_same one events (first_state one) (first_state other) workers (first_fits one numbered) (record { run = first; modes = refl; deliveries = refl }) in
    let fits = apply_all_fits one events (first_state one) workers (first_fits one numbered) in
    let state = apply_all events (first_state one) in
    let a : IsMeant one events = world_is_meant one events numbered workers in
    let b : IsMeant other events = world_is_meant other events also workers in
    same_run
    (a.shown ∙ ap (λ m. m.events) means ∙ sym b.shown)
    (append_same last.run.closed (finish_in_same state.modes state.deliveries fits.run.phase fits.turn last.run.phase))
    (a.ending ∙ ap (λ m. Over m.ending) means ∙ sym b.ending)
