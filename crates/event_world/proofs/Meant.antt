-- The world has the program's meaning.
use Rattle.std.proofs.Common.{◌≡◌, ℕ, suc, ◌<◌, ◌≤◌, true, false, cond, List, [], ◌∷◌, ◌++◌, refl, sym, ap, ◌∙◌, subst, arith, append_assoc, Result, Ok, Err}
use Rattle.cal_base.specs.declared.step.TheConstants.{CALLER}
use Rattle.cal_base.specs.declared.step.Claimed.{Claimed}
use Rattle.cal_base.specs.declared.step.Claimed.TheVariants.{Work, AllDone, Spent}
use Rattle.cal_base.specs.declared.ends.StepFault.{StepFault}
use Rattle.cal_base.specs.Memory.{Memory}
use Rattle.cal_base.specs.History.{History}
use Rattle.cal_base.specs.Claims.{StepJob, size_of, claimed, merged, meant, IsLegal, IsComplete}
use Rattle.step_laws.specs.Laws.{IsRightClaim}
use Rattle.step_laws.proofs.StepLaws.{claims_are_right, merged_is_meant}
use Rattle.event_world.specs.declared.event.Event.{Event}
use Rattle.cal_base.specs.Main.{Main, Ends, Shows, Opens, Line, step_event, Meaning, going_on, meaning_of, steps_behind, steps_of, IsNumbered}
use Rattle.event_world.specs.World.{Mode, Idle, Busy, Stopped, Delivery, Phase, Open, Over, Run, is_all_done, is_complete, closing, run_on, settled, State, freed, Turn, after_turn, apply_in, apply}
use Rattle.event_world.specs.World.{apply_all, first_state, completed, finish_main, finish_in}
use Rattle.event_world.specs.Law.{Each, jobs_in, IsOfWorker, IsWhole, WorldIsMeant}
use Rattle.step_laws.proofs.Caller.{completed_is_whole}
use Rattle.step_laws.proofs.Closed.{each_append, jobs_in-append}
use Rattle.event_world.proofs.Turns.{IsBusyBelow, DeliveryFits, TurnFits, turn_fits}

-- what is still to come
abbrev pub rest_of : Phase → Meaning
rest_of (Over ending) = record { events = []; ending = ending }
rest_of (Open job next history) = going_on job (meant job) (λ later. meaning_of (next later))

-- an open step fits what comes after this many steps
pub record OpenFits (steps : ℕ) (job : StepJob) (next : Memory → Main) : Type 0 where
  pub number : steps < job.number
  pub small : size_of job ≤ 65536
  pub later : (memory : Memory) → IsNumbered job.number (next memory)

abbrev pub PhaseFits : ℕ → Phase → Type 0
PhaseFits steps (Over ending) = Unit {0}
PhaseFits steps (Open job next history) = OpenFits steps job next

phase_less : (a b : ℕ) (phase : Phase) → a ≤ b → PhaseFits b phase → PhaseFits a phase
phase_less a b (Over ending) le fits = tt
phase_less a b (Open job next history) le fits = record { number = omega (arith, fits.number); small = fits.small; later = fits.later }

-- the steps that are not closed yet
abbrev pub steps_left : Phase → List StepJob
steps_left (Over ending) = []
steps_left (Open job next history) = job ∷ steps_behind (meant job) (λ later. steps_of (next later))

-- what was shown, with what is to come, is the meaning, and so are the steps
pub record RunFits (steps : ℕ) (run : Run) (meaning : Meaning) (jobs : List StepJob) : Type 0 where
  pub shown : run.shown ++ (rest_of run.phase).events ≡ meaning.events
  pub ending : (rest_of run.phase).ending ≡ meaning.ending
  pub jobs_are : jobs_in run.closed ++ steps_left run.phase ≡ jobs
  pub whole : Each IsWhole run.closed
  pub phase : PhaseFits steps run.phase

-- deliveries of steps so far
record IsOlder (steps : ℕ) (d : Delivery) : Type 0 where
  worker : d.who < CALLER
  step : d.step ≤ steps
  small : d.k < 65536

-- the workers and their deliveries fit the open step
abbrev pub TurnIn : Phase → (ℕ → Mode) → List Delivery → Type 0
TurnIn (Over ending) modes deliveries = Unit {0}
TurnIn (Open job next history) modes deliveries = TurnFits job (record { history = history; modes = modes; deliveries = deliveries })

-- idle workers and older deliveries fit a step that was just opened
abbrev IsFresh : ℕ → Phase → Type 0
IsFresh steps phase = (modes : ℕ → Mode) (deliveries : List Delivery) → ((w : ℕ) → IsBusyBelow 0 (modes w)) → Each (IsOlder steps) deliveries → TurnIn phase modes deliveries

idle_fits : (n : ℕ) (mode : Mode) → IsBusyBelow 0 mode → IsBusyBelow n mode
idle_fits n Idle h = tt
idle_fits n (Busy k) h = absurd (omega arith)
idle_fits n Stopped h = tt

freed_idle : (mode : Mode) → IsBusyBelow 0 (freed mode)
freed_idle Idle = tt
freed_idle (Busy k) = tt
freed_idle Stopped = tt

older_fits : (steps : ℕ) (job : StepJob) → steps < job.number → (deliveries : List Delivery) → Each (IsOlder steps) deliveries → Each (DeliveryFits job) deliveries
older_fits steps job later [] all = tt
older_fits steps job later (d ∷ deliveries) all =
    (record { worker = all.0.worker; step = omega (arith, all.0.step); small = all.0.small; current = λ e. absurd (omega (arith, all.0.step)) }, older_fits steps job later deliveries all.1)

made_older : (job : StepJob) (deliveries : List Delivery) → Each (DeliveryFits job) deliveries → Each (IsOlder job.number) deliveries
made_older job [] all = tt
made_older job (d ∷ deliveries) all = (record { worker = all.0.worker; step = all.0.step; small = all.0.small }, made_older job deliveries all.1)

done_completes : (job : StepJob) (history : History) (c : Claimed) → is_all_done c ≡ true → IsRightClaim job history CALLER c → IsComplete job history
done_completes job history AllDone e right = right
done_completes job history (Work k) e right = absurd (cc)
done_completes job history Spent e right = absurd (cc)

pub completes : (job : StepJob) (history : History) → is_complete job history ≡ true → IsComplete job history
completes job history e = done_completes job history (claimed job history CALLER) e (claims_are_right job history CALLER)

module _ (job : StepJob) (next : Memory → Main) (history : History) (legal : IsLegal job history) (complete : IsComplete job history) where
  whole_step : IsWhole (record { job = job; history = history })
  whole_step = record { legal = legal; complete = complete }

  -- a step that is closed leaves what it means
  closing_fits : (steps : ℕ) (run : Memory → Run) → steps ≤ job.number → ((memory : Memory) → RunFits job.number (run memory) (meaning_of (next memory)) (steps_of (next memory)))
      → RunFits steps (closing job history (merged job history) run) (going_on job (meant job) (λ later. meaning_of (next later))) (job ∷ steps_behind (meant job) (λ later. steps_of (next later)))
  closing_fits steps run le fits =
      subst (λ r. RunFits steps (closing job history r run) (going_on job (meant job) (λ later. meaning_of (next later))) (job ∷ steps_behind (meant job) (λ later. steps_of (next later))))
      (sym (merged_is_meant job history legal complete)) (by_result (meant job))
    where
      by_result : (r : Result Memory StepFault) → RunFits steps (closing job history r run) (going_on job r (λ later. meaning_of (next later))) (job ∷ steps_behind r (λ later. steps_of (next later)))
      by_result (Ok later) = record {
        shown = ap (λ more. step_event job later ∷ more) (fits later).shown;
        ending = (fits later).ending;
        jobs_are = ap (λ more. job ∷ more) (fits later).jobs_are;
        whole = (whole_step, (fits later).whole);
        phase = phase_less steps job.number (run later).phase le (fits later).phase;
      }
      by_result (Err fault) = record { shown = refl; ending = refl; jobs_are = refl; whole = (whole_step, tt); phase = tt }

closing_fresh : (job : StepJob) (history : History) (r : Result Memory StepFault) (run : Memory → Run) → ((memory : Memory) → IsFresh job.number (run memory).phase)
    → IsFresh job.number (closing job history r run).phase
closing_fresh job history (Ok later) run fresh = fresh later
closing_fresh job history (Err fault) run fresh = λ modes deliveries idle older. tt

-- main runs on to what it means
run_on_fits : (steps : ℕ) (main : Main) → IsNumbered steps main → RunFits steps (run_on main) (meaning_of main) (steps_of main)
run_on_fits steps (Ends ending) numbered = record { shown = refl; ending = refl; jobs_are = refl; whole = tt; phase = tt }
run_on_fits steps (Shows bytes main) numbered =
    let fits = run_on_fits steps main numbered in
    record { shown = ap (λ more. Line bytes ∷ more) fits.shown; ending = fits.ending; jobs_are = fits.jobs_are; whole = fits.whole; phase = fits.phase }
run_on_fits steps (Opens job next) numbered =
    let later : (memory : Memory) → IsNumbered job.number (next memory) = λ memory. subst (λ n. IsNumbered n (next memory)) (sym numbered.0) (numbered.2 memory) in
    elim (is_complete job []) as (λ b. is_complete job [] ≡ b → RunFits steps (cond b (closing job [] (merged job []) (λ memory. run_on (next memory)))
    (record { shown = []; closed = []; phase = Open job next [] })) (going_on job (meant job) (λ memory. meaning_of (next memory)))
    (job ∷ steps_behind (meant job) (λ memory. steps_of (next memory)))) [
      | true ↦ λ e. closing_fits job next [] tt (completes job [] e) steps (λ memory. run_on (next memory)) (omega (arith, numbered.0)) (λ memory. run_on_fits job.number (next memory) (later memory))
      | false ↦ λ e. record { shown = refl; ending = refl; jobs_are = refl; whole = tt; phase = record { number = omega (arith, numbered.0); small = numbered.1; later = later } }
    ] refl

run_on_fresh : (steps : ℕ) (main : Main) → IsNumbered steps main → IsFresh steps (run_on main).phase
run_on_fresh steps (Ends ending) numbered = λ modes deliveries idle older. tt
run_on_fresh steps (Shows bytes main) numbered = run_on_fresh steps main numbered
run_on_fresh steps (Opens job next) numbered =
    let later : (memory : Memory) → IsNumbered job.number (next memory) = λ memory. subst (λ n. IsNumbered n (next memory)) (sym numbered.0) (numbered.2 memory) in
    elim (is_complete job []) as (λ b. IsFresh steps (cond b (closing job [] (merged job []) (λ memory. run_on (next memory))) (record { shown = []; closed = []; phase = Open job next [] })).phase) [
      | true ↦ λ modes deliveries idle older.
          closing_fresh job [] (merged job []) (λ memory. run_on (next memory)) (λ memory. run_on_fresh job.number (next memory) (later memory)) modes deliveries idle
          (older_more steps job.number (omega (arith, numbered.0)) deliveries older)
      | false ↦ λ modes deliveries idle older.
          record {
            legal = tt;
            alone = record { claims = refl; arrivals = refl };
            modes = λ w. idle_fits (size_of job) (modes w) (idle w);
            deliveries = older_fits steps job (omega (arith, numbered.0)) deliveries older;
          }
    ]
  where
    older_more : (a b : ℕ) → a ≤ b → (ds : List Delivery) → Each (IsOlder a) ds → Each (IsOlder b) ds
    older_more a b le [] all = tt
    older_more a b le (d ∷ ds) all = (record { worker = all.0.worker; step = omega (arith, all.0.step); small = all.0.small }, older_more a b le ds all.1)

pub record StateFits (main : Main) (state : State) : Type 0 where
  pub run : RunFits 0 state.run (meaning_of main) (steps_of main)
  pub turn : TurnIn state.run.phase state.modes state.deliveries

-- an open step after a turn
module _ (main : Main) (run : Run) (job : StepJob) (next : Memory → Main) (turn : Turn)
    (so_far : run.shown ++ (going_on job (meant job) (λ later. meaning_of (next later))).events ≡ (meaning_of main).events)
    (jobs : jobs_in run.closed ++ job ∷ steps_behind (meant job) (λ later. steps_of (next later)) ≡ steps_of main)
    (ends : (going_on job (meant job) (λ later. meaning_of (next later))).ending ≡ (meaning_of main).ending)
    (whole : Each IsWhole run.closed) (opens : OpenFits 0 job next) (fits : TurnFits job turn) where
  settled_fits : RunFits 0 (settled job next turn.history) (going_on job (meant job) (λ later. meaning_of (next later))) (job ∷ steps_behind (meant job) (λ later. steps_of (next later)))
  settled_fits =
      elim (is_complete job turn.history) as (λ b. is_complete job turn.history ≡ b → RunFits 0
      (cond b (closing job turn.history (merged job turn.history) (λ memory. run_on (next memory))) (record { shown = []; closed = []; phase = Open job next turn.history }))
      (going_on job (meant job) (λ later. meaning_of (next later))) (job ∷ steps_behind (meant job) (λ later. steps_of (next later)))) [
        | true ↦ λ e. closing_fits job next turn.history fits.legal (completes job turn.history e) 0 (λ memory. run_on (next memory)) (omega arith)
            (λ memory. run_on_fits job.number (next memory) (opens.later memory))
        | false ↦ λ e. record { shown = refl; ending = refl; jobs_are = refl; whole = tt; phase = opens }
      ] refl

  settled_turn : TurnIn (settled job next turn.history).phase (cond (is_complete job turn.history) (λ w. freed (turn.modes w)) turn.modes) turn.deliveries
  settled_turn =
      elim (is_complete job turn.history) as (λ b. TurnIn (cond b (closing job turn.history (merged job turn.history) (λ memory. run_on (next memory)))
      (record { shown = []; closed = []; phase = Open job next turn.history })).phase (cond b (λ w. freed (turn.modes w)) turn.modes) turn.deliveries) [
        | true ↦ closing_fresh job turn.history (merged job turn.history) (λ memory. run_on (next memory)) (λ memory. run_on_fresh job.number (next memory) (opens.later memory))
            (λ w. freed (turn.modes w)) turn.deliveries (λ w. freed_idle (turn.modes w)) (made_older job turn.deliveries fits.deliveries)
        | false ↦ fits
      ]

  after_turn_fits : StateFits main (after_turn run job next turn)
  after_turn_fits =
      let more = settled job next turn.history in
      let step = settled_fits in
      record {
        run = record {
          shown = append_assoc run.shown more.shown (rest_of more.phase).events ∙ (ap (λ rest. run.shown ++ rest) step.shown ∙ so_far);
          ending = step.ending ∙ ends;
          jobs_are = ap (λ js. js ++ steps_left more.phase) (jobs_in-append run.closed more.closed)
              ∙ (append_assoc (jobs_in run.closed) (jobs_in more.closed) (steps_left more.phase) ∙ (ap (λ rest. jobs_in run.closed ++ rest) step.jobs_are ∙ jobs));
          whole = each_append IsWhole run.closed more.closed whole step.whole;
          phase = step.phase;
        };
        turn = settled_turn;
      }

pub apply_fits : (main : Main) (e : Event) (state : State) → IsOfWorker e → StateFits main state → StateFits main (apply e state)
apply_fits main e state worker fits = by_phase state.run.phase refl
  where
    by_phase : (phase : Phase) → state.run.phase ≡ phase → StateFits main (apply_in phase e state)
    by_phase (Over ending) is = fits
    by_phase (Open job next history) is =
        let opens : OpenFits 0 job next = subst (PhaseFits 0) is fits.run.phase in
        let turn : TurnFits job (record { history = history; modes = state.modes; deliveries = state.deliveries }) = subst (λ p. TurnIn p state.modes state.deliveries) is fits.turn in
        after_turn_fits main state.run job next _ (ap (λ p. state.run.shown ++ (rest_of p).events) (sym is) ∙ fits.run.shown)
        (ap (λ p. jobs_in state.run.closed ++ steps_left p) (sym is) ∙ fits.run.jobs_are) (ap (λ p. (rest_of p).ending) (sym is) ∙ fits.run.ending) fits.run.whole opens
        (turn_fits job opens.small (record { history = history; modes = state.modes; deliveries = state.deliveries }) turn e worker)

pub apply_all_fits : (main : Main) (events : List Event) (state : State) → Each IsOfWorker events → StateFits main state → StateFits main (apply_all events state)
apply_all_fits main [] state workers fits = fits
apply_all_fits main (e ∷ events) state workers fits = apply_all_fits main events (apply e state) workers.1 (apply_fits main e state workers.0 fits)

-- ---- the caller

-- it ends as it means
record RunEnds (run : Run) (meaning : Meaning) (jobs : List StepJob) : Type 0 where
  shown : run.shown ≡ meaning.events
  jobs_are : jobs_in run.closed ≡ jobs
  ending : run.phase ≡ Over meaning.ending
  whole : Each IsWhole run.closed

closing_ends : (job : StepJob) (next : Memory → Main) (history : History) → IsLegal job history → IsComplete job history → (run : Memory → Run)
    → ((memory : Memory) → RunEnds (run memory) (meaning_of (next memory)) (steps_of (next memory)))
    → RunEnds (closing job history (merged job history) run) (going_on job (meant job) (λ later. meaning_of (next later))) (job ∷ steps_behind (meant job) (λ later. steps_of (next later)))
closing_ends job next history legal complete run ends =
    subst (λ r. RunEnds (closing job history r run) (going_on job (meant job) (λ later. meaning_of (next later))) (job ∷ steps_behind (meant job) (λ later. steps_of (next later))))
    (sym (merged_is_meant job history legal complete)) (by_result (meant job))
  where
    by_result : (r : Result Memory StepFault) → RunEnds (closing job history r run) (going_on job r (λ later. meaning_of (next later))) (job ∷ steps_behind r (λ later. steps_of (next later)))
    by_result (Ok later) = record {
      shown = ap (λ more. step_event job later ∷ more) (ends later).shown;
      ending = (ends later).ending;
      jobs_are = ap (λ more. job ∷ more) (ends later).jobs_are;
      whole = (record { legal = legal; complete = complete }, (ends later).whole);
    }
    by_result (Err fault) = record { shown = refl; ending = refl; jobs_are = refl; whole = (record { legal = legal; complete = complete }, tt) }

finish_main_ends : (steps : ℕ) (main : Main) → IsNumbered steps main → RunEnds (finish_main main) (meaning_of main) (steps_of main)
finish_main_ends steps (Ends ending) numbered = record { shown = refl; ending = refl; jobs_are = refl; whole = tt }
finish_main_ends steps (Shows bytes main) numbered =
    let ends = finish_main_ends steps main numbered in
    record { shown = ap (λ more. Line bytes ∷ more) ends.shown; ending = ends.ending; jobs_are = ends.jobs_are; whole = ends.whole }
finish_main_ends steps (Opens job next) numbered =
    let done = completed_is_whole job [] tt (record { claims = refl; arrivals = refl }) numbered.1 in
    closing_ends job next (completed job []) done.legal done.complete (λ memory. finish_main (next memory)) (λ memory. finish_main_ends (suc steps) (next memory) (numbered.2 memory))

finish_in_ends : (phase : Phase) (modes : ℕ → Mode) (deliveries : List Delivery) → PhaseFits 0 phase → TurnIn phase modes deliveries → RunEnds (finish_in phase) (rest_of phase) (steps_left phase)
finish_in_ends (Over ending) modes deliveries fits turn = record { shown = refl; ending = refl; jobs_are = refl; whole = tt }
finish_in_ends (Open job next history) modes deliveries fits turn =
    let done = completed_is_whole job history turn.legal turn.alone fits.small in
    closing_ends job next (completed job history) done.legal done.complete (λ memory. finish_main (next memory)) (λ memory. finish_main_ends job.number (next memory) (fits.later memory))

pub first_fits : (main : Main) → IsNumbered 0 main → StateFits main (first_state main)
first_fits main numbered = record { run = run_on_fits 0 main numbered; turn = run_on_fresh 0 main numbered (λ w. Idle) [] (λ w. tt) tt }

pub world_is_meant : WorldIsMeant
world_is_meant main events numbered workers =
    let first : StateFits main (first_state main) = first_fits main numbered in
    let fits : StateFits main (apply_all events (first_state main)) = apply_all_fits main events (first_state main) workers first in
    let state = apply_all events (first_state main) in
    let ends = finish_in_ends state.run.phase state.modes state.deliveries fits.run.phase fits.turn in
    record {
      shown = ap (λ rest. state.run.shown ++ rest) ends.shown ∙ fits.run.shown;
      ending = ends.ending ∙ ap (λ e. Over e) fits.run.ending;
      steps = jobs_in-append state.run.closed (finish_in state.run.phase).closed ∙ (ap (λ rest. jobs_in state.run.closed ++ rest) ends.jobs_are ∙ fits.run.jobs_are);
      whole = each_append IsWhole state.run.closed (finish_in state.run.phase).closed fits.run.whole ends.whole;
    }
