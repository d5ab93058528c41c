-- What a run tells that came to its end.
use Rattle.std.proofs.Common.{◌≡◌, ℕ, zero, suc, ◌+◌, ◌<◌, ◌≤◌, false, true, Bool, List, [], ◌∷◌, ◌++◌, map, length, get_or, refl, sym, ap, subst, ◌∙◌, arith, sum_by}
use Rattle.std.specs.Prelude.{if◌then◌else◌}
use Rattle.std.specs.List.{AllByRecursion, Any, count_by, range_with_len}
use Rattle.std.proofs.lemmas.List.Sums.{sum_by-cons}
use Rattle.std.specs.Io.KnownBytes.{Appends}
use Rattle.bytecode.specs.declared.module.Module.{Module}
use Rattle.cal_base.specs.declared.ends.RunEnd.{RunEnd}
use Rattle.cal_base.specs.declared.step.TheConstants.{CALLER}
use Rattle.cal_base.specs.declared.step.WorkerTally.{WorkerTally}
use Rattle.cal_base.specs.Claims.{StepJob}
use Rattle.cal_base.specs.Contents.{AppendsPrefix}
use Rattle.cal_base.specs.History.{History, claims_by, is_caller, is_worker}
use Rattle.cal_base.specs.Main.{Main, Event, meaning_of, steps_of}
use Rattle.cal_base.specs.Pages.{Paged}
use Rattle.cal_base.specs.Text.{text_of}
use Rattle.fault_script.specs.Rows.{Row, row_of, IsTallyOf}
use Rattle.step_board.specs.Counted.{is_current}
use Rattle.step_laws.specs.Closed.{ClosedStep, Each, IsWhole}
use Rattle.engine_laws.specs.Ran.{callers_claims, IsMeantRun}
use Rattle.engine_laws.proofs.Running.{runs_are_meant}
use Rattle.run_report.specs.Logs.{TracedStep}
use Rattle.worker_gate.specs.Working.{WorkerState, first_tally}
use Rattle.worker_gate.specs.Worked.{ends, total}
use Rattle.calypso_engine.specs.Asked.{log_of, Outside}
use Rattle.calypso_engine.specs.Beginning.{AreBegun, IsFresh}
use Rattle.calypso_engine.specs.Logs.{LogsFrontOf}
use Rattle.calypso_engine.specs.Running.{Counted, CameTo, GaveUp, StoppedBetween}
use Rattle.calypso_engine.specs.Traces.{traced, trace_of, IsTraceOf, callers_tally, is_first_arrival, entries_in, WaitsForWorkers, Agree}
use Rattle.calypso_engine.specs.Teams.{ClaimedMore, HasTallies}
use Rattle.calypso_engine.specs.Whole.{TellsRun}
use Rattle.calypso_engine.specs.declared.error.RunError.{RunError}
use Rattle.calypso_engine.specs.declared.error.RunError.TheVariants.{NoMemory}
use Rattle.calypso_engine.specs.declared.options.RunOptions.{RunOptions}
use Rattle.calypso_engine.specs.declared.team.Team.{Team}
use Rattle.calypso_engine.proofs.Firsts.{firsts_claimed}
use Rattle.calypso_engine.proofs.Traces.{closed_traced}

-- ---- sums over a trace

module _ (f : History → ℕ) where
  pub traced_sum : (closed : List ClosedStep) → sum_by (λ (step : TracedStep). f step.history) (trace_of closed) ≡ sum_by (λ (step : ClosedStep). f step.history) closed
  traced_sum [] = refl
  traced_sum (step ∷ closed) =
      sum_by-cons (λ (s : TracedStep). f s.history) (traced step) (trace_of closed)
      ∙ ap (λ (n : ℕ). f step.history + n) (traced_sum closed)
      ∙ sym (sum_by-cons (λ (s : ClosedStep). f s.history) step closed)

firsts_sum : (closed : List ClosedStep) → Each IsWhole closed
    → entries_in is_first_arrival (trace_of closed) ≤ sum_by (λ (step : ClosedStep). claims_by is_worker step.history) closed + sum_by (λ (step : ClosedStep). claims_by is_caller step.history) closed
firsts_sum [] whole = omega arith
firsts_sum (step ∷ closed) whole =
    omega (
      arith,
      sum_by-cons (λ (s : TracedStep). count_by is_first_arrival s.history) (traced step) (trace_of closed),
      sum_by-cons (λ (s : ClosedStep). claims_by is_worker s.history) step closed,
      sum_by-cons (λ (s : ClosedStep). claims_by is_caller s.history) step closed,
      firsts_claimed step.job step.history whole.0.legal,
      firsts_sum closed whole.1,
    )

-- ---- sums over tallies

abbrev pub tallies_of : List WorkerState → List WorkerTally
tallies_of ws = map (λ (w : WorkerState). w.tally) ws

module _ (f : WorkerTally → ℕ) where
  pub tally_sum : (ws : List WorkerState) → sum_by f (tallies_of ws) ≡ sum_by (λ (w : WorkerState). f w.tally) ws
  tally_sum [] = refl
  tally_sum (w ∷ ws) = sum_by-cons f w.tally (tallies_of ws) ∙ ap (λ (n : ℕ). f w.tally + n) (tally_sum ws) ∙ sym (sum_by-cons (λ (v : WorkerState). f v.tally) w ws)

  -- workers that have done nothing sum to 0
  first_sum : ((who : ℕ) → f (first_tally who) ≡ 0) → (whos : List ℕ) → sum_by f (map first_tally whos) ≡ 0
  first_sum none [] = refl
  first_sum none (who ∷ whos) = sum_by-cons f (first_tally who) (map first_tally whos) ∙ omega (arith, none who, first_sum none whos)

  pub begun_sum : ((who : ℕ) → f (first_tally who) ≡ 0) → (rows : List Row) (count : ℕ) (image : Paged) (m : Module) (ws : List WorkerState) → AreBegun rows count image m ws
      → sum_by (λ (w : WorkerState). f w.tally) ws ≡ 0
  begun_sum none rows count image m ws begun = sym (tally_sum ws) ∙ ap (sum_by f) begun.tallies ∙ first_sum none (range_with_len 0 count)

each_waits : (closed : List ClosedStep) → Each (λ (step : ClosedStep). WaitsForWorkers (traced step)) closed → AllByRecursion WaitsForWorkers (trace_of closed)
each_waits [] all = tt
each_waits (step ∷ closed) all = (all.0, each_waits closed all.1)

-- where a tally says that its worker did not stop, a worker goes on
end_is : (b : Bool) → b ≡ false → ◌≡◌ {A = ℕ} (if b then 0 else 1) 1
end_is true e = absurd (cc)
end_is false e = refl

ends_is : (w : WorkerState) → w.tally.stopped ≡ false → ends w ≡ 1
unfolding ends
ends_is w e = end_is w.tally.stopped e

some_goes_on : (ws : List WorkerState) → Any (λ (t : WorkerTally). t.stopped ≡ false) (tallies_of ws) → 0 < sum_by ends ws
some_goes_on ws any = at ws any.0 any.1 any.2 any.3 any.4
  where
    at : (ws : List WorkerState) (k : ℕ) (t : WorkerTally) → k < length (tallies_of ws) → get_or (tallies_of ws) k t ≡ t → t.stopped ≡ false → 0 < sum_by ends ws
    at [] k t below is on = absurd (omega (arith, below))
    at (w ∷ ws) zero t below is on = omega (arith, sum_by-cons ends w ws, ends_is w (ap (λ (x : WorkerTally). x.stopped) is ∙ on))
    at (w ∷ ws) (suc k) t below is on = omega (arith, sum_by-cons ends w ws, at ws k t (omega (arith, below)) is on)

follows_all : (rows : List Row) (ws : List WorkerState) → AllByRecursion (λ (w : WorkerState). IsTallyOf (row_of rows w.tally.who) w.tally) ws
    → AllByRecursion (λ (t : WorkerTally). IsTallyOf (row_of rows t.who) t) (tallies_of ws)
follows_all rows [] all = tt
follows_all rows (w ∷ ws) all = (all.0, follows_all rows ws all.1)

numbers_all : (ws : List WorkerState) → map (λ (t : WorkerTally). t.who) (tallies_of ws) ≡ map (λ (w : WorkerState). w.tally.who) ws
numbers_all [] = refl
numbers_all (w ∷ ws) = let rest = numbers_all ws in λ i. w.tally.who ∷ rest i

-- ---- numbers

arrivals_are : (traces current l h e r l0 h0 e0 r0 : ℕ) → traces ≡ current → current + (l + h) + (e0 + r0) ≡ (e + r) + (l0 + h0) → l0 ≡ 0 → h0 ≡ 0 → e0 ≡ 0 → r0 ≡ 0 → traces + (l + h) ≡ e + r
arrivals_are t c l h e r l0 h0 e0 r0 p q a b d f = omega arith

claims_are : (traces closed before after : ℕ) → traces ≡ closed → closed + before ≡ after → before ≡ 0 → traces ≡ after
claims_are t c b a p q r = omega arith

firsts_are : (firsts closed callers workers caller before : ℕ) → firsts ≤ closed + callers → closed + before ≡ workers → callers ≡ caller → firsts ≤ workers + caller
firsts_are f c k w r b p q s = omega arith

-- ---- the tallies of a run agree with its trace

module _ (closed : List ClosedStep) (whole : Each IsWhole closed) (rows : List Row) (count : ℕ) (image : Paged) (m : Module) (old new : Team) (fresh : IsFresh rows count image m old)
    (counted : Counted closed old new) where
  abbrev ws : List WorkerState
  ws = old.workers.items

  abbrev vs : List WorkerState
  vs = new.workers.items

  callers_are : sum_by (λ (step : ClosedStep). claims_by is_caller step.history) closed ≡ new.caller.tally.claims
  unfolding callers_claims
  callers_are =
      let claims = ap (λ (t : WorkerTally). t.claims) counted.caller in
      let none = ap (λ (t : WorkerTally). t.claims) fresh.caller in
      omega (arith, claims, none)

  caller_is : new.caller.tally ≡ callers_tally new.caller.tally.claims new.caller.tally.pages
  caller_is =
      let more : ClaimedMore (first_tally CALLER) (callers_claims closed) new.caller.tally = subst (λ (t : WorkerTally). ClaimedMore t (callers_claims closed) new.caller.tally) fresh.caller
      counted.caller in
      let claims : new.caller.tally.claims ≡ 0 + callers_claims closed = ap (λ (t : WorkerTally). t.claims) more in
      more ∙ (λ i. callers_tally (sym claims i) new.caller.tally.pages)

  pub team_agrees : Agree (trace_of closed) (record { workers = tallies_of vs; caller = new.caller.tally })
  team_agrees = record {
    worker_claims =
        claims_are _ _ _ _ (traced_sum (claims_by is_worker) closed) counted.claims (begun_sum (λ t. t.claims) (λ who. refl) rows count image m ws fresh.workers)
        ∙ sym (tally_sum (λ t. t.claims) vs);
    caller_claims = traced_sum (claims_by is_caller) closed ∙ callers_are;
    arrivals =
        arrivals_so;
    firsts = firsts_so;
    caller_waits = λ any. each_waits closed (counted.waits (some_goes_on vs any));
  }
    where
      arrivals_so :
          entries_in is_current (trace_of closed) + (sum_by (λ (t : WorkerTally). t.lost) (tallies_of vs) + sum_by (λ (t : WorkerTally). t.held) (tallies_of vs))
          ≡ sum_by (λ (t : WorkerTally). t.executed) (tallies_of vs) + sum_by (λ (t : WorkerTally). t.repeated) (tallies_of vs)
      arrivals_so =
          let here =
          arrivals_are (entries_in is_current (trace_of closed)) _ (total (λ t. t.lost) vs) (total (λ t. t.held) vs) (total (λ t. t.executed) vs) (total (λ t. t.repeated) vs) (total (λ t. t.lost) ws)
          (total (λ t. t.held) ws) (total (λ t. t.executed) ws)
          (total (λ t. t.repeated) ws) (traced_sum (count_by is_current) closed) counted.arrivals (begun_sum (λ t. t.lost) (λ who. refl) rows count image m ws fresh.workers)
          (begun_sum (λ t. t.held) (λ who. refl) rows count image m ws fresh.workers)
          (begun_sum (λ t. t.executed) (λ who. refl) rows count image m ws fresh.workers) (begun_sum (λ t. t.repeated) (λ who. refl) rows count image m ws fresh.workers)
          in
          (λ i. entries_in is_current (trace_of closed) + (tally_sum (λ t. t.lost) vs i + tally_sum (λ t. t.held) vs i)) ∙ here
          ∙ (λ i. sym (tally_sum (λ t. t.executed) vs) i + sym (tally_sum (λ t. t.repeated) vs) i)

      firsts_so : entries_in is_first_arrival (trace_of closed) ≤ sum_by (λ (t : WorkerTally). t.claims) (tallies_of vs) + new.caller.tally.claims
      firsts_so =
          subst (λ (n : ℕ). entries_in is_first_arrival (trace_of closed) ≤ n + new.caller.tally.claims) (sym (tally_sum (λ t. t.claims) vs))
          (firsts_are _ _ _ (total (λ t. t.claims) vs) _ (total (λ t. t.claims) ws) (firsts_sum closed whole) counted.claims callers_are)

-- ---- the whole run

module _ (o : RunOptions) (main rest : Main) (is : rest ≡ main) (was now : Outside) where
  module _ (ending : RunEnd) (old new : Team) (came : CameTo o rest ending old new was now) where
    meant_run : IsMeantRun rest came.shown came.closed ending
    meant_run = runs_are_meant rest came.shown came.closed ending came.runs

    pub came_ending : ending ≡ (meaning_of main).ending
    came_ending = meant_run.ending ∙ ap (λ (r : Main). (meaning_of r).ending) is

    pub came_text : Appends was.out now.out (text_of o.steps (meaning_of main).events)
    came_text = subst (λ (es : List Event). Appends was.out now.out (text_of o.steps es)) (meant_run.events ∙ ap (λ (r : Main). (meaning_of r).events) is) came.told.written

    pub came_told : (image : Paged) (m : Module) → IsFresh o.script.now o.workers image m old → HasTallies o.script.now o.workers new
        → (report : List WorkerTally) → report ≡ tallies_of new.workers.items ++ new.caller.tally ∷ [] → TellsRun (steps_of main) o report was.files now.files
    came_told image m fresh team report all = record {
      trace = trace_of came.closed;
      tallies = record { workers = tallies_of new.workers.items; caller = new.caller.tally };
      traced = subst (λ (jobs : List StepJob). IsTraceOf jobs (trace_of came.closed)) (meant_run.steps ∙ ap steps_of is) (closed_traced came.closed meant_run.whole);
      logged = came.told.logged;
      order = all;
      workers = record { numbers = numbers_all new.workers.items ∙ team.numbers; caller = caller_is came.closed meant_run.whole o.script.now o.workers image m old new fresh came.counted };
      follow = follows_all o.script.now new.workers.items team.follow;
      agree = team_agrees came.closed meant_run.whole o.script.now o.workers image m old new fresh came.counted;
    }

  pub gave_front : (error : RunError) → GaveUp o rest error was now → AppendsPrefix was.out now.out (text_of o.steps (meaning_of main).events)
  gave_front error gave = subst (λ (r : Main). AppendsPrefix was.out now.out (text_of o.steps (meaning_of r).events)) is gave.front

  pub gave_log : (error : RunError) → GaveUp o rest error was now → LogsFrontOf (steps_of main) (log_of o) was.files now.files
  gave_log error gave = subst (λ (r : Main). LogsFrontOf (steps_of r) (log_of o) was.files now.files) is gave.logged

  pub gave_between : (error : RunError) → GaveUp o rest error was now → error ≡ NoMemory → StoppedBetween o main was now
  gave_between error gave none = subst (λ (r : Main). StoppedBetween o r was now) is (gave.between none)
