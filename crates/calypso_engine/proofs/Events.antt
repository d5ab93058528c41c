-- What each event of main leaves.
use Rattle.std.proofs.Common.{◌≡◌, ℕ, suc, ◌+◌, List, [], ◌∷◌, ◌++◌, Option, Result, Ok, Err, sym, ap, subst, ◌∙◌, append-nil}
use Rattle.std.specs.Io.KnownBytes.{Appends}
use Rattle.std.proofs.KnownBytes.{Appends-nil, Appends-trans}
use Rattle.cal_base.specs.declared.ends.RunEnd.{RunEnd}
use Rattle.cal_base.specs.declared.ends.RunEnd.TheVariants.{StepFailed}
use Rattle.cal_base.specs.declared.ends.StepFault.{StepFault}
use Rattle.cal_base.specs.Contents.{AppendsPrefix, Told}
use Rattle.cal_base.specs.Memory.{Memory}
use Rattle.cal_base.specs.History.{History}
use Rattle.cal_base.specs.Claims.{StepJob, merged, meant}
use Rattle.cal_base.specs.Main.{Main, Ends, Shows, Opens, Event, Line, meaning_of, steps_of, step_event, going_on, IsNumbered}
use Rattle.cal_base.specs.Pages.{Paged}
use Rattle.cal_base.specs.Text.{text_of, event_text}
use Rattle.bytecode.specs.declared.module.Module.{Module}
use Rattle.machine_meaning.specs.Meaning.{main_of}
use Rattle.routine_vm.specs.Held.{main_state}
use Rattle.step_laws.proofs.StepLaws.{merged_is_meant}
use Rattle.step_laws.specs.Closed.{ClosedStep, IsWhole, jobs_in}
use Rattle.step_core.specs.Calls.{IsEnd}
use Rattle.engine_laws.specs.Ran.{RunsTo, Here, Shown, Closed, Ended, Failed}
use Rattle.engine_laws.proofs.Running.{parts_are_meant}
use Rattle.run_report.specs.Logs.{log_text, step_log}
use Rattle.calypso_engine.specs.Asked.{log_of, Outside, outside_of}
use Rattle.calypso_engine.specs.Kept.{lines_behind, lines_of_end}
use Rattle.calypso_engine.specs.Logs.{Logs, LogsFront}
use Rattle.calypso_engine.specs.Running.{rest_of, Tells, Counted, WentOn, CameTo, StoppedBetween, GaveUp}
use Rattle.calypso_engine.specs.Traces.{traced, trace_of, IsTraceOf}
use Rattle.calypso_engine.specs.declared.team.Team.{Team}
use Rattle.calypso_engine.specs.declared.event.Standing.{Standing}
use Rattle.calypso_engine.specs.declared.error.RunError.{RunError}
use Rattle.calypso_engine.specs.declared.error.RunError.TheVariants.{NoMemory}
use Rattle.calypso_engine.specs.declared.options.RunOptions.{RunOptions}
use Rattle.calypso_engine.proofs.Counts.{counted_none, counted_then}
use Rattle.calypso_engine.proofs.Logging.{LogHolds, logs_none, logs_then, logs_then_front, logs_front_more, logs_front_none}
use Rattle.calypso_engine.proofs.Runs.{runs_then, through_then}
use Rattle.calypso_engine.proofs.Texts.{text_then, prefix_none, prefix_more, prefix_then}
use Rattle.calypso_engine.proofs.Traces.{log_then, log_traced, traces_then, closed_traced, step_traced, trace_behind, a_trace}

module _ (o : RunOptions) where
  -- ---- what was told

  pub told_none : (was : Outside) → LogHolds (log_of o) was.files → Tells o [] [] was was
  told_none was holds = record { written = Appends-nil was.out; logged = logs_none (log_of o) was.files holds }

  pub told_then : (shown more : List Event) (closed steps : List ClosedStep) (was mid now : Outside) → Tells o shown closed was mid → Tells o more steps mid now
      → Tells o (shown ++ more) (closed ++ steps) was now
  told_then shown more closed steps was mid now first second = record {
    written = subst (Appends was.out now.out) (sym (text_then o.steps shown more)) (Appends-trans was.out mid.out now.out (text_of o.steps shown) (text_of o.steps more) first.written second.written);
    logged =
        subst (λ (text : List ℕ). Told was.files now.files (Logs (log_of o) text)) (sym (log_traced closed steps))
        (logs_then (log_of o) was.files mid.files now.files (log_text (trace_of closed)) (log_text (trace_of steps)) first.logged second.logged);
  }

  -- ---- parts of a run

  pub went_nowhere : (m : Module) (s : Standing) (tally : Team) (was : Outside) → LogHolds (log_of o) was.files → WentOn m o (rest_of m o.fuel s) s tally tally was was
  went_nowhere m s tally was holds = record { shown = []; closed = []; runs = Here; told = told_none was holds; counted = counted_none tally }

  module _ (m : Module) (main : Main) (b : Standing) (t u : Team) (was mid : Outside) (first : WentOn m o main b t u was mid) where
    pub went_then : (c : Standing) (v : Team) (now : Outside) → WentOn m o (rest_of m o.fuel b) c u v mid now → WentOn m o main c t v was now
    went_then c v now second = record {
      shown = first.shown ++ second.shown;
      closed = first.closed ++ second.closed;
      runs = runs_then main (rest_of m o.fuel b) first.shown first.closed first.runs (rest_of m o.fuel c) second.shown second.closed second.runs;
      told = told_then first.shown second.shown first.closed second.closed was mid now first.told second.told;
      counted = counted_then first.closed second.closed t u v first.counted second.counted;
    }

    pub came_then : (ending : RunEnd) (v : Team) (now : Outside) → CameTo o (rest_of m o.fuel b) ending u v mid now → CameTo o main ending t v was now
    came_then ending v now second = record {
      shown = first.shown ++ second.shown;
      closed = first.closed ++ second.closed;
      runs = through_then main (rest_of m o.fuel b) first.shown first.closed first.runs second.shown second.closed ending second.runs;
      told = told_then first.shown second.shown first.closed second.closed was mid now first.told second.told;
      counted = counted_then first.closed second.closed t u v first.counted second.counted;
    }

    pub gave_then : (error : RunError) (now : Outside) → GaveUp o (rest_of m o.fuel b) error mid now → GaveUp o main error was now
    gave_then error now rest =
        let part = parts_are_meant main (rest_of m o.fuel b) first.shown first.closed first.runs in
        let between : error ≡ NoMemory → StoppedBetween o main was now =
        λ none.
        let stopped = rest.between none in
        record {
          rest = stopped.rest;
          shown = first.shown ++ stopped.shown;
          closed = first.closed ++ stopped.closed;
          runs = runs_then main (rest_of m o.fuel b) first.shown first.closed first.runs stopped.rest stopped.shown stopped.closed stopped.runs;
          told = told_then first.shown stopped.shown first.closed stopped.closed was mid now first.told stopped.told;
        }
        in
        record {
          front =
              subst (AppendsPrefix was.out now.out)
              (sym (text_then o.steps first.shown (meaning_of (rest_of m o.fuel b)).events) ∙ ap (text_of o.steps) part.events)
              (prefix_then was.out mid.out now.out (text_of o.steps first.shown) (text_of o.steps (meaning_of (rest_of m o.fuel b)).events) first.told.written rest.front);
          logged = record {
            trace = trace_of first.closed ++ rest.logged.trace;
            traced =
                subst (λ (jobs : List StepJob). IsTraceOf jobs (trace_of first.closed ++ rest.logged.trace)) part.steps
                (traces_then (jobs_in first.closed) (steps_of (rest_of m o.fuel b)) (trace_of first.closed) rest.logged.trace (closed_traced first.closed part.whole) rest.logged.traced);
            front =
                subst (λ (text : List ℕ). Told was.files now.files (LogsFront (log_of o) text)) (sym (log_then (trace_of first.closed) rest.logged.trace))
                (logs_then_front (log_of o) was.files mid.files now.files (log_text (trace_of first.closed)) (log_text rest.logged.trace) first.told.logged rest.logged.front);
          };
          between = between;
        }

  -- ---- nothing was told of an event

  pub stopped_here : (main : Main) (was : Outside) → LogHolds (log_of o) was.files → StoppedBetween o main was was
  stopped_here main was holds = record { rest = main; shown = []; closed = []; runs = Here; told = told_none was holds }

  pub gave_nothing : (main : Main) (steps : ℕ) → IsNumbered steps main → (error : RunError) (was : Outside) → LogHolds (log_of o) was.files → GaveUp o main error was was
  gave_nothing main steps numbered error was holds =
      let trace = a_trace main steps numbered in
      record {
        front = prefix_none was.out (text_of o.steps (meaning_of main).events);
        logged = record { trace = trace.0; traced = trace.1; front = logs_front_none (log_of o) was.files (log_text trace.0) holds };
        between = λ none. stopped_here main was holds;
      }

  -- ---- a line

  pub line_went : (m : Module) (main : Main) (after : Standing) (tally : Team) (line : List ℕ) (was : Outside) (out : Option (List ℕ)) → main ≡ Shows line (rest_of m o.fuel after)
      → LogHolds (log_of o) was.files
      → Appends was.out out line → WentOn m o main after tally tally was (outside_of out was.files)
  line_went m main after tally line was out is holds written = record {
    shown = Line line ∷ [];
    closed = [];
    runs = Shown line (rest_of m o.fuel after) [] [] (subst (λ (r : Main). RunsTo main r [] []) is Here);
    told = record { written = subst (Appends was.out out) (sym (append-nil line)) written; logged = logs_none (log_of o) was.files holds };
    counted = counted_none tally;
  }

  pub line_gave : (main rest : Main) (steps : ℕ) → IsNumbered steps main → (line : List ℕ) (error : RunError) (was : Outside) (out : Option (List ℕ)) → main ≡ Shows line rest
      → LogHolds (log_of o) was.files
      → AppendsPrefix was.out out line → (error ≡ NoMemory → Appends was.out out []) → GaveUp o main error was (outside_of out was.files)
  line_gave main rest steps numbered line error was out is holds front none =
      let trace = a_trace main steps numbered in
      record {
        front =
            subst (λ (r : Main). AppendsPrefix was.out out (text_of o.steps (meaning_of r).events)) (sym is) (prefix_more was.out out line (text_of o.steps (meaning_of rest).events) front);
        logged = record { trace = trace.0; traced = trace.1; front = logs_front_none (log_of o) was.files (log_text trace.0) holds };
        between = λ wanted. record { rest = main; shown = []; closed = []; runs = Here; told = record { written = none wanted; logged = logs_none (log_of o) was.files holds } };
      }

  -- ---- the end

  pub end_came : (main : Main) (ending : RunEnd) (tally : Team) (was : Outside) → main ≡ Ends ending → LogHolds (log_of o) was.files → CameTo o main ending tally tally was was
  end_came main ending tally was is holds = record {
    shown = [];
    closed = [];
    runs = Ended ending [] [] (subst (λ (r : Main). RunsTo main r [] []) is Here);
    told = told_none was holds;
    counted = counted_none tally;
  }

  -- ---- a step that was closed

  module _ (job : StepJob) (next : Memory → Main) (history : History) (whole : IsWhole (record { job = job; history = history })) (was now : Outside) where
    abbrev this : ClosedStep
    this = record { job = job; history = history }

    left_so : (r : Result Memory StepFault) → meant job ≡ r → merged job history ≡ r
    left_so r left = merged_is_meant job history whole.legal whole.complete ∙ left

    told_of : (shown : List Event) → Appends was.out now.out (text_of o.steps shown) → Told was.files now.files (Logs (log_of o) (step_log (traced this))) → Tells o shown (this ∷ []) was now
    told_of shown written logged =
        record { written = written; logged = subst (λ (text : List ℕ). Told was.files now.files (Logs (log_of o) text)) (sym (append-nil (step_log (traced this)))) logged }

    -- it leaves a memory
    pub closed_went : (m : Module) (after : Standing) (later : Memory) (old new : Team) → next later ≡ rest_of m o.fuel after → meant job ≡ Ok later
        → Appends was.out now.out (event_text o.steps (step_event job later)) → Told was.files now.files (Logs (log_of o) (step_log (traced this))) → Counted (this ∷ []) old new
        → WentOn m o (Opens job next) after old new was now
    closed_went m after later old new behind left written logged counted = record {
      shown = step_event job later ∷ [];
      closed = this ∷ [];
      runs = subst (λ (r : Main). RunsTo (Opens job next) r (step_event job later ∷ []) (this ∷ [])) behind (Closed job next [] [] history later Here whole (left_so (Ok later) left));
      told = told_of (step_event job later ∷ []) (subst (Appends was.out now.out) (sym (append-nil (event_text o.steps (step_event job later)))) written) logged;
      counted = counted;
    }

    -- it ends in a fault
    pub closed_came : (fault : StepFault) (old new : Team) → meant job ≡ Err fault
        → Appends was.out now.out [] → Told was.files now.files (Logs (log_of o) (step_log (traced this))) → Counted (this ∷ []) old new
        → CameTo o (Opens job next) (StepFailed job.number fault) old new was now
    closed_came fault old new left written logged counted = record {
      shown = [];
      closed = this ∷ [];
      runs = Failed job next [] [] history fault Here whole (left_so (Err fault) left);
      told = told_of [] written logged;
      counted = counted;
    }

    -- it could not be told whole
    front_of : (ended : Result (Unit {0}) StepFault) (later : Memory) (kept : Option Paged) → IsEnd (meant job) later ended
        → lines_behind kept job.number later ≡ event_text o.steps (step_event job later)
        → AppendsPrefix was.out now.out (lines_of_end ended kept job.number later) → AppendsPrefix was.out now.out (text_of o.steps (meaning_of (Opens job next)).events)
    front_of (Ok done) later kept left lines front =
        subst (λ (r : Result Memory StepFault). AppendsPrefix was.out now.out (text_of o.steps (going_on job r (λ later. meaning_of (next later))).events)) (sym left)
        (prefix_more was.out now.out (event_text o.steps (step_event job later)) (text_of o.steps (meaning_of (next later)).events) (subst (AppendsPrefix was.out now.out) lines front))
    front_of (Err fault) later kept left lines front =
        subst (λ (r : Result Memory StepFault). AppendsPrefix was.out now.out (text_of o.steps (going_on job r (λ later. meaning_of (next later))).events)) (sym left) front

    pub closed_gave : (steps : ℕ) → IsNumbered steps (Opens job next) → (ended : Result (Unit {0}) StepFault) (later : Memory) (kept : Option Paged) → IsEnd (meant job) later ended
        → lines_behind kept job.number later ≡ event_text o.steps (step_event job later) → (error : RunError) → (error ≡ NoMemory → ⊥)
        → AppendsPrefix was.out now.out (lines_of_end ended kept job.number later) → Told was.files now.files (LogsFront (log_of o) (step_log (traced this))) → GaveUp o (Opens job next) error was now
    closed_gave steps numbered ended later kept left lines error some front logged =
        let rest = trace_behind (meant job) (λ later. steps_of (next later)) (λ later. a_trace (next later) (suc steps) (numbered.2 later)) in
        record {
          front = front_of ended later kept left lines front;
          logged = record {
            trace = traced this ∷ rest.0;
            traced = (step_traced this whole, rest.1);
            front = logs_front_more (log_of o) was.files now.files (step_log (traced this)) (log_text rest.0) logged;
          };
          between = λ none. absurd (some none);
        }

-- what is left of main where the run stands behind a step
pub rest_behind : (m : Module) (fuel : ℕ) (before after : Standing) (later : Memory) → after.machine ≡ before.machine → after.steps ≡ before.steps + 1 → after.image.memory ≡ later
    → main_of m fuel (before.steps + 1) (main_state m before.machine later) ≡ rest_of m fuel after
rest_behind m fuel before after later machine steps memory = λ i. main_of m fuel (sym steps i) (main_state m (sym machine i) (sym memory i))
