-- What was told of a run over events, part by part.
use Rattle.std.proofs.Common.{◌≡◌, ℕ, List, [], ◌∷◌, ◌++◌, Option, Result, Ok, Err, refl, sym, ap, subst, ◌∙◌, append_assoc, append-nil, IfOk, OnErr}
use Rattle.std.specs.Io.KnownBytes.{Appends}
use Rattle.cal_base.specs.declared.ends.RunEnd.{RunEnd}
use Rattle.cal_base.specs.declared.ends.RunEnd.TheVariants.{StepFailed}
use Rattle.cal_base.specs.declared.ends.StepFault.{StepFault}
use Rattle.cal_base.specs.Contents.{AppendsPrefix, Told}
use Rattle.cal_base.specs.Memory.{Memory}
use Rattle.cal_base.specs.History.{History}
use Rattle.cal_base.specs.Claims.{StepJob, merged, meant}
use Rattle.cal_base.specs.Main.{Main, Event as Shown, Line, step_event, meaning_of, IsNumbered}
use Rattle.cal_base.specs.Pages.{Paged}
use Rattle.cal_base.specs.Text.{text_of, event_text}
use Rattle.event_world.specs.declared.event.Event.{Event}
use Rattle.event_world.specs.Law.{IsOfWorker, Each}
use Rattle.event_world.specs.World.{Over, Run, closing, world}
use Rattle.event_world.proofs.Meant.{world_is_meant}
use Rattle.run_report.specs.Logs.{log_text, step_log}
use Rattle.step_core.specs.Calls.{IsEnd}
use Rattle.step_laws.proofs.StepLaws.{merged_is_meant}
use Rattle.step_laws.specs.Closed.{ClosedStep, IsWhole}
use Rattle.calypso_engine.specs.Asked.{log_of, Outside, outside_of}
use Rattle.calypso_engine.specs.Kept.{lines_behind, lines_of_end}
use Rattle.calypso_engine.specs.Logs.{Logs, LogsFront}
use Rattle.event_engine.specs.Resuming.{behind}
use Rattle.calypso_engine.specs.Running.{Tells}
use Rattle.calypso_engine.specs.Traces.{traced, trace_of}
use Rattle.event_engine.specs.Simulating.{ToldPart, ToldAll, ToldFront, ComesSo}
use Rattle.calypso_engine.specs.declared.error.RunError.{RunError}
use Rattle.calypso_engine.specs.declared.options.RunOptions.{RunOptions}
use Rattle.calypso_engine.proofs.Events.{told_none, told_then}
use Rattle.calypso_engine.proofs.Logging.{LogHolds, logs_none, logs_then_front, logs_front_more, logs_front_none}
use Rattle.calypso_engine.proofs.Texts.{text_then, prefix_none, prefix_more, prefix_then}
use Rattle.calypso_engine.proofs.Traces.{log_traced}

behind_then : (shown more : List Shown) (closed steps : List ClosedStep) (run : Run) → behind shown closed (behind more steps run) ≡ behind (shown ++ more) (closed ++ steps) run
behind_then shown more closed steps run =
    λ i. record { shown = sym (append_assoc shown more run.shown) i; closed = sym (append_assoc closed steps run.closed) i; phase = run.phase }

module _ (o : RunOptions) where
  -- ---- parts

  pub part_none : (run : Run) (was : Outside) → LogHolds (log_of o) was.files → ToldPart o run run was was
  part_none run was holds = record { shown = []; closed = []; is = refl; told = told_none o was holds }

  module _ (run mid : Run) (was middle : Outside) (first : ToldPart o run mid was middle) where
    pub part_then : (rest : Run) (now : Outside) → ToldPart o mid rest middle now → ToldPart o run rest was now
    part_then rest now second = record {
      shown = first.shown ++ second.shown;
      closed = first.closed ++ second.closed;
      is = first.is ∙ ap (behind first.shown first.closed) second.is ∙ behind_then first.shown second.shown first.closed second.closed rest;
      told = told_then o first.shown second.shown first.closed second.closed was middle now first.told second.told;
    }

    pub all_then : (ending : RunEnd) (now : Outside) → ToldAll o mid ending middle now → ToldAll o run ending was now
    all_then ending now rest = record {
      phase = ap (λ (r : Run). r.phase) first.is ∙ rest.phase;
      told =
          subst (λ (r : Run). Tells o r.shown r.closed was now) (sym first.is)
          (told_then o first.shown mid.shown first.closed mid.closed was middle now first.told rest.told);
    }

    pub front_then : (now : Outside) → ToldFront o mid middle now → ToldFront o run was now
    front_then now rest =
        subst (λ (r : Run). ToldFront o r was now) (sym first.is)
        (record {
          front =
              subst (AppendsPrefix was.out now.out) (sym (text_then o.steps first.shown mid.shown))
              (prefix_then was.out middle.out now.out (text_of o.steps first.shown) (text_of o.steps mid.shown) first.told.written rest.front);
          logged =
              subst (λ (text : List ℕ). Told was.files now.files (LogsFront (log_of o) text)) (sym (log_traced first.closed mid.closed))
              (logs_then_front (log_of o) was.files middle.files now.files (log_text (trace_of first.closed)) (log_text (trace_of mid.closed)) first.told.logged rest.logged);
        })

  -- ---- nothing was told

  pub front_none : (run : Run) (was : Outside) → LogHolds (log_of o) was.files → ToldFront o run was was
  front_none run was holds = record { front = prefix_none was.out (text_of o.steps run.shown); logged = logs_front_none (log_of o) was.files (log_text (trace_of run.closed)) holds }

  -- ---- a line

  pub line_told : (run rest : Run) (line : List ℕ) (was : Outside) (out : Option (List ℕ)) → run ≡ behind (Line line ∷ []) [] rest → LogHolds (log_of o) was.files
      → Appends was.out out line → ToldPart o run rest was (outside_of out was.files)
  line_told run rest line was out is holds written = record {
    shown = Line line ∷ [];
    closed = [];
    is = is;
    told = record { written = subst (Appends was.out out) (sym (append-nil line)) written; logged = logs_none (log_of o) was.files holds };
  }

  pub line_front : (run rest : Run) (line : List ℕ) (was : Outside) (out : Option (List ℕ)) → run ≡ behind (Line line ∷ []) [] rest → LogHolds (log_of o) was.files
      → AppendsPrefix was.out out line → ToldFront o run was (outside_of out was.files)
  line_front run rest line was out is holds front =
      subst (λ (r : Run). ToldFront o r was (outside_of out was.files)) (sym is)
      (record { front = prefix_more was.out out line (text_of o.steps rest.shown) front; logged = logs_front_none (log_of o) was.files (log_text (trace_of rest.closed)) holds })

  -- ---- the end

  pub end_told : (run : Run) (ending : RunEnd) (was : Outside) → run ≡ record { shown = []; closed = []; phase = Over ending } → LogHolds (log_of o) was.files → ToldAll o run ending was was
  end_told run ending was is holds = record { phase = ap (λ (r : Run). r.phase) is; told = subst (λ (r : Run). Tells o r.shown r.closed was was) (sym is) (told_none o was holds) }

  -- ---- a step that was closed

  module _ (job : StepJob) (history : History) (whole : IsWhole (record { job = job; history = history })) (run : Run) (rest : Memory → Run) (is : run ≡ closing job history (merged job history) rest)
      (was now : Outside) where
    abbrev this : ClosedStep
    this = record { job = job; history = history }

    run_is : (r : Result Memory StepFault) → meant job ≡ r → run ≡ closing job history r rest
    run_is r left = is ∙ ap (λ (m : Result Memory StepFault). closing job history m rest) (merged_is_meant job history whole.legal whole.complete ∙ left)

    told_of : (shown : List Shown) → Appends was.out now.out (text_of o.steps shown) → Told was.files now.files (Logs (log_of o) (step_log (traced this))) → Tells o shown (this ∷ []) was now
    told_of shown written logged =
        record { written = written; logged = subst (λ (text : List ℕ). Told was.files now.files (Logs (log_of o) text)) (sym (append-nil (step_log (traced this)))) logged }

    -- it leaves a memory
    pub step_part : (later : Memory) → meant job ≡ Ok later → Appends was.out now.out (event_text o.steps (step_event job later)) → Told was.files now.files (Logs (log_of o) (step_log (traced this)))
        → ToldPart o run (rest later) was now
    step_part later left written logged = record {
      shown = step_event job later ∷ [];
      closed = this ∷ [];
      is = run_is (Ok later) left;
      told = told_of (step_event job later ∷ []) (subst (Appends was.out now.out) (sym (append-nil (event_text o.steps (step_event job later)))) written) logged;
    }

    -- it ends in a fault
    pub step_all : (fault : StepFault) → meant job ≡ Err fault → Appends was.out now.out [] → Told was.files now.files (Logs (log_of o) (step_log (traced this)))
        → ToldAll o run (StepFailed job.number fault) was now
    step_all fault left written logged = record {
      phase = ap (λ (r : Run). r.phase) (run_is (Err fault) left);
      told = subst (λ (r : Run). Tells o r.shown r.closed was now) (sym (run_is (Err fault) left)) (told_of [] written logged);
    }

    -- it could not be told whole
    pub step_front : (ended : Result (Unit {0}) StepFault) (later : Memory) (kept : Option Paged) → IsEnd (meant job) later ended
        → lines_behind kept job.number later ≡ event_text o.steps (step_event job later)
        → AppendsPrefix was.out now.out (lines_of_end ended kept job.number later) → Told was.files now.files (LogsFront (log_of o) (step_log (traced this))) → ToldFront o run was now
    step_front (Ok done) later kept left lines front logged =
        subst (λ (r : Run). ToldFront o r was now) (sym (run_is (Ok later) left))
        (record {
          front = prefix_more was.out now.out (event_text o.steps (step_event job later)) (text_of o.steps (rest later).shown) (subst (AppendsPrefix was.out now.out) lines front);
          logged = logs_front_more (log_of o) was.files now.files (step_log (traced this)) (log_text (trace_of (rest later).closed)) logged;
        })
    step_front (Err fault) later kept left lines front logged =
        subst (λ (r : Run). ToldFront o r was now) (sym (run_is (Err fault) left))
        (record { front = front; logged = logs_front_more (log_of o) was.files now.files (step_log (traced this)) (log_text []) logged })

-- ---- the whole run

over_one : (a b : RunEnd) → Over a ≡ Over b → a ≡ b
over_one a b e = cc

module _ (o : RunOptions) (main : Main) (numbered : IsNumbered 0 main) (events : List Event) (workers : Each IsOfWorker events) (was now : Outside) where
  pub all_ending : (ending : RunEnd) → ToldAll o (world main events) ending was now → ending ≡ (meaning_of main).ending
  all_ending ending all = over_one ending (meaning_of main).ending (sym all.phase ∙ (world_is_meant main events numbered workers).ending)

  pub all_text : (ending : RunEnd) → ToldAll o (world main events) ending was now → Appends was.out now.out (text_of o.steps (meaning_of main).events)
  all_text ending all = subst (λ (shown : List Shown). Appends was.out now.out (text_of o.steps shown)) (world_is_meant main events numbered workers).shown all.told.written

  pub front_text : ToldFront o (world main events) was now → AppendsPrefix was.out now.out (text_of o.steps (meaning_of main).events)
  front_text front = subst (λ (shown : List Shown). AppendsPrefix was.out now.out (text_of o.steps shown)) (world_is_meant main events numbered workers).shown front.front

  -- by the result
  pub ok_ending : (r : Result RunEnd RunError) → ComesSo o (world main events) was now r → IfOk r (λ ended. ended ≡ (meaning_of main).ending)
  ok_ending (Ok ending) all = all_ending ending all
  ok_ending (Err error) front = tt

  pub ok_text : (r : Result RunEnd RunError) → ComesSo o (world main events) was now r → IfOk r (λ _. Appends was.out now.out (text_of o.steps (meaning_of main).events))
  ok_text (Ok ending) all = all_text ending all
  ok_text (Err error) front = tt

  pub ok_log : (r : Result RunEnd RunError) → ComesSo o (world main events) was now r → IfOk r (λ _. Told was.files now.files (Logs (log_of o) (log_text (trace_of (world main events).closed))))
  ok_log (Ok ending) all = all.told.logged
  ok_log (Err error) front = tt

  pub err_text : (r : Result RunEnd RunError) → ComesSo o (world main events) was now r → OnErr r (AppendsPrefix was.out now.out (text_of o.steps (meaning_of main).events))
  err_text (Ok ending) all = tt
  err_text (Err error) front = front_text front

  pub err_log : (r : Result RunEnd RunError) → ComesSo o (world main events) was now r → OnErr r (Told was.files now.files (LogsFront (log_of o) (log_text (trace_of (world main events).closed))))
  err_log (Ok ending) all = tt
  err_log (Err error) front = front.logged
