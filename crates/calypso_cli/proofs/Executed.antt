-- What the engine's run leaves is how it ends the call.
use Rattle.std.proofs.Common.{◌≡◌, ◌≤◌, ◌++◌, ℕ, Bool, true, false, List, [], Option, Some, None, option_map, if◌then◌else◌, refl, sym, ap, ◌∙◌, subst, append-nil}
use Rattle.std.specs.Io.KnownBytes.{Appends}
use Rattle.std.proofs.KnownBytes.{Appends-nil}
use Rattle.cal_base.specs.declared.step.WorkerTally.{WorkerTally}
use Rattle.cal_base.specs.Causes.{Rose}
use Rattle.cal_base.specs.Claims.{StepJob}
use Rattle.cal_base.specs.Contents.{Contents, Told, SameFiles, AppendsPrefix}
use Rattle.cal_base.specs.Main.{Meaning}
use Rattle.cal_base.specs.Text.{text_of}
use Rattle.fault_script.specs.Rows.{Row}
use Rattle.run_report.specs.Logs.{Trace, log_text}
use Rattle.run_report.specs.Reports.{report_text}
use Rattle.run_report.proofs.Fronts.{stopped}
use Rattle.calypso_engine.specs.declared.error.RunError.{RunError}
use Rattle.calypso_engine.specs.declared.error.RunError.TheVariants.{OutFailed, FileFailed, NoMemory}
use Rattle.calypso_engine.specs.declared.options.RunOptions.{RunOptions}
use Rattle.calypso_engine.specs.Asked.{log_of}
use Rattle.calypso_engine.specs.Traces.{IsTraceOf, Tallies, in_order, AreTalliesOf, FollowScript, Agree}
use Rattle.calypso_engine.specs.Logs.{Logs, LogsFront}
use Rattle.calypso_engine.specs.Whole.{TellsRun}
use Rattle.command_words.specs.Commands.{Flags, Command}
use Rattle.calypso_cli.specs.Endings.{Ending, cannot_write, no_memory, output_failed}
use Rattle.calypso_cli.specs.Outcomes.{Work}
use Rattle.calypso_cli.specs.Commands.{ended, run_of, ReportsTallies, ReportsOf, ReportsRun}
use Rattle.calypso_cli.specs.Steps as step
use Rattle.calypso_cli.specs.Steps.{KeepsLogFront, EmptiesLog, NotCreated, GivesUp, EndsRun}
use Rattle.calypso_cli.specs.Promise.{Objects, objects_of, Works}
use Rattle.calypso_cli.specs.Seen.{ending_seen, report_seen}
use Rattle.calypso_cli.specs.declared.ending.Ended.{Ended}
use Rattle.calypso_cli.specs.declared.ending.Ending as code
use Rattle.calypso_cli.proofs.Promises.{same_files}
use Rattle.calypso_cli.proofs.Written.{rose_behind}
use Rattle.calypso_cli.proofs.Logged.{log_written, log_left, log_not_created, log_as_before}

-- an ending with no report
pub ended_as : (IsTrace : Trace → Type 0) (work : Work) (flags : Flags) (rows : List Row) (before after : Objects) (e : Ended) (ending : code.Ending) → e.ending ≡ ending → report_seen e.report ≡ []
    → EndsRun IsTrace work flags rows before after (ending_seen ending) [] → EndsRun IsTrace work flags rows before after (ending_seen e.ending) (report_seen e.report)
ended_as IsTrace work flags rows before after e ending same none h =
    subst (EndsRun IsTrace work flags rows before after (ending_seen e.ending)) (sym none) (subst (λ x. EndsRun IsTrace work flags rows before after (ending_seen x) []) (sym same) h)

pub works_as : (command : Command) (before after : Objects) (e : Ended) (ending : code.Ending) → e.ending ≡ ending → report_seen e.report ≡ [] → Works command before after (ending_seen ending) []
    → Works command before after (ending_seen e.ending) (report_seen e.report)
works_as command before after e ending same none h =
    subst (Works command before after (ending_seen e.ending)) (sym none) (subst (λ x. Works command before after (ending_seen x) []) (sym same) h)

-- a text and a front of what comes behind it
pub front_behind_text : (a b c : Option (List ℕ)) (text more : List ℕ) → Appends a b text → AppendsPrefix b c more → AppendsPrefix a c (text ++ more)
front_behind_text a b c text more wrote h =
    stopped a b c (text ++ more) more [] (record { front = text; whole = ap (λ t. text ++ t) (sym (append-nil more)); wrote = wrote }) h

-- nothing was written to out
no_text : (a : Option (List ℕ)) (text : List ℕ) → AppendsPrefix a a text
no_text a text = ([], refl, Appends-nil a)

-- the report, where one is asked for
reports_if : (asked : Bool) (report : List ℕ) (workers : ℕ) (rows : List Row) (trace : Trace) (all : List WorkerTally) (tallies : Tallies) → all ≡ in_order tallies → AreTalliesOf workers tallies
    → FollowScript rows tallies → Agree trace tallies → report ≡ (if asked then report_text all else []) → ReportsOf asked report (ReportsTallies workers rows trace report)
reports_if false report workers rows trace all tallies order numbered follow agree e = e
reports_if true report workers rows trace all tallies order numbered follow agree e =
    record { tallies = tallies; numbered = numbered; follow = follow; agree = agree; text = e ∙ ap report_text order }

module _ (IsTrace : Trace → Type 0) (means : Meaning) (flags : Flags) (rows : List Row) (a b c : Option Contents) (u v : Option (List ℕ)) (f g h p q : ℕ) where
  -- main came to its end
  pub ran_traced : (trace : Trace) (ending : Ending) (report : List ℕ) → IsTrace trace → ending ≡ ended means.ending → Told a b (EmptiesLog flags.log) → Appends u v (text_of flags.steps means.events)
      → Told b c (Logs flags.log (log_text trace)) → ReportsRun flags rows trace report → EndsRun IsTrace (run_of flags.steps means) flags rows (objects_of a u f p) (objects_of c v h q) ending report
  ran_traced trace ending report traced ends made wrote logged reported =
      subst (λ e. EndsRun IsTrace (run_of flags.steps means) flags rows (objects_of a u f p) (objects_of c v h q) e report) (sym ends)
      (step.ran trace report traced wrote (log_written (log_text trace) flags.log a b c made logged) reported)

  -- the run gave up at its log
  at_log : (o : Option (List ℕ)) → flags.log ≡ o → (ending : Ending) → GivesUp FileFailed o ending → Rose f h → AppendsPrefix u v (text_of flags.steps means.events)
      → Told a c (KeepsLogFront IsTrace flags.log)
      → EndsRun IsTrace (run_of flags.steps means) flags rows (objects_of a u f p) (objects_of c v h q) ending []
  at_log None named ending e rose front left = absurd e
  at_log (Some log) named ending e rose front left =
      subst (λ x. EndsRun IsTrace (run_of flags.steps means) flags rows (objects_of a u f p) (objects_of c v h q) x []) (sym e) (step.log_failed log named rose front left)

  -- the run gave up
  pub ran_not : (error : RunError) (ending : Ending) → GivesUp error flags.log ending → (error ≡ OutFailed → Rose p q) → (error ≡ FileFailed → Rose g h) → f ≤ g → Told a b (EmptiesLog flags.log)
      → AppendsPrefix u v (text_of flags.steps means.events) → (trace : Trace) → IsTrace trace → Told b c (LogsFront flags.log (log_text trace))
      → EndsRun IsTrace (run_of flags.steps means) flags rows (objects_of a u f p) (objects_of c v h q) ending []
  ran_not OutFailed ending e out files later made front trace traced left =
      subst (λ x. EndsRun IsTrace (run_of flags.steps means) flags rows (objects_of a u f p) (objects_of c v h q) x []) (sym e)
      (step.out_failed (out refl) front (log_left IsTrace flags.log a b c made trace traced left))
  ran_not FileFailed ending e out files later made front trace traced left =
      at_log flags.log refl ending e (rose_behind f g h later (files refl)) front (log_left IsTrace flags.log a b c made trace traced left)
  ran_not NoMemory ending e out files later made front trace traced left =
      subst (λ x. EndsRun IsTrace (run_of flags.steps means) flags rows (objects_of a u f p) (objects_of c v h q) x []) (sym e)
      (step.no_room front (log_left IsTrace flags.log a b c made trace traced left))

  -- the log was not created
  log_not_made : (o : Option (List ℕ)) → flags.log ≡ o → (ending : Ending) → NotCreated o a b f g ending
      → EndsRun IsTrace (run_of flags.steps means) flags rows (objects_of a u f p) (objects_of b u g p) ending []
  log_not_made None named ending e = absurd e
  log_not_made (Some log) named ending e =
      subst (λ x. EndsRun IsTrace (run_of flags.steps means) flags rows (objects_of a u f p) (objects_of b u g p) x []) (sym e.0)
      (step.log_failed log named e.1 (no_text u (text_of flags.steps means.events)) (subst (λ l. Told a b (KeepsLogFront IsTrace l)) (sym named) (log_not_created IsTrace log a b e.2)))

  pub not_begun : (ending : Ending) → NotCreated flags.log a b f g ending → EndsRun IsTrace (run_of flags.steps means) flags rows (objects_of a u f p) (objects_of b u g p) ending []
  not_begun ending e = log_not_made flags.log refl ending e

-- main came to its end, with what the engine tells of the run
pub ran_whole : (jobs : List StepJob) (means : Meaning) (flags : Flags) (rows : List Row) (a b c : Option Contents) (u v : Option (List ℕ)) (f g h p q : ℕ)
    (options : RunOptions) (all : List WorkerTally) (ending : Ending) (report : List ℕ) → log_of options ≡ flags.log → options.workers ≡ flags.workers → options.script.now ≡ rows
    → ending ≡ ended means.ending → report ≡ (if flags.report then report_text all else []) → Told a b (EmptiesLog flags.log) → Appends u v (text_of flags.steps means.events)
    → TellsRun jobs options all b c → EndsRun (IsTraceOf jobs) (run_of flags.steps means) flags rows (objects_of a u f p) (objects_of c v h q) ending report
ran_whole jobs means flags rows a b c u v f g h p q options all ending report log workers script ends reported made wrote told =
    ran_traced (IsTraceOf jobs) means flags rows a b c u v f g h p q told.trace ending report told.traced ends made wrote
    (subst (λ l. Told b c (Logs l (log_text told.trace))) log told.logged)
    (reports_if flags.report report flags.workers rows told.trace all told.tallies told.order (subst (λ n. AreTalliesOf n told.tallies) workers told.workers)
    (subst (λ r. FollowScript r told.tallies) script told.follow) told.agree reported)

-- memory was wanted before the log was created
pub not_compiled : (IsTrace : Trace → Type 0) (work : Work) (flags : Flags) (rows : List Row) (objects : Objects) → EndsRun IsTrace work flags rows objects objects no_memory []
not_compiled IsTrace work flags rows objects = step.no_room (no_text objects.out work.text) (log_as_before IsTrace flags.log objects.files objects.files (same_files objects.files))

-- the run of code that means the same
pub means_so : (jobs also : List StepJob) (steps : Bool) (means so : Meaning) (flags : Flags) (rows : List Row) (before after : Objects) (ending : Ending) (report : List ℕ) → jobs ≡ also → means ≡ so
    → EndsRun (IsTraceOf jobs) (run_of steps means) flags rows before after ending report → EndsRun (IsTraceOf also) (run_of steps so) flags rows before after ending report
means_so jobs also steps means so flags rows before after ending report e f h =
    subst (λ j. EndsRun (IsTraceOf j) (run_of steps so) flags rows before after ending report) e (subst (λ m. EndsRun (IsTraceOf jobs) (run_of steps m) flags rows before after ending report) f h)
