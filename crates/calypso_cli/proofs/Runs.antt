-- What a run comes to, behind the load of its program or module, its script and its log.
use Rattle.std.proofs.Common.{◌≡◌, ◌⊎◌, ◌≤◌, ℕ, suc, Bool, true, false, List, [], ◌∷◌, length, Option, Some, None, refl, sym, ap, ◌∙◌, subst, arith, inl, inr}
use Rattle.std.specs.List.{Contains}
use Rattle.cal_base.specs.Contents.{Contents}
use Rattle.cal_base.specs.Main.{steps_of}
use Rattle.csl_tree.specs.declared.program.Program.{Program}
use Rattle.csl_grammar.specs.Texts.{text_limit}
use Rattle.csl_meaning.specs.Meaning.{main, meaning}
use Rattle.csl_reader.specs.Readings as reading
use Rattle.csl_reader.specs.Readings.{IsRead}
use Rattle.bytecode.specs.declared.module.Module.{Module}
use Rattle.machine_meaning.specs.Meaning.{machine_main, machine_meaning}
use Rattle.fault_script.specs.Rows.{Row}
use Rattle.run_report.specs.Logs.{Trace, log_text}
use Rattle.calypso_engine.specs.Traces.{IsTraceOf}
use Rattle.command_words.specs.Commands.{Flags, Command, run, exec}
use Rattle.calypso_cli.specs.Endings.{Ending}
use Rattle.calypso_cli.specs.Outcomes.{Sight, Reach, loads, creates, Outcome, Work, finished, reaching, Loads, loaded, Creates, Does}
use Rattle.calypso_cli.specs.Commands.{IsWritten, WritesOut, CanEnd, IsRefusedText, IsModule, IsNoModule, module_limit, IsScript, IsNoScript, script_limit, WithScript, HoldsProgram, HoldsModule}
use Rattle.calypso_cli.specs.Commands.{HoldsScript, ComesTo, run_of, HasTrace, WritesLog, Writes, MayReportOf, MayReport, ReportsTallies, ReportsOf, ReportsRun, IsReport, Reports}
use Rattle.calypso_cli.specs.Steps.{Holds, HoldsRows, ReadsAs, IsRefusal, Spells, IsModuleRefusal}
use Rattle.calypso_cli.specs.Promise.{Worked}
use Rattle.calypso_cli.proofs.Only.{only_loaded}
use Rattle.calypso_cli.proofs.Readings.{scripts_once}
use Rattle.calypso_cli.proofs.Kept.{LoadsFirst, held, told_by}
use Rattle.calypso_cli.proofs.Promises.{loads_program, loads_module, run_can_end, run_worked}
use Rattle.calypso_cli.proofs.Ran.{text_in, RunsThere}

-- behind the creation of a log, where one is named
abbrev pub logged : Option (List ℕ) → Outcome → Outcome
logged None outcome = outcome
logged (Some log) outcome = reaching (creates log) outcome

-- behind the load of a script, where one is named
abbrev scripted : Option (List ℕ) → Outcome → Outcome
scripted None outcome = outcome
scripted (Some script) outcome = reaching (loads script) outcome

-- ---- logs

pub creates_logged : (log : Option (List ℕ)) (Next : Outcome → Type 0) (later : Outcome) → Next later → Creates log Next (logged log later)
creates_logged None Next later h = h
creates_logged (Some log) Next later h = (later, h, refl)

pub only_logged : (log : Option (List ℕ)) (work : Work) (outcome : Outcome) → Creates log (Does work) outcome → outcome ≡ logged log (finished work)
only_logged None work outcome h = h
only_logged (Some log) work outcome h = h.2 ∙ ap (reaching (creates log)) h.1

pub logged_ending : (log : Option (List ℕ)) (outcome : Outcome) → (logged log outcome).ending ≡ outcome.ending
logged_ending None outcome = refl
logged_ending (Some log) outcome = refl

pub logged_text : (log : Option (List ℕ)) (outcome : Outcome) → (logged log outcome).text ≡ outcome.text
logged_text None outcome = refl
logged_text (Some log) outcome = refl

pub later_in : (first other : Reach) (rest : List Reach) → Contains rest other → Contains (first ∷ rest) other
later_in first other rest (i, inside, is) = (suc i, omega (arith, inside), is)

pub logged_reached : (log : Option (List ℕ)) (outcome : Outcome) (name : List ℕ) → log ≡ Some name → Contains (logged log outcome).reached (creates name)
logged_reached None outcome name e = absurd (cc)
logged_reached (Some log) outcome name e = let same : log ≡ name = cc in (0, omega arith, ap creates same)

pub writes_log : (log : Option (List ℕ)) (IsTrace : Trace → Type 0) (trace : Trace) → IsTrace trace → WritesLog log IsTrace trace (text_in log (log_text trace))
writes_log None IsTrace trace h = refl
writes_log (Some log) IsTrace trace h = (h, refl)

-- ---- scripts

scripted_ending : (script : Option (List ℕ)) (outcome : Outcome) → (scripted script outcome).ending ≡ outcome.ending
scripted_ending None outcome = refl
scripted_ending (Some script) outcome = refl

scripted_text : (script : Option (List ℕ)) (outcome : Outcome) → (scripted script outcome).text ≡ outcome.text
scripted_text None outcome = refl
scripted_text (Some script) outcome = refl

scripted_reached : (script : Option (List ℕ)) (outcome : Outcome) (reach : Reach) → Contains outcome.reached reach → Contains (scripted script outcome).reached reach
scripted_reached None outcome reach h = h
scripted_reached (Some script) outcome reach h = later_in (loads script) reach outcome.reached h

module _ (told : Option Contents) (rows : List Row) (sight : Sight) (is : told ≡ Some sight.files) where
  comes_scripted : (script : Option (List ℕ)) (Next : Outcome → Type 0) (later : Outcome) → HoldsRows told script rows → Next later → WithScript sight script Next (scripted script later)
  comes_scripted None Next later holds next = next
  comes_scripted (Some script) Next later holds next =
      let h = held told sight.files script (λ bytes. (length bytes ≤ script_limit) × IsScript bytes rows) is holds in
      subst (λ o. Loads script script_limit IsScript IsNoScript (λ rows. Next) o (reaching (loads script) later)) (sym h.1) (loaded h.0 rows later h.2.0 h.2.1 next)

  only_scripted : (script : Option (List ℕ)) (Next : Outcome → Type 0) (outcome : Outcome) → HoldsRows told script rows → WithScript sight script Next outcome
      → (later : Outcome) × Next later × (outcome ≡ scripted script later)
  only_scripted None Next outcome holds goes = (outcome, goes, refl)
  only_scripted (Some script) Next outcome holds goes =
      let h = held told sight.files script (λ bytes. (length bytes ≤ script_limit) × IsScript bytes rows) is holds in
      only_loaded script script_limit IsScript IsNoScript (λ rows. Next) scripts_once goes h.0 rows h.1 h.2.0 h.2.1

  holds_script : (script : Option (List ℕ)) → HoldsRows told script rows → HoldsScript sight script rows
  holds_script None holds = holds
  holds_script (Some script) holds =
      let h = held told sight.files script (λ bytes. (length bytes ≤ script_limit) × IsScript bytes rows) is holds in
      (h.0, h.1, h.2.0, h.2.1)

-- ---- reports

reports_as : (asked : Bool) (report : List ℕ) {A B : Type 0} → (A → B) → ReportsOf asked report A → ReportsOf asked report B
reports_as false report f h = h
reports_as true report f h = f h

may_report_of : (asked : Bool) (workers : ℕ) (rows : List Row) (trace : Trace) (report : List ℕ) → ReportsOf asked report (ReportsTallies workers rows trace report) → MayReportOf asked workers report
may_report_of false workers rows trace report h = h
may_report_of true workers rows trace report h = (h.tallies, h.numbered, h.text)

is_report : (flags : Flags) (sight : Sight) (IsTrace : Trace → Type 0) (rows : List Row) (trace : Trace) (report : List ℕ) → HoldsScript sight flags.script rows → IsTrace trace
    → ReportsRun flags rows trace report → ReportsOf flags.report report (IsReport flags sight IsTrace trace report)
is_report flags sight IsTrace rows trace report holds traced h =
    reports_as flags.report report (λ k. record { rows = rows; script = holds; traced = traced; reported = k }) h

-- ---- what a run comes to, whatever it loads first

-- what is done behind the first load
abbrev pub Goes : Flags → {X : Type 0} → (X → Work) → Sight → X → Outcome → Type 0
Goes flags work sight x outcome = WithScript sight flags.script (Creates flags.log (Does (work x))) outcome

module _ (flags : Flags) (rows : List Row) {X : Type 0} (work : X → Work) where
  -- its one outcome
  abbrev behind : X → Outcome
  behind x = scripted flags.script (logged flags.log (finished (work x)))

  module _ (command : Command) (file : List ℕ) (limit : ℕ) (Reads : List ℕ → X → Type 0) (May : Ending → Type 0) (TurnsAway : List ℕ → Ending → Type 0)
      (first : LoadsFirst command file limit Reads May TurnsAway (Goes flags work)) (told : Option Contents) (x : X) (holds : Holds told file (λ bytes. (length bytes ≤ limit) × Reads bytes x))
      (scripts : HoldsRows told flags.script rows) where
    comes_there : (sight : Sight) → told ≡ Some sight.files → ComesTo command sight (reaching (loads file) (behind x))
    comes_there sight is =
        let h = held told sight.files file (λ bytes. (length bytes ≤ limit) × Reads bytes x) is holds in
        first.back sight (reaching (loads file) (behind x))
        (subst (λ o. Loads file limit Reads TurnsAway (Goes flags work sight) o (reaching (loads file) (behind x))) (sym h.1)
        (loaded h.0 x (behind x) h.2.0 h.2.1
        (comes_scripted told rows sight is flags.script (Creates flags.log (Does (work x))) (logged flags.log (finished (work x))) scripts
        (creates_logged flags.log (Does (work x)) (finished (work x)) refl))))

    only_there : (sight : Sight) → told ≡ Some sight.files → (outcome : Outcome) → ComesTo command sight outcome → outcome ≡ reaching (loads file) (behind x)
    only_there sight is outcome goes =
        let h = held told sight.files file (λ bytes. (length bytes ≤ limit) × Reads bytes x) is holds in
        let k = only_loaded file limit Reads TurnsAway (Goes flags work sight) first.once (first.comes sight outcome goes) h.0 x h.1 h.2.0 h.2.1 in
        let l = only_scripted told rows sight is flags.script (Creates flags.log (Does (work x))) k.0 scripts k.1 in
        k.2 ∙ ap (reaching (loads file)) (l.2 ∙ ap (scripted flags.script) (only_logged flags.log (work x) l.0 l.1))

    -- the facts that do not depend on what is loaded first
    pub there_of : (IsTrace : Trace → Type 0)
        → ((name : List ℕ) → IsWritten command name → flags.log ≡ Some name) → ((name : List ℕ) → flags.log ≡ Some name → IsWritten command name)
        → ((sight : Sight) → told ≡ Some sight.files → (trace : Trace) → IsTrace trace → Writes command sight trace (text_in flags.log (log_text trace)))
        → ((sight : Sight) → told ≡ Some sight.files → (trace : Trace) (report : List ℕ) → IsTrace trace → ReportsRun flags rows trace report → Reports command sight trace report)
        → ((trace : Trace) (report : List ℕ) → ReportsRun flags rows trace report → MayReport command report)
        → WritesOut command → CanEnd command (work x).ending → Worked (work x).ending
        → RunsThere command flags rows IsTrace (work x) told
    there_of IsTrace written is_written writes reports may_report writes_out can_end worked = record {
      there = reaching (loads file) (behind x);
      ends = scripted_ending flags.script (logged flags.log (finished (work x))) ∙ logged_ending flags.log (finished (work x));
      text = scripted_text flags.script (logged flags.log (finished (work x))) ∙ logged_text flags.log (finished (work x));
      sees = λ sight sees. told_by command file limit Reads May TurnsAway (Goes flags work) first told sight sees;
      comes = comes_there;
      only = only_there;
      reached = λ log named. later_in (loads file) (creates log) (behind x).reached
          (scripted_reached flags.script (logged flags.log (finished (work x))) (creates log) (logged_reached flags.log (finished (work x)) log named));
      written = written;
      is_written = is_written;
      writes = writes;
      reports = reports;
      may_report = may_report;
      writes_out = writes_out;
      can_end = can_end;
      worked = worked;
    }

-- ---- `run`

-- the work of a run of a program
abbrev pub runs_program : Flags → Program → Work
runs_program flags p = run_of flags.steps (meaning p flags.fuel)

-- `run` first loads a program
pub first_run : (file : List ℕ) (flags : Flags)
    → LoadsFirst (run file flags) file text_limit (λ bytes p. IsRead bytes (reading.accepted p)) IsRefusal IsRefusedText
    (λ sight p. WithScript sight flags.script (Creates flags.log (Does (runs_program flags p))))
first_run file flags =
    loads_program (run file flags) file (λ sight p. WithScript sight flags.script (Creates flags.log (Does (runs_program flags p)))) (λ sight outcome h. h) (λ sight outcome h. h) (inl refl) tt

pub run_there : (file : List ℕ) (flags : Flags) (rows : List Row) (told : Option Contents) (p : Program) → Holds told file (ReadsAs (reading.accepted p)) → HoldsRows told flags.script rows
    → RunsThere (run file flags) flags rows (IsTraceOf (steps_of (main p flags.fuel))) (runs_program flags p) told
run_there file flags rows told p holds scripts =
    there_of flags rows (runs_program flags) (run file flags) file text_limit (λ bytes p. IsRead bytes (reading.accepted p)) IsRefusal IsRefusedText (first_run file flags) told p holds scripts
    (IsTraceOf (steps_of (main p flags.fuel)))
    (λ name written. written) (λ name named. named)
    (λ sight is trace traced. writes_log flags.log (HasTrace (run file flags) sight) trace (has_trace sight is trace traced))
    (λ sight is trace report traced h. is_report flags sight (HasTrace (run file flags) sight) rows trace report (holds_script told rows sight is flags.script scripts)
    (has_trace sight is trace traced) h)
    (λ trace report h. may_report_of flags.report flags.workers rows trace report h)
    tt (run_can_end (run file flags) tt (meaning p flags.fuel).ending) (run_worked (meaning p flags.fuel).ending) where
      has_trace : (sight : Sight) → told ≡ Some sight.files → (trace : Trace) → IsTraceOf (steps_of (main p flags.fuel)) trace → HasTrace (run file flags) sight trace
      has_trace sight is trace traced =
          let h = held told sight.files file (ReadsAs (reading.accepted p)) is holds in
          (p, (h.0, h.1, h.2.0, h.2.1), traced)

-- ---- `exec`

-- the work of a run of a module
abbrev pub runs_module : Flags → Module → Work
runs_module flags m = run_of flags.steps (machine_meaning m flags.fuel)

-- `exec` first loads a module
pub first_exec : (file : List ℕ) (flags : Flags)
    → LoadsFirst (exec file flags) file module_limit IsModule IsModuleRefusal IsNoModule (λ sight m. WithScript sight flags.script (Creates flags.log (Does (runs_module flags m))))
first_exec file flags =
    loads_module (exec file flags) file (λ sight m. WithScript sight flags.script (Creates flags.log (Does (runs_module flags m)))) (λ sight outcome h. h) (λ sight outcome h. h) (inl refl) tt

pub exec_there : (file : List ℕ) (flags : Flags) (rows : List Row) (told : Option Contents) (m : Module) → Holds told file (Spells m) → HoldsRows told flags.script rows
    → RunsThere (exec file flags) flags rows (IsTraceOf (steps_of (machine_main m flags.fuel))) (runs_module flags m) told
exec_there file flags rows told m holds scripts =
    there_of flags rows (runs_module flags) (exec file flags) file module_limit IsModule IsModuleRefusal IsNoModule (first_exec file flags) told m holds scripts
    (IsTraceOf (steps_of (machine_main m flags.fuel)))
    (λ name written. written) (λ name named. named)
    (λ sight is trace traced. writes_log flags.log (HasTrace (exec file flags) sight) trace (has_trace sight is trace traced))
    (λ sight is trace report traced h. is_report flags sight (HasTrace (exec file flags) sight) rows trace report (holds_script told rows sight is flags.script scripts)
    (has_trace sight is trace traced) h)
    (λ trace report h. may_report_of flags.report flags.workers rows trace report h)
    tt (run_can_end (exec file flags) tt (machine_meaning m flags.fuel).ending) (run_worked (machine_meaning m flags.fuel).ending) where
      has_trace : (sight : Sight) → told ≡ Some sight.files → (trace : Trace) → IsTraceOf (steps_of (machine_main m flags.fuel)) trace → HasTrace (exec file flags) sight trace
      has_trace sight is trace traced =
          let h = held told sight.files file (Spells m) is holds in
          (m, (h.0, h.1, h.2.0, h.2.1), traced)
