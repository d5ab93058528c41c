-- The tables of commands: which files each loads and writes, which endings it can have, what it comes to, and what it writes and reports. A command that
-- joins, or an option, is a case in each.
use Rattle.std.specs.Prelude.{◌≡◌, ◌⊎◌, ℕ, Bool, true, false, Option, None, Some, List, []}
use Rattle.std.specs.Prelude.{◌≤◌, length, Ok, Err}
use Rattle.cal_base.specs.declared.ends.RunEnd.{RunEnd}
use Rattle.cal_base.specs.declared.ends.RunEnd.TheVariants.{Done, MainFault, StepFailed}
use Rattle.cal_base.specs.Main.{Meaning, steps_of}
use Rattle.cal_base.specs.Text as base
use Rattle.csl_tree.specs.declared.program.Program.{Program}
use Rattle.csl_grammar.specs.Texts.{text_limit}
use Rattle.csl_meaning.specs.Meaning.{main, meaning}
use Rattle.csl_print.specs.Canonical.{canonical}
use Rattle.csl_reader.specs.declared.refusal.Refusal.{Refusal}
use Rattle.csl_reader.specs.Readings as reading
use Rattle.csl_reader.specs.Readings.{IsRead}
use Rattle.bytecode.specs.declared.module.Module.{Module}
use Rattle.bytecode.specs.Spelling.{spelling, HasSpelling}
use Rattle.code_verify.specs.Rules.{IsVerified}
use Rattle.machine_meaning.specs.Meaning.{machine_main, machine_meaning}
use Rattle.event_world.specs.declared.event.Event.{Event}
use Rattle.event_world.specs.World.{world}
use Rattle.fault_script.specs.Events.{events_of}
use Rattle.fault_script.specs.Rows.{Row}
use Rattle.fault_script.specs.Scripts.{script_of}
use Rattle.run_report.specs.Logs.{Trace, log_text}
use Rattle.run_report.specs.Reports.{report_text}
use Rattle.calypso_engine.specs.Traces.{trace_of, IsTraceOf, Tallies, in_order, AreTalliesOf, FollowScript, Agree}
use Rattle.program_gen.specs.Generated.{generated}
use Rattle.command_words.specs.Commands.{Flags, Command, check, eval, run, sim, build, exec, gen, selfrun}
use Rattle.calypso_cli.specs.Endings.{Ending, done, no_command, cannot_load, cannot_write, refused, fault, no_memory, output_failed}
use Rattle.calypso_cli.specs.Endings.{script_refused, events_refused, too_long, module_refused}
use Rattle.calypso_cli.specs.Outcomes.{Sight, Outcome, Work, finished, Loads, Creates, Does}

-- ---- threads

-- the command runs no worker threads
abbrev pub WaitsForNobody : Command → Type 0
WaitsForNobody (check file) = Unit {0}
WaitsForNobody (eval file) = Unit {0}
WaitsForNobody (run file flags) = ⊥
WaitsForNobody (sim file events log) = Unit {0}
WaitsForNobody (build file into) = Unit {0}
WaitsForNobody (exec file flags) = ⊥
WaitsForNobody (gen number size) = Unit {0}
WaitsForNobody (selfrun number size) = ⊥

-- ---- files

-- the command loads the file of this name
abbrev pub IsLoaded : Command → List ℕ → Type 0
IsLoaded (check file) name = name ≡ file
IsLoaded (eval file) name = name ≡ file
IsLoaded (run file flags) name = (name ≡ file) ⊎ (flags.script ≡ Some name)
IsLoaded (sim file events log) name = (name ≡ file) ⊎ (name ≡ events)
IsLoaded (build file into) name = name ≡ file
IsLoaded (exec file flags) name = (name ≡ file) ⊎ (flags.script ≡ Some name)
IsLoaded (gen number size) name = ⊥
IsLoaded (selfrun number size) name = ⊥

-- the command writes the file of this name
abbrev pub IsWritten : Command → List ℕ → Type 0
IsWritten (check file) name = ⊥
IsWritten (eval file) name = ⊥
IsWritten (run file flags) name = flags.log ≡ Some name
IsWritten (sim file events log) name = log ≡ Some name
IsWritten (build file into) name = name ≡ into
IsWritten (exec file flags) name = flags.log ≡ Some name
IsWritten (gen number size) name = ⊥
IsWritten (selfrun number size) name = ⊥

-- ---- endings

-- the command reads a program's text
abbrev pub LoadsProgram : Command → Type 0
LoadsProgram (check file) = Unit {0}
LoadsProgram (eval file) = Unit {0}
LoadsProgram (run file flags) = Unit {0}
LoadsProgram (sim file events log) = Unit {0}
LoadsProgram (build file into) = Unit {0}
LoadsProgram (exec file flags) = ⊥
LoadsProgram (gen number size) = ⊥
LoadsProgram (selfrun number size) = Unit {0}

-- the command loads a module
abbrev pub LoadsModule : Command → Type 0
LoadsModule (check file) = ⊥
LoadsModule (eval file) = ⊥
LoadsModule (run file flags) = ⊥
LoadsModule (sim file events log) = ⊥
LoadsModule (build file into) = ⊥
LoadsModule (exec file flags) = Unit {0}
LoadsModule (gen number size) = ⊥
LoadsModule (selfrun number size) = ⊥

-- the command loads a script
abbrev pub LoadsScript : Command → Type 0
LoadsScript (check file) = ⊥
LoadsScript (eval file) = ⊥
LoadsScript (run file flags) = (name : List ℕ) × (flags.script ≡ Some name)
LoadsScript (sim file events log) = ⊥
LoadsScript (build file into) = ⊥
LoadsScript (exec file flags) = (name : List ℕ) × (flags.script ≡ Some name)
LoadsScript (gen number size) = ⊥
LoadsScript (selfrun number size) = ⊥

-- the command loads a list of events
abbrev pub LoadsEvents : Command → Type 0
LoadsEvents (check file) = ⊥
LoadsEvents (eval file) = ⊥
LoadsEvents (run file flags) = ⊥
LoadsEvents (sim file events log) = Unit {0}
LoadsEvents (build file into) = ⊥
LoadsEvents (exec file flags) = ⊥
LoadsEvents (gen number size) = ⊥
LoadsEvents (selfrun number size) = ⊥

-- the command runs a program
abbrev pub RunsProgram : Command → Type 0
RunsProgram (check file) = ⊥
RunsProgram (eval file) = Unit {0}
RunsProgram (run file flags) = Unit {0}
RunsProgram (sim file events log) = Unit {0}
RunsProgram (build file into) = ⊥
RunsProgram (exec file flags) = Unit {0}
RunsProgram (gen number size) = ⊥
RunsProgram (selfrun number size) = Unit {0}

-- the command writes to out
abbrev pub WritesOut : Command → Type 0
WritesOut (check file) = Unit {0}
WritesOut (eval file) = Unit {0}
WritesOut (run file flags) = Unit {0}
WritesOut (sim file events log) = Unit {0}
WritesOut (build file into) = ⊥
WritesOut (exec file flags) = Unit {0}
WritesOut (gen number size) = Unit {0}
WritesOut (selfrun number size) = Unit {0}

-- the endings that the command can have, whatever the files hold
abbrev pub CanEnd : Command → Ending → Type 0
CanEnd command done = Unit {0}
CanEnd command no_command = ⊥
CanEnd command (cannot_load name) = IsLoaded command name
CanEnd command (cannot_write name) = IsWritten command name
CanEnd command (refused at why) = LoadsProgram command
CanEnd command (fault ending) = RunsProgram command × (base.status_of ending ≡ 5)
CanEnd command no_memory = Unit {0}
CanEnd command output_failed = WritesOut command
CanEnd command script_refused = LoadsScript command
CanEnd command (events_refused number) = LoadsEvents command
CanEnd command (too_long name) = IsLoaded command name
CanEnd command module_refused = LoadsModule command

-- ---- what files are read as

-- the bytes are turned away as a program's text, at a place of it
abbrev pub IsRefusedText : List ℕ → Ending → Type 0
IsRefusedText bytes ending = (at : ℕ) × (why : Refusal) × IsRead bytes (reading.refused at why) × (ending ≡ refused at why)

-- what a command comes to that loads a program and goes on with it
abbrev pub WithProgram : Sight → List ℕ → (Program → Outcome → Type 0) → Outcome → Type 0
WithProgram sight file Next outcome = Loads file text_limit (λ bytes p. IsRead bytes (reading.accepted p)) IsRefusedText Next
    (sight.files file) outcome

-- the longest module, in bytes
abbrev pub module_limit : ℕ
module_limit = 16777216

-- the bytes are the one spelling of a verified module
abbrev pub IsModule : List ℕ → Module → Type 0
IsModule bytes m = HasSpelling m × IsVerified m × (bytes ≡ spelling m)

-- the bytes are no verified module's
abbrev pub IsNoModule : List ℕ → Ending → Type 0
IsNoModule bytes ending = ((m : Module) → IsModule bytes m → ⊥) × (ending ≡ module_refused)

-- what a command comes to that loads a module and goes on with it
abbrev pub WithModule : Sight → List ℕ → (Module → Outcome → Type 0) → Outcome → Type 0
WithModule sight file Next outcome = Loads file module_limit IsModule IsNoModule Next (sight.files file) outcome

-- the longest script, in bytes
abbrev pub script_limit : ℕ
script_limit = 1048576

-- the bytes are a script with these rows
abbrev pub IsScript : List ℕ → List Row → Type 0
IsScript bytes rows = script_of bytes ≡ Some rows

-- the bytes are no script
abbrev pub IsNoScript : List ℕ → Ending → Type 0
IsNoScript bytes ending = (script_of bytes ≡ None) × (ending ≡ script_refused)

-- what a command comes to that loads a script, where one is named, and goes on
abbrev pub WithScript : Sight → Option (List ℕ) → (Outcome → Type 0) → Outcome → Type 0
WithScript sight None Next outcome = Next outcome
WithScript sight (Some file) Next outcome = Loads file script_limit IsScript IsNoScript (λ rows. Next) (sight.files file) outcome

-- the longest list of events, in bytes
abbrev pub events_limit : ℕ
events_limit = 1048576

-- the bytes list these events
abbrev pub IsEvents : List ℕ → List Event → Type 0
IsEvents bytes list = events_of bytes ≡ Ok list

-- the bytes list no events: a line is no event, and the first such line is named
abbrev pub IsNoEvents : List ℕ → Ending → Type 0
IsNoEvents bytes ending = (number : ℕ) × (events_of bytes ≡ Err number) × (ending ≡ events_refused number)

-- what a command comes to that loads a list of events and goes on
abbrev pub WithEvents : Sight → List ℕ → (Outcome → Type 0) → Outcome → Type 0
WithEvents sight file Next outcome = Loads file events_limit IsEvents IsNoEvents (λ list. Next) (sight.files file) outcome

-- the file holds the text of this accepted program
abbrev pub HoldsProgram : Sight → List ℕ → Program → Type 0
HoldsProgram sight file p = (bytes : List ℕ) × (sight.files file ≡ Some bytes) × (length bytes ≤ text_limit)
    × IsRead bytes (reading.accepted p)

-- the file holds this verified module
abbrev pub HoldsModule : Sight → List ℕ → Module → Type 0
HoldsModule sight file m = (bytes : List ℕ) × (sight.files file ≡ Some bytes) × (length bytes ≤ module_limit) × IsModule bytes m

-- the rows of the script, where one is named; with no script there is none
abbrev pub HoldsScript : Sight → Option (List ℕ) → List Row → Type 0
HoldsScript sight None rows = rows ≡ []
HoldsScript sight (Some file) rows = (bytes : List ℕ) × (sight.files file ≡ Some bytes) × (length bytes ≤ script_limit)
    × IsScript bytes rows

-- the file lists these events
abbrev pub HoldsEvents : Sight → List ℕ → List Event → Type 0
HoldsEvents sight file list = (bytes : List ℕ) × (sight.files file ≡ Some bytes) × (length bytes ≤ events_limit) × IsEvents bytes list

-- ---- work

-- how a call ends with the run of a program
abbrev pub ended : RunEnd → Ending
ended (Done steps) = done
ended (MainFault after cause) = fault (MainFault after cause)
ended (StepFailed step failure) = fault (StepFailed step failure)

-- a run: it ends as the meaning does, and out gets the text of the meaning, with the words that each step changed where they are asked for
abbrev pub run_of : Bool → Meaning → Work
run_of steps means = record { ending = ended means.ending; text = base.text_of steps means.events }

-- the check of a program: out gets its canonical text
abbrev pub check_of : Program → Work
check_of p = record { ending = done; text = canonical p }

-- the writing of a module: out gets nothing
abbrev pub build_of : Work
build_of = record { ending = done; text = [] }

-- the writing of a generated program
abbrev pub gen_of : (number size : ℕ) → Work
gen_of number size = record { ending = done; text = generated number size }

-- the units of fuel of `eval`, `sim` and `selfrun`
abbrev pub usual_fuel : ℕ
usual_fuel = 1000000

-- What a command comes to that goes on with the program which this text spells, or ends where it spells none.
pub data FromText (bytes : List ℕ) (Next : Program → Outcome → Type 0) : Outcome → Type 0 where
  spelled : (p : Program) (outcome : Outcome) → IsRead bytes (reading.accepted p) → Next p outcome → FromText bytes Next outcome
  turned : (ending : Ending) → IsRefusedText bytes ending → FromText bytes Next (finished (record { ending = ending; text = [] }))

-- what a command comes to on what is seen of the outside
abbrev pub ComesTo : Command → Sight → Outcome → Type 0
ComesTo (check file) sight outcome = WithProgram sight file (λ p. Does (check_of p)) outcome
ComesTo (eval file) sight outcome = WithProgram sight file (λ p. Does (run_of false (meaning p usual_fuel))) outcome
ComesTo (run file flags) sight outcome =
    WithProgram sight file (λ p. WithScript sight flags.script (Creates flags.log (Does (run_of flags.steps (meaning p flags.fuel)))))
    outcome
ComesTo (sim file events log) sight outcome =
    WithProgram sight file (λ p. WithEvents sight events (Creates log (Does (run_of false (meaning p usual_fuel))))) outcome
ComesTo (build file into) sight outcome = WithProgram sight file (λ p. Creates (Some into) (Does build_of)) outcome
ComesTo (exec file flags) sight outcome =
    WithModule sight file (λ m. WithScript sight flags.script (Creates flags.log
    (Does (run_of flags.steps (machine_meaning m flags.fuel))))) outcome
ComesTo (gen number size) sight outcome = Does (gen_of number size) outcome
ComesTo (selfrun number size) sight outcome = FromText (generated number size) (λ p. Does (run_of false (meaning p usual_fuel))) outcome

-- ---- logs, modules and reports

-- the steps of the program over these events, in order: exactly those of its world, so each with a legal and complete history
pub record IsSimulated (p : Program) (list : List Event) (trace : Trace) : Type 0 where
  pub is_world : trace ≡ trace_of (world (main p usual_fuel) list).closed
  pub traced : IsTraceOf (steps_of (main p usual_fuel)) trace

-- the steps that a run of the command opens, faulted one included, each with a legal and complete history
abbrev pub HasTrace : Command → Sight → Trace → Type 0
HasTrace (check file) sight trace = trace ≡ []
HasTrace (eval file) sight trace = trace ≡ []
HasTrace (run file flags) sight trace = (p : Program) × HoldsProgram sight file p × IsTraceOf (steps_of (main p flags.fuel)) trace
HasTrace (sim file events log) sight trace = (p : Program) × (list : List Event) × HoldsProgram sight file p × HoldsEvents sight events list
    × IsSimulated p list trace
HasTrace (build file into) sight trace = trace ≡ []
HasTrace (exec file flags) sight trace = (m : Module) × HoldsModule sight file m × IsTraceOf (steps_of (machine_main m flags.fuel)) trace
HasTrace (gen number size) sight trace = trace ≡ []
HasTrace (selfrun number size) sight trace = (p : Program) × IsRead (generated number size) (reading.accepted p)
    × IsTraceOf (steps_of (main p usual_fuel)) trace

-- the text of a log, where one is named: that of a trace of the run
abbrev pub WritesLog : Option (List ℕ) → (Trace → Type 0) → Trace → List ℕ → Type 0
WritesLog None IsTrace trace text = text ≡ []
WritesLog (Some file) IsTrace trace text = IsTrace trace × (text ≡ log_text trace)

-- the one spelling of a verified module that means what the program means, with each amount of fuel
pub record IsBuiltOf (p : Program) (text : List ℕ) : Type 0 where
  pub built : Module
  pub spelled : IsModule text built
  pub means : (fuel : ℕ) → machine_meaning built fuel ≡ meaning p fuel

-- What the command may write to its file, on what is seen of the outside, in a run with this trace. It is a relation, since threads and compilers choose.
abbrev pub Writes : Command → Sight → Trace → List ℕ → Type 0
Writes (check file) sight trace text = text ≡ []
Writes (eval file) sight trace text = text ≡ []
Writes (run file flags) sight trace text = WritesLog flags.log (HasTrace (run file flags) sight) trace text
Writes (sim file events log) sight trace text = WritesLog log (HasTrace (sim file events log) sight) trace text
Writes (build file into) sight trace text = (p : Program) × HoldsProgram sight file p × IsBuiltOf p text
Writes (exec file flags) sight trace text = WritesLog flags.log (HasTrace (exec file flags) sight) trace text
Writes (gen number size) sight trace text = text ≡ []
Writes (selfrun number size) sight trace text = text ≡ []

-- the lines of all workers, ascending, and then the caller's
abbrev pub tallies_text : Tallies → List ℕ
tallies_text tallies = report_text (in_order tallies)

-- a report has one line for each worker and the caller's
abbrev pub MayReportOf : Bool → (workers : ℕ) → List ℕ → Type 0
MayReportOf false workers report = report ≡ []
MayReportOf true workers report = (tallies : Tallies) × AreTalliesOf workers tallies × (report ≡ tallies_text tallies)

-- what err may get behind the line of an ending where the command did its work, whatever the files hold
abbrev pub MayReport : Command → List ℕ → Type 0
MayReport (check file) report = report ≡ []
MayReport (eval file) report = report ≡ []
MayReport (run file flags) report = MayReportOf flags.report flags.workers report
MayReport (sim file events log) report = report ≡ []
MayReport (build file into) report = report ≡ []
MayReport (exec file flags) report = MayReportOf flags.report flags.workers report
MayReport (gen number size) report = report ≡ []
MayReport (selfrun number size) report = report ≡ []

-- a report of so many workers, of a run with this trace: its tallies follow these rows and agree with the histories
pub record ReportsTallies (workers : ℕ) (rows : List Row) (trace : Trace) (report : List ℕ) : Type 0 where
  pub tallies : Tallies
  pub numbered : AreTalliesOf workers tallies
  pub follow : FollowScript rows tallies
  pub agree : Agree trace tallies
  pub text : report ≡ tallies_text tallies

-- the report, where one is asked for
abbrev pub ReportsOf : Bool → (report : List ℕ) → Type 0 → Type 0
ReportsOf false report Reported = report ≡ []
ReportsOf true report Reported = Reported

-- the report of a run with these options, rows and trace
abbrev pub ReportsRun : Flags → List Row → Trace → List ℕ → Type 0
ReportsRun flags rows trace report = ReportsOf flags.report report (ReportsTallies flags.workers rows trace report)

-- the same by the script's file
pub record IsReport (flags : Flags) (sight : Sight) (IsTrace : Trace → Type 0) (trace : Trace) (report : List ℕ) : Type 0 where
  pub rows : List Row
  pub script : HoldsScript sight flags.script rows
  pub traced : IsTrace trace
  pub reported : ReportsTallies flags.workers rows trace report

-- what the command reports, on what is seen of the outside, in a run with this trace
abbrev pub Reports : Command → Sight → Trace → List ℕ → Type 0
Reports (check file) sight trace report = report ≡ []
Reports (eval file) sight trace report = report ≡ []
Reports (run file flags) sight trace report = ReportsOf flags.report report
    (IsReport flags sight (HasTrace (run file flags) sight) trace report)
Reports (sim file events log) sight trace report = report ≡ []
Reports (build file into) sight trace report = report ≡ []
Reports (exec file flags) sight trace report = ReportsOf flags.report report
    (IsReport flags sight (HasTrace (exec file flags) sight) trace report)
Reports (gen number size) sight trace report = report ≡ []
Reports (selfrun number size) sight trace report = report ≡ []
