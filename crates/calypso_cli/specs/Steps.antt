-- What the steps below the top call promise.
use Rattle.std.specs.Prelude.{◌≡◌, ◌⊎◌, ◌≤◌, ◌<◌, ℕ, false, List, [], length, IfSome, IsSomeAnd, None, Some}
use Rattle.std.specs.declared.option.Option.{Option}
use Rattle.std.specs.Io.{StartsWith}
use Rattle.std.specs.Io.KnownBytes.{Appends}
use Rattle.cal_base.specs.Causes.{Rose}
use Rattle.cal_base.specs.Contents.{Contents, Told, SameFiles, SameOthers, Empties, KeepsOrEmpties, AppendsPrefix}
use Rattle.csl_tree.specs.declared.program.Program.{Program}
use Rattle.csl_grammar.specs.Texts.{text_limit}
use Rattle.csl_reader.specs.declared.refusal.Refusal.{Refusal}
use Rattle.csl_reader.specs.Readings as reading
use Rattle.csl_reader.specs.Readings.{IsRead}
use Rattle.bytecode.specs.declared.module.Module.{Module}
use Rattle.event_world.specs.declared.event.Event.{Event}
use Rattle.fault_script.specs.Rows.{Row}
use Rattle.run_report.specs.Logs.{Trace, log_text}
use Rattle.calypso_engine.specs.declared.error.RunError.{RunError}
use Rattle.calypso_engine.specs.declared.error.RunError.TheVariants.{OutFailed, FileFailed, NoMemory}
use Rattle.command_words.specs.Commands.{Flags}
use Rattle.calypso_cli.specs.Endings.{Ending, done, cannot_load, cannot_write, refused, no_memory, output_failed, script_refused}
use Rattle.calypso_cli.specs.Endings.{events_refused, too_long, module_refused}
use Rattle.calypso_cli.specs.Outcomes.{Work}
use Rattle.calypso_cli.specs.Commands.{IsModule, module_limit, IsScript, IsNoScript, script_limit, IsEvents, events_limit, usual_fuel}
use Rattle.calypso_cli.specs.Commands.{IsBuiltOf, ReportsRun}
use Rattle.calypso_cli.specs.Promise.{Objects}

-- where the files tell it, the file holds bytes of which this is true
abbrev pub Holds : Option Contents → List ℕ → (List ℕ → Type 0) → Type 0
Holds told file Fact = IfSome told (λ contents. IsSomeAnd (contents file) Fact)

-- where a script is named the files hold it, with these rows, and else there is none
abbrev pub HoldsRows : Option Contents → Option (List ℕ) → List Row → Type 0
HoldsRows told None rows = rows ≡ []
HoldsRows told (Some script) rows = Holds told script (λ bytes. (length bytes ≤ script_limit) × IsScript bytes rows)

-- the bytes are no more than those of the longest list of events, and list these
abbrev pub Lists : List Event → List ℕ → Type 0
Lists list bytes = (length bytes ≤ events_limit) × IsEvents bytes list

-- the text is no longer than the longest program, and is read so
abbrev pub ReadsAs : reading.Reading → List ℕ → Type 0
ReadsAs reading text = (length text ≤ text_limit) × IsRead text reading

-- the ending of a refused text
abbrev pub IsRefusal : Ending → Type 0
IsRefusal ending = (at : ℕ) × (why : Refusal) × (ending ≡ refused at why)

-- the bytes are no more than those of the longest module, and are this verified module's
abbrev pub Spells : Module → List ℕ → Type 0
Spells built bytes = (length bytes ≤ module_limit) × IsModule bytes built

-- the ending of a refused module
abbrev pub IsModuleRefusal : Ending → Type 0
IsModuleRefusal ending = ending ≡ module_refused

-- the ending of a refused script
abbrev pub IsScriptRefusal : Ending → Type 0
IsScriptRefusal ending = ending ≡ script_refused

-- the ending of refused events
abbrev pub IsEventsRefusal : Ending → Type 0
IsEventsRefusal ending = (number : ℕ) × (ending ≡ events_refused number)

-- no ending, and no bytes that are turned away
abbrev pub NoEnding : Ending → Type 0
NoEnding ending = ⊥

abbrev pub TurnsNoneAway : List ℕ → Ending → Type 0
TurnsNoneAway bytes ending = ⊥

-- why the first load of a command ends the call: by want of memory or a fault, or because the file is too long or its bytes are turned away,
-- with an ending that they may have
pub data StopsLoad (told : Option Contents) (file : List ℕ) (limit : ℕ) (May : Ending → Type 0) (TurnsAway : List ℕ → Ending → Type 0)
    (before after : ℕ) : Ending → Type 0 where
  no_room : StopsLoad told file limit May TurnsAway before after no_memory
  not_usable : Rose before after → StopsLoad told file limit May TurnsAway before after (cannot_load file)
  long : Holds told file (λ bytes. limit < length bytes) → StopsLoad told file limit May TurnsAway before after (too_long file)
  turned : (ending : Ending) → May ending → Holds told file (λ bytes. (length bytes ≤ limit) × TurnsAway bytes ending)
      → StopsLoad told file limit May TurnsAway before after ending

-- why the load of the script ends the call, where one is named
abbrev pub StopsScript : Option Contents → Option (List ℕ) → (before after : ℕ) → Ending → Type 0
StopsScript told None before after ending = ⊥
StopsScript told (Some script) before after ending = StopsLoad told script script_limit IsScriptRefusal IsNoScript before after ending

-- how work on what was loaded ends the call, and what out got
pub data EndsWork (work : Work) (old new : Option (List ℕ)) (before after : ℕ) : Ending → Type 0 where
  whole : Appends old new work.text → EndsWork work old new before after work.ending
  no_room : AppendsPrefix old new work.text → EndsWork work old new before after no_memory
  out_failed : Rose before after → AppendsPrefix old new work.text → EndsWork work old new before after output_failed

-- the file holds exactly this text, and each other file what it held
pub record HoldsAll (file text : List ℕ) (old new : Contents) : Type 0 where
  pub here : new file ≡ Some text
  pub others : SameOthers file old new

-- the file holds what it held, or a front of this text, and each other file what it held
pub record HoldsSome (file text : List ℕ) (old new : Contents) : Type 0 where
  pub here : (new file ≡ old file) ⊎ ((front : List ℕ) × StartsWith text front × (new file ≡ Some front))
  pub others : SameOthers file old new

-- how the writing of a file ends the call
pub data EndsFile (file text : List ℕ) (old new : Option Contents) (before after : ℕ) : Ending → Type 0 where
  written : Told old new (HoldsAll file text) → EndsFile file text old new before after done
  not_written : Rose before after → Told old new (HoldsSome file text) → EndsFile file text old new before after (cannot_write file)

-- how the build of a program's module ends the call
pub data EndsBuild (p : Program) (into : List ℕ) (old new : Option Contents) (before after : ℕ) : Ending → Type 0 where
  no_room : Told old new SameFiles → EndsBuild p into old new before after no_memory
  wrote : (text : List ℕ) (ending : Ending) → IsBuiltOf p text → EndsFile into text old new before after ending
      → EndsBuild p into old new before after ending

-- ---- runs

-- what a log holds where the run gave up: what it held, nothing, or a front of the text of some such trace
pub data HoldsLogFront (IsTrace : Trace → Type 0) (was : Option (List ℕ)) : Option (List ℕ) → Type 0 where
  kept : HoldsLogFront IsTrace was was
  emptied : HoldsLogFront IsTrace was (Some [])
  front : (trace : Trace) (text : List ℕ) → IsTrace trace → StartsWith (log_text trace) text → HoldsLogFront IsTrace was (Some text)

-- where a log is named it holds such a front, and each other file what it held
abbrev pub KeepsLogFront : (Trace → Type 0) → Option (List ℕ) → Contents → Contents → Type 0
KeepsLogFront IsTrace None old new = SameFiles old new
KeepsLogFront IsTrace (Some log) old new = HoldsLogFront IsTrace (old log) (new log) × SameOthers log old new

-- where a log is named it holds no bytes, and each other file what it held
abbrev pub EmptiesLog : Option (List ℕ) → Contents → Contents → Type 0
EmptiesLog None old new = SameFiles old new
EmptiesLog (Some log) old new = Empties log old new

-- the log that is named was not created: it holds what it held, or no bytes
abbrev pub NotCreated : Option (List ℕ) → (old new : Option Contents) (before after : ℕ) → Ending → Type 0
NotCreated None old new before after ending = ⊥
NotCreated (Some log) old new before after ending = (ending ≡ cannot_write log) × Rose before after × Told old new (KeepsOrEmpties log)

-- how the call ends where the run gives up: at the log only where one is named
abbrev pub GivesUp : RunError → Option (List ℕ) → Ending → Type 0
GivesUp OutFailed log ending = ending ≡ output_failed
GivesUp FileFailed None ending = ⊥
GivesUp FileFailed (Some log) ending = ending ≡ cannot_write log
GivesUp NoMemory log ending = ending ≡ no_memory

-- where a log is named it holds this text, and each other file what it held
abbrev pub KeepsLog : List ℕ → Option (List ℕ) → Contents → Contents → Type 0
KeepsLog text None old new = SameFiles old new
KeepsLog text (Some log) old new = HoldsAll log text old new

-- how the run of what was loaded, with such a trace and this work, ends the call, and what is reported
pub data EndsRun (IsTrace : Trace → Type 0) (work : Work) (flags : Flags) (rows : List Row) (old new : Objects) : Ending → List ℕ
    → Type 0 where
  ran : (trace : Trace) (report : List ℕ) → IsTrace trace → Appends old.out new.out work.text
      → Told old.files new.files (KeepsLog (log_text trace) flags.log)
      → ReportsRun flags rows trace report → EndsRun IsTrace work flags rows old new work.ending report
  no_room : AppendsPrefix old.out new.out work.text → Told old.files new.files (KeepsLogFront IsTrace flags.log)
      → EndsRun IsTrace work flags rows old new no_memory []
  out_failed : Rose old.out_faults new.out_faults → AppendsPrefix old.out new.out work.text
      → Told old.files new.files (KeepsLogFront IsTrace flags.log)
      → EndsRun IsTrace work flags rows old new output_failed []
  log_failed : (log : List ℕ) → flags.log ≡ Some log → Rose old.file_faults new.file_faults → AppendsPrefix old.out new.out work.text
      → Told old.files new.files (KeepsLogFront IsTrace flags.log) → EndsRun IsTrace work flags rows old new (cannot_write log) []

-- a simulation as a run: with a log, and with no script, no report and no steps shown
abbrev pub simulation : Option (List ℕ) → Flags
simulation log = record { workers = 0; fuel = usual_fuel; frames = 64; script = None; log = log; report = false; steps = false }
