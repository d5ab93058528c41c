-- What the top call promises. No sentence here names a command, a status but 2 and 6, or a part of the outside: each speaks by the tables of commands and of endings.
use Rattle.std.specs.Prelude.{◌≡◌, ◌⊎◌, ◌≤◌, ℕ, None, Some, List, [], ◌++◌, Contains}
use Rattle.std.specs.declared.option.Option.{Option}
use Rattle.std.specs.Io.{StartsWith}
use Rattle.std.specs.Io.KnownBytes.{Appends}
use Rattle.cal_base.specs.Causes.{Rose, IsQuiet}
use Rattle.cal_base.specs.Contents.{Contents, Told, SameFiles, AppendsPrefix}
use Rattle.run_report.specs.Logs.{Trace}
use Rattle.command_words.specs.Commands.{Command}
use Rattle.calypso_cli.specs.Endings.{Part, files, out, worked, turned_away, failed, Ending, no_command, no_memory, output_failed, kind_of}
use Rattle.calypso_cli.specs.Endings.{status_of, err_text, IsBeforeWork}
use Rattle.calypso_cli.specs.Outcomes.{Sight, Reach, cannot, Outcome}
use Rattle.calypso_cli.specs.Commands.{IsLoaded, IsWritten, WritesOut, CanEnd, ComesTo, Writes, MayReport, Reports}

-- what the files and out tell at a moment, and their counts of faults
pub record Objects : Type 0 where
  pub files : Option Contents
  pub out : Option (List ℕ)
  pub file_faults : ℕ
  pub out_faults : ℕ

-- the same by its four parts
abbrev pub objects_of : Option Contents → Option (List ℕ) → ℕ → ℕ → Objects
objects_of told written file_faults out_faults = record { files = told; out = written; file_faults = file_faults; out_faults = out_faults }

-- the count of faults of a part
abbrev pub faults_of : Part → Objects → ℕ
faults_of files objects = objects.file_faults
faults_of out objects = objects.out_faults

-- what the outside tells at a moment, and its counts of faults
pub record Outside : Type 0 where
  pub objects : Objects
  pub err : Option (List ℕ)
  pub err_faults : ℕ

-- no count of faults falls
pub record CountsStay (before after : Outside) : Type 0 where
  pub parts : (part : Part) → faults_of part before.objects ≤ faults_of part after.objects
  pub err : before.err_faults ≤ after.err_faults

-- the command did its work to the end: it is done, or what it ran ended in a fault
abbrev pub Worked : Ending → Type 0
Worked ending = kind_of ending ≡ worked

-- something that the call was given was turned away
abbrev pub WasTurnedAway : Ending → Type 0
WasTurnedAway ending = kind_of ending ≡ turned_away

-- the call ends by itself: neither by want of memory nor by a fault of the outside
abbrev pub EndsByItself : Ending → Type 0
EndsByItself ending = Worked ending ⊎ WasTurnedAway ending

-- How a call may end where the command comes to this outcome: as the outcome says, or, in its place,
-- by want of memory, at a file that was reached, or at out where text was to be written.
pub data MayEnd (outcome : Outcome) : Ending → Type 0 where
  as_it_comes : (ending : Ending) → ending ≡ outcome.ending → MayEnd outcome ending
  for_memory : MayEnd outcome no_memory
  at_a_file : (reach : Reach) → Contains outcome.reached reach → MayEnd outcome (cannot reach)
  at_out : Worked outcome.ending → MayEnd outcome output_failed

-- the text was written, or a front of it where the count of faults rose
abbrev pub Gets : Option (List ℕ) → Option (List ℕ) → ℕ → ℕ → List ℕ → Type 0
Gets old new before now text = Appends old new text ⊎ (Rose before now × AppendsPrefix old new text)

-- a file that the command does not write is as before, and every file is where something was turned away
pub record Touches (command : Command) (ending : Ending) (old new : Contents) : Type 0 where
  pub others : (name : List ℕ) → (IsWritten command name → ⊥) → new name ≡ old name
  pub turned_away : WasTurnedAway ending → SameFiles old new

-- each file that the command writes holds this text
abbrev pub HoldsWritten : Command → Option Contents → List ℕ → Type 0
HoldsWritten command None text = Unit {0}
HoldsWritten command (Some contents) text = (name : List ℕ) → IsWritten command name → contents name ≡ Some text

-- the name holds what it held, or nothing, or a front of what the command may write to it
pub data HoldsFront (command : Command) (sight : Sight) (name : List ℕ) : Option (List ℕ) → Type 0 where
  as_before : HoldsFront command sight name (sight.files name)
  nothing : HoldsFront command sight name (Some [])
  front_of : (trace : Trace) (text front : List ℕ) → Writes command sight trace text → StartsWith text front
      → HoldsFront command sight name (Some front)

-- so does each file that the command writes
abbrev pub HoldsFronts : Command → Sight → Option Contents → Type 0
HoldsFronts command sight None = Unit {0}
HoldsFronts command sight (Some contents) = (name : List ℕ) → IsWritten command name → HoldsFront command sight name (contents name)

-- where the command comes to this outcome: how the call ends and what out gets follow from it
pub record RunsAs (outcome : Outcome) (before after : Objects) (ending : Ending) : Type 0 where
  pub ends : MayEnd outcome ending
  -- where the command did its work to the end out got exactly the text, and else a front of it
  pub text : Worked ending → Appends before.out after.out outcome.text
  pub front : AppendsPrefix before.out after.out outcome.text
  -- where no count of faults rose, the call ends as the outcome says, or by want of memory
  pub complete : ((part : Part) → IsQuiet (faults_of part before) (faults_of part after)) → (ending ≡ no_memory) ⊎ (ending ≡ outcome.ending)

-- on what is seen of the outside the command comes to an outcome where it did its work to the end
abbrev pub CanWork : Command → Sight → Type 0
CanWork command sight = (outcome : Outcome) × ComesTo command sight outcome × Worked outcome.ending

-- where the command did its work, the file that it writes holds the whole text and err got the report, both of one run
pub record Tells (command : Command) (sight : Sight) (after : Objects) (report : List ℕ) : Type 0 where
  pub trace : Trace
  pub text : List ℕ
  pub writes : Writes command sight trace text
  pub reports : Reports command sight trace report
  pub holds : HoldsWritten command after.files text

-- what the command comes to on what is seen of the outside, and what the call made of it
pub record OnSight (command : Command) (sight : Sight) (before after : Objects) (ending : Ending) (report : List ℕ) : Type 0 where
  -- a call that ends by itself ends as the command comes to
  pub comes : EndsByItself ending → (outcome : Outcome) × ComesTo command sight outcome × (ending ≡ outcome.ending)
  -- out fails, or gets anything, only where the command comes to an outcome where it did its work to the end
  pub fails : kind_of ending ≡ failed out → CanWork command sight
  pub wrote : Appends before.out after.out [] ⊎ CanWork command sight
  -- and whatever the command comes to, the call runs so
  pub runs : (outcome : Outcome) → ComesTo command sight outcome → RunsAs outcome before after ending
  -- the file that the command writes holds the text that goes with the report, and else what it held, nothing, or a front of some such text
  pub tells : Worked ending → Tells command sight after report
  pub fronts : HoldsFronts command sight after.files

-- this is seen of the outside by the command: what the files tell, or anything where they tell nothing and the command loads no file
abbrev pub Sees : Command → Option Contents → Sight → Type 0
Sees command told sight = (told ≡ Some sight.files) ⊎ ((told ≡ None) × ((name : List ℕ) → IsLoaded command name → ⊥))

-- what a command does to the files and out, in a call that ends so
pub record Works (command : Command) (before after : Objects) (ending : Ending) (report : List ℕ) : Type 0 where
  -- the ending is one that the command can have; a file that it names is one of the command's
  pub can_end : CanEnd command ending
  -- a part of the outside failed only where its count of faults rose in this call
  pub causes : (part : Part) → kind_of ending ≡ failed part → Rose (faults_of part before) (faults_of part after)
  -- a report comes only where the command did its work, and is one that the command can have
  pub reports : Worked ending → MayReport command report
  pub silent : (Worked ending → ⊥) → report ≡ []
  -- whether or not the files tell what they hold: out got nothing where something was turned away or not loaded, and where the command writes nothing to it
  pub unwritten : IsBeforeWork ending → Appends before.out after.out []
  pub out_kept : (WritesOut command → ⊥) → Appends before.out after.out []
  pub files : Told before.files after.files (Touches command ending)
  pub told : (sight : Sight) → Sees command before.files sight → OnSight command sight before after ending report

-- the promise of a call that carries out a command and answers this status: one ending, to which everything is tied
pub record DoesCommand (command : Command) (before after : Outside) (status : ℕ) : Type 0 where
  pub ending : Ending
  pub report : List ℕ
  pub answers : status ≡ status_of ending
  -- err got the line of the ending, and the report behind it where one was asked for
  pub line : Gets before.err after.err before.err_faults after.err_faults (err_text ending ++ report)
  pub works : Works command before.objects after.objects ending report

-- nothing was done but to tell why: there is no command, or memory was wanted to read the words
pub record DoesNothing (before after : Outside) (status : ℕ) : Type 0 where
  pub ending : Ending
  pub why : (ending ≡ no_command) ⊎ (ending ≡ no_memory)
  pub answers : status ≡ status_of ending
  pub line : Gets before.err after.err before.err_faults after.err_faults (err_text ending)
  pub out : Appends before.objects.out after.objects.out []
  pub files : Told before.objects.files after.objects.files SameFiles

-- the promise of a call that was given this command, or none, and answers this status
pub record KeepsPromise (given : Option Command) (before after : Outside) (status : ℕ) : Type 0 where
  -- 2 exactly where there is no command, want of memory aside
  pub only_no_command : status ≡ 2 → given ≡ None
  pub no_command : given ≡ None → (status ≡ 2) ⊎ (status ≡ 6)
  pub nothing : given ≡ None → DoesNothing before after status
  pub command : (command : Command) → given ≡ Some command → DoesCommand command before after status
  pub counts : CountsStay before after

-- the call may load each file that the command loads, and write each file that it writes
pub record MayUse (may_load may_write : List ℕ → Type 0) (command : Command) : Type 0 where
  pub load : (name : List ℕ) → IsLoaded command name → may_load name
  pub write : (name : List ℕ) → IsWritten command name → may_write name

-- the same of the command that was given, if any
abbrev pub MayDo : (List ℕ → Type 0) → (List ℕ → Type 0) → Option Command → Type 0
MayDo may_load may_write given = (command : Command) → given ≡ Some command → MayUse may_load may_write command
