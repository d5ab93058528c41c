-- The table of endings: how a call may end, its kind, its status, and the line that err gets.
use Rattle.std.specs.Prelude.{ℕ, List, [], ◌++◌, codes}
use Rattle.std.specs.Fmt.{decimal}
use Rattle.cal_base.specs.declared.ends.RunEnd.{RunEnd}
use Rattle.cal_base.specs.Text.{line, fault_line}
use Rattle.csl_reader.specs.declared.refusal.Refusal.{Refusal}
use Rattle.csl_reader.specs.Words.{words_of}

-- a part of the outside that can fail in a call and that counts its faults
pub data Part : Type 0 where
  files : Part
  out : Part

-- what an ending is: the command did its work to the end, or something that the call was given was turned away,
-- or a part of the outside failed, or memory was wanted
pub data Kind : Type 0 where
  worked : Kind
  turned_away : Kind
  failed : Part → Kind
  wanted_memory : Kind

-- how a call may end
pub data Ending : Type 0 where
  -- the run is done, or the text or file is written
  done : Ending
  no_command : Ending
  -- the file of this name could not be loaded
  cannot_load : (name : List ℕ) → Ending
  -- the file of this name could not be created or appended to
  cannot_write : (name : List ℕ) → Ending
  -- the program's text is refused, by what stands at this place of it
  refused : (at : ℕ) → Refusal → Ending
  -- the run ends in this fault
  fault : RunEnd → Ending
  no_memory : Ending
  output_failed : Ending
  script_refused : Ending
  -- this line, from 1 on, is the first that is no event
  events_refused : (number : ℕ) → Ending
  too_long : (name : List ℕ) → Ending
  module_refused : Ending

-- the kind of an ending
abbrev pub kind_of : Ending → Kind
kind_of done = worked
kind_of no_command = turned_away
kind_of (cannot_load name) = failed files
kind_of (cannot_write name) = failed files
kind_of (refused at why) = turned_away
kind_of (fault ending) = worked
kind_of no_memory = wanted_memory
kind_of output_failed = failed out
kind_of script_refused = turned_away
kind_of (events_refused number) = turned_away
kind_of (too_long name) = turned_away
kind_of module_refused = turned_away

-- the status of an ending
abbrev pub status_of : Ending → ℕ
status_of done = 0
status_of no_command = 2
status_of (cannot_load name) = 3
status_of (cannot_write name) = 3
status_of (refused at why) = 4
status_of (fault ending) = 5
status_of no_memory = 6
status_of output_failed = 7
status_of script_refused = 8
status_of (events_refused number) = 8
status_of (too_long name) = 9
status_of module_refused = 10

-- what err gets at an ending
abbrev pub err_text : Ending → List ℕ
err_text done = []
err_text no_command = line (codes "no command")
err_text (cannot_load name) = line (codes "file " ++ name ++ codes ": cannot be used")
err_text (cannot_write name) = line (codes "file " ++ name ++ codes ": cannot be used")
err_text (refused at why) = line (codes "refused: at " ++ decimal at ++ codes ": " ++ words_of why)
err_text (fault ending) = fault_line ending
err_text no_memory = line (codes "out of memory")
err_text output_failed = line (codes "output failed")
err_text script_refused = line (codes "script refused")
err_text (events_refused number) = line (codes "events refused: line " ++ decimal number)
err_text (too_long name) = line (codes "file " ++ name ++ codes ": too long")
err_text module_refused = line (codes "module refused")

-- the ending says by itself that out got nothing: something was turned away or not loaded
abbrev pub IsBeforeWork : Ending → Type 0
IsBeforeWork done = ⊥
IsBeforeWork no_command = Unit {0}
IsBeforeWork (cannot_load name) = Unit {0}
IsBeforeWork (cannot_write name) = ⊥
IsBeforeWork (refused at why) = Unit {0}
IsBeforeWork (fault ending) = ⊥
IsBeforeWork no_memory = ⊥
IsBeforeWork output_failed = ⊥
IsBeforeWork script_refused = Unit {0}
IsBeforeWork (events_refused number) = Unit {0}
IsBeforeWork (too_long name) = Unit {0}
IsBeforeWork module_refused = Unit {0}
