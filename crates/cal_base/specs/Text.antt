-- The text of a run, its status and the line of a fault.
use Rattle.std.specs.Prelude.{ℕ, ◌+◌, Bool, if◌then◌else◌, List, [], ◌∷◌, ◌++◌, codes}
use Rattle.std.specs.Fmt.{decimal, signed_decimal}
use Rattle.std.specs.Ordering.{int_eq}
use Rattle.cal_base.specs.declared.ends.Cause.{Cause}
use Rattle.cal_base.specs.declared.ends.Cause.TheVariants.{Overflow, DivisionByZero, OutOfRange, Assertion, TooDeep, BadWidth, FuelSpent}
use Rattle.cal_base.specs.declared.ends.StepFault.{StepFault}
use Rattle.cal_base.specs.declared.ends.StepFault.TheVariants.{Trap, Conflict, Total}
use Rattle.cal_base.specs.declared.ends.RunEnd.{RunEnd}
use Rattle.cal_base.specs.declared.ends.RunEnd.TheVariants.{Done, MainFault, StepFailed}
use Rattle.cal_base.specs.Memory.{Memory}
use Rattle.cal_base.specs.Main.{Event, Line, Step}

-- a text as a line
abbrev pub line : List ℕ → List ℕ
line text = text ++ 10 ∷ []

-- one line for each word whose value changed, addresses ascending
abbrev pub changes_from : ℕ → Memory → Memory → List ℕ
changes_from at [] later = []
changes_from at (old ∷ before) [] = []
changes_from at (old ∷ before) (new ∷ later) =
    (if int_eq old.value new.value then [] else line (codes "word " ++ decimal at ++ codes " = " ++ signed_decimal new.value))
    ++ changes_from (at + 1) before later

-- the lines of a completed step
abbrev pub step_lines : ℕ → Memory → Memory → List ℕ
step_lines number before later = line (codes "step " ++ decimal number) ++ changes_from 0 before later

-- what one event writes, where the flag says whether steps are shown
abbrev pub event_text : Bool → Event → List ℕ
event_text steps (Line bytes) = bytes
event_text steps (Step number size before later) = if steps then step_lines number before later else []

-- what a run writes
abbrev pub text_of : Bool → List Event → List ℕ
text_of steps [] = []
text_of steps (event ∷ rest) = event_text steps event ++ text_of steps rest

-- the status of a run: 0 where it is done, else 5
abbrev pub status_of : RunEnd → ℕ
status_of (Done steps) = 0
status_of (MainFault after cause) = 5
status_of (StepFailed step fault) = 5

-- the words for a cause
abbrev pub cause_text : Cause → List ℕ
cause_text Overflow = codes "overflow"
cause_text DivisionByZero = codes "division by zero"
cause_text OutOfRange = codes "index out of range"
cause_text Assertion = codes "assertion failed"
cause_text TooDeep = codes "too deep"
cause_text BadWidth = codes "bad width"
cause_text FuelSpent = codes "fuel spent"

-- the words for the fault of a step, behind the step's number
abbrev pub step_fault_text : StepFault → List ℕ
step_fault_text (Trap routine cause) = codes ", routine " ++ decimal routine ++ codes ": " ++ cause_text cause
step_fault_text (Conflict routine word other) =
    codes ", routine " ++ decimal routine ++ codes ": word " ++ decimal word ++ codes " also written by routine " ++ decimal other
step_fault_text (Total word) = codes ": total at word " ++ decimal word

-- the line of a fault, and nothing where the run is done
abbrev pub fault_line : RunEnd → List ℕ
fault_line (Done steps) = []
fault_line (MainFault after cause) = line (codes "fault: after step " ++ decimal after ++ codes ": " ++ cause_text cause)
fault_line (StepFailed step fault) = line (codes "fault: step " ++ decimal step ++ step_fault_text fault)
