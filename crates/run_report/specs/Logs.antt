-- The text of a log: the history of each step.
use Rattle.std.specs.Prelude.{ℕ, ◌==◌, if◌then◌else◌, List, ◌++◌, codes}
use Rattle.std.specs.List.{flat_map}
use Rattle.std.specs.Fmt.{decimal}
use Rattle.cal_base.specs.declared.step.Verdict.{Verdict}
use Rattle.cal_base.specs.declared.step.Verdict.TheVariants.{First, Again, Stale, Unasked, Full}
use Rattle.cal_base.specs.declared.step.Entry.{Entry}
use Rattle.cal_base.specs.declared.step.Entry.TheVariants.{Claim, Arrive}
use Rattle.cal_base.specs.declared.step.TheConstants.{CALLER}
use Rattle.cal_base.specs.Text.{line}
use Rattle.cal_base.specs.History.{History}

-- one step of a run, as a log shows it: its number, how many routines it has, and its history
pub record TracedStep : Type 0 where
  pub number : ℕ
  pub size : ℕ
  pub history : History

-- the steps of a run, in order
abbrev pub Trace : Type 0
Trace = List TracedStep

-- who claims or delivers: a worker's number, or the caller
abbrev pub who_text : ℕ → List ℕ
who_text who = if who == CALLER then codes "caller" else decimal who

-- the word for a verdict
abbrev pub verdict_text : Verdict → List ℕ
verdict_text First = codes "first"
verdict_text Again = codes "again"
verdict_text Stale = codes "stale"
verdict_text Unasked = codes "unasked"
verdict_text Full = codes "full"

-- the line of an entry
abbrev pub entry_line : Entry → List ℕ
entry_line (Claim who k) = line (codes "claim " ++ who_text who ++ codes " " ++ decimal k)
entry_line (Arrive who step k verdict) =
    line (codes "arrive " ++ who_text who ++ codes " " ++ decimal step ++ codes " " ++ decimal k ++ codes " " ++ verdict_text verdict)

-- the line before a step's entries
abbrev pub head_line : (number size : ℕ) → List ℕ
head_line number size = line (codes "step " ++ decimal number ++ codes " of " ++ decimal size)

-- the lines of a step: its number and size, and its history
abbrev pub step_log : TracedStep → List ℕ
step_log step = head_line step.number step.size ++ flat_map entry_line step.history

-- the lines of all steps
abbrev pub log_text : Trace → List ℕ
log_text trace = flat_map step_log trace
