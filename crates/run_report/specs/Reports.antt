-- The text of a report: what each worker did over a run, and the caller.
use Rattle.std.specs.Prelude.{ℕ, ◌==◌, Bool, true, false, if◌then◌else◌, List, ◌++◌, codes}
use Rattle.std.specs.List.{flat_map}
use Rattle.std.specs.Fmt.{decimal}
use Rattle.cal_base.specs.declared.step.WorkerTally.{WorkerTally}
use Rattle.cal_base.specs.declared.step.TheConstants.{CALLER}
use Rattle.cal_base.specs.Text.{line}

abbrev pub yes_or_no : Bool → List ℕ
yes_or_no true = codes "yes"
yes_or_no false = codes "no"

-- the line of a worker
abbrev pub worker_line : WorkerTally → List ℕ
worker_line tally =
    line (codes "worker " ++ decimal tally.who ++ codes ": claims " ++ decimal tally.claims ++ codes " executed " ++ decimal tally.executed
    ++ codes " lost " ++ decimal tally.lost ++ codes " repeated " ++ decimal tally.repeated ++ codes " held " ++ decimal tally.held
    ++ codes " stopped " ++ yes_or_no tally.stopped ++ codes " pages " ++ decimal tally.pages)

-- the line of the caller
abbrev pub caller_line : WorkerTally → List ℕ
caller_line tally =
    line (codes "caller: claims " ++ decimal tally.claims ++ codes " executed " ++ decimal tally.executed ++ codes " pages "
    ++ decimal tally.pages)

-- the line of a tally, by its number
abbrev pub tally_line : WorkerTally → List ℕ
tally_line tally = if tally.who == CALLER then caller_line tally else worker_line tally

-- the lines of all tallies, in their order
abbrev pub report_text : List WorkerTally → List ℕ
report_text tallies = flat_map tally_line tallies
