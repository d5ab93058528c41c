-- What a worker does with an execution, and how it is counted.
use Rattle.std.specs.Prelude.{ℕ, ◌+◌, true, false, if◌then◌else◌, Option, Some, None}
use Rattle.cal_base.specs.declared.step.WorkerTally.{WorkerTally}
use Rattle.fault_script.specs.Rows.{Row, has}
use Rattle.fault_script.specs.declared.act.Act.{Act}
use Rattle.fault_script.specs.declared.act.Act.TheVariants.{Deliver, Lose, Repeat, Hold}

-- the list that has the execution says what becomes of it; one that is in none is delivered
abbrev pub act_of : Row → ℕ → Act
act_of row i = if has row.lose i then Lose else (if has row.repeat i then Repeat else (if has row.hold i then Hold else Deliver))

-- nothing is done yet
abbrev pub first_tally : ℕ → WorkerTally
first_tally who = record { who = who; claims = 0; executed = 0; lost = 0; repeated = 0; held = 0; stopped = false; pages = 0 }

-- one more claim, with which the worker stopped, or after which it executed and did this
abbrev pub counted_as : WorkerTally → Option Act → WorkerTally
counted_as tally None = record tally { claims = tally.claims + 1; stopped = true }
counted_as tally (Some Deliver) = record tally { claims = tally.claims + 1; executed = tally.executed + 1 }
counted_as tally (Some Lose) = record tally { claims = tally.claims + 1; executed = tally.executed + 1; lost = tally.lost + 1 }
counted_as tally (Some Repeat) = record tally { claims = tally.claims + 1; executed = tally.executed + 1; repeated = tally.repeated + 1 }
counted_as tally (Some Hold) = record tally { claims = tally.claims + 1; executed = tally.executed + 1; held = tally.held + 1 }
