-- Endings of the code, as contracts see them.
use Rattle.std.specs.Prelude.{ℕ, List, [], Option, None, Some}
use Rattle.cal_base.specs.declared.step.WorkerTally.{WorkerTally}
use Rattle.run_report.specs.Reports.{report_text}
use Rattle.calypso_cli.specs.declared.ending.Ending.{Ending}
use Rattle.calypso_cli.specs.declared.ending.Ending.TheVariants.{Done, NoCommand, CannotLoad, CannotWrite, Refused, Fault, NoMemory}
use Rattle.calypso_cli.specs.declared.ending.Ending.TheVariants.{OutputFailed, ScriptRefused, EventsRefused, TooLong, ModuleRefused}
use Rattle.calypso_cli.specs.Endings as table

-- the report: the lines of the tallies, where there are some
abbrev pub report_seen : Option (List WorkerTally) → List ℕ
report_seen None = []
report_seen (Some tallies) = report_text tallies

-- the ending
abbrev pub ending_seen : Ending → table.Ending
ending_seen Done = table.done
ending_seen NoCommand = table.no_command
ending_seen (CannotLoad name) = table.cannot_load name.now
ending_seen (CannotWrite name) = table.cannot_write name.now
ending_seen (Refused at why) = table.refused at why
ending_seen (Fault ending) = table.fault ending
ending_seen NoMemory = table.no_memory
ending_seen OutputFailed = table.output_failed
ending_seen ScriptRefused = table.script_refused
ending_seen (EventsRefused number) = table.events_refused number
ending_seen (TooLong name) = table.too_long name.now
ending_seen ModuleRefused = table.module_refused
