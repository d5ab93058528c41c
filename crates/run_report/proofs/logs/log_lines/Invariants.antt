use Rattle.std.proofs.Common.{◌≤◌, ◌++◌, drop}
use Rattle.std.specs.List.{flat_map}
use Rattle.cal_base.specs.Contents.{Told, AppendsTo, StaysTrue}
use Rattle.run_report.specs.Logs.{entry_line, step_log}
use Rattle.run_report.specs.Lines.{Moves}
use Rattle.run_report.proofs.logs.log_lines.Given as goal

-- what waits and the entries to come are the rest of the step's log
abbrev pub invariant-loop-entry : goal.invariant-loop-entry
invariant-loop-entry g l = record {
  way : Moves (λ front. Told (g.F.Files.holds l.initial.files) (g.F.Files.holds l.files) (AppendsTo l.name front)) (step_log (record { number = l.step; size = l.n; history = l.history }))
      (l.lines.bytes ++ flat_map entry_line (drop l.entry-index l.history));
  made : g.F.Files.created l.files l.name;
  created : StaysTrue (g.F.Files.created l.initial.files) (g.F.Files.created l.files);
  later : g.F.Files.faults l.initial.files ≤ g.F.Files.faults l.files;
}
