use Rattle.std.proofs.Common.{◌≤◌, ◌++◌, drop}
use Rattle.std.specs.List.{flat_map}
use Rattle.std.specs.Io.KnownBytes.{Appends}
use Rattle.run_report.specs.Reports.{tally_line, report_text}
use Rattle.run_report.specs.Lines.{Moves}
use Rattle.run_report.proofs.reports.report_lines.Given as goal

-- what waits and the tallies to come are the rest of the report
abbrev pub invariant-loop-tally : goal.invariant-loop-tally
invariant-loop-tally g l = record {
  way : Moves (Appends (g.E.Sink.written l.initial.err) (g.E.Sink.written l.err)) (report_text l.tallies) (l.lines.bytes ++ flat_map tally_line (drop l.tally-index l.tallies));
  later : g.E.Sink.faults l.initial.err ≤ g.E.Sink.faults l.err;
}
