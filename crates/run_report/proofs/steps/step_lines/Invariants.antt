use Rattle.std.proofs.Common.{◌≤◌, ◌++◌, drop}
use Rattle.std.specs.Io.KnownBytes.{Appends}
use Rattle.cal_base.specs.Text.{step_lines, changes_from}
use Rattle.run_report.specs.Lines.{Moves}
use Rattle.run_report.proofs.steps.step_lines.Given as goal

-- what waits and the changes to come are the rest of the step's lines
abbrev pub invariant-loop-a : goal.invariant-loop-a
invariant-loop-a g l = record {
  way : Moves (Appends (g.S.Sink.written l.initial.out) (g.S.Sink.written l.out)) (step_lines l.step l.before.memory l.after.memory)
      (l.lines.bytes ++ changes_from l.a (drop l.a l.before.memory) (drop l.a l.after.memory));
  later : g.S.Sink.faults l.initial.out ≤ g.S.Sink.faults l.out;
}
