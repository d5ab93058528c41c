use Rattle.std.proofs.Common.{◌++◌, ◌+◌, ◌∙◌, drop, subst, arith}
use Rattle.std.specs.List.{flat_map}
use Rattle.std.specs.Io.KnownBytes.{Appends}
use Rattle.std.proofs.KnownBytes.{Appends-trans}
use Rattle.cal_base.specs.Contents.{AppendsPrefix}
use Rattle.run_report.specs.Reports.{tally_line, report_text}
use Rattle.run_report.specs.Lines.{Moves}
use Rattle.run_report.proofs.Fronts.{on_err, err_holds}
use Rattle.run_report.proofs.Moving.{moves_on, adds_on, lines_behind, stopped}
use Rattle.run_report.proofs.reports.report_lines.Goals as goal

pub returns-in_err-make_room-clause-err : goal.returns-in_err-make_room-clause-err
returns-in_err-make_room-clause-err g c =
    err_holds c.from_residual.result
    (stopped (g.E.Sink.written c.args.err.now) (g.E.Sink.written c.loop-tally.err) _ _ c.loop-tally.lines.bytes (flat_map tally_line (drop c.loop-tally.tally-index c.args.tallies.now))
    c.loop-tally.invariant.way c.in_err-make_room.ensures.err)

pub loop-tally-preserved : goal.loop-tally-preserved
loop-tally-preserved g c = record {
  way =
      adds_on _ c.make_room.new.lines.bytes c.push_tally.new.lines.bytes _ (flat_map tally_line (drop (c.loop-tally.tally-index + 1) c.args.tallies.now)) _ c.push_tally.ensures.added
      (moves_on _ _ _ c.loop-tally.lines.bytes c.make_room.new.lines.bytes _
      (λ a b one two. Appends-trans (g.E.Sink.written c.args.err.now) (g.E.Sink.written c.loop-tally.err) (g.E.Sink.written c.make_room.new.sink) a b one two)
      (report_text c.args.tallies.now)
      (subst (λ l. Moves (Appends (g.E.Sink.written c.args.err.now) (g.E.Sink.written c.loop-tally.err)) (report_text c.args.tallies.now) (c.loop-tally.lines.bytes ++ l))
      (lines_behind tally_line c.args.tallies.now c.loop-tally.tally-index _ (omega arith)) c.loop-tally.invariant.way)
      c.in_ok-make_room.ensures.ok);
  later = omega arith;
}

pub returns-clause-err : goal.returns-clause-err
returns-clause-err g c =
    on_err c.write_all.result
    (λ h. stopped (g.E.Sink.written c.args.err.now) (g.E.Sink.written c.loop-tally.err) (g.E.Sink.written c.write_all.new.sink) _ c.loop-tally.lines.bytes
    (flat_map tally_line (drop c.loop-tally.tally-index c.args.tallies.now)) c.loop-tally.invariant.way
    (subst (AppendsPrefix (g.E.Sink.written c.loop-tally.err) (g.E.Sink.written c.write_all.new.sink)) (c.as_bytes.ensures.value ∙ c.as_str.ensures.value) h))
    c.write_all.ensures.err
