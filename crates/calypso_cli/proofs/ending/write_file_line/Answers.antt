use Rattle.std.proofs.Common.{subst, refl}
use Rattle.std.specs.Io.KnownBytes.{Appends}
use Rattle.cal_base.specs.Contents.{AppendsPrefix}
use Rattle.run_report.proofs.Fronts.{on_ok, on_err}
use Rattle.calypso_cli.proofs.FaultLines.{file_line}
use Rattle.calypso_cli.proofs.ending.write_file_line.Goals as goal

pub returns-clause-ok : goal.returns-clause-ok
returns-clause-ok g c =
    on_ok c.write_pieces.result
    (subst (Appends (g.E.Sink.written c.args.err.now) (g.E.Sink.written c.write_pieces.new.sink)) (file_line c.args.name.now c.args.what.now _ _ c.as_bytes.ensures.value refl))
    c.write_pieces.ensures.ok

pub returns-clause-err : goal.returns-clause-err
returns-clause-err g c =
    on_err c.write_pieces.result
    (subst (AppendsPrefix (g.E.Sink.written c.args.err.now) (g.E.Sink.written c.write_pieces.new.sink)) (file_line c.args.name.now c.args.what.now _ _ c.as_bytes.ensures.value refl))
    c.write_pieces.ensures.err
