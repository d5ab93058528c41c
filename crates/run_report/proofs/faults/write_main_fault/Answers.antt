use Rattle.std.proofs.Common.{◌∙◌, subst}
use Rattle.std.specs.Io.KnownBytes.{Appends}
use Rattle.cal_base.specs.Contents.{AppendsPrefix}
use Rattle.run_report.proofs.Fronts.{on_ok, on_err}
use Rattle.run_report.proofs.FaultLines.{main_line}
use Rattle.run_report.proofs.faults.write_main_fault.Goals as goal

pub returns-clause-ok : goal.returns-clause-ok
returns-clause-ok g c =
    on_ok c.write_pieces.result
    (subst (Appends (g.S.Sink.written c.args.sink.now) (g.S.Sink.written c.write_pieces.new.sink))
    (main_line c.args.after c.args.cause _ _ (c.as_bytes.ensures.value ∙ c.format.ensures.text) (c.as_bytes-2.ensures.value ∙ c.cause_text.ensures)))
    c.write_pieces.ensures.ok

pub returns-clause-err : goal.returns-clause-err
returns-clause-err g c =
    on_err c.write_pieces.result
    (subst (AppendsPrefix (g.S.Sink.written c.args.sink.now) (g.S.Sink.written c.write_pieces.new.sink))
    (main_line c.args.after c.args.cause _ _ (c.as_bytes.ensures.value ∙ c.format.ensures.text) (c.as_bytes-2.ensures.value ∙ c.cause_text.ensures)))
    c.write_pieces.ensures.err
