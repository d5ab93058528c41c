use Rattle.std.proofs.Common.{◌∙◌, subst}
use Rattle.std.specs.Io.KnownBytes.{Appends}
use Rattle.cal_base.specs.Contents.{AppendsPrefix}
use Rattle.run_report.proofs.Fronts.{on_ok, on_err}
use Rattle.run_report.proofs.FaultLines.{conflict_line}
use Rattle.run_report.proofs.faults.write_conflict.Goals as goal

pub returns-clause-ok : goal.returns-clause-ok
returns-clause-ok g c =
    on_ok c.write_pieces.result
    (subst (Appends (g.S.Sink.written c.args.sink.now) (g.S.Sink.written c.write_pieces.new.sink))
    (conflict_line c.args.step c.args.routine c.args.word c.args.other _ _ _ _ (c.as_bytes.ensures.value ∙ c.format.ensures.text) (c.as_bytes-2.ensures.value ∙ c.format-2.ensures.text)
    (c.as_bytes-3.ensures.value ∙ c.format-3.ensures.text) (c.as_bytes-4.ensures.value ∙ c.format-4.ensures.text)))
    c.write_pieces.ensures.ok

pub returns-clause-err : goal.returns-clause-err
returns-clause-err g c =
    on_err c.write_pieces.result
    (subst (AppendsPrefix (g.S.Sink.written c.args.sink.now) (g.S.Sink.written c.write_pieces.new.sink))
    (conflict_line c.args.step c.args.routine c.args.word c.args.other _ _ _ _ (c.as_bytes.ensures.value ∙ c.format.ensures.text) (c.as_bytes-2.ensures.value ∙ c.format-2.ensures.text)
    (c.as_bytes-3.ensures.value ∙ c.format-3.ensures.text) (c.as_bytes-4.ensures.value ∙ c.format-4.ensures.text)))
    c.write_pieces.ensures.err
