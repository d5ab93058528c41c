use Rattle.std.proofs.Common.{◌∙◌, subst}
use Rattle.std.specs.Io.KnownBytes.{Appends}
use Rattle.cal_base.specs.Contents.{AppendsPrefix}
use Rattle.csl_reader.specs.Words.{words_of}
use Rattle.run_report.proofs.Fronts.{on_ok, on_err}
use Rattle.calypso_cli.proofs.FaultLines.{refusal_line}
use Rattle.calypso_cli.proofs.ending.write_refusal.Goals as goal

pub returns-clause-ok : goal.returns-clause-ok
returns-clause-ok g c =
    on_ok c.write_pieces.result
    (subst (Appends (g.E.Sink.written c.args.err.now) (g.E.Sink.written c.write_pieces.new.sink))
    (refusal_line c.args.at (words_of c.args.why) _ _ (c.as_bytes.ensures.value ∙ c.format.ensures.text) (c.as_bytes-2.ensures.value ∙ c.words.ensures)))
    c.write_pieces.ensures.ok

pub returns-clause-err : goal.returns-clause-err
returns-clause-err g c =
    on_err c.write_pieces.result
    (subst (AppendsPrefix (g.E.Sink.written c.args.err.now) (g.E.Sink.written c.write_pieces.new.sink))
    (refusal_line c.args.at (words_of c.args.why) _ _ (c.as_bytes.ensures.value ∙ c.format.ensures.text) (c.as_bytes-2.ensures.value ∙ c.words.ensures)))
    c.write_pieces.ensures.err
