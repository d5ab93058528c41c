use Rattle.std.proofs.Common.{◌≡◌, ◌∙◌, sym, ap, subst}
use Rattle.run_report.specs.Reports.{report_text}
use Rattle.cal_base.specs.Contents.{AppendsPrefix}
use Rattle.run_report.proofs.Fronts.{on_err}
use Rattle.calypso_cli.specs.Endings.{err_text}
use Rattle.calypso_cli.specs.Seen.{ending_seen, report_seen}
use Rattle.calypso_cli.proofs.Executed.{front_behind_text}
use Rattle.calypso_cli.proofs.ending.Ended.write.Goals as goal

pub returns-in-Some-clause-err : goal.returns-in-Some-clause-err
returns-in-Some-clause-err g c =
    on_err c.report_lines.result
    (λ h. front_behind_text (g.E.Sink.written c.args.err.now) (g.E.Sink.written c.write.new.err) (g.E.Sink.written c.report_lines.new.err) (err_text (ending_seen c.args.self.now.ending))
    (report_seen c.args.self.now.report)
    c.in_ok-write.ensures.ok
    (subst (AppendsPrefix (g.E.Sink.written c.write.new.err) (g.E.Sink.written c.report_lines.new.err)) (ap report_text c.as_slice.ensures ∙ sym (ap report_seen c.in-Some.is)) h))
    c.report_lines.ensures.err
