use Rattle.std.proofs.Common.{Err, false, ◌∙◌, ap}
use Rattle.csl_meaning.specs.Meaning.{meaning}
use Rattle.calypso_cli.specs.Commands.{ended, run_of, usual_fuel}
use Rattle.calypso_cli.specs.Seen.{ending_seen}
use Rattle.calypso_cli.specs.Steps as step
use Rattle.calypso_cli.proofs.Kept.{ends_whole}
use Rattle.calypso_cli.proofs.eval.evaluate.Goals as goal

pub returns-in-Ok-clause-ends : goal.returns-in-Ok-clause-ends
returns-in-Ok-clause-ends g c =
    ends_whole (run_of false (meaning c.args.program.now usual_fuel)) (g.S.Sink.written c.args.out.now) (g.S.Sink.written c.eval.new.out) (g.S.Sink.faults c.args.out.now)
    (g.S.Sink.faults c.eval.new.out)
    (ending_seen c.of_run.result) c.in-Ok.ensures.whole (c.of_run.ensures ∙ ap ended c.in-Ok.ensures.end)

pub returns-in-Err-OutFailed-clause-ends : goal.returns-in-Err-OutFailed-clause-ends
returns-in-Err-OutFailed-clause-ends g c = step.out_failed (c.in-Err-OutFailed.ensures.failed (ap (λ e. Err e) c.in-Err-OutFailed.field-0-is)) c.in-Err-OutFailed.ensures.prefix

pub returns-in-Err-NoMemory-clause-ends : goal.returns-in-Err-NoMemory-clause-ends
returns-in-Err-NoMemory-clause-ends g c = step.no_room c.in-Err-NoMemory.ensures.prefix
