use Rattle.std.proofs.Common.{Err, [], false, refl, ◌∙◌, ap, subst}
use Rattle.std.specs.Io.KnownBytes.{Appends}
use Rattle.std.proofs.KnownBytes.{Appends-nil}
use Rattle.cal_base.specs.Contents.{AppendsPrefix}
use Rattle.cal_base.specs.Main.{Meaning}
use Rattle.cal_base.specs.Text.{text_of}
use Rattle.csl_meaning.specs.Meaning.{meaning}
use Rattle.calypso_cli.specs.Commands.{ended, run_of, usual_fuel}
use Rattle.calypso_cli.specs.Seen.{ending_seen}
use Rattle.calypso_cli.specs.Steps as step
use Rattle.calypso_cli.proofs.Kept.{ends_whole}
use Rattle.calypso_cli.proofs.selfrun.run_by_eight.Goals as goal

pub returns-in_default-clause-ends : goal.returns-in_default-clause-ends
returns-in_default-clause-ends g c = step.no_room ([], refl, Appends-nil (g.S.Sink.written c.args.out.now))

pub returns-in_default-selfrun_script-clause-ends : goal.returns-in_default-selfrun_script-clause-ends
returns-in_default-selfrun_script-clause-ends g c = step.no_room ([], refl, Appends-nil (g.S.Sink.written c.args.out.now))

pub returns-in-Ok-run-clause-ends : goal.returns-in-Ok-run-clause-ends
returns-in-Ok-run-clause-ends g c =
    ends_whole (run_of false (meaning c.args.program.now usual_fuel)) (g.S.Sink.written c.args.out.now) (g.S.Sink.written c.run.new.out) (g.S.Sink.faults c.args.out.now)
    (g.S.Sink.faults c.run.new.out)
    (ending_seen c.of_run.result)
    (subst (λ (m : Meaning). Appends (g.S.Sink.written c.args.out.now) (g.S.Sink.written c.run.new.out) (text_of false m.events)) (c.in-Ok.ensures.means usual_fuel) c.in-Ok-run.ensures.whole)
    (c.of_run.ensures ∙ ap ended (c.in-Ok-run.ensures.end ∙ ap (λ (m : Meaning). m.ending) (c.in-Ok.ensures.means usual_fuel)))

pub returns-in-Err-OutFailed-clause-ends : goal.returns-in-Err-OutFailed-clause-ends
returns-in-Err-OutFailed-clause-ends g c =
    step.out_failed (c.in-Err-OutFailed.ensures.out_failed (ap (λ e. Err e) c.in-Err-OutFailed.field-0-is))
    (subst (λ (m : Meaning). AppendsPrefix (g.S.Sink.written c.args.out.now) (g.S.Sink.written c.run.new.out) (text_of false m.events)) (c.in-Ok.ensures.means usual_fuel)
    c.in-Err-OutFailed.ensures.prefix)

pub returns-in-Err-NoMemory-clause-ends : goal.returns-in-Err-NoMemory-clause-ends
returns-in-Err-NoMemory-clause-ends g c =
    step.no_room
    (subst (λ (m : Meaning). AppendsPrefix (g.S.Sink.written c.args.out.now) (g.S.Sink.written c.run.new.out) (text_of false m.events)) (c.in-Ok.ensures.means usual_fuel)
    c.in-Err-NoMemory.ensures.prefix)
