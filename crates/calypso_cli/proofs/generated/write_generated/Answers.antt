use Rattle.std.proofs.Common.{◌∙◌, refl, [], subst}
use Rattle.std.specs.Io.KnownBytes.{Appends}
use Rattle.std.proofs.KnownBytes.{Appends-nil}
use Rattle.cal_base.specs.Contents.{AppendsPrefix}
use Rattle.calypso_cli.specs.Steps as step
use Rattle.calypso_cli.proofs.Alone.{works_gen}
use Rattle.calypso_cli.proofs.generated.write_generated.Goals as goal

pub returns-in_default-clause-works : goal.returns-in_default-clause-works
returns-in_default-clause-works g c = λ told file_faults.
    works_gen c.args.number c.args.size told file_faults (g.S.Sink.written c.args.out.now) (g.S.Sink.written c.args.out.now) (g.S.Sink.faults c.args.out.now) (g.S.Sink.faults c.args.out.now)
    (step.no_room ([], refl, Appends-nil (g.S.Sink.written c.args.out.now)))

pub returns-in-Ok-write_all-clause-works : goal.returns-in-Ok-write_all-clause-works
returns-in-Ok-write_all-clause-works g c = λ told file_faults.
    works_gen c.args.number c.args.size told file_faults (g.S.Sink.written c.args.out.now) (g.S.Sink.written c.write_all.new.sink) (g.S.Sink.faults c.args.out.now)
    (g.S.Sink.faults c.write_all.new.sink)
    (step.whole (subst (Appends (g.S.Sink.written c.args.out.now) (g.S.Sink.written c.write_all.new.sink)) (c.deref.ensures.value ∙ c.in-Ok.ensures.text) c.in-Ok-write_all.ensures.ok))

pub returns-clause-works : goal.returns-clause-works
returns-clause-works g c = λ told file_faults.
    works_gen c.args.number c.args.size told file_faults (g.S.Sink.written c.args.out.now) (g.S.Sink.written c.write_all.new.sink) (g.S.Sink.faults c.args.out.now)
    (g.S.Sink.faults c.write_all.new.sink)
    (step.out_failed c.in-Err.ensures.cause.failed (subst (AppendsPrefix (g.S.Sink.written c.args.out.now) (g.S.Sink.written c.write_all.new.sink)) (c.deref.ensures.value ∙ c.in-Ok.ensures.text)
    c.in-Err.ensures.err))
