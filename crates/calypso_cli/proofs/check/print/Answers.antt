use Rattle.std.proofs.Common.{◌∙◌, ap, refl, [], subst}
use Rattle.std.specs.Io.KnownBytes.{Appends}
use Rattle.std.proofs.KnownBytes.{Appends-nil}
use Rattle.cal_base.specs.Contents.{AppendsPrefix}
use Rattle.csl_print.specs.Canonical.{canonical}
use Rattle.calypso_cli.specs.Steps as step
use Rattle.calypso_cli.proofs.check.print.Goals as goal

pub returns-in_default-clause-ends : goal.returns-in_default-clause-ends
returns-in_default-clause-ends g c = step.no_room ([], refl, Appends-nil (g.S.Sink.written c.args.out.now))

pub returns-in-Ok-write_all-clause-ends : goal.returns-in-Ok-write_all-clause-ends
returns-in-Ok-write_all-clause-ends g c =
    step.whole (subst (Appends (g.S.Sink.written c.args.out.now) (g.S.Sink.written c.write_all.new.sink))
    (c.deref.ensures.value ∙ c.in-Ok.ensures.canonical ∙ ap canonical c.program.ensures.same) c.in-Ok-write_all.ensures.ok)

pub returns-clause-ends : goal.returns-clause-ends
returns-clause-ends g c =
    step.out_failed c.in-Err.ensures.cause.failed (subst (AppendsPrefix (g.S.Sink.written c.args.out.now) (g.S.Sink.written c.write_all.new.sink))
    (c.deref.ensures.value ∙ c.in-Ok.ensures.canonical ∙ ap canonical c.program.ensures.same) c.in-Err.ensures.err)
