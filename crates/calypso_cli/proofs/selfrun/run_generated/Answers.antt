use Rattle.std.proofs.Common.{refl}
use Rattle.calypso_cli.specs.Promise.{objects_of}
use Rattle.calypso_cli.specs.Seen.{ending_seen}
use Rattle.calypso_cli.proofs.Texts.{works_selfrun, stops_selfrun}
use Rattle.calypso_cli.proofs.selfrun.run_generated.Goals as goal

pub returns-in-Ok-clause-works : goal.returns-in-Ok-clause-works
returns-in-Ok-clause-works g c =
    works_selfrun c.args.which.now.number c.args.which.now.size c.in-Ok.program c.in-Ok.ensures.read
    (objects_of (g.F.Files.holds c.args.files.now) (g.S.Sink.written c.args.out.now) (g.F.Files.faults c.args.files.now) (g.S.Sink.faults c.args.out.now))
    (objects_of (g.F.Files.holds c.run_by_eight.new.files) (g.S.Sink.written c.run_by_eight.new.out) (g.F.Files.faults c.run_by_eight.new.files) (g.S.Sink.faults c.run_by_eight.new.out))
    c.run_by_eight.ensures.files c.run_by_eight.ensures.ends

pub returns-in-Err-clause-works : goal.returns-in-Err-clause-works
returns-in-Err-clause-works g c =
    stops_selfrun c.args.which.now.number c.args.which.now.size
    (objects_of (g.F.Files.holds c.args.files.now) (g.S.Sink.written c.args.out.now) (g.F.Files.faults c.args.files.now) (g.S.Sink.faults c.args.out.now))
    (ending_seen c.in-Err.ending) c.in-Err.ensures.turned
