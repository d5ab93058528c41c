use Rattle.calypso_cli.proofs.Written.{ends_created, ends_written, ends_appended}
use Rattle.calypso_cli.proofs.build.write_file.Goals as goal

pub returns-in-Ok-append_all-clause-ends : goal.returns-in-Ok-append_all-clause-ends
returns-in-Ok-append_all-clause-ends g c =
    ends_written c.args.into.now c.args.bytes.now (g.F.Files.holds c.args.files.now) (g.F.Files.holds c.create.new.self) (g.F.Files.holds c.append_all.new.files)
    (g.F.Files.faults c.args.files.now) (g.F.Files.faults c.append_all.new.files) c.in-Ok.ensures.ok c.in-Ok-append_all.ensures.ok

pub returns-in-Err-append_all-clause-ends : goal.returns-in-Err-append_all-clause-ends
returns-in-Err-append_all-clause-ends g c =
    ends_appended c.args.into.now c.args.bytes.now (g.F.Files.holds c.args.files.now) (g.F.Files.holds c.create.new.self) (g.F.Files.holds c.append_all.new.files)
    (g.F.Files.faults c.args.files.now) (g.F.Files.faults c.create.new.self) (g.F.Files.faults c.append_all.new.files)
    c.in-Ok.ensures.cause.later c.in-Err-append_all.ensures.cause.failed c.in-Ok.ensures.ok c.in-Err-append_all.ensures.err

pub returns-in-Err-clause-ends : goal.returns-in-Err-clause-ends
returns-in-Err-clause-ends g c =
    ends_created c.args.into.now c.args.bytes.now (g.F.Files.holds c.args.files.now) (g.F.Files.holds c.create.new.self)
    (g.F.Files.faults c.args.files.now) (g.F.Files.faults c.create.new.self) c.in-Err.ensures.cause.failed c.in-Err.ensures.err
