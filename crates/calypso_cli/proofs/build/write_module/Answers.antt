use Rattle.std.proofs.Common.{subst}
use Rattle.calypso_cli.specs.Seen.{ending_seen}
use Rattle.calypso_cli.specs.Steps as step
use Rattle.calypso_cli.specs.Steps.{EndsFile}
use Rattle.calypso_cli.proofs.Promises.{same_files}
use Rattle.calypso_cli.proofs.build.write_module.Goals as goal

pub returns-in-Ok-clause-ends : goal.returns-in-Ok-clause-ends
returns-in-Ok-clause-ends g c =
    step.wrote c.in-Ok.bytes.items (ending_seen c.write_file.result) c.in-Ok.ensures
    (subst (λ b. EndsFile c.args.into.now b (g.F.Files.holds c.args.files.now) (g.F.Files.holds c.write_file.new.files) (g.F.Files.faults c.args.files.now) (g.F.Files.faults c.write_file.new.files)
    (ending_seen c.write_file.result))
    c.deref.ensures.value c.write_file.ensures.ends)

pub returns-in-Err-clause-ends : goal.returns-in-Err-clause-ends
returns-in-Err-clause-ends g c = step.no_room (same_files (g.F.Files.holds c.args.files.now))
