use Rattle.std.proofs.Common.{refl}
use Rattle.calypso_cli.proofs.Built.{build_stop, build_ends}
use Rattle.calypso_cli.proofs.build.build_file.Goals as goal

pub returns-in-Ok-clause-works : goal.returns-in-Ok-clause-works
returns-in-Ok-clause-works g c = λ out out_faults.
    build_ends c.args.file.now c.args.into.now
    (record { files = g.F.Files.holds c.args.files.now; out = out; file_faults = g.F.Files.faults c.args.files.now; out_faults = out_faults })
    (record { files = g.F.Files.holds c.write_module.new.files; out = out; file_faults = g.F.Files.faults c.write_module.new.files; out_faults = out_faults })
    refl c.in-Ok.program c.in-Ok.ensures.loaded (g.F.Files.holds c.load_program.new.files) (g.F.Files.faults c.load_program.new.files)
    c.load_program.ensures.files c.load_program.ensures.later c.write_module.ensures.ends

pub returns-in-Err-clause-works : goal.returns-in-Err-clause-works
returns-in-Err-clause-works g c = λ out out_faults.
    build_stop c.args.file.now c.args.into.now
    (record { files = g.F.Files.holds c.args.files.now; out = out; file_faults = g.F.Files.faults c.args.files.now; out_faults = out_faults })
    (record { files = g.F.Files.holds c.load_program.new.files; out = out; file_faults = g.F.Files.faults c.load_program.new.files; out_faults = out_faults })
    refl c.load_program.ensures.files c.in-Err.ensures.stops
