use Rattle.std.proofs.Common.{refl}
use Rattle.command_words.specs.Commands.{check}
use Rattle.calypso_cli.specs.Commands.{check_of}
use Rattle.calypso_cli.proofs.Promises.{loads_check, stops_on, works_on}
use Rattle.calypso_cli.proofs.check.check_file.Goals as goal

pub returns-in-Ok-clause-works : goal.returns-in-Ok-clause-works
returns-in-Ok-clause-works g c =
    works_on (check c.args.file.now) c.args.file.now check_of (loads_check c.args.file.now)
    (record { files = g.F.Files.holds c.args.files.now; out = g.S.Sink.written c.args.out.now; file_faults = g.F.Files.faults c.args.files.now; out_faults = g.S.Sink.faults c.args.out.now })
    (record { files = g.F.Files.holds c.load_program.new.files; out = g.S.Sink.written c.print.new.out; file_faults = g.F.Files.faults c.load_program.new.files; out_faults = g.S.Sink.faults c.print.new.out })
    c.load_program.ensures.files c.in-Ok.program c.in-Ok.ensures.loaded c.print.ensures.ends

pub returns-in-Err-clause-works : goal.returns-in-Err-clause-works
returns-in-Err-clause-works g c =
    stops_on (check c.args.file.now) c.args.file.now check_of (loads_check c.args.file.now)
    (record { files = g.F.Files.holds c.args.files.now; out = g.S.Sink.written c.args.out.now; file_faults = g.F.Files.faults c.args.files.now; out_faults = g.S.Sink.faults c.args.out.now })
    (record { files = g.F.Files.holds c.load_program.new.files; out = g.S.Sink.written c.args.out.now; file_faults = g.F.Files.faults c.load_program.new.files; out_faults = g.S.Sink.faults c.args.out.now })
    c.load_program.ensures.files refl c.in-Err.ensures.stops
