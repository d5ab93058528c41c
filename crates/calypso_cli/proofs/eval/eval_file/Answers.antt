use Rattle.std.proofs.Common.{refl, false}
use Rattle.csl_meaning.specs.Meaning.{meaning}
use Rattle.command_words.specs.Commands.{eval}
use Rattle.calypso_cli.specs.Commands.{run_of, usual_fuel}
use Rattle.calypso_cli.proofs.Promises.{loads_eval, stops_on, works_on}
use Rattle.calypso_cli.proofs.eval.eval_file.Goals as goal

pub returns-in-Ok-clause-works : goal.returns-in-Ok-clause-works
returns-in-Ok-clause-works g c =
    works_on (eval c.args.file.now) c.args.file.now (λ p. run_of false (meaning p usual_fuel)) (loads_eval c.args.file.now)
    (record { files = g.F.Files.holds c.args.files.now; out = g.S.Sink.written c.args.out.now; file_faults = g.F.Files.faults c.args.files.now; out_faults = g.S.Sink.faults c.args.out.now })
    (record { files = g.F.Files.holds c.load_program.new.files; out = g.S.Sink.written c.evaluate.new.out; file_faults = g.F.Files.faults c.load_program.new.files; out_faults = g.S.Sink.faults c.evaluate.new.out })
    c.load_program.ensures.files c.in-Ok.program c.in-Ok.ensures.loaded c.evaluate.ensures.ends

pub returns-in-Err-clause-works : goal.returns-in-Err-clause-works
returns-in-Err-clause-works g c =
    stops_on (eval c.args.file.now) c.args.file.now (λ p. run_of false (meaning p usual_fuel)) (loads_eval c.args.file.now)
    (record { files = g.F.Files.holds c.args.files.now; out = g.S.Sink.written c.args.out.now; file_faults = g.F.Files.faults c.args.files.now; out_faults = g.S.Sink.faults c.args.out.now })
    (record { files = g.F.Files.holds c.load_program.new.files; out = g.S.Sink.written c.args.out.now; file_faults = g.F.Files.faults c.load_program.new.files; out_faults = g.S.Sink.faults c.args.out.now })
    c.load_program.ensures.files refl c.in-Err.ensures.stops
