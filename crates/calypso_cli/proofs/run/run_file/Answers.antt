use Rattle.std.proofs.Common.{◌≡◌, refl, arith, inl, inr, sym, ap, ◌∙◌}
use Rattle.cal_base.specs.Main.{steps_of}
use Rattle.csl_meaning.specs.Meaning.{main}
use Rattle.csl_grammar.specs.Texts.{text_limit}
use Rattle.csl_reader.specs.Readings as reading
use Rattle.csl_reader.specs.Readings.{IsRead}
use Rattle.calypso_engine.specs.Traces.{IsTraceOf}
use Rattle.calypso_cli.specs.Commands.{IsRefusedText}
use Rattle.calypso_cli.specs.Steps.{IsRefusal}
use Rattle.cal_base.specs.Contents.{SameFiles}
use Rattle.command_words.specs.Commands.{run}
use Rattle.command_words.specs.Seen.{flags_seen}
use Rattle.calypso_cli.specs.Promise.{objects_of}
use Rattle.calypso_cli.specs.Seen.{ending_seen, report_seen}
use Rattle.calypso_cli.proofs.Kept.{does_stop}
use Rattle.calypso_cli.proofs.Written.{told_then, same_same}
use Rattle.calypso_cli.proofs.Ran.{works_run, ends_behind}
use Rattle.calypso_cli.proofs.Runs.{Goes, runs_program, first_run, run_there}
use Rattle.calypso_cli.proofs.Scripted.{rows_behind, script_ends}
use Rattle.calypso_cli.proofs.Executed.{works_as}
use Rattle.calypso_cli.proofs.run.run_file.Goals as goal

pub returns-in-Err-clause-works : goal.returns-in-Err-clause-works
returns-in-Err-clause-works g c =
    works_as (run c.args.file.now (flags_seen c.args.flags.now))
    (objects_of (g.F.Files.holds c.args.files.now) (g.S.Sink.written c.args.out.now) (g.F.Files.faults c.args.files.now) (g.S.Sink.faults c.args.out.now))
    (objects_of (g.F.Files.holds c.load_program.new.files) (g.S.Sink.written c.args.out.now) (g.F.Files.faults c.load_program.new.files) (g.S.Sink.faults c.args.out.now))
    c.of.result c.in-Err.ending c.of.ensures.ending c.of.ensures.report
    (does_stop (run c.args.file.now (flags_seen c.args.flags.now)) c.args.file.now text_limit (λ bytes p. IsRead bytes (reading.accepted p)) IsRefusal IsRefusedText
    (Goes (flags_seen c.args.flags.now) (runs_program (flags_seen c.args.flags.now)))
    (first_run c.args.file.now (flags_seen c.args.flags.now))
    (objects_of (g.F.Files.holds c.args.files.now) (g.S.Sink.written c.args.out.now) (g.F.Files.faults c.args.files.now) (g.S.Sink.faults c.args.out.now))
    (objects_of (g.F.Files.holds c.load_program.new.files) (g.S.Sink.written c.args.out.now) (g.F.Files.faults c.load_program.new.files) (g.S.Sink.faults c.args.out.now))
    c.load_program.ensures.files refl c.in-Err.ensures.stops)

pub returns-in-Ok-load_script-clause-works : goal.returns-in-Ok-load_script-clause-works
returns-in-Ok-load_script-clause-works g c =
    let same = told_then (g.F.Files.holds c.args.files.now) (g.F.Files.holds c.load_program.new.files) (g.F.Files.holds c.load_script.new.files) SameFiles SameFiles SameFiles
    c.load_program.ensures.files c.load_script.ensures.files same_same in
    works_run (run c.args.file.now (flags_seen c.args.flags.now)) (flags_seen c.args.flags.now) c.in-Ok-load_script.script (IsTraceOf (steps_of (main c.in-Ok.program c.args.flags.now.fuel)))
    (runs_program (flags_seen c.args.flags.now) c.in-Ok.program)
    (objects_of (g.F.Files.holds c.args.files.now) (g.S.Sink.written c.args.out.now) (g.F.Files.faults c.args.files.now) (g.S.Sink.faults c.args.out.now))
    (objects_of (g.F.Files.holds c.run_compiled.new.files) (g.S.Sink.written c.run_compiled.new.out) (g.F.Files.faults c.run_compiled.new.files) (g.S.Sink.faults c.run_compiled.new.out))
    (run_there c.args.file.now (flags_seen c.args.flags.now) c.in-Ok-load_script.script (g.F.Files.holds c.args.files.now) c.in-Ok.program c.in-Ok.ensures.loaded
    (rows_behind (g.F.Files.holds c.args.files.now) (g.F.Files.holds c.load_program.new.files) (flags_seen c.args.flags.now).script c.in-Ok-load_script.script c.load_program.ensures.files
    c.in-Ok-load_script.ensures.rows))
    (ends_behind (IsTraceOf (steps_of (main c.in-Ok.program c.args.flags.now.fuel))) (runs_program (flags_seen c.args.flags.now) c.in-Ok.program) (flags_seen c.args.flags.now)
    c.in-Ok-load_script.script (g.F.Files.holds c.args.files.now) (g.F.Files.faults c.args.files.now)
    (objects_of (g.F.Files.holds c.load_script.new.files) (g.S.Sink.written c.args.out.now) (g.F.Files.faults c.load_script.new.files) (g.S.Sink.faults c.args.out.now))
    (objects_of (g.F.Files.holds c.run_compiled.new.files) (g.S.Sink.written c.run_compiled.new.out) (g.F.Files.faults c.run_compiled.new.files) (g.S.Sink.faults c.run_compiled.new.out))
    same (omega (arith, c.load_program.ensures.later, c.load_script.ensures.later)) c.run_compiled.ensures.ends)

pub returns-clause-works : goal.returns-clause-works
returns-clause-works g c =
    let same = told_then (g.F.Files.holds c.args.files.now) (g.F.Files.holds c.load_program.new.files) (g.F.Files.holds c.load_script.new.files) SameFiles SameFiles SameFiles
    c.load_program.ensures.files c.load_script.ensures.files same_same in
    works_as (run c.args.file.now (flags_seen c.args.flags.now))
    (objects_of (g.F.Files.holds c.args.files.now) (g.S.Sink.written c.args.out.now) (g.F.Files.faults c.args.files.now) (g.S.Sink.faults c.args.out.now))
    (objects_of (g.F.Files.holds c.load_script.new.files) (g.S.Sink.written c.args.out.now) (g.F.Files.faults c.load_script.new.files) (g.S.Sink.faults c.args.out.now))
    c.of-in-Err-load_script.result c.in-Err-load_script.ending c.of-in-Err-load_script.ensures.ending c.of-in-Err-load_script.ensures.report
    (script_ends (flags_seen c.args.flags.now) (runs_program (flags_seen c.args.flags.now)) (run c.args.file.now (flags_seen c.args.flags.now)) c.args.file.now text_limit
    (λ bytes p. IsRead bytes (reading.accepted p)) IsRefusal IsRefusedText
    (first_run c.args.file.now (flags_seen c.args.flags.now))
    (objects_of (g.F.Files.holds c.args.files.now) (g.S.Sink.written c.args.out.now) (g.F.Files.faults c.args.files.now) (g.S.Sink.faults c.args.out.now))
    (objects_of (g.F.Files.holds c.load_script.new.files) (g.S.Sink.written c.args.out.now) (g.F.Files.faults c.load_script.new.files) (g.S.Sink.faults c.args.out.now))
    same refl c.in-Ok.program c.in-Ok.ensures.loaded (λ name named. (name, named))
    (g.F.Files.holds c.load_program.new.files) (g.F.Files.faults c.load_program.new.files) c.load_program.ensures.files c.load_program.ensures.later (λ name named. inr named)
    (flags_seen c.args.flags.now).script refl c.in-Err-load_script.ensures.stops)
