use Rattle.std.proofs.Common.{◌≡◌, refl, arith, inl, inr, sym, ap, ◌∙◌}
use Rattle.cal_base.specs.Main.{steps_of}
use Rattle.machine_meaning.specs.Meaning.{machine_main}
use Rattle.calypso_engine.specs.Traces.{IsTraceOf}
use Rattle.calypso_cli.specs.Commands.{IsModule, IsNoModule, module_limit}
use Rattle.calypso_cli.specs.Steps.{IsModuleRefusal}
use Rattle.cal_base.specs.Contents.{SameFiles}
use Rattle.command_words.specs.Commands.{exec}
use Rattle.command_words.specs.Seen.{flags_seen}
use Rattle.calypso_cli.specs.Promise.{objects_of}
use Rattle.calypso_cli.specs.Seen.{ending_seen, report_seen}
use Rattle.calypso_cli.proofs.Kept.{does_stop}
use Rattle.calypso_cli.proofs.Written.{told_then, same_same}
use Rattle.calypso_cli.proofs.Ran.{works_run, ends_behind}
use Rattle.calypso_cli.proofs.Runs.{Goes, runs_module, first_exec, exec_there}
use Rattle.calypso_cli.proofs.Scripted.{rows_behind, script_ends}
use Rattle.calypso_cli.proofs.Executed.{works_as}
use Rattle.calypso_cli.proofs.exec.exec_file.Goals as goal

pub returns-in-Err-clause-works : goal.returns-in-Err-clause-works
returns-in-Err-clause-works g c =
    works_as (exec c.args.file.now (flags_seen c.args.flags.now))
    (objects_of (g.F.Files.holds c.args.files.now) (g.S.Sink.written c.args.out.now) (g.F.Files.faults c.args.files.now) (g.S.Sink.faults c.args.out.now))
    (objects_of (g.F.Files.holds c.load_module.new.files) (g.S.Sink.written c.args.out.now) (g.F.Files.faults c.load_module.new.files) (g.S.Sink.faults c.args.out.now))
    c.of.result c.in-Err.ending c.of.ensures.ending c.of.ensures.report
    (does_stop (exec c.args.file.now (flags_seen c.args.flags.now)) c.args.file.now module_limit IsModule IsModuleRefusal IsNoModule
    (Goes (flags_seen c.args.flags.now) (runs_module (flags_seen c.args.flags.now)))
    (first_exec c.args.file.now (flags_seen c.args.flags.now))
    (objects_of (g.F.Files.holds c.args.files.now) (g.S.Sink.written c.args.out.now) (g.F.Files.faults c.args.files.now) (g.S.Sink.faults c.args.out.now))
    (objects_of (g.F.Files.holds c.load_module.new.files) (g.S.Sink.written c.args.out.now) (g.F.Files.faults c.load_module.new.files) (g.S.Sink.faults c.args.out.now))
    c.load_module.ensures.files refl c.in-Err.ensures.stops)

pub returns-in-Ok-load_script-clause-works : goal.returns-in-Ok-load_script-clause-works
returns-in-Ok-load_script-clause-works g c =
    let same = told_then (g.F.Files.holds c.args.files.now) (g.F.Files.holds c.load_module.new.files) (g.F.Files.holds c.load_script.new.files) SameFiles SameFiles SameFiles
    c.load_module.ensures.files c.load_script.ensures.files same_same in
    works_run (exec c.args.file.now (flags_seen c.args.flags.now)) (flags_seen c.args.flags.now) c.in-Ok-load_script.script (IsTraceOf (steps_of (machine_main c.in-Ok.code c.args.flags.now.fuel)))
    (runs_module (flags_seen c.args.flags.now) c.in-Ok.code)
    (objects_of (g.F.Files.holds c.args.files.now) (g.S.Sink.written c.args.out.now) (g.F.Files.faults c.args.files.now) (g.S.Sink.faults c.args.out.now))
    (objects_of (g.F.Files.holds c.execute.new.files) (g.S.Sink.written c.execute.new.out) (g.F.Files.faults c.execute.new.files) (g.S.Sink.faults c.execute.new.out))
    (exec_there c.args.file.now (flags_seen c.args.flags.now) c.in-Ok-load_script.script (g.F.Files.holds c.args.files.now) c.in-Ok.code c.in-Ok.ensures.loaded
    (rows_behind (g.F.Files.holds c.args.files.now) (g.F.Files.holds c.load_module.new.files) (flags_seen c.args.flags.now).script c.in-Ok-load_script.script c.load_module.ensures.files
    c.in-Ok-load_script.ensures.rows))
    (ends_behind (IsTraceOf (steps_of (machine_main c.in-Ok.code c.args.flags.now.fuel))) (runs_module (flags_seen c.args.flags.now) c.in-Ok.code) (flags_seen c.args.flags.now)
    c.in-Ok-load_script.script (g.F.Files.holds c.args.files.now) (g.F.Files.faults c.args.files.now)
    (objects_of (g.F.Files.holds c.load_script.new.files) (g.S.Sink.written c.args.out.now) (g.F.Files.faults c.load_script.new.files) (g.S.Sink.faults c.args.out.now))
    (objects_of (g.F.Files.holds c.execute.new.files) (g.S.Sink.written c.execute.new.out) (g.F.Files.faults c.execute.new.files) (g.S.Sink.faults c.execute.new.out))
    same (omega (arith, c.load_module.ensures.later, c.load_script.ensures.later)) c.execute.ensures.ends)

pub returns-clause-works : goal.returns-clause-works
returns-clause-works g c =
    let same = told_then (g.F.Files.holds c.args.files.now) (g.F.Files.holds c.load_module.new.files) (g.F.Files.holds c.load_script.new.files) SameFiles SameFiles SameFiles
    c.load_module.ensures.files c.load_script.ensures.files same_same in
    works_as (exec c.args.file.now (flags_seen c.args.flags.now))
    (objects_of (g.F.Files.holds c.args.files.now) (g.S.Sink.written c.args.out.now) (g.F.Files.faults c.args.files.now) (g.S.Sink.faults c.args.out.now))
    (objects_of (g.F.Files.holds c.load_script.new.files) (g.S.Sink.written c.args.out.now) (g.F.Files.faults c.load_script.new.files) (g.S.Sink.faults c.args.out.now))
    c.of-in-Err-load_script.result c.in-Err-load_script.ending c.of-in-Err-load_script.ensures.ending c.of-in-Err-load_script.ensures.report
    (script_ends (flags_seen c.args.flags.now) (runs_module (flags_seen c.args.flags.now)) (exec c.args.file.now (flags_seen c.args.flags.now)) c.args.file.now module_limit IsModule IsModuleRefusal
    IsNoModule
    (first_exec c.args.file.now (flags_seen c.args.flags.now))
    (objects_of (g.F.Files.holds c.args.files.now) (g.S.Sink.written c.args.out.now) (g.F.Files.faults c.args.files.now) (g.S.Sink.faults c.args.out.now))
    (objects_of (g.F.Files.holds c.load_script.new.files) (g.S.Sink.written c.args.out.now) (g.F.Files.faults c.load_script.new.files) (g.S.Sink.faults c.args.out.now))
    same refl c.in-Ok.code c.in-Ok.ensures.loaded (λ name named. (name, named))
    (g.F.Files.holds c.load_module.new.files) (g.F.Files.faults c.load_module.new.files) c.load_module.ensures.files c.load_module.ensures.later (λ name named. inr named)
    (flags_seen c.args.flags.now).script refl c.in-Err-load_script.ensures.stops)
