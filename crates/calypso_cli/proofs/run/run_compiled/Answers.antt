use Rattle.cal_base.specs.Main.{steps_of}
use Rattle.csl_meaning.specs.Meaning.{main, meaning}
use Rattle.machine_meaning.specs.Meaning.{machine_main, machine_meaning}
use Rattle.command_words.specs.Seen.{flags_seen}
use Rattle.calypso_engine.specs.Traces.{IsTraceOf}
use Rattle.calypso_cli.specs.Commands.{run_of}
use Rattle.calypso_cli.specs.Promise.{objects_of}
use Rattle.calypso_cli.specs.Seen.{ending_seen, report_seen}
use Rattle.calypso_cli.specs.declared.ending.Ending.TheVariants.{NoMemory}
use Rattle.calypso_cli.proofs.Executed.{ended_as, not_compiled, means_so}
use Rattle.calypso_cli.proofs.run.run_compiled.Goals as goal

pub returns-in-Ok-clause-ends : goal.returns-in-Ok-clause-ends
returns-in-Ok-clause-ends g c =
    means_so (steps_of (machine_main c.in-Ok.code c.args.flags.now.fuel)) (steps_of (main c.args.program.now c.args.flags.now.fuel)) c.args.flags.now.steps
    (machine_meaning c.in-Ok.code c.args.flags.now.fuel) (meaning c.args.program.now c.args.flags.now.fuel) (flags_seen c.args.flags.now) c.args.script.now
    (objects_of (g.F.Files.holds c.args.files.now) (g.S.Sink.written c.args.out.now) (g.F.Files.faults c.args.files.now) (g.S.Sink.faults c.args.out.now))
    (objects_of (g.F.Files.holds c.execute.new.files) (g.S.Sink.written c.execute.new.out) (g.F.Files.faults c.execute.new.files) (g.S.Sink.faults c.execute.new.out))
    (ending_seen c.execute.result.ending) (report_seen c.execute.result.report)
    (c.in-Ok.ensures.steps c.args.flags.now.fuel) (c.in-Ok.ensures.means c.args.flags.now.fuel) c.execute.ensures.ends

pub returns-in-Err-clause-ends : goal.returns-in-Err-clause-ends
returns-in-Err-clause-ends g c =
    ended_as (IsTraceOf (steps_of (main c.args.program.now c.args.flags.now.fuel))) (run_of c.args.flags.now.steps (meaning c.args.program.now c.args.flags.now.fuel)) (flags_seen c.args.flags.now)
    c.args.script.now
    (objects_of (g.F.Files.holds c.args.files.now) (g.S.Sink.written c.args.out.now) (g.F.Files.faults c.args.files.now) (g.S.Sink.faults c.args.out.now))
    (objects_of (g.F.Files.holds c.args.files.now) (g.S.Sink.written c.args.out.now) (g.F.Files.faults c.args.files.now) (g.S.Sink.faults c.args.out.now))
    c.of.result NoMemory c.of.ensures.ending c.of.ensures.report
    (not_compiled (IsTraceOf (steps_of (main c.args.program.now c.args.flags.now.fuel))) (run_of c.args.flags.now.steps (meaning c.args.program.now c.args.flags.now.fuel))
    (flags_seen c.args.flags.now) c.args.script.now
    (objects_of (g.F.Files.holds c.args.files.now) (g.S.Sink.written c.args.out.now) (g.F.Files.faults c.args.files.now) (g.S.Sink.faults c.args.out.now)))
