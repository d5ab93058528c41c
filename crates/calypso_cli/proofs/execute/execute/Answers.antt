use Rattle.std.proofs.Common.{◌≡◌, ◌∙◌, refl, sym, ap, subst, Err, option_map}
use Rattle.cal_base.specs.Contents.{Told}
use Rattle.cal_base.specs.Main.{steps_of}
use Rattle.machine_meaning.specs.Meaning.{machine_main, machine_meaning}
use Rattle.command_words.specs.Seen.{flags_seen}
use Rattle.calypso_engine.specs.Logs.{LogsFrontOf}
use Rattle.calypso_engine.specs.Traces.{IsTraceOf}
use Rattle.calypso_cli.specs.Commands.{ended, run_of}
use Rattle.calypso_cli.specs.Promise.{objects_of}
use Rattle.calypso_cli.specs.Steps.{EmptiesLog, NotCreated, GivesUp}
use Rattle.calypso_cli.specs.Seen.{ending_seen, report_seen}
use Rattle.calypso_cli.proofs.Executed.{ended_as, ran_whole, ran_not, not_begun}
use Rattle.calypso_cli.proofs.execute.execute.Goals as goal

pub returns-in-Err-clause-ends : goal.returns-in-Err-clause-ends
returns-in-Err-clause-ends g c =
    ended_as (IsTraceOf (steps_of (machine_main c.args.code.now c.args.flags.now.fuel))) (run_of c.args.flags.now.steps (machine_meaning c.args.code.now c.args.flags.now.fuel))
    (flags_seen c.args.flags.now) c.args.script.now
    (objects_of (g.F.Files.holds c.args.files.now) (g.S.Sink.written c.args.out.now) (g.F.Files.faults c.args.files.now) (g.S.Sink.faults c.args.out.now))
    (objects_of (g.F.Files.holds c.create_log.new.files) (g.S.Sink.written c.args.out.now) (g.F.Files.faults c.create_log.new.files) (g.S.Sink.faults c.args.out.now))
    c.of.result c.in-Err.ending c.of.ensures.ending c.of.ensures.report
    (not_begun (IsTraceOf (steps_of (machine_main c.args.code.now c.args.flags.now.fuel))) (machine_meaning c.args.code.now c.args.flags.now.fuel) (flags_seen c.args.flags.now) c.args.script.now
    (g.F.Files.holds c.args.files.now) (g.F.Files.holds c.create_log.new.files) (g.F.Files.holds c.create_log.new.files) (g.S.Sink.written c.args.out.now) (g.S.Sink.written c.args.out.now)
    (g.F.Files.faults c.args.files.now) (g.F.Files.faults c.create_log.new.files) (g.F.Files.faults c.create_log.new.files) (g.S.Sink.faults c.args.out.now) (g.S.Sink.faults c.args.out.now)
    (ending_seen c.in-Err.ending)
    (subst (λ log. NotCreated log (g.F.Files.holds c.args.files.now) (g.F.Files.holds c.create_log.new.files) (g.F.Files.faults c.args.files.now) (g.F.Files.faults c.create_log.new.files)
    (ending_seen c.in-Err.ending))
    c.log_name-log.ensures c.in-Err.ensures.err))

pub returns-in-Ok-clause-ends : goal.returns-in-Ok-clause-ends
returns-in-Ok-clause-ends g c =
    ran_whole (steps_of (machine_main c.args.code.now c.args.flags.now.fuel)) (machine_meaning c.args.code.now c.args.flags.now.fuel) (flags_seen c.args.flags.now) c.args.script.now
    (g.F.Files.holds c.args.files.now) (g.F.Files.holds c.create_log.new.files) (g.F.Files.holds c.run.new.files) (g.S.Sink.written c.args.out.now) (g.S.Sink.written c.run.new.out)
    (g.F.Files.faults c.args.files.now) (g.F.Files.faults c.create_log.new.files) (g.F.Files.faults c.run.new.files) (g.S.Sink.faults c.args.out.now) (g.S.Sink.faults c.run.new.out)
    _ c.in-Ok.report.tallies (ending_seen c.of_run.result) (report_seen c.reported.result) c.log_name-log.ensures refl refl
    (c.of_run.ensures ∙ ap ended c.in-Ok.ensures.end) c.reported.ensures
    (subst (λ log. Told (g.F.Files.holds c.args.files.now) (g.F.Files.holds c.create_log.new.files) (EmptiesLog log)) c.log_name-log.ensures c.in_default.ensures.ok)
    c.in-Ok.ensures.whole c.in-Ok.ensures.told

pub returns-in-Err-run-clause-ends : goal.returns-in-Err-run-clause-ends
returns-in-Err-run-clause-ends g c =
    let front = subst (λ log. LogsFrontOf (steps_of (machine_main c.args.code.now c.args.flags.now.fuel)) log (g.F.Files.holds c.create_log.new.files) (g.F.Files.holds c.run.new.files))
    c.log_name-log.ensures c.in-Err-run.ensures.front in
    ended_as (IsTraceOf (steps_of (machine_main c.args.code.now c.args.flags.now.fuel))) (run_of c.args.flags.now.steps (machine_meaning c.args.code.now c.args.flags.now.fuel))
    (flags_seen c.args.flags.now) c.args.script.now
    (objects_of (g.F.Files.holds c.args.files.now) (g.S.Sink.written c.args.out.now) (g.F.Files.faults c.args.files.now) (g.S.Sink.faults c.args.out.now))
    (objects_of (g.F.Files.holds c.run.new.files) (g.S.Sink.written c.run.new.out) (g.F.Files.faults c.run.new.files) (g.S.Sink.faults c.run.new.out))
    c.of-in-Err-run.result c.given_up.result c.of-in-Err-run.ensures.ending c.of-in-Err-run.ensures.report
    (ran_not (IsTraceOf (steps_of (machine_main c.args.code.now c.args.flags.now.fuel))) (machine_meaning c.args.code.now c.args.flags.now.fuel) (flags_seen c.args.flags.now) c.args.script.now
    (g.F.Files.holds c.args.files.now) (g.F.Files.holds c.create_log.new.files) (g.F.Files.holds c.run.new.files) (g.S.Sink.written c.args.out.now) (g.S.Sink.written c.run.new.out)
    (g.F.Files.faults c.args.files.now) (g.F.Files.faults c.create_log.new.files) (g.F.Files.faults c.run.new.files) (g.S.Sink.faults c.args.out.now) (g.S.Sink.faults c.run.new.out)
    c.in-Err-run.error (ending_seen c.given_up.result)
    (subst (λ log. GivesUp c.in-Err-run.error log (ending_seen c.given_up.result)) c.log_name-log.ensures c.given_up.ensures)
    (λ e. c.in-Err-run.ensures.out_failed (ap (λ x. Err x) e)) (λ e. c.in-Err-run.ensures.file_failed (ap (λ x. Err x) e)) c.in_default.ensures.later
    (subst (λ log. Told (g.F.Files.holds c.args.files.now) (g.F.Files.holds c.create_log.new.files) (EmptiesLog log)) c.log_name-log.ensures c.in_default.ensures.ok)
    c.in-Err-run.ensures.prefix
    front.trace front.traced front.front)
