use Rattle.std.proofs.Common.{◌∙◌, [], false, refl, ap, subst, Err, option_map}
use Rattle.std.specs.Io.KnownBytes.{Appends}
use Rattle.cal_base.specs.Contents.{AppendsPrefix}
use Rattle.cal_base.specs.Main.{Meaning}
use Rattle.cal_base.specs.Text.{text_of}
use Rattle.csl_meaning.specs.Meaning.{meaning}
use Rattle.calypso_engine.specs.Traces.{trace_of}
use Rattle.event_engine.specs.Simulated.{simulated}
use Rattle.calypso_cli.specs.Commands.{IsSimulated, ended, run_of, usual_fuel}
use Rattle.calypso_cli.specs.Promise.{objects_of}
use Rattle.calypso_cli.specs.Seen.{ending_seen}
use Rattle.calypso_cli.specs.Steps.{simulation}
use Rattle.calypso_cli.proofs.Executed.{ran_traced, ran_not, not_begun, not_compiled}
use Rattle.calypso_cli.proofs.Simulated.{simulated_trace}
use Rattle.calypso_cli.proofs.sim.simulate.Goals as goal

pub returns-in_default-clause-ends : goal.returns-in_default-clause-ends
returns-in_default-clause-ends g c =
    not_compiled (IsSimulated c.args.program.now c.args.events.now) (run_of false (meaning c.args.program.now usual_fuel)) (simulation (option_map (λ name. name.now) c.args.log)) []
    (objects_of (g.F.Files.holds c.args.files.now) (g.S.Sink.written c.args.out.now) (g.F.Files.faults c.args.files.now) (g.S.Sink.faults c.args.out.now))

pub returns-in-Err-clause-ends : goal.returns-in-Err-clause-ends
returns-in-Err-clause-ends g c =
    not_begun (IsSimulated c.args.program.now c.args.events.now) (meaning c.args.program.now usual_fuel) (simulation (option_map (λ name. name.now) c.args.log)) []
    (g.F.Files.holds c.args.files.now) (g.F.Files.holds c.create_log.new.files) (g.F.Files.holds c.create_log.new.files) (g.S.Sink.written c.args.out.now) (g.S.Sink.written c.args.out.now)
    (g.F.Files.faults c.args.files.now) (g.F.Files.faults c.create_log.new.files) (g.F.Files.faults c.create_log.new.files) (g.S.Sink.faults c.args.out.now) (g.S.Sink.faults c.args.out.now)
    (ending_seen c.in-Err.ending) c.in-Err.ensures.err

pub returns-in-Ok-sim-clause-ends : goal.returns-in-Ok-sim-clause-ends
returns-in-Ok-sim-clause-ends g c =
    ran_traced (IsSimulated c.args.program.now c.args.events.now) (meaning c.args.program.now usual_fuel) (simulation (option_map (λ name. name.now) c.args.log)) []
    (g.F.Files.holds c.args.files.now) (g.F.Files.holds c.create_log.new.files) (g.F.Files.holds c.sim.new.files) (g.S.Sink.written c.args.out.now) (g.S.Sink.written c.sim.new.out)
    (g.F.Files.faults c.args.files.now) (g.F.Files.faults c.create_log.new.files) (g.F.Files.faults c.sim.new.files) (g.S.Sink.faults c.args.out.now) (g.S.Sink.faults c.sim.new.out)
    (trace_of (simulated c.in-Ok.code c.args.events.now).closed) (ending_seen c.of_run.result) []
    (simulated_trace c.in-Ok.code c.args.program.now c.args.events.now (c.in-Ok.ensures.means usual_fuel) (c.in-Ok.ensures.steps usual_fuel) c.requires.workers)
    (c.of_run.ensures ∙ ap ended (c.in-Ok-sim.ensures.end ∙ ap (λ (m : Meaning). m.ending) (c.in-Ok.ensures.means usual_fuel)))
    c.in_default-create_log.ensures.ok
    (subst (λ (m : Meaning). Appends (g.S.Sink.written c.args.out.now) (g.S.Sink.written c.sim.new.out) (text_of false m.events)) (c.in-Ok.ensures.means usual_fuel) c.in-Ok-sim.ensures.whole)
    c.in-Ok-sim.ensures.told refl

pub returns-clause-ends : goal.returns-clause-ends
returns-clause-ends g c =
    ran_not (IsSimulated c.args.program.now c.args.events.now) (meaning c.args.program.now usual_fuel) (simulation (option_map (λ name. name.now) c.args.log)) []
    (g.F.Files.holds c.args.files.now) (g.F.Files.holds c.create_log.new.files) (g.F.Files.holds c.sim.new.files) (g.S.Sink.written c.args.out.now) (g.S.Sink.written c.sim.new.out)
    (g.F.Files.faults c.args.files.now) (g.F.Files.faults c.create_log.new.files) (g.F.Files.faults c.sim.new.files) (g.S.Sink.faults c.args.out.now) (g.S.Sink.faults c.sim.new.out)
    c.in-Err-sim.error (ending_seen c.given_up.result) c.given_up.ensures
    (λ e. c.in-Err-sim.ensures.out_failed (ap (λ x. Err x) e)) (λ e. c.in-Err-sim.ensures.file_failed (ap (λ x. Err x) e)) c.in_default-create_log.ensures.later
    c.in_default-create_log.ensures.ok
    (subst (λ (m : Meaning). AppendsPrefix (g.S.Sink.written c.args.out.now) (g.S.Sink.written c.sim.new.out) (text_of false m.events)) (c.in-Ok.ensures.means usual_fuel) c.in-Err-sim.ensures.prefix)
    (trace_of (simulated c.in-Ok.code c.args.events.now).closed)
    (simulated_trace c.in-Ok.code c.args.program.now c.args.events.now (c.in-Ok.ensures.means usual_fuel) (c.in-Ok.ensures.steps usual_fuel) c.requires.workers)
    c.in-Err-sim.ensures.front
