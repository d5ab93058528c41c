use Rattle.std.proofs.Common.{◌≡◌, [], sym, ap, ◌∙◌, subst, string_bytes, option_map, inl, inr}
use Rattle.command_words.specs.Commands.{build, sim}
use Rattle.command_words.specs.Seen.{command_seen}
use Rattle.calypso_cli.specs.Commands.{IsLoaded, IsWritten}
use Rattle.calypso_cli.specs.Promise.{objects_of, Works}
use Rattle.calypso_cli.specs.Seen.{ending_seen}
use Rattle.calypso_cli.proofs.Logged.{may_log}
use Rattle.calypso_cli.proofs.no_threads.carry_out.Goals as goal

pub returns-in-Build-clause-works : goal.returns-in-Build-clause-works
returns-in-Build-clause-works g c =
    let same : build c.as_str-in-Build.result.now c.as_str-in-Build-2.result.now ≡ command_seen c.args.command.now =
    ap (λ name. build name c.as_str-in-Build-2.result.now) c.as_str-in-Build.ensures.value ∙ ap (λ name. build (string_bytes c.in-Build.file) name) c.as_str-in-Build-2.ensures.value
    ∙ sym (ap command_seen c.in-Build.is) in
    subst (λ k. Works k
    (objects_of (g.F.Files.holds c.args.files.now) (g.S.Sink.written c.args.out.now) (g.F.Files.faults c.args.files.now) (g.S.Sink.faults c.args.out.now))
    (objects_of (g.F.Files.holds c.build_file.new.files) (g.S.Sink.written c.args.out.now) (g.F.Files.faults c.build_file.new.files) (g.S.Sink.faults c.args.out.now))
    (ending_seen c.build_file.result) []) same (c.build_file.ensures.works (g.S.Sink.written c.args.out.now) (g.S.Sink.faults c.args.out.now))

pub returns-in-Gen-clause-works : goal.returns-in-Gen-clause-works
returns-in-Gen-clause-works g c =
    subst (λ k. Works k
    (objects_of (g.F.Files.holds c.args.files.now) (g.S.Sink.written c.args.out.now) (g.F.Files.faults c.args.files.now) (g.S.Sink.faults c.args.out.now))
    (objects_of (g.F.Files.holds c.args.files.now) (g.S.Sink.written c.write_generated.new.out) (g.F.Files.faults c.args.files.now) (g.S.Sink.faults c.write_generated.new.out))
    (ending_seen c.write_generated.result) []) (sym (ap command_seen c.in-Gen.is)) (c.write_generated.ensures.works (g.F.Files.holds c.args.files.now) (g.F.Files.faults c.args.files.now))

pub sim_file-requires-clause-program : goal.sim_file-requires-clause-program
sim_file-requires-clause-program g c = c.requires.may_use.load c.as_str-in-Sim.result.now (subst (λ k. IsLoaded k c.as_str-in-Sim.result.now) (sym (ap command_seen c.in-Sim.is))
    (inl c.as_str-in-Sim.ensures.value))

pub sim_file-requires-clause-events : goal.sim_file-requires-clause-events
sim_file-requires-clause-events g c = c.requires.may_use.load c.as_str-in-Sim-2.result.now (subst (λ k. IsLoaded k c.as_str-in-Sim-2.result.now) (sym (ap command_seen c.in-Sim.is))
    (inr c.as_str-in-Sim-2.ensures.value))

pub sim_file-requires-clause-write : goal.sim_file-requires-clause-write
sim_file-requires-clause-write g c =
    may_log (g.F.Files.may_write) c.log_name.result (option_map string_bytes c.in-Sim.log) c.log_name.ensures
    (λ name named. c.requires.may_use.write name (subst (λ k. IsWritten k name) (sym (ap command_seen c.in-Sim.is)) named))

pub returns-in-Sim-clause-works : goal.returns-in-Sim-clause-works
returns-in-Sim-clause-works g c =
    let same : sim c.as_str-in-Sim.result.now c.as_str-in-Sim-2.result.now (option_map (λ name. name.now) c.log_name.result) ≡ command_seen c.args.command.now =
    ap (λ name. sim name c.as_str-in-Sim-2.result.now (option_map (λ name. name.now) c.log_name.result)) c.as_str-in-Sim.ensures.value
    ∙ ap (λ name. sim (string_bytes c.in-Sim.file) name (option_map (λ name. name.now) c.log_name.result)) c.as_str-in-Sim-2.ensures.value
    ∙ ap (sim (string_bytes c.in-Sim.file) (string_bytes c.in-Sim.events)) c.log_name.ensures
    ∙ sym (ap command_seen c.in-Sim.is) in
    subst (λ k. Works k
    (objects_of (g.F.Files.holds c.args.files.now) (g.S.Sink.written c.args.out.now) (g.F.Files.faults c.args.files.now) (g.S.Sink.faults c.args.out.now))
    (objects_of (g.F.Files.holds c.sim_file.new.files) (g.S.Sink.written c.sim_file.new.out) (g.F.Files.faults c.sim_file.new.files) (g.S.Sink.faults c.sim_file.new.out))
    (ending_seen c.sim_file.result) []) same c.sim_file.ensures.works
