use Rattle.std.proofs.Common.{refl, sym, subst, arith, option_map}
use Rattle.cal_base.specs.Contents.{SameFiles}
use Rattle.event_world.specs.Law.{Each, IsOfWorker}
use Rattle.calypso_cli.specs.Promise.{objects_of}
use Rattle.calypso_cli.specs.Steps.{Holds, Lists}
use Rattle.calypso_cli.proofs.Written.{told_then, same_same}
use Rattle.calypso_cli.proofs.Simulated.{sim_stops, sim_refused, sim_works}
use Rattle.calypso_cli.proofs.sim.sim_file.Goals as goal

pub returns-in-Err-clause-works : goal.returns-in-Err-clause-works
returns-in-Err-clause-works g c =
    sim_stops c.args.file.now c.args.events.now (option_map (λ name. name.now) c.args.log)
    (objects_of (g.F.Files.holds c.args.files.now) (g.S.Sink.written c.args.out.now) (g.F.Files.faults c.args.files.now) (g.S.Sink.faults c.args.out.now))
    (objects_of (g.F.Files.holds c.load_program.new.files) (g.S.Sink.written c.args.out.now) (g.F.Files.faults c.load_program.new.files) (g.S.Sink.faults c.args.out.now))
    c.load_program.ensures.files refl c.in-Err.ensures.stops

pub simulate-requires-clause-workers : goal.simulate-requires-clause-workers
simulate-requires-clause-workers g c = subst (Each IsOfWorker) (sym c.deref.ensures.value) c.in-Ok-load_events.ensures.workers

pub returns-in-Ok-load_events-clause-works : goal.returns-in-Ok-load_events-clause-works
returns-in-Ok-load_events-clause-works g c =
    let same = told_then (g.F.Files.holds c.args.files.now) (g.F.Files.holds c.load_program.new.files) (g.F.Files.holds c.load_events.new.files) SameFiles SameFiles SameFiles
    c.load_program.ensures.files c.load_events.ensures.files same_same in
    sim_works c.args.file.now c.args.events.now (option_map (λ name. name.now) c.args.log) (g.F.Files.holds c.args.files.now) (g.F.Files.faults c.args.files.now)
    (g.F.Files.holds c.load_program.new.files)
    (objects_of (g.F.Files.holds c.load_events.new.files) (g.S.Sink.written c.args.out.now) (g.F.Files.faults c.load_events.new.files) (g.S.Sink.faults c.args.out.now))
    (objects_of (g.F.Files.holds c.simulate.new.files) (g.S.Sink.written c.simulate.new.out) (g.F.Files.faults c.simulate.new.files) (g.S.Sink.faults c.simulate.new.out))
    c.in-Ok.program c.deref.result.now c.in-Ok.ensures.loaded c.load_program.ensures.files
    (subst (λ l. Holds (g.F.Files.holds c.load_program.new.files) c.args.events.now (Lists l)) (sym c.deref.ensures.value) c.in-Ok-load_events.ensures.listed) same
    (omega (arith, c.load_program.ensures.later, c.load_events.ensures.later)) c.simulate.ensures.ends

pub returns-clause-works : goal.returns-clause-works
returns-clause-works g c =
    let same = told_then (g.F.Files.holds c.args.files.now) (g.F.Files.holds c.load_program.new.files) (g.F.Files.holds c.load_events.new.files) SameFiles SameFiles SameFiles
    c.load_program.ensures.files c.load_events.ensures.files same_same in
    sim_refused c.args.file.now c.args.events.now (option_map (λ name. name.now) c.args.log)
    (objects_of (g.F.Files.holds c.args.files.now) (g.S.Sink.written c.args.out.now) (g.F.Files.faults c.args.files.now) (g.S.Sink.faults c.args.out.now))
    (objects_of (g.F.Files.holds c.load_events.new.files) (g.S.Sink.written c.args.out.now) (g.F.Files.faults c.load_events.new.files) (g.S.Sink.faults c.args.out.now))
    (g.F.Files.holds c.load_program.new.files) (g.F.Files.faults c.load_program.new.files) c.in-Ok.program c.in-Ok.ensures.loaded
    c.load_program.ensures.files c.load_program.ensures.later same refl c.in-Err-load_events.ensures.stops
