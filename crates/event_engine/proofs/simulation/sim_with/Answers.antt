use Rattle.std.proofs.Common.{◌≤◌, List, sym, ap, subst, ◌∙◌, arith}
use Rattle.std.specs.List.{AllByRecursion}
use Rattle.std.proofs.lemmas.Result.{err_from_is_err_and}
use Rattle.event_world.specs.World.{Delivery, Run, world, freed}
use Rattle.machine_meaning.specs.Meaning.{machine_main}
use Rattle.calypso_engine.specs.Asked.{outside_of}
use Rattle.event_engine.specs.Resuming.{resume}
use Rattle.event_engine.specs.Simulating.{ComesSo}
use Rattle.calypso_engine.proofs.Logging.{log_holds}
use Rattle.calypso_engine.proofs.Ready.{first_rest, first_ready}
use Rattle.event_engine.proofs.Resuming.{resume_first}
use Rattle.event_engine.proofs.Scenes.{first_modes}
use Rattle.event_engine.proofs.Simulating.{front_none}
use Rattle.event_engine.proofs.simulation.sim_with.Goals as goal

pub returns-in_err-team-clause-comes : goal.returns-in_err-team-clause-comes
returns-in_err-team-clause-comes g c =
    let o = c.args.options.now in
    let p = err_from_is_err_and c.from_residual-in_err-team.result c.from_residual-in_err-team.ensures.1 in
    rw p.1
    (front_none o (world (machine_main c.args.code.now o.fuel) c.args.events.now) (outside_of (g.S.Sink.written c.args.out.now) (g.F.Files.holds c.args.files.now))
    (log_holds c.args.files.now g.F.Files.holds g.F.Files.created g.met.F.Files.created_holds o.log c.requires.created))

pub sim_on-came-requires-clause-ready : goal.sim_on-came-requires-clause-ready
sim_on-came-requires-clause-ready g c =
    first_ready c.args.code.now c.args.options.now c.in_ok-standing.standing c.in_ok-standing.ensures c.in_ok-team.team (omega (arith, c.requires.count)) c.in_ok-team.ensures.working

pub sim_on-came-requires-clause-scene : goal.sim_on-came-requires-clause-scene
sim_on-came-requires-clause-scene g c = record {
  within = omega arith;
  free = λ who. ap freed (first_modes who) ∙ sym (first_modes who);
  older = subst (λ (ds : List Delivery). AllByRecursion (λ (d : Delivery). d.step ≤ c.in_ok-standing.standing.steps) ds) (sym c.new.ensures.items) tt;
}

pub returns-clause-comes : goal.returns-clause-comes
returns-clause-comes g c =
    let o = c.args.options.now in
    let m = c.args.code.now in
    let s = c.in_ok-standing.standing in
    let was = outside_of (g.S.Sink.written c.args.out.now) (g.F.Files.holds c.args.files.now) in
    let now = outside_of (g.S.Sink.written c.sim_on-came.new.out) (g.F.Files.holds c.sim_on-came.new.files) in
    let rest = first_rest m o s c.in_ok-standing.ensures in
    subst (λ (run : Run). ComesSo o run was now c.sim_on-came.result)
    ((λ i. resume (rest i) (λ w. first_modes w i) (c.new.ensures.items i) c.args.events.now) ∙ resume_first (machine_main m o.fuel) c.args.events.now)
    c.sim_on-came.ensures.comes
