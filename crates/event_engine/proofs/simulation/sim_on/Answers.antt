use Rattle.std.proofs.Common.{Option, Ok, ap, subst, arith}
use Rattle.std.proofs.lemmas.Result.{err_from_is_err_and}
use Rattle.cal_base.specs.declared.ends.RunEnd.{RunEnd}
use Rattle.calypso_engine.specs.Asked.{outside_of}
use Rattle.calypso_engine.specs.Running.{rest_of}
use Rattle.event_engine.specs.Simulating.{resumed, GoesSo}
use Rattle.calypso_engine.proofs.Logging.{log_holds, made_stays}
use Rattle.event_engine.proofs.Simulating.{part_none, part_then, all_then, front_then}
use Rattle.event_engine.proofs.simulation.sim_on.Goals as goal

pub events-init : goal.events-init
events-init g c = record {
  ready = c.requires.ready;
  scene = c.requires.scene;
  made = c.requires.created;
  told =
      part_none c.args.options.now (resumed (rest_of c.args.code.now c.args.options.now.fuel c.args.standing.now) c.args.scene.now c.args.events.now)
      (outside_of (g.S.Sink.written c.args.out.now) (g.F.Files.holds c.args.files.now))
      (log_holds c.args.files.now g.F.Files.holds g.F.Files.created g.met.F.Files.created_holds c.args.options.now.log c.requires.created);
  created = λ name was. was;
  files_later = omega arith;
  out_later = omega arith;
}

pub events-preserved : goal.events-preserved
events-preserved g c =
    let o = c.args.options.now in
    let was = outside_of (g.S.Sink.written c.args.out.now) (g.F.Files.holds c.args.files.now) in
    let mid = outside_of (g.S.Sink.written c.events.out) (g.F.Files.holds c.events.files) in
    let now = outside_of (g.S.Sink.written c.sim_event.new.out) (g.F.Files.holds c.sim_event.new.files) in
    let run = resumed (rest_of c.args.code.now o.fuel c.args.standing.now) c.args.scene.now c.args.events.now in
    let here = resumed (rest_of c.args.code.now o.fuel c.events.standing) c.events.scene c.args.events.now in
    let rest = resumed (rest_of c.args.code.now o.fuel c.sim_event.new.standing) c.sim_event.new.scene c.args.events.now in
    let goes = subst (λ (r : Option RunEnd). GoesSo o here rest mid now (Ok r)) c.in-None.is c.in_ok-sim_event.ensures.goes in
    record {
      ready = c.in_ok-sim_event.ensures.ready (ap (λ (r : Option RunEnd). Ok r) c.in-None.is);
      scene = c.in_ok-sim_event.ensures.scene (ap (λ (r : Option RunEnd). Ok r) c.in-None.is);
      made = made_stays o.log (g.F.Files.created c.events.files) (g.F.Files.created c.sim_event.new.files) c.in_ok-sim_event.ensures.created c.events.invariant.made;
      told = part_then o run here was mid c.events.invariant.told rest now goes;
      created = λ name made. c.in_ok-sim_event.ensures.created name (c.events.invariant.created name made);
      files_later = omega (arith, c.events.invariant.files_later, c.in_ok-sim_event.ensures.files_later);
      out_later = omega (arith, c.events.invariant.out_later, c.in_ok-sim_event.ensures.out_later);
    }

pub returns-in_err-sim_event-clause-comes : goal.returns-in_err-sim_event-clause-comes
returns-in_err-sim_event-clause-comes g c =
    let o = c.args.options.now in
    let was = outside_of (g.S.Sink.written c.args.out.now) (g.F.Files.holds c.args.files.now) in
    let mid = outside_of (g.S.Sink.written c.events.out) (g.F.Files.holds c.events.files) in
    let now = outside_of (g.S.Sink.written c.sim_event.new.out) (g.F.Files.holds c.sim_event.new.files) in
    let run = resumed (rest_of c.args.code.now o.fuel c.args.standing.now) c.args.scene.now c.args.events.now in
    let here = resumed (rest_of c.args.code.now o.fuel c.events.standing) c.events.scene c.args.events.now in
    let p = err_from_is_err_and c.from_residual.result c.from_residual.ensures.1 in
    rw p.1
    (front_then o run here was mid c.events.invariant.told now c.in_err-sim_event.ensures.goes)

pub returns-in-Some-clause-comes : goal.returns-in-Some-clause-comes
returns-in-Some-clause-comes g c =
    let o = c.args.options.now in
    let was = outside_of (g.S.Sink.written c.args.out.now) (g.F.Files.holds c.args.files.now) in
    let mid = outside_of (g.S.Sink.written c.events.out) (g.F.Files.holds c.events.files) in
    let now = outside_of (g.S.Sink.written c.sim_event.new.out) (g.F.Files.holds c.sim_event.new.files) in
    let run = resumed (rest_of c.args.code.now o.fuel c.args.standing.now) c.args.scene.now c.args.events.now in
    let here = resumed (rest_of c.args.code.now o.fuel c.events.standing) c.events.scene c.args.events.now in
    let rest = resumed (rest_of c.args.code.now o.fuel c.sim_event.new.standing) c.sim_event.new.scene c.args.events.now in
    let goes = subst (λ (r : Option RunEnd). GoesSo o here rest mid now (Ok r)) c.in-Some.is c.in_ok-sim_event.ensures.goes in
    all_then o run here was mid c.events.invariant.told c.in-Some.ended now goes
