use Rattle.std.proofs.Common.{Option, Ok, sym, ap, subst, arith}
use Rattle.std.proofs.lemmas.Result.{err_from_is_err_and}
use Rattle.cal_base.specs.declared.ends.RunEnd.{RunEnd}
use Rattle.calypso_engine.specs.Asked.{outside_of}
use Rattle.calypso_engine.specs.Running.{rest_of, Goes, GaveUp}
use Rattle.calypso_engine.specs.declared.error.RunError.{RunError}
use Rattle.calypso_engine.proofs.Events.{went_nowhere, went_then, came_then, gave_then}
use Rattle.calypso_engine.proofs.Logging.{log_holds, made_stays}
use Rattle.calypso_engine.proofs.engine.run_on.Goals as goal

pub events-init : goal.events-init
events-init g c = record {
  ready = c.requires.ready;
  made = c.requires.created;
  went =
      went_nowhere c.args.options.now c.args.code.now c.args.standing.now c.args.team.now (outside_of (g.S.Sink.written c.args.out.now) (g.F.Files.holds c.args.files.now))
      (log_holds c.args.files.now g.F.Files.holds g.F.Files.created g.met.F.Files.created_holds c.args.options.now.log c.requires.created);
  created = λ name was. was;
  files_later = omega arith;
  out_later = omega arith;
}

pub events-preserved : goal.events-preserved
events-preserved g c =
    let o = c.args.options.now in
    let was = outside_of (g.S.Sink.written c.args.out.now) (g.F.Files.holds c.args.files.now) in
    let mid = outside_of (g.S.Sink.written c.events.out) (g.F.Files.holds c.events.files) in
    let now = outside_of (g.S.Sink.written c.event.new.out) (g.F.Files.holds c.event.new.files) in
    let goes =
    subst (λ (r : Option RunEnd). Goes c.args.code.now o (rest_of c.args.code.now o.fuel c.events.standing) c.event.new.standing c.events.team c.event.new.team mid now (Ok r)) c.in-None.is
    c.in_ok-event.ensures.goes
    in
    record {
      ready = c.in_ok-event.ensures.ready (ap (λ (r : Option RunEnd). Ok r) c.in-None.is);
      made = made_stays o.log (g.F.Files.created c.events.files) (g.F.Files.created c.event.new.files) c.in_ok-event.ensures.created c.events.invariant.made;
      went =
          went_then o c.args.code.now (rest_of c.args.code.now o.fuel c.args.standing.now) c.events.standing c.args.team.now c.events.team was mid c.events.invariant.went c.event.new.standing
          c.event.new.team now goes;
      created = λ name made. c.in_ok-event.ensures.created name (c.events.invariant.created name made);
      files_later = omega (arith, c.events.invariant.files_later, c.in_ok-event.ensures.files_later);
      out_later = omega (arith, c.events.invariant.out_later, c.in_ok-event.ensures.out_later);
    }

pub returns-in_err-event-clause-comes : goal.returns-in_err-event-clause-comes
returns-in_err-event-clause-comes g c =
    let o = c.args.options.now in
    let was = outside_of (g.S.Sink.written c.args.out.now) (g.F.Files.holds c.args.files.now) in
    let mid = outside_of (g.S.Sink.written c.events.out) (g.F.Files.holds c.events.files) in
    let now = outside_of (g.S.Sink.written c.event.new.out) (g.F.Files.holds c.event.new.files) in
    let p = err_from_is_err_and c.from_residual.result c.from_residual.ensures.1 in
    let gave = subst (λ (e : RunError). GaveUp o (rest_of c.args.code.now o.fuel c.events.standing) e mid now) (sym p.2) c.in_err-event.ensures.goes in
    rw p.1
    (gave_then o c.args.code.now (rest_of c.args.code.now o.fuel c.args.standing.now) c.events.standing c.args.team.now c.events.team was mid c.events.invariant.went p.0 now gave)

pub returns-in-Some-clause-comes : goal.returns-in-Some-clause-comes
returns-in-Some-clause-comes g c =
    let o = c.args.options.now in
    let was = outside_of (g.S.Sink.written c.args.out.now) (g.F.Files.holds c.args.files.now) in
    let mid = outside_of (g.S.Sink.written c.events.out) (g.F.Files.holds c.events.files) in
    let now = outside_of (g.S.Sink.written c.event.new.out) (g.F.Files.holds c.event.new.files) in
    let goes =
    subst (λ (r : Option RunEnd). Goes c.args.code.now o (rest_of c.args.code.now o.fuel c.events.standing) c.event.new.standing c.events.team c.event.new.team mid now (Ok r)) c.in-Some.is
    c.in_ok-event.ensures.goes
    in
    came_then o c.args.code.now (rest_of c.args.code.now o.fuel c.args.standing.now) c.events.standing c.args.team.now c.events.team was mid c.events.invariant.went c.in-Some.ended c.event.new.team
    now goes
