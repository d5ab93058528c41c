use Rattle.std.proofs.Common.{◌+◌, ◌<◌, drop, length, refl, ◌∙◌, arith}
use Rattle.cal_base.specs.Claims.{IsComplete}
use Rattle.event_engine.proofs.Playing.{goes_more, drop_here}
use Rattle.event_engine.proofs.Scenes.{work_none, work_then, work_may}
use Rattle.event_engine.proofs.play.turns.Goals as goal

pub loop-next-init : goal.loop-next-init
loop-next-init g c = record {
  within = c.requires.from;
  goes = λ after. refl;
  work = work_none c.args.job.now.image.now c.args.job.now.code.now c.args.workers.now c.requires.may;
  below = c.requires.below;
  alone = c.requires.alone;
}

pub turn-requires-clause-may : goal.turn-requires-clause-may
turn-requires-clause-may g c = work_may c.args.job.now.image.now c.args.job.now.code.now c.args.workers.now c.loop-next.workers c.loop-next.invariant.work

pub loop-next-preserved : goal.loop-next-preserved
loop-next-preserved g c =
    let job = g.N.JobName.job in
    let events = c.args.events.now in
    let next = c.loop-next.next in
    let within : next < length events = omega (arith, c.loop-next-test.true) in
    let still : IsComplete job c.loop-next.core → ⊥ = λ complete. let yes = c.is_complete.ensures.1 complete in absurd (cc (yes, c.if-is_complete.false)) in
    record {
      within = omega (arith, within);
      goes = λ after.
          c.loop-next.invariant.goes after
          ∙ goes_more job after _ _ _ (drop next events) (drop (next + 1) events) still (drop_here events next _ within) c.in_ok-turn.ensures.turn;
      work = work_then c.args.job.now.image.now c.args.job.now.code.now c.args.workers.now c.loop-next.workers c.turn.new.workers c.loop-next.invariant.work c.in_ok-turn.ensures.work;
      below = c.in_ok-turn.ensures.below;
      alone = c.in_ok-turn.ensures.alone;
    }
