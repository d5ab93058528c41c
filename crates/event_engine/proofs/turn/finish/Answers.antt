use Rattle.std.proofs.Common.{◌<◌, length, rules}
use Rattle.event_engine.proofs.Scenes.{finished_turn, work_one}
use Rattle.event_engine.proofs.turn.finish.Goals as goal

pub returns-clause-turn : goal.returns-clause-turn
returns-clause-turn g c =
    let within : c.from-place.result < length c.args.modes.now = search rules in
    finished_turn g.N.JobName.job c.args.modes.now c.from-place.result c.args.who c.in-Busy.k c.in_ok-done.done.k _ c.args.fresh.now.items c.push.new.self.items c.of.result c.from-place.ensures within
    c.in-Busy.is c.in_ok-push.ensures.items c.of.ensures c.in_ok-done.ensures.k

pub returns-clause-work : goal.returns-clause-work
returns-clause-work g c =
    let within : c.from-place.result < length c.args.workers.now = search rules in
    work_one c.args.job.now.image.now c.args.job.now.code.now c.args.workers.now c.from-place.result c.index-workers-place.result c.execute_kept.new.worker within c.requires.may
    c.execute_kept.ensures.worker
