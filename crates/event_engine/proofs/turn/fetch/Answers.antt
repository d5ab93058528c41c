use Rattle.std.proofs.Common.{◌<◌, length, rules}
use Rattle.event_engine.proofs.Scenes.{work_none, work_one}
use Rattle.event_engine.proofs.turn.fetch.Goals as goal

pub returns-in-Stopped : goal.returns-in-Stopped
returns-in-Stopped g c = work_none c.args.job.now.image.now c.args.job.now.code.now c.args.workers.now c.requires.may

pub returns-in-Idle : goal.returns-in-Idle
returns-in-Idle g c =
    let within : c.from-place.result < length c.args.workers.now = search rules in
    work_one c.args.job.now.image.now c.args.job.now.code.now c.args.workers.now c.from-place.result c.index-workers-place.result c.fetch.new.self within c.requires.may c.fetch.ensures.rest
