use Rattle.event_engine.proofs.Scenes.{work_none}
use Rattle.event_engine.proofs.turn.turn.Goals as goal

pub returns-in-Claim-clause-work : goal.returns-in-Claim-clause-work
returns-in-Claim-clause-work g c = work_none c.args.job.now.image.now c.args.job.now.code.now c.args.workers.now c.requires.may

pub returns-in-Arrive-clause-work : goal.returns-in-Arrive-clause-work
returns-in-Arrive-clause-work g c = work_none c.args.job.now.image.now c.args.job.now.code.now c.args.workers.now c.requires.may

pub returns-in-Stop-clause-work : goal.returns-in-Stop-clause-work
returns-in-Stop-clause-work g c = work_none c.args.job.now.image.now c.args.job.now.code.now c.args.workers.now c.requires.may
