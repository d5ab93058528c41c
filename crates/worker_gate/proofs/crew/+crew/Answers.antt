use Rattle.std.proofs.Common.{◌≤◌, arith}
use Rattle.worker_gate.specs.Worked.{IsReady}
use Rattle.worker_gate.proofs.Joining.{all_front, worked_joined}
use Rattle.worker_gate.proofs.crew.+crew.Goals as goal

pub work_all-work_both-mine-requires-clause-others : goal.work_all-work_both-mine-requires-clause-others
work_all-work_both-mine-requires-clause-others g t c κs within =
    all_front (IsReady g.N.JobName.job.number c.args.job.now.image.now c.args.job.now.code.now) c.args.workers.now.items c.take_last-last.new.workers.items c.take_last-last.result
    c.take_last-last.ensures.items c.requires.ready

pub work_all-returns-clause-work : goal.work_all-returns-clause-work
work_all-returns-clause-work g t c =
    let two : 2 ≤ c.args.shares.parts = grind arith in
    worked_joined _ _ _ c.work_both-mine.ensures.others c.work_both-mine.ensures.one two c.split-mine.ensures.rest c.split-mine.ensures.further c.take_last-last.ensures.items
    c.push_reserved-2.ensures.items c.join.ensures
