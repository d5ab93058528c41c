use Rattle.std.proofs.Common.{◌+◌, ◌*◌, vec_len}
use Rattle.worker_gate.proofs.crew.+crew.Given as goal

abbrev pub decreases-work_all : goal.decreases-work_all
decreases-work_all g l = 4 * vec_len l.workers.now

abbrev pub decreases-work_both : goal.decreases-work_both
decreases-work_both g l = 4 * vec_len l.workers.now + 3

abbrev pub decreases-work_both-join_on+arg5 : goal.decreases-work_both-join_on+arg5
decreases-work_both-join_on+arg5 g l = 4 * l.most + 2

abbrev pub decreases-work_others : goal.decreases-work_others
decreases-work_others g l = 4 * vec_len l.others.workers.now + 1
