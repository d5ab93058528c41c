use Rattle.std.proofs.Common.{vec_len}
use Rattle.shared_pages.proofs.Giving.{IsGiving}
use Rattle.shared_pages.proofs.cache.give_all.Given as goal

abbrev pub decreases-loop-k : goal.decreases-loop-k
decreases-loop-k l = vec_len l.kept

abbrev pub invariant-loop-k : goal.invariant-loop-k
invariant-loop-k l = IsGiving l.initial.kept.items l.kept.items l.initial.pool l.pool
