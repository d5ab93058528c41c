use Rattle.std.proofs.Common.{◌≡◌, ◌<◌, ◌≤◌, ℕ, true, false, slice_index_or}
use Rattle.frame_pool.proofs.pool.first_free.Given as goal

abbrev pub invariant-loop-q : goal.invariant-loop-q
invariant-loop-q l = (k : ℕ) → l.from ≤ k → k < l.q → slice_index_or l.out k false ≡ true
