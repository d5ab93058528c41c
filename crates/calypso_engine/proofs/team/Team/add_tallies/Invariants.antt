use Rattle.std.proofs.Common.{◌≡◌, ◌+◌, ◌++◌, map, take, vec_len, vec_capacity}
use Rattle.calypso_engine.proofs.team.Team.add_tallies.Given as goal

-- the tallies so far
abbrev pub invariant-loop-worker : goal.invariant-loop-worker
invariant-loop-worker l = record {
  items : l.tallies.items ≡ l.initial.tallies.items ++ map (λ worker. worker.tally) (take l.worker-index l.self.workers.items);
  len : vec_len l.tallies ≡ vec_len l.initial.tallies + l.worker-index;
  room : vec_capacity l.tallies ≡ vec_capacity l.initial.tallies;
}
