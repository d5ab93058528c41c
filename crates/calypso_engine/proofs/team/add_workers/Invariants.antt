use Rattle.std.proofs.Common.{◌≡◌, vec_len, vec_capacity}
use Rattle.calypso_engine.specs.Beginning.{AreBegun}
use Rattle.calypso_engine.proofs.team.add_workers.Given as goal

-- the workers so far
abbrev pub invariant-loop-who : goal.invariant-loop-who
invariant-loop-who l = record {
  begun : AreBegun l.options.script.now l.who l.image l.code l.workers.items;
  len : vec_len l.workers ≡ l.who;
  room : vec_capacity l.workers ≡ vec_capacity l.initial.workers;
}
