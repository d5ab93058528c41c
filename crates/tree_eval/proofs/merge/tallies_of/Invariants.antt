use Rattle.tree_eval.proofs.Tallies.{AreFirst}
use Rattle.tree_eval.proofs.merge.tallies_of.Given as goal

-- the tally words so far are listed
abbrev pub invariant-loop-a : goal.invariant-loop-a
invariant-loop-a l = AreFirst l.a l.tallies l.memory
