use Rattle.std.proofs.Common.{◌≡◌, take}
use Rattle.tree_eval.proofs.merge.words_in.Given as goal

-- the words so far
abbrev pub invariant-loop-a : goal.invariant-loop-a
invariant-loop-a l = l.memory ≡ take l.a l.image.memory
