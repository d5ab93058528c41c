use Rattle.std.proofs.Common.{◌≡◌}
use Rattle.cal_base.specs.Memory.{kinds_of}
use Rattle.tree_eval.proofs.Copying.{IsCopied}
use Rattle.tree_eval.proofs.merge.fill.Given as goal

-- the words so far are copied
abbrev pub invariant-loop-a : goal.invariant-loop-a
invariant-loop-a l = record {
  kinds : kinds_of l.image.memory ≡ kinds_of l.memory;
  copied : IsCopied l.a l.image.memory l.memory;
}
