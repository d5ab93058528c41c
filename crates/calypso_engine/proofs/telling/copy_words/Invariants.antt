use Rattle.std.proofs.Common.{◌≡◌}
use Rattle.cal_base.specs.Memory.{kinds_of}
use Rattle.calypso_engine.proofs.Kept.{IsCopied}
use Rattle.calypso_engine.proofs.telling.copy_words.Given as goal

-- the words so far are copied
abbrev pub invariant-loop-a : goal.invariant-loop-a
invariant-loop-a l = record {
  kinds : kinds_of l.to.memory ≡ kinds_of l.from.memory;
  copied : IsCopied l.a l.to.memory l.from.memory;
}
