use Rattle.code_verify.specs.Tests.{IsQuietBlock, EachBelow}
use Rattle.code_verify.proofs.whole.blocks_fit.Given as goal

abbrev pub invariant-loop-block : goal.invariant-loop-block
invariant-loop-block l = EachBelow (λ b c. IsQuietBlock l.m l.uses c) l.m.blocks l.block-index
