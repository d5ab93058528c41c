use Rattle.std.proofs.Common.{◌≡◌, length}
use Rattle.code_verify.specs.Kinds.{below}
use Rattle.code_verify.proofs.effect.take_all.Given as goal

abbrev pub invariant-loop-kind : goal.invariant-loop-kind
invariant-loop-kind l = record { hand : below l.wanted l.fn.kinds.hand ≡ below l.rest l.kinds.hand; known : l.kinds.known ≡ l.fn.kinds.known }

abbrev pub decreases-loop-kind : goal.decreases-loop-kind
decreases-loop-kind l = length l.rest
