use Rattle.code_verify.specs.Tests.{UsesBy, EachBelow}
use Rattle.code_verify.proofs.uses.some_uses.Given as goal

abbrev pub invariant-loop-instr : goal.invariant-loop-instr
invariant-loop-instr l = EachBelow (λ k x. UsesBy l.m l.uses x → ⊥) l.c.instrs l.instr-index
