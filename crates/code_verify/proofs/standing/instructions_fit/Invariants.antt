use Rattle.code_verify.specs.Tests.{KeepsRules, EachBelow}
use Rattle.code_verify.proofs.standing.instructions_fit.Given as goal

abbrev pub invariant-loop-place : goal.invariant-loop-place
invariant-loop-place l = EachBelow (KeepsRules l.m l.owner l.c) l.c.instrs l.place
