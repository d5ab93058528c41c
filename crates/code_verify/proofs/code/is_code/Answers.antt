use Rattle.std.proofs.Common.{refl, length}
use Rattle.std.specs.Prelude.{IsSome}
use Rattle.code_verify.specs.Walk.{walk, unknown}
use Rattle.code_verify.specs.Tests.{IsCode}
use Rattle.code_verify.proofs.Verifying.{answers_so, code_keeps, code_by_walk}
use Rattle.code_verify.proofs.code.is_code.Goals as goal

pub returns-then-not-instructions_fit : goal.returns-then-not-instructions_fit
returns-then-not-instructions_fit c = (λ no. absurd cc, λ h. c.if-not-instructions_fit.ensures.1 (code_keeps c.args.m.now c.args.owner c.args.c.now h))

pub returns : goal.returns
returns c = answers_so c.kinds_fit.result (IsSome (walk c.args.m.now c.args.c.now 0 c.args.c.now.instrs (unknown (length c.args.c.now.instrs)))) (IsCode c.args.m.now c.args.owner c.args.c.now)
    (code_by_walk c.args.m.now c.args.owner c.args.c.now (c.if-not-has_shape.ensures.0 refl) (c.if-not-instructions_fit.ensures.0 refl)) c.kinds_fit.ensures
