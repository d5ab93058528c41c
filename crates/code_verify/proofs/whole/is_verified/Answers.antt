use Rattle.std.proofs.Common.{refl, sym, ◌∙◌}
use Rattle.code_verify.specs.Rules.{IsVerified}
use Rattle.code_verify.specs.Tests.{Each, IsQuietBlock}
use Rattle.code_verify.proofs.Verifying.{answers_so, verified_by, verified_functions, calls_backwards}
use Rattle.code_verify.proofs.whole.is_verified.Goals as goal

pub returns-then-not-branch : goal.returns-then-not-branch
returns-then-not-branch c = (λ no. absurd cc, λ v. sym c.if-not-branch.true ∙ c.in_ok-functions_fit.ensures.1 (verified_functions c.args.m.now v))

pub uses_of-requires-clause-backwards : goal.uses_of-requires-clause-backwards
uses_of-requires-clause-backwards c = calls_backwards c.args.m.now (c.in_ok-functions_fit.ensures.0 c.if-not-branch.false)

pub returns : goal.returns
returns c =
    answers_so c.blocks_fit.result (Each (λ b d. IsQuietBlock c.args.m.now c.in_ok-uses.uses d) c.args.m.now.blocks) (IsVerified c.args.m.now)
    (verified_by c.args.m.now c.in_ok-uses.uses c.in_ok-uses.ensures (c.if-not-has_parts.ensures.0 refl) (c.in_ok-functions_fit.ensures.0 c.if-not-branch.false)
    (c.in_ok-is_code.ensures.0 c.if-not-branch-2.false))
    c.blocks_fit.ensures
