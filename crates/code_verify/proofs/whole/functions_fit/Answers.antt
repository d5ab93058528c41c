use Rattle.std.proofs.Common.{sym, refl}
use Rattle.code_verify.specs.declared.owner.Owner.TheVariants.{Function}
use Rattle.code_verify.specs.Tests.{IsCode}
use Rattle.code_verify.proofs.Lists.{each_next, each_all}
use Rattle.code_verify.proofs.whole.functions_fit.Goals as goal

pub loop-function-preserved : goal.loop-function-preserved
loop-function-preserved c = each_next (λ f d. IsCode c.args.m.now (Function f) d) c.args.m.now.functions c.loop-function.number c.in-Some.function.now c.loop-function.invariant
    (sym c.in-Some.ensures.value) (c.in_ok-is_code.ensures.0 c.if-not-branch.false)

pub returns : goal.returns
returns c = (λ yes. each_all (λ f d. IsCode c.args.m.now (Function f) d) c.args.m.now.functions c.loop-function.number c.loop-function.invariant (sym c.in_default.ensures.value), λ all. refl)
