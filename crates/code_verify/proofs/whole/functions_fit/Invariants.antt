use Rattle.std.proofs.Common.{◌-◌, length}
use Rattle.code_verify.specs.Tests.{IsCode, EachBelow}
use Rattle.code_verify.specs.declared.owner.Owner.TheVariants.{Function}
use Rattle.code_verify.proofs.whole.functions_fit.Given as goal

abbrev pub invariant-loop-function : goal.invariant-loop-function
invariant-loop-function l = EachBelow (λ f c. IsCode l.m (Function f) c) l.m.functions l.number

abbrev pub decreases-loop-function : goal.decreases-loop-function
decreases-loop-function l = length l.m.functions - l.number
