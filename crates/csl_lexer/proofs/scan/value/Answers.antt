use Rattle.std.proofs.Common.{arith}
use Rattle.csl_lexer.proofs.Values.{value_past}
use Rattle.csl_lexer.proofs.scan.value.Goals as goal

pub returns-in_err-checked_mul-clause-none : goal.returns-in_err-checked_mul-clause-none
returns-in_err-checked_mul-clause-none c none =
    omega (arith, c.in_err-checked_mul.ensures, c.loop-b.invariant, value_past c.args.digits.now c.loop-b.b-index c.loop-b-test.true)

pub returns-in_err-number-clause-none : goal.returns-in_err-number-clause-none
returns-in_err-number-clause-none c none =
    omega (arith, c.in_err-number.ensures, c.in_ok-checked_mul.ensures, c.from-digit.ensures, c.loop-b.invariant, value_past c.args.digits.now c.loop-b.b-index c.loop-b-test.true)
