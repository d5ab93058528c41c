-- What the operators give.
use Rattle.std.specs.Prelude.{ℕ, List, [], ◌∷◌, ◌++◌, true, false, codes}
use Rattle.csl_tree.specs.declared.program.Expr.{Expr}
use Rattle.csl_tree.specs.declared.program.Node.TheVariants as node
use Rattle.csl_tree.specs.declared.program.UnaryOp.TheVariants.{Not}
use Rattle.csl_tree.specs.declared.program.BinaryOp.{BinaryOp}
use Rattle.csl_tree.specs.declared.program.BinaryOp.TheVariants.{Add, Sub, Mul, Div, Rem, Eq, Ne, Lt, Le, Gt, Ge, And, Or}
use Rattle.csl_meaning.specs.Rows.{number, minus}
use Rattle.meaning_rows.specs.Trees.{e, truth, two, paren, greatest, least, print, program, Prints, Faults}

-- shared { } main { print(VALUES); } prints this
abbrev pub Values : List Expr → List ℕ → Type 0
Values values out = Prints (program [] [] (print values ∷ [])) out

-- shared { } main { print(VALUE); } traps with these words
abbrev pub Traps : Expr → List ℕ → Type 0
Traps value cause = Faults (program [] [] (print (value ∷ []) ∷ [])) (codes "after step 0: " ++ cause)

-- an operator on true and true, true and false, false and true, false and false
abbrev on_truths : BinaryOp → List Expr
on_truths op =
    two (truth true) op (truth true)
    ∷ two (truth true) op (truth false)
    ∷ two (truth false) op (truth true)
    ∷ two (truth false) op (truth false)
    ∷ []

-- an operator on these two numbers, where each is as it is or has its sign changed: x OP y, -x OP y, x OP -y, -x OP -y
abbrev with_signs : ℕ → BinaryOp → ℕ → List Expr
with_signs x op y =
    two (number x) op (number y)
    ∷ two (minus (number x)) op (number y)
    ∷ two (number x) op (minus (number y))
    ∷ two (minus (number x)) op (minus (number y))
    ∷ []

-- an operator on 1 and 2, 2 and 2, 3 and 2
abbrev on_numbers : BinaryOp → List Expr
on_numbers op = two (number 1) op (number 2) ∷ two (number 2) op (number 2) ∷ two (number 3) op (number 2) ∷ []

-- two truths are equal where both are true or both are false
abbrev pub EqualTruths : Type 0
EqualTruths = Values (on_truths Eq) (codes "true false false true")

-- and else they differ
abbrev pub DifferentTruths : Type 0
DifferentTruths = Values (on_truths Ne) (codes "false true true false")

-- `&&` is true where both are
abbrev pub Conjunctions : Type 0
Conjunctions = Values (on_truths And) (codes "true false false false")

-- `||` is true where one is
abbrev pub Disjunctions : Type 0
Disjunctions = Values (on_truths Or) (codes "true true true false")

-- `print(!true, !false);`: `!` is true where its operand is not
abbrev pub Negations : Type 0
Negations = Values (e (node.Unary Not (truth true)) ∷ e (node.Unary Not (truth false)) ∷ []) (codes "false true")

-- `==` on numbers
abbrev pub EqualNumbers : Type 0
EqualNumbers = Values (on_numbers Eq) (codes "false true false")

-- `!=` on numbers
abbrev pub DifferentNumbers : Type 0
DifferentNumbers = Values (on_numbers Ne) (codes "true false true")

-- `<` is true below
abbrev pub Below : Type 0
Below = Values (on_numbers Lt) (codes "true false false")

-- `<=` is true below and at
abbrev pub AtMost : Type 0
AtMost = Values (on_numbers Le) (codes "true true false")

-- `>` is true above
abbrev pub Above : Type 0
Above = Values (on_numbers Gt) (codes "false false true")

-- `>=` is true above and at
abbrev pub AtLeast : Type 0
AtLeast = Values (on_numbers Ge) (codes "false true true")

-- `print(-1 < 0, -2 < -1, -1 < -2);`: numbers below 0 have their order
abbrev pub BelowZero : Type 0
BelowZero = Values
    (two (minus (number 1)) Lt (number 0) ∷ two (minus (number 2)) Lt (minus (number 1)) ∷ two (minus (number 1)) Lt (minus (number 2))
    ∷ [])
    (codes "true true false")

-- a quotient is cut towards zero, whatever the signs
abbrev pub Quotients : Type 0
Quotients = Values (with_signs 7 Div 2) (codes "3 -3 -3 3")

-- a remainder has the dividend's sign, whatever the divisor's
abbrev pub Remainders : Type 0
Remainders = Values (with_signs 7 Rem 2) (codes "1 -1 1 -1")

-- `print(5 - 3 - 1, 8 / 4 / 2, 7 % 4 % 2);`, as trees that group to the left
abbrev pub GroupedToTheLeft : Type 0
GroupedToTheLeft = Values
    (two (two (number 5) Sub (number 3)) Sub (number 1) ∷ two (two (number 8) Div (number 4)) Div (number 2) ∷ two
    (two (number 7) Rem (number 4)) Rem (number 2) ∷ [])
    (codes "1 1 1")

-- a quotient or remainder by zero traps, also that of 0
abbrev pub ZeroDivisor : BinaryOp → Type 0
ZeroDivisor op = Traps (two (number 0) op (number 0)) (codes "division by zero")

-- `print((-9223372036854775807 - 1) * 1, (-9223372036854775807 - 1) / 1, (-9223372036854775807 - 1) % 1);`: the least number is one of 64 bits
abbrev pub LeastNumber : Type 0
LeastNumber = Values
    (two (paren least) Mul (number 1) ∷ two (paren least) Div (number 1) ∷ two (paren least) Rem (number 1) ∷ [])
    (codes "-9223372036854775808 -9223372036854775808 0")

-- the least number multiplied or divided by -1, and its remainder, overflow
abbrev pub LeastByMinusOne : BinaryOp → Type 0
LeastByMinusOne op = Traps (two (paren least) op (minus (number 1))) (codes "overflow")

-- `print(-(-9223372036854775807 - 1));`: the least number has no opposite
abbrev pub LeastHasNoOpposite : Type 0
LeastHasNoOpposite = Traps (minus (paren least)) (codes "overflow")

-- `print(9223372036854775807 + 1);`: nothing is above the greatest number
abbrev pub AboveTheGreatest : Type 0
AboveTheGreatest = Traps (two greatest Add (number 1)) (codes "overflow")

-- `print(-9223372036854775807 - 1 - 1);`: nothing is below the least one
abbrev pub BelowTheLeast : Type 0
BelowTheLeast = Traps (two least Sub (number 1)) (codes "overflow")
