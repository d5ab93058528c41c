-- The operators on values.
use Rattle.std.specs.Prelude.{ℤ, pos, ◌+ℤ◌, ◌-ℤ◌, ◌*ℤ◌, neg_ℤ, Bool, true, false, not, int_lt, int_le, if◌then◌else◌, Option, Some, None}
use Rattle.std.specs.Prelude.{Result, Ok, Err}
use Rattle.std.specs.Ordering.{int_eq}
use Rattle.cal_base.specs.declared.ends.Cause.{Cause}
use Rattle.cal_base.specs.declared.value.Val.{Val}
use Rattle.cal_base.specs.declared.value.Val.TheVariants.{Int, Truth}
use Rattle.cal_base.specs.Arithmetic.{checked, quotient, remainder}
use Rattle.csl_tree.specs.declared.program.UnaryOp.{UnaryOp}
use Rattle.csl_tree.specs.declared.program.UnaryOp.TheVariants.{Neg, Not}
use Rattle.csl_tree.specs.declared.program.BinaryOp.{BinaryOp}
use Rattle.csl_tree.specs.declared.program.BinaryOp.TheVariants.{Add, Sub, Mul, Div, Rem, Eq, Ne, Lt, Le, Gt, Ge, And, Or}

-- the number in a value; 0 in a truth, for which no accepted program asks
abbrev pub number_in : Val → ℤ
number_in (Int z) = z
number_in (Truth b) = pos 0

-- the truth in a value; false in a number, for which no accepted program asks
abbrev pub truth_in : Val → Bool
truth_in (Int z) = false
truth_in (Truth b) = b

-- are they the same value?
abbrev pub same_value : Val → Val → Bool
same_value (Int x) (Int y) = int_eq x y
same_value (Truth true) (Truth b) = b
same_value (Truth false) (Truth b) = not b
same_value (Int x) (Truth b) = false
same_value (Truth b) (Int x) = false

-- a number as a value, unless it trapped
abbrev pub as_int : Result ℤ Cause → Result Val Cause
as_int (Ok z) = Ok (Int z)
as_int (Err c) = Err c

-- an operator on one value
abbrev pub unary : UnaryOp → Val → Result Val Cause
unary Neg x = as_int (checked (neg_ℤ (number_in x)))
unary Not x = Ok (Truth (not (truth_in x)))

-- what the left operand alone decides
abbrev pub decided : BinaryOp → Val → Option Val
decided And x = if truth_in x then None else Some (Truth false)
decided Or x = if truth_in x then Some (Truth true) else None
decided _ x = None

-- an operator on two values, where the left one alone does not decide
abbrev pub binary : BinaryOp → Val → Val → Result Val Cause
binary Add x y = as_int (checked (number_in x +ℤ number_in y))
binary Sub x y = as_int (checked (number_in x -ℤ number_in y))
binary Mul x y = as_int (checked (number_in x *ℤ number_in y))
binary Div x y = as_int (quotient (number_in x) (number_in y))
binary Rem x y = as_int (remainder (number_in x) (number_in y))
binary Eq x y = Ok (Truth (same_value x y))
binary Ne x y = Ok (Truth (not (same_value x y)))
binary Lt x y = Ok (Truth (int_lt (number_in x) (number_in y)))
binary Le x y = Ok (Truth (int_le (number_in x) (number_in y)))
binary Gt x y = Ok (Truth (int_lt (number_in y) (number_in x)))
binary Ge x y = Ok (Truth (int_le (number_in y) (number_in x)))
binary And x y = Ok y
binary Or x y = Ok y
