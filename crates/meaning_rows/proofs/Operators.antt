-- The rows of operators, by computing.
use Rattle.std.proofs.Common.{refl}
use Rattle.std.specs.Fmt.{digits}
use Rattle.csl_tree.specs.declared.program.Node.TheBlock.{shape-the_row-Expr-0, hidden-the_row-Expr-0, shape-the_row-Expr-1, hidden-the_row-Expr-1}
use Rattle.csl_tree.specs.declared.program.Place.{roll-Place}
use Rattle.csl_tree.specs.declared.program.Call.{roll-Call}
use Rattle.csl_tree.specs.declared.program.Form.TheBlock.{shape-the_row-Stmt-1, hidden-the_row-Stmt-1, shape-the_row-Stmt-2, hidden-the_row-Stmt-2, shape-the_row-RoutineBlock-3}
use Rattle.csl_tree.specs.declared.program.Form.TheBlock.{hidden-the_row-RoutineBlock-3, shape-the_row-Arm-0, hidden-the_row-Arm-0}
use Rattle.csl_tree.specs.declared.program.RoutineBlock.{roll-RoutineBlock}
use Rattle.csl_tree.specs.declared.program.Arm.{roll-Arm}
use denote.Hole.Carrier.{hidden, roll}
use Rattle.csl_meaning.specs.Effect.{calls_to}
use Rattle.csl_tree.specs.declared.program.BinaryOp.TheVariants.{Mul, Div, Rem}
use Rattle.meaning_rows.specs.Operators as operators

pub equal_truths : operators.EqualTruths
unfolding shape-the_row-Expr-0 hidden-the_row-Expr-0 shape-the_row-Expr-1 hidden-the_row-Expr-1 shape-the_row-Stmt-1 hidden-the_row-Stmt-1 shape-the_row-Stmt-2 hidden-the_row-Stmt-2
    shape-the_row-RoutineBlock-3 hidden-the_row-RoutineBlock-3 shape-the_row-Arm-0 hidden-the_row-Arm-0 roll-Place roll-Call roll-RoutineBlock roll-Arm hidden roll digits calls_to
equal_truths = refl

pub different_truths : operators.DifferentTruths
unfolding shape-the_row-Expr-0 hidden-the_row-Expr-0 shape-the_row-Expr-1 hidden-the_row-Expr-1 shape-the_row-Stmt-1 hidden-the_row-Stmt-1 shape-the_row-Stmt-2 hidden-the_row-Stmt-2
    shape-the_row-RoutineBlock-3 hidden-the_row-RoutineBlock-3 shape-the_row-Arm-0 hidden-the_row-Arm-0 roll-Place roll-Call roll-RoutineBlock roll-Arm hidden roll digits calls_to
different_truths = refl

pub conjunctions : operators.Conjunctions
unfolding shape-the_row-Expr-0 hidden-the_row-Expr-0 shape-the_row-Expr-1 hidden-the_row-Expr-1 shape-the_row-Stmt-1 hidden-the_row-Stmt-1 shape-the_row-Stmt-2 hidden-the_row-Stmt-2
    shape-the_row-RoutineBlock-3 hidden-the_row-RoutineBlock-3 shape-the_row-Arm-0 hidden-the_row-Arm-0 roll-Place roll-Call roll-RoutineBlock roll-Arm hidden roll digits calls_to
conjunctions = refl

pub disjunctions : operators.Disjunctions
unfolding shape-the_row-Expr-0 hidden-the_row-Expr-0 shape-the_row-Expr-1 hidden-the_row-Expr-1 shape-the_row-Stmt-1 hidden-the_row-Stmt-1 shape-the_row-Stmt-2 hidden-the_row-Stmt-2
    shape-the_row-RoutineBlock-3 hidden-the_row-RoutineBlock-3 shape-the_row-Arm-0 hidden-the_row-Arm-0 roll-Place roll-Call roll-RoutineBlock roll-Arm hidden roll digits calls_to
disjunctions = refl

pub negations : operators.Negations
unfolding shape-the_row-Expr-0 hidden-the_row-Expr-0 shape-the_row-Expr-1 hidden-the_row-Expr-1 shape-the_row-Stmt-1 hidden-the_row-Stmt-1 shape-the_row-Stmt-2 hidden-the_row-Stmt-2
    shape-the_row-RoutineBlock-3 hidden-the_row-RoutineBlock-3 shape-the_row-Arm-0 hidden-the_row-Arm-0 roll-Place roll-Call roll-RoutineBlock roll-Arm hidden roll digits calls_to
negations = refl

pub equal_numbers : operators.EqualNumbers
unfolding shape-the_row-Expr-0 hidden-the_row-Expr-0 shape-the_row-Expr-1 hidden-the_row-Expr-1 shape-the_row-Stmt-1 hidden-the_row-Stmt-1 shape-the_row-Stmt-2 hidden-the_row-Stmt-2
    shape-the_row-RoutineBlock-3 hidden-the_row-RoutineBlock-3 shape-the_row-Arm-0 hidden-the_row-Arm-0 roll-Place roll-Call roll-RoutineBlock roll-Arm hidden roll digits calls_to
equal_numbers = refl

pub different_numbers : operators.DifferentNumbers
unfolding shape-the_row-Expr-0 hidden-the_row-Expr-0 shape-the_row-Expr-1 hidden-the_row-Expr-1 shape-the_row-Stmt-1 hidden-the_row-Stmt-1 shape-the_row-Stmt-2 hidden-the_row-Stmt-2
    shape-the_row-RoutineBlock-3 hidden-the_row-RoutineBlock-3 shape-the_row-Arm-0 hidden-the_row-Arm-0 roll-Place roll-Call roll-RoutineBlock roll-Arm hidden roll digits calls_to
different_numbers = refl

pub below : operators.Below
unfolding shape-the_row-Expr-0 hidden-the_row-Expr-0 shape-the_row-Expr-1 hidden-the_row-Expr-1 shape-the_row-Stmt-1 hidden-the_row-Stmt-1 shape-the_row-Stmt-2 hidden-the_row-Stmt-2
    shape-the_row-RoutineBlock-3 hidden-the_row-RoutineBlock-3 shape-the_row-Arm-0 hidden-the_row-Arm-0 roll-Place roll-Call roll-RoutineBlock roll-Arm hidden roll digits calls_to
below = refl

pub at_most : operators.AtMost
unfolding shape-the_row-Expr-0 hidden-the_row-Expr-0 shape-the_row-Expr-1 hidden-the_row-Expr-1 shape-the_row-Stmt-1 hidden-the_row-Stmt-1 shape-the_row-Stmt-2 hidden-the_row-Stmt-2
    shape-the_row-RoutineBlock-3 hidden-the_row-RoutineBlock-3 shape-the_row-Arm-0 hidden-the_row-Arm-0 roll-Place roll-Call roll-RoutineBlock roll-Arm hidden roll digits calls_to
at_most = refl

pub above : operators.Above
unfolding shape-the_row-Expr-0 hidden-the_row-Expr-0 shape-the_row-Expr-1 hidden-the_row-Expr-1 shape-the_row-Stmt-1 hidden-the_row-Stmt-1 shape-the_row-Stmt-2 hidden-the_row-Stmt-2
    shape-the_row-RoutineBlock-3 hidden-the_row-RoutineBlock-3 shape-the_row-Arm-0 hidden-the_row-Arm-0 roll-Place roll-Call roll-RoutineBlock roll-Arm hidden roll digits calls_to
above = refl

pub at_least : operators.AtLeast
unfolding shape-the_row-Expr-0 hidden-the_row-Expr-0 shape-the_row-Expr-1 hidden-the_row-Expr-1 shape-the_row-Stmt-1 hidden-the_row-Stmt-1 shape-the_row-Stmt-2 hidden-the_row-Stmt-2
    shape-the_row-RoutineBlock-3 hidden-the_row-RoutineBlock-3 shape-the_row-Arm-0 hidden-the_row-Arm-0 roll-Place roll-Call roll-RoutineBlock roll-Arm hidden roll digits calls_to
at_least = refl

pub below_zero : operators.BelowZero
unfolding shape-the_row-Expr-0 hidden-the_row-Expr-0 shape-the_row-Expr-1 hidden-the_row-Expr-1 shape-the_row-Stmt-1 hidden-the_row-Stmt-1 shape-the_row-Stmt-2 hidden-the_row-Stmt-2
    shape-the_row-RoutineBlock-3 hidden-the_row-RoutineBlock-3 shape-the_row-Arm-0 hidden-the_row-Arm-0 roll-Place roll-Call roll-RoutineBlock roll-Arm hidden roll digits calls_to
below_zero = refl

pub quotients : operators.Quotients
unfolding shape-the_row-Expr-0 hidden-the_row-Expr-0 shape-the_row-Expr-1 hidden-the_row-Expr-1 shape-the_row-Stmt-1 hidden-the_row-Stmt-1 shape-the_row-Stmt-2 hidden-the_row-Stmt-2
    shape-the_row-RoutineBlock-3 hidden-the_row-RoutineBlock-3 shape-the_row-Arm-0 hidden-the_row-Arm-0 roll-Place roll-Call roll-RoutineBlock roll-Arm hidden roll digits calls_to
quotients = refl

pub remainders : operators.Remainders
unfolding shape-the_row-Expr-0 hidden-the_row-Expr-0 shape-the_row-Expr-1 hidden-the_row-Expr-1 shape-the_row-Stmt-1 hidden-the_row-Stmt-1 shape-the_row-Stmt-2 hidden-the_row-Stmt-2
    shape-the_row-RoutineBlock-3 hidden-the_row-RoutineBlock-3 shape-the_row-Arm-0 hidden-the_row-Arm-0 roll-Place roll-Call roll-RoutineBlock roll-Arm hidden roll digits calls_to
remainders = refl

pub grouped_to_the_left : operators.GroupedToTheLeft
unfolding shape-the_row-Expr-0 hidden-the_row-Expr-0 shape-the_row-Expr-1 hidden-the_row-Expr-1 shape-the_row-Stmt-1 hidden-the_row-Stmt-1 shape-the_row-Stmt-2 hidden-the_row-Stmt-2
    shape-the_row-RoutineBlock-3 hidden-the_row-RoutineBlock-3 shape-the_row-Arm-0 hidden-the_row-Arm-0 roll-Place roll-Call roll-RoutineBlock roll-Arm hidden roll digits calls_to
grouped_to_the_left = refl

pub quotient_by_zero : operators.ZeroDivisor Div
unfolding shape-the_row-Expr-0 hidden-the_row-Expr-0 shape-the_row-Expr-1 hidden-the_row-Expr-1 shape-the_row-Stmt-1 hidden-the_row-Stmt-1 shape-the_row-Stmt-2 hidden-the_row-Stmt-2
    shape-the_row-RoutineBlock-3 hidden-the_row-RoutineBlock-3 shape-the_row-Arm-0 hidden-the_row-Arm-0 roll-Place roll-Call roll-RoutineBlock roll-Arm hidden roll digits calls_to
quotient_by_zero = refl

pub remainder_by_zero : operators.ZeroDivisor Rem
unfolding shape-the_row-Expr-0 hidden-the_row-Expr-0 shape-the_row-Expr-1 hidden-the_row-Expr-1 shape-the_row-Stmt-1 hidden-the_row-Stmt-1 shape-the_row-Stmt-2 hidden-the_row-Stmt-2
    shape-the_row-RoutineBlock-3 hidden-the_row-RoutineBlock-3 shape-the_row-Arm-0 hidden-the_row-Arm-0 roll-Place roll-Call roll-RoutineBlock roll-Arm hidden roll digits calls_to
remainder_by_zero = refl

pub least_number : operators.LeastNumber
unfolding shape-the_row-Expr-0 hidden-the_row-Expr-0 shape-the_row-Expr-1 hidden-the_row-Expr-1 shape-the_row-Stmt-1 hidden-the_row-Stmt-1 shape-the_row-Stmt-2 hidden-the_row-Stmt-2
    shape-the_row-RoutineBlock-3 hidden-the_row-RoutineBlock-3 shape-the_row-Arm-0 hidden-the_row-Arm-0 roll-Place roll-Call roll-RoutineBlock roll-Arm hidden roll digits calls_to
least_number = refl

pub least_times_minus_one : operators.LeastByMinusOne Mul
unfolding shape-the_row-Expr-0 hidden-the_row-Expr-0 shape-the_row-Expr-1 hidden-the_row-Expr-1 shape-the_row-Stmt-1 hidden-the_row-Stmt-1 shape-the_row-Stmt-2 hidden-the_row-Stmt-2
    shape-the_row-RoutineBlock-3 hidden-the_row-RoutineBlock-3 shape-the_row-Arm-0 hidden-the_row-Arm-0 roll-Place roll-Call roll-RoutineBlock roll-Arm hidden roll digits calls_to
least_times_minus_one = refl

pub least_quotient : operators.LeastByMinusOne Div
unfolding shape-the_row-Expr-0 hidden-the_row-Expr-0 shape-the_row-Expr-1 hidden-the_row-Expr-1 shape-the_row-Stmt-1 hidden-the_row-Stmt-1 shape-the_row-Stmt-2 hidden-the_row-Stmt-2
    shape-the_row-RoutineBlock-3 hidden-the_row-RoutineBlock-3 shape-the_row-Arm-0 hidden-the_row-Arm-0 roll-Place roll-Call roll-RoutineBlock roll-Arm hidden roll digits calls_to
least_quotient = refl

pub least_remainder : operators.LeastByMinusOne Rem
unfolding shape-the_row-Expr-0 hidden-the_row-Expr-0 shape-the_row-Expr-1 hidden-the_row-Expr-1 shape-the_row-Stmt-1 hidden-the_row-Stmt-1 shape-the_row-Stmt-2 hidden-the_row-Stmt-2
    shape-the_row-RoutineBlock-3 hidden-the_row-RoutineBlock-3 shape-the_row-Arm-0 hidden-the_row-Arm-0 roll-Place roll-Call roll-RoutineBlock roll-Arm hidden roll digits calls_to
least_remainder = refl

pub least_has_no_opposite : operators.LeastHasNoOpposite
unfolding shape-the_row-Expr-0 hidden-the_row-Expr-0 shape-the_row-Expr-1 hidden-the_row-Expr-1 shape-the_row-Stmt-1 hidden-the_row-Stmt-1 shape-the_row-Stmt-2 hidden-the_row-Stmt-2
    shape-the_row-RoutineBlock-3 hidden-the_row-RoutineBlock-3 shape-the_row-Arm-0 hidden-the_row-Arm-0 roll-Place roll-Call roll-RoutineBlock roll-Arm hidden roll digits calls_to
least_has_no_opposite = refl

pub above_the_greatest : operators.AboveTheGreatest
unfolding shape-the_row-Expr-0 hidden-the_row-Expr-0 shape-the_row-Expr-1 hidden-the_row-Expr-1 shape-the_row-Stmt-1 hidden-the_row-Stmt-1 shape-the_row-Stmt-2 hidden-the_row-Stmt-2
    shape-the_row-RoutineBlock-3 hidden-the_row-RoutineBlock-3 shape-the_row-Arm-0 hidden-the_row-Arm-0 roll-Place roll-Call roll-RoutineBlock roll-Arm hidden roll digits calls_to
above_the_greatest = refl

pub below_the_least : operators.BelowTheLeast
unfolding shape-the_row-Expr-0 hidden-the_row-Expr-0 shape-the_row-Expr-1 hidden-the_row-Expr-1 shape-the_row-Stmt-1 hidden-the_row-Stmt-1 shape-the_row-Stmt-2 hidden-the_row-Stmt-2
    shape-the_row-RoutineBlock-3 hidden-the_row-RoutineBlock-3 shape-the_row-Arm-0 hidden-the_row-Arm-0 roll-Place roll-Call roll-RoutineBlock roll-Arm hidden roll digits calls_to
below_the_least = refl
