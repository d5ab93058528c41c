-- The worked examples, by computing.
use Rattle.std.proofs.Common.{refl}
use Rattle.csl_tree.specs.declared.program.Node.TheBlock.{shape-the_row-Expr-0, hidden-the_row-Expr-0, shape-the_row-Expr-1, hidden-the_row-Expr-1}
use Rattle.csl_tree.specs.declared.program.Place.{roll-Place}
use Rattle.csl_tree.specs.declared.program.Call.{roll-Call}
use Rattle.csl_tree.specs.declared.program.Form.TheBlock.{shape-the_row-Stmt-1, hidden-the_row-Stmt-1, shape-the_row-Stmt-2, hidden-the_row-Stmt-2, shape-the_row-RoutineBlock-3}
use Rattle.csl_tree.specs.declared.program.Form.TheBlock.{hidden-the_row-RoutineBlock-3, shape-the_row-Arm-0, hidden-the_row-Arm-0}
use Rattle.csl_tree.specs.declared.program.RoutineBlock.{roll-RoutineBlock}
use Rattle.csl_tree.specs.declared.program.Arm.{roll-Arm}
use denote.Hole.Carrier.{hidden, roll}
use Rattle.compiled_code.specs.Rows as rows

pub guarded : rows.GuardedCode
unfolding shape-the_row-Expr-0 hidden-the_row-Expr-0 shape-the_row-Expr-1 hidden-the_row-Expr-1 shape-the_row-Stmt-1 hidden-the_row-Stmt-1 shape-the_row-Stmt-2 hidden-the_row-Stmt-2
    shape-the_row-RoutineBlock-3 hidden-the_row-RoutineBlock-3 shape-the_row-Arm-0 hidden-the_row-Arm-0 roll-Place roll-Call roll-RoutineBlock roll-Arm hidden roll
guarded = refl

pub leaving : rows.LeavingCode
unfolding shape-the_row-Expr-0 hidden-the_row-Expr-0 shape-the_row-Expr-1 hidden-the_row-Expr-1 shape-the_row-Stmt-1 hidden-the_row-Stmt-1 shape-the_row-Stmt-2 hidden-the_row-Stmt-2
    shape-the_row-RoutineBlock-3 hidden-the_row-RoutineBlock-3 shape-the_row-Arm-0 hidden-the_row-Arm-0 roll-Place roll-Call roll-RoutineBlock roll-Arm hidden roll
leaving = refl

pub descending : rows.DescendingCode
unfolding shape-the_row-Expr-0 hidden-the_row-Expr-0 shape-the_row-Expr-1 hidden-the_row-Expr-1 shape-the_row-Stmt-1 hidden-the_row-Stmt-1 shape-the_row-Stmt-2 hidden-the_row-Stmt-2
    shape-the_row-RoutineBlock-3 hidden-the_row-RoutineBlock-3 shape-the_row-Arm-0 hidden-the_row-Arm-0 roll-Place roll-Call roll-RoutineBlock roll-Arm hidden roll
descending = refl

pub squares : rows.SquaresModule
unfolding shape-the_row-Expr-0 hidden-the_row-Expr-0 shape-the_row-Expr-1 hidden-the_row-Expr-1 shape-the_row-Stmt-1 hidden-the_row-Stmt-1 shape-the_row-Stmt-2 hidden-the_row-Stmt-2
    shape-the_row-RoutineBlock-3 hidden-the_row-RoutineBlock-3 shape-the_row-Arm-0 hidden-the_row-Arm-0 roll-Place roll-Call roll-RoutineBlock roll-Arm hidden roll
squares = refl
