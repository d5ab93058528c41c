-- The worked examples, by computing.
use Rattle.std.proofs.Common.{refl}
use Rattle.std.specs.Fmt.{digits}
use Rattle.csl_tree.specs.declared.program.Node.TheBlock.{shape-the_row-Expr-0, hidden-the_row-Expr-0, shape-the_row-Expr-1, hidden-the_row-Expr-1}
use Rattle.csl_tree.specs.declared.program.Place.{roll-Place}
use Rattle.csl_tree.specs.declared.program.Form.TheBlock.{shape-the_row-Stmt-1, hidden-the_row-Stmt-1, shape-the_row-Stmt-2, hidden-the_row-Stmt-2, shape-the_row-RoutineBlock-3}
use Rattle.csl_tree.specs.declared.program.Form.TheBlock.{hidden-the_row-RoutineBlock-3, shape-the_row-Arm-0, hidden-the_row-Arm-0}
use Rattle.csl_tree.specs.declared.program.RoutineBlock.{roll-RoutineBlock}
use Rattle.csl_tree.specs.declared.program.Arm.{roll-Arm}
use denote.Hole.Carrier.{hidden, roll}
use Rattle.csl_print.specs.TreeTokens.{tokens_of}
use Rattle.csl_print.specs.Canonical.{canonical}
use Rattle.csl_print.specs.Rows as rows

pub seven_lines : rows.SevenLines
unfolding shape-the_row-Expr-0 hidden-the_row-Expr-0 shape-the_row-Expr-1 hidden-the_row-Expr-1 shape-the_row-Stmt-1 hidden-the_row-Stmt-1 shape-the_row-Stmt-2 hidden-the_row-Stmt-2
    shape-the_row-RoutineBlock-3 hidden-the_row-RoutineBlock-3 shape-the_row-Arm-0 hidden-the_row-Arm-0 roll-Place roll-RoutineBlock roll-Arm hidden roll digits tokens_of canonical
seven_lines = refl

pub ten_lines : rows.TenLines
unfolding shape-the_row-Expr-0 hidden-the_row-Expr-0 shape-the_row-Expr-1 hidden-the_row-Expr-1 shape-the_row-Stmt-1 hidden-the_row-Stmt-1 shape-the_row-Stmt-2 hidden-the_row-Stmt-2
    shape-the_row-RoutineBlock-3 hidden-the_row-RoutineBlock-3 shape-the_row-Arm-0 hidden-the_row-Arm-0 roll-Place roll-RoutineBlock roll-Arm hidden roll digits tokens_of canonical
ten_lines = refl

pub listed : rows.Listed
unfolding shape-the_row-Expr-0 hidden-the_row-Expr-0 shape-the_row-Expr-1 hidden-the_row-Expr-1 shape-the_row-Stmt-1 hidden-the_row-Stmt-1 shape-the_row-Stmt-2 hidden-the_row-Stmt-2
    shape-the_row-RoutineBlock-3 hidden-the_row-RoutineBlock-3 shape-the_row-Arm-0 hidden-the_row-Arm-0 roll-Place roll-RoutineBlock roll-Arm hidden roll digits tokens_of canonical
listed = refl

pub one_step : rows.OneStep
unfolding shape-the_row-Expr-0 hidden-the_row-Expr-0 shape-the_row-Expr-1 hidden-the_row-Expr-1 shape-the_row-Stmt-1 hidden-the_row-Stmt-1 shape-the_row-Stmt-2 hidden-the_row-Stmt-2
    shape-the_row-RoutineBlock-3 hidden-the_row-RoutineBlock-3 shape-the_row-Arm-0 hidden-the_row-Arm-0 roll-Place roll-RoutineBlock roll-Arm hidden roll digits tokens_of canonical
one_step = refl
