-- The rows of loops, by computing.
use Rattle.std.proofs.Common.{◌≡◌, refl, ap, pos, [], ◌∷◌, Ok, false}
use Rattle.std.specs.Fmt.{digits}
use Rattle.csl_tree.specs.declared.program.Node.TheBlock.{shape-the_row-Expr-0, hidden-the_row-Expr-0, shape-the_row-Expr-1, hidden-the_row-Expr-1}
use Rattle.csl_tree.specs.declared.program.Place.{roll-Place}
use Rattle.csl_tree.specs.declared.program.Call.{roll-Call}
use Rattle.csl_tree.specs.declared.program.Form.TheBlock.{shape-the_row-Stmt-1, hidden-the_row-Stmt-1, shape-the_row-Stmt-2, hidden-the_row-Stmt-2, shape-the_row-RoutineBlock-3}
use Rattle.csl_tree.specs.declared.program.Form.TheBlock.{hidden-the_row-RoutineBlock-3, shape-the_row-Arm-0, hidden-the_row-Arm-0}
use Rattle.csl_tree.specs.declared.program.RoutineBlock.{roll-RoutineBlock}
use Rattle.csl_tree.specs.declared.program.Arm.{roll-Arm}
use denote.Hole.Carrier.{hidden, roll}
use Rattle.csl_meaning.specs.Effect.{calls_to}
use Rattle.cal_base.specs.Numbers.{least_below}
use Rattle.cal_base.specs.Claims.{meant}
use Rattle.cal_base.specs.After.{after, least_faulty, is_faulty, shared_word, fault_of, merged_memory}
use Rattle.csl_meaning.specs.Meaning.{main}
use Rattle.csl_meaning.specs.Rows.{written}
use Rattle.csl_meaning.proofs.Stepping.{first_step, step_leaves}
use Rattle.meaning_rows.proofs.Left.{get_insert, get_none, ordinary}
use Rattle.meaning_rows.specs.Loops as loops

pub unit_for_each_turn : loops.UnitForEachTurn
unfolding shape-the_row-Expr-0 hidden-the_row-Expr-0 shape-the_row-Expr-1 hidden-the_row-Expr-1 shape-the_row-Stmt-1 hidden-the_row-Stmt-1 shape-the_row-Stmt-2 hidden-the_row-Stmt-2
    shape-the_row-RoutineBlock-3 hidden-the_row-RoutineBlock-3 shape-the_row-Arm-0 hidden-the_row-Arm-0 roll-Place roll-Call roll-RoutineBlock roll-Arm hidden roll digits calls_to
unit_for_each_turn = refl

pub no_unit_for_last_turn : loops.NoUnitForLastTurn
unfolding shape-the_row-Expr-0 hidden-the_row-Expr-0 shape-the_row-Expr-1 hidden-the_row-Expr-1 shape-the_row-Stmt-1 hidden-the_row-Stmt-1 shape-the_row-Stmt-2 hidden-the_row-Stmt-2
    shape-the_row-RoutineBlock-3 hidden-the_row-RoutineBlock-3 shape-the_row-Arm-0 hidden-the_row-Arm-0 roll-Place roll-Call roll-RoutineBlock roll-Arm hidden roll digits calls_to
no_unit_for_last_turn = refl

pub no_unit_for_test : loops.NoUnitForTest
unfolding shape-the_row-Expr-0 hidden-the_row-Expr-0 shape-the_row-Expr-1 hidden-the_row-Expr-1 shape-the_row-Stmt-1 hidden-the_row-Stmt-1 shape-the_row-Stmt-2 hidden-the_row-Stmt-2
    shape-the_row-RoutineBlock-3 hidden-the_row-RoutineBlock-3 shape-the_row-Arm-0 hidden-the_row-Arm-0 roll-Place roll-Call roll-RoutineBlock roll-Arm hidden roll digits calls_to
no_unit_for_test = refl

pub step_before_unit : loops.StepBeforeUnit
unfolding shape-the_row-Expr-0 hidden-the_row-Expr-0 shape-the_row-Expr-1 hidden-the_row-Expr-1 shape-the_row-Stmt-1 hidden-the_row-Stmt-1 shape-the_row-Stmt-2 hidden-the_row-Stmt-2
    shape-the_row-RoutineBlock-3 hidden-the_row-RoutineBlock-3 shape-the_row-Arm-0 hidden-the_row-Arm-0 roll-Place roll-Call roll-RoutineBlock roll-Arm hidden roll digits calls_to
step_before_unit = refl

pub unit_before_turn : loops.UnitBeforeTurn
unfolding shape-the_row-Expr-0 hidden-the_row-Expr-0 shape-the_row-Expr-1 hidden-the_row-Expr-1 shape-the_row-Stmt-1 hidden-the_row-Stmt-1 shape-the_row-Stmt-2 hidden-the_row-Stmt-2
    shape-the_row-RoutineBlock-3 hidden-the_row-RoutineBlock-3 shape-the_row-Arm-0 hidden-the_row-Arm-0 roll-Place roll-Call roll-RoutineBlock roll-Arm hidden roll digits calls_to
unit_before_turn = refl

pub test_traps : loops.TestTraps
unfolding shape-the_row-Expr-0 hidden-the_row-Expr-0 shape-the_row-Expr-1 hidden-the_row-Expr-1 shape-the_row-Stmt-1 hidden-the_row-Stmt-1 shape-the_row-Stmt-2 hidden-the_row-Stmt-2
    shape-the_row-RoutineBlock-3 hidden-the_row-RoutineBlock-3 shape-the_row-Arm-0 hidden-the_row-Arm-0 roll-Place roll-Call roll-RoutineBlock roll-Arm hidden roll digits calls_to
test_traps = refl

pub unit_before_test : loops.UnitBeforeTest
unfolding shape-the_row-Expr-0 hidden-the_row-Expr-0 shape-the_row-Expr-1 hidden-the_row-Expr-1 shape-the_row-Stmt-1 hidden-the_row-Stmt-1 shape-the_row-Stmt-2 hidden-the_row-Stmt-2
    shape-the_row-RoutineBlock-3 hidden-the_row-RoutineBlock-3 shape-the_row-Arm-0 hidden-the_row-Arm-0 roll-Place roll-Call roll-RoutineBlock roll-Arm hidden roll digits calls_to
unit_before_test = refl

pub continue_goes_to_step : loops.ContinueGoesToStep
unfolding shape-the_row-Expr-0 hidden-the_row-Expr-0 shape-the_row-Expr-1 hidden-the_row-Expr-1 shape-the_row-Stmt-1 hidden-the_row-Stmt-1 shape-the_row-Stmt-2 hidden-the_row-Stmt-2
    shape-the_row-RoutineBlock-3 hidden-the_row-RoutineBlock-3 shape-the_row-Arm-0 hidden-the_row-Arm-0 roll-Place roll-Call roll-RoutineBlock roll-Arm hidden roll digits calls_to
continue_goes_to_step = refl

pub no_unit_in_for : loops.NoUnitInFor
unfolding shape-the_row-Expr-0 hidden-the_row-Expr-0 shape-the_row-Expr-1 hidden-the_row-Expr-1 shape-the_row-Stmt-1 hidden-the_row-Stmt-1 shape-the_row-Stmt-2 hidden-the_row-Stmt-2
    shape-the_row-RoutineBlock-3 hidden-the_row-RoutineBlock-3 shape-the_row-Arm-0 hidden-the_row-Arm-0 roll-Place roll-Call roll-RoutineBlock roll-Arm hidden roll digits calls_to
no_unit_in_for = refl

pub continue_goes_to_test : loops.ContinueGoesToTest
unfolding shape-the_row-Expr-0 hidden-the_row-Expr-0 shape-the_row-Expr-1 hidden-the_row-Expr-1 shape-the_row-Stmt-1 hidden-the_row-Stmt-1 shape-the_row-Stmt-2 hidden-the_row-Stmt-2
    shape-the_row-RoutineBlock-3 hidden-the_row-RoutineBlock-3 shape-the_row-Arm-0 hidden-the_row-Arm-0 roll-Place roll-Call roll-RoutineBlock roll-Arm hidden roll digits calls_to
continue_goes_to_test = refl

pub no_unit_in_while : loops.NoUnitInWhile
unfolding shape-the_row-Expr-0 hidden-the_row-Expr-0 shape-the_row-Expr-1 hidden-the_row-Expr-1 shape-the_row-Stmt-1 hidden-the_row-Stmt-1 shape-the_row-Stmt-2 hidden-the_row-Stmt-2
    shape-the_row-RoutineBlock-3 hidden-the_row-RoutineBlock-3 shape-the_row-Arm-0 hidden-the_row-Arm-0 roll-Place roll-Call roll-RoutineBlock roll-Arm hidden roll digits calls_to
no_unit_in_while = refl

pub break_leaves_inner : loops.BreakLeavesInner
unfolding shape-the_row-Expr-0 hidden-the_row-Expr-0 shape-the_row-Expr-1 hidden-the_row-Expr-1 shape-the_row-Stmt-1 hidden-the_row-Stmt-1 shape-the_row-Stmt-2 hidden-the_row-Stmt-2
    shape-the_row-RoutineBlock-3 hidden-the_row-RoutineBlock-3 shape-the_row-Arm-0 hidden-the_row-Arm-0 roll-Place roll-Call roll-RoutineBlock roll-Arm hidden roll digits calls_to
break_leaves_inner = refl

pub no_unit_after_break : loops.NoUnitAfterBreak
unfolding shape-the_row-Expr-0 hidden-the_row-Expr-0 shape-the_row-Expr-1 hidden-the_row-Expr-1 shape-the_row-Stmt-1 hidden-the_row-Stmt-1 shape-the_row-Stmt-2 hidden-the_row-Stmt-2
    shape-the_row-RoutineBlock-3 hidden-the_row-RoutineBlock-3 shape-the_row-Arm-0 hidden-the_row-Arm-0 roll-Place roll-Call roll-RoutineBlock roll-Arm hidden roll digits calls_to
no_unit_after_break = refl

pub return_leaves_loops : loops.ReturnLeavesLoops
unfolding shape-the_row-Expr-0 hidden-the_row-Expr-0 shape-the_row-Expr-1 hidden-the_row-Expr-1 shape-the_row-Stmt-1 hidden-the_row-Stmt-1 shape-the_row-Stmt-2 hidden-the_row-Stmt-2
    shape-the_row-RoutineBlock-3 hidden-the_row-RoutineBlock-3 shape-the_row-Arm-0 hidden-the_row-Arm-0 roll-Place roll-Call roll-RoutineBlock roll-Arm hidden roll digits calls_to
return_leaves_loops = refl

pub no_unit_before_return : loops.NoUnitBeforeReturn
unfolding shape-the_row-Expr-0 hidden-the_row-Expr-0 shape-the_row-Expr-1 hidden-the_row-Expr-1 shape-the_row-Stmt-1 hidden-the_row-Stmt-1 shape-the_row-Stmt-2 hidden-the_row-Stmt-2
    shape-the_row-RoutineBlock-3 hidden-the_row-RoutineBlock-3 shape-the_row-Arm-0 hidden-the_row-Arm-0 roll-Place roll-Call roll-RoutineBlock roll-Arm hidden roll digits calls_to
no_unit_before_return = refl

pub loops_end : loops.LoopsEnd
unfolding shape-the_row-Expr-0 hidden-the_row-Expr-0 shape-the_row-Expr-1 hidden-the_row-Expr-1 shape-the_row-Stmt-1 hidden-the_row-Stmt-1 shape-the_row-Stmt-2 hidden-the_row-Stmt-2
    shape-the_row-RoutineBlock-3 hidden-the_row-RoutineBlock-3 shape-the_row-Arm-0 hidden-the_row-Arm-0 roll-Place roll-Call roll-RoutineBlock roll-Arm hidden roll digits calls_to
loops_end = refl

pub return_ends_main : loops.ReturnEndsMain
unfolding shape-the_row-Expr-0 hidden-the_row-Expr-0 shape-the_row-Expr-1 hidden-the_row-Expr-1 shape-the_row-Stmt-1 hidden-the_row-Stmt-1 shape-the_row-Stmt-2 hidden-the_row-Stmt-2
    shape-the_row-RoutineBlock-3 hidden-the_row-RoutineBlock-3 shape-the_row-Arm-0 hidden-the_row-Arm-0 roll-Place roll-Call roll-RoutineBlock roll-Arm hidden roll digits calls_to
return_ends_main = refl

return_ends_routine_leaves : meant (first_step (main loops.return_in_routine 1)) ≡ Ok (ordinary (pos 7 ∷ pos 1 ∷ []))
unfolding shape-the_row-Expr-0 hidden-the_row-Expr-0 shape-the_row-Expr-1 hidden-the_row-Expr-1 shape-the_row-Stmt-1 hidden-the_row-Stmt-1 shape-the_row-Stmt-2 hidden-the_row-Stmt-2
    shape-the_row-RoutineBlock-3 hidden-the_row-RoutineBlock-3 shape-the_row-Arm-0 hidden-the_row-Arm-0 roll-Place roll-Call roll-RoutineBlock roll-Arm hidden roll digits calls_to after least_faulty
    is_faulty shared_word least_below fault_of merged_memory
return_ends_routine_leaves = simp (get_insert, get_none)

pub return_ends_routine : loops.ReturnEndsRoutine
unfolding shape-the_row-Expr-0 hidden-the_row-Expr-0 shape-the_row-Expr-1 hidden-the_row-Expr-1 shape-the_row-Stmt-1 hidden-the_row-Stmt-1 shape-the_row-Stmt-2 hidden-the_row-Stmt-2
    shape-the_row-RoutineBlock-3 hidden-the_row-RoutineBlock-3 shape-the_row-Arm-0 hidden-the_row-Arm-0 roll-Place roll-Call roll-RoutineBlock roll-Arm hidden roll digits calls_to
return_ends_routine = ap (written false) (step_leaves (main loops.return_in_routine 1) _ return_ends_routine_leaves)
