-- The rows of words, by computing.
use Rattle.std.proofs.Common.{◌≡◌, refl, ap, pos, [], ◌∷◌, Ok, Err, false}
use Rattle.std.specs.Fmt.{digits}
use Rattle.csl_tree.specs.declared.program.Node.TheBlock.{shape-the_row-Expr-0, hidden-the_row-Expr-0, shape-the_row-Expr-1, hidden-the_row-Expr-1}
use Rattle.csl_tree.specs.declared.program.Place.{roll-Place}
use Rattle.csl_tree.specs.declared.program.Call.{roll-Call}
use Rattle.csl_tree.specs.declared.program.Form.TheBlock.{shape-the_row-Stmt-1, hidden-the_row-Stmt-1, shape-the_row-Stmt-2, hidden-the_row-Stmt-2, shape-the_row-RoutineBlock-3}
use Rattle.csl_tree.specs.declared.program.Form.TheBlock.{hidden-the_row-RoutineBlock-3, shape-the_row-Arm-0, hidden-the_row-Arm-0}
use Rattle.csl_tree.specs.declared.program.RoutineBlock.{roll-RoutineBlock}
use Rattle.csl_tree.specs.declared.program.Arm.{roll-Arm}
use denote.Hole.Carrier.{hidden, roll}
use Rattle.csl_meaning.specs.Effect.{calls_to}
use Rattle.cal_base.specs.Numbers.{least_below}
use Rattle.cal_base.specs.Claims.{meant}
use Rattle.cal_base.specs.After.{after, least_faulty, is_faulty, shared_word, fault_of, merged_memory}
use Rattle.csl_meaning.specs.Meaning.{main}
use Rattle.csl_meaning.specs.Rows.{written}
use Rattle.csl_meaning.proofs.Stepping.{first_step, step_leaves}
use Rattle.csl_tree.specs.declared.program.BinaryOp.TheVariants.{Div, Rem}
use Rattle.cal_base.specs.declared.ends.Cause.TheVariants.{Overflow, Assertion}
use Rattle.cal_base.specs.declared.ends.StepFault.TheVariants.{Trap, Conflict, Total}
use Rattle.meaning_rows.proofs.Left.{get_insert, get_none, ordinary, one_tally}
use Rattle.meaning_rows.specs.Words as words

own_sum_overflows_leaves : meant (first_step (main words.own_sum 1000000)) ≡ Err (Trap 0 Overflow)
unfolding shape-the_row-Expr-0 hidden-the_row-Expr-0 shape-the_row-Expr-1 hidden-the_row-Expr-1 shape-the_row-Stmt-1 hidden-the_row-Stmt-1 shape-the_row-Stmt-2 hidden-the_row-Stmt-2
    shape-the_row-RoutineBlock-3 hidden-the_row-RoutineBlock-3 shape-the_row-Arm-0 hidden-the_row-Arm-0 roll-Place roll-Call roll-RoutineBlock roll-Arm hidden roll digits calls_to after least_faulty
    is_faulty shared_word least_below fault_of merged_memory
own_sum_overflows_leaves = simp (get_insert, get_none)

pub own_sum_overflows : words.OwnSumOverflows
unfolding shape-the_row-Expr-0 hidden-the_row-Expr-0 shape-the_row-Expr-1 hidden-the_row-Expr-1 shape-the_row-Stmt-1 hidden-the_row-Stmt-1 shape-the_row-Stmt-2 hidden-the_row-Stmt-2
    shape-the_row-RoutineBlock-3 hidden-the_row-RoutineBlock-3 shape-the_row-Arm-0 hidden-the_row-Arm-0 roll-Place roll-Call roll-RoutineBlock roll-Arm hidden roll digits calls_to
own_sum_overflows = ap (written false) (step_leaves (main words.own_sum 1000000) _ own_sum_overflows_leaves)

running_sum_overflows_leaves : meant (first_step (main words.running_sum 1000000)) ≡ Err (Trap 0 Overflow)
unfolding shape-the_row-Expr-0 hidden-the_row-Expr-0 shape-the_row-Expr-1 hidden-the_row-Expr-1 shape-the_row-Stmt-1 hidden-the_row-Stmt-1 shape-the_row-Stmt-2 hidden-the_row-Stmt-2
    shape-the_row-RoutineBlock-3 hidden-the_row-RoutineBlock-3 shape-the_row-Arm-0 hidden-the_row-Arm-0 roll-Place roll-Call roll-RoutineBlock roll-Arm hidden roll digits calls_to after least_faulty
    is_faulty shared_word least_below fault_of merged_memory
running_sum_overflows_leaves = simp (get_insert, get_none)

pub running_sum_overflows : words.RunningSumOverflows
unfolding shape-the_row-Expr-0 hidden-the_row-Expr-0 shape-the_row-Expr-1 hidden-the_row-Expr-1 shape-the_row-Stmt-1 hidden-the_row-Stmt-1 shape-the_row-Stmt-2 hidden-the_row-Stmt-2
    shape-the_row-RoutineBlock-3 hidden-the_row-RoutineBlock-3 shape-the_row-Arm-0 hidden-the_row-Arm-0 roll-Place roll-Call roll-RoutineBlock roll-Arm hidden roll digits calls_to
running_sum_overflows = ap (written false) (step_leaves (main words.running_sum 1000000) _ running_sum_overflows_leaves)

sum_begins_at_zero_leaves : meant (first_step (main words.sum_from_zero 1000000)) ≡ Ok (one_tally (pos 9223372036854775807))
unfolding shape-the_row-Expr-0 hidden-the_row-Expr-0 shape-the_row-Expr-1 hidden-the_row-Expr-1 shape-the_row-Stmt-1 hidden-the_row-Stmt-1 shape-the_row-Stmt-2 hidden-the_row-Stmt-2
    shape-the_row-RoutineBlock-3 hidden-the_row-RoutineBlock-3 shape-the_row-Arm-0 hidden-the_row-Arm-0 roll-Place roll-Call roll-RoutineBlock roll-Arm hidden roll digits calls_to after least_faulty
    is_faulty shared_word least_below fault_of merged_memory
sum_begins_at_zero_leaves = simp (get_insert, get_none)

pub sum_begins_at_zero : words.SumBeginsAtZero
unfolding shape-the_row-Expr-0 hidden-the_row-Expr-0 shape-the_row-Expr-1 hidden-the_row-Expr-1 shape-the_row-Stmt-1 hidden-the_row-Stmt-1 shape-the_row-Stmt-2 hidden-the_row-Stmt-2
    shape-the_row-RoutineBlock-3 hidden-the_row-RoutineBlock-3 shape-the_row-Arm-0 hidden-the_row-Arm-0 roll-Place roll-Call roll-RoutineBlock roll-Arm hidden roll digits calls_to
sum_begins_at_zero = ap (written false) (step_leaves (main words.sum_from_zero 1000000) _ sum_begins_at_zero_leaves)

total_is_exact_leaves : meant (first_step (main words.sums_of_two 1000000)) ≡ Ok (one_tally (pos 9223372036854775807))
unfolding shape-the_row-Expr-0 hidden-the_row-Expr-0 shape-the_row-Expr-1 hidden-the_row-Expr-1 shape-the_row-Stmt-1 hidden-the_row-Stmt-1 shape-the_row-Stmt-2 hidden-the_row-Stmt-2
    shape-the_row-RoutineBlock-3 hidden-the_row-RoutineBlock-3 shape-the_row-Arm-0 hidden-the_row-Arm-0 roll-Place roll-Call roll-RoutineBlock roll-Arm hidden roll digits calls_to after least_faulty
    is_faulty shared_word least_below fault_of merged_memory
total_is_exact_leaves = simp (get_insert, get_none)

pub total_is_exact : words.TotalIsExact
unfolding shape-the_row-Expr-0 hidden-the_row-Expr-0 shape-the_row-Expr-1 hidden-the_row-Expr-1 shape-the_row-Stmt-1 hidden-the_row-Stmt-1 shape-the_row-Stmt-2 hidden-the_row-Stmt-2
    shape-the_row-RoutineBlock-3 hidden-the_row-RoutineBlock-3 shape-the_row-Arm-0 hidden-the_row-Arm-0 roll-Place roll-Call roll-RoutineBlock roll-Arm hidden roll digits calls_to
total_is_exact = ap (written false) (step_leaves (main words.sums_of_two 1000000) _ total_is_exact_leaves)

least_total_is_named_leaves : meant (first_step (main words.two_totals 1000000)) ≡ Err (Total 1)
unfolding shape-the_row-Expr-0 hidden-the_row-Expr-0 shape-the_row-Expr-1 hidden-the_row-Expr-1 shape-the_row-Stmt-1 hidden-the_row-Stmt-1 shape-the_row-Stmt-2 hidden-the_row-Stmt-2
    shape-the_row-RoutineBlock-3 hidden-the_row-RoutineBlock-3 shape-the_row-Arm-0 hidden-the_row-Arm-0 roll-Place roll-Call roll-RoutineBlock roll-Arm hidden roll digits calls_to after least_faulty
    is_faulty shared_word least_below fault_of merged_memory
least_total_is_named_leaves = simp (get_insert, get_none)

pub least_total_is_named : words.LeastTotalIsNamed
unfolding shape-the_row-Expr-0 hidden-the_row-Expr-0 shape-the_row-Expr-1 hidden-the_row-Expr-1 shape-the_row-Stmt-1 hidden-the_row-Stmt-1 shape-the_row-Stmt-2 hidden-the_row-Stmt-2
    shape-the_row-RoutineBlock-3 hidden-the_row-RoutineBlock-3 shape-the_row-Arm-0 hidden-the_row-Arm-0 roll-Place roll-Call roll-RoutineBlock roll-Arm hidden roll digits calls_to
least_total_is_named = ap (written false) (step_leaves (main words.two_totals 1000000) _ least_total_is_named_leaves)

tally_in_main_leaves : meant (first_step (main words.tally_in_main 1000000)) ≡ Ok (one_tally (pos 16))
unfolding shape-the_row-Expr-0 hidden-the_row-Expr-0 shape-the_row-Expr-1 hidden-the_row-Expr-1 shape-the_row-Stmt-1 hidden-the_row-Stmt-1 shape-the_row-Stmt-2 hidden-the_row-Stmt-2
    shape-the_row-RoutineBlock-3 hidden-the_row-RoutineBlock-3 shape-the_row-Arm-0 hidden-the_row-Arm-0 roll-Place roll-Call roll-RoutineBlock roll-Arm hidden roll digits calls_to after least_faulty
    is_faulty shared_word least_below fault_of merged_memory
tally_in_main_leaves = simp (get_insert, get_none)

pub tally_in_main : words.TallyInMain
unfolding shape-the_row-Expr-0 hidden-the_row-Expr-0 shape-the_row-Expr-1 hidden-the_row-Expr-1 shape-the_row-Stmt-1 hidden-the_row-Stmt-1 shape-the_row-Stmt-2 hidden-the_row-Stmt-2
    shape-the_row-RoutineBlock-3 hidden-the_row-RoutineBlock-3 shape-the_row-Arm-0 hidden-the_row-Arm-0 roll-Place roll-Call roll-RoutineBlock roll-Arm hidden roll digits calls_to
tally_in_main = ap (written false) (step_leaves (main words.tally_in_main 1000000) _ tally_in_main_leaves)

pub tally_overflows_in_main : words.TallyOverflowsInMain
unfolding shape-the_row-Expr-0 hidden-the_row-Expr-0 shape-the_row-Expr-1 hidden-the_row-Expr-1 shape-the_row-Stmt-1 hidden-the_row-Stmt-1 shape-the_row-Stmt-2 hidden-the_row-Stmt-2
    shape-the_row-RoutineBlock-3 hidden-the_row-RoutineBlock-3 shape-the_row-Arm-0 hidden-the_row-Arm-0 roll-Place roll-Call roll-RoutineBlock roll-Arm hidden roll digits calls_to
tally_overflows_in_main = refl

adds_by_calls_leaves : meant (first_step (main words.adds_by_calls 1000000)) ≡ Ok (one_tally (pos 17))
unfolding shape-the_row-Expr-0 hidden-the_row-Expr-0 shape-the_row-Expr-1 hidden-the_row-Expr-1 shape-the_row-Stmt-1 hidden-the_row-Stmt-1 shape-the_row-Stmt-2 hidden-the_row-Stmt-2
    shape-the_row-RoutineBlock-3 hidden-the_row-RoutineBlock-3 shape-the_row-Arm-0 hidden-the_row-Arm-0 roll-Place roll-Call roll-RoutineBlock roll-Arm hidden roll digits calls_to after least_faulty
    is_faulty shared_word least_below fault_of merged_memory
adds_by_calls_leaves = simp (get_insert, get_none)

pub adds_by_calls : words.AddsByCalls
unfolding shape-the_row-Expr-0 hidden-the_row-Expr-0 shape-the_row-Expr-1 hidden-the_row-Expr-1 shape-the_row-Stmt-1 hidden-the_row-Stmt-1 shape-the_row-Stmt-2 hidden-the_row-Stmt-2
    shape-the_row-RoutineBlock-3 hidden-the_row-RoutineBlock-3 shape-the_row-Arm-0 hidden-the_row-Arm-0 roll-Place roll-Call roll-RoutineBlock roll-Arm hidden roll digits calls_to
adds_by_calls = ap (written false) (step_leaves (main words.adds_by_calls 1000000) _ adds_by_calls_leaves)

least_word_is_named_leaves : meant (first_step (main words.two_conflicts 1000000)) ≡ Err (Conflict 1 1 0)
unfolding shape-the_row-Expr-0 hidden-the_row-Expr-0 shape-the_row-Expr-1 hidden-the_row-Expr-1 shape-the_row-Stmt-1 hidden-the_row-Stmt-1 shape-the_row-Stmt-2 hidden-the_row-Stmt-2
    shape-the_row-RoutineBlock-3 hidden-the_row-RoutineBlock-3 shape-the_row-Arm-0 hidden-the_row-Arm-0 roll-Place roll-Call roll-RoutineBlock roll-Arm hidden roll digits calls_to after least_faulty
    is_faulty shared_word least_below fault_of merged_memory
least_word_is_named_leaves = simp (get_insert, get_none)

pub least_word_is_named : words.LeastWordIsNamed
unfolding shape-the_row-Expr-0 hidden-the_row-Expr-0 shape-the_row-Expr-1 hidden-the_row-Expr-1 shape-the_row-Stmt-1 hidden-the_row-Stmt-1 shape-the_row-Stmt-2 hidden-the_row-Stmt-2
    shape-the_row-RoutineBlock-3 hidden-the_row-RoutineBlock-3 shape-the_row-Arm-0 hidden-the_row-Arm-0 roll-Place roll-Call roll-RoutineBlock roll-Arm hidden roll digits calls_to
least_word_is_named = ap (written false) (step_leaves (main words.two_conflicts 1000000) _ least_word_is_named_leaves)

conflict_before_trap_leaves : meant (first_step (main (words.conflict_and_trap 2) 1000000)) ≡ Err (Conflict 1 0 0)
unfolding shape-the_row-Expr-0 hidden-the_row-Expr-0 shape-the_row-Expr-1 hidden-the_row-Expr-1 shape-the_row-Stmt-1 hidden-the_row-Stmt-1 shape-the_row-Stmt-2 hidden-the_row-Stmt-2
    shape-the_row-RoutineBlock-3 hidden-the_row-RoutineBlock-3 shape-the_row-Arm-0 hidden-the_row-Arm-0 roll-Place roll-Call roll-RoutineBlock roll-Arm hidden roll digits calls_to after least_faulty
    is_faulty shared_word least_below fault_of merged_memory
conflict_before_trap_leaves = simp (get_insert, get_none)

pub conflict_before_trap : words.ConflictBeforeTrap
unfolding shape-the_row-Expr-0 hidden-the_row-Expr-0 shape-the_row-Expr-1 hidden-the_row-Expr-1 shape-the_row-Stmt-1 hidden-the_row-Stmt-1 shape-the_row-Stmt-2 hidden-the_row-Stmt-2
    shape-the_row-RoutineBlock-3 hidden-the_row-RoutineBlock-3 shape-the_row-Arm-0 hidden-the_row-Arm-0 roll-Place roll-Call roll-RoutineBlock roll-Arm hidden roll digits calls_to
conflict_before_trap = ap (written false) (step_leaves (main (words.conflict_and_trap 2) 1000000) _ conflict_before_trap_leaves)

trap_is_own_cause_leaves : meant (first_step (main (words.conflict_and_trap 1) 1000000)) ≡ Err (Trap 1 Assertion)
unfolding shape-the_row-Expr-0 hidden-the_row-Expr-0 shape-the_row-Expr-1 hidden-the_row-Expr-1 shape-the_row-Stmt-1 hidden-the_row-Stmt-1 shape-the_row-Stmt-2 hidden-the_row-Stmt-2
    shape-the_row-RoutineBlock-3 hidden-the_row-RoutineBlock-3 shape-the_row-Arm-0 hidden-the_row-Arm-0 roll-Place roll-Call roll-RoutineBlock roll-Arm hidden roll digits calls_to after least_faulty
    is_faulty shared_word least_below fault_of merged_memory
trap_is_own_cause_leaves = simp (get_insert, get_none)

pub trap_is_own_cause : words.TrapIsOwnCause
unfolding shape-the_row-Expr-0 hidden-the_row-Expr-0 shape-the_row-Expr-1 hidden-the_row-Expr-1 shape-the_row-Stmt-1 hidden-the_row-Stmt-1 shape-the_row-Stmt-2 hidden-the_row-Stmt-2
    shape-the_row-RoutineBlock-3 hidden-the_row-RoutineBlock-3 shape-the_row-Arm-0 hidden-the_row-Arm-0 roll-Place roll-Call roll-RoutineBlock roll-Arm hidden roll digits calls_to
trap_is_own_cause = ap (written false) (step_leaves (main (words.conflict_and_trap 1) 1000000) _ trap_is_own_cause_leaves)

adding_is_writing_leaves : meant (first_step (main words.adding_nothing 1000000)) ≡ Err (Conflict 1 0 0)
unfolding shape-the_row-Expr-0 hidden-the_row-Expr-0 shape-the_row-Expr-1 hidden-the_row-Expr-1 shape-the_row-Stmt-1 hidden-the_row-Stmt-1 shape-the_row-Stmt-2 hidden-the_row-Stmt-2
    shape-the_row-RoutineBlock-3 hidden-the_row-RoutineBlock-3 shape-the_row-Arm-0 hidden-the_row-Arm-0 roll-Place roll-Call roll-RoutineBlock roll-Arm hidden roll digits calls_to after least_faulty
    is_faulty shared_word least_below fault_of merged_memory
adding_is_writing_leaves = simp (get_insert, get_none)

pub adding_is_writing : words.AddingIsWriting
unfolding shape-the_row-Expr-0 hidden-the_row-Expr-0 shape-the_row-Expr-1 hidden-the_row-Expr-1 shape-the_row-Stmt-1 hidden-the_row-Stmt-1 shape-the_row-Stmt-2 hidden-the_row-Stmt-2
    shape-the_row-RoutineBlock-3 hidden-the_row-RoutineBlock-3 shape-the_row-Arm-0 hidden-the_row-Arm-0 roll-Place roll-Call roll-RoutineBlock roll-Arm hidden roll digits calls_to
adding_is_writing = ap (written false) (step_leaves (main words.adding_nothing 1000000) _ adding_is_writing_leaves)

pub first_values : words.FirstValues
unfolding shape-the_row-Expr-0 hidden-the_row-Expr-0 shape-the_row-Expr-1 hidden-the_row-Expr-1 shape-the_row-Stmt-1 hidden-the_row-Stmt-1 shape-the_row-Stmt-2 hidden-the_row-Stmt-2
    shape-the_row-RoutineBlock-3 hidden-the_row-RoutineBlock-3 shape-the_row-Arm-0 hidden-the_row-Arm-0 roll-Place roll-Call roll-RoutineBlock roll-Arm hidden roll digits calls_to
first_values = refl

own_writes_alone_leaves : meant (first_step (main words.own_and_others 1000000)) ≡ Ok (ordinary (pos 1 ∷ pos 2 ∷ pos 3 ∷ pos 18 ∷ pos 29 ∷ pos 37 ∷ []))
unfolding shape-the_row-Expr-0 hidden-the_row-Expr-0 shape-the_row-Expr-1 hidden-the_row-Expr-1 shape-the_row-Stmt-1 hidden-the_row-Stmt-1 shape-the_row-Stmt-2 hidden-the_row-Stmt-2
    shape-the_row-RoutineBlock-3 hidden-the_row-RoutineBlock-3 shape-the_row-Arm-0 hidden-the_row-Arm-0 roll-Place roll-Call roll-RoutineBlock roll-Arm hidden roll digits calls_to after least_faulty
    is_faulty shared_word least_below fault_of merged_memory
own_writes_alone_leaves = simp (get_insert, get_none)

pub own_writes_alone : words.OwnWritesAlone
unfolding shape-the_row-Expr-0 hidden-the_row-Expr-0 shape-the_row-Expr-1 hidden-the_row-Expr-1 shape-the_row-Stmt-1 hidden-the_row-Stmt-1 shape-the_row-Stmt-2 hidden-the_row-Stmt-2
    shape-the_row-RoutineBlock-3 hidden-the_row-RoutineBlock-3 shape-the_row-Arm-0 hidden-the_row-Arm-0 roll-Place roll-Call roll-RoutineBlock roll-Arm hidden roll digits calls_to
own_writes_alone = ap (written false) (step_leaves (main words.own_and_others 1000000) _ own_writes_alone_leaves)

last_write_counts_leaves : meant (first_step (main words.last_write 1000000)) ≡ Ok (ordinary (pos 5 ∷ []))
unfolding shape-the_row-Expr-0 hidden-the_row-Expr-0 shape-the_row-Expr-1 hidden-the_row-Expr-1 shape-the_row-Stmt-1 hidden-the_row-Stmt-1 shape-the_row-Stmt-2 hidden-the_row-Stmt-2
    shape-the_row-RoutineBlock-3 hidden-the_row-RoutineBlock-3 shape-the_row-Arm-0 hidden-the_row-Arm-0 roll-Place roll-Call roll-RoutineBlock roll-Arm hidden roll digits calls_to after least_faulty
    is_faulty shared_word least_below fault_of merged_memory
last_write_counts_leaves = simp get_insert

pub last_write_counts : words.LastWriteCounts
unfolding shape-the_row-Expr-0 hidden-the_row-Expr-0 shape-the_row-Expr-1 hidden-the_row-Expr-1 shape-the_row-Stmt-1 hidden-the_row-Stmt-1 shape-the_row-Stmt-2 hidden-the_row-Stmt-2
    shape-the_row-RoutineBlock-3 hidden-the_row-RoutineBlock-3 shape-the_row-Arm-0 hidden-the_row-Arm-0 roll-Place roll-Call roll-RoutineBlock roll-Arm hidden roll digits calls_to
last_write_counts = ap (written false) (step_leaves (main words.last_write 1000000) _ last_write_counts_leaves)

quotient_overflows_in_routine_leaves : meant (first_step (main (words.least_in_routine Div) 1000000)) ≡ Err (Trap 0 Overflow)
unfolding shape-the_row-Expr-0 hidden-the_row-Expr-0 shape-the_row-Expr-1 hidden-the_row-Expr-1 shape-the_row-Stmt-1 hidden-the_row-Stmt-1 shape-the_row-Stmt-2 hidden-the_row-Stmt-2
    shape-the_row-RoutineBlock-3 hidden-the_row-RoutineBlock-3 shape-the_row-Arm-0 hidden-the_row-Arm-0 roll-Place roll-Call roll-RoutineBlock roll-Arm hidden roll digits calls_to after least_faulty
    is_faulty shared_word least_below fault_of merged_memory
quotient_overflows_in_routine_leaves = refl

pub quotient_overflows_in_routine : words.OverflowInRoutine Div
unfolding shape-the_row-Expr-0 hidden-the_row-Expr-0 shape-the_row-Expr-1 hidden-the_row-Expr-1 shape-the_row-Stmt-1 hidden-the_row-Stmt-1 shape-the_row-Stmt-2 hidden-the_row-Stmt-2
    shape-the_row-RoutineBlock-3 hidden-the_row-RoutineBlock-3 shape-the_row-Arm-0 hidden-the_row-Arm-0 roll-Place roll-Call roll-RoutineBlock roll-Arm hidden roll digits calls_to
quotient_overflows_in_routine = ap (written false) (step_leaves (main (words.least_in_routine Div) 1000000) _ quotient_overflows_in_routine_leaves)

remainder_overflows_in_routine_leaves : meant (first_step (main (words.least_in_routine Rem) 1000000)) ≡ Err (Trap 0 Overflow)
unfolding shape-the_row-Expr-0 hidden-the_row-Expr-0 shape-the_row-Expr-1 hidden-the_row-Expr-1 shape-the_row-Stmt-1 hidden-the_row-Stmt-1 shape-the_row-Stmt-2 hidden-the_row-Stmt-2
    shape-the_row-RoutineBlock-3 hidden-the_row-RoutineBlock-3 shape-the_row-Arm-0 hidden-the_row-Arm-0 roll-Place roll-Call roll-RoutineBlock roll-Arm hidden roll digits calls_to after least_faulty
    is_faulty shared_word least_below fault_of merged_memory
remainder_overflows_in_routine_leaves = refl

pub remainder_overflows_in_routine : words.OverflowInRoutine Rem
unfolding shape-the_row-Expr-0 hidden-the_row-Expr-0 shape-the_row-Expr-1 hidden-the_row-Expr-1 shape-the_row-Stmt-1 hidden-the_row-Stmt-1 shape-the_row-Stmt-2 hidden-the_row-Stmt-2
    shape-the_row-RoutineBlock-3 hidden-the_row-RoutineBlock-3 shape-the_row-Arm-0 hidden-the_row-Arm-0 roll-Place roll-Call roll-RoutineBlock roll-Arm hidden roll digits calls_to
remainder_overflows_in_routine = ap (written false) (step_leaves (main (words.least_in_routine Rem) 1000000) _ remainder_overflows_in_routine_leaves)
