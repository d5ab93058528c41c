use Rattle.meaning_rows.proofs.Loops as proved
use Rattle.meaning_rows.proofs.turns_of_loops.Goals as goal

pub returns-clause-unit_for_each_turn : goal.returns-clause-unit_for_each_turn
returns-clause-unit_for_each_turn c = proved.unit_for_each_turn

pub returns-clause-no_unit_for_last_turn : goal.returns-clause-no_unit_for_last_turn
returns-clause-no_unit_for_last_turn c = proved.no_unit_for_last_turn

pub returns-clause-no_unit_for_test : goal.returns-clause-no_unit_for_test
returns-clause-no_unit_for_test c = proved.no_unit_for_test

pub returns-clause-step_before_unit : goal.returns-clause-step_before_unit
returns-clause-step_before_unit c = proved.step_before_unit

pub returns-clause-unit_before_turn : goal.returns-clause-unit_before_turn
returns-clause-unit_before_turn c = proved.unit_before_turn

pub returns-clause-test_traps : goal.returns-clause-test_traps
returns-clause-test_traps c = proved.test_traps

pub returns-clause-unit_before_test : goal.returns-clause-unit_before_test
returns-clause-unit_before_test c = proved.unit_before_test

pub returns-clause-continue_goes_to_step : goal.returns-clause-continue_goes_to_step
returns-clause-continue_goes_to_step c = proved.continue_goes_to_step

pub returns-clause-no_unit_in_for : goal.returns-clause-no_unit_in_for
returns-clause-no_unit_in_for c = proved.no_unit_in_for

pub returns-clause-continue_goes_to_test : goal.returns-clause-continue_goes_to_test
returns-clause-continue_goes_to_test c = proved.continue_goes_to_test

pub returns-clause-no_unit_in_while : goal.returns-clause-no_unit_in_while
returns-clause-no_unit_in_while c = proved.no_unit_in_while

pub returns-clause-break_leaves_inner : goal.returns-clause-break_leaves_inner
returns-clause-break_leaves_inner c = proved.break_leaves_inner

pub returns-clause-no_unit_after_break : goal.returns-clause-no_unit_after_break
returns-clause-no_unit_after_break c = proved.no_unit_after_break

pub returns-clause-return_leaves_loops : goal.returns-clause-return_leaves_loops
returns-clause-return_leaves_loops c = proved.return_leaves_loops

pub returns-clause-no_unit_before_return : goal.returns-clause-no_unit_before_return
returns-clause-no_unit_before_return c = proved.no_unit_before_return

pub returns-clause-loops_end : goal.returns-clause-loops_end
returns-clause-loops_end c = proved.loops_end

pub returns-clause-return_ends_main : goal.returns-clause-return_ends_main
returns-clause-return_ends_main c = proved.return_ends_main

pub returns-clause-return_ends_routine : goal.returns-clause-return_ends_routine
returns-clause-return_ends_routine c = proved.return_ends_routine
