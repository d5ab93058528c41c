use Rattle.meaning_rows.proofs.Order as proved
use Rattle.meaning_rows.proofs.order_of_evaluation.Goals as goal

pub returns-clause-index_before_value : goal.returns-clause-index_before_value
returns-clause-index_before_value c = proved.index_before_value

pub returns-clause-index_before_added : goal.returns-clause-index_before_added
returns-clause-index_before_added c = proved.index_before_added

pub returns-clause-value_before_test : goal.returns-clause-value_before_test
returns-clause-value_before_test c = proved.value_before_test

pub returns-clause-added_before_test : goal.returns-clause-added_before_test
returns-clause-added_before_test c = proved.added_before_test

pub returns-clause-inner_index_before_value : goal.returns-clause-inner_index_before_value
returns-clause-inner_index_before_value c = proved.inner_index_before_value

pub returns-clause-inner_index_before_added : goal.returns-clause-inner_index_before_added
returns-clause-inner_index_before_added c = proved.inner_index_before_added

pub returns-clause-index_is_kept : goal.returns-clause-index_is_kept
returns-clause-index_is_kept c = proved.index_is_kept

pub returns-clause-item_is_read_last : goal.returns-clause-item_is_read_last
returns-clause-item_is_read_last c = proved.item_is_read_last

pub returns-clause-operands_in_order : goal.returns-clause-operands_in_order
returns-clause-operands_in_order c = proved.operands_in_order

pub returns-clause-arguments_in_order : goal.returns-clause-arguments_in_order
returns-clause-arguments_in_order c = proved.arguments_in_order

pub returns-clause-items_in_order : goal.returns-clause-items_in_order
returns-clause-items_in_order c = proved.items_in_order

pub returns-clause-left_traps_first : goal.returns-clause-left_traps_first
returns-clause-left_traps_first c = proved.left_traps_first

pub returns-clause-left_overflows_first : goal.returns-clause-left_overflows_first
returns-clause-left_overflows_first c = proved.left_overflows_first

pub returns-clause-first_item_traps : goal.returns-clause-first_item_traps
returns-clause-first_item_traps c = proved.first_item_traps

pub returns-clause-nothing_of_the_line : goal.returns-clause-nothing_of_the_line
returns-clause-nothing_of_the_line c = proved.nothing_of_the_line

pub returns-clause-right_operand_skipped : goal.returns-clause-right_operand_skipped
returns-clause-right_operand_skipped c = proved.right_operand_skipped

pub returns-clause-right_of_or : goal.returns-clause-right_of_or
returns-clause-right_of_or c = proved.right_of_or

pub returns-clause-right_of_and : goal.returns-clause-right_of_and
returns-clause-right_of_and c = proved.right_of_and

pub returns-clause-later_arm_skipped : goal.returns-clause-later_arm_skipped
returns-clause-later_arm_skipped c = proved.later_arm_skipped

pub returns-clause-assertion_holds : goal.returns-clause-assertion_holds
returns-clause-assertion_holds c = proved.assertion_holds

pub returns-clause-assertion_fails : goal.returns-clause-assertion_fails
returns-clause-assertion_fails c = proved.assertion_fails

pub returns-clause-asserted_value_traps : goal.returns-clause-asserted_value_traps
returns-clause-asserted_value_traps c = proved.asserted_value_traps

pub returns-clause-later_width_before_bad_width : goal.returns-clause-later_width_before_bad_width
returns-clause-later_width_before_bad_width c = proved.later_width_before_bad_width

pub returns-clause-first_width_traps : goal.returns-clause-first_width_traps
returns-clause-first_width_traps c = proved.first_width_traps

pub returns-clause-first_width_overflows : goal.returns-clause-first_width_overflows
returns-clause-first_width_overflows c = proved.first_width_overflows
