use Rattle.meaning_rows.proofs.Words as proved
use Rattle.meaning_rows.proofs.words_of_routines.Goals as goal

pub returns-clause-own_sum_overflows : goal.returns-clause-own_sum_overflows
returns-clause-own_sum_overflows c = proved.own_sum_overflows

pub returns-clause-running_sum_overflows : goal.returns-clause-running_sum_overflows
returns-clause-running_sum_overflows c = proved.running_sum_overflows

pub returns-clause-sum_begins_at_zero : goal.returns-clause-sum_begins_at_zero
returns-clause-sum_begins_at_zero c = proved.sum_begins_at_zero

pub returns-clause-total_is_exact : goal.returns-clause-total_is_exact
returns-clause-total_is_exact c = proved.total_is_exact

pub returns-clause-least_total_is_named : goal.returns-clause-least_total_is_named
returns-clause-least_total_is_named c = proved.least_total_is_named

pub returns-clause-tally_in_main : goal.returns-clause-tally_in_main
returns-clause-tally_in_main c = proved.tally_in_main

pub returns-clause-tally_overflows_in_main : goal.returns-clause-tally_overflows_in_main
returns-clause-tally_overflows_in_main c = proved.tally_overflows_in_main

pub returns-clause-adds_by_calls : goal.returns-clause-adds_by_calls
returns-clause-adds_by_calls c = proved.adds_by_calls

pub returns-clause-least_word_is_named : goal.returns-clause-least_word_is_named
returns-clause-least_word_is_named c = proved.least_word_is_named

pub returns-clause-conflict_before_trap : goal.returns-clause-conflict_before_trap
returns-clause-conflict_before_trap c = proved.conflict_before_trap

pub returns-clause-trap_is_own_cause : goal.returns-clause-trap_is_own_cause
returns-clause-trap_is_own_cause c = proved.trap_is_own_cause

pub returns-clause-adding_is_writing : goal.returns-clause-adding_is_writing
returns-clause-adding_is_writing c = proved.adding_is_writing

pub returns-clause-first_values : goal.returns-clause-first_values
returns-clause-first_values c = proved.first_values

pub returns-clause-own_writes_alone : goal.returns-clause-own_writes_alone
returns-clause-own_writes_alone c = proved.own_writes_alone

pub returns-clause-last_write_counts : goal.returns-clause-last_write_counts
returns-clause-last_write_counts c = proved.last_write_counts

pub returns-clause-quotient_overflows_in_routine : goal.returns-clause-quotient_overflows_in_routine
returns-clause-quotient_overflows_in_routine c = proved.quotient_overflows_in_routine

pub returns-clause-remainder_overflows_in_routine : goal.returns-clause-remainder_overflows_in_routine
returns-clause-remainder_overflows_in_routine c = proved.remainder_overflows_in_routine
