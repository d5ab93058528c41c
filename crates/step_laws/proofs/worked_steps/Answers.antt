use Rattle.step_laws.proofs.Rows
use Rattle.step_laws.proofs.worked_steps.Goals as goal

pub returns-clause-apart : goal.returns-clause-apart
returns-clause-apart c = Rows.words_of_their_own

pub returns-clause-conflict : goal.returns-clause-conflict
returns-clause-conflict c = Rows.two_writers

pub returns-clause-equal_values : goal.returns-clause-equal_values
returns-clause-equal_values c = Rows.two_equal_writers

pub returns-clause-three_writers : goal.returns-clause-three_writers
returns-clause-three_writers c = Rows.three_writers

pub returns-clause-least_word : goal.returns-clause-least_word
returns-clause-least_word c = Rows.least_shared_word

pub returns-clause-least_trap : goal.returns-clause-least_trap
returns-clause-least_trap c = Rows.least_trap

pub returns-clause-failed : goal.returns-clause-failed
returns-clause-failed c = Rows.failed_wrote_nothing

pub returns-clause-conflict_first : goal.returns-clause-conflict_first
returns-clause-conflict_first c = Rows.conflict_below_trap

pub returns-clause-sum : goal.returns-clause-sum
returns-clause-sum c = Rows.sum_of_numbers

pub returns-clause-total : goal.returns-clause-total
returns-clause-total c = Rows.total_outside

pub returns-clause-least_total : goal.returns-clause-least_total
returns-clause-least_total c = Rows.least_total

pub returns-clause-inside : goal.returns-clause-inside
returns-clause-inside c = Rows.total_inside
