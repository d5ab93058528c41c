use Rattle.meaning_rows.proofs.Operators as proved
use Rattle.meaning_rows.proofs.values_of_operators.Goals as goal

pub returns-clause-equal_truths : goal.returns-clause-equal_truths
returns-clause-equal_truths c = proved.equal_truths

pub returns-clause-different_truths : goal.returns-clause-different_truths
returns-clause-different_truths c = proved.different_truths

pub returns-clause-conjunctions : goal.returns-clause-conjunctions
returns-clause-conjunctions c = proved.conjunctions

pub returns-clause-disjunctions : goal.returns-clause-disjunctions
returns-clause-disjunctions c = proved.disjunctions

pub returns-clause-negations : goal.returns-clause-negations
returns-clause-negations c = proved.negations

pub returns-clause-equal_numbers : goal.returns-clause-equal_numbers
returns-clause-equal_numbers c = proved.equal_numbers

pub returns-clause-different_numbers : goal.returns-clause-different_numbers
returns-clause-different_numbers c = proved.different_numbers

pub returns-clause-below : goal.returns-clause-below
returns-clause-below c = proved.below

pub returns-clause-at_most : goal.returns-clause-at_most
returns-clause-at_most c = proved.at_most

pub returns-clause-above : goal.returns-clause-above
returns-clause-above c = proved.above

pub returns-clause-at_least : goal.returns-clause-at_least
returns-clause-at_least c = proved.at_least

pub returns-clause-below_zero : goal.returns-clause-below_zero
returns-clause-below_zero c = proved.below_zero

pub returns-clause-quotients : goal.returns-clause-quotients
returns-clause-quotients c = proved.quotients

pub returns-clause-remainders : goal.returns-clause-remainders
returns-clause-remainders c = proved.remainders

pub returns-clause-grouped_to_the_left : goal.returns-clause-grouped_to_the_left
returns-clause-grouped_to_the_left c = proved.grouped_to_the_left

pub returns-clause-quotient_by_zero : goal.returns-clause-quotient_by_zero
returns-clause-quotient_by_zero c = proved.quotient_by_zero

pub returns-clause-remainder_by_zero : goal.returns-clause-remainder_by_zero
returns-clause-remainder_by_zero c = proved.remainder_by_zero

pub returns-clause-least_number : goal.returns-clause-least_number
returns-clause-least_number c = proved.least_number

pub returns-clause-least_times_minus_one : goal.returns-clause-least_times_minus_one
returns-clause-least_times_minus_one c = proved.least_times_minus_one

pub returns-clause-least_quotient : goal.returns-clause-least_quotient
returns-clause-least_quotient c = proved.least_quotient

pub returns-clause-least_remainder : goal.returns-clause-least_remainder
returns-clause-least_remainder c = proved.least_remainder

pub returns-clause-least_has_no_opposite : goal.returns-clause-least_has_no_opposite
returns-clause-least_has_no_opposite c = proved.least_has_no_opposite

pub returns-clause-above_the_greatest : goal.returns-clause-above_the_greatest
returns-clause-above_the_greatest c = proved.above_the_greatest

pub returns-clause-below_the_least : goal.returns-clause-below_the_least
returns-clause-below_the_least c = proved.below_the_least
