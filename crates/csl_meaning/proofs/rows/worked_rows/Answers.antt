use Rattle.csl_meaning.proofs.Examples as examples
use Rattle.csl_meaning.proofs.Products as products
use Rattle.csl_meaning.proofs.rows.worked_rows.Goals as goal

pub returns-clause-nothing_is_done : goal.returns-clause-nothing_is_done
returns-clause-nothing_is_done c = examples.nothing_is_done

pub returns-clause-lines_of_items : goal.returns-clause-lines_of_items
returns-clause-lines_of_items c = examples.lines_of_items

pub returns-clause-sum_of_squares : goal.returns-clause-sum_of_squares
returns-clause-sum_of_squares c = examples.sum_of_squares

pub returns-clause-one_step : goal.returns-clause-one_step
returns-clause-one_step c = examples.one_step

pub returns-clause-fuel_for_squares : goal.returns-clause-fuel_for_squares
returns-clause-fuel_for_squares c = examples.fuel_for_squares

pub returns-clause-no_fuel_for_squares : goal.returns-clause-no_fuel_for_squares
returns-clause-no_fuel_for_squares c = examples.no_fuel_for_squares

pub returns-clause-swapped_pair : goal.returns-clause-swapped_pair
returns-clause-swapped_pair c = examples.swapped_pair

pub returns-clause-raised_twice : goal.returns-clause-raised_twice
returns-clause-raised_twice c = examples.raised_twice

pub returns-clause-block_of_width_zero : goal.returns-clause-block_of_width_zero
returns-clause-block_of_width_zero c = examples.block_of_width_zero

pub returns-clause-first_block_fails : goal.returns-clause-first_block_fails
returns-clause-first_block_fails c = examples.first_block_fails

pub returns-clause-second_block_fails : goal.returns-clause-second_block_fails
returns-clause-second_block_fails c = examples.second_block_fails

pub returns-clause-different_writes : goal.returns-clause-different_writes
returns-clause-different_writes c = examples.different_writes

pub returns-clause-equal_writes : goal.returns-clause-equal_writes
returns-clause-equal_writes c = examples.equal_writes

pub returns-clause-least_pair_in_conflict : goal.returns-clause-least_pair_in_conflict
returns-clause-least_pair_in_conflict c = examples.least_pair_in_conflict

pub returns-clause-trapped_writes_nothing : goal.returns-clause-trapped_writes_nothing
returns-clause-trapped_writes_nothing c = examples.trapped_writes_nothing

pub returns-clause-least_faulty_is_named : goal.returns-clause-least_faulty_is_named
returns-clause-least_faulty_is_named c = examples.least_faulty_is_named

pub returns-clause-sum_of_tallies : goal.returns-clause-sum_of_tallies
returns-clause-sum_of_tallies c = examples.sum_of_tallies

pub returns-clause-total_out_of_range : goal.returns-clause-total_out_of_range
returns-clause-total_out_of_range c = examples.total_out_of_range

pub returns-clause-negative_width : goal.returns-clause-negative_width
returns-clause-negative_width c = examples.negative_width

pub returns-clause-widths_too_large : goal.returns-clause-widths_too_large
returns-clause-widths_too_large c = examples.widths_too_large

pub returns-clause-overflow_by_quotient : goal.returns-clause-overflow_by_quotient
returns-clause-overflow_by_quotient c = examples.overflow_by_quotient

pub returns-clause-overflow_by_remainder : goal.returns-clause-overflow_by_remainder
returns-clause-overflow_by_remainder c = examples.overflow_by_remainder

pub returns-clause-fuel_for_three_turns : goal.returns-clause-fuel_for_three_turns
returns-clause-fuel_for_three_turns c = examples.fuel_for_three_turns

pub returns-clause-no_fuel_for_four_turns : goal.returns-clause-no_fuel_for_four_turns
returns-clause-no_fuel_for_four_turns c = examples.no_fuel_for_four_turns

pub returns-clause-calls_too_deep : goal.returns-clause-calls_too_deep
returns-clause-calls_too_deep c = examples.calls_too_deep

pub returns-clause-right_is_skipped : goal.returns-clause-right_is_skipped
returns-clause-right_is_skipped c = examples.right_is_skipped

pub returns-clause-bad_width_comes_first : goal.returns-clause-bad_width_comes_first
returns-clause-bad_width_comes_first c = examples.bad_width_comes_first

pub returns-clause-fuel_of_their_own : goal.returns-clause-fuel_of_their_own
returns-clause-fuel_of_their_own c = examples.fuel_of_their_own

pub returns-clause-routine_spends_its_fuel : goal.returns-clause-routine_spends_its_fuel
returns-clause-routine_spends_its_fuel c = examples.routine_spends_its_fuel

pub returns-clause-calls_nest : goal.returns-clause-calls_nest
returns-clause-calls_nest c = examples.calls_nest

pub returns-clause-calls_nest_too_deep : goal.returns-clause-calls_nest_too_deep
returns-clause-calls_nest_too_deep c = examples.calls_nest_too_deep

pub returns-clause-value_before_range : goal.returns-clause-value_before_range
returns-clause-value_before_range c = examples.value_before_range

pub returns-clause-set_behind_an_array : goal.returns-clause-set_behind_an_array
returns-clause-set_behind_an_array c = examples.set_behind_an_array

pub returns-clause-read_before_an_array : goal.returns-clause-read_before_an_array
returns-clause-read_before_an_array c = examples.read_before_an_array

pub returns-clause-value_before_reading : goal.returns-clause-value_before_reading
returns-clause-value_before_reading c = examples.value_before_reading

pub returns-clause-leaving_loops : goal.returns-clause-leaving_loops
returns-clause-leaving_loops c = examples.leaving_loops

pub returns-clause-fuel_for_products : goal.returns-clause-fuel_for_products
returns-clause-fuel_for_products c = products.fuel_for_products

pub returns-clause-no_fuel_for_products : goal.returns-clause-no_fuel_for_products
returns-clause-no_fuel_for_products c = products.no_fuel_for_products
