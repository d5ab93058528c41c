use Rattle.type_check.proofs.Examples as examples
use Rattle.type_check.proofs.rows.worked_rows.Goals as goal

pub returns-clause-declared_twice : goal.returns-clause-declared_twice
returns-clause-declared_twice c = examples.declared_twice

pub returns-clause-read_in_a_routine : goal.returns-clause-read_in_a_routine
returns-clause-read_in_a_routine c = examples.read_in_a_routine

pub returns-clause-set_by_a_call : goal.returns-clause-set_by_a_call
returns-clause-set_by_a_call c = examples.set_by_a_call

pub returns-clause-no_faults : goal.returns-clause-no_faults
returns-clause-no_faults c = examples.no_faults

pub returns-clause-own_value : goal.returns-clause-own_value
returns-clause-own_value c = examples.own_value

pub returns-clause-end_of_a_block : goal.returns-clause-end_of_a_block
returns-clause-end_of_a_block c = examples.end_of_a_block

pub returns-clause-end_of_a_for : goal.returns-clause-end_of_a_for
returns-clause-end_of_a_for c = examples.end_of_a_for

pub returns-clause-locals_of_main : goal.returns-clause-locals_of_main
returns-clause-locals_of_main c = examples.locals_of_main

pub returns-clause-called_too_early : goal.returns-clause-called_too_early
returns-clause-called_too_early c = examples.called_too_early

pub returns-clause-wrong_uses : goal.returns-clause-wrong_uses
returns-clause-wrong_uses c = examples.wrong_uses

pub returns-clause-wrong_types : goal.returns-clause-wrong_types
returns-clause-wrong_types c = examples.wrong_types

pub returns-clause-bad_parts : goal.returns-clause-bad_parts
returns-clause-bad_parts c = examples.bad_parts

pub returns-clause-wrong_arguments : goal.returns-clause-wrong_arguments
returns-clause-wrong_arguments c = examples.wrong_arguments

pub returns-clause-wrong_returns : goal.returns-clause-wrong_returns
returns-clause-wrong_returns c = examples.wrong_returns

pub returns-clause-not_in_loops : goal.returns-clause-not_in_loops
returns-clause-not_in_loops c = examples.not_in_loops

pub returns-clause-shown_elsewhere : goal.returns-clause-shown_elsewhere
returns-clause-shown_elsewhere c = examples.shown_elsewhere

pub returns-clause-tally_through_calls : goal.returns-clause-tally_through_calls
returns-clause-tally_through_calls c = examples.tally_through_calls

pub returns-clause-wrong_sizes : goal.returns-clause-wrong_sizes
returns-clause-wrong_sizes c = examples.wrong_sizes

pub returns-clause-wrong_params : goal.returns-clause-wrong_params
returns-clause-wrong_params c = examples.wrong_params

pub returns-clause-same_place : goal.returns-clause-same_place
returns-clause-same_place c = examples.same_place

pub returns-clause-past_nothing : goal.returns-clause-past_nothing
returns-clause-past_nothing c = examples.past_nothing

pub returns-clause-largest_array : goal.returns-clause-largest_array
returns-clause-largest_array c = examples.largest_array

pub returns-clause-out_of_order : goal.returns-clause-out_of_order
returns-clause-out_of_order c = examples.out_of_order

pub returns-clause-nothing_and_bool : goal.returns-clause-nothing_and_bool
returns-clause-nothing_and_bool c = examples.nothing_and_bool

pub returns-clause-many_locals : goal.returns-clause-many_locals
returns-clause-many_locals c = examples.many_locals

pub returns-clause-enough_locals : goal.returns-clause-enough_locals
returns-clause-enough_locals c = examples.enough_locals

pub returns-clause-many_routine_locals : goal.returns-clause-many_routine_locals
returns-clause-many_routine_locals c = examples.many_routine_locals

pub returns-clause-many_items : goal.returns-clause-many_items
returns-clause-many_items c = examples.many_items

pub returns-clause-many_blocks : goal.returns-clause-many_blocks
returns-clause-many_blocks c = examples.many_blocks

pub returns-clause-many_functions : goal.returns-clause-many_functions
returns-clause-many_functions c = examples.many_functions
