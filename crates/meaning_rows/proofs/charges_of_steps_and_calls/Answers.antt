use Rattle.meaning_rows.proofs.Charges as proved
use Rattle.meaning_rows.proofs.charges_of_steps_and_calls.Goals as goal

pub returns-clause-width_and_step : goal.returns-clause-width_and_step
returns-clause-width_and_step c = proved.width_and_step

pub returns-clause-no_unit_for_step : goal.returns-clause-no_unit_for_step
returns-clause-no_unit_for_step c = proved.no_unit_for_step

pub returns-clause-width_before_unit : goal.returns-clause-width_before_unit
returns-clause-width_before_unit c = proved.width_before_unit

pub returns-clause-unit_for_each_step : goal.returns-clause-unit_for_each_step
returns-clause-unit_for_each_step c = proved.unit_for_each_step

pub returns-clause-no_unit_for_second_step : goal.returns-clause-no_unit_for_second_step
returns-clause-no_unit_for_second_step c = proved.no_unit_for_second_step

pub returns-clause-unit_for_each_call : goal.returns-clause-unit_for_each_call
returns-clause-unit_for_each_call c = proved.unit_for_each_call

pub returns-clause-no_unit_for_outer_call : goal.returns-clause-no_unit_for_outer_call
returns-clause-no_unit_for_outer_call c = proved.no_unit_for_outer_call

pub returns-clause-argument_before_unit : goal.returns-clause-argument_before_unit
returns-clause-argument_before_unit c = proved.argument_before_unit

pub returns-clause-unit_then_too_deep : goal.returns-clause-unit_then_too_deep
returns-clause-unit_then_too_deep c = proved.unit_then_too_deep

pub returns-clause-unit_before_too_deep : goal.returns-clause-unit_before_too_deep
returns-clause-unit_before_too_deep c = proved.unit_before_too_deep

pub returns-clause-routine_too_deep : goal.returns-clause-routine_too_deep
returns-clause-routine_too_deep c = proved.routine_too_deep

pub returns-clause-routine_spent : goal.returns-clause-routine_spent
returns-clause-routine_spent c = proved.routine_spent
