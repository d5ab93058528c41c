use Rattle.step_laws.proofs.Rows
use Rattle.step_laws.proofs.worked_texts.Goals as goal

pub returns-clause-step : goal.returns-clause-step
returns-clause-step c = Rows.one_step

pub returns-clause-fails : goal.returns-clause-fails
returns-clause-fails c = Rows.second_step_fails

pub returns-clause-shown : goal.returns-clause-shown
returns-clause-shown c = Rows.steps_are_shown

pub returns-clause-lines : goal.returns-clause-lines
returns-clause-lines c = Rows.lines_alone

pub returns-clause-faults : goal.returns-clause-faults
returns-clause-faults c = Rows.fault_lines
