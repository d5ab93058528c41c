use Rattle.csl_print.proofs.Examples as examples
use Rattle.csl_print.proofs.rows.worked_rows.Goals as goal

pub returns-clause-seven_lines : goal.returns-clause-seven_lines
returns-clause-seven_lines c = examples.seven_lines

pub returns-clause-ten_lines : goal.returns-clause-ten_lines
returns-clause-ten_lines c = examples.ten_lines

pub returns-clause-listed : goal.returns-clause-listed
returns-clause-listed c = examples.listed

pub returns-clause-one_step : goal.returns-clause-one_step
returns-clause-one_step c = examples.one_step
