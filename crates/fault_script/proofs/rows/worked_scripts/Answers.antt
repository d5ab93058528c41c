use Rattle.fault_script.proofs.WorkedScripts.{scripts, refused}
use Rattle.fault_script.proofs.rows.worked_scripts.Goals as goal

pub returns-clause-scripts : goal.returns-clause-scripts
returns-clause-scripts c = scripts

pub returns-clause-refused : goal.returns-clause-refused
returns-clause-refused c = refused
