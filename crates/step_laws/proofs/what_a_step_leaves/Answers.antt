use Rattle.step_laws.proofs.Leaves.{faulty_is_tested, after_is_right}
use Rattle.step_laws.proofs.what_a_step_leaves.Goals as goal

pub returns-clause-faulty : goal.returns-clause-faulty
returns-clause-faulty c = faulty_is_tested

pub returns-clause-right : goal.returns-clause-right
returns-clause-right c = after_is_right
