use Rattle.csl_meaning.proofs.Bound.{bound_is_enough_in_main, bound_is_enough_elsewhere}
use Rattle.csl_meaning.proofs.laws.bound_of_a_loop.Goals as goal

pub returns-clause-main : goal.returns-clause-main
returns-clause-main c = bound_is_enough_in_main

pub returns-clause-elsewhere : goal.returns-clause-elsewhere
returns-clause-elsewhere c = bound_is_enough_elsewhere
