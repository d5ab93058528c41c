use Rattle.csl_meaning.proofs.Quiet.{routines_are_quiet}
use Rattle.csl_meaning.proofs.laws.limits_of_a_routine.Goals as goal

pub returns : goal.returns
returns c = routines_are_quiet
