use Rattle.type_check.proofs.FirstLemmas.{first_is_first, accepted_iff}
use Rattle.type_check.specs.Faults.{faults_of}
use Rattle.type_check.proofs.laws.first_fault.Goals as goal

pub returns-clause-named : goal.returns-clause-named
returns-clause-named c = λ p f e. first_is_first (faults_of p) f e

pub returns-clause-accepted : goal.returns-clause-accepted
returns-clause-accepted c = λ p. accepted_iff (faults_of p)
