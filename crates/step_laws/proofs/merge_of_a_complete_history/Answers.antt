use Rattle.step_laws.proofs.StepLaws.{merged_is_meant, lower_answers_agree}
use Rattle.step_laws.proofs.merge_of_a_complete_history.Goals as goal

pub returns-clause-merged : goal.returns-clause-merged
returns-clause-merged c = merged_is_meant

pub returns-clause-lower_answers : goal.returns-clause-lower_answers
returns-clause-lower_answers c = lower_answers_agree
