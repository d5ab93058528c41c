use Rattle.engine_laws.proofs.Answers.{answers_are_all, answers_go_by_blocks}
use Rattle.engine_laws.proofs.answers_of_a_step.Goals as goal

pub returns-clause-all : goal.returns-clause-all
returns-clause-all c = answers_are_all

pub returns-clause-by_blocks : goal.returns-clause-by_blocks
returns-clause-by_blocks c = answers_go_by_blocks
