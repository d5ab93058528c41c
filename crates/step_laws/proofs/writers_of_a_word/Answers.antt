use Rattle.step_laws.proofs.Agreement.{one_writer_each}
use Rattle.step_laws.proofs.writers_of_a_word.Goals as goal

pub returns : goal.returns
returns c = one_writer_each
