use Rattle.step_laws.proofs.Totals.{totals_are_laid}
use Rattle.step_laws.proofs.totals_of_a_word.Goals as goal

pub returns : goal.returns
returns c = totals_are_laid
