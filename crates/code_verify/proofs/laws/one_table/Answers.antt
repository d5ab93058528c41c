use Rattle.code_verify.proofs.Unique as unique
use Rattle.code_verify.proofs.laws.one_table.Goals as goal

pub returns : goal.returns
returns c = λ m c aheads t u ok also place lt. unique.one_table m c aheads t u ok also place lt
