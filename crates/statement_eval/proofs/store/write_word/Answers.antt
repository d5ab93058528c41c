use Rattle.std.proofs.Common.{◌∙◌, ap, sym, length}
use Rattle.cal_base.specs.Stores.{memory_in}
use Rattle.cal_base.proofs.Images.{length-with_value}
use Rattle.statement_eval.proofs.store.write_word.Goals as goal

pub returns-in-Main-clause-words : goal.returns-in-Main-clause-words
returns-in-Main-clause-words c = ap length c.set_value.ensures ∙ length-with_value _ _ _ ∙ sym (ap (λ s. length (memory_in s)) c.in-Main.is)
