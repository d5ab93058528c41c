use Rattle.std.proofs.Common.{sym, ◌∙◌}
use Rattle.step_merge.proofs.Merging.{kept_left}
use Rattle.step_merge.proofs.stage.Stage.merge_word.Goals as goal

pub returns-else-is_entered-clause-memory : goal.returns-else-is_entered-clause-memory
returns-else-is_entered-clause-memory c = kept_left c.args.self.now c.args.image.now.memory c.args.a (sym c.is_entered.ensures ∙ c.if-is_entered.false)
