use Rattle.std.proofs.Common.{sym, ◌∙◌, arith}
use Rattle.step_merge.specs.Steps.{left_by}
use Rattle.step_merge.proofs.Merging.{outside_found, outside_none}
use Rattle.step_merge.proofs.stage.Stage.outside.Goals as goal

pub returns-then-is_outside_at : goal.returns-then-is_outside_at
returns-then-is_outside_at c =
    outside_found c.args.image.now.memory (left_by c.args.self.now) c.loop-a.a (omega arith) c.loop-a.invariant (sym c.is_outside_at.ensures ∙ c.if-is_outside_at.true)

pub returns : goal.returns
returns c = outside_none c.args.image.now.memory (left_by c.args.self.now) c.loop-a.a (omega arith) c.loop-a.invariant
