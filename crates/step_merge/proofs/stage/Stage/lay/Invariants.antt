use Rattle.std.proofs.Common.{◌-◌, ◌^◌}
use Rattle.step_merge.proofs.Laying.{LaidTo}
use Rattle.step_merge.proofs.stage.Stage.lay.Given as goal

-- the entries so far are laid
abbrev pub invariant-loop-a : goal.invariant-loop-a
invariant-loop-a g l = LaidTo l.fn.self l.self l.k (g.U.UpdateWords.update l.update) l.from

abbrev pub decreases-loop-a : goal.decreases-loop-a
decreases-loop-a g l = 2 ^ 32 - l.from
