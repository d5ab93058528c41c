use Rattle.std.proofs.Common.{◌≡◌}
use Rattle.step_merge.specs.Staged.{StandsFor}
use Rattle.tree_eval.proofs.Laying.{first_answers}
use Rattle.tree_eval.proofs.merge.lay_all.Given as goal

-- the answers so far are laid
abbrev pub invariant-loop-k : goal.invariant-loop-k
invariant-loop-k l = record {
  kinds : l.stage.kinds ≡ l.fn.stage.kinds;
  stands : StandsFor l.stage (first_answers l.k l.laid);
}
