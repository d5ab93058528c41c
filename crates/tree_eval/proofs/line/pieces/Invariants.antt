use Rattle.std.proofs.Common.{◌≡◌, ◌≤◌, ◌++◌, drop}
use Rattle.csl_meaning.specs.Effect.{calls_to, most_levels}
use Rattle.csl_meaning.specs.Meaning as meaning
use Rattle.csl_meaning.specs.Runs.{◌>>=◌, pure}
use Rattle.statement_eval.specs.Follows.{stays}
use Rattle.tree_eval.proofs.line.pieces.Given as goal

-- what is appended so far, and the texts of the rest
abbrev pub invariant-loop-item : goal.invariant-loop-item
invariant-loop-item l = record {
  rest : (meaning.pieces l.p (calls_to l.p most_levels) l.locals (drop l.item-index l.items) >>= (λ more. pure (l.texts ++ more))) l.world
      ≡ (meaning.pieces l.fn.p (calls_to l.fn.p most_levels) l.fn.locals l.fn.items >>= (λ more. pure (l.fn.texts ++ more))) l.fn.world;
  fuel : l.world.fuel ≤ l.fn.world.fuel;
  stay : stays l.world ≡ stays l.fn.world;
}
