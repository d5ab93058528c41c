use Rattle.std.proofs.Common.{◌≡◌, ◌≤◌, ◌++◌, drop}
use Rattle.csl_meaning.specs.Effect.{calls_to, most_levels}
use Rattle.csl_meaning.specs.Meaning as meaning
use Rattle.csl_meaning.specs.Runs.{◌>>=◌, pure}
use Rattle.statement_eval.specs.Follows.{stays}
use Rattle.tree_eval.proofs.widths.widths_of.Given as goal

-- what is appended so far, and the widths of the rest
abbrev pub invariant-loop-block : goal.invariant-loop-block
invariant-loop-block l = record {
  rest : (meaning.widths_of l.p (calls_to l.p most_levels) l.locals (drop l.block-index l.blocks) >>= (λ more. pure (l.numbers ++ more))) l.world
      ≡ (meaning.widths_of l.fn.p (calls_to l.fn.p most_levels) l.fn.locals l.fn.blocks >>= (λ more. pure (l.fn.numbers ++ more))) l.fn.world;
  fuel : l.world.fuel ≤ l.fn.world.fuel;
  stay : stays l.world ≡ stays l.fn.world;
}
