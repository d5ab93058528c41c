use Rattle.std.proofs.Common.{length}
use Rattle.csl_parser.specs.Program.{IsLow}
use Rattle.csl_parser.proofs.Depth.{Keeps}
use Rattle.csl_parser.proofs.levels.check.Given as goal

-- what is told of the rest is told of the tokens
abbrev pub invariant-tokens : goal.invariant-tokens
invariant-tokens l = record {
  low : IsLow l.nesting;
  keeps : Keeps l.nesting l.rest l.tokens;
}

abbrev pub decreases-tokens : goal.decreases-tokens
decreases-tokens l = length l.rest
