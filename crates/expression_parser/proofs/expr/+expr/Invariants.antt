use Rattle.std.proofs.Common.{◌+◌, ◌*◌, ◌≤◌, length}
use Rattle.csl_tree.specs.declared.token.TokenKind.TheVariants as kind
use Rattle.csl_tree.specs.declared.token.Mark.TheVariants as mark
use Rattle.csl_grammar.specs.Expressions.{SpellsExpr, whole}
use Rattle.csl_grammar.specs.Stops.{IsEnded}
use Rattle.expression_parser.specs.Reading.{SpellsClosed, MoreUntil, stops_anywhere}
use Rattle.expression_parser.proofs.Sequence.{Passes}
use Rattle.expression_parser.proofs.expr.+expr.Given as goal

abbrev pub decreases-operand : goal.decreases-operand
decreases-operand l = 16 * length l.tokens.now + l.level + 2

abbrev pub decreases-chain : goal.decreases-chain
decreases-chain l = 16 * length l.tokens.now

abbrev pub decreases-unary : goal.decreases-unary
decreases-unary l = 16 * length l.tokens.now + 1

abbrev pub decreases-prefixed : goal.decreases-prefixed
decreases-prefixed l = 16 * length l.tokens.now + 2

abbrev pub decreases-primary : goal.decreases-primary
decreases-primary l = 16 * length l.tokens.now + 12

abbrev pub decreases-parenthesized : goal.decreases-parenthesized
decreases-parenthesized l = 16 * length l.tokens.now + 10

abbrev pub decreases-named : goal.decreases-named
decreases-named l = 16 * length l.tokens.now + 11

abbrev pub decreases-indexed : goal.decreases-indexed
decreases-indexed l = 16 * length l.tokens.now + 10

abbrev pub decreases-called : goal.decreases-called
decreases-called l = 16 * length l.tokens.now + 10

abbrev pub decreases-arguments : goal.decreases-arguments
decreases-arguments l = 16 * length l.tokens.now + 9

-- what is answered for more arguments at the rest is answered for the arguments at the tokens
abbrev pub invariant-arguments-more : goal.invariant-arguments-more
invariant-arguments-more l = record {
  ended : IsEnded l.rest;
  shorter : length l.rest ≤ length l.tokens;
  passes : Passes (MoreUntil (kind.Mark mark.CloseParen) (SpellsExpr whole) l.args) SpellsClosed stops_anywhere l.rest l.tokens;
}

abbrev pub decreases-arguments-more : goal.decreases-arguments-more
decreases-arguments-more l = length l.rest
