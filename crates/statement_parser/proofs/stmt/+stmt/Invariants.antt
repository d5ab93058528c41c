use Rattle.std.proofs.Common.{◌+◌, ◌*◌, ◌<◌, ◌≤◌, length}
use Rattle.csl_tree.specs.declared.token.TokenKind.TheVariants as kind
use Rattle.csl_tree.specs.declared.token.Keyword.TheVariants as word
use Rattle.csl_tree.specs.declared.token.Mark.TheVariants as mark
use Rattle.csl_grammar.specs.Programs.{SpellsStmt, SpellsRoutine}
use Rattle.csl_grammar.specs.Stops.{IsEnded}
use Rattle.expression_parser.specs.Reading.{Until, stops_anywhere}
use Rattle.statement_parser.specs.Statements.{NoElse, BlockRest, IfRest, ElseFrom, RoutinesRest}
use Rattle.expression_parser.proofs.Sequence.{Passes}
use Rattle.statement_parser.proofs.stmt.+stmt.Given as goal

abbrev pub decreases-block : goal.decreases-block
decreases-block l = 16 * length l.tokens.now + 1

abbrev pub decreases-statements : goal.decreases-statements
decreases-statements l = 16 * length l.tokens.now + 2

abbrev pub decreases-statement : goal.decreases-statement
decreases-statement l = 16 * length l.tokens.now + 1

abbrev pub decreases-nested : goal.decreases-nested
decreases-nested l = 16 * length l.tokens.now + 4

abbrev pub decreases-choice : goal.decreases-choice
decreases-choice l = 16 * length l.tokens.now + 3

abbrev pub decreases-arm : goal.decreases-arm
decreases-arm l = 16 * length l.tokens.now + 2

abbrev pub decreases-while_loop : goal.decreases-while_loop
decreases-while_loop l = 16 * length l.tokens.now + 3

abbrev pub decreases-for_loop : goal.decreases-for_loop
decreases-for_loop l = 16 * length l.tokens.now + 3

abbrev pub decreases-routines : goal.decreases-routines
decreases-routines l = 16 * length l.tokens.now + 3

abbrev pub decreases-routine : goal.decreases-routine
decreases-routine l = 16 * length l.tokens.now + 2

-- what is answered for more statements at the rest is answered for the block at the tokens
abbrev pub invariant-statements-more : goal.invariant-statements-more
invariant-statements-more l = record {
  ended : IsEnded l.rest;
  no_longer : length l.rest ≤ length l.tokens;
  passes : Passes (Until (kind.Mark mark.CloseBrace) SpellsStmt l.body) BlockRest stops_anywhere l.rest l.tokens;
}

abbrev pub decreases-statements-more : goal.decreases-statements-more
decreases-statements-more l = length l.rest

-- what is answered for more arms at the rest is answered for the `if` at the tokens
abbrev pub invariant-choice-more : goal.invariant-choice-more
invariant-choice-more l = record {
  ended : IsEnded l.rest;
  shorter : length l.rest < length l.tokens;
  passes : Passes (ElseFrom l.first l.arms) (IfRest l.first) NoElse l.rest l.tokens;
}

abbrev pub decreases-choice-more : goal.decreases-choice-more
decreases-choice-more l = length l.rest

-- what is answered for more routines at the rest is answered for the step at the tokens
abbrev pub invariant-routines-more : goal.invariant-routines-more
invariant-routines-more l = record {
  ended : IsEnded l.rest;
  shorter : length l.rest < length l.tokens;
  passes : Passes (Until (kind.Word word.Parend) SpellsRoutine l.blocks) RoutinesRest stops_anywhere l.rest l.tokens;
}

abbrev pub decreases-routines-more : goal.decreases-routines-more
decreases-routines-more l = length l.rest
