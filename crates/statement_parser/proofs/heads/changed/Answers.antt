use Rattle.csl_grammar.specs.Expressions.{whole}
use Rattle.csl_grammar.specs.Stops.{Stops}
use Rattle.csl_grammar.specs.Programs.{SpellsChange}
use Rattle.expression_parser.proofs.Sequence.{passed}
use Rattle.expression_parser.proofs.Steps.{from_first}
use Rattle.statement_parser.proofs.StatementParts as d
use Rattle.statement_parser.proofs.heads.changed.Goals as goal

pub returns-in-Named-clause-answer : goal.returns-in-Named-clause-answer
returns-in-Named-clause-answer c =
    from_first SpellsChange (Stops whole) _ c.args.tokens.now _ _ _ c.front.ensures (passed _ _ (Stops whole) _ _ _ _ (d.change_same _ _ _ c.in-Named.is) c.change.ensures.answer)

pub returns-in_default-clause-answer : goal.returns-in_default-clause-answer
returns-in_default-clause-answer c = d.change_refused c.args.tokens.now _ _ c.front.ensures c.in_default.not-Named
