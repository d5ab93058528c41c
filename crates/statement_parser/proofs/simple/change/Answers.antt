use Rattle.std.proofs.Common.{None, refl}
use Rattle.csl_grammar.specs.Expressions.{whole, place}
use Rattle.csl_grammar.specs.Stops.{Stops}
use Rattle.statement_parser.specs.Statements.{Changing, ChangeRest, IndexedRest}
use Rattle.expression_parser.proofs.Sequence.{passed}
use Rattle.statement_parser.proofs.StatementParts as d
use Rattle.statement_parser.proofs.simple.change.Goals as goal

pub returns-then-is_mark-clause-answer : goal.returns-then-is_mark-clause-answer
returns-then-is_mark-clause-answer c =
    passed (IndexedRest c.args.first.now c.args.name.now) (ChangeRest c.args.first.now c.args.name.now) (Stops whole) _ c.args.tokens.now _ _
    (d.indexed_next c.args.first.now c.args.name.now c.args.tokens.now _ _ c.requires c.front.ensures (c.if-is_mark.ensures.0 refl)) c.indexed.ensures.answer

pub returns-clause-answer : goal.returns-clause-answer
returns-clause-answer c =
    passed (Changing c.args.first.now (place c.args.name.now None)) (ChangeRest c.args.first.now c.args.name.now) (Stops whole) _ c.args.tokens.now _ _
    (d.plain_next c.args.first.now c.args.name.now c.args.tokens.now _ _ c.front.ensures (λ h. cc (c.if-is_mark.ensures.1 h))) (rw c.in_ok-copy_of.ensures at c.changing.ensures.answer)
