use Rattle.std.proofs.Common.{refl}
use Rattle.csl_grammar.specs.Expressions.{whole}
use Rattle.csl_grammar.specs.Stops.{Stops}
use Rattle.expression_parser.proofs.Then.{ret_found}
use Rattle.statement_parser.proofs.StatementParts as d
use Rattle.statement_parser.proofs.simple.quoted.Goals as goal

pub returns-then-is_mark-clause-answer : goal.returns-then-is_mark-clause-answer
returns-then-is_mark-clause-answer c = d.goes_on_refused _ c.args.tokens.now _ _ c.front.ensures (λ others s. s.no_index (c.if-is_mark.ensures.0 refl))

pub returns-then-is_mark-2-clause-answer : goal.returns-then-is_mark-2-clause-answer
returns-then-is_mark-2-clause-answer c = d.goes_on_refused _ c.args.tokens.now _ _ c.front.ensures (λ others s. s.no_call (c.if-is_mark-2.ensures.0 refl))

pub returns-in-Some-clause-answer : goal.returns-in-Some-clause-answer
returns-in-Some-clause-answer c = d.goes_on_refused _ c.args.tokens.now _ _ c.front.ensures (λ others s. d.operator_goes_on _ c.in-Some.field-0 others (cc (c.operator.ensures, c.in-Some.is)) s)

pub returns-in_ok-text-in-None-clause-answer : goal.returns-in_ok-text-in-None-clause-answer
returns-in_ok-text-in-None-clause-answer c =
    rw c.in_ok-text-in-None.ensures (ret_found _ (Stops whole) c.args.tokens.now
    (d.stops_next c.args.tokens.now _ _ c.front.ensures (λ h. cc (c.if-is_mark.ensures.1 h)) (λ h. cc (c.if-is_mark-2.ensures.1 h)) (cc (c.operator.ensures, c.in-None.is))) c.requires)
