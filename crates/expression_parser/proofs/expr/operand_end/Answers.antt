use Rattle.std.proofs.Common.{refl}
use Rattle.csl_grammar.specs.Expressions.{expr}
use Rattle.csl_grammar.specs.Stops.{Stops}
use Rattle.expression_parser.proofs.Rules.{returns_found, returns_refused, stops_here}
use Rattle.expression_parser.proofs.expr.operand_end.Goals as goal

pub returns-then-is_mark-clause-answer : goal.returns-then-is_mark-clause-answer
returns-then-is_mark-clause-answer c =
    returns_refused (expr c.args.at c.args.node) (Stops 0) c.args.tokens.now _ _ c.front.ensures (λ others s. s.no_index (c.if-is_mark.ensures.0 refl))

pub returns-then-is_mark-2-clause-answer : goal.returns-then-is_mark-2-clause-answer
returns-then-is_mark-2-clause-answer c =
    returns_refused (expr c.args.at c.args.node) (Stops 0) c.args.tokens.now _ _ c.front.ensures (λ others s. s.no_call (c.if-is_mark-2.ensures.0 refl))

pub returns-clause-answer : goal.returns-clause-answer
returns-clause-answer c =
    returns_found (expr c.args.at c.args.node) (Stops 0) c.args.tokens.now
    (stops_here c.args.tokens.now _ _ c.front.ensures (λ h. cc (c.if-is_mark.ensures.1 h)) (λ h. cc (c.if-is_mark-2.ensures.1 h)))
    c.requires
