use Rattle.std.proofs.Common.{refl}
use Rattle.statement_parser.proofs.StatementParts as d
use Rattle.statement_parser.proofs.simple.not_else.Goals as goal

pub returns-then-is_word-clause-answer : goal.returns-then-is_word-clause-answer
returns-then-is_word-clause-answer c = d.else_refused c.args.s c.args.tokens.now _ _ c.front.ensures (c.if-is_word.ensures.0 refl)

pub returns-clause-answer : goal.returns-clause-answer
returns-clause-answer c = d.no_else_found c.args.s c.args.tokens.now _ _ c.requires c.front.ensures (λ h. cc (c.if-is_word.ensures.1 h))
