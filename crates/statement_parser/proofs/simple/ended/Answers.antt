use Rattle.std.proofs.lemmas.Result.{err_from_is_err_and}
use Rattle.statement_parser.specs.Statements.{NoElse}
use Rattle.expression_parser.proofs.Then.{then_first, then_answers, tok_found, tok_err}
use Rattle.statement_parser.proofs.StatementParts as d
use Rattle.statement_parser.proofs.simple.ended.Goals as goal

pub returns-in_err-rest-clause-answer : goal.returns-in_err-rest-clause-answer
returns-in_err-rest-clause-answer c =
    let p = err_from_is_err_and c.from_residual.result c.from_residual.ensures.1 in
    rw (p.1, p.2) (then_first (d.semicolon_follows c.args.s NoElse) c.args.tokens.now _ (tok_err _ _ _ c.in_err-rest.ensures.answer))

pub returns-clause-answer : goal.returns-clause-answer
returns-clause-answer c = then_answers (d.semicolon_follows c.args.s NoElse) _ c.args.tokens.now _ _ _ (tok_found c.in_ok-rest.ensures.answer) c.not_else.ensures.answer
