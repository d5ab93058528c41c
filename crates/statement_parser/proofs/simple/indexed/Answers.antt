use Rattle.std.proofs.lemmas.Result.{err_from_is_err_and}
use Rattle.expression_parser.proofs.Then.{then_first, then_second, then_answers, tok_found, tok_err}
use Rattle.statement_parser.proofs.StatementParts as d
use Rattle.statement_parser.proofs.simple.indexed.Goals as goal

pub returns-in_err-index-clause-answer : goal.returns-in_err-index-clause-answer
returns-in_err-index-clause-answer c =
    let p = err_from_is_err_and c.from_residual.result c.from_residual.ensures.1 in
    rw (p.1, p.2) (then_first (d.index_follows c.args.first.now c.args.name.now) c.args.tokens.now _ c.in_err-index.ensures.answer)

pub returns-in_err-rest-clause-answer : goal.returns-in_err-rest-clause-answer
returns-in_err-rest-clause-answer c =
    let p = err_from_is_err_and c.from_residual-in_err-rest.result c.from_residual-in_err-rest.ensures.1 in
    rw (p.1, p.2) (then_second (d.index_follows c.args.first.now c.args.name.now) c.args.tokens.now _ _ _ c.in_ok-index.ensures.answer
    (then_first (d.index_closing c.args.first.now c.args.name.now c.in_ok-index.index) _ _ (tok_err _ _ _ c.in_err-rest.ensures.answer)))

pub returns-clause-answer : goal.returns-clause-answer
returns-clause-answer c =
    then_answers (d.index_follows c.args.first.now c.args.name.now) _ c.args.tokens.now _ _ _ c.in_ok-index.ensures.answer
    (then_answers (d.index_closing c.args.first.now c.args.name.now c.in_ok-index.index) _ _ _ _ _ (tok_found c.in_ok-rest.ensures.answer)
    (rw (c.in_ok-name.ensures, c.in_ok-new.ensures) at c.changing.ensures.answer))
