use Rattle.std.proofs.lemmas.Result.{err_from_is_err_and}
use Rattle.csl_tree.specs.declared.program.Form.TheVariants as form
use Rattle.csl_grammar.specs.Programs.{stmt}
use Rattle.expression_parser.proofs.Then.{then_first, then_second, then_answers, tok_found, tok_err}
use Rattle.statement_parser.proofs.StatementParts as d
use Rattle.statement_parser.proofs.simple.assertion.Goals as goal

pub returns-in_err-rest-clause-answer : goal.returns-in_err-rest-clause-answer
returns-in_err-rest-clause-answer c =
    let p = err_from_is_err_and c.from_residual.result c.from_residual.ensures.1 in
    rw (p.1, p.2) (then_first (d.opening_expr (λ test. stmt c.args.first.now.at (form.Assert test))) c.args.tokens.now _ (tok_err _ _ _ c.in_err-rest.ensures.answer))

pub returns-in_err-test-clause-answer : goal.returns-in_err-test-clause-answer
returns-in_err-test-clause-answer c =
    let p = err_from_is_err_and c.from_residual-in_err-test.result c.from_residual-in_err-test.ensures.1 in
    rw (p.1, p.2) (then_second (d.opening_expr (λ test. stmt c.args.first.now.at (form.Assert test))) c.args.tokens.now _ _ _ (tok_found c.in_ok-rest.ensures.answer)
    (then_first (d.test_closing (λ test. stmt c.args.first.now.at (form.Assert test))) _ _ c.in_err-test.ensures.answer))

pub returns-in_err-rest-2-clause-answer : goal.returns-in_err-rest-2-clause-answer
returns-in_err-rest-2-clause-answer c =
    let p = err_from_is_err_and c.from_residual-in_err-rest-2.result c.from_residual-in_err-rest-2.ensures.1 in
    rw (p.1, p.2) (then_second (d.opening_expr (λ test. stmt c.args.first.now.at (form.Assert test))) c.args.tokens.now _ _ _ (tok_found c.in_ok-rest.ensures.answer)
    (then_second (d.test_closing (λ test. stmt c.args.first.now.at (form.Assert test))) _ _ _ _ c.in_ok-test.ensures.answer
    (then_first (d.closing_end (stmt c.args.first.now.at (form.Assert c.in_ok-test.test))) _ _ (tok_err _ _ _ c.in_err-rest-2.ensures.answer))))

pub returns-clause-answer : goal.returns-clause-answer
returns-clause-answer c =
    then_answers (d.opening_expr (λ test. stmt c.args.first.now.at (form.Assert test))) _ c.args.tokens.now _ _ _ (tok_found c.in_ok-rest.ensures.answer)
    (then_answers (d.test_closing (λ test. stmt c.args.first.now.at (form.Assert test))) _ _ _ _ _ c.in_ok-test.ensures.answer
    (then_answers (d.closing_end (stmt c.args.first.now.at (form.Assert c.in_ok-test.test))) _ _ _ _ _ (tok_found c.in_ok-rest-2.ensures.answer) c.bare.ensures.answer))
