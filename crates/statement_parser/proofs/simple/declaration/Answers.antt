use Rattle.std.proofs.lemmas.Result.{err_from_is_err_and}
use Rattle.csl_tree.specs.declared.token.Mark.TheVariants as mark
use Rattle.csl_tree.specs.declared.program.Form.TheVariants as form
use Rattle.csl_grammar.specs.Expressions.{whole}
use Rattle.csl_grammar.specs.Stops.{Stops}
use Rattle.csl_grammar.specs.Programs.{stmt}
use Rattle.expression_parser.proofs.Then.{then_first, then_second, then_found, tok_found, tok_err, ret_found}
use Rattle.statement_parser.proofs.StatementParts as d
use Rattle.statement_parser.proofs.simple.declaration.Goals as goal

pub returns-in_err-name-clause-answer : goal.returns-in_err-name-clause-answer
returns-in_err-name-clause-answer c =
    let p = err_from_is_err_and c.from_residual.result c.from_residual.ensures.1 in
    rw (p.1, p.2) (then_first (d.decl_name c.args.first.now c.args.ty) c.args.tokens.now _ c.in_err-name.ensures.answer)

pub returns-in_err-rest-clause-answer : goal.returns-in_err-rest-clause-answer
returns-in_err-rest-clause-answer c =
    let p = err_from_is_err_and c.from_residual-in_err-rest.result c.from_residual-in_err-rest.ensures.1 in
    rw (p.1, p.2) (then_second (d.decl_name c.args.first.now c.args.ty) c.args.tokens.now _ _ _ c.in_ok-name.ensures.answer
    (then_first (d.mark_value mark.Assign (λ v. stmt c.args.first.now.at (form.Declare c.args.ty c.in_ok-name.name.now v))) _ _ (tok_err _ _ _ c.in_err-rest.ensures.answer)))

pub returns-in_err-value-clause-answer : goal.returns-in_err-value-clause-answer
returns-in_err-value-clause-answer c =
    let p = err_from_is_err_and c.from_residual-in_err-value.result c.from_residual-in_err-value.ensures.1 in
    rw (p.1, p.2) (then_second (d.decl_name c.args.first.now c.args.ty) c.args.tokens.now _ _ _ c.in_ok-name.ensures.answer
    (then_second (d.mark_value mark.Assign (λ v. stmt c.args.first.now.at (form.Declare c.args.ty c.in_ok-name.name.now v))) _ _ _ _ (tok_found c.in_ok-rest.ensures.answer)
    (then_first (d.expr_last (λ v. stmt c.args.first.now.at (form.Declare c.args.ty c.in_ok-name.name.now v))) _ _ c.in_err-value.ensures.answer)))

pub returns-clause-answer : goal.returns-clause-answer
returns-clause-answer c =
    let g = c.in_ok-value.ensures.answer in
    rw c.in_ok-name-2.ensures (then_found (d.decl_name c.args.first.now c.args.ty) c.args.tokens.now _ _ _ _ c.in_ok-name.ensures.answer
    (then_found (d.mark_value mark.Assign (λ v. stmt c.args.first.now.at (form.Declare c.args.ty c.in_ok-name.name.now v))) _ _ _ _ _ (tok_found c.in_ok-rest.ensures.answer)
    (then_found (d.expr_last (λ v. stmt c.args.first.now.at (form.Declare c.args.ty c.in_ok-name.name.now v))) _ _ _ _ _ g (ret_found _ (Stops whole) _ g.stopped g.ended))))
