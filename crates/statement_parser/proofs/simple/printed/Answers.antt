use Rattle.std.proofs.lemmas.Result.{err_from_is_err_and}
use Rattle.csl_tree.specs.declared.program.Form.TheVariants as form
use Rattle.csl_grammar.specs.Programs.{stmt}
use Rattle.expression_parser.proofs.Then.{then_first, then_second, then_answers, tok_found, tok_err}
use Rattle.statement_parser.proofs.StatementParts as d
use Rattle.statement_parser.proofs.simple.printed.Goals as goal

pub returns-in_err-rest-clause-answer : goal.returns-in_err-rest-clause-answer
returns-in_err-rest-clause-answer c =
    let p = err_from_is_err_and c.from_residual.result c.from_residual.ensures.1 in
    rw (p.1, p.2) (then_first (d.opening_items (λ items. stmt c.args.first.now.at (form.Print items))) c.args.tokens.now _ (tok_err _ _ _ c.in_err-rest.ensures.answer))

pub returns-in_err-items-clause-answer : goal.returns-in_err-items-clause-answer
returns-in_err-items-clause-answer c =
    let p = err_from_is_err_and c.from_residual-in_err-items.result c.from_residual-in_err-items.ensures.1 in
    rw (p.1, p.2) (then_second (d.opening_items (λ items. stmt c.args.first.now.at (form.Print items))) c.args.tokens.now _ _ _ (tok_found c.in_ok-rest.ensures.answer)
    (then_first (d.items_follow (λ items. stmt c.args.first.now.at (form.Print items))) _ _ c.in_err-items.ensures.answer))

pub returns-clause-answer : goal.returns-clause-answer
returns-clause-answer c =
    then_answers (d.opening_items (λ items. stmt c.args.first.now.at (form.Print items))) _ c.args.tokens.now _ _ _ (tok_found c.in_ok-rest.ensures.answer)
    (then_answers (d.items_follow (λ items. stmt c.args.first.now.at (form.Print items))) _ _ _ _ _ c.in_ok-items.ensures.answer c.bare.ensures.answer)

pub with_commas-requires-clause-elements : goal.with_commas-requires-clause-elements
with_commas-requires-clause-elements c = d.items_parted
