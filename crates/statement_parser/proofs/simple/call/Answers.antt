use Rattle.std.proofs.lemmas.Result.{err_from_is_err_and}
use Rattle.csl_tree.specs.declared.program.Form.TheVariants as form
use Rattle.csl_grammar.specs.Expressions.{call}
use Rattle.csl_grammar.specs.Programs.{stmt}
use Rattle.expression_parser.proofs.Then.{then_first, then_answers}
use Rattle.statement_parser.proofs.StatementParts as d
use Rattle.statement_parser.proofs.simple.call.Goals as goal

pub returns-in_err-args-clause-answer : goal.returns-in_err-args-clause-answer
returns-in_err-args-clause-answer c =
    let p = err_from_is_err_and c.from_residual.result c.from_residual.ensures.1 in
    rw (p.1, p.2) (then_first (d.args_follow (λ args. stmt c.args.first.now.at (form.CallOf (call c.args.name.now args)))) c.args.tokens.now _ c.in_err-args.ensures.answer)

pub returns-clause-answer : goal.returns-clause-answer
returns-clause-answer c =
    then_answers (d.args_follow (λ args. stmt c.args.first.now.at (form.CallOf (call c.args.name.now args)))) _ c.args.tokens.now _ _ _ c.in_ok-args.ensures.answer
    (rw c.in_ok-name.ensures at c.ended.ensures.answer)
