use Rattle.std.proofs.Common.{Some, refl}
use Rattle.std.proofs.lemmas.Result.{err_from_is_err_and}
use Rattle.csl_tree.specs.declared.program.Form.TheVariants as form
use Rattle.csl_grammar.specs.Programs.{stmt}
use Rattle.statement_parser.specs.Statements.{NoElse}
use Rattle.expression_parser.proofs.Sequence.{passed, passed_error}
use Rattle.expression_parser.proofs.Then.{then_first, then_answers}
use Rattle.statement_parser.proofs.StatementParts as d
use Rattle.statement_parser.proofs.simple.returned.Goals as goal

pub returns-then-is_mark-clause-answer : goal.returns-then-is_mark-clause-answer
returns-then-is_mark-clause-answer c =
    passed _ _ NoElse _ c.args.tokens.now _ _ (d.nothing_next c.args.first.now c.args.tokens.now _ _ c.front.ensures (c.if-is_mark.ensures.0 refl)) c.bare.ensures.answer

pub returns-in_err-value-clause-answer : goal.returns-in_err-value-clause-answer
returns-in_err-value-clause-answer c =
    let p = err_from_is_err_and c.from_residual.result c.from_residual.ensures.1 in
    rw (p.1, p.2) (passed_error _ _ NoElse _ c.args.tokens.now _ (d.something_next c.args.first.now c.args.tokens.now _ _ c.front.ensures (λ h. cc (c.if-is_mark.ensures.1 h)))
    (then_first (d.expr_semicolon (λ value. stmt c.args.first.now.at (form.Return (Some value))) NoElse) c.args.tokens.now _ c.in_err-value.ensures.answer))

pub returns-clause-answer : goal.returns-clause-answer
returns-clause-answer c =
    passed _ _ NoElse _ c.args.tokens.now _ _ (d.something_next c.args.first.now c.args.tokens.now _ _ c.front.ensures (λ h. cc (c.if-is_mark.ensures.1 h)))
    (then_answers (d.expr_semicolon (λ value. stmt c.args.first.now.at (form.Return (Some value))) NoElse) _ c.args.tokens.now _ _ _ c.in_ok-value.ensures.answer c.bare-2.ensures.answer)
