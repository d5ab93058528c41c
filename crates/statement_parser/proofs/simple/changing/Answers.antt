use Rattle.std.proofs.Common.{refl}
use Rattle.std.proofs.lemmas.Result.{err_from_is_err_and}
use Rattle.csl_tree.specs.declared.program.Form.TheVariants as form
use Rattle.csl_grammar.specs.Expressions.{whole}
use Rattle.csl_grammar.specs.Stops.{Stops}
use Rattle.csl_grammar.specs.Programs.{stmt}
use Rattle.statement_parser.specs.Statements.{Changing}
use Rattle.expression_parser.proofs.Sequence.{passed_error}
use Rattle.expression_parser.proofs.Then.{then_first, then_found, ret_found}
use Rattle.statement_parser.proofs.StatementParts as d
use Rattle.statement_parser.proofs.simple.changing.Goals as goal

pub returns-in_err-value-clause-answer : goal.returns-in_err-value-clause-answer
returns-in_err-value-clause-answer c =
    let p = err_from_is_err_and c.from_residual.result c.from_residual.ensures.1 in
    rw (p.1, p.2) (passed_error _ (Changing c.args.first.now c.args.place) (Stops whole) _ c.args.tokens.now _
    (d.set_next c.args.first.now c.args.place c.args.tokens.now _ _ c.requires c.front.ensures (c.if-is_mark.ensures.0 refl))
    (then_first (d.expr_last (λ v. stmt c.args.first.now.at (form.Set c.args.place v))) _ _ c.in_err-value.ensures.answer))

pub returns-then-is_mark-clause-answer : goal.returns-then-is_mark-clause-answer
returns-then-is_mark-clause-answer c =
    let g = c.in_ok-value.ensures.answer in
    (d.set_next c.args.first.now c.args.place c.args.tokens.now _ _ c.requires c.front.ensures (c.if-is_mark.ensures.0 refl)).found _ _
    (then_found (d.expr_last (λ v. stmt c.args.first.now.at (form.Set c.args.place v))) _ _ _ _ _ g (ret_found _ (Stops whole) _ g.stopped g.ended))

pub returns-in_err-value-2-clause-answer : goal.returns-in_err-value-2-clause-answer
returns-in_err-value-2-clause-answer c =
    let p = err_from_is_err_and c.from_residual-in_err-value-2.result c.from_residual-in_err-value-2.ensures.1 in
    rw (p.1, p.2) (passed_error _ (Changing c.args.first.now c.args.place) (Stops whole) _ c.args.tokens.now _
    (d.add_next c.args.first.now c.args.place c.args.tokens.now _ _ c.requires c.front.ensures (c.if-is_mark-2.ensures.0 refl))
    (then_first (d.expr_last (λ v. stmt c.args.first.now.at (form.AddTo c.args.place v))) _ _ c.in_err-value-2.ensures.answer))

pub returns-then-is_mark-2-clause-answer : goal.returns-then-is_mark-2-clause-answer
returns-then-is_mark-2-clause-answer c =
    let g = c.in_ok-value-2.ensures.answer in
    (d.add_next c.args.first.now c.args.place c.args.tokens.now _ _ c.requires c.front.ensures (c.if-is_mark-2.ensures.0 refl)).found _ _
    (then_found (d.expr_last (λ v. stmt c.args.first.now.at (form.AddTo c.args.place v))) _ _ _ _ _ g (ret_found _ (Stops whole) _ g.stopped g.ended))

pub returns-clause-answer : goal.returns-clause-answer
returns-clause-answer c = d.changing_refused c.args.first.now c.args.place c.args.tokens.now _ _ c.front.ensures (λ h. cc (c.if-is_mark.ensures.1 h)) (λ h. cc (c.if-is_mark-2.ensures.1 h))
