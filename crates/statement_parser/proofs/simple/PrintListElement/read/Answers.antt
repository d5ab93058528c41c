use Rattle.std.proofs.lemmas.Result.{err_from_is_err_and}
use Rattle.csl_tree.specs.declared.program.Item.TheVariants as item
use Rattle.csl_grammar.specs.Expressions.{whole}
use Rattle.csl_grammar.specs.Stops.{Stops}
use Rattle.csl_grammar.specs.Programs.{SpellsItem}
use Rattle.expression_parser.proofs.Sequence.{passed, passed_error}
use Rattle.expression_parser.proofs.Then.{then_first, then_found, ret_found}
use Rattle.expression_parser.proofs.Steps.{from_first}
use Rattle.statement_parser.proofs.StatementParts as d
use Rattle.statement_parser.proofs.simple.PrintListElement.read.Goals as goal

pub returns-in-Text-clause-answer : goal.returns-in-Text-clause-answer
returns-in-Text-clause-answer c =
    from_first SpellsItem (Stops whole) _ c.args.tokens.now _ _ _ c.front.ensures
    (passed _ _ (Stops whole) _ _ _ _ (d.text_same _ _ _ c.in-Text.is) c.quoted.ensures.answer)

pub returns-in_err-value-clause-answer : goal.returns-in_err-value-clause-answer
returns-in_err-value-clause-answer c =
    let p = err_from_is_err_and c.from_residual.result c.from_residual.ensures.1 in
    rw (p.1, p.2) (passed_error _ _ (Stops whole) _ c.args.tokens.now _ (d.value_next c.args.tokens.now _ _ c.front.ensures c.in_default.not-Text)
    (then_first (d.expr_last (λ e. item.Value e)) c.args.tokens.now _ c.in_err-value.ensures.answer))

pub returns-clause-answer : goal.returns-clause-answer
returns-clause-answer c =
    let g = c.in_ok-value.ensures.answer in
    (d.value_next c.args.tokens.now _ _ c.front.ensures c.in_default.not-Text).found _ _
    (then_found (d.expr_last (λ e. item.Value e)) c.args.tokens.now _ _ _ _ g (ret_found _ (Stops whole) _ g.stopped g.ended))
