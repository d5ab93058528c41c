-- What each reader answers follows from what those that it calls answer.
use Rattle.std.proofs.Common.{◌≡◌, ◌-◌, List, [], ◌∷◌, ◌++◌, length, Some, refl, sym, ◌∙◌, ap, arith, rules}
use Rattle.std.proofs.lemmas.Result.{err_from_is_err_and}
use Rattle.csl_tree.specs.declared.token.Token.{Token}
use Rattle.csl_tree.specs.declared.token.Mark.TheVariants as mark
use Rattle.csl_tree.specs.declared.program.Expr.{Expr}
use Rattle.csl_tree.specs.declared.program.Node.TheVariants as node
use Rattle.csl_grammar.specs.Expressions.{SpellsExpr, level_of, expr, place}
use Rattle.csl_grammar.specs.Stops.{Stops}
use Rattle.expression_parser.specs.Reading.{behind, stops_anywhere}
use Rattle.expression_parser.proofs.Rules.{paren_rule, indexed_rule, named_found, stops_here}
use Rattle.expression_parser.proofs.Steps.{operator_kind, level_err, level_ok, chain_err, chain_ok, chain_done, from_first, prefixed_err, prefixed_ok, inside_err, closing_err, closed_ok, called_err}
use Rattle.expression_parser.proofs.Steps.{called_ok, number_ok, truth_ok, nothing_here, arguments_same, arguments_parted}
use Rattle.expression_parser.proofs.Sequence.{passed_error, passes_through}
use Rattle.expression_parser.proofs.Then.{begins_other, list_nothing, list_err, list_begun, more_err, more_step, last_err, last_ok}
use mir.Val.{SFits}
use mir.Syntax.{w64}
use Rattle.std.proofs.lemmas.Int.{to_z-of_z}
use Rattle.expression_parser.proofs.expr.+expr.Goals as goal
use Rattle.expression_parser.proofs.expr.+expr.Goals.{chain-in_default-via-in-Some+else-looseness-below, chain-in_default-via-in_default}

pub arguments-returns-then-is_mark-clause-answer : goal.arguments-returns-then-is_mark-clause-answer
arguments-returns-then-is_mark-clause-answer t c =
    rw c.new-args.ensures ((arguments_same c.args.tokens.now).found _ _
    (list_nothing arguments_parted c.args.tokens.now _ _ c.requires c.front.ensures (c.if-is_mark.ensures.0 refl)))

pub arguments-returns-in_err-e-clause-answer : goal.arguments-returns-in_err-e-clause-answer
arguments-returns-in_err-e-clause-answer t c =
    let p = err_from_is_err_and c.from_residual.result c.from_residual.ensures.1 in
    rw (p.1, p.2) (passed_error _ _ stops_anywhere _ c.args.tokens.now _ (arguments_same c.args.tokens.now)
    (list_err arguments_parted c.args.tokens.now _ (begins_other _ c.args.tokens.now _ _ c.front.ensures (λ h. cc (c.if-is_mark.ensures.1 h))) c.in_err-e.ensures.answer))

pub arguments-more-init : goal.arguments-more-init
arguments-more-init t c =
    record {
      ended = c.in_ok-e.ensures.answer.ended;
      shorter = omega (arith, c.in_ok-e.ensures.shorter);
      passes = rw (c.in_ok-push.ensures.ok ∙ ap (λ (x : List Expr). x ++ c.in_ok-e.e ∷ []) c.new-args.ensures) (passes_through
          (list_begun arguments_parted c.args.tokens.now _ _ (begins_other _ c.args.tokens.now _ _ c.front.ensures (λ h. cc (c.if-is_mark.ensures.1 h))) c.in_ok-e.ensures.answer)
          (arguments_same c.args.tokens.now));
    }

pub arguments-returns-in_err-e-2-clause-answer : goal.arguments-returns-in_err-e-2-clause-answer
arguments-returns-in_err-e-2-clause-answer t c =
    let p = err_from_is_err_and c.from_residual-in_err-e-2.result c.from_residual-in_err-e-2.ensures.1 in
    rw (p.1, p.2) (passed_error _ _ stops_anywhere _ c.args.tokens.now _ c.more.invariant.passes
    (more_err arguments_parted c.more.args c.more.rest.now c.in-Some.ensures.0 _ _ c.more.invariant.ended c.in-Some.ensures.1.0 c.in-Some.ensures.1.1 c.in_err-e-2.ensures.answer))

pub arguments-more-preserved : goal.arguments-more-preserved
arguments-more-preserved t c =
    record {
      ended = c.in_ok-e-2.ensures.answer.ended;
      shorter = omega (arith, c.in_ok-e-2.ensures.shorter, c.more.invariant.shorter, ap (λ (x : List Token). length x) c.in-Some.ensures.1.0);
      passes = rw c.in_ok-push-2.ensures.ok (passes_through (more_step arguments_parted c.more.args c.more.rest.now c.in-Some.ensures.0 _ _ _ c.more.invariant.ended c.in-Some.ensures.1.0
          c.in-Some.ensures.1.1 c.in_ok-e-2.ensures.answer) c.more.invariant.passes);
    }

pub arguments-returns-in_err-rest-clause-answer : goal.arguments-returns-in_err-rest-clause-answer
arguments-returns-in_err-rest-clause-answer t c =
    let p = err_from_is_err_and c.from_residual-in_err-rest.result c.from_residual-in_err-rest.ensures.1 in
    rw (p.1, p.2) (passed_error _ _ stops_anywhere _ c.args.tokens.now _ c.more.invariant.passes
    (last_err arguments_parted c.more.args c.more.rest.now _ c.in_default.ensures c.in_err-rest.ensures.answer))

pub arguments-returns-clause-answer : goal.arguments-returns-clause-answer
arguments-returns-clause-answer t c =
    c.more.invariant.passes.found _ _ (last_ok arguments_parted c.more.args c.more.rest.now _ _ c.in_default.ensures c.in_ok-rest.ensures.answer)

pub called-returns-in_err-args-clause-answer : goal.called-returns-in_err-args-clause-answer
called-returns-in_err-args-clause-answer t c =
    let p = err_from_is_err_and c.from_residual.result c.from_residual.ensures.1 in
    rw (p.1, p.2) (called_err c.args.name.now c.args.first.now c.args.bracket.now c.requires.names c.requires.opens c.args.tokens.now _ c.in_err-args.ensures.answer)

pub called-returns-clause-answer : goal.called-returns-clause-answer
called-returns-clause-answer t c =
    called_ok c.args.name.now c.args.first.now c.args.bracket.now c.requires.names c.requires.opens c.args.tokens.now _ _ _ _ _ (cc (c.in_ok-name.ensures)) c.in_ok-args.ensures.answer
    c.operand_end.ensures.answer

pub chain-returns-in_err-right-in-Some-clause-answer : goal.chain-returns-in_err-right-in-Some-clause-answer
chain-returns-in_err-right-in-Some-clause-answer t c =
    let p = err_from_is_err_and c.from_residual.result c.from_residual.ensures.1 in
    rw (p.1, p.2) (chain_err c.args.below c.in-Some.op c.args.left c.args.tokens.now _ _ c.front.ensures (omega (arith, c.looseness.ensures)) (operator_kind _ _ (sym c.in-Some.ensures)) _
    c.in_err-right-in-Some.ensures.answer)

pub chain-returns-in_ok-right-in-Some-2-clause-answer : goal.chain-returns-in_ok-right-in-Some-2-clause-answer
chain-returns-in_ok-right-in-Some-2-clause-answer t c =
    chain_ok c.args.below c.in-Some.op c.args.left c.args.tokens.now _ _ c.front.ensures (omega (arith, c.looseness.ensures)) (operator_kind _ _ (sym c.in-Some.ensures)) _ _ _ _ _
    (cc (c.in_ok-left-in-Some.ensures, c.in_ok-right-in-Some-2.ensures)) c.in_ok-right-in-Some.ensures.answer c.chain.ensures.answer

pub chain-returns-in_default-clause-answer : goal.chain-returns-in_default-clause-answer
chain-returns-in_default-clause-answer t c =
    chain_done c.args.below c.args.left c.args.tokens.now _ _ _ c.front.ensures c.requires.ended c.requires.stopped (sym c.operator.ensures)
    (λ op found here. elim c.in_default.branch [
      | chain-in_default-via-in-Some+else-looseness-below w ↦ let same : w.in-Some.op ≡ op = cc (w.in-Some.is, found) in let alike : level_of w.in-Some.op ≡ level_of op = ap level_of same in absurd
          (omega (arith, alike, here, w.looseness.ensures, w.if-looseness-below.false))
      | chain-in_default-via-in_default w ↦ w.in_default.not-Some op found
    ])

pub indexed-returns-in_err-index-clause-answer : goal.indexed-returns-in_err-index-clause-answer
indexed-returns-in_err-index-clause-answer t c =
    let p = err_from_is_err_and c.from_residual.result c.from_residual.ensures.1 in
    rw (p.1, p.2) (inside_err mark.CloseBracket (λ index. expr c.args.first.now.at (node.Read (place c.args.name.now (Some index))))
    (behind c.args.bracket.now (behind c.args.first.now (SpellsExpr 0))) (indexed_rule c.args.name.now c.args.first.now c.args.bracket.now c.requires.names c.requires.opens) c.args.tokens.now _
    c.in_err-index.ensures.answer)

pub indexed-returns-in_err-rest-clause-answer : goal.indexed-returns-in_err-rest-clause-answer
indexed-returns-in_err-rest-clause-answer t c =
    let p = err_from_is_err_and c.from_residual-in_err-rest.result c.from_residual-in_err-rest.ensures.1 in
    rw (p.1, p.2) (closing_err mark.CloseBracket (λ index. expr c.args.first.now.at (node.Read (place c.args.name.now (Some index))))
    (behind c.args.bracket.now (behind c.args.first.now (SpellsExpr 0))) (indexed_rule c.args.name.now c.args.first.now c.args.bracket.now c.requires.names c.requires.opens) c.args.tokens.now _ _
    _ c.in_ok-index.ensures.answer c.in_err-rest.ensures.answer)

pub indexed-returns-clause-answer : goal.indexed-returns-clause-answer
indexed-returns-clause-answer t c =
    closed_ok mark.CloseBracket (λ index. expr c.args.first.now.at (node.Read (place c.args.name.now (Some index)))) (behind c.args.bracket.now (behind c.args.first.now (SpellsExpr 0)))
    (indexed_rule c.args.name.now c.args.first.now c.args.bracket.now c.requires.names c.requires.opens) c.args.tokens.now _ _ _ _ _ _ _ (cc (c.in_ok-name.ensures, c.in_ok-new.ensures))
    c.in_ok-index.ensures.answer c.in_ok-rest.ensures.answer c.operand_end.ensures.answer

pub parenthesized-returns-in_err-inner-clause-answer : goal.parenthesized-returns-in_err-inner-clause-answer
parenthesized-returns-in_err-inner-clause-answer t c =
    let p = err_from_is_err_and c.from_residual.result c.from_residual.ensures.1 in
    rw (p.1, p.2) (inside_err mark.CloseParen (λ inner. expr c.args.first.now.at (node.Paren inner)) (behind c.args.first.now (SpellsExpr 0)) (paren_rule c.args.first.now c.requires.opens)
    c.args.tokens.now _ c.in_err-inner.ensures.answer)

pub parenthesized-returns-in_err-rest-clause-answer : goal.parenthesized-returns-in_err-rest-clause-answer
parenthesized-returns-in_err-rest-clause-answer t c =
    let p = err_from_is_err_and c.from_residual-in_err-rest.result c.from_residual-in_err-rest.ensures.1 in
    rw (p.1, p.2) (closing_err mark.CloseParen (λ inner. expr c.args.first.now.at (node.Paren inner)) (behind c.args.first.now (SpellsExpr 0)) (paren_rule c.args.first.now c.requires.opens)
    c.args.tokens.now _ _ _ c.in_ok-inner.ensures.answer c.in_err-rest.ensures.answer)

pub parenthesized-returns-clause-answer : goal.parenthesized-returns-clause-answer
parenthesized-returns-clause-answer t c =
    closed_ok mark.CloseParen (λ inner. expr c.args.first.now.at (node.Paren inner)) (behind c.args.first.now (SpellsExpr 0)) (paren_rule c.args.first.now c.requires.opens) c.args.tokens.now _ _ _ _ _
    _ _ (cc (c.in_ok-inner-2.ensures)) c.in_ok-inner.ensures.answer c.in_ok-rest.ensures.answer c.operand_end.ensures.answer

pub named-returns-then-is_mark-clause-answer : goal.named-returns-then-is_mark-clause-answer
named-returns-then-is_mark-clause-answer t c =
    from_first (behind c.args.first.now (SpellsExpr 0)) (Stops 0) _ c.args.tokens.now _ _ _ c.front.ensures c.indexed.ensures.answer

pub named-returns-then-is_mark-2-clause-answer : goal.named-returns-then-is_mark-2-clause-answer
named-returns-then-is_mark-2-clause-answer t c =
    from_first (behind c.args.first.now (SpellsExpr 0)) (Stops 0) _ c.args.tokens.now _ _ _ c.front.ensures c.called.ensures.answer

pub named-returns-clause-answer : goal.named-returns-clause-answer
named-returns-clause-answer t c =
    rw c.in_ok-name.ensures (named_found c.args.name.now c.args.first.now c.args.tokens.now c.requires.names
    (stops_here c.args.tokens.now _ _ c.front.ensures (λ h. cc (c.if-is_mark.ensures.1 h)) (λ h. cc (c.if-is_mark-2.ensures.1 h))) c.requires.ended)

pub operand-returns-in_err-first-clause-answer : goal.operand-returns-in_err-first-clause-answer
operand-returns-in_err-first-clause-answer t c =
    let p = err_from_is_err_and c.from_residual.result c.from_residual.ensures.1 in
    rw (p.1, p.2) (level_err c.args.level (c.args.level - 1) (omega arith) c.args.tokens.now _ c.in_err-first.ensures.answer)

pub operand-returns-clause-answer : goal.operand-returns-clause-answer
operand-returns-clause-answer t c =
    level_ok c.args.level (c.args.level - 1) (omega arith) _ c.args.tokens.now _ _ _ c.in_ok-first.ensures.answer c.chain.ensures.answer

pub prefixed-returns-in_err-inner-clause-answer : goal.prefixed-returns-in_err-inner-clause-answer
prefixed-returns-in_err-inner-clause-answer t c =
    let p = err_from_is_err_and c.from_residual.result c.from_residual.ensures.1 in
    rw (p.1, p.2) (prefixed_err c.args.op c.args.first.now c.requires.sign c.args.tokens.now _ c.in_err-inner.ensures.answer)

pub prefixed-returns-clause-answer : goal.prefixed-returns-clause-answer
prefixed-returns-clause-answer t c =
    prefixed_ok c.args.op c.args.first.now c.requires.sign c.args.tokens.now _ _ _ (cc (c.in_ok-inner-2.ensures)) c.in_ok-inner.ensures.answer

pub primary-returns-in-Some-clause-answer : goal.primary-returns-in-Some-clause-answer
primary-returns-in-Some-clause-answer t c =
    let fits : SFits w64 c.in-Some.n = search rules in
    number_ok _ c.in-Some.n c.args.first.now c.args.tokens.now _ (sym c.in-Some.ensures) (rw (to_z-of_z w64 c.in-Some.n fits) at c.operand_end.ensures.answer)

pub primary-returns-in-Some-truth-clause-answer : goal.primary-returns-in-Some-truth-clause-answer
primary-returns-in-Some-truth-clause-answer t c =
    truth_ok _ c.in-Some-truth.b c.args.first.now c.args.tokens.now _ (sym c.in-Some-truth.ensures) c.operand_end-in-Some-truth.ensures.answer

pub primary-returns-in-Named-clause-answer : goal.primary-returns-in-Named-clause-answer
primary-returns-in-Named-clause-answer t c = from_first (SpellsExpr 0) (Stops 0) _ (c.args.first.now ∷ c.args.tokens.now) _ _ _ refl c.named.ensures.answer

pub primary-returns-then-is_mark : goal.primary-returns-then-is_mark
primary-returns-then-is_mark t c = record {
  answer = from_first (SpellsExpr 0) (Stops 0) _ (c.args.first.now ∷ c.args.tokens.now) _ _ _ refl c.parenthesized.ensures.answer;
  shorter = c.parenthesized.ensures.shorter;
}

pub primary-returns : goal.primary-returns
primary-returns t c = record {
  answer = nothing_here c.args.first.now c.args.tokens.now c.requires.no_sign (record {
    no_number = sym c.in_default.ensures;
    no_truth = sym c.in_default-truth.ensures;
    no_name = λ name same. c.in_default-kind.not-Named name same;
    no_open = λ same. cc (c.if-is_mark.ensures.1 same);
  });
  shorter = tt;
}

pub unary-returns-in-Some-clause-answer : goal.unary-returns-in-Some-clause-answer
unary-returns-in-Some-clause-answer t c =
    from_first (SpellsExpr 0) (Stops 0) _ c.args.tokens.now _ _ _ c.front.ensures c.prefixed.ensures.answer

pub unary-returns-in-None-clause-answer : goal.unary-returns-in-None-clause-answer
unary-returns-in-None-clause-answer t c =
    rw c.front.ensures c.primary.ensures.answer
