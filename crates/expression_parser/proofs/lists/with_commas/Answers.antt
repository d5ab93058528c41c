use Rattle.std.proofs.Common.{refl, ◌∙◌, ap, arith, List, length, [], ◌∷◌, ◌++◌}
use Rattle.std.proofs.lemmas.Result.{err_from_is_err_and}
use Rattle.csl_tree.specs.declared.token.Token.{Token}
use Rattle.expression_parser.specs.declared.ParseError.TheVariants as error
use Rattle.expression_parser.specs.Reading.{stops_anywhere}
use Rattle.expression_parser.proofs.Sequence.{passed_error, passes_through}
use Rattle.expression_parser.proofs.Single.{token_found, token_refused}
use Rattle.expression_parser.proofs.Then.{begins_other, list_nothing, list_err, list_begun, more_err, more_step, last_err, last_ok}
use Rattle.expression_parser.proofs.lists.with_commas.Goals as goal

pub returns-then-closes-clause-answer : goal.returns-then-closes-clause-answer
returns-then-closes-clause-answer g c = rw c.new-elements.ensures (list_nothing c.requires.elements c.args.tokens.now _ _ c.requires.ended c.front.ensures (c.if-closes.ensures.0 refl))

pub returns-in_err-first-clause-answer : goal.returns-in_err-first-clause-answer
returns-in_err-first-clause-answer g c =
    let p = err_from_is_err_and c.from_residual.result c.from_residual.ensures.1 in
    rw (p.1, p.2) (list_err c.requires.elements c.args.tokens.now _ (begins_other _ c.args.tokens.now _ _ c.front.ensures (λ h. cc (c.if-closes.ensures.1 h))) c.in_err-first.ensures.answer)

pub more-init : goal.more-init
more-init g c = record {
  ended = c.in_ok-first.ensures.answer.ended;
  shorter = omega (arith, c.in_ok-first.ensures.shorter);
  passes = rw (c.in_ok-push.ensures.ok ∙ ap (λ (x : List _). x ++ c.in_ok-first.first ∷ []) c.new-elements.ensures)
      (list_begun c.requires.elements c.args.tokens.now _ _ (begins_other _ c.args.tokens.now _ _ c.front.ensures (λ h. cc (c.if-closes.ensures.1 h))) c.in_ok-first.ensures.answer);
}

pub returns-in_err-another-clause-answer : goal.returns-in_err-another-clause-answer
returns-in_err-another-clause-answer g c =
    let p = err_from_is_err_and c.from_residual-in_err-another.result c.from_residual-in_err-another.ensures.1 in
    rw (p.1, p.2) (passed_error _ _ stops_anywhere _ c.args.tokens.now _ c.more.invariant.passes
    (more_err c.requires.elements c.more.elements c.more.rest.now c.in-Some.ensures.0 _ _ c.more.invariant.ended c.in-Some.ensures.1.0 c.in-Some.ensures.1.1 c.in_err-another.ensures.answer))

pub more-preserved : goal.more-preserved
more-preserved g c = record {
  ended = c.in_ok-another.ensures.answer.ended;
  shorter = omega (arith, c.in_ok-another.ensures.shorter, c.more.invariant.shorter, ap (λ (x : List Token). length x) c.in-Some.ensures.1.0);
  passes = rw c.in_ok-push-2.ensures.ok (passes_through (more_step c.requires.elements c.more.elements c.more.rest.now c.in-Some.ensures.0 _ _ _ c.more.invariant.ended c.in-Some.ensures.1.0
      c.in-Some.ensures.1.1 c.in_ok-another.ensures.answer) c.more.invariant.passes);
}

pub returns-then-closes-2-clause-answer : goal.returns-then-closes-2-clause-answer
returns-then-closes-2-clause-answer g c =
    c.more.invariant.passes.found _ _ (last_ok c.requires.elements c.more.elements c.more.rest.now _ _ c.in_default.ensures
    (token_found _ c.more.rest.now _ _ c.more.invariant.ended c.front-2.ensures (c.if-closes-2.ensures.0 refl) c.requires.elements.no_end))

pub returns-clause-answer : goal.returns-clause-answer
returns-clause-answer g c =
    let e = error.Unexpected c.front-2.result.0.now.at in
    c.more.invariant.passes.refused _ (last_err c.requires.elements c.more.elements c.more.rest.now e c.in_default.ensures
    (token_refused _ c.more.rest.now _ _ c.front-2.ensures (λ h. cc (c.if-closes-2.ensures.1 h))))
