use Rattle.std.proofs.Common.{false, refl, []}
use Rattle.std.proofs.lemmas.Result.{err_from_is_err_and}
use Rattle.expression_parser.specs.Reading.{stops_anywhere}
use Rattle.csl_parser.specs.Chains.{array_of, ArrayRest, ListedRest}
use Rattle.expression_parser.proofs.Sequence.{passed, passed_error, passes_through}
use Rattle.expression_parser.proofs.Then.{then_first, then_second, then_found, then_passes, tok_found, tok_err, ret_found}
use Rattle.csl_parser.proofs.Declared as d
use Rattle.csl_parser.proofs.decl.array.Goals as goal

pub returns-in_err-size-clause-answer : goal.returns-in_err-size-clause-answer
returns-in_err-size-clause-answer c =
    let p = err_from_is_err_and c.from_residual.result c.from_residual.ensures.1 in
    rw (p.1, p.2) (then_first (d.array_size c.args.name.now) c.args.tokens.now _ c.in_err-size.ensures.answer)

pub returns-in_err-rest-clause-answer : goal.returns-in_err-rest-clause-answer
returns-in_err-rest-clause-answer c =
    let p = err_from_is_err_and c.from_residual-in_err-rest.result c.from_residual-in_err-rest.ensures.1 in
    rw (p.1, p.2) (then_second (d.array_size c.args.name.now) c.args.tokens.now _ _ _ c.in_ok-size.ensures.answer
    (then_first (d.array_closing c.args.name.now c.in_ok-size.size) _ _ (tok_err _ _ _ c.in_err-rest.ensures.answer)))

pub returns-then-is_mark-clause-answer : goal.returns-then-is_mark-clause-answer
returns-then-is_mark-clause-answer c =
    let f = c.in_ok-rest.ensures.answer in
    passed (ListedRest c.args.name.now c.in_ok-size.size) (ArrayRest c.args.name.now) stops_anywhere _ c.args.tokens.now _ _
    (passes_through (d.equals_next c.args.name.now c.in_ok-size.size _ _ _ f.ended c.front.ensures (c.if-is_mark.ensures.0 refl))
    (passes_through (then_passes (d.array_closing c.args.name.now c.in_ok-size.size) _ _ _ (tok_found f))
    (then_passes (d.array_size c.args.name.now) c.args.tokens.now _ _ c.in_ok-size.ensures.answer)))
    c.listed.ensures.answer

pub returns-in_err-rest-2-clause-answer : goal.returns-in_err-rest-2-clause-answer
returns-in_err-rest-2-clause-answer c =
    let p = err_from_is_err_and c.from_residual-in_err-rest-2.result c.from_residual-in_err-rest-2.ensures.1 in
    rw (p.1, p.2) (passed_error _ (ArrayRest c.args.name.now) stops_anywhere _ c.args.tokens.now _
    (passes_through (d.unlisted_next c.args.name.now c.in_ok-size.size _ _ _ c.front.ensures (λ h. cc (c.if-is_mark.ensures.1 h)))
    (passes_through (then_passes (d.array_closing c.args.name.now c.in_ok-size.size) _ _ _ (tok_found c.in_ok-rest.ensures.answer))
    (then_passes (d.array_size c.args.name.now) c.args.tokens.now _ _ c.in_ok-size.ensures.answer)))
    (then_first (d.end_follows (array_of c.args.name.now c.in_ok-size.size false [])) _ _ (tok_err _ _ _ c.in_err-rest-2.ensures.answer)))

pub returns-clause-answer : goal.returns-clause-answer
returns-clause-answer c =
    rw (c.in_ok-copy_of.ensures, c.new.ensures) (
    (passes_through (d.unlisted_next c.args.name.now c.in_ok-size.size _ _ _ c.front.ensures (λ h. cc (c.if-is_mark.ensures.1 h)))
    (passes_through (then_passes (d.array_closing c.args.name.now c.in_ok-size.size) _ _ _ (tok_found c.in_ok-rest.ensures.answer))
    (then_passes (d.array_size c.args.name.now) c.args.tokens.now _ _ c.in_ok-size.ensures.answer))).found _ _
    (then_found (d.end_follows (array_of c.args.name.now c.in_ok-size.size false [])) _ _ _ _ _ (tok_found c.in_ok-rest-2.ensures.answer)
    (ret_found _ stops_anywhere _ tt c.in_ok-rest-2.ensures.answer.ended)))
