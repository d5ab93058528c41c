use Rattle.std.proofs.Common.{refl}
use Rattle.std.proofs.lemmas.Result.{err_from_is_err_and}
use Rattle.expression_parser.specs.Reading.{stops_anywhere}
use Rattle.csl_parser.specs.Chains.{scalar_of, IntRest, ArrayRest}
use Rattle.expression_parser.proofs.Sequence.{passed, passed_error, passes_through}
use Rattle.expression_parser.proofs.Then.{then_first, then_found, then_passes, tok_found, tok_err, ret_found}
use Rattle.csl_parser.proofs.Declared as d
use Rattle.csl_parser.proofs.decl.ordinary.Goals as goal

pub returns-in_err-name-clause-answer : goal.returns-in_err-name-clause-answer
returns-in_err-name-clause-answer c =
    let p = err_from_is_err_and c.from_residual.result c.from_residual.ensures.1 in
    rw (p.1, p.2) (then_first d.int_name c.args.tokens.now _ c.in_err-name.ensures.answer)

pub returns-then-is_mark-clause-answer : goal.returns-then-is_mark-clause-answer
returns-then-is_mark-clause-answer c =
    let f = c.in_ok-name.ensures.answer in
    passed (ArrayRest c.in_ok-name.name.now) IntRest stops_anywhere _ c.args.tokens.now _ _
    (passes_through (d.bracket_next c.in_ok-name.name.now _ _ _ f.ended c.front.ensures (c.if-is_mark.ensures.0 refl)) (then_passes d.int_name c.args.tokens.now _ _ f))
    c.array.ensures.answer

pub returns-in_err-rest-clause-answer : goal.returns-in_err-rest-clause-answer
returns-in_err-rest-clause-answer c =
    let p = err_from_is_err_and c.from_residual-in_err-rest.result c.from_residual-in_err-rest.ensures.1 in
    rw (p.1, p.2) (passed_error _ IntRest stops_anywhere _ c.args.tokens.now _
    (passes_through (d.scalar_next c.in_ok-name.name.now _ _ _ c.front.ensures (λ h. cc (c.if-is_mark.ensures.1 h))) (then_passes d.int_name c.args.tokens.now _ _ c.in_ok-name.ensures.answer))
    (then_first (d.end_follows (scalar_of c.in_ok-name.name.now)) _ _ (tok_err _ _ _ c.in_err-rest.ensures.answer)))

pub returns-clause-answer : goal.returns-clause-answer
returns-clause-answer c =
    rw (c.in_ok-copy_of.ensures, c.new.ensures) (
    (passes_through (d.scalar_next c.in_ok-name.name.now _ _ _ c.front.ensures (λ h. cc (c.if-is_mark.ensures.1 h))) (then_passes d.int_name c.args.tokens.now _ _ c.in_ok-name.ensures.answer)).found _
    _
    (then_found (d.end_follows (scalar_of c.in_ok-name.name.now)) _ _ _ _ _ (tok_found c.in_ok-rest.ensures.answer) (ret_found _ stops_anywhere _ tt c.in_ok-rest.ensures.answer.ended)))
