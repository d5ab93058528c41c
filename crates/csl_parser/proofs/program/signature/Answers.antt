use Rattle.std.proofs.lemmas.Result.{err_from_is_err_and}
use Rattle.expression_parser.specs.Reading.{stops_anywhere}
use Rattle.csl_parser.specs.Program.{function_of}
use Rattle.expression_parser.proofs.Then.{then_first, then_second, then_found, tok_found, tok_err, ret_found}
use Rattle.csl_parser.proofs.Functions as d
use Rattle.csl_parser.proofs.program.signature.Goals as goal

pub returns-in_err-name-clause-answer : goal.returns-in_err-name-clause-answer
returns-in_err-name-clause-answer c =
    let p = err_from_is_err_and c.from_residual.result c.from_residual.ensures.1 in
    rw (p.1, p.2) (then_first (d.function_name c.args.gives) c.args.tokens.now _ c.in_err-name.ensures.answer)

pub returns-in_err-rest-clause-answer : goal.returns-in_err-rest-clause-answer
returns-in_err-rest-clause-answer c =
    let p = err_from_is_err_and c.from_residual-in_err-rest.result c.from_residual-in_err-rest.ensures.1 in
    rw (p.1, p.2) (then_second (d.function_name c.args.gives) c.args.tokens.now _ _ _ c.in_ok-name.ensures.answer
    (then_first (d.function_opening c.args.gives c.in_ok-name.name.now) _ _ (tok_err _ _ _ c.in_err-rest.ensures.answer)))

pub returns-in_err-params-clause-answer : goal.returns-in_err-params-clause-answer
returns-in_err-params-clause-answer c =
    let p = err_from_is_err_and c.from_residual-in_err-params.result c.from_residual-in_err-params.ensures.1 in
    rw (p.1, p.2) (then_second (d.function_name c.args.gives) c.args.tokens.now _ _ _ c.in_ok-name.ensures.answer
    (then_second (d.function_opening c.args.gives c.in_ok-name.name.now) _ _ _ _ (tok_found c.in_ok-rest.ensures.answer)
    (then_first (d.function_params c.args.gives c.in_ok-name.name.now) _ _ c.in_err-params.ensures.answer)))

pub returns-in_err-body-clause-answer : goal.returns-in_err-body-clause-answer
returns-in_err-body-clause-answer c =
    let p = err_from_is_err_and c.from_residual-in_err-body.result c.from_residual-in_err-body.ensures.1 in
    rw (p.1, p.2) (then_second (d.function_name c.args.gives) c.args.tokens.now _ _ _ c.in_ok-name.ensures.answer
    (then_second (d.function_opening c.args.gives c.in_ok-name.name.now) _ _ _ _ (tok_found c.in_ok-rest.ensures.answer)
    (then_second (d.function_params c.args.gives c.in_ok-name.name.now) _ _ _ _ c.in_ok-params.ensures.answer
    (then_first (d.block_last (function_of c.args.gives c.in_ok-name.name.now c.in_ok-params.params)) _ _ c.in_err-body.ensures.answer))))

pub returns-clause-answer : goal.returns-clause-answer
returns-clause-answer c =
    let g = c.in_ok-body.ensures.answer in
    rw c.in_ok-copy_of.ensures (then_found (d.function_name c.args.gives) c.args.tokens.now _ _ _ _ c.in_ok-name.ensures.answer
    (then_found (d.function_opening c.args.gives c.in_ok-name.name.now) _ _ _ _ _ (tok_found c.in_ok-rest.ensures.answer)
    (then_found (d.function_params c.args.gives c.in_ok-name.name.now) _ _ _ _ _ c.in_ok-params.ensures.answer
    (then_found (d.block_last (function_of c.args.gives c.in_ok-name.name.now c.in_ok-params.params)) _ _ _ _ _ g (ret_found _ stops_anywhere _ tt g.ended)))))

pub with_commas-requires-clause-elements : goal.with_commas-requires-clause-elements
with_commas-requires-clause-elements c = d.params_parted
