use Rattle.std.proofs.lemmas.Result.{err_from_is_err_and}
use Rattle.expression_parser.specs.Reading.{stops_anywhere}
use Rattle.expression_parser.proofs.Then.{then_first, then_second, then_found, tok_found, tok_err, ret_found}
use Rattle.csl_parser.proofs.Functions as d
use Rattle.csl_parser.proofs.program.unended.Goals as goal

pub returns-in_err-rest : goal.returns-in_err-rest
returns-in_err-rest c =
    let p = err_from_is_err_and c.from_residual.result c.from_residual.ensures.1 in
    rw (p.1, p.2) (then_first d.program_first c.args.tokens.now _ (tok_err _ _ _ c.in_err-rest.ensures.answer))

pub returns-in_err-rest-2 : goal.returns-in_err-rest-2
returns-in_err-rest-2 c =
    let p = err_from_is_err_and c.from_residual-in_err-rest-2.result c.from_residual-in_err-rest-2.ensures.1 in
    rw (p.1, p.2) (then_second d.program_first c.args.tokens.now _ _ _ (tok_found c.in_ok-rest.ensures.answer) (then_first d.program_opening _ _ (tok_err _ _ _ c.in_err-rest-2.ensures.answer)))

pub returns-in_err-shared : goal.returns-in_err-shared
returns-in_err-shared c =
    let p = err_from_is_err_and c.from_residual-in_err-shared.result c.from_residual-in_err-shared.ensures.1 in
    rw (p.1, p.2) (then_second d.program_first c.args.tokens.now _ _ _ (tok_found c.in_ok-rest.ensures.answer)
    (then_second d.program_opening _ _ _ _ (tok_found c.in_ok-rest-2.ensures.answer) (then_first d.shared_functions _ _ c.in_err-shared.ensures)))

pub returns-in_err-functions : goal.returns-in_err-functions
returns-in_err-functions c =
    let p = err_from_is_err_and c.from_residual-in_err-functions.result c.from_residual-in_err-functions.ensures.1 in
    rw (p.1, p.2) (then_second d.program_first c.args.tokens.now _ _ _ (tok_found c.in_ok-rest.ensures.answer)
    (then_second d.program_opening _ _ _ _ (tok_found c.in_ok-rest-2.ensures.answer)
    (then_second d.shared_functions _ _ _ _ c.in_ok-shared.ensures (then_first (d.functions_main c.in_ok-shared.shared) _ _ c.in_err-functions.ensures))))

pub returns-in_err-main : goal.returns-in_err-main
returns-in_err-main c =
    let p = err_from_is_err_and c.from_residual-in_err-main.result c.from_residual-in_err-main.ensures.1 in
    rw (p.1, p.2) (then_second d.program_first c.args.tokens.now _ _ _ (tok_found c.in_ok-rest.ensures.answer)
    (then_second d.program_opening _ _ _ _ (tok_found c.in_ok-rest-2.ensures.answer)
    (then_second d.shared_functions _ _ _ _ c.in_ok-shared.ensures
    (then_second (d.functions_main c.in_ok-shared.shared) _ _ _ _ c.in_ok-functions.ensures
    (then_first (d.main_block c.in_ok-shared.shared c.in_ok-functions.functions) _ _ c.in_err-main.ensures.answer)))))

pub returns : goal.returns
returns c =
    let g = c.in_ok-main.ensures.answer in
    then_found d.program_first c.args.tokens.now _ _ _ _ (tok_found c.in_ok-rest.ensures.answer)
    (then_found d.program_opening _ _ _ _ _ (tok_found c.in_ok-rest-2.ensures.answer)
    (then_found d.shared_functions _ _ _ _ _ c.in_ok-shared.ensures
    (then_found (d.functions_main c.in_ok-shared.shared) _ _ _ _ _ c.in_ok-functions.ensures
    (then_found (d.main_block c.in_ok-shared.shared c.in_ok-functions.functions) _ _ _ _ _ g (ret_found _ stops_anywhere _ tt g.ended)))))

pub one_by_one-requires-clause-elements : goal.one_by_one-requires-clause-elements
one_by_one-requires-clause-elements c = d.shared_repeated

pub one_by_one-requires-2-clause-elements : goal.one_by_one-requires-2-clause-elements
one_by_one-requires-2-clause-elements c = d.functions_repeated
