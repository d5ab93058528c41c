use Rattle.std.proofs.lemmas.Result.{err_from_is_err_and}
use Rattle.expression_parser.specs.Reading.{stops_anywhere}
use Rattle.expression_parser.proofs.Then.{then_first, then_second, then_found, tok_found, tok_err, ret_found}
use Rattle.statement_parser.proofs.StatementParts as d
use Rattle.statement_parser.proofs.heads.two_names.Goals as goal

pub returns-in_err-rest-clause-answer : goal.returns-in_err-rest-clause-answer
returns-in_err-rest-clause-answer c =
    let p = err_from_is_err_and c.from_residual.result c.from_residual.ensures.1 in
    rw (p.1, p.2) (then_first d.names_opening _ _ (tok_err _ _ _ c.in_err-rest.ensures.answer))

pub returns-in_err-rest-2-clause-answer : goal.returns-in_err-rest-2-clause-answer
returns-in_err-rest-2-clause-answer c =
    let p = err_from_is_err_and c.from_residual-in_err-rest-2.result c.from_residual-in_err-rest-2.ensures.1 in
    rw (p.1, p.2) (then_second d.names_opening _ _ _ _ (tok_found c.in_ok-rest.ensures.answer) (then_first d.first_int _ _ (tok_err _ _ _ c.in_err-rest-2.ensures.answer)))

pub returns-in_err-width-clause-answer : goal.returns-in_err-width-clause-answer
returns-in_err-width-clause-answer c =
    let p = err_from_is_err_and c.from_residual-in_err-width.result c.from_residual-in_err-width.ensures.1 in
    rw (p.1, p.2) (then_second d.names_opening _ _ _ _ (tok_found c.in_ok-rest.ensures.answer)
    (then_second d.first_int _ _ _ _ (tok_found c.in_ok-rest-2.ensures.answer) (then_first d.first_name _ _ c.in_err-width.ensures.answer)))

pub returns-in_err-rest-3-clause-answer : goal.returns-in_err-rest-3-clause-answer
returns-in_err-rest-3-clause-answer c =
    let p = err_from_is_err_and c.from_residual-in_err-rest-3.result c.from_residual-in_err-rest-3.ensures.1 in
    rw (p.1, p.2) (then_second d.names_opening _ _ _ _ (tok_found c.in_ok-rest.ensures.answer)
    (then_second d.first_int _ _ _ _ (tok_found c.in_ok-rest-2.ensures.answer) (then_second d.first_name _ _ _ _ c.in_ok-width.ensures.answer
    (then_first (d.name_comma c.in_ok-width.width.now) _ _ (tok_err _ _ _ c.in_err-rest-3.ensures.answer)))))

pub returns-in_err-rest-4-clause-answer : goal.returns-in_err-rest-4-clause-answer
returns-in_err-rest-4-clause-answer c =
    let p = err_from_is_err_and c.from_residual-in_err-rest-4.result c.from_residual-in_err-rest-4.ensures.1 in
    rw (p.1, p.2) (then_second d.names_opening _ _ _ _ (tok_found c.in_ok-rest.ensures.answer)
    (then_second d.first_int _ _ _ _ (tok_found c.in_ok-rest-2.ensures.answer) (then_second d.first_name _ _ _ _ c.in_ok-width.ensures.answer
    (then_second (d.name_comma c.in_ok-width.width.now) _ _ _ _ (tok_found c.in_ok-rest-3.ensures.answer)
    (then_first (d.second_int c.in_ok-width.width.now) _ _ (tok_err _ _ _ c.in_err-rest-4.ensures.answer))))))

pub returns-in_err-id-clause-answer : goal.returns-in_err-id-clause-answer
returns-in_err-id-clause-answer c =
    let p = err_from_is_err_and c.from_residual-in_err-id.result c.from_residual-in_err-id.ensures.1 in
    rw (p.1, p.2) (then_second d.names_opening _ _ _ _ (tok_found c.in_ok-rest.ensures.answer)
    (then_second d.first_int _ _ _ _ (tok_found c.in_ok-rest-2.ensures.answer) (then_second d.first_name _ _ _ _ c.in_ok-width.ensures.answer
    (then_second (d.name_comma c.in_ok-width.width.now) _ _ _ _ (tok_found c.in_ok-rest-3.ensures.answer)
    (then_second (d.second_int c.in_ok-width.width.now) _ _ _ _ (tok_found c.in_ok-rest-4.ensures.answer) (then_first (d.second_name c.in_ok-width.width.now) _ _ c.in_err-id.ensures.answer))))))

pub returns-in_err-rest-5-clause-answer : goal.returns-in_err-rest-5-clause-answer
returns-in_err-rest-5-clause-answer c =
    let p = err_from_is_err_and c.from_residual-in_err-rest-5.result c.from_residual-in_err-rest-5.ensures.1 in
    rw (p.1, p.2) (then_second d.names_opening _ _ _ _ (tok_found c.in_ok-rest.ensures.answer)
    (then_second d.first_int _ _ _ _ (tok_found c.in_ok-rest-2.ensures.answer) (then_second d.first_name _ _ _ _ c.in_ok-width.ensures.answer
    (then_second (d.name_comma c.in_ok-width.width.now) _ _ _ _ (tok_found c.in_ok-rest-3.ensures.answer)
    (then_second (d.second_int c.in_ok-width.width.now) _ _ _ _ (tok_found c.in_ok-rest-4.ensures.answer)
    (then_second (d.second_name c.in_ok-width.width.now) _ _ _ _ c.in_ok-id.ensures.answer
    (then_first (d.last_name c.in_ok-width.width.now c.in_ok-id.id.now) _ _ (tok_err _ _ _ c.in_err-rest-5.ensures.answer))))))))

pub returns-clause-answer : goal.returns-clause-answer
returns-clause-answer c = then_found d.names_opening _ _ _ _ _ (tok_found c.in_ok-rest.ensures.answer)
    (then_found d.first_int _ _ _ _ _ (tok_found c.in_ok-rest-2.ensures.answer) (then_found d.first_name _ _ _ _ _ c.in_ok-width.ensures.answer
    (then_found (d.name_comma c.in_ok-width.width.now) _ _ _ _ _ (tok_found c.in_ok-rest-3.ensures.answer)
    (then_found (d.second_int c.in_ok-width.width.now) _ _ _ _ _ (tok_found c.in_ok-rest-4.ensures.answer)
    (then_found (d.second_name c.in_ok-width.width.now) _ _ _ _ _ c.in_ok-id.ensures.answer
    (then_found (d.last_name c.in_ok-width.width.now c.in_ok-id.id.now) _ _ _ _ _ (tok_found c.in_ok-rest-5.ensures.answer) (ret_found _ stops_anywhere _ tt c.in_ok-rest-5.ensures.answer.ended)))))))
