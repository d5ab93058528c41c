use Rattle.std.proofs.lemmas.Result.{err_from_is_err_and}
use Rattle.expression_parser.specs.Reading.{stops_anywhere}
use Rattle.csl_parser.specs.Chains.{tally_of}
use Rattle.expression_parser.proofs.Then.{then_first, then_second, then_found, tok_found, tok_err, ret_found}
use Rattle.csl_parser.proofs.Declared.{tally_int, tally_name, end_follows}
use Rattle.csl_parser.proofs.decl.tally.Goals as goal

pub returns-in_err-rest-clause-answer : goal.returns-in_err-rest-clause-answer
returns-in_err-rest-clause-answer c =
    let p = err_from_is_err_and c.from_residual.result c.from_residual.ensures.1 in
    rw (p.1, p.2) (then_first tally_int c.args.tokens.now _ (tok_err _ _ _ c.in_err-rest.ensures.answer))

pub returns-in_err-name-clause-answer : goal.returns-in_err-name-clause-answer
returns-in_err-name-clause-answer c =
    let p = err_from_is_err_and c.from_residual-in_err-name.result c.from_residual-in_err-name.ensures.1 in
    rw (p.1, p.2) (then_second tally_int c.args.tokens.now _ _ _ (tok_found c.in_ok-rest.ensures.answer) (then_first tally_name _ _ c.in_err-name.ensures.answer))

pub returns-in_err-rest-2-clause-answer : goal.returns-in_err-rest-2-clause-answer
returns-in_err-rest-2-clause-answer c =
    let p = err_from_is_err_and c.from_residual-in_err-rest-2.result c.from_residual-in_err-rest-2.ensures.1 in
    rw (p.1, p.2) (then_second tally_int c.args.tokens.now _ _ _ (tok_found c.in_ok-rest.ensures.answer)
    (then_second tally_name _ _ _ _ c.in_ok-name.ensures.answer (then_first (end_follows (tally_of c.in_ok-name.name.now)) _ _ (tok_err _ _ _ c.in_err-rest-2.ensures.answer))))

pub returns-clause-answer : goal.returns-clause-answer
returns-clause-answer c =
    rw (c.in_ok-copy_of.ensures, c.new.ensures) (then_found tally_int c.args.tokens.now _ _ _ _ (tok_found c.in_ok-rest.ensures.answer)
    (then_found tally_name _ _ _ _ _ c.in_ok-name.ensures.answer
    (then_found (end_follows (tally_of c.in_ok-name.name.now)) _ _ _ _ _ (tok_found c.in_ok-rest-2.ensures.answer) (ret_found _ stops_anywhere _ tt c.in_ok-rest-2.ensures.answer.ended))))
