use Rattle.std.proofs.Common.{true}
use Rattle.std.proofs.lemmas.Result.{err_from_is_err_and}
use Rattle.expression_parser.specs.Reading.{stops_anywhere}
use Rattle.csl_parser.specs.Chains.{array_of}
use Rattle.expression_parser.proofs.Then.{then_first, then_second, then_found, tok_found, tok_err, ret_found}
use Rattle.csl_parser.proofs.Declared as d
use Rattle.csl_parser.proofs.decl.listed.Goals as goal

pub returns-in_err-rest-clause-answer : goal.returns-in_err-rest-clause-answer
returns-in_err-rest-clause-answer c =
    let p = err_from_is_err_and c.from_residual.result c.from_residual.ensures.1 in
    rw (p.1, p.2) (then_first (d.listed_opening c.args.name.now c.args.size) c.args.tokens.now _ (tok_err _ _ _ c.in_err-rest.ensures.answer))

pub returns-in_err-values-clause-answer : goal.returns-in_err-values-clause-answer
returns-in_err-values-clause-answer c =
    let p = err_from_is_err_and c.from_residual-in_err-values.result c.from_residual-in_err-values.ensures.1 in
    rw (p.1, p.2) (then_second (d.listed_opening c.args.name.now c.args.size) c.args.tokens.now _ _ _ (tok_found c.in_ok-rest.ensures.answer)
    (then_first (d.listed_values c.args.name.now c.args.size) _ _ c.in_err-values.ensures.answer))

pub returns-in_err-rest-2-clause-answer : goal.returns-in_err-rest-2-clause-answer
returns-in_err-rest-2-clause-answer c =
    let p = err_from_is_err_and c.from_residual-in_err-rest-2.result c.from_residual-in_err-rest-2.ensures.1 in
    rw (p.1, p.2) (then_second (d.listed_opening c.args.name.now c.args.size) c.args.tokens.now _ _ _ (tok_found c.in_ok-rest.ensures.answer)
    (then_second (d.listed_values c.args.name.now c.args.size) _ _ _ _ c.in_ok-values.ensures.answer
    (then_first (d.end_follows (array_of c.args.name.now c.args.size true c.in_ok-values.values)) _ _ (tok_err _ _ _ c.in_err-rest-2.ensures.answer))))

pub returns-clause-answer : goal.returns-clause-answer
returns-clause-answer c =
    rw c.in_ok-copy_of.ensures (then_found (d.listed_opening c.args.name.now c.args.size) c.args.tokens.now _ _ _ _ (tok_found c.in_ok-rest.ensures.answer)
    (then_found (d.listed_values c.args.name.now c.args.size) _ _ _ _ _ c.in_ok-values.ensures.answer
    (then_found (d.end_follows (array_of c.args.name.now c.args.size true c.in_ok-values.values)) _ _ _ _ _ (tok_found c.in_ok-rest-2.ensures.answer)
    (ret_found _ stops_anywhere _ tt c.in_ok-rest-2.ensures.answer.ended))))

pub with_commas-requires-clause-elements : goal.with_commas-requires-clause-elements
with_commas-requires-clause-elements c = d.values_parted
