use Rattle.std.proofs.lemmas.Result.{err_from_is_err_and}
use Rattle.expression_parser.specs.Reading.{stops_anywhere}
use Rattle.expression_parser.proofs.Then.{then_first, then_found, ret_found}
use Rattle.csl_parser.proofs.Functions as d
use Rattle.csl_parser.proofs.program.named.Goals as goal

pub returns-in_err-name-clause-answer : goal.returns-in_err-name-clause-answer
returns-in_err-name-clause-answer c =
    let p = err_from_is_err_and c.from_residual.result c.from_residual.ensures.1 in
    rw (p.1, p.2) (then_first (d.param_name c.args.ty) c.args.tokens.now _ c.in_err-name.ensures.answer)

pub returns-clause-answer : goal.returns-clause-answer
returns-clause-answer c =
    let f = c.in_ok-name.ensures.answer in
    rw c.in_ok-copy_of.ensures (then_found (d.param_name c.args.ty) c.args.tokens.now _ _ _ _ f (ret_found _ stops_anywhere _ tt f.ended))
