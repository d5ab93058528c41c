use Rattle.std.proofs.Common.{refl}
use Rattle.std.proofs.lemmas.Result.{err_from_is_err_and}
use Rattle.csl_parser.proofs.Whole as d
use Rattle.csl_parser.proofs.program.program.Goals as goal

pub returns-in_err-read : goal.returns-in_err-read
returns-in_err-read c =
    let p = err_from_is_err_and c.from_residual.result c.from_residual.ensures.1 in
    rw (p.1, p.2) (d.whole_error c.args.tokens.now _ c.in_err-read.ensures)

pub returns-then-is_end : goal.returns-then-is_end
returns-then-is_end c = d.whole_found c.args.tokens.now _ _ _ _ c.in_ok-read.ensures c.front.ensures (c.if-is_end.ensures.0 refl)

pub returns-else-is_end : goal.returns-else-is_end
returns-else-is_end c = d.goes_on_behind c.args.tokens.now _ _ _ _ c.in_ok-read.ensures c.front.ensures (λ h. cc (c.if-is_end.ensures.1 h))
