use Rattle.std.proofs.lemmas.Result.{err_from_is_err_and}
use Rattle.csl_parser.proofs.Only.{text_ended, flat_only, spelled_only}
use Rattle.csl_parser.proofs.parse.Goals as goal

pub returns-in_err-check-clause-only : goal.returns-in_err-check-clause-only
returns-in_err-check-clause-only c =
    let p = err_from_is_err_and c.from_residual.result c.from_residual.ensures.1 in
    rw (p.1, p.2) (λ _ flat _. flat_only c.args.tokens.now _ c.in_err-check.ensures flat)

pub program-requires : goal.program-requires
program-requires c = text_ended c.args.tokens.now c.requires

pub returns-clause-only : goal.returns-clause-only
returns-clause-only c = λ p _ spelled. spelled_only c.args.tokens.now c.program.result c.program.ensures p spelled
