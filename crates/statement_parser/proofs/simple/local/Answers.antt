use Rattle.std.proofs.lemmas.Result.{err_from_is_err_and}
use Rattle.statement_parser.specs.Statements.{NoElse}
use Rattle.expression_parser.proofs.Sequence.{passed, passed_error}
use Rattle.expression_parser.proofs.Then.{then_first, then_answers}
use Rattle.statement_parser.proofs.StatementParts as d
use Rattle.statement_parser.proofs.simple.local.Goals as goal

pub returns-in_err-s-clause-answer : goal.returns-in_err-s-clause-answer
returns-in_err-s-clause-answer c =
    let p = err_from_is_err_and c.from_residual.result c.from_residual.ensures.1 in
    rw (p.1, p.2) (passed_error _ _ NoElse _ c.args.tokens.now _ (d.local_same c.args.first.now c.args.ty c.args.tokens.now c.requires.kind)
    (then_first (d.decl_follows c.args.first.now c.args.ty c.requires.kind) c.args.tokens.now _ c.in_err-s.ensures.answer))

pub returns-clause-answer : goal.returns-clause-answer
returns-clause-answer c =
    passed _ _ NoElse _ c.args.tokens.now _ _ (d.local_same c.args.first.now c.args.ty c.args.tokens.now c.requires.kind)
    (then_answers (d.decl_follows c.args.first.now c.args.ty c.requires.kind) _ c.args.tokens.now _ _ _ c.in_ok-s.ensures.answer c.ended.ensures.answer)
