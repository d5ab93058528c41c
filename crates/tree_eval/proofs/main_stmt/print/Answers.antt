use Rattle.std.proofs.lemmas.Result.{err_from_is_err_and}
use Rattle.tree_eval.proofs.Telling.{print_halts}
use Rattle.tree_eval.proofs.main_stmt.print.Goals as goal

pub returns-in_err-line-clause-tells : goal.returns-in_err-line-clause-tells
returns-in_err-line-clause-tells g c =
    let p = err_from_is_err_and c.from_residual.result c.from_residual.ensures.1 in
    rw (p.1, p.2) (print_halts c.args.p.now c.args.fuel c.args.items.now c.args.locals.now c.args.world.now c.printed.new.world _ (g.S.Sink.written c.args.out.now)
    (c.in_err-line.ensures.tells (g.S.Sink.written c.args.out.now)))
