use Rattle.std.proofs.lemmas.Result.{err_from_is_err_and}
use Rattle.tree_eval.proofs.Telling.{par_stops, par_halts, par_done}
use Rattle.tree_eval.proofs.step.parbegin.Goals as goal

pub returns-in-Err-clause-tells : goal.returns-in-Err-clause-tells
returns-in-Err-clause-tells c = λ text.
    par_stops c.args.p.now c.args.fuel c.args.blocks.now c.args.locals.now c.args.world.now c.in-Err.halt c.main_halt.result c.ready.new.world text c.in-Err.ensures.follows c.main_halt.ensures

pub returns-in_err-step-in-Ok-clause-tells : goal.returns-in_err-step-in-Ok-clause-tells
returns-in_err-step-in-Ok-clause-tells c = λ text.
    let p = err_from_is_err_and c.from_residual.result c.from_residual.ensures.1 in
    rw (p.1, p.2) (par_halts c.args.p.now c.args.fuel c.args.blocks.now c.args.locals.now c.args.world.now c.in-Ok.widths c.as_slice.result.now _ c.ready.new.world c.step.new.world text
    c.in-Ok.ensures.follows c.as_slice.ensures (c.in_err-step-in-Ok.ensures.tells text))

pub returns-in_ok-step-in-Ok-clause-tells : goal.returns-in_ok-step-in-Ok-clause-tells
returns-in_ok-step-in-Ok-clause-tells c = λ text.
    par_done c.args.p.now c.args.fuel c.args.blocks.now c.args.locals.now c.args.world.now c.in-Ok.widths c.as_slice.result.now c.ready.new.world c.step.new.world text c.in-Ok.ensures.follows
    c.as_slice.ensures (c.in_ok-step-in-Ok.ensures.tells text)
