use Rattle.std.proofs.Common.{◌∙◌, arith, drop, ◌+◌}
use Rattle.std.proofs.lemmas.Result.{err_from_is_err_and, IfOk-at_ok}
use Rattle.csl_meaning.specs.Effect.{calls_to, most_levels}
use Rattle.csl_meaning.specs.Meaning as meaning
use Rattle.statement_eval.proofs.Equations.{next_item}
use Rattle.tree_eval.proofs.Lines.{pieces_more, pieces_stop}
use Rattle.tree_eval.proofs.line.pieces.Goals as goal

pub returns-in_err-text-clause-follows : goal.returns-in_err-text-clause-follows
returns-in_err-text-clause-follows c =
    let p = err_from_is_err_and c.from_residual.result c.from_residual.ensures.1 in
    rw (p.1, p.2) (pieces_stop c.args.p.now (calls_to c.args.p.now most_levels) c.args.locals.now (drop c.loop-item.item-index c.args.items.now) (drop (c.loop-item.item-index + 1) c.args.items.now)
    c.item-item.result c.args.texts.now c.loop-item.texts c.loop-item.texts _ c.loop-item.world c.piece.new.world c.args.world.now
    (meaning.pieces c.args.p.now (calls_to c.args.p.now most_levels) c.args.locals.now c.args.items.now)
    (next_item c.args.items.now c.loop-item.item-index c.item-item.result (omega arith) c.item-item.is) c.in_err-text.ensures.follows c.loop-item.invariant.rest)

pub loop-item-preserved : goal.loop-item-preserved
loop-item-preserved c = record {
  rest = rw (IfOk-at_ok _ c.in_ok-push.was c.push.ensures.ok) (pieces_more c.args.p.now (calls_to c.args.p.now most_levels) c.args.locals.now _ _ _ _ _ _ _
      (next_item c.args.items.now c.loop-item.item-index c.item-item.result (omega arith) c.item-item.is) c.in_ok-text.ensures.follows ∙ c.loop-item.invariant.rest);
  fuel = omega (arith, c.loop-item.invariant.fuel, c.piece.ensures.fuel);
  stay = c.piece.ensures.stays ∙ c.loop-item.invariant.stay;
}
