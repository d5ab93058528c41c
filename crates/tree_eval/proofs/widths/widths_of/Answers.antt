use Rattle.std.proofs.Common.{◌∙◌, arith, rules, drop, ◌+◌, SFits, w64}
use Rattle.std.proofs.lemmas.Int.{to_z-of_z}
use Rattle.std.proofs.lemmas.Result.{err_from_is_err_and, IfOk-at_ok}
use Rattle.csl_meaning.specs.Effect.{calls_to, most_levels}
use Rattle.csl_meaning.specs.Meaning as meaning
use Rattle.statement_eval.proofs.Equations.{next_item}
use Rattle.tree_eval.proofs.Lines.{widths_more, widths_stop}
use Rattle.tree_eval.proofs.widths.widths_of.Goals as goal

pub returns-in_err-v-clause-follows : goal.returns-in_err-v-clause-follows
returns-in_err-v-clause-follows c =
    let p = err_from_is_err_and c.from_residual.result c.from_residual.ensures.1 in
    rw (p.1, p.2) (widths_stop c.args.p.now (calls_to c.args.p.now most_levels) c.args.locals.now (drop c.loop-block.block-index c.args.blocks.now)
    (drop (c.loop-block.block-index + 1) c.args.blocks.now) c.block-item.result c.args.numbers.now c.loop-block.numbers c.loop-block.numbers _ c.loop-block.world c.value.new.world c.args.world.now
    (meaning.widths_of c.args.p.now (calls_to c.args.p.now most_levels) c.args.locals.now c.args.blocks.now)
    (next_item c.args.blocks.now c.loop-block.block-index c.block-item.result (omega arith) c.block-item.is) c.in_err-v.ensures.follows c.loop-block.invariant.rest)

pub loop-block-preserved : goal.loop-block-preserved
loop-block-preserved c =
    let fits : SFits w64 c.number_in.result = search rules in
    record {
      rest = rw (IfOk-at_ok _ c.in_ok-push.was c.push.ensures.ok, to_z-of_z w64 c.number_in.result fits, c.number_in.ensures)
          (widths_more c.args.p.now (calls_to c.args.p.now most_levels) c.args.locals.now _ _ _ _ _ _ _
          (next_item c.args.blocks.now c.loop-block.block-index c.block-item.result (omega arith) c.block-item.is) c.in_ok-v.ensures.follows ∙ c.loop-block.invariant.rest);
      fuel = omega (arith, c.loop-block.invariant.fuel, c.value.ensures.fuel);
      stay = c.value.ensures.stays ∙ c.loop-block.invariant.stay;
    }
