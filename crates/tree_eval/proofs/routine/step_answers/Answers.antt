use Rattle.std.proofs.Common.{◌∙◌, ap, arith, ◌++◌, ◌+◌, drop}
use Rattle.csl_meaning.specs.Routines.{answers}
use Rattle.tree_eval.specs.Asked.{has_failed, until_fault}
use Rattle.statement_eval.proofs.Equations.{next_item}
use Rattle.tree_eval.proofs.Routines.{block_more, of_block}
use Rattle.tree_eval.proofs.routine.step_answers.Goals as goal

pub loop-i-preserved : goal.loop-i-preserved
loop-i-preserved c =
    let i = c.loop-i.i in
    let b = c.index-blocks-i.result in
    let w = c.in-Some.width.now in
    let given = c.in_ok-lent-in-Some.ensures in
    let same = c.loop-i.invariant.same in
    record {
      same = given.memory ∙ same;
      rest = (λ j. given.answers j ++ until_fault (given.failed j) (answers c.args.p.now c.args.opening c.args.fuel (drop (i + 1) c.args.blocks.now) (drop (i + 1) c.args.widths.now)))
          ∙ ap (λ m. (c.loop-i.answers ++ until_fault c.loop-i.failed (of_block c.args.p.now m c.args.fuel b w))
          ++ until_fault (has_failed c.loop-i.failed (of_block c.args.p.now m c.args.fuel b w)) (answers c.args.p.now c.args.opening c.args.fuel (drop (i + 1) c.args.blocks.now) (drop (i + 1) c.args.widths.now))) same
          ∙ block_more c.args.p.now c.args.opening c.args.fuel c.loop-i.failed c.loop-i.answers c.args.blocks.now c.args.widths.now i b w (next_item c.args.blocks.now i b (omega arith) c.index-blocks-i.is)
          (next_item c.args.widths.now i w c.in-Some.ensures.lookup.3.0 c.in-Some.ensures.lookup.1)
          ∙ c.loop-i.invariant.rest;
    }
