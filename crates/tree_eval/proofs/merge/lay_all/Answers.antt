use Rattle.std.proofs.Common.{◌∙◌, refl, subst, arith}
use Rattle.step_merge.specs.Staged.{StandsFor}
use Rattle.tree_eval.proofs.Laying.{first_answers, none_laid, all_laid, next_is_free, one_more, has_size, is_free}
use Rattle.tree_eval.proofs.merge.lay_all.Goals as goal

pub loop-k-init : goal.loop-k-init
loop-k-init c = record {
  kinds = refl;
  stands = subst (StandsFor c.args.stage.now) (none_laid c.args.laid.now) c.requires.empty;
}

pub lay-requires : goal.lay-requires
lay-requires c =
    let size = has_size c.loop-k.stage c.args.laid.now c.loop-k.k c.loop-k.invariant.stands in
    record {
      in_range = omega (arith, c.loop-k-test.true, size);
      free = is_free c.loop-k.stage c.args.laid.now c.loop-k.k c.loop-k.invariant.stands;
    }

pub loop-k-preserved : goal.loop-k-preserved
loop-k-preserved c = record {
  kinds = c.lay.ensures.kinds ∙ c.loop-k.invariant.kinds;
  stands = subst (StandsFor c.lay.new.stage) (one_more c.loop-k.k c.args.laid.now c.index-laid-k.result c.loop-k-test.true c.index-laid-k.is)
      (c.lay.ensures.lays (first_answers c.loop-k.k c.args.laid.now) (next_is_free c.loop-k.k c.args.laid.now) c.loop-k.invariant.stands);
}

pub returns : goal.returns
returns c = record {
  kinds = c.loop-k.invariant.kinds;
  stands = subst (StandsFor c.loop-k.stage) (all_laid c.loop-k.k c.args.laid.now (omega arith)) c.loop-k.invariant.stands;
}
