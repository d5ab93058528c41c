use Rattle.std.proofs.Common.{◌≡◌, ◌∙◌, List, length, refl, ap, sym, subst, Some, ◌≤◌}
use Rattle.std.specs.Prelude.{slice_get}
use Rattle.bytecode.specs.declared.module.Code.{Code}
use Rattle.code_verify.specs.Tests.{IsQuietBlock}
use Rattle.code_verify.proofs.Lists.{each_next, each_whole, entry_there}
use Rattle.code_verify.proofs.whole.blocks_fit.Goals as goal

pub loop-block-preserved : goal.loop-block-preserved
loop-block-preserved c =
    let at : slice_get c.args.m.now.blocks c.loop-block.block-index ≡ Some c.block-item.result = ap (λ (l : List Code). slice_get l c.loop-block.block-index) (sym c.as_slice-block-items.ensures)
    ∙ entry_there c.as_slice-block-items.result.now c.loop-block.block-index c.block-item.result c.loop-block-test.true c.block-item.is in
    each_next (λ b d. IsQuietBlock c.args.m.now c.args.uses.now d) c.args.m.now.blocks c.loop-block.block-index c.block-item.result c.loop-block.invariant at
    (c.in_ok-is_quiet_block.ensures.0 c.if-not-branch.false)

pub returns : goal.returns
returns c =
    let whole : length c.args.m.now.blocks ≤ c.loop-block.block-index = subst (λ (l : List Code). length l ≤ c.loop-block.block-index) c.as_slice-block-items.ensures c.loop-block-test.false in
    (λ yes. each_whole (λ b d. IsQuietBlock c.args.m.now c.args.uses.now d) c.args.m.now.blocks c.loop-block.block-index c.loop-block.invariant whole, λ all. refl)
