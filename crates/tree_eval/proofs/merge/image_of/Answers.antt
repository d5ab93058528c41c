use Rattle.std.proofs.Common.{◌∙◌, ap, length, []}
use Rattle.cal_base.specs.Memory.{kinds_of}
use Rattle.cal_base.specs.Pages.{first_memory}
use Rattle.tree_eval.proofs.Tallies.{made_kinds}
use Rattle.tree_eval.proofs.merge.image_of.Goals as goal

pub fill-requires : goal.fill-requires
fill-requires c =
    ap kinds_of c.in_ok-image.ensures.memory
    ∙ ap (λ t. kinds_of (first_memory (length c.args.memory.now) t [])) c.as_slice.ensures
    ∙ made_kinds c.in_ok-tallies.tallies c.args.memory.now c.in_ok-tallies.ensures
