use Rattle.std.proofs.Common.{sym, ◌∙◌}
use Rattle.cal_base.proofs.Images.{image_kinds}
use Rattle.cal_base.proofs.image.Image.kinds.Goals as goal

pub returns : goal.returns
returns c = c.as_slice.ensures.value ∙ sym (image_kinds _ _ _ _ c.self.invariant c.self.view_is)
