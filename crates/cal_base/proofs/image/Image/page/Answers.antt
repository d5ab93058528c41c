use Rattle.std.proofs.Common.{◌≡◌, ◌+◌, ◌*◌, ◌-◌, ap, ◌∙◌, arith, take, drop}
use Rattle.cal_base.proofs.Images.{image_page, image_page_words}
use Rattle.cal_base.proofs.image.Image.page.Goals as goal

pub slice_bounds-result-end : goal.slice_bounds-result-end
slice_bounds-result-end c = omega (arith, c.deref.ensures.len, c.self.invariant.whole, image_page _ _ _ _ c.self.invariant c.self.view_is c.args.p c.requires)

pub returns : goal.returns
returns c =
    let count : 64 * c.args.p + 64 - 64 * c.args.p ≡ 64 = omega arith in
    ap (λ n. take n (drop (64 * c.args.p) c.deref.result.now)) count
    ∙ (ap (λ vs. take 64 (drop (64 * c.args.p) vs)) c.deref.ensures.value
    ∙ image_page_words _ _ _ _ c.self.invariant c.self.view_is c.args.p c.requires)
