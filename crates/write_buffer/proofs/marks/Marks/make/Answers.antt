use Rattle.std.proofs.Common.{◌≡◌, [], replicate, rules, arith}
use Rattle.std.specs.Int.{div_ceil}
use Rattle.write_buffer.proofs.Touched.{no_marks}
use Rattle.write_buffer.proofs.marks.Marks.make.Goals as goal

pub invariant_of-result : goal.invariant_of-result
invariant_of-result c =
    let masks : c.in_ok-masks.masks.items ≡ replicate c.args.pages 0 = c.in_ok-masks.ensures.items_if_clones_equal (search rules) in
    let pages : c.in_ok-vec.field-0.items ≡ replicate c.div_ceil.result 0 = c.in_ok-vec.ensures.items_if_clones_equal (search rules) in
    let touched : c.in_ok-touched.touched.items ≡ [] = c.in_ok-touched.ensures.items in
    let words : c.div_ceil.result ≡ div_ceil c.args.pages 64 = c.div_ceil.ensures in
    rw (masks, pages, touched) (no_marks c.args.pages c.div_ceil.result _ c.requires (omega (arith, words)) (omega (arith, words, c.requires)) (omega (arith, c.in_ok-touched.ensures.capacity)))
