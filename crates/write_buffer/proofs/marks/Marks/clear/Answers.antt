use Rattle.write_buffer.proofs.Touched.{marks_cleared}
use Rattle.write_buffer.proofs.marks.Marks.clear.Goals as goal

pub invariant_of-self : goal.invariant_of-self
invariant_of-self c =
    let i = c.self.inside in
    let is = c.clear_all.ensures in
    rw (is.masks, is.touched, is.capacity)
    (marks_cleared i.masks.items i.pages.items i.touched.items c.clear_all.new.pages.items i.touched.cap c.self.invariant is.count is.pages)
