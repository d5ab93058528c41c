use Rattle.std.proofs.Common.{◌≡◌, ◌∙◌, [], length, rules}
use Rattle.write_buffer.proofs.Touched.{clearing_more, cleared_masks}
use Rattle.write_buffer.proofs.marks.clear_all.Goals as goal

pub loop-p-preserved : goal.loop-p-preserved
loop-p-preserved c = record {
  clearing =
      clearing_more (length c.args.masks.now.items) (length c.args.pages.now.items) c.loop-p.masks.items c.loop-p.pages.items c.loop-p.touched.items c.pop.new.self.items c.in-Some.p
      c.loop-p.invariant.clearing c.in-Some.ensures.items;
  capacity = c.pop.ensures.capacity ∙ c.loop-p.invariant.capacity;
}

pub returns-clause-masks : goal.returns-clause-masks
returns-clause-masks c =
    let none : c.loop-p.touched.items ≡ [] = search rules in
    cleared_masks (length c.args.masks.now.items) (length c.args.pages.now.items) c.loop-p.masks.items c.loop-p.pages.items c.loop-p.touched.items c.loop-p.invariant.clearing none
