use Rattle.std.proofs.Common.{◌≡◌, length, vec_len}
use Rattle.std.specs.Vec.{vec_capacity}
use Rattle.write_buffer.proofs.Touched.{IsClearing}
use Rattle.write_buffer.proofs.marks.clear_all.Given as goal

abbrev pub invariant-loop-p : goal.invariant-loop-p
invariant-loop-p l = record {
  clearing : IsClearing (length l.initial.masks.items) (length l.initial.pages.items) l.masks.items l.pages.items l.touched.items;
  capacity : vec_capacity l.touched ≡ vec_capacity l.initial.touched;
}

abbrev pub decreases-loop-p : goal.decreases-loop-p
decreases-loop-p l = vec_len l.touched
