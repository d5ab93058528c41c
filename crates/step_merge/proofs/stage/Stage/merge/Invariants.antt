use Rattle.std.proofs.Common.{◌≡◌, ◌<◌, ℕ, false, length}
use Rattle.cal_base.specs.Pages.{IsLater, page_of, version_of}
use Rattle.step_merge.specs.Steps.{has_owner, left_by}
use Rattle.step_merge.proofs.Merging.{partly_left}
use Rattle.step_merge.proofs.stage.Stage.merge.Given as goal

-- the words so far have what is left in them
abbrev pub invariant-loop-a : goal.invariant-loop-a
invariant-loop-a l = record {
  so_far : l.image.memory ≡ partly_left (left_by l.self) 0 l.a l.fn.image.memory;
  later : IsLater l.fn.image l.image;
  pages : (p : ℕ) → ((b : ℕ) → b < length l.self.kinds → page_of b ≡ p → has_owner l.self b ≡ false) → version_of l.image p ≡ version_of l.fn.image p;
}
