use Rattle.std.proofs.Common.{◌≡◌, length}
use Rattle.code_verify.specs.Kinds.{below, items_kinds}
use Rattle.code_verify.proofs.effect.take_items.Given as goal

abbrev pub invariant-loop-item : goal.invariant-loop-item
invariant-loop-item l = record { hand : below (items_kinds l.items) l.fn.kinds.hand ≡ below (items_kinds l.rest) l.kinds.hand; known : l.kinds.known ≡ l.fn.kinds.known }

abbrev pub decreases-loop-item : goal.decreases-loop-item
decreases-loop-item l = length l.rest
