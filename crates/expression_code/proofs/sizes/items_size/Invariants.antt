use Rattle.std.proofs.Common.{◌≡◌, ◌+◌, drop}
use Rattle.compiled_code.specs.Sizes as sizes
use Rattle.expression_code.proofs.sizes.items_size.Given as goal

-- the size so far, and that of the rest
abbrev pub invariant-loop-item : goal.invariant-loop-item
invariant-loop-item l = l.size + sizes.items_size (drop l.item-index l.items) ≡ sizes.items_size l.fn.items
