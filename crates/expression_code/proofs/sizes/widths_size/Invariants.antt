use Rattle.std.proofs.Common.{◌≡◌, ◌+◌, drop}
use Rattle.compiled_code.specs.Sizes as sizes
use Rattle.expression_code.proofs.sizes.widths_size.Given as goal

-- the size so far, and that of the rest
abbrev pub invariant-loop-block : goal.invariant-loop-block
invariant-loop-block l = l.size + sizes.widths_size (drop l.block-index l.blocks) ≡ sizes.widths_size l.fn.blocks
