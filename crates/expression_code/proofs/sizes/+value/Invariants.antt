use Rattle.std.proofs.Common.{◌≡◌, ◌+◌, drop}
use Rattle.expression_code.specs.Lists.{sizes_of}
use Rattle.expression_code.proofs.sizes.+value.Given as goal

-- the size so far, and that of the rest
abbrev pub invariant-values_size-loop-e : goal.invariant-values_size-loop-e
invariant-values_size-loop-e l = l.size + sizes_of (drop l.e-index l.args) ≡ sizes_of l.fn.args
