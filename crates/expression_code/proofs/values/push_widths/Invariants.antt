use Rattle.std.proofs.Common.{◌≡◌, ◌+◌, ◌++◌, length, drop}
use Rattle.compiled_code.specs.Sizes.{widths_size}
use Rattle.compiled_code.specs.Statements.{widths_code}
use Rattle.expression_code.proofs.values.push_widths.Given as goal

-- the code so far, and that of the rest behind it, which is as long as before
abbrev pub invariant-loop-block : goal.invariant-loop-block
invariant-loop-block l = record {
  code : l.instrs ++ widths_code l.names l.scope.slots (drop l.block-index l.blocks) (length l.instrs)
      ≡ l.fn.instrs ++ widths_code l.fn.names l.fn.scope.slots l.fn.blocks (length l.fn.instrs);
  long : length l.instrs + widths_size (drop l.block-index l.blocks) ≡ length l.fn.instrs + widths_size l.fn.blocks;
}
