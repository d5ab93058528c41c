use Rattle.std.proofs.Common.{◌≡◌, ◌++◌, drop, map}
use Rattle.compiled_code.specs.Modules.{block_code}
use Rattle.expression_code.specs.Lists.{RoutinesAre}
use Rattle.compile_steps.specs.Writing.{BlocksFit}
use Rattle.compile_steps.proofs.blocks.push_step_blocks.Given as goal

-- the code so far, and that of the rest
abbrev pub invariant-loop-block : goal.invariant-loop-block
invariant-loop-block l = record {
  codes : l.codes ++ map (λ b. block_code l.names b) (drop l.block-index l.blocks) ≡ l.fn.codes ++ map (λ b. block_code l.fn.names b) l.fn.blocks;
  shape : RoutinesAre l.names (drop l.block-index l.blocks);
  room : BlocksFit l.names (drop l.block-index l.blocks);
}
