use Rattle.std.proofs.Common.{◌≡◌, ◌++◌, drop, map}
use Rattle.compiled_code.specs.Modules.{block_code}
use Rattle.expression_code.specs.Lists.{steps_of, steps_of_arms, StatementsAre, AllArmsAre}
use Rattle.compile_steps.specs.Writing.{BlocksFit}
use Rattle.compile_steps.proofs.blocks.+blocks.Given as goal

-- the code so far, and that of the rest, which has its shape
abbrev pub invariant-push_blocks-loop-s : goal.invariant-push_blocks-loop-s
invariant-push_blocks-loop-s l = record {
  codes : l.codes ++ map (λ b. block_code l.names b) (steps_of (drop l.s-index l.body)) ≡ l.fn.codes ++ map (λ b. block_code l.fn.names b) (steps_of l.fn.body);
  shape : StatementsAre l.names (drop l.s-index l.body);
  room : BlocksFit l.names (steps_of (drop l.s-index l.body));
}

abbrev pub invariant-push_arm_blocks-loop-arm : goal.invariant-push_arm_blocks-loop-arm
invariant-push_arm_blocks-loop-arm l = record {
  codes : l.codes ++ map (λ b. block_code l.names b) (steps_of_arms (drop l.arm-index l.arms)) ≡ l.fn.codes ++ map (λ b. block_code l.fn.names b) (steps_of_arms l.fn.arms);
  shape : AllArmsAre l.names (drop l.arm-index l.arms);
  room : BlocksFit l.names (steps_of_arms (drop l.arm-index l.arms));
}
