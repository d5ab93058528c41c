use Rattle.std.proofs.Common.{◌≡◌, ◌++◌, drop}
use Rattle.expression_code.specs.Lists.{texts_of, texts_of_arms}
use Rattle.compile_steps.proofs.texts.+texts.Given as goal

-- what is appended so far, and the texts of the rest
abbrev pub invariant-push_texts-loop-s : goal.invariant-push_texts-loop-s
invariant-push_texts-loop-s l = l.texts ++ texts_of (drop l.s-index l.body) ≡ l.fn.texts ++ texts_of l.fn.body

abbrev pub invariant-push_arm_texts-loop-arm : goal.invariant-push_arm_texts-loop-arm
invariant-push_arm_texts-loop-arm l = l.texts ++ texts_of_arms (drop l.arm-index l.arms) ≡ l.fn.texts ++ texts_of_arms l.fn.arms
