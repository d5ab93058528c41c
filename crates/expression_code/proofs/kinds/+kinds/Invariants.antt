use Rattle.std.proofs.Common.{◌≡◌, ◌++◌, drop}
use Rattle.expression_code.specs.Lists.{kinds_of, kinds_of_arms}
use Rattle.expression_code.proofs.kinds.+kinds.Given as goal

-- what is appended so far, and the kinds of the rest
abbrev pub invariant-push_kinds-loop-s : goal.invariant-push_kinds-loop-s
invariant-push_kinds-loop-s l = l.kinds ++ kinds_of (drop l.s-index l.body) ≡ l.fn.kinds ++ kinds_of l.fn.body

abbrev pub invariant-push_arm_kinds-loop-arm : goal.invariant-push_arm_kinds-loop-arm
invariant-push_arm_kinds-loop-arm l = l.kinds ++ kinds_of_arms (drop l.arm-index l.arms) ≡ l.fn.kinds ++ kinds_of_arms l.fn.arms
