use Rattle.std.proofs.Common.{◌≡◌, ◌≤◌, ◌+◌, ◌*◌, ◌++◌, drop, length}
use Rattle.expression_code.specs.Lists.{statements_size, all_arms_size, slots_after_all, kinds_of, kinds_of_arms}
use Rattle.expression_code.specs.Asked.{asked_by, asked_by_arms}
use Rattle.expression_code.proofs.sizes.+form.Given as goal

-- the size so far and that of the rest, the locals behind the rest, and the sizes asked for so far and for the rest
abbrev pub invariant-all_size-loop-s : goal.invariant-all_size-loop-s
invariant-all_size-loop-s l = record {
  size : l.size + statements_size l.names (drop l.s-index l.body) l.scope.slots l.scope.next ≡ statements_size l.fn.names l.fn.body l.fn.scope.slots l.fn.scope.next;
  slots : slots_after_all l.scope.slots l.scope.next (drop l.s-index l.body) ≡ slots_after_all l.fn.scope.slots l.fn.scope.next l.fn.body;
  few : l.scope.next ≤ l.fn.scope.next + l.size;
  next : l.scope.next + length (kinds_of (drop l.s-index l.body)) ≡ l.fn.scope.next + length (kinds_of l.fn.body);
  asked : l.sizes ++ asked_by l.names (drop l.s-index l.body) l.scope.slots l.scope.next ≡ l.fn.sizes ++ asked_by l.fn.names l.fn.body l.fn.scope.slots l.fn.scope.next;
}

abbrev pub invariant-arms_size-loop-arm : goal.invariant-arms_size-loop-arm
invariant-arms_size-loop-arm l = record {
  size : l.size + all_arms_size l.names (drop l.arm-index l.arms) l.scope.slots l.scope.next ≡ all_arms_size l.fn.names l.fn.arms l.fn.scope.slots l.fn.scope.next;
  slots : l.scope.slots ≡ l.fn.scope.slots;
  few : l.scope.next ≤ l.fn.scope.next + l.size;
  next : l.scope.next + length (kinds_of_arms (drop l.arm-index l.arms)) ≡ l.fn.scope.next + length (kinds_of_arms l.fn.arms);
  asked : l.sizes ++ asked_by_arms l.names (drop l.arm-index l.arms) l.scope.slots l.scope.next ≡ l.fn.sizes ++ asked_by_arms l.fn.names l.fn.arms l.fn.scope.slots l.fn.scope.next;
}

-- ---- each call goes down the tree, or hands a part of the same statement on

abbrev pub decreases-form_size : goal.decreases-form_size
decreases-form_size l = 8 * goal.size-form_size l

abbrev pub decreases-arms_size : goal.decreases-arms_size
decreases-arms_size l = 8 * goal.size-arms_size l + 5

abbrev pub decreases-size_here : goal.decreases-size_here
decreases-size_here l = 8 * goal.size-size_here l + 1

abbrev pub decreases-all_size : goal.decreases-all_size
decreases-all_size l = 8 * goal.size-all_size l + 1

abbrev pub decreases-block_size : goal.decreases-block_size
decreases-block_size l = 8 * goal.size-block_size l + 2

abbrev pub decreases-inside_size : goal.decreases-inside_size
decreases-inside_size l = 8 * goal.size-inside_size l + 3

abbrev pub decreases-arm_size : goal.decreases-arm_size
decreases-arm_size l = 8 * goal.size-arm_size l + 4

abbrev pub decreases-last_size : goal.decreases-last_size
decreases-last_size l = 8 * goal.size-last_size l + 4
