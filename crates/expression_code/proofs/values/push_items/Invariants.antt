use Rattle.std.proofs.Common.{◌≡◌, ◌+◌, ◌++◌, length, drop}
use Rattle.compiled_code.specs.Sizes.{items_size}
use Rattle.compiled_code.specs.Statements.{items_code}
use Rattle.expression_code.proofs.values.push_items.Given as goal

-- the code so far, and that of the rest behind it, which is as long as before
abbrev pub invariant-loop-item : goal.invariant-loop-item
invariant-loop-item l = record {
  code : l.instrs ++ items_code l.names l.scope.slots (drop l.item-index l.items) (length l.instrs)
      ≡ l.fn.instrs ++ items_code l.fn.names l.fn.scope.slots l.fn.items (length l.fn.instrs);
  long : length l.instrs + items_size (drop l.item-index l.items) ≡ length l.fn.instrs + items_size l.fn.items;
}
