use Rattle.std.proofs.Common.{◌≡◌, ◌+◌, ◌++◌, length, drop}
use Rattle.compiled_code.specs.Sizes.{item_texts}
use Rattle.compiled_code.specs.Statements.{printed_items}
use Rattle.expression_code.proofs.values.printed_items.Given as goal

-- the items so far, and the rest behind them
abbrev pub invariant-loop-item : goal.invariant-loop-item
invariant-loop-item l = record {
  items : l.printed ++ printed_items l.names l.scope.slots (drop l.item-index l.items) l.index
      ≡ printed_items l.fn.names l.fn.scope.slots l.fn.items l.fn.text;
  texts : l.index + length (item_texts (drop l.item-index l.items)) ≡ l.fn.text + length (item_texts l.fn.items);
}
