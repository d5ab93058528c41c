use Rattle.std.proofs.Common.{◌≡◌, ◌++◌, drop}
use Rattle.compiled_code.specs.Sizes.{item_texts}
use Rattle.compile_steps.proofs.texts.push_item_texts.Given as goal

-- what is appended so far, and the texts of the rest
abbrev pub invariant-loop-item : goal.invariant-loop-item
invariant-loop-item l = l.texts ++ item_texts (drop l.item-index l.items) ≡ l.fn.texts ++ item_texts l.fn.items
