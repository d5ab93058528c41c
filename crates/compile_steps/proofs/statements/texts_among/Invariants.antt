use Rattle.std.proofs.Common.{◌≡◌, ◌+◌, length, drop}
use Rattle.compiled_code.specs.Sizes.{item_texts}
use Rattle.compile_steps.proofs.statements.texts_among.Given as goal

-- those so far, and those among the rest
abbrev pub invariant-loop-item : goal.invariant-loop-item
invariant-loop-item l = l.count + length (item_texts (drop l.item-index l.items)) ≡ length (item_texts l.items)
