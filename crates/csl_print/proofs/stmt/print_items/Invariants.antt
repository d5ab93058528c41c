use Rattle.std.proofs.Common.{◌≡◌, drop}
use Rattle.csl_tree.specs.declared.token.Mark.TheVariants.{Comma}
use Rattle.csl_print.specs.Layout.{adds_all}
use Rattle.csl_print.specs.TreeTokens.{mark, item_tokens, separated, further}
use Rattle.csl_print.proofs.stmt.print_items.Given as goal

-- with the rest of them the whole list is added
abbrev pub invariant-loop-item : goal.invariant-loop-item
invariant-loop-item l =
    adds_all l.out (further (mark Comma) item_tokens (drop l.item-index l.rest)) ≡ adds_all l.fn.out (separated item_tokens l.fn.items)
