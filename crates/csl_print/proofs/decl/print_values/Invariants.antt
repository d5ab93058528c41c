use Rattle.std.proofs.Common.{◌≡◌, drop}
use Rattle.csl_tree.specs.declared.token.Mark.TheVariants.{Comma}
use Rattle.csl_print.specs.Layout.{adds_all}
use Rattle.csl_print.specs.TreeTokens.{mark, value_tokens, separated, further}
use Rattle.csl_print.proofs.decl.print_values.Given as goal

-- with the rest of them the whole list is added
abbrev pub invariant-loop-value : goal.invariant-loop-value
invariant-loop-value l =
    adds_all l.out (further (mark Comma) value_tokens (drop l.value-index l.rest)) ≡ adds_all l.fn.out (separated value_tokens l.fn.values)
