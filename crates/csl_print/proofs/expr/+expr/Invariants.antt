use Rattle.std.proofs.Common.{◌≡◌, drop}
use Rattle.csl_tree.specs.declared.token.Mark.TheVariants.{Comma}
use Rattle.csl_print.specs.Layout.{adds_all}
use Rattle.csl_print.specs.TreeTokens.{mark, expr_tokens, separated, further}
use Rattle.csl_print.proofs.expr.+expr.Given as goal

-- with the rest of them the whole list is added
abbrev pub invariant-print_arguments-loop-e : goal.invariant-print_arguments-loop-e
invariant-print_arguments-loop-e l =
    adds_all l.out (further (mark Comma) expr_tokens (drop l.e-index l.rest)) ≡ adds_all l.fn.out (separated expr_tokens l.fn.args)
