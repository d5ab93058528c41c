use Rattle.std.proofs.Common.{◌≡◌, drop}
use Rattle.csl_tree.specs.declared.token.Mark.TheVariants.{Comma}
use Rattle.csl_print.specs.Layout.{adds_all}
use Rattle.csl_print.specs.TreeTokens.{mark, param_tokens, separated, further}
use Rattle.csl_print.proofs.decl.print_params.Given as goal

-- with the rest of them the whole list is added
abbrev pub invariant-loop-param : goal.invariant-loop-param
invariant-loop-param l =
    adds_all l.out (further (mark Comma) param_tokens (drop l.param-index l.rest)) ≡ adds_all l.fn.out (separated param_tokens l.fn.params)
