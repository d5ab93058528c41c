use Rattle.std.proofs.Common.{◌≡◌, drop}
use Rattle.csl_print.specs.Layout.{adds_all}
use Rattle.csl_print.specs.TreeTokens.{each, function_tokens}
use Rattle.csl_print.proofs.program.print_functions.Given as goal

-- with the rest of them all are added
abbrev pub invariant-loop-function : goal.invariant-loop-function
invariant-loop-function l = adds_all l.out (each function_tokens (drop l.function-index l.all)) ≡ adds_all l.fn.out (each function_tokens l.fn.all)
