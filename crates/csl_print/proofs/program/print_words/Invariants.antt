use Rattle.std.proofs.Common.{◌≡◌, drop}
use Rattle.csl_print.specs.Layout.{adds_all}
use Rattle.csl_print.specs.TreeTokens.{each, shared_tokens}
use Rattle.csl_print.proofs.program.print_words.Given as goal

-- with the rest of them all are added
abbrev pub invariant-loop-shared : goal.invariant-loop-shared
invariant-loop-shared l = adds_all l.out (each shared_tokens (drop l.shared-index l.all)) ≡ adds_all l.fn.out (each shared_tokens l.fn.all)
