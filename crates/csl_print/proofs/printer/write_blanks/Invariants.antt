use Rattle.std.proofs.Common.{◌≡◌, ◌++◌}
use Rattle.csl_print.specs.Canonical.{blanks}
use Rattle.csl_print.proofs.printer.write_blanks.Given as goal

abbrev pub invariant-loop-written : goal.invariant-loop-written
invariant-loop-written l = l.text.items ≡ l.fn.text.items ++ blanks l._written
