use Rattle.std.proofs.Common.{◌≤◌}
use Rattle.csl_lexer.proofs.Closing.{NoneBefore}
use Rattle.csl_lexer.proofs.scan.closing.Given as goal

abbrev pub invariant-loop-i : goal.invariant-loop-i
invariant-loop-i l = record {
  some : 1 ≤ l.i;
  none : NoneBefore l.bytes l.i;
}
