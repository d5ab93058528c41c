use Rattle.std.proofs.Common.{take}
use Rattle.std.specs.List.{AllByRecursion}
use Rattle.csl_lexer.specs.Steps.{IsIn}
use Rattle.csl_lexer.proofs.scan.run_length.Given as goal

abbrev pub invariant-loop-i : goal.invariant-loop-i
invariant-loop-i l = AllByRecursion (IsIn l.class) (take l.i l.bytes)
