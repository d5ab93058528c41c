use Rattle.std.proofs.Common.{◌≡◌, take}
use Rattle.csl_lexer.specs.Tokens.{value_of}
use Rattle.csl_lexer.proofs.scan.value.Given as goal

abbrev pub invariant-loop-b : goal.invariant-loop-b
invariant-loop-b l = l.number ≡ value_of (take l.b-index l.digits)
