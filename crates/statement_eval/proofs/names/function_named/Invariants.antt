use Rattle.std.proofs.Common.{◌≡◌, drop}
use Rattle.csl_meaning.specs.Effect as effect
use Rattle.statement_eval.proofs.names.function_named.Given as goal

abbrev pub invariant-loop-f : goal.invariant-loop-f
invariant-loop-f l = effect.function_named (drop l.f-index l.functions) l.name ≡ effect.function_named l.fn.functions l.fn.name
