use Rattle.std.proofs.Common.{◌≡◌, drop}
use Rattle.csl_meaning.specs.Locals as locals
use Rattle.statement_eval.proofs.names.local_value.Given as goal

abbrev pub invariant-loop-local : goal.invariant-loop-local
invariant-loop-local l = locals.local_value (drop l.local-index l.all) l.name ≡ locals.local_value l.fn.all l.fn.name
