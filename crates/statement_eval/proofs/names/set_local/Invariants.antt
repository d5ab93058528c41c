use Rattle.std.proofs.Common.{◌≡◌, ◌++◌, take, drop}
use Rattle.csl_meaning.specs.Locals as locals
use Rattle.statement_eval.proofs.names.set_local.Given as goal

-- the locals that were passed have other names
abbrev pub invariant-loop-at : goal.invariant-loop-at
invariant-loop-at l = record {
  same : l.all ≡ l.fn.all;
  rest : take l.at l.all ++ locals.set_local (drop l.at l.all) l.name l.value ≡ locals.set_local l.fn.all l.fn.name l.fn.value;
}
