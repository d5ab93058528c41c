use Rattle.std.proofs.Common.{rules}
use Rattle.fault_script.proofs.ScriptParts.{ascends_from}
use Rattle.fault_script.proofs.values.executions_in.Goals as goal

pub returns-then-are_ascending-clause-list : goal.returns-then-are_ascending-clause-list
returns-then-are_ascending-clause-list c = record {
  ascending = ascends_from 0 c.in_ok-numbers.numbers.items (search (rules, c.if-are_ascending.ensures, c.as_slice.ensures.value));
  short = search (rules, c.if-len-le1024.true, c.len.ensures);
}
