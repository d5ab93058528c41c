use Rattle.std.proofs.Common.{◌≡◌, drop}
use Rattle.fault_script.specs.Rows.{has}
use Rattle.fault_script.proofs.lists.has.Given as goal

abbrev pub invariant-loop-number : goal.invariant-loop-number
invariant-loop-number l = has (drop l.number-index l.numbers) l.i ≡ has l.numbers l.i
