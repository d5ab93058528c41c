use Rattle.std.proofs.Common.{◌≡◌, drop}
use Rattle.fault_script.specs.Scripts.{ascend_above}
use Rattle.fault_script.proofs.values.are_ascending.Given as goal

abbrev pub invariant-loop-number : goal.invariant-loop-number
invariant-loop-number l = ascend_above l.low (drop l.number-index l.numbers) ≡ ascend_above 0 l.numbers
