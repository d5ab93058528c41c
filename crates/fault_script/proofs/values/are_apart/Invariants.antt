use Rattle.std.proofs.Common.{◌≡◌, drop}
use Rattle.fault_script.specs.Scripts.{are_apart}
use Rattle.fault_script.proofs.values.are_apart.Given as goal

abbrev pub invariant-loop-number : goal.invariant-loop-number
invariant-loop-number l = are_apart (drop l.number-index l.some) l.others ≡ are_apart l.some l.others
