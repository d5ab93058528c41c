use Rattle.std.proofs.Common.{◌≡◌, drop}
use Rattle.toml.specs.View.{items_view}
use Rattle.fault_script.specs.Scripts.{each_in, number_in}
use Rattle.fault_script.proofs.ScriptParts.{behind}
use Rattle.fault_script.proofs.values.numbers_in.Given as goal

abbrev pub invariant-loop-value : goal.invariant-loop-value
invariant-loop-value l =
    behind l.numbers.items (each_in (number_in 1 4294967295) (items_view (drop l.value-index l.value-items))) ≡ each_in (number_in 1 4294967295) (items_view l.value-items)
