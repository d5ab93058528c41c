use Rattle.std.proofs.Common.{◌≡◌, ◌<◌, drop}
use Rattle.std.specs.List.{AllByRecursion}
use Rattle.toml.specs.View.{items_view}
use Rattle.fault_script.specs.Scripts.{each_in, row_in}
use Rattle.fault_script.proofs.ScriptParts.{behind}
use Rattle.fault_script.proofs.reading.rows_of.Given as goal

abbrev pub invariant-loop-value : goal.invariant-loop-value
invariant-loop-value l = record {
  told : behind l.rows.items (each_in row_in (items_view (drop l.value-index l.value-items))) ≡ each_in row_in (items_view l.value-items);
  workers : AllByRecursion (λ row. row.number < 32) l.rows.items;
}
