use Rattle.std.proofs.Common.{◌≡◌, drop, map}
use Rattle.fault_script.specs.Rows.{Row, has}
use Rattle.fault_script.proofs.reading.has_number.Given as goal

abbrev pub invariant-loop-row : goal.invariant-loop-row
invariant-loop-row l = has (map (λ (row : Row). row.number) (drop l.row-index l.rows)) l.number ≡ has (map (λ (row : Row). row.number) l.rows) l.number
