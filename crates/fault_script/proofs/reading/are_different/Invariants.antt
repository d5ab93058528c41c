use Rattle.std.proofs.Common.{◌≡◌, drop, map}
use Rattle.fault_script.specs.Rows.{Row}
use Rattle.fault_script.specs.Scripts.{are_different}
use Rattle.fault_script.proofs.reading.are_different.Given as goal

abbrev pub invariant-loop-place : goal.invariant-loop-place
invariant-loop-place l = are_different (map (λ (row : Row). row.number) (drop l.place l.rows)) ≡ are_different (map (λ (row : Row). row.number) l.rows)
