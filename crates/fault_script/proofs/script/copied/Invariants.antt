use Rattle.std.proofs.Common.{◌≡◌, drop}
use Rattle.fault_script.specs.Rows.{row_of}
use Rattle.fault_script.proofs.script.copied.Given as goal

abbrev pub invariant-loop-row : goal.invariant-loop-row
invariant-loop-row l = row_of (drop l.row-index l.rows) l.who ≡ row_of l.rows l.who
