use Rattle.std.proofs.Common.{sym}
use Rattle.std.proofs.Math.Bool.{true≢false}
use Rattle.fault_script.proofs.ScriptParts.{table_of_text, no_table}
use Rattle.fault_script.proofs.reading.table_in.Goals as goal

pub returns-in-Ok : goal.returns-in-Ok
returns-in-Ok c = table_of_text c.args.bytes.now _ c.in-Ok.ensures.ok.0 c.in-Ok.ensures.ok.1

pub returns-in-Err-2 : goal.returns-in-Err-2
returns-in-Err-2 c = no_table c.args.bytes.now (c.in-Err.ensures.refused (λ memory. absurd (true≢false (sym (c.if-is_memory.ensures.1 memory)))))
