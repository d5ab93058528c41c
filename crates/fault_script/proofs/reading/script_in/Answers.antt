use Rattle.std.proofs.Common.{rules}
use Rattle.fault_script.proofs.ScriptParts.{different_from}
use Rattle.fault_script.proofs.reading.script_in.Goals as goal

pub of-requires : goal.of-requires
of-requires c = different_from c.in_ok-rows.rows.items c.in_ok-rows.ensures.workers (search (rules, c.if-are_different.ensures, c.as_slice.ensures.value))
