use Rattle.std.proofs.Common.{◌≡◌, ◌≤◌, ◌+◌, length}
use Rattle.fault_script.specs.Events.{events_of, lines_of}
use Rattle.fault_script.proofs.EventLists.{listed, behind}
use Rattle.fault_script.proofs.events.read_events.Given as goal

abbrev pub invariant-loop-rest : goal.invariant-loop-rest
invariant-loop-rest l = record {
  room : l.number + length l.rest ≤ length l.bytes;
  told : behind l.list.items l.number (listed (lines_of l.rest)) ≡ events_of l.bytes;
}

abbrev pub decreases-loop-rest : goal.decreases-loop-rest
decreases-loop-rest l = length l.rest
