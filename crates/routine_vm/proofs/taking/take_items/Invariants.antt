use Rattle.std.proofs.Common.{◌≡◌, ◌+◌, List, ◌++◌, length, map}
use Rattle.std.specs.Prelude.{IsSome}
use Rattle.machine_meaning.specs.Machine.{pieces}
use Rattle.bytecode.specs.declared.instr.PrintItem.{PrintItem}
use Rattle.routine_vm.specs.Events.{piece_of, AreItemsOf}
use Rattle.routine_vm.proofs.Taken.{with_more}
use Rattle.routine_vm.proofs.taking.take_items.Given as goal

-- the items of the rest are there, and those that are taken stand behind them
abbrev pub invariant-loop-item : goal.invariant-loop-item
invariant-loop-item l = record {
  there : IsSome (pieces l.m l.rest l.operands);
  behind : pieces l.m l.line l.fn.operands ≡ with_more (map (piece_of l.m) l.items) (pieces l.m l.rest l.operands);
  done : (done : List PrintItem) × (l.line ≡ l.rest ++ done) × AreItemsOf done l.items;
  count : length l.items + length l.rest ≡ length l.line;
}

abbrev pub decreases-loop-item : goal.decreases-loop-item
decreases-loop-item l = length l.rest
