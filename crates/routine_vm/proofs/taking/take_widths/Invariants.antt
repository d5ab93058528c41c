use Rattle.std.proofs.Common.{◌≡◌, ◌-◌, ◌≤◌, length, map, sum}
use Rattle.std.specs.Prelude.{IsSome, pos}
use Rattle.machine_meaning.specs.Machine.{many_numbers}
use Rattle.routine_vm.proofs.Taken.{with_more}
use Rattle.routine_vm.proofs.taking.take_widths.Given as goal

-- the numbers that are left are there, and the widths that are taken stand behind them
abbrev pub invariant-loop : goal.invariant-loop
invariant-loop l = record {
  there : IsSome (many_numbers (l.count - l.counter) l.operands);
  behind : many_numbers l.count l.fn.operands ≡ with_more (map pos l.widths) (many_numbers (l.count - l.counter) l.operands);
  total : l.total ≡ sum l.widths;
  bound : l.total ≤ 65536;
  long : length l.widths ≡ l.counter;
}
