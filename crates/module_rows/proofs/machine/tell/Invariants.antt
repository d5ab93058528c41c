use Rattle.std.proofs.Common.{◌≡◌}
use Rattle.cal_base.specs.Memory.{kinds_of}
use Rattle.machine_meaning.specs.Meaning.{module_memory}
use Rattle.routine_vm.specs.Held.{MayGoOn}
use Rattle.module_rows.proofs.machine.tell.Given as goal

-- main may go on, on a memory with the module's kinds
abbrev pub invariant-loop : goal.invariant-loop
invariant-loop l = record {
  may : MayGoOn l.code l.machine;
  kinds : kinds_of l.image.memory ≡ kinds_of (module_memory l.code);
}
