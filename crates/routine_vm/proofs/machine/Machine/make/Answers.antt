use Rattle.std.proofs.Common.{refl}
use Rattle.machine_meaning.specs.Meaning.{module_memory}
use Rattle.machine_meaning.proofs.Never.{main_fits}
use Rattle.routine_vm.proofs.machine.Machine.make.Goals as goal

pub returns-clause-may : goal.returns-clause-may
returns-clause-may c =
    let m = c.args.code.now in
    rw (c.begin.ensures, c.module.ensures.same) (record { main = refl; fits = main_fits m c.module.ensures.verified (module_memory m) c.args.fuel })
