-- What is shown owns nothing, so any thread may share it.
use denote.Param.Send.{IsSync, part_keyless}
use Rattle.routine_vm.specs.contracts.shown.Shown.{the_row}
use Rattle.routine_vm.proofs.shown.Shown.TheSendSync.Send.{send}

pub sync : IsSync the_row
sync = record { shared = λ d b o κ q. part_keyless the_row send q d b o }
