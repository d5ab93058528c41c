-- What a call of the core leaves.
use Rattle.std.specs.Prelude.{◌≡◌, Result, Ok, Err}
use Rattle.cal_base.specs.declared.ends.StepFault.{StepFault}
use Rattle.cal_base.specs.Memory.{Memory}
pub use Rattle.step_laws.specs.Turns.{after_claim, has_entry, after_arrival}

-- the step ended as it was meant to: with this memory, or with this fault
abbrev pub IsEnd : Result Memory StepFault → Memory → Result (Unit {0}) StepFault → Type 0
IsEnd meant memory (Ok done) = meant ≡ Ok memory
IsEnd meant memory (Err fault) = meant ≡ Err fault
