-- How an adding to a word ends.
use Rattle.std.specs.Prelude.{◌≡◌, Result, Ok, Err}
use Rattle.cal_base.specs.declared.ends.Cause.{Cause as CauseMet}
use Rattle.cal_base.specs.declared.value.Store.{Store}
use Rattle.statement_eval.specs.declared.halt.Halt.{Halt}
use Rattle.statement_eval.specs.declared.halt.Halt.TheVariants.{Cause, NoMemory}

-- an adding ended so: with the store that holds the sum, or, where it trapped, with the store as it was
abbrev pub Sums : Result Store CauseMet → Store → Result (Unit {0}) Halt → Store → Type 0
Sums sum before (Ok done) later = sum ≡ Ok later
Sums sum before (Err (Cause cause)) later = (sum ≡ Err cause) × (later ≡ before)
Sums sum before (Err NoMemory) later = Unit {0}
