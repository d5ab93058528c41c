-- What a function that evaluates ensures: the definition's outcome, unless memory is wanted.
use Rattle.std.specs.Prelude.{◌≡◌, ℕ, List, ◌++◌, Option, Some, None, length, Result, Ok, Err}
use Rattle.cal_base.specs.declared.value.Store.{Store}
use Rattle.cal_base.specs.declared.value.Store.TheVariants as store
use Rattle.cal_base.specs.Memory.{Memory}
use Rattle.cal_base.specs.Stores.{memory_in}
use Rattle.csl_meaning.specs.declared.state.World.{World}
use Rattle.csl_meaning.specs.declared.state.Ending.{Ending}
use Rattle.csl_meaning.specs.Locals.{Locals}
use Rattle.csl_meaning.specs.Runs.{Outcome, Gives, Stops, Run, ◌>>=◌, pure}
use Rattle.csl_meaning.specs.Effect.{Went}
use Rattle.statement_eval.specs.declared.halt.Halt.{Halt}
use Rattle.statement_eval.specs.declared.halt.Halt.TheVariants.{Cause, NoMemory}

-- the call gave what the definition gives, with the world after it
abbrev pub Follows : {A : Type 0} → Outcome A → Result A Halt → World → Type 0
Follows outcome (Ok a) after = outcome ≡ Gives a after
Follows outcome (Err (Cause c)) after = outcome ≡ Stops c after
Follows outcome (Err NoMemory) after = Unit {0}

-- the same of a statement, with the locals after it
abbrev pub Goes : Outcome Went → Result Ending Halt → Locals → World → Type 0
Goes outcome (Ok e) locals after = outcome ≡ Gives (e, locals) after
Goes outcome (Err (Cause c)) locals after = outcome ≡ Stops c after
Goes outcome (Err NoMemory) locals after = Unit {0}

-- the same of what leaves locals alone
abbrev pub Sets : Outcome Locals → Result (Unit {0}) Halt → Locals → World → Type 0
Sets outcome (Ok u) locals after = outcome ≡ Gives locals after
Sets outcome (Err (Cause c)) locals after = outcome ≡ Stops c after
Sets outcome (Err NoMemory) locals after = Unit {0}

-- the call appended to a list what the definition gives
abbrev pub AppendsAll : {A : Type 0} → Run (List A) → List A → World → Result (Unit {0}) Halt → List A → World → Type 0
AppendsAll run before w (Ok u) given after = (run >>= (λ more. pure (before ++ more))) w ≡ Gives given after
AppendsAll run before w (Err (Cause c)) given after = run w ≡ Stops c after
AppendsAll run before w (Err NoMemory) given after = Unit {0}

-- the memory that a routine reads; main has none
abbrev pub opening_of : Store → Option Memory
opening_of (store.Main memory) = None
opening_of (store.Routine opening written) = Some opening

-- what stays while no step is opened: a routine's opening memory, how many words there are, and how many steps there were
abbrev pub stays : World → Option Memory × ℕ × ℕ
stays w = (opening_of w.store, length (memory_in w.store), w.steps)
