-- What runs: it may change the words, take fuel and, in main, show lines and open steps; then it gives something or stops.
use Rattle.std.specs.Prelude.{ℕ, zero, suc, ℤ, List, Result, Ok, Err}
use Rattle.cal_base.specs.declared.ends.Cause.{Cause}
use Rattle.cal_base.specs.declared.ends.Cause.TheVariants.{FuelSpent}
use Rattle.cal_base.specs.declared.value.Store.{Store}
use Rattle.cal_base.specs.Memory.{Memory}
use Rattle.cal_base.specs.Stores.{read_word, write_word, add_word}
use Rattle.cal_base.specs.Claims.{StepJob}
use Rattle.csl_meaning.specs.declared.state.World.{World}

-- a run gives an A or stops with a cause, each with the world after it; main may show a line before that, or open a step and go on with the memory that the step leaves
pub data Outcome (A : Type 0) : Type 0 where
  Gives : A → World → Outcome A
  Stops : Cause → World → Outcome A
  ShowsLine : List ℕ → Outcome A → Outcome A
  OpensStep : StepJob → (Memory → Outcome A) → Outcome A

-- what may change the world, and gives an A or stops
abbrev pub Run : Type 0 → Type 0
Run A = World → Outcome A

-- what is given, and the world after it, go on to the next run
abbrev pub and_then : {A B : Type 0} → Outcome A → (A → Run B) → Outcome B
and_then (Gives a w) next = next a w
and_then (Stops cause w) next = Stops cause w
and_then (ShowsLine line rest) next = ShowsLine line (and_then rest next)
and_then (OpensStep job rest) next = OpensStep job (λ later. and_then (rest later) next)

-- one run, and then the next with what it gave
infixl 10 ◌>>=◌
abbrev pub ◌>>=◌ : {A B : Type 0} → Run A → (A → Run B) → Run B
run >>= next = λ w. and_then (run w) next

-- one run, and then the next
infixl 10 ◌>>◌
abbrev pub ◌>>◌ : {A B : Type 0} → Run A → Run B → Run B
run >> next = run >>= (λ _. next)

-- gives this, and changes nothing
abbrev pub pure : {A : Type 0} → A → Run A
pure a = λ w. Gives a w

-- stops with the cause
abbrev pub stop : {A : Type 0} → Cause → Run A
stop cause = λ w. Stops cause w

-- gives the result, or stops with its cause
abbrev pub try : {A : Type 0} → Result A Cause → Run A
try (Ok a) = pure a
try (Err cause) = stop cause

-- with this much fuel, one unit less is left; where there is none, the fuel is spent
abbrev pub spend : ℕ → World → Outcome (Unit {0})
spend zero w = Stops FuelSpent w
spend (suc left) w = Gives tt (record w { fuel = left })

-- takes one unit of fuel
abbrev pub take_unit : Run (Unit {0})
take_unit = λ w. spend w.fuel w

-- what the word at the address reads as
abbrev pub word_at : ℕ → Run ℤ
word_at address = λ w. Gives (read_word w.store address) w

-- writes the word at the address
abbrev pub put_word : ℕ → ℤ → Run (Unit {0})
put_word address value = λ w. Gives tt (record w { store = write_word w.store address value })

-- goes on with these words, unless there is a cause
abbrev pub with_store : Result Store Cause → Run (Unit {0})
with_store (Ok store) = λ w. Gives tt (record w { store = store })
with_store (Err cause) = stop cause

-- adds to the word at the address
abbrev pub raise_word : ℕ → ℤ → Run (Unit {0})
raise_word address value = λ w. with_store (add_word w.store address value) w
