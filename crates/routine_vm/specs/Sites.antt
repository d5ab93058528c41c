-- Where code runs.
use Rattle.std.specs.Prelude.{ℕ, ◌<◌, IsTrue, length}
use Rattle.cal_base.specs.Memory.{kinds_of, is_ordinary}
use Rattle.cal_base.specs.declared.value.Store.{Store}
use Rattle.cal_base.specs.Stores.{memory_in}
use Rattle.machine_meaning.specs.Machine.{in_routine}

-- the word is there and may be read and set: a routine can only add to a tally word
pub record MayUse (store : Store) (a : ℕ) : Type 0 where
  pub range : a < length (memory_in store)
  pub ordinary : IsTrue (in_routine store) → IsTrue (is_ordinary (kinds_of (memory_in store)) a)
