-- Reading, writing and adding to words, in main and in a routine.
use Rattle.std.specs.Prelude.{◌≡◌, ℕ, ℤ, pos, ◌+ℤ◌, Result, Ok, Err}
use Rattle.std.specs.Option.{unwrap_or}
use Rattle.std.specs.FinMap.{get, insert, empty}
use Rattle.cal_base.specs.declared.ends.Cause.{Cause}
use Rattle.cal_base.specs.declared.ends.Cause.TheVariants.{Overflow}
use Rattle.cal_base.specs.declared.ends.Overflow.{Overflow as OverflowMet}
use Rattle.cal_terms.specs.declared.kinds.WordKind.{WordKind}
use Rattle.cal_terms.specs.declared.kinds.WordKind.TheVariants.{Ordinary, Tally}
use Rattle.cal_base.specs.Arithmetic.{checked}
use Rattle.cal_base.specs.Memory.{Memory, kind_at, value_at, with_value}
use Rattle.cal_base.specs.Updates.{Written}
pub use Rattle.cal_base.specs.declared.value.Store.{Store}
pub use Rattle.cal_base.specs.declared.value.Store.TheVariants.{Main, Routine}

-- the memory: main's own, or the one on which a routine's step opened
abbrev pub memory_in : Store → Memory
memory_in (Main memory) = memory
memory_in (Routine opening written) = opening

-- what the routine itself wrote and added; main has nothing of the kind
abbrev pub written_in : Store → Written
written_in (Main memory) = empty
written_in (Routine opening written) = written

-- a word reads as the routine's own last write, else as the memory has it
abbrev pub read_word : Store → ℕ → ℤ
read_word (Main memory) address = value_at memory address
read_word (Routine opening written) address = unwrap_or (get written address) (value_at opening address)

-- a write changes main's memory, and in a routine its own writes
abbrev pub write_word : Store → ℕ → ℤ → Store
write_word (Main memory) address value = Main (with_value memory address value)
write_word (Routine opening written) address value = Routine opening (insert written address value)

-- what a routine adds to: an ordinary word as it reads, or its own running sum of a tally word, which begins at 0
abbrev pub routine_base : WordKind → Memory → Written → ℕ → ℤ
routine_base Ordinary opening written address = unwrap_or (get written address) (value_at opening address)
routine_base Tally opening written address = unwrap_or (get written address) (pos 0)

-- what an adding starts from
abbrev pub base_of : Store → ℕ → ℤ
base_of (Main memory) address = value_at memory address
base_of (Routine opening written) address = routine_base (kind_at opening address) opening written address

-- the store with this sum in the word, unless the sum trapped
abbrev pub with_sum : Store → ℕ → Result ℤ Cause → Result Store Cause
with_sum store address (Ok sum) = Ok (write_word store address sum)
with_sum store address (Err cause) = Err cause

-- an adding reads, adds and writes; a sum outside 64 bits is an overflow
abbrev pub add_word : Store → ℕ → ℤ → Result Store Cause
add_word store address value = with_sum store address (checked (base_of store address +ℤ value))

-- an adding ended so: with the store that holds the sum, or, where the sum overflows, with the store as it was
abbrev pub Adds : Store → ℕ → ℤ → Store → Result (Unit {0}) OverflowMet → Type 0
Adds before address value later (Ok done) = add_word before address value ≡ Ok later
Adds before address value later (Err met) = (add_word before address value ≡ Err Overflow) × (later ≡ before)
