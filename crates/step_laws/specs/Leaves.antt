-- What a step leaves, in words. The definitions, which search and fold, come to just this.
use Rattle.std.specs.Prelude.{◌≡◌, ℕ, ◌<◌, ◌≤◌, ◌↔◌, ◌⊎◌, IsTrue, IsFalse, List, length, replicate, ℤ, pos, ◌+ℤ◌, Option, Some, None}
use Rattle.std.specs.Prelude.{is_some, MatchResult, slice_set}
use Rattle.std.specs.Option.{unwrap_or}
use Rattle.cal_base.specs.declared.ends.StepFault.{StepFault}
use Rattle.cal_base.specs.declared.ends.StepFault.TheVariants.{Trap, Conflict, Total}
use Rattle.cal_terms.specs.declared.kinds.WordKind.{WordKind}
use Rattle.cal_terms.specs.declared.kinds.WordKind.TheVariants.{Tally}
use Rattle.cal_base.specs.declared.answer.Answer.{Answer}
use Rattle.cal_base.specs.declared.answer.Answer.TheVariants.{Fault}
use Rattle.cal_base.specs.Arithmetic.{fits_word}
use Rattle.cal_base.specs.Memory.{Memory, kinds_of, kind_at, value_at, is_ordinary}
use Rattle.cal_base.specs.Answers.{Answers, answer_of, entry_in, is_fault}
use Rattle.cal_base.specs.After.{is_faulty, value_after, has_total, after}

-- number k and a lower number j both have an entry for this ordinary word
pub record IsShared (kinds : List WordKind) (answers : Answers) (k address j : ℕ) : Type 0 where
  pub below : j < k
  pub ordinary : IsTrue (is_ordinary kinds address)
  pub lower : IsTrue (is_some (entry_in (answer_of answers j) address))
  pub upper : IsTrue (is_some (entry_in (answer_of answers k) address))

-- number k is faulty: it failed, or shares an ordinary word with a number below it
abbrev pub IsFaulty : List WordKind → Answers → ℕ → Type 0
IsFaulty kinds answers k =
    IsTrue (is_fault (answer_of answers k)) ⊎ ((address : ℕ) × ((j : ℕ) × IsShared kinds answers k address j))

-- no number below this one is faulty
abbrev pub NoneBelow : List WordKind → Answers → ℕ → Type 0
NoneBelow kinds answers bound = (k : ℕ) → k < bound → IsFaulty kinds answers k → ⊥

-- number k is in conflict: it did not fail, this is the least ordinary word that it shares with a number below it, and that number is j and no other
pub record IsConflict (kinds : List WordKind) (answers : Answers) (k address j : ℕ) : Type 0 where
  pub sound : IsFalse (is_fault (answer_of answers k))
  pub shared : IsShared kinds answers k address j
  pub least : (a i : ℕ) → IsShared kinds answers k a i → address ≤ a
  pub only : (i : ℕ) → IsShared kinds answers k address i → i ≡ j

-- what an answer adds to a tally word
abbrev pub addend : ℕ → Option Answer → ℤ
addend address answer = unwrap_or (entry_in answer address) (pos 0)

-- the totals of a tally word with this value, said by laying one answer after another: with no answer it is the value, and with one more it is exactly that answer's entry more
pub record IsTotal (address : ℕ) (value : ℤ) (total : Answers → ℤ) : Type 0 where
  pub none : (n : ℕ) → total (replicate n None) ≡ value
  pub more : (answers : Answers) (k : ℕ) (answer : Answer) → k < length answers → answer_of answers k ≡ None
      → total (slice_set answers k (Some answer)) ≡ total answers +ℤ addend address (Some answer)

-- the word has a total, and it is outside 64 bits
pub record IsOutside (memory : Memory) (answers : Answers) (address : ℕ) : Type 0 where
  pub within : address < length memory
  pub tally : IsTrue (has_total (kind_at memory address))
  pub outside : (total : Answers → ℤ) → IsTotal address (value_at memory address) total → IsFalse (fits_word (total answers))

-- a step ends with this fault: that of the least faulty number, or, where no number is faulty, the least total outside 64 bits
abbrev pub IsRightFault : Memory → Answers → StepFault → Type 0
IsRightFault memory answers (Trap k cause) = (answer_of answers k ≡ Some (Fault cause)) × NoneBelow (kinds_of memory) answers k
IsRightFault memory answers (Conflict k address j) = IsConflict (kinds_of memory) answers k address j
    × NoneBelow (kinds_of memory) answers k
IsRightFault memory answers (Total address) =
    NoneBelow (kinds_of memory) answers (length answers) × IsOutside memory answers address
    × ((a : ℕ) → IsOutside memory answers a → address ≤ a)

-- a step leaves this memory: nothing is faulty or outside 64 bits, an ordinary word has the value of the number that has an entry for it, or stays, and a tally word has its total
pub record IsRightMemory (memory : Memory) (answers : Answers) (later : Memory) : Type 0 where
  pub none_faulty : NoneBelow (kinds_of memory) answers (length answers)
  pub none_outside : (address : ℕ) → IsOutside memory answers address → ⊥
  pub kinds : kinds_of later ≡ kinds_of memory
  pub written : (k address : ℕ) (value : ℤ) → IsTrue (is_ordinary (kinds_of memory) address)
      → entry_in (answer_of answers k) address ≡ Some value → value_at later address ≡ value
  pub stays : (address : ℕ) → IsTrue (is_ordinary (kinds_of memory) address) → ((k : ℕ) → entry_in (answer_of answers k) address ≡ None)
      → value_at later address ≡ value_at memory address
  pub total : (address : ℕ) → address < length memory → kind_at memory address ≡ Tally → (total : Answers → ℤ)
      → IsTotal address (value_at memory address) total → value_at later address ≡ total answers

-- what the answers leave in a tally word is its total, and there is no other
abbrev pub TotalsAreLaid : Type 0
TotalsAreLaid =
    (address : ℕ) (value : ℤ)
    → IsTotal address value (λ answers. value_after Tally answers address value)
    × ((total : Answers → ℤ) → IsTotal address value total → (answers : Answers) → total answers ≡ value_after Tally answers address value)

-- the test for faulty numbers passes exactly the faulty ones
abbrev pub FaultyIsTested : Type 0
FaultyIsTested = (kinds : List WordKind) (answers : Answers) (k : ℕ) → IsTrue (is_faulty kinds answers k) ↔ IsFaulty kinds answers k

-- what a step leaves is right
abbrev pub AfterIsRight : Type 0
AfterIsRight = (memory : Memory) (answers : Answers) → MatchResult (after memory answers) (IsRightMemory memory answers)
    (IsRightFault memory answers)
