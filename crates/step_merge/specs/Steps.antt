-- The stage's steps, as the code takes them.
use Rattle.std.specs.Prelude.{◌≡◌, ℕ, ◌*◌, ◌^◌, ◌<◌, ◌≤◌, Bool, true, false, nat_lt, if◌then◌else◌, min, max, IsTrue, List, length, map, ℤ}
use Rattle.std.specs.Prelude.{pos, ◌+ℤ◌, ◌≤ℤ◌, Option, Some, None, slice_get, slice_set}
use Rattle.std.specs.Option.{option_map_or, ForSome}
use Rattle.std.specs.List.{count_by, enumerate_from}
use Rattle.cal_terms.specs.declared.kinds.WordKind.{WordKind}
use Rattle.cal_terms.specs.declared.kinds.WordKind.TheVariants.{Ordinary, Tally}
use Rattle.cal_base.specs.declared.ends.Cause.{Cause}
use Rattle.cal_base.specs.declared.ends.StepFault.{StepFault}
use Rattle.cal_base.specs.declared.ends.StepFault.TheVariants.{Trap, Conflict}
use Rattle.cal_base.specs.declared.step.Word.{Word}
use Rattle.cal_base.specs.Arithmetic.{fits_word}
use Rattle.cal_base.specs.Memory.{Memory, is_ordinary}
use Rattle.cal_base.specs.After.{is_outside}
use Rattle.step_merge.specs.Staged.{Staged, size_of, owner_in, value_in}
use Rattle.step_merge.specs.Laws.{lesser_pair}

-- ---- what a stage keeps

-- how many numbers are laid
abbrev pub laid_count : List Bool → ℕ
laid_count laid = count_by (λ b. b) laid

-- a word's value is no more than the sum of as many numbers of 64 bits as are laid
pub record IsBounded (stage : Staged) (a : ℕ) : Type 0 where
  pub high : value_in stage a ≤ℤ pos (2 ^ 63 * laid_count stage.laid)
  pub low : pos 0 ≤ℤ (value_in stage a +ℤ pos (2 ^ 63 * laid_count stage.laid))

-- a further number of 64 bits may be added to it
pub record HasRoom (stage : Staged) (a : ℕ) : Type 0 where
  pub high : (value_in stage a +ℤ pos (2 ^ 63)) ≤ℤ pos (2 ^ 63 * laid_count stage.laid)
  pub low : pos (2 ^ 63) ≤ℤ (value_in stage a +ℤ pos (2 ^ 63 * laid_count stage.laid))

-- what a stage holds fits together: an owner and a value for each word; an ordinary word's value is of 64 bits, and a sum is of no more numbers than are laid
pub record IsSound (stage : Staged) : Type 0 where
  pub words : length stage.kinds ≤ 262144
  pub numbers : size_of stage < 2 ^ 32
  pub owners : length stage.owners ≡ length stage.kinds
  pub values : length stage.values ≡ length stage.kinds
  pub candidate : ForSome stage.candidate (λ pair. (pair.0 < size_of stage) × (pair.1 < length stage.kinds))
  pub failed : ForSome stage.failed (λ failed. failed.0 < size_of stage)
  pub one : (a : ℕ) → IsTrue (is_ordinary stage.kinds a) → IsTrue (fits_word (value_in stage a))
  pub bounded : (a : ℕ) → IsBounded stage a

-- ---- laying

-- number k is laid
abbrev pub with_laid : Staged → ℕ → Staged
with_laid stage k = record stage { laid = slice_set stage.laid k true }

-- the candidate after number k wrote a word of this owner: the larger of the two, with the word, where it has an owner
abbrev pub candidate_with : Staged → ℕ → ℕ → Option (ℕ × ℕ)
candidate_with stage k a =
    if nat_lt (owner_in stage a) (size_of stage)
    then Some (lesser_pair stage.candidate (max k (owner_in stage a), a))
    else stage.candidate

-- number k wrote an ordinary word: the smaller of it and the owner is the owner, the larger a candidate
abbrev pub with_write : Staged → ℕ → ℕ → ℤ → Staged
with_write stage k a v = record stage {
  owners = if nat_lt k (owner_in stage a) then slice_set stage.owners a k else stage.owners;
  values = if nat_lt k (owner_in stage a) then slice_set stage.values a v else stage.values;
  candidate = candidate_with stage k a;
}

-- number k added to a tally word
abbrev pub with_sum : Staged → ℕ → ℕ → ℤ → Staged
with_sum stage k a v = record stage {
  owners = if nat_lt k (owner_in stage a) then slice_set stage.owners a k else stage.owners;
  values = slice_set stage.values a (value_in stage a +ℤ v);
}

-- the lesser of what failed, if something did, and number k
abbrev pub lesser_failed : Option (ℕ × Cause) → ℕ → Cause → ℕ × Cause
lesser_failed None k cause = (k, cause)
lesser_failed (Some failed) k cause = if nat_lt k failed.0 then (k, cause) else failed

-- number k failed
abbrev pub with_failed : Staged → ℕ → Cause → Staged
with_failed stage k cause = record stage { laid = slice_set stage.laid k true; failed = Some (lesser_failed stage.failed k cause) }

-- ---- installing

-- the lesser number of the candidate and of what failed, if there is one
abbrev pub least_in : Option (ℕ × ℕ) → Option (ℕ × Cause) → Option ℕ
least_in None None = None
least_in (Some pair) None = Some pair.0
least_in None (Some failed) = Some failed.0
least_in (Some pair) (Some failed) = Some (min pair.0 failed.0)

-- the fault of the candidate and of what failed: of the lesser of the two
abbrev pub fault_of_found : Option (ℕ × ℕ) → Option (ℕ × Cause) → (ℕ → ℕ) → Option StepFault
fault_of_found None None owner = None
fault_of_found (Some pair) None owner = Some (Conflict pair.0 pair.1 (owner pair.1))
fault_of_found None (Some failed) owner = Some (Trap failed.0 failed.1)
fault_of_found (Some pair) (Some failed) owner =
    Some (if nat_lt pair.0 failed.0 then Conflict pair.0 pair.1 (owner pair.1) else Trap failed.0 failed.1)

-- does a word have an entry?
abbrev pub has_owner : Staged → ℕ → Bool
has_owner stage a = nat_lt (owner_in stage a) (size_of stage)

-- what the entries for a word make of its value
abbrev pub entered : WordKind → Staged → ℕ → ℤ → ℤ
entered Ordinary stage a value = value_in stage a
entered Tally stage a value = value +ℤ value_in stage a

-- what is left in a word: its own value where it has no entry
abbrev pub left_by : Staged → WordKind → ℕ → ℤ → ℤ
left_by stage kind a value = if has_owner stage a then entered kind stage a value else value

-- the word with this left in it
abbrev pub left_word : (WordKind → ℕ → ℤ → ℤ) → ℕ → Word → Word
left_word left a word = record { kind = word.kind; value = left word.kind a word.value }

-- the memory with this left in its words
abbrev pub left_memory : (WordKind → ℕ → ℤ → ℤ) → Memory → Memory
left_memory left memory = map (λ place. left_word left place.0 place.1) (enumerate_from 0 memory)

-- is what is left in the word a total outside 64 bits?
abbrev pub is_outside_word : (WordKind → ℕ → ℤ → ℤ) → Memory → ℕ → Bool
is_outside_word left memory a = option_map_or (λ word. is_outside (left_word left a word)) (slice_get memory a) false
