-- Steps of the code: lines that wait to be written together.
use Rattle.std.specs.Prelude.{◌≡◌, ◌≤◌, ◌+◌, ℕ, ℤ, if◌then◌else◌, List, [], ◌++◌, codes}
use Rattle.std.specs.Ordering.{int_eq}
use Rattle.std.specs.Fmt.{decimal, signed_decimal}
use Rattle.arrayvec.specs.ArrayString.{ArrayString, array_string_len}
use Rattle.cal_base.specs.Text.{line}

-- these bytes were added behind the others, and they are at most so many
pub record Adds (most : ℕ) (old new : ArrayString) (bytes : List ℕ) : Type 0 where
  pub added : new.bytes ≡ old.bytes ++ bytes
  pub few : array_string_len new ≤ array_string_len old + most

-- a front of what waited went on its way, and the rest still waits
pub record Moves (Took : List ℕ → Type 0) (old new : List ℕ) : Type 0 where
  pub front : List ℕ
  pub whole : old ≡ front ++ new
  pub took : Took front

-- the line of a word, where its value changed
abbrev pub change_line : (at : ℕ) (before later : ℤ) → List ℕ
change_line at before later = if int_eq before later then [] else line (codes "word " ++ decimal at ++ codes " = " ++ signed_decimal later)
