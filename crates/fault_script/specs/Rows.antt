-- What a script says of a worker, and the tally that follows from it.
use Rattle.std.specs.Prelude.{◌≡◌, ℕ, ◌-◌, ◌<◌, ◌≤◌, Bool, true, false, ◌||◌, ◌==◌, nat_le, if◌then◌else◌, List, [], ◌∷◌, length, count_by}
use Rattle.std.specs.Prelude.{find, Option, None, IfSome}
use Rattle.std.specs.List.{list_any}
use Rattle.std.specs.Option.{option_map_or, unwrap_or}
use Rattle.cal_base.specs.declared.step.WorkerTally.{WorkerTally}
use Rattle.cal_base.specs.Causes.{LAST}

-- what a script says of a worker: its number, at which claim it stops, and which executions it loses, repeats and holds back, counted from 1
pub record Row : Type 0 where
  pub number : ℕ
  pub stop_at : Option ℕ
  pub lose : List ℕ
  pub repeat : List ℕ
  pub hold : List ℕ

-- a row of these parts
abbrev pub row_from : (number : ℕ) → (stop_at : Option ℕ) → (lose repeat hold : List ℕ) → Row
row_from number stop_at lose repeat hold = record { number = number; stop_at = stop_at; lose = lose; repeat = repeat; hold = hold }

-- a worker of which nothing is said only delivers
abbrev pub plain_row : ℕ → Row
plain_row who = row_from who None [] [] []

-- what the script says of this worker
abbrev pub row_of : List Row → ℕ → Row
row_of rows who = unwrap_or (find (λ row. row.number == who) rows) (plain_row who)

-- does the list have this number?
abbrev pub has : List ℕ → ℕ → Bool
has numbers i = list_any (λ n. n == i) numbers

-- each number is above the one before it, and the first above this one
abbrev pub AscendAbove : ℕ → List ℕ → Type 0
AscendAbove low [] = Unit {0}
AscendAbove low (n ∷ numbers) = (low < n) × AscendAbove n numbers

-- no number is in both lists
abbrev pub AreApart : List ℕ → List ℕ → Type 0
AreApart some others = (i : ℕ) → has some i ≡ true → has others i ≡ false

-- a list of executions: at most 1,024, in ascending order, counted from 1
pub record IsList (numbers : List ℕ) : Type 0 where
  pub ascending : AscendAbove 0 numbers
  pub short : length numbers ≤ 1024

-- what a script may say of a worker, or of the caller, whose number is 32
pub record IsRow (row : Row) : Type 0 where
  pub number : row.number ≤ 32
  pub stop_at : IfSome row.stop_at (λ at. 1 ≤ at)
  pub lose : IsList row.lose
  pub repeat : IsList row.repeat
  pub hold : IsList row.hold
  pub lose_repeat : AreApart row.lose row.repeat
  pub lose_hold : AreApart row.lose row.hold
  pub repeat_hold : AreApart row.repeat row.hold

-- the numbers of a script's rows: those of workers, 0 to 31, and all different
abbrev pub AreNumbers : List ℕ → Type 0
AreNumbers [] = Unit {0}
AreNumbers (n ∷ numbers) = (n < 32) × (has numbers n ≡ false) × AreNumbers numbers

-- has the worker stopped, after so many claims?
abbrev pub has_stopped : Row → ℕ → Bool
has_stopped row claims = option_map_or (λ at. nat_le at claims) row.stop_at false || claims == LAST

-- how many of these are among the first executions
abbrev pub among_first : ℕ → List ℕ → ℕ
among_first executed numbers = count_by (λ i. nat_le i executed) numbers

-- the tally is the row's: what follows from the number of claims
pub record IsTallyOf (row : Row) (tally : WorkerTally) : Type 0 where
  pub stopped : tally.stopped ≡ has_stopped row tally.claims
  pub executed : tally.executed ≡ tally.claims - (if has_stopped row tally.claims then 1 else 0)
  pub lost : tally.lost ≡ among_first tally.executed row.lose
  pub repeated : tally.repeated ≡ among_first tally.executed row.repeat
  pub held : tally.held ≡ among_first tally.executed row.hold
