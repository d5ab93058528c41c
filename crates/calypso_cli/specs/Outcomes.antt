-- What a command comes to where no call of the outside fails and memory is there: loads, one after another, then a file that it creates, then its work.
use Rattle.std.specs.Prelude.{◌≡◌, ◌≤◌, ◌<◌, ℕ, Option, None, Some, List, [], ◌∷◌, length}
use Rattle.cal_base.specs.Contents.{Contents}
use Rattle.calypso_cli.specs.Endings.{Ending, cannot_load, cannot_write, too_long}

-- what is seen of the outside before a call
pub record Sight : Type 0 where
  pub files : Contents

-- a file that a command reaches: one that it loads, or one that it creates
pub data Reach : Type 0 where
  loads : (name : List ℕ) → Reach
  creates : (name : List ℕ) → Reach

-- how a call ends that cannot use the file there
abbrev pub cannot : Reach → Ending
cannot (loads name) = cannot_load name
cannot (creates name) = cannot_write name

-- what a command comes to: how it ends, what out gets, and the files that it reaches up to its end, in order
pub record Outcome : Type 0 where
  pub ending : Ending
  pub text : List ℕ
  pub reached : List Reach

-- what a command's work comes to: how it ends, and what out gets
pub record Work : Type 0 where
  pub ending : Ending
  pub text : List ℕ

-- the work, which reaches no file more
abbrev pub finished : Work → Outcome
finished work = record { ending = work.ending; text = work.text; reached = [] }

-- the command ends at this file that it loads: out gets nothing
abbrev pub stopped : List ℕ → Ending → Outcome
stopped file ending = record { ending = ending; text = []; reached = loads file ∷ [] }

-- the same behind one more file
abbrev pub reaching : Reach → Outcome → Outcome
reaching reach outcome = record outcome { reached = reach ∷ outcome.reached }

-- What a command comes to that loads a file of at most so many bytes, by what the file holds: the bytes are read as something,
-- with which it goes on, or they are turned away with this ending.
pub data Loads (file : List ℕ) (limit : ℕ) {X : Type 0} (Reads : List ℕ → X → Type 0) (TurnsAway : List ℕ → Ending → Type 0)
    (Next : X → Outcome → Type 0) : Option (List ℕ) → Outcome → Type 0 where
  -- there is no such file
  missing : Loads file limit Reads TurnsAway Next None (stopped file (cannot_load file))
  -- it is longer than its limit
  long : (bytes : List ℕ) → limit < length bytes → Loads file limit Reads TurnsAway Next (Some bytes) (stopped file (too_long file))
  -- its bytes are turned away
  turned : (bytes : List ℕ) (ending : Ending) → length bytes ≤ limit → TurnsAway bytes ending
      → Loads file limit Reads TurnsAway Next (Some bytes) (stopped file ending)
  -- they are read, and the command goes on
  loaded : (bytes : List ℕ) (x : X) (outcome : Outcome) → length bytes ≤ limit → Reads bytes x → Next x outcome
      → Loads file limit Reads TurnsAway Next (Some bytes) (reaching (loads file) outcome)

-- what a command comes to that creates a file, where one is named, and goes on
abbrev pub Creates : Option (List ℕ) → (Outcome → Type 0) → Outcome → Type 0
Creates None Next outcome = Next outcome
Creates (Some file) Next outcome = (later : Outcome) × Next later × (outcome ≡ reaching (creates file) later)

-- what a command comes to that does this work
abbrev pub Does : Work → Outcome → Type 0
Does work outcome = outcome ≡ finished work
