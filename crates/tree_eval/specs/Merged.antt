-- How the answers of a step are laid on its stage.
use Rattle.std.specs.Prelude.{◌≡◌, ℕ, ◌<◌, List, length, Option, None, All, slice_set}
use Rattle.std.specs.List.Sorted.{IsStrictlyIncreasing}
use Rattle.cal_base.specs.Memory.{Memory, kind_at}
use Rattle.cal_base.specs.Pages.{first_kind}
use Rattle.cal_base.specs.declared.answer.Answer.{Answer}
use Rattle.cal_base.specs.Answers.{Answers, answer_of}
use Rattle.step_merge.specs.Staged.{Staged, StandsFor}

-- these are the addresses of the memory's tally words, in ascending order
pub record AreTallies (tallies : List ℕ) (memory : Memory) : Type 0 where
  pub within : All (λ a. a < length memory) tallies
  pub ascend : IsStrictlyIncreasing tallies
  pub kinds : (a : ℕ) → a < length memory → first_kind tallies a ≡ kind_at memory a

-- whatever answers the stage stood for, of which number k had none: it now stands for these and what number k answered
abbrev pub LaysOne : Staged → Staged → ℕ → Option Answer → Type 0
LaysOne before later k answer =
    (answers : Answers) → answer_of answers k ≡ None → StandsFor before answers → StandsFor later (slice_set answers k answer)
