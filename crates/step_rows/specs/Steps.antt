-- Steps for the rows: what each of their routines answers.
use Rattle.std.specs.Prelude.{ℕ, List, [], ◌∷◌, map, replicate, pos}
use Rattle.std.specs.FinMap.{empty, insert}
use Rattle.std.specs.List.{range_with_len}
use Rattle.std.specs.Ordering.{nat_cmp}
use Rattle.cal_base.specs.declared.ends.Cause.TheVariants.{Assertion}
use Rattle.cal_base.specs.declared.answer.Answer.{Answer}
use Rattle.cal_base.specs.declared.answer.Answer.TheVariants.{Update, Fault}
use Rattle.cal_base.specs.Pages.{first_memory}
use Rattle.cal_base.specs.Claims.{StepJob}
use Rattle.step_laws.specs.Rows.{ordinary, tally, one, greatest}

-- routine 0 fails and so wrote nothing, and routine 1 writes word 5
abbrev pub failed_writes_nothing : StepJob
failed_writes_nothing = record {
  number = 1;
  opening = replicate 6 (ordinary (pos 0));
  answers = Fault Assertion ∷ one 5 (pos 1) ∷ [];
}

-- two routines add up to a total outside 64 bits
abbrev pub total_outside : StepJob
total_outside = record { number = 1; opening = tally (pos 0) ∷ []; answers = one 0 (pos greatest) ∷ one 0 (pos 1) ∷ [] }

-- as many routines as a step may have; the number is not computed with, since lists of so many are long
unfoldable pub many : ℕ
many = 65536

-- each of n routines writes 1 to a word of its own
unfoldable pub each_its_own : ℕ → StepJob
each_its_own n = record { number = 1; opening = first_memory n [] []; answers = map (λ k. one k (pos 1)) (range_with_len 0 n) }

-- each of n routines adds 1 to one tally word
unfoldable pub all_to_one : ℕ → StepJob
all_to_one n = record { number = 1; opening = first_memory 1 (0 ∷ []) []; answers = map (λ k. one 0 (pos 1)) (range_with_len 0 n) }
