-- What becomes of a delivery, by the table and the stage of its step.
use Rattle.std.specs.Prelude.{◌≡◌, ℕ, Option, Some, None, min, true, ◌==◌, nat_lt, if◌then◌else◌, is_some, length, slice_set}
use Rattle.cal_base.specs.declared.step.Verdict.{Verdict}
use Rattle.cal_base.specs.declared.step.Verdict.TheVariants.{First, Again, Stale, Unasked, Full}
use Rattle.cal_base.specs.declared.answer.Answer.{Answer}
use Rattle.cal_base.specs.declared.answer.Answer.TheVariants.{Update, Fault}
use Rattle.cal_base.specs.Updates.{Written}
use Rattle.cal_base.specs.Answers.{Answers, answer_of}
use Rattle.cal_base.specs.After.{least_faulty}
use Rattle.cal_base.specs.Claims.{is_full}
use Rattle.progress_table.specs.Progress.{Progress, claims_in, is_done_in}
use Rattle.step_merge.specs.Staged.{Staged, StandsFor, LaysAt, IsLeastFault, size_of}
use Rattle.ties_commit.specs.declared.arrival.Delivery.{Delivery}
use Rattle.ties_commit.specs.declared.arrival.Delivery.TheVariants as delivery

-- the answer that is delivered
abbrev pub answer_in : {U : Type 0} → (U → Written) → Delivery U → Answer
answer_in update (delivery.Update words) = Update (update words.now)
answer_in update (delivery.Fault cause) = Fault cause

-- table and stage agree on these answers: they are of one size, the stage stands for the answers, who is done has an answer and nobody else has, and the bound is the least faulty number, or the size
pub record Agree (table : Progress) (stage : Staged) (answers : Answers) : Type 0 where
  pub size : size_of stage ≡ length table.claims
  pub flags : length table.done ≡ length table.claims
  pub stands : StandsFor stage answers
  pub done : (k : ℕ) → is_done_in table k ≡ is_some (answer_of answers k)
  pub bound : table.bound ≡ least_faulty stage.kinds answers

-- table and stage agree on some answers
abbrev pub DoAgree : Progress → Staged → Type 0
DoAgree table stage = (answers : Answers) × Agree table stage answers

-- the verdict on a delivery that never counts, whatever its number is: it is full, or of an older step than the open one
abbrev pub judged : (who worker_arrivals n step now : ℕ) → Option Verdict
judged who worker_arrivals n step now =
    if is_full who worker_arrivals n then Some Full
    else (if nat_lt step now then Some Stale else None)

-- the verdict on a delivery of number k of the open step that is not full
abbrev pub current_verdict : Progress → ℕ → Verdict
current_verdict table k = if claims_in table k == 0 then Unasked else (if is_done_in table k then Again else First)

-- the verdict on a delivery of number k of a step, where another step may be open now: the first of these that fits
abbrev pub verdict_in : Progress → (who worker_arrivals step now k : ℕ) → Verdict
verdict_in table who worker_arrivals step now k =
    if is_full who worker_arrivals (length table.claims) then Full
    else (if nat_lt step now then Stale
    else current_verdict table k)

-- number k is done from now on, with this answer
pub record LaysFirst (table : Progress) (stage : Staged) (k : ℕ) (answer : Answer) (later_table : Progress) (later_stage : Staged) : Type 0
  where
    pub claims : later_table.claims ≡ table.claims
    pub done : later_table.done ≡ slice_set table.done k true
    pub lays : LaysAt stage later_stage k answer

-- table and stage stay
abbrev pub AreSame : Progress → Staged → Progress → Staged → Type 0
AreSame table stage later_table later_stage = (later_table ≡ table) × (later_stage ≡ stage)

-- the first delivery alone changes table and stage
abbrev pub Commits : Verdict → Progress → Staged → ℕ → Answer → Progress → Staged → Type 0
Commits First table stage k answer later_table later_stage = LaysFirst table stage k answer later_table later_stage
Commits Again table stage k answer later_table later_stage = AreSame table stage later_table later_stage
Commits Stale table stage k answer later_table later_stage = AreSame table stage later_table later_stage
Commits Unasked table stage k answer later_table later_stage = AreSame table stage later_table later_stage
Commits Full table stage k answer later_table later_stage = AreSame table stage later_table later_stage

-- the answers after a delivery got this verdict: the first one is among them
abbrev pub answers_after : Verdict → Answers → ℕ → Answer → Answers
answers_after First answers k answer = slice_set answers k (Some answer)
answers_after Again answers k answer = answers
answers_after Stale answers k answer = answers
answers_after Unasked answers k answer = answers
answers_after Full answers k answer = answers

-- whatever answers table and stage agreed on, they agree on these with the delivered one
abbrev pub StillAgree : Verdict → Progress → Staged → ℕ → Answer → Progress → Staged → Type 0
StillAgree verdict table stage k answer later_table later_stage =
    (answers : Answers) → Agree table stage answers → Agree later_table later_stage (answers_after verdict answers k answer)

-- the bound after a cut at a number, if there is one
abbrev pub cut_to : ℕ → Option ℕ → ℕ
cut_to bound None = bound
cut_to bound (Some k) = min bound k

-- the bound is cut at the stage's least faulty number, if there is one
abbrev pub CutsAtLeast : Staged → ℕ → ℕ → Type 0
CutsAtLeast stage before later = (found : Option ℕ) × IsLeastFault stage found × (later ≡ cut_to before found)
