-- What the caller does in a step, after the workers.
use Rattle.std.specs.Prelude.{◌≡◌, ℕ, zero, suc, ◌≤◌, [], ◌∷◌, ◌++◌}
use Rattle.cal_base.specs.declared.step.TheConstants.{CALLER}
use Rattle.cal_base.specs.declared.step.Verdict.TheVariants.{First}
use Rattle.cal_base.specs.declared.step.Claimed.{Claimed}
use Rattle.cal_base.specs.declared.step.Claimed.TheVariants.{Work, AllDone, Spent}
use Rattle.cal_base.specs.declared.step.Entry.TheVariants.{Claim, Arrive}
use Rattle.cal_base.specs.History.{History, claims_by, arrivals_by, is_caller}
use Rattle.cal_base.specs.Claims.{StepJob, size_of, claimed, IsLegal, IsComplete}

-- the caller claims number k and delivers its answer
abbrev pub pair_of : StepJob → ℕ → History
pair_of job k = Claim CALLER k ∷ Arrive CALLER job.number k First ∷ []

-- the caller's claim got this answer: work gives a pair, and then more; else the history stays
abbrev pub pairs_by : Claimed → StepJob → History → (History → History) → History
pairs_by (Work k) job history more = more (history ++ pair_of job k)
pairs_by AllDone job history more = history
pairs_by Spent job history more = history

-- the caller adds pairs, as many as given at most, until nothing is wanted
abbrev pub with_pairs : ℕ → StepJob → History → History
with_pairs zero job history = history
with_pairs (suc most) job history = pairs_by (claimed job history CALLER) job history (with_pairs most job)

-- the caller completes a step: one pair a routine is enough
abbrev pub completed : StepJob → History → History
completed job history = with_pairs (size_of job) job history

-- the caller has no entry
pub record NoCaller (history : History) : Type 0 where
  pub claims : claims_by is_caller history ≡ 0
  pub arrivals : arrivals_by is_caller history ≡ 0

-- a legal history in which the caller has no entry yet is completed by the caller, and stays legal
abbrev pub CallerCompletes : Type 0
CallerCompletes =
    (job : StepJob) (history : History) → IsLegal job history → NoCaller history → size_of job ≤ 65536
    → IsLegal job (completed job history) × IsComplete job (completed job history)
