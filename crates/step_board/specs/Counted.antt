-- What the four books of a board say of its history.
use Rattle.std.specs.Prelude.{◌≡◌, ℕ, ◌+◌, ◌<◌, ◌≤◌, ◌⊎◌, Bool, false}
use Rattle.std.specs.List.{count_by}
use Rattle.cal_base.specs.declared.step.Verdict.TheVariants.{First, Again, Stale, Unasked, Full}
use Rattle.cal_base.specs.declared.step.Entry.{Entry}
use Rattle.cal_base.specs.declared.step.Entry.TheVariants.{Claim, Arrive}
use Rattle.cal_base.specs.History.{History, is_worker, claims_by, arrivals_by}
use Rattle.cal_base.specs.Claims.{StepJob, size_of, claim_bound, arrival_bound, IsComplete}
use Rattle.step_laws.specs.Caller.{NoCaller}

-- an arrival by a worker that is not stale
abbrev pub is_current : Entry → Bool
is_current (Claim who k) = false
is_current (Arrive who step k Stale) = false
is_current (Arrive who step k First) = is_worker who
is_current (Arrive who step k Again) = is_worker who
is_current (Arrive who step k Unasked) = is_worker who
is_current (Arrive who step k Full) = is_worker who

-- an arrival by a worker that is stale
abbrev pub is_late : Entry → Bool
is_late (Claim who k) = false
is_late (Arrive who step k Stale) = is_worker who
is_late (Arrive who step k First) = false
is_late (Arrive who step k Again) = false
is_late (Arrive who step k Unasked) = false
is_late (Arrive who step k Full) = false

-- how many arrivals by workers are not stale
unfoldable pub current_arrivals : History → ℕ
current_arrivals history = count_by is_current history

-- how many arrivals by workers are stale
unfoldable pub stale_arrivals : History → ℕ
stale_arrivals history = count_by is_late history

-- what workers entered is what was counted, but for arrivals past the bound; and where an end was counted, nothing is wanted, or the workers have no claim left
pub record IsCounted (job : StepJob) (history : History) (claims arrivals held ends : ℕ) : Type 0 where
  pub claims_are : claims_by is_worker history ≡ claims
  pub arrivals_are : arrivals + held ≤ arrival_bound (size_of job) → (stale_arrivals history ≡ held) × (current_arrivals history ≡ arrivals)
  pub both : arrivals_by is_worker history ≡ stale_arrivals history + current_arrivals history
  pub past_full : arrival_bound (size_of job) < arrivals + held → arrival_bound (size_of job) ≤ arrivals_by is_worker history
  pub ends_are : 0 < ends → IsComplete job history ⊎ (claim_bound (size_of job) ≤ claims_by is_worker history)
  pub no_caller : NoCaller history
