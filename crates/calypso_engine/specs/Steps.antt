-- What is left of a step that was closed.
use Rattle.std.specs.Prelude.{◌≡◌, ℕ, [], ◌∷◌}
use Rattle.cal_base.specs.Memory.{Memory}
use Rattle.cal_base.specs.Claims.{StepJob, size_of, meant}
use Rattle.step_laws.specs.Closed.{IsWhole}
use Rattle.step_core.specs.Calls.{IsEnd}
use Rattle.step_core.specs.declared.state.Closed.{Closed}
use Rattle.calypso_engine.specs.Running.{Counted}
use Rattle.calypso_engine.specs.declared.team.Team.{Team}

-- the step of n routines was closed, by a legal and complete history in which the team did what its tallies say, with the memory that it leaves, or with its fault
pub record WasClosed (job : StepJob) (n : ℕ) (old new : Team) (memory : Memory) (closed : Closed) : Type 0 where
  pub whole : IsWhole (record { job = job; history = closed.history.items })
  pub left : IsEnd (meant job) memory closed.result
  pub counted : Counted (record { job = job; history = closed.history.items } ∷ []) old new
  pub size : n ≡ size_of job
