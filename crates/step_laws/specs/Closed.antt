-- The steps that were closed, in order.
use Rattle.std.specs.Prelude.{List, [], ◌∷◌, map}
use Rattle.cal_base.specs.History.{History}
use Rattle.cal_base.specs.Claims.{StepJob, IsLegal, IsComplete}

-- a step that was closed, with its whole history
pub record ClosedStep : Type 0 where
  pub job : StepJob
  pub history : History

-- the step's history is legal and complete
pub record IsWhole (step : ClosedStep) : Type 0 where
  pub legal : IsLegal step.job step.history
  pub complete : IsComplete step.job step.history

-- the jobs of closed steps
abbrev pub jobs_in : List ClosedStep → List StepJob
jobs_in closed = map (λ step. step.job) closed

-- a fact of each element
abbrev pub Each : {A : Type 0} → (A → Type 0) → List A → Type 0
Each P [] = Unit {0}
Each P (x ∷ xs) = P x × Each P xs
