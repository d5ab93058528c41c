-- What workers and their shares are after the work of a step.
use Rattle.std.specs.Prelude.{◌≡◌, ℕ, ◌+◌, ◌*◌, ◌<◌, ◌≤◌, false, List, sum_by, is_some, IfSome, if◌then◌else◌, ◌&&◌, not}
use Rattle.std.specs.List.{AllZip}
use Rattle.bytecode.specs.declared.module.Module.{Module}
use Rattle.cal_base.specs.declared.step.TheConstants.{CALLER}
use Rattle.cal_base.specs.declared.step.WorkerTally.{WorkerTally}
use Rattle.cal_base.specs.Pages.{Paged}
use Rattle.fault_script.specs.Rows.{IsTallyOf}
use Rattle.step_board.specs.Amounts.{Amounts}
use Rattle.worker_gate.specs.Working.{WorkerState, MayWork}

-- claims and arrivals rose by what the tally says since: a claim for each claim, and an arrival for each execution, one more for a repeated one, none for a lost or held one
pub record Counts (before after : WorkerTally) (shares shares' : Amounts) : Type 0 where
  pub claims : shares'.claims + before.claims ≡ shares.claims + after.claims
  pub arrivals : shares'.arrivals + (after.lost + after.held) + (before.executed + before.repeated) ≡ shares.arrivals +
      (after.executed + after.repeated) + (before.lost + before.held)
  pub few : shares'.arrivals + 2 * before.claims ≤ shares.arrivals + 2 * after.claims
  pub parts : shares'.parts ≡ shares.parts

-- 1 where the worker goes on and holds an answer back, which arrives in its next step, else 0
unfoldable pub late : WorkerState → ℕ
late worker = if is_some worker.holds && not worker.tally.stopped then 1 else 0

-- 1 where the worker goes on, which was told at last that there is no more work, else 0
unfoldable pub ends : WorkerState → ℕ
ends worker = if worker.tally.stopped then 0 else 1

-- the worker may work in the step: it is no caller, what it holds back is of an older step, and it has room for the image's words
pub record IsReady (step : ℕ) (image : Paged) (m : Module) (worker : WorkerState) : Type 0 where
  pub number : worker.tally.who < CALLER
  pub holds : IfSome worker.holds (λ s. s < step)
  pub may : MayWork worker image m

-- the worker is who it was, its tally is its row's, what it holds back is of this step or an older one, it keeps as many pages at most, and it may still work on the image
pub record IsLeft (step : ℕ) (image : Paged) (m : Module) (before after : WorkerState) : Type 0 where
  pub who : after.tally.who ≡ before.tally.who
  pub row : after.row ≡ before.row
  pub follows : IsTallyOf after.row after.tally
  pub holds : IfSome after.holds (λ s. s ≤ step)
  pub size : after.kept.size ≡ before.kept.size
  pub may : MayWork after image m
  -- who goes on behind the step went on before it
  pub goes_on : after.tally.stopped ≡ false → before.tally.stopped ≡ false

-- a count of the workers' tallies, added up
abbrev pub total : (WorkerTally → ℕ) → List WorkerState → ℕ
total count workers = sum_by (λ worker. count worker.tally) workers

-- each amount rose by what all workers did together, and each worker is left as its work leaves it
pub record Worked (step : ℕ) (image : Paged) (m : Module) (before after : List WorkerState) (shares shares' : Amounts) : Type 0 where
  pub claims : shares'.claims + total (λ t. t.claims) before ≡ shares.claims + total (λ t. t.claims) after
  pub arrivals :
      shares'.arrivals + (total (λ t. t.lost) after + total (λ t. t.held) after) +
      (total (λ t. t.executed) before + total (λ t. t.repeated) before)
      ≡ shares.arrivals + (total (λ t. t.executed) after + total (λ t. t.repeated) after) +
      (total (λ t. t.lost) before + total (λ t. t.held) before)
  pub few : shares'.arrivals + 2 * total (λ t. t.claims) before ≤ shares.arrivals + 2 * total (λ t. t.claims) after
  pub held : shares'.held ≡ shares.held + sum_by late before
  pub ends : shares'.ends ≡ shares.ends + sum_by ends after
  pub parts : shares'.parts ≡ shares.parts
  pub each : AllZip (IsLeft step image m) before after
