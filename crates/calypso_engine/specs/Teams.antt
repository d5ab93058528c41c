-- The workers and the caller of a run, between its steps, and what they did in a step.
use Rattle.std.specs.Prelude.{◌≡◌, ℕ, ◌+◌, ◌*◌, ◌<◌, ◌≤◌, ◌⊎◌, List, map, sum_by, count_by, IfSome}
use Rattle.std.specs.List.{AllByRecursion, AllZip, range_with_len}
use Rattle.bytecode.specs.declared.module.Module.{Module}
use Rattle.cal_base.specs.declared.step.TheConstants.{CALLER}
use Rattle.cal_base.specs.declared.step.WorkerTally.{WorkerTally}
use Rattle.cal_base.specs.History.{History, claims_by, is_worker}
use Rattle.cal_base.specs.Claims.{StepJob, size_of, claim_bound, IsLegal, IsComplete}
use Rattle.cal_base.specs.Pages.{Paged}
use Rattle.fault_script.specs.Rows.{Row, row_of, IsTallyOf}
use Rattle.step_board.specs.Counted.{is_current}
use Rattle.step_laws.specs.Caller.{NoCaller}
use Rattle.worker_gate.specs.Working.{WorkerState, MayWork, with_claims}
use Rattle.worker_gate.specs.Worked.{IsLeft, ends, total}
use Rattle.calypso_engine.specs.declared.team.Team.{Team}

-- the tally has so many claims more, each of which was executed; pages may have been fetched
abbrev pub ClaimedMore : WorkerTally → ℕ → WorkerTally → Type 0
ClaimedMore old claims new = new ≡ record (with_claims old claims) { pages = new.pages }

-- a worker may work in the next step: it goes by its row of the script, and what it holds back is of a step that is completed
pub record IsMember (rows : List Row) (steps : ℕ) (image : Paged) (m : Module) (worker : WorkerState) : Type 0 where
  pub number : worker.tally.who < CALLER
  pub row : worker.row ≡ row_of rows worker.tally.who
  pub follows : IsTallyOf worker.row worker.tally
  pub holds : IfSome worker.holds (λ step. step ≤ steps)
  pub may : MayWork worker image m

-- so may all workers of the team, which are so many, in order, and the caller
pub record IsTeam (rows : List Row) (workers steps : ℕ) (image : Paged) (m : Module) (team : Team) : Type 0 where
  pub members : AllByRecursion (IsMember rows steps image m) team.workers.items
  pub numbers : map (λ worker. worker.tally.who) team.workers.items ≡ range_with_len 0 workers
  pub caller : team.caller.tally.who ≡ CALLER
  pub may : MayWork team.caller image m
  pub claims : team.caller.tally.claims ≤ 65536 * steps

-- the tallies of the team are those of so many workers, in order, each by its row of the script
pub record HasTallies (rows : List Row) (workers : ℕ) (team : Team) : Type 0 where
  pub numbers : map (λ worker. worker.tally.who) team.workers.items ≡ range_with_len 0 workers
  pub follow : AllByRecursion (λ worker. IsTallyOf (row_of rows worker.tally.who) worker.tally) team.workers.items

-- when all workers are back from a step: its history is that of the workers alone, who did in it what their tallies say, and where one goes on there was no more work for workers
pub record Gathered (job : StepJob) (image : Paged) (m : Module) (history : History) (before after : List WorkerState) : Type 0 where
  pub legal : IsLegal job history
  pub alone : NoCaller history
  pub claims : claims_by is_worker history + total (λ t. t.claims) before ≡ total (λ t. t.claims) after
  pub arrivals :
      count_by is_current history + (total (λ t. t.lost) after + total (λ t. t.held) after) +
      (total (λ t. t.executed) before + total (λ t. t.repeated) before)
      ≡ (total (λ t. t.executed) after + total (λ t. t.repeated) after) + (total (λ t. t.lost) before + total (λ t. t.held) before)
  pub waits : 0 < sum_by ends after → IsComplete job history ⊎ (claims_by is_worker history ≡ claim_bound (size_of job))
  pub each : AllZip (IsLeft job.number image m) before after
