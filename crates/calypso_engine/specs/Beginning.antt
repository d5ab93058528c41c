-- A team that begins a run.
use Rattle.std.specs.Prelude.{◌≡◌, ℕ, List, map}
use Rattle.std.specs.List.{AllByRecursion, range_with_len}
use Rattle.bytecode.specs.declared.module.Module.{Module}
use Rattle.cal_base.specs.declared.step.TheConstants.{CALLER}
use Rattle.cal_base.specs.Pages.{Paged}
use Rattle.fault_script.specs.Rows.{Row}
use Rattle.worker_gate.specs.Working.{WorkerState, first_tally}
use Rattle.calypso_engine.specs.Teams.{IsMember, IsTeam}
use Rattle.calypso_engine.specs.declared.team.Team.{Team}

-- the worker of this number has done nothing and may work
pub record IsBegun (rows : List Row) (image : Paged) (m : Module) (who : ℕ) (worker : WorkerState) : Type 0 where
  pub member : IsMember rows 0 image m worker
  pub tally : worker.tally ≡ first_tally who

-- so have the first workers, so many
pub record AreBegun (rows : List Row) (count : ℕ) (image : Paged) (m : Module) (workers : List WorkerState) : Type 0 where
  pub members : AllByRecursion (IsMember rows 0 image m) workers
  pub tallies : map (λ worker. worker.tally) workers ≡ map first_tally (range_with_len 0 count)

-- the team may work, and nothing was done
pub record IsFresh (rows : List Row) (count : ℕ) (image : Paged) (m : Module) (team : Team) : Type 0 where
  pub workers : AreBegun rows count image m team.workers.items
  pub working : IsTeam rows count 0 image m team
  pub caller : team.caller.tally ≡ first_tally CALLER
