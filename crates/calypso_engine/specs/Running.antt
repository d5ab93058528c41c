-- Where a run stands, and what each event of main leaves.
use Rattle.std.specs.Prelude.{◌≡◌, ℕ, ◌+◌, ◌^◌, ◌<◌, ◌≤◌, List, sum_by, count_by, Option, Some, None, Result, Ok, Err}
use Rattle.std.specs.Io.KnownBytes.{Appends}
use Rattle.cal_base.specs.declared.ends.RunEnd.{RunEnd}
use Rattle.cal_base.specs.History.{claims_by, is_worker}
use Rattle.cal_base.specs.Claims.{StepJob}
use Rattle.cal_base.specs.Contents.{AppendsPrefix, Told}
use Rattle.cal_base.specs.Main.{Main, Opens, Event, meaning_of, steps_of, IsNumbered}
use Rattle.cal_base.specs.Text.{text_of}
use Rattle.bytecode.specs.declared.module.Module.{Module}
use Rattle.machine_meaning.specs.Meaning.{main_of}
use Rattle.routine_vm.specs.Held.{main_state, MayGoOn}
use Rattle.step_laws.specs.Closed.{ClosedStep, Each}
use Rattle.engine_laws.specs.Steps.{TakesUnits, step_job}
use Rattle.engine_laws.specs.Ran.{RunsTo, RunsThrough, callers_claims}
use Rattle.run_report.specs.Logs.{log_text}
use Rattle.step_board.specs.Counted.{is_current}
use Rattle.worker_gate.specs.Worked.{ends, total}
use Rattle.calypso_engine.specs.Asked.{log_of, Outside}
use Rattle.calypso_engine.specs.Kept.{HasRoom}
use Rattle.calypso_engine.specs.Logs.{Logs, LogsFrontOf}
use Rattle.calypso_engine.specs.Teams.{ClaimedMore, IsTeam}
use Rattle.calypso_engine.specs.Traces.{traced, trace_of, WaitsForWorkers}
use Rattle.calypso_engine.specs.declared.team.Team.{Team}
use Rattle.calypso_engine.specs.declared.event.Standing.{Standing}
use Rattle.calypso_engine.specs.declared.error.RunError.{RunError}
use Rattle.calypso_engine.specs.declared.error.RunError.TheVariants.{NoMemory}
use Rattle.calypso_engine.specs.declared.options.RunOptions.{RunOptions}

-- what is left of main, in a run with this fuel
abbrev pub rest_of : Module → ℕ → Standing → Main
rest_of m fuel s = main_of m fuel s.steps (main_state m s.machine s.image.memory)

-- the step that main opens where the run stands, of the blocks from the first one on
abbrev pub job_here : Module → (fuel first : ℕ) → Standing → StepJob
job_here m fuel first s = step_job m fuel (s.steps + 1) s.image.memory first s.machine.widths

-- what is left of main where it opens this step
abbrev pub opening_here : Module → (fuel first : ℕ) → Standing → Main
opening_here m fuel first s = Opens (job_here m fuel first s) (λ later. main_of m fuel (s.steps + 1) (main_state m s.machine later))

-- main may go on; the team may work; steps are counted, and there is a unit of the run's fuel for each that is to come
pub record IsReady (m : Module) (options : RunOptions) (s : Standing) (team : Team) : Type 0 where
  pub may : MayGoOn m s.machine
  pub working : IsTeam options.script.now options.workers s.steps s.image m team
  pub room : HasRoom options.steps s.image.memory s.kept
  pub numbered : IsNumbered s.steps (rest_of m options.fuel s)
  pub left : ℕ
  pub units : TakesUnits left (rest_of m options.fuel s)
  pub counted : s.steps + left ≡ options.fuel
  pub limit : options.fuel < 2 ^ 32
  pub few : options.workers ≤ 32

-- some events were shown and some steps closed: out got the text of the events, and the log the histories of the steps
pub record Tells (options : RunOptions) (shown : List Event) (closed : List ClosedStep) (was now : Outside) : Type 0 where
  pub written : Appends was.out now.out (text_of options.steps shown)
  pub logged : Told was.files now.files (Logs (log_of options) (log_text (trace_of closed)))

-- in some closed steps the team did what its tallies say; and a worker that goes on behind them found no more work in each, so that the caller waited
pub record Counted (closed : List ClosedStep) (old new : Team) : Type 0 where
  pub claims : sum_by (λ step. claims_by is_worker step.history) closed + total (λ t. t.claims) old.workers.items ≡ total (λ t. t.claims)
      new.workers.items
  pub arrivals :
      sum_by (λ step. count_by is_current step.history) closed +
      (total (λ t. t.lost) new.workers.items + total (λ t. t.held) new.workers.items)
      + (total (λ t. t.executed) old.workers.items + total (λ t. t.repeated) old.workers.items)
      ≡ (total (λ t. t.executed) new.workers.items + total (λ t. t.repeated) new.workers.items) +
      (total (λ t. t.lost) old.workers.items + total (λ t. t.held) old.workers.items)
  pub caller : ClaimedMore old.caller.tally (callers_claims closed) new.caller.tally
  pub goes_on : sum_by ends new.workers.items ≤ sum_by ends old.workers.items
  pub waits : 0 < sum_by ends new.workers.items → Each (λ step. WaitsForWorkers (traced step)) closed

-- main went on: it showed some events and closed some steps, which were told and counted
pub record WentOn (m : Module) (options : RunOptions) (main : Main) (after : Standing) (old new : Team) (was now : Outside) : Type 0 where
  pub shown : List Event
  pub closed : List ClosedStep
  pub runs : RunsTo main (rest_of m options.fuel after) shown closed
  pub told : Tells options shown closed was now
  pub counted : Counted closed old new

-- main came to this end
pub record CameTo (options : RunOptions) (main : Main) (ending : RunEnd) (old new : Team) (was now : Outside) : Type 0 where
  pub shown : List Event
  pub closed : List ClosedStep
  pub runs : RunsThrough main shown closed ending
  pub told : Tells options shown closed was now
  pub counted : Counted closed old new

-- the run stopped between two events: what main showed so far was told, with the whole history of each step that it closed
pub record StoppedBetween (options : RunOptions) (main : Main) (was now : Outside) : Type 0 where
  pub rest : Main
  pub shown : List Event
  pub closed : List ClosedStep
  pub runs : RunsTo main rest shown closed
  pub told : Tells options shown closed was now

-- the run gave up: out got a front of main's text, and the log one of that of a trace of its steps; for want of memory it stops between events
pub record GaveUp (options : RunOptions) (main : Main) (error : RunError) (was now : Outside) : Type 0 where
  pub front : AppendsPrefix was.out now.out (text_of options.steps (meaning_of main).events)
  pub logged : LogsFrontOf (steps_of main) (log_of options) was.files now.files
  pub between : error ≡ NoMemory → StoppedBetween options main was now

-- main went on or came to its end, or the run gave up
abbrev pub Goes : Module → RunOptions → Main → Standing → Team → Team → Outside → Outside → Result (Option RunEnd) RunError → Type 0
Goes m options main after old new was now (Ok None) = WentOn m options main after old new was now
Goes m options main after old new was now (Ok (Some ending)) = CameTo options main ending old new was now
Goes m options main after old new was now (Err error) = GaveUp options main error was now

-- main came to its end, or the run gave up
abbrev pub Comes : RunOptions → Main → Team → Team → Outside → Outside → Result RunEnd RunError → Type 0
Comes options main old new was now (Ok ending) = CameTo options main ending old new was now
Comes options main old new was now (Err error) = GaveUp options main error was now
