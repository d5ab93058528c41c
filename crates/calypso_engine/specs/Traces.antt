-- What a log and a report say of a run, and how they agree.
use Rattle.std.specs.Prelude.{◌≡◌, ℕ, ◌+◌, ◌<◌, ◌≤◌, Bool, false, List, [], ◌∷◌, ◌++◌, map, sum_by, count_by}
use Rattle.std.specs.List.{AllByRecursion, Any, range_with_len}
use Rattle.cal_base.specs.declared.step.Entry.{Entry}
use Rattle.cal_base.specs.declared.step.Entry.TheVariants.{Claim, Arrive}
use Rattle.cal_base.specs.declared.step.WorkerTally.{WorkerTally}
use Rattle.cal_base.specs.declared.step.TheConstants.{CALLER}
use Rattle.cal_base.specs.History.{is_worker, is_caller, is_first, claims_by, arrivals_by}
use Rattle.cal_base.specs.Claims.{StepJob, size_of, claim_bound, IsLegal, IsComplete}
use Rattle.step_laws.specs.Closed.{ClosedStep}
use Rattle.fault_script.specs.Rows.{Row, row_of, IsTallyOf}
use Rattle.step_board.specs.Counted.{is_current}
use Rattle.run_report.specs.Logs.{TracedStep, Trace}

-- ---- traces

-- the step is this job's, and its history is legal and complete
pub record IsStepOf (job : StepJob) (step : TracedStep) : Type 0 where
  pub number : step.number ≡ job.number
  pub size : step.size ≡ size_of job
  pub legal : IsLegal job step.history
  pub complete : IsComplete job step.history

-- one step for each of the jobs, in order
abbrev pub IsTraceOf : List StepJob → Trace → Type 0
IsTraceOf [] [] = Unit {0}
IsTraceOf [] (step ∷ trace) = ⊥
IsTraceOf (job ∷ jobs) [] = ⊥
IsTraceOf (job ∷ jobs) (step ∷ trace) = IsStepOf job step × IsTraceOf jobs trace

-- a closed step, as a log shows it
abbrev pub traced : ClosedStep → TracedStep
traced step = record { number = step.job.number; size = size_of step.job; history = step.history }

-- closed steps, as a log shows them
abbrev pub trace_of : List ClosedStep → Trace
trace_of closed = map traced closed

-- ---- tallies

-- what the workers and the caller did over a run
pub record Tallies : Type 0 where
  pub workers : List WorkerTally
  pub caller : WorkerTally

-- all tallies: the workers' in their order, and the caller's at the end
abbrev pub in_order : Tallies → List WorkerTally
in_order tallies = tallies.workers ++ tallies.caller ∷ []

-- the tally of the caller after so many claims, each of which it executed, with so many pages fetched
abbrev pub callers_tally : (claims pages : ℕ) → WorkerTally
callers_tally claims pages =
    record { who = CALLER; claims = claims; executed = claims; lost = 0; repeated = 0; held = 0; stopped = false; pages = pages }

-- one tally for each of so many workers, in order, and the caller's, who executes what it claims
pub record AreTalliesOf (workers : ℕ) (tallies : Tallies) : Type 0 where
  pub numbers : map (λ tally. tally.who) tallies.workers ≡ range_with_len 0 workers
  pub caller : tallies.caller ≡ callers_tally tallies.caller.claims tallies.caller.pages

-- each worker's tally is its row's
abbrev pub FollowScript : List Row → Tallies → Type 0
FollowScript rows tallies = AllByRecursion (λ tally. IsTallyOf (row_of rows tally.who) tally) tallies.workers

-- ---- log and report

-- an arrival that was the first of its number
abbrev pub is_first_arrival : Entry → Bool
is_first_arrival (Claim who k) = false
is_first_arrival (Arrive who step k verdict) = is_first verdict

-- how many entries of all steps pass a test
abbrev pub entries_in : (Entry → Bool) → Trace → ℕ
entries_in test trace = sum_by (λ step. count_by test step.history) trace

-- the caller has an entry in the step only where the workers have made all claims that the step takes
abbrev pub WaitsForWorkers : TracedStep → Type 0
WaitsForWorkers step = 0 < claims_by is_caller step.history + arrivals_by is_caller step.history
    → claims_by is_worker step.history ≡ claim_bound step.size

-- how the histories of a run and what the workers and the caller say of it agree
pub record Agree (trace : Trace) (tallies : Tallies) : Type 0 where
  -- claims by workers
  pub worker_claims : sum_by (λ step. claims_by is_worker step.history) trace ≡ sum_by (λ tally. tally.claims) tallies.workers
  -- claims by the caller
  pub caller_claims : sum_by (λ step. claims_by is_caller step.history) trace ≡ tallies.caller.claims
  -- arrivals by workers that are not stale: each execution once, a repeated one twice, a lost or held one not
  pub arrivals :
      entries_in is_current trace + (sum_by (λ tally. tally.lost) tallies.workers + sum_by (λ tally. tally.held) tallies.workers)
      ≡ sum_by (λ tally. tally.executed) tallies.workers + sum_by (λ tally. tally.repeated) tallies.workers
  -- each first arrival was claimed
  pub firsts : entries_in is_first_arrival trace ≤ sum_by (λ tally. tally.claims) tallies.workers + tallies.caller.claims
  -- where a worker did not stop, the caller only does what workers may not claim any more
  pub caller_waits : Any (λ tally. tally.stopped ≡ false) tallies.workers → AllByRecursion WaitsForWorkers trace
