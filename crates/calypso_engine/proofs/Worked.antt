-- Workers are back, and the caller completes the step.
use Rattle.std.proofs.Common.{◌≡◌, ℕ, ◌+◌, ◌*◌, ◌<◌, ◌≤◌, [], ◌∷◌, List, length, sum_by, refl, sym, ap, subst, ◌∙◌, arith, ⊎_elim, inl}
use Rattle.std.specs.Prelude.{◌⊎◌}
use Rattle.std.specs.List.{count_by, AllZip}
use Rattle.cal_base.specs.History.{History, claims_by, arrivals_by, is_claim, anyone, is_caller, is_worker}
use Rattle.cal_base.specs.Claims.{StepJob, size_of, claim_bound, arrival_bound, IsComplete}
use Rattle.bytecode.specs.declared.module.Module.{Module}
use Rattle.cal_base.specs.Pages.{Paged}
use Rattle.step_board.specs.Counted.{is_current, current_arrivals}
use Rattle.step_laws.specs.Caller.{NoCaller, completed, with_pairs}
use Rattle.step_laws.specs.Closed.{ClosedStep}
use Rattle.step_laws.proofs.Caller.{caller_completes}
use Rattle.worker_gate.specs.Working.{WorkerState}
use Rattle.worker_gate.specs.Worked.{IsLeft, ends}
use Rattle.calypso_engine.specs.Running.{Counted}
use Rattle.calypso_engine.specs.Traces.{traced, WaitsForWorkers}
use Rattle.calypso_engine.specs.Teams.{ClaimedMore, Gathered}
use Rattle.calypso_engine.specs.declared.team.Team.{Team}
use Rattle.calypso_engine.proofs.Completing.{completed_same, complete_stays}
use Rattle.calypso_engine.proofs.Runs.{claims_one}
use Rattle.calypso_engine.proofs.Teams.{ends_fall}

-- ---- numbers of shares

pub share_claims : (h s zero_claims before after : ℕ) → h ≡ s → s + before ≡ zero_claims + after → zero_claims ≡ 0 → h + before ≡ after
share_claims h s z before after p q r = omega arith

pub share_few : (n claims arrivals held zero_claims zero_arrivals zero_held before after lates : ℕ) → claims + before ≡ zero_claims + after → zero_claims ≡ 0
    → arrivals + 2 * before ≤ zero_arrivals + 2 * after → zero_arrivals ≡ 0 → claims ≤ claim_bound n → held ≡ zero_held + lates → zero_held ≡ 0 → lates ≤ 32
    → arrivals + held ≤ arrival_bound n
share_few n claims arrivals held zc za zh before after lates p q r s t u v w = omega arith

pub share_arrivals : (h s z l e f g : ℕ) → h ≡ s → s + l + e ≡ z + f + g → z ≡ 0 → h + l + e ≡ f + g
share_arrivals h s z l e f g p q r = omega arith

pub share_held : (a n : ℕ) → a ≤ n → n ≤ 32 → a ≤ 32
share_held a n p q = omega arith

pub share_ends : (s z n : ℕ) → s ≡ z + n → z ≡ 0 → 0 < n → 0 < s
share_ends s z n p q r = omega arith

pub current_is : (h : History) → count_by is_current h ≡ current_arrivals h
unfolding current_arrivals
current_is h = refl

-- ---- no worker worked

none_on : (before : List WorkerState) → length before ≡ 0 → 0 < sum_by ends before → ⊥
none_on [] none on = omega (arith, on)
none_on (w ∷ ws) none on = absurd (cc)

-- a step without routines is complete
pub empty_complete : (job : StepJob) → size_of job ≡ 0 → IsComplete job []
empty_complete job none =
    subst (λ (n : ℕ). IsComplete job (with_pairs n job [])) none (caller_completes job [] tt (record { claims = refl; arrivals = refl }) (omega (arith, none))).1

pub none_gathered : (job : StepJob) (image : Paged) (m : Module) (before : List WorkerState) → (size_of job ≡ 0) ⊎ (length before ≡ 0) → AllZip (IsLeft job.number image m) before before
    → Gathered job image m [] before before
none_gathered job image m before none left = record {
  legal = tt;
  alone = record { claims = refl; arrivals = refl };
  claims = omega arith;
  arrivals = omega arith;
  waits = λ on. ⊎_elim (λ (empty : size_of job ≡ 0). inl (empty_complete job empty)) (λ (nobody : length before ≡ 0). absurd (none_on before nobody on)) none;
  each = left;
}

-- ---- the caller completes the step

module _ (job : StepJob) (h0 : History) (alone : NoCaller h0) (waits : IsComplete job h0 ⊎ (claims_by is_worker h0 ≡ claim_bound (size_of job))) where
  nothing : (a b : ℕ) → a ≡ 0 → b ≡ 0 → 0 < a + b → ⊥
  nothing a b p q r = omega arith

  pub step_waits : WaitsForWorkers (traced (record { job = job; history = completed job h0 }))
  step_waits some =
      ⊎_elim
      (λ (complete : IsComplete job h0).
      let same = complete_stays job h0 complete in
      absurd (nothing _ _ (ap (λ (h : History). claims_by is_caller h) same ∙ alone.claims) (ap (λ (h : History). arrivals_by is_caller h) same ∙ alone.arrivals) some))
      (λ (bound : claims_by is_worker h0 ≡ claim_bound (size_of job)). completed_same job (is_claim is_worker anyone) (λ k. refl) h0 ∙ bound)
      waits

-- what the team did in a step of which this history of the workers was gathered
module _ (job : StepJob) (image : Paged) (m : Module) (h0 : History) (old new : Team) (gathered : Gathered job image m h0 old.workers.items new.workers.items)
    (tally : ClaimedMore old.caller.tally (claims_by is_caller (completed job h0)) new.caller.tally) where
  abbrev this : ClosedStep
  this = record { job = job; history = completed job h0 }

  pub step_counted : Counted (this ∷ []) old new
  step_counted = record {
    claims = omega (arith, completed_same job (is_claim is_worker anyone) (λ k. refl) h0, gathered.claims);
    arrivals = omega (arith, completed_same job is_current (λ k. refl) h0, gathered.arrivals);
    caller = subst (λ (n : ℕ). ClaimedMore old.caller.tally n new.caller.tally) (sym (claims_one this)) tally;
    goes_on = ends_fall job.number image m old.workers.items new.workers.items gathered.each;
    waits = λ on. (step_waits job h0 gathered.alone (gathered.waits on), tt);
  }
