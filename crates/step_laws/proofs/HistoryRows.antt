-- The worked examples of claims, arrivals and whole histories, computed.
use Rattle.std.proofs.Common.{◌≡◌, ◌≢◌, ℕ, zero, suc, ◌<◌, ◌≤◌, Bool, true, false, true≢false, sym, ap, ◌∙◌, ⊎_elim, refl, arith}
use Rattle.std.specs.Prelude.{not, ◌&&◌, nat_lt}
use Rattle.std.proofs.lemmas.Bool.{cases_lt, le-ltb}
use Rattle.cal_base.specs.Numbers.{least_below, lightest_below}
use Rattle.cal_base.specs.After.{after, least_faulty, is_faulty, shared_word, fault_of, merged_memory}
use Rattle.cal_base.specs.declared.step.TheConstants.{CALLER}
use Rattle.cal_base.specs.declared.step.Verdict.{Verdict}
use Rattle.cal_base.specs.declared.step.Verdict.TheVariants.{First, Again, Stale, Full}
use Rattle.cal_base.specs.declared.step.Claimed.TheVariants.{Work}
use Rattle.cal_base.specs.History.{History, claims_by, arrivals_by, is_caller, is_delivered}
use Rattle.cal_base.specs.Claims.{StepJob, size_of, delivered, claimed, verdict_on, MayClaim, MayArrive, IsComplete}
use Rattle.cal_base.specs.Memory.{kinds_of}
use Rattle.step_laws.specs.Rows
use Rattle.step_laws.proofs.Rows.{get_none, get_one}

pub claim_35 : Rows.Claim35
unfolding least_faulty is_faulty shared_word least_below lightest_below
claim_35 = refl

pub claim_36 : Rows.Claim36
unfolding least_faulty is_faulty shared_word least_below lightest_below
claim_36 = refl

pub caller_still_claims : Rows.CallerStillClaims
unfolding least_faulty is_faulty shared_word least_below lightest_below
caller_still_claims = refl

pub claims_go_round : Rows.ClaimsGoRound
unfolding least_faulty is_faulty shared_word least_below lightest_below
claims_go_round = (refl, refl, refl)

pub nothing_left : Rows.NothingLeft
unfolding least_faulty is_faulty shared_word least_below lightest_below
nothing_left = refl

pub unasked_is_no_delivery : Rows.UnaskedIsNoDelivery
unfolding least_faulty is_faulty shared_word least_below lightest_below
unasked_is_no_delivery = (refl, refl)

pub older_is_stale : Rows.OlderIsStale
older_is_stale = refl

pub arrival_102 : Rows.Arrival102
arrival_102 = refl

pub arrival_103 : Rows.Arrival103
arrival_103 = refl

-- ---- whole histories, entry by entry

module _ (job : StepJob) (history : History) where
  worker_claims : (who k : ℕ) → who < 32 → claimed job history who ≡ Work k → MayClaim job history who k
  worker_claims who k worker answered = record { known = omega arith; answered = answered; caller_has_left = λ e. absurd (omega arith) }

  caller_claims : (k : ℕ) → claimed job history CALLER ≡ Work k → claims_by is_caller history < size_of job → MayClaim job history CALLER k
  caller_claims k answered left = record { known = omega arith; answered = answered; caller_has_left = λ _. left }

  worker_delivers : (who step k : ℕ) (verdict : Verdict) → who < 32 → step ≤ job.number → k < 65536 → (step ≡ job.number → k < size_of job) → verdict_on job history who step k ≡ verdict
      → verdict ≢ Full → MayArrive job history who step k verdict
  worker_delivers who step k verdict worker now small within judged entered = record {
    known = omega arith;
    not_later = now;
    small = omega arith;
    in_range = within;
    judged = judged;
    entered = entered;
    caller_is_current = λ e. absurd (omega arith);
    caller_has_left = λ e. absurd (omega arith);
  }

  caller_delivers : (k : ℕ) → k < size_of job → size_of job < 65536 → verdict_on job history CALLER job.number k ≡ First → arrivals_by is_caller history < size_of job
      → MayArrive job history CALLER job.number k First
  caller_delivers k within few judged left = record {
    known = omega arith;
    not_later = omega arith;
    small = omega arith;
    in_range = λ _. within;
    judged = judged;
    entered = λ e. cc;
    caller_is_current = λ _. refl;
    caller_has_left = λ _. left;
  }

not_wanted : (d : Bool) (k bound : ℕ) → (k < bound → d ≡ true) → (not d && nat_lt k bound) ≡ false
not_wanted true k bound all = refl
not_wanted false k bound all =
    ⊎_elim
    (λ (l : k < bound). absurd (true≢false (sym (all l))))
    (λ (g : bound ≤ k). le-ltb k bound g)
    (cases_lt k bound)

-- a history is complete where each number below the least faulty one was delivered
complete_below : (job : StepJob) (history : History) (bound : ℕ) → least_faulty (kinds_of job.opening) (delivered job history) ≡ bound → ((k : ℕ) → k < bound → is_delivered history k ≡ true)
    → IsComplete job history
complete_below job history bound is all k = ap (λ n. not (is_delivered history k) && nat_lt k n) is ∙ not_wanted (is_delivered history k) k bound (all k)

first_1 : (h : History) → is_delivered h 0 ≡ true → (k : ℕ) → k < 1 → is_delivered h k ≡ true
first_1 h zeroth zero l = zeroth
first_1 h zeroth (suc k) l = absurd (omega arith)

first_2 : (h : History) → is_delivered h 0 ≡ true → is_delivered h 1 ≡ true → (k : ℕ) → k < 2 → is_delivered h k ≡ true
first_2 h zeroth one zero l = zeroth
first_2 h zeroth one (suc zero) l = one
first_2 h zeroth one (suc (suc k)) l = absurd (omega arith)

pub delivered_twice : Rows.DeliveredTwice
unfolding after least_faulty is_faulty shared_word least_below lightest_below fault_of merged_memory
delivered_twice = (
  (
    worker_claims _ _ 0 0 (omega arith) refl,
    (
      worker_delivers _ _ 0 1 0 First (omega arith) (omega arith) (omega arith) (λ _. omega arith) refl (λ e. cc),
      (worker_delivers _ _ 0 1 0 Again (omega arith) (omega arith) (omega arith) (λ _. omega arith) refl (λ e. cc), tt),
    ),
  ),
  complete_below Rows.adding Rows.twice 1 refl (first_1 Rows.twice refl),
  simp get_one,
)

pub delivered_late : Rows.DeliveredLate
unfolding after least_faulty is_faulty shared_word least_below lightest_below fault_of merged_memory
delivered_late = (
  (
    worker_delivers _ _ 0 1 0 Stale (omega arith) (omega arith) (omega arith) (λ e. absurd (omega arith)) refl (λ e. cc),
    (
      worker_claims _ _ 0 0 (omega arith) refl,
      (worker_delivers _ _ 0 2 0 First (omega arith) (omega arith) (omega arith) (λ _. omega arith) refl (λ e. cc), tt),
    ),
  ),
  complete_below Rows.second Rows.late 1 (simp get_one) (first_1 Rows.late refl),
  simp get_one,
)

pub fault_arrives_first : Rows.FaultArrivesFirst
unfolding after least_faulty is_faulty shared_word least_below lightest_below fault_of merged_memory
fault_arrives_first = (
  (
    worker_claims _ _ 0 0 (omega arith) refl,
    (
      worker_claims _ _ 1 1 (omega arith) refl,
      (
        worker_claims _ _ 2 2 (omega arith) refl,
        (
          worker_claims _ _ 3 3 (omega arith) refl,
          (
            worker_delivers _ _ 3 1 3 First (omega arith) (omega arith) (omega arith) (λ _. omega arith) refl (λ e. cc),
            (
              caller_claims _ _ 0 refl (omega arith),
              (
                caller_delivers _ _ 0 (omega arith) (omega arith) refl (omega arith),
                (
                  caller_claims _ _ 1 (simp get_one) (omega arith),
                  (caller_delivers _ _ 1 (omega arith) (omega arith) refl (omega arith), tt),
                ),
              ),
            ),
          ),
        ),
      ),
    ),
  ),
  complete_below Rows.two_traps Rows.upper_fault_first 1 (simp get_one) (first_1 Rows.upper_fault_first refl),
  simp get_one,
)

pub conflict_in_any_order : Rows.ConflictInAnyOrder
unfolding after least_faulty is_faulty shared_word least_below lightest_below fault_of merged_memory
conflict_in_any_order = (
  (
    worker_claims _ _ 0 0 (omega arith) refl,
    (
      worker_claims _ _ 1 1 (omega arith) refl,
      (
        worker_claims _ _ 2 2 (omega arith) refl,
        (
          worker_claims _ _ 3 3 (omega arith) refl,
          (
            worker_delivers _ _ 2 1 2 First (omega arith) (omega arith) (omega arith) (λ _. omega arith) refl (λ e. cc),
            (
              worker_delivers _ _ 3 1 3 First (omega arith) (omega arith) (omega arith) (λ _. omega arith) refl (λ e. cc),
              (
                worker_delivers _ _ 1 1 1 First (omega arith) (omega arith) (omega arith) (λ _. omega arith) refl (λ e. cc),
                (
                  caller_claims _ _ 0 (simp get_one) (omega arith),
                  (caller_delivers _ _ 0 (omega arith) (omega arith) refl (omega arith), tt),
                ),
              ),
            ),
          ),
        ),
      ),
    ),
  ),
  complete_below Rows.three_writers Rows.out_of_order 2 (simp (get_one, get_none)) (first_2 Rows.out_of_order refl refl),
  simp (get_one, get_none),
)
