-- What one entry more changes.
use Rattle.std.proofs.Common.{◌≡◌, ◌≢◌, ℕ, zero, suc, ◌+◌, ◌<◌, ◌≤◌, Bool, true, false, cond, ◌&&◌, ltb, leb, eqb, List, [], ◌∷◌, ◌++◌, length, set, refl, sym, ap, ◌∙◌, ⊎_elim, arith, Option, Some}
use Rattle.std.proofs.Common.{None}
use Rattle.std.specs.Prelude.{slice_get}
use Rattle.std.proofs.lemmas.List.{length_push}
use Rattle.std.proofs.lemmas.Bool.{cases_lt, lt-ltb, le-ltb, leb-false, eq-eqb, ne_eqb}
use Rattle.cal_base.specs.declared.step.TheConstants.{CALLER}
use Rattle.cal_base.specs.declared.step.Verdict.{Verdict}
use Rattle.cal_base.specs.declared.step.Verdict.TheVariants.{First, Full}
use Rattle.cal_base.specs.declared.step.Entry.{Entry}
use Rattle.cal_base.specs.declared.step.Entry.TheVariants.{Claim, Arrive}
use Rattle.cal_base.specs.declared.answer.Answer.{Answer}
use Rattle.cal_base.specs.Answers.{restricted_to}
use Rattle.cal_base.specs.History.{History, is_worker, is_caller, anyone, is_claim, is_arrival, is_first_of, is_first, claims_by, arrivals_by, is_delivered}
use Rattle.cal_base.specs.Claims.{StepJob, size_of, claim_bound, arrival_bound, delivered, MayFollow, IsLegal}
use Rattle.step_laws.proofs.Histories.{count_by-push, kept_along}
use Rattle.step_laws.proofs.StepLaws.{claims_are_bounded, one_if}

-- ---- answers

pub restricted_same : (p q : ℕ → Bool) (answers : List Answer) → ((k : ℕ) → p k ≡ q k) → restricted_to p answers ≡ restricted_to q answers
restricted_same p q [] same = refl
restricted_same p q (answer ∷ answers) same =
    let here : p zero ≡ q zero = same zero in
    let rest = restricted_same (λ k. p (suc k)) (λ k. q (suc k)) answers (λ k. same (suc k)) in
    λ i. cond (here i) (Some answer) None ∷ rest i

-- one number more
pub restricted_more : (p q : ℕ → Bool) (answers : List Answer) (k : ℕ) (answer : Answer) → slice_get answers k ≡ Some answer → q k ≡ true → ((j : ℕ) → (j ≡ k → ⊥) → q j ≡ p j)
    → restricted_to q answers ≡ set (restricted_to p answers) k (Some answer)
restricted_more p q [] k answer at passes same = refl
restricted_more p q (x ∷ answers) zero answer at passes same =
    let here : Option Answer = Some answer in
    let is : x ≡ answer = cc in
    let rest = restricted_same (λ k. q (suc k)) (λ k. p (suc k)) answers (λ k. same (suc k) (λ e. absurd (omega arith))) in
    λ i. cond (passes i) (Some (is i)) None ∷ rest i
restricted_more p q (x ∷ answers) (suc k) answer at passes same =
    let here : q zero ≡ p zero = same zero (λ e. absurd (omega arith)) in
    let rest = restricted_more (λ j. p (suc j)) (λ j. q (suc j)) answers k answer at passes (λ j ne. same (suc j) (λ e. ne (omega arith))) in
    λ i. cond (here i) (Some x) None ∷ rest i

-- ---- deliveries

-- an entry that is no first delivery delivers nothing
pub delivered_no_more : (history : History) (entry : Entry) (k : ℕ) → is_first_of k entry ≡ false → is_delivered (history ++ entry ∷ []) k ≡ is_delivered history k
delivered_no_more history entry k none = ap (λ n. ltb 0 n) (count_by-push (is_first_of k) history entry ∙ omega (arith, ap {B = ℕ} (λ b. cond b 1 0) none))

pub delivered-claim : (job : StepJob) (history : History) (who k : ℕ) → delivered job (history ++ Claim who k ∷ []) ≡ delivered job history
delivered-claim job history who k = restricted_same _ _ job.answers (λ j. delivered_no_more history (Claim who k) j refl)

pub delivered-other : (job : StepJob) (history : History) (who step k : ℕ) (verdict : Verdict) → is_first verdict ≡ false
    → delivered job (history ++ Arrive who step k verdict ∷ []) ≡ delivered job history
delivered-other job history who step k verdict none =
    restricted_same _ _ job.answers (λ j. delivered_no_more history (Arrive who step k verdict) j (ap (λ b. b && eqb k j) none))

-- a first delivery delivers its number and no other
pub delivered_at : (history : History) (who step k : ℕ) → is_delivered (history ++ Arrive who step k First ∷ []) k ≡ true
delivered_at history who step k =
    let more = count_by-push (is_first_of k) history (Arrive who step k First) in
    let one = ap {B = ℕ} (λ b. cond b 1 0) (eq-eqb k k refl) in
    lt-ltb _ _ (omega (arith, more, one))

pub delivered_apart : (history : History) (who step k j : ℕ) → (j ≡ k → ⊥) → is_delivered (history ++ Arrive who step k First ∷ []) j ≡ is_delivered history j
delivered_apart history who step k j ne = delivered_no_more history (Arrive who step k First) j (ne_eqb k j (λ e. ne (sym e)))

pub delivered-first : (job : StepJob) (history : History) (who step k : ℕ) (answer : Answer) → slice_get job.answers k ≡ Some answer
    → delivered job (history ++ Arrive who step k First ∷ []) ≡ set (delivered job history) k (Some answer)
delivered-first job history who step k answer at =
    restricted_more (is_delivered history) (is_delivered (history ++ Arrive who step k First ∷ [])) job.answers k answer at (delivered_at history who step k)
    (λ j ne. delivered_apart history who step k j ne)

-- ---- lengths

-- a claim or an arrival is one entry
split_length : (job : StepJob) (history : History) → IsLegal job history → length history ≡ claims_by anyone history + arrivals_by anyone history
split_length job history legal = kept_along (MayFollow job) (λ h. length h ≡ claims_by anyone h + arrivals_by anyone h) step history refl legal
  where
    step : (h : History) (entry : Entry) → length h ≡ claims_by anyone h + arrivals_by anyone h → MayFollow job h entry
        → length (h ++ entry ∷ []) ≡ claims_by anyone (h ++ entry ∷ []) + arrivals_by anyone (h ++ entry ∷ [])
    step h (Claim who k) e may = omega (arith, e, length_push h (Claim who k), count_by-push (is_claim anyone anyone) h (Claim who k), count_by-push (is_arrival anyone) h (Claim who k))
    step h (Arrive who s k v) e may = omega (arith, e, length_push h (Arrive who s k v), count_by-push (is_claim anyone anyone) h (Arrive who s k v), count_by-push (is_arrival anyone) h (Arrive who s k v))

pub record ArrivalsAreBounded (n : ℕ) (history : History) : Type 0 where
  pub workers : arrivals_by is_worker history ≤ arrival_bound n
  pub caller : arrivals_by is_caller history ≤ n
  pub all : arrivals_by anyone history ≤ arrivals_by is_worker history + arrivals_by is_caller history

not_full : (full : Bool) (other verdict : Verdict) → cond full Full other ≡ verdict → verdict ≢ Full → full ≡ false
not_full true other verdict e ne = absurd (ne (sym e))
not_full false other verdict e ne = refl

arrival_step : (job : StepJob) (history : History) (entry : Entry) → ArrivalsAreBounded (size_of job) history → MayFollow job history entry → ArrivalsAreBounded (size_of job) (history ++ entry ∷ [])
arrival_step job history (Claim who k) bounded may = record {
  workers = omega (arith, bounded.workers, count_by-push (is_arrival is_worker) history (Claim who k));
  caller = omega (arith, bounded.caller, count_by-push (is_arrival is_caller) history (Claim who k));
  all = omega (arith, bounded.all, count_by-push (is_arrival is_worker) history (Claim who k), count_by-push (is_arrival is_caller) history (Claim who k), count_by-push (is_arrival anyone) history (Claim who k));
}
arrival_step job history (Arrive who step k verdict) bounded may =
    let room : (is_worker who && leb (arrival_bound (size_of job)) (arrivals_by is_worker history)) ≡ false = not_full _ _ verdict may.judged may.entered in
    let workers : arrivals_by is_worker (history ++ Arrive who step k verdict ∷ []) ≡ arrivals_by is_worker history + one_if (is_worker who) = count_by-push (is_arrival is_worker) history
    (Arrive who step k verdict) in
    let caller : arrivals_by is_caller (history ++ Arrive who step k verdict ∷ []) ≡ arrivals_by is_caller history + one_if (is_caller who) = count_by-push (is_arrival is_caller) history
    (Arrive who step k verdict) in
    let all : arrivals_by anyone (history ++ Arrive who step k verdict ∷ []) ≡ arrivals_by anyone history + 1 = count_by-push (is_arrival anyone) history (Arrive who step k verdict) in
    ⊎_elim
    (λ (low : who < CALLER).
    let a : is_worker who ≡ true = lt-ltb who CALLER low in
    let b : is_caller who ≡ false = ne_eqb who CALLER (λ e. omega arith) in
    let one : one_if (is_worker who) ≡ 1 = ap one_if a in
    let nought : one_if (is_caller who) ≡ 0 = ap one_if b in
    let left : arrivals_by is_worker history < arrival_bound (size_of job) = leb-false _ _ (ap (λ x. x && leb (arrival_bound (size_of job)) (arrivals_by is_worker history)) (sym a) ∙ room) in
    record {
      workers = omega (arith, workers, one, left);
      caller = omega (arith, caller, nought, bounded.caller);
      all = omega (arith, all, workers, caller, one, nought, bounded.all);
    })
    (λ (high : CALLER ≤ who).
    let is : who ≡ CALLER = omega (arith, may.known) in
    let a : is_worker who ≡ false = le-ltb who CALLER high in
    let b : is_caller who ≡ true = eq-eqb who CALLER is in
    let nought : one_if (is_worker who) ≡ 0 = ap one_if a in
    let one : one_if (is_caller who) ≡ 1 = ap one_if b in
    let left : arrivals_by is_caller history < size_of job = may.caller_has_left is in
    record {
      workers = omega (arith, workers, nought, bounded.workers);
      caller = omega (arith, caller, one, left);
      all = omega (arith, all, workers, caller, one, nought, bounded.all);
    })
    (cases_lt who CALLER)

pub arrivals_are_bounded : (job : StepJob) (history : History) → IsLegal job history → ArrivalsAreBounded (size_of job) history
arrivals_are_bounded job history legal = kept_along (MayFollow job) (ArrivalsAreBounded (size_of job)) (arrival_step job) history
    (record { workers = omega arith; caller = omega arith; all = omega arith }) legal

-- how many entries a legal history has at most
pub length_is_bounded : (job : StepJob) (history : History) → IsLegal job history → length history ≤ (claim_bound (size_of job) + size_of job) + (arrival_bound (size_of job) + size_of job)
length_is_bounded job history legal =
    let arrivals = arrivals_are_bounded job history legal in
    omega (arith, split_length job history legal, claims_are_bounded job history legal, arrivals.workers, arrivals.caller, arrivals.all)
