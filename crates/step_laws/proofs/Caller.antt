-- The caller completes a step.
use Rattle.std.proofs.Common.{◌≡◌, ℕ, zero, suc, ◌+◌, ◌<◌, ◌≤◌, true, false, not, ◌&&◌, ltb, [], ◌∷◌, ◌++◌, refl, sym, ap, ◌∙◌, subst, ⊎_elim, arith, append_assoc}
use Rattle.std.proofs.lemmas.Bool.{cases_lt, ne_eqb, and_right, and_parts, not-true, le-ltb}
use Rattle.cal_base.specs.declared.step.TheConstants.{CALLER}
use Rattle.cal_base.specs.declared.step.Verdict.{Verdict}
use Rattle.cal_base.specs.declared.step.Verdict.TheVariants.{First}
use Rattle.cal_base.specs.declared.step.Claimed.TheVariants.{Work, AllDone, Spent}
use Rattle.cal_base.specs.declared.step.Entry.TheVariants.{Claim, Arrive}
use Rattle.cal_base.specs.Memory.{kinds_of}
use Rattle.cal_base.specs.After.{least_faulty}
use Rattle.cal_base.specs.History.{History, is_caller, anyone, is_claim, is_arrival, claims_by, arrivals_by, is_delivered}
use Rattle.cal_base.specs.Claims.{StepJob, size_of, claimed, delivered, IsLegal, IsComplete, MayClaim, MayArrive}
use Rattle.step_laws.specs.Laws.{IsRightClaim}
use Rattle.step_laws.proofs.Histories.{count_by-push, legal_push}
use Rattle.step_laws.proofs.Growth.{delivered_at, delivered_apart, delivered_no_more}
use Rattle.step_laws.proofs.Agreement.{least_faulty-le, length-restricted_to}
use Rattle.step_laws.proofs.StepLaws.{claims_are_right, caller_delivers_first, one_if}
use Rattle.step_laws.specs.Caller.{pair_of, pairs_by, with_pairs, completed, NoCaller, CallerCompletes}
use Rattle.step_laws.proofs.Counting.{count_below, count_le, count_more, count_all}

-- how many numbers are delivered
abbrev pub delivered_count : StepJob → History → ℕ
delivered_count job history = count_below (size_of job) (is_delivered history)

-- the caller has delivered what it claimed
pub record CallerIsEven (job : StepJob) (history : History) : Type 0 where
  pub claims : claims_by is_caller history ≤ delivered_count job history
  pub arrivals : arrivals_by is_caller history ≤ delivered_count job history

complete_at : (job : StepJob) (history : History) → size_of job ≤ delivered_count job history → IsComplete job history
complete_at job history all k =
    ⊎_elim
    (λ (within : k < size_of job).
    let is : is_delivered history k ≡ true = count_all (size_of job) (is_delivered history) all k within in
    ap (λ b. not b && ltb k (least_faulty (kinds_of job.opening) (delivered job history))) is)
    (λ (past : size_of job ≤ k). and_right (not (is_delivered history k)) _ (le-ltb k (least_faulty (kinds_of job.opening) (delivered job history))
    (omega (arith, least_faulty-le (kinds_of job.opening) (delivered job history), length-restricted_to (is_delivered history) job.answers))))
    (cases_lt k (size_of job))

-- after a claim and a delivery by the caller
module _ (job : StepJob) (history : History) (k : ℕ) (legal : IsLegal job history) (small : size_of job ≤ 65536) (even : CallerIsEven job history) (answered : claimed job history CALLER ≡ Work k)
  where
    right : IsRightClaim job history CALLER (Work k)
    right = subst (IsRightClaim job history CALLER) answered (claims_are_right job history CALLER)

    within : k < size_of job
    within = right.1.within

    new : is_delivered history k ≡ false
    new = not-true _ (and_parts (not (is_delivered history k)) _ right.1.passes).0

    after_claim : History
    after_claim = history ++ Claim CALLER k ∷ []

    more : delivered_count job (history ++ pair_of job k) ≡ delivered_count job history + 1
    unfolding after_claim
    more =
        let split : history ++ pair_of job k ≡ after_claim ++ Arrive CALLER job.number k First ∷ [] = sym (append_assoc history (Claim CALLER k ∷ []) (Arrive CALLER job.number k First ∷ [])) in
        let at : is_delivered (after_claim ++ Arrive CALLER job.number k First ∷ []) k ≡ true = delivered_at after_claim CALLER job.number k in
        ap (λ h. delivered_count job h) split
        ∙ count_more (size_of job) (is_delivered history) (is_delivered (after_claim ++ Arrive CALLER job.number k First ∷ [])) k within new at
        (λ j apart. delivered_apart after_claim CALLER job.number k j apart ∙ delivered_no_more history (Claim CALLER k) j refl)

    left_over : delivered_count job history < size_of job
    left_over = let most = count_le (size_of job) (is_delivered (history ++ pair_of job k)) in omega (arith, more)

    pub pair_legal : IsLegal job (history ++ pair_of job k)
    unfolding after_claim
    pair_legal =
        let may_claim : MayClaim job history CALLER k = record { known = omega arith; answered = answered; caller_has_left = λ e. omega (arith, even.claims, left_over) } in
        let first : IsLegal job after_claim = legal_push job history (Claim CALLER k) legal may_claim in
        let arrivals : arrivals_by is_caller after_claim ≡ arrivals_by is_caller history + 0 = count_by-push (is_arrival is_caller) history (Claim CALLER k) in
        let may_arrive : MayArrive job after_claim CALLER job.number k First =
        record {
          known = omega arith;
          not_later = omega arith;
          small = omega (arith, within);
          in_range = λ e. within;
          judged = caller_delivers_first job history k answered;
          entered = λ e. cc;
          caller_is_current = λ e. refl;
          caller_has_left = λ e. omega (arith, even.arrivals, left_over, arrivals);
        }
        in
        subst (IsLegal job) (append_assoc history (Claim CALLER k ∷ []) (Arrive CALLER job.number k First ∷ [])) (legal_push job after_claim (Arrive CALLER job.number k First) first may_arrive)

    pub pair_even : CallerIsEven job (history ++ pair_of job k)
    unfolding after_claim
    pair_even =
        let split : history ++ pair_of job k ≡ after_claim ++ Arrive CALLER job.number k First ∷ [] = sym (append_assoc history (Claim CALLER k ∷ []) (Arrive CALLER job.number k First ∷ [])) in
        record {
          claims =
              let a : claims_by is_caller after_claim ≡ claims_by is_caller history + 1 = count_by-push (is_claim is_caller anyone) history (Claim CALLER k) in
              let b : claims_by is_caller (after_claim ++ Arrive CALLER job.number k First ∷ []) ≡ claims_by is_caller after_claim + 0 = count_by-push (is_claim is_caller anyone) after_claim
              (Arrive CALLER job.number k First) in
              omega (arith, ap (λ h. claims_by is_caller h) split, a, b, more, even.claims);
          arrivals =
              let a : arrivals_by is_caller after_claim ≡ arrivals_by is_caller history + 0 = count_by-push (is_arrival is_caller) history (Claim CALLER k) in
              let b : arrivals_by is_caller (after_claim ++ Arrive CALLER job.number k First ∷ []) ≡ arrivals_by is_caller after_claim + 1 = count_by-push (is_arrival is_caller) after_claim
              (Arrive CALLER job.number k First) in
              omega (arith, ap (λ h. arrivals_by is_caller h) split, a, b, more, even.arrivals);
        }

    pub pair_more : delivered_count job (history ++ pair_of job k) ≡ delivered_count job history + 1
    pair_more = more

pub record IsWholeNow (job : StepJob) (history : History) : Type 0 where
  pub legal : IsLegal job history
  pub complete : IsComplete job history

pairs_complete : (most : ℕ) (job : StepJob) (history : History) → IsLegal job history → size_of job ≤ 65536 → CallerIsEven job history → size_of job ≤ delivered_count job history + most
    → IsWholeNow job (with_pairs most job history)
pairs_complete zero job history legal small even enough = record { legal = legal; complete = complete_at job history (omega arith) }
pairs_complete (suc most) job history legal small even enough =
    elim (claimed job history CALLER) as (λ c. claimed job history CALLER ≡ c → IsWholeNow job (pairs_by c job history (with_pairs most job))) [
      | Work k ↦ λ e.
          pairs_complete most job (history ++ pair_of job k) (pair_legal job history k legal small even e) small (pair_even job history k legal small even e)
          (omega (arith, pair_more job history k legal small even e))
      | AllDone ↦ λ e. record { legal = legal; complete = subst (IsRightClaim job history CALLER) e (claims_are_right job history CALLER) }
      | Spent ↦ λ e. let right = subst (IsRightClaim job history CALLER) e (claims_are_right job history CALLER) in absurd (cc (right.0))
    ] refl

pub completed_is_whole : (job : StepJob) (history : History) → IsLegal job history → NoCaller history → size_of job ≤ 65536 → IsWholeNow job (completed job history)
completed_is_whole job history legal none small =
    pairs_complete (size_of job) job history legal small (record { claims = omega (arith, none.claims); arrivals = omega (arith, none.arrivals) }) (omega arith)

pub caller_completes : CallerCompletes
caller_completes job history legal none small = let whole = completed_is_whole job history legal none small in (whole.legal, whole.complete)

-- ---- entries of workers

not_caller : (who : ℕ) → who < CALLER → is_caller who ≡ false
not_caller who worker = ne_eqb who CALLER (λ e. omega arith)

-- a worker's claim leaves the caller without an entry
pub alone_claim : (history : History) (who k : ℕ) → who < CALLER → NoCaller history → NoCaller (history ++ Claim who k ∷ [])
alone_claim history who k worker alone = record {
  claims =
      let more : claims_by is_caller (history ++ Claim who k ∷ []) ≡ claims_by is_caller history + one_if (is_caller who && true) = count_by-push (is_claim is_caller anyone) history (Claim who k) in
      let nought : one_if (is_caller who && true) ≡ 0 = ap (λ b. one_if (b && true)) (not_caller who worker) in
      omega (arith, more, nought, alone.claims);
  arrivals = let more : arrivals_by is_caller (history ++ Claim who k ∷ []) ≡ arrivals_by is_caller history + 0 = count_by-push (is_arrival is_caller) history (Claim who k) in omega
      (arith, more, alone.arrivals);
}

-- and its delivery too
pub alone_arrive : (history : History) (who step k : ℕ) (verdict : Verdict) → who < CALLER → NoCaller history → NoCaller (history ++ Arrive who step k verdict ∷ [])
alone_arrive history who step k verdict worker alone = record {
  claims = let more : claims_by is_caller (history ++ Arrive who step k verdict ∷ []) ≡ claims_by is_caller history + 0 = count_by-push (is_claim is_caller anyone) history
      (Arrive who step k verdict) in omega (arith, more, alone.claims);
  arrivals =
      let more : arrivals_by is_caller (history ++ Arrive who step k verdict ∷ []) ≡ arrivals_by is_caller history + one_if (is_caller who) = count_by-push (is_arrival is_caller) history
      (Arrive who step k verdict) in
      let nought : one_if (is_caller who) ≡ 0 = ap one_if (not_caller who worker) in
      omega (arith, more, nought, alone.arrivals);
}
