-- The turns of the caller.
use Rattle.std.proofs.Common.{◌≡◌, ℕ, suc, ◌+◌, ◌-◌, ◌<◌, ◌≤◌, Bool, true, false, [], ◌∷◌, ◌++◌, sym, ap, subst, ◌∙◌, arith, append_assoc}
use Rattle.cal_base.specs.declared.step.TheConstants.{CALLER}
use Rattle.cal_base.specs.declared.step.Verdict.{Verdict}
use Rattle.cal_base.specs.declared.step.Verdict.TheVariants.{First}
use Rattle.cal_base.specs.declared.step.Claimed.{Claimed}
use Rattle.cal_base.specs.declared.step.Claimed.TheVariants.{Work}
use Rattle.cal_base.specs.declared.step.Entry.TheVariants.{Claim, Arrive}
use Rattle.cal_base.specs.History.{History, is_caller, anyone, is_claim, is_arrival, claims_by, arrivals_by}
use Rattle.cal_base.specs.Claims.{StepJob, size_of, claimed, verdict_on, IsLegal, IsComplete}
use Rattle.step_laws.specs.Laws.{IsRightClaim}
use Rattle.step_laws.proofs.Histories.{count_by-push}
use Rattle.step_laws.proofs.StepLaws.{claims_are_right, caller_delivers_first}
use Rattle.step_laws.specs.Caller.{pair_of, pairs_by, with_pairs, completed}
use Rattle.step_laws.specs.Caller.{NoCaller}
use Rattle.step_laws.proofs.Caller.{completed_is_whole}
use Rattle.step_laws.specs.Turns.{after_arrival}
use Rattle.worker_gate.specs.Working.{TookTurn}

-- what is claimed is a number of the step
pub claimed_within : (job : StepJob) (history : History) (who k : ℕ) → Work k ≡ claimed job history who → k < size_of job
claimed_within job history who k is = (subst (IsRightClaim job history who) (sym is) (claims_are_right job history who)).1.within

-- the caller claimed and delivered
pub took_pair : (job : StepJob) (before mid later : History) (k j : ℕ) (verdict : Verdict) → Work k ≡ claimed job before CALLER → mid ≡ before ++ Claim CALLER k ∷ [] → j ≡ k
    → verdict ≡ verdict_on job mid CALLER job.number j → later ≡ after_arrival mid CALLER job.number j verdict → TookTurn job before true later
took_pair job before mid later k j verdict claims entered same judged arrives =
    let first : verdict ≡ First = judged ∙ (λ i. verdict_on job (entered i) CALLER job.number (same i)) ∙ caller_delivers_first job before k (sym claims) in
    (k, sym claims, arrives ∙ (λ i. after_arrival (entered i) CALLER job.number (same i) (first i)) ∙ append_assoc before (Claim CALLER k ∷ []) (Arrive CALLER job.number k First ∷ []))

module _ (job : StepJob) (before later : History) (k : ℕ) (is : later ≡ before ++ pair_of job k) where
  abbrev with_claim : History
  with_claim = before ++ Claim CALLER k ∷ []

  split : later ≡ with_claim ++ Arrive CALLER job.number k First ∷ []
  split = is ∙ sym (append_assoc before (Claim CALLER k ∷ []) (Arrive CALLER job.number k First ∷ []))

  claims_one : claims_by is_caller later ≡ claims_by is_caller before + 1
  claims_one =
      let a : claims_by is_caller with_claim ≡ claims_by is_caller before + 1 = count_by-push (is_claim is_caller anyone) before (Claim CALLER k) in
      let b : claims_by is_caller (with_claim ++ Arrive CALLER job.number k First ∷ []) ≡ claims_by is_caller with_claim + 0 = count_by-push (is_claim is_caller anyone) with_claim
      (Arrive CALLER job.number k First) in
      omega (arith, ap (λ h. claims_by is_caller h) split, a, b)

  arrivals_one : arrivals_by is_caller later ≡ arrivals_by is_caller before + 1
  arrivals_one =
      let a : arrivals_by is_caller with_claim ≡ arrivals_by is_caller before + 0 = count_by-push (is_arrival is_caller) before (Claim CALLER k) in
      let b : arrivals_by is_caller (with_claim ++ Arrive CALLER job.number k First ∷ []) ≡ arrivals_by is_caller with_claim + 1 = count_by-push (is_arrival is_caller) with_claim
      (Arrive CALLER job.number k First) in
      omega (arith, ap (λ h. arrivals_by is_caller h) split, a, b)

-- after a turn
pub record Turned (job : StepJob) (before later whole : History) (n i : ℕ) : Type 0 where
  pub left : with_pairs (n - (i + 1)) job later ≡ whole
  pub claims : claims_by is_caller later ≡ claims_by is_caller before + 1
  pub arrivals : arrivals_by is_caller later ≡ arrivals_by is_caller before + 1

pub turned : (job : StepJob) (before later whole : History) (more : Bool) (n i : ℕ) → more ≡ true → TookTurn job before more later → i < n → with_pairs (n - i) job before ≡ whole
    → Turned job before later whole n i
turned job before later whole more n i on took lt left =
    let t : TookTurn job before true later = subst (λ (b : Bool). TookTurn job before b later) on took in
    let one : n - i ≡ suc (n - (i + 1)) = omega arith in
    record {
      left =
          ap (λ (h : History). with_pairs (n - (i + 1)) job h) t.2
          ∙ ap (λ (c : Claimed). pairs_by c job before (with_pairs (n - (i + 1)) job)) (sym t.1)
          ∙ ap (λ (k : ℕ). with_pairs k job before) (sym one)
          ∙ left;
      claims = claims_one job before later t.0 t.2;
      arrivals = arrivals_one job before later t.0 t.2;
    }

-- where nothing was wanted any more
pub ended : (job : StepJob) (before later whole : History) (more : Bool) (n i : ℕ) → more ≡ false → TookTurn job before more later → i < n → with_pairs (n - i) job before ≡ whole
    → (later ≡ before) × (later ≡ whole)
ended job before later whole more n i off took lt left =
    let t : TookTurn job before false later = subst (λ (b : Bool). TookTurn job before b later) off took in
    let one : n - i ≡ suc (n - (i + 1)) = omega arith in
    (t.1, t.1 ∙ ap (λ (c : Claimed). pairs_by c job before (with_pairs (n - (i + 1)) job)) (sym t.0) ∙ ap (λ (k : ℕ). with_pairs k job before) (sym one) ∙ left)

-- what the caller has completed is complete
pub whole_complete : (job : StepJob) (first later : History) → IsLegal job first → NoCaller first → size_of job ≤ 65536 → later ≡ completed job first → IsComplete job later
whole_complete job first later legal alone small is = subst (λ (h : History). IsComplete job h) (sym is) (completed_is_whole job first legal alone small).complete
