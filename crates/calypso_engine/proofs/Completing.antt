-- What the caller adds to a history when it completes it.
use Rattle.std.proofs.Common.{◌≡◌, ℕ, zero, suc, ◌+◌, Bool, ◌++◌, refl, ◌∙◌, arith}
use Rattle.std.specs.List.{count_by}
use Rattle.cal_base.specs.declared.step.TheConstants.{CALLER}
use Rattle.cal_base.specs.declared.step.Entry.{Entry}
use Rattle.cal_base.specs.declared.step.Claimed.{Claimed}
use Rattle.cal_base.specs.declared.step.Claimed.TheVariants.{Work, AllDone, Spent}
use Rattle.cal_base.specs.History.{History}
use Rattle.cal_base.specs.Claims.{StepJob, size_of, claimed, IsComplete}
use Rattle.step_laws.specs.Caller.{pair_of, pairs_by, with_pairs, completed}
use Rattle.step_laws.specs.Laws.{IsRightClaim}
use Rattle.step_laws.proofs.Histories.{count_by-append}
use Rattle.step_laws.proofs.StepLaws.{claims_are_right}

module _ (job : StepJob) where
  -- what holds of a history holds behind the answer to a claim, where it stays so behind a pair
  at_claim : (P : History → Type 0) (h : History) (c : Claimed) (more : History → History) → ((k : ℕ) → P (more (h ++ pair_of job k))) → P h → P (pairs_by c job h more)
  at_claim P h (Work k) more stays here = stays k
  at_claim P h AllDone more stays here = here
  at_claim P h Spent more stays here = here

  -- entries of another kind stay as many
  module _ (test : Entry → Bool) (none : (k : ℕ) → count_by test (pair_of job k) ≡ 0) where
    pairs_same : (most : ℕ) (h : History) → count_by test (with_pairs most job h) ≡ count_by test h
    pairs_same zero h = refl
    pairs_same (suc most) h =
        at_claim (λ (later : History). count_by test later ≡ count_by test h) h (claimed job h CALLER) (with_pairs most job)
        (λ k. pairs_same most (h ++ pair_of job k) ∙ count_by-append test h (pair_of job k) ∙ omega (arith, none k)) refl

    pub completed_same : (h : History) → count_by test (completed job h) ≡ count_by test h
    completed_same h = pairs_same (size_of job) h

  -- a complete history stays as it is
  done_stays : (h : History) (c : Claimed) (more : History → History) → IsRightClaim job h CALLER c → IsComplete job h → pairs_by c job h more ≡ h
  done_stays h (Work k) more right complete = let on = right.1.passes in let off = complete k in absurd (cc)
  done_stays h AllDone more right complete = refl
  done_stays h Spent more right complete = let no = right.0 in absurd (cc)

  pairs_stay : (most : ℕ) (h : History) → IsComplete job h → with_pairs most job h ≡ h
  pairs_stay zero h complete = refl
  pairs_stay (suc most) h complete = done_stays h (claimed job h CALLER) (with_pairs most job) (claims_are_right job h CALLER) complete

  pub complete_stays : (h : History) → IsComplete job h → completed job h ≡ h
  complete_stays h complete = pairs_stay (size_of job) h complete
