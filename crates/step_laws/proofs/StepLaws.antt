-- The laws of a step's history.
use Rattle.std.proofs.Common.{add-zero, MatchOption, ◌≡◌, ℕ, suc, ◌+◌, ◌<◌, ◌≤◌, Bool, true, false, cond, not, ◌&&◌, ltb, leb, eqb, [], ◌∷◌, ◌++◌, length, refl, sym, ap, ◌∙◌, subst, ⊎_elim, arith}
use Rattle.std.proofs.Common.{Option, Some, None}
use Rattle.std.proofs.lemmas.List.{length-map}
use Rattle.std.proofs.lemmas.Bool.{and_right, cases_lt, cases_Bool, both_ways, lt-ltb, le-ltb, ltb-true, ltb-false, leb-false, eqb-true, eq-eqb, ne_eqb, and_parts, and_from, not-true}
use Rattle.cal_base.specs.declared.step.TheConstants.{CALLER}
use Rattle.cal_base.specs.declared.step.Verdict.TheVariants.{First, Again, Stale, Unasked, Full}
use Rattle.cal_base.specs.declared.step.Claimed.TheVariants.{Work}
use Rattle.cal_base.specs.declared.step.Entry.{Entry}
use Rattle.cal_base.specs.declared.step.Entry.TheVariants.{Claim, Arrive}
use Rattle.cal_base.specs.Memory.{kinds_of}
use Rattle.cal_base.specs.Answers.{answer_of, all_of}
use Rattle.cal_base.specs.After.{least_faulty, after}
use Rattle.cal_base.specs.History.{History, is_worker, is_caller, anyone, is_claim, is_first_of, claims_by, claims_of, firsts_of, is_delivered}
use Rattle.cal_base.specs.Claims.{StepJob, is_wanted, is_spent, IsLegal, size_of, claim_bound, delivered, claimed_if, verdict_on, MayFollow, IsComplete}
use Rattle.step_laws.specs.Laws.{PrefixesAreLegal, DeliveredGrows, WantedShrinks, MergedIsMeant, LowerAnswersAgree, NoSecondFirst, EachFirstOnce, ClaimsAreBounded, IsRightClaim, ClaimsAreRight}
use Rattle.step_laws.specs.Laws.{CallerDeliversFirst}
use Rattle.cal_base.specs.Numbers.{lightest_below, IsLightest}
use Rattle.step_laws.proofs.Searches.{lightest_below-is}
use Rattle.step_laws.proofs.Agreement.{least_faulty-le, length-restricted_to, answer_of-restricted_to, restricted_to_all, AgreeBelow, IsWithin, at_least_faulty, not_faulty_without, least_faulty_same}
use Rattle.step_laws.proofs.Agreement.{least_faulty_more, after_same}
use Rattle.step_laws.proofs.Histories.{count_by-append, count_by-push, first_may_follow, kept_along}

-- ---- prefixes

pub prefixes_are_legal : PrefixesAreLegal
prefixes_are_legal job before later legal = first_may_follow (MayFollow job) [] before later legal

pub delivered_grows : DeliveredGrows
delivered_grows before later k h =
    let first : 0 < firsts_of before k = ltb-true 0 (firsts_of before k) h in
    lt-ltb 0 (firsts_of (before ++ later) k) (omega (arith, count_by-append (is_first_of k) before later))

length-delivered : (job : StepJob) (history : History) → length (delivered job history) ≡ size_of job
length-delivered job history = length-restricted_to (is_delivered history) job.answers

-- what was delivered is among what is delivered later
delivered_within : (job : StepJob) (before later : History) → IsWithin (delivered job before) (delivered job (before ++ later))
delivered_within job before later k answer e =
    let here = answer_of-restricted_to (is_delivered before) job.answers k in
    let there = answer_of-restricted_to (is_delivered (before ++ later)) job.answers k in
    let full = answer_of (all_of job.answers) k in
    elim (is_delivered before k) as (λ b. is_delivered before k ≡ b → answer_of (delivered job before) k ≡ cond b full None → answer_of (delivered job (before ++ later)) k ≡ Some answer) [
      | true ↦ λ is at.
          there ∙ (ap (λ b. cond b full None) (delivered_grows before later k is) ∙ (sym at ∙ e))
      | false ↦ λ _ at. absurd (cc (sym at ∙ e))
    ] refl here

pub wanted_shrinks : WantedShrinks
wanted_shrinks job before later k h =
    let parts = and_parts (not (is_delivered (before ++ later) k)) (ltb k (least_faulty (kinds_of job.opening) (delivered job (before ++ later)))) h in
    let below : k < least_faulty (kinds_of job.opening) (delivered job (before ++ later)) = ltb-true _ _ parts.1 in
    let size : length (delivered job before) ≡ length (delivered job (before ++ later)) = length-delivered job before ∙ sym (length-delivered job (before ++ later)) in
    let le : least_faulty (kinds_of job.opening) (delivered job (before ++ later)) ≤ least_faulty (kinds_of job.opening) (delivered job before) =
    least_faulty_more (kinds_of job.opening) _ _ size (delivered_within job before later)
    in
    let unknown : is_delivered before k ≡ false =
    ⊎_elim
    (λ (is : is_delivered before k ≡ true). absurd (both_ways _ (not-true _ parts.0) (delivered_grows before later k is)))
    (λ (isnt : is_delivered before k ≡ false). isnt)
    (cases_Bool (is_delivered before k))
    in
    and_from _ _ (ap not unknown) (lt-ltb _ _ (omega arith))

-- ---- claims

-- what an entry adds to a count
abbrev pub one_if : Bool → ℕ
one_if b = cond b 1 0

pub claimed_work : (o : Option ℕ) (spent : Bool) (k : ℕ) → claimed_if o spent ≡ Work k → (o ≡ Some k) × (spent ≡ false)
claimed_work None spent k e = absurd (cc)
claimed_work (Some j) spent k e =
    elim spent as (λ b. claimed_if (Some j) b ≡ Work k → (Some j ≡ Some k) × (b ≡ false)) [
      | true ↦ λ e. absurd (cc)
      | false ↦ λ e. (cc, refl)
    ] e

pub record AreBounded (n : ℕ) (history : History) : Type 0 where
  pub workers : claims_by is_worker history ≤ claim_bound n
  pub caller : claims_by is_caller history ≤ n
  pub all : claims_by anyone history ≤ claims_by is_worker history + claims_by is_caller history

bounded_step : (job : StepJob) (history : History) (entry : Entry) → AreBounded (size_of job) history → MayFollow job history entry → AreBounded (size_of job) (history ++ entry ∷ [])
bounded_step job history (Claim who k) bounded may =
    let spent : (is_worker who && leb (claim_bound (size_of job)) (claims_by is_worker history)) ≡ false = (claimed_work _ _ k may.answered).1 in
    let workers : claims_by is_worker (history ++ Claim who k ∷ []) ≡ claims_by is_worker history + one_if (is_worker who && true) = count_by-push (is_claim is_worker anyone) history (Claim who k) in
    let caller : claims_by is_caller (history ++ Claim who k ∷ []) ≡ claims_by is_caller history + one_if (is_caller who && true) = count_by-push (is_claim is_caller anyone) history (Claim who k) in
    let all : claims_by anyone (history ++ Claim who k ∷ []) ≡ claims_by anyone history + 1 = count_by-push (is_claim anyone anyone) history (Claim who k) in
    ⊎_elim
    (λ (low : who < CALLER).
    let a : is_worker who ≡ true = lt-ltb who CALLER low in
    let b : is_caller who ≡ false = ne_eqb who CALLER (λ e. omega arith) in
    let one : one_if (is_worker who && true) ≡ 1 = ap (λ x. one_if (x && true)) a in
    let nought : one_if (is_caller who && true) ≡ 0 = ap (λ x. one_if (x && true)) b in
    let left : claims_by is_worker history < claim_bound (size_of job) = leb-false _ _ (ap (λ x. x && leb (claim_bound (size_of job)) (claims_by is_worker history)) (sym a) ∙ spent) in
    record {
      workers = omega (arith, workers, one, left);
      caller = omega (arith, caller, nought, bounded.caller);
      all = omega (arith, all, workers, caller, one, nought, bounded.all);
    })
    (λ (high : CALLER ≤ who).
    let is : who ≡ CALLER = omega (arith, may.known) in
    let a : is_worker who ≡ false = le-ltb who CALLER high in
    let b : is_caller who ≡ true = eq-eqb who CALLER is in
    let nought : one_if (is_worker who && true) ≡ 0 = ap (λ x. one_if (x && true)) a in
    let one : one_if (is_caller who && true) ≡ 1 = ap (λ x. one_if (x && true)) b in
    let left : claims_by is_caller history < size_of job = may.caller_has_left is in
    record {
      workers = omega (arith, workers, nought, bounded.workers);
      caller = omega (arith, caller, one, left);
      all = omega (arith, all, workers, caller, one, nought, bounded.all);
    })
    (cases_lt who CALLER)
bounded_step job history (Arrive who step k verdict) bounded may = record {
  workers = omega (arith, bounded.workers, count_by-push (is_claim is_worker anyone) history (Arrive who step k verdict));
  caller = omega (arith, bounded.caller, count_by-push (is_claim is_caller anyone) history (Arrive who step k verdict));
  all = omega (arith, bounded.all, count_by-push (is_claim is_worker anyone) history (Arrive who step k verdict), count_by-push (is_claim is_caller anyone) history (Arrive who step k verdict), count_by-push (is_claim anyone anyone) history (Arrive who step k verdict));
}

pub are_bounded : (job : StepJob) (history : History) → IsLegal job history → AreBounded (size_of job) history
are_bounded job history legal = kept_along (MayFollow job) (AreBounded (size_of job)) (bounded_step job) history (record { workers = omega arith; caller = omega arith; all = omega arith }) legal

pub claims_are_bounded : ClaimsAreBounded
claims_are_bounded job history legal =
    let h : AreBounded (size_of job) history = are_bounded job history legal in
    omega (arith, h.workers, h.caller, h.all)

-- ---- complete histories

-- in a complete history each number below the least delivered faulty one is delivered
complete_below : (job : StepJob) (history : History) → IsComplete job history → (k : ℕ) → k < least_faulty (kinds_of job.opening) (delivered job history) → is_delivered history k ≡ true
complete_below job history complete k below =
    ⊎_elim
    (λ (is : is_delivered history k ≡ true). is)
    (λ (isnt : is_delivered history k ≡ false). absurd (both_ways _ (complete k) (and_from _ _ (ap not isnt) (lt-ltb _ _ below))))
    (cases_Bool (is_delivered history k))

-- so is that number itself
least_is_delivered : (job : StepJob) (history : History) → least_faulty (kinds_of job.opening) (delivered job history) < size_of job
    → is_delivered history (least_faulty (kinds_of job.opening) (delivered job history)) ≡ true
least_is_delivered job history below =
    let f = least_faulty (kinds_of job.opening) (delivered job history) in
    ⊎_elim
    (λ (is : is_delivered history f ≡ true). is)
    (λ (isnt : is_delivered history f ≡ false).
    let none : answer_of (delivered job history) f ≡ None = answer_of-restricted_to (is_delivered history) job.answers f ∙ ap (λ b. cond b (answer_of (all_of job.answers) f) None) isnt in
    absurd (both_ways _ (not_faulty_without (kinds_of job.opening) (delivered job history) f none)
    (at_least_faulty (kinds_of job.opening) (delivered job history) (omega (arith, length-delivered job history)))))
    (cases_Bool (is_delivered history f))

complete_up_to : (job : StepJob) (history : History) → IsComplete job history → (k : ℕ) → k < size_of job → k ≤ least_faulty (kinds_of job.opening) (delivered job history)
    → is_delivered history k ≡ true
complete_up_to job history complete k within le =
    let f = least_faulty (kinds_of job.opening) (delivered job history) in
    ⊎_elim
    (λ (below : k < f). complete_below job history complete k below)
    (λ (g : f ≤ k).
    let e : f ≡ k = omega arith in
    subst (λ j. is_delivered history j ≡ true) e (least_is_delivered job history (omega arith)))
    (cases_lt k f)

-- a delivered number has its answer
delivered_answer : (job : StepJob) (history : History) (k : ℕ) → is_delivered history k ≡ true → answer_of (delivered job history) k ≡ answer_of (all_of job.answers) k
delivered_answer job history k is = answer_of-restricted_to (is_delivered history) job.answers k ∙ ap (λ b. cond b (answer_of (all_of job.answers) k) None) is

length-all_of : (job : StepJob) → length (all_of job.answers) ≡ size_of job
length-all_of job = length-map job.answers _

-- where nothing that was delivered is faulty, all is delivered
all_delivered : (job : StepJob) (history : History) → IsComplete job history → size_of job ≤ least_faulty (kinds_of job.opening) (delivered job history) → delivered job history ≡ all_of job.answers
all_delivered job history complete le = restricted_to_all (is_delivered history) job.answers (λ k h. complete_below job history complete k (omega arith))

-- the answers agree up to the least delivered faulty number, itself included
agree_up_to : (job : StepJob) (history : History) → IsComplete job history → least_faulty (kinds_of job.opening) (delivered job history) < size_of job
    → AgreeBelow (delivered job history) (all_of job.answers) (suc (least_faulty (kinds_of job.opening) (delivered job history)))
agree_up_to job history complete below j h = delivered_answer job history j (complete_up_to job history complete j (omega arith) (omega arith))

same_size : (job : StepJob) (history : History) → length (delivered job history) ≡ length (all_of job.answers)
same_size job history = length-delivered job history ∙ sym (length-all_of job)

-- the least faulty number is that of what was delivered
least_of_complete : (job : StepJob) (history : History) → IsComplete job history → least_faulty (kinds_of job.opening) (all_of job.answers) ≡ least_faulty (kinds_of job.opening)
    (delivered job history)
least_of_complete job history complete =
    ⊎_elim
    (λ (below : least_faulty (kinds_of job.opening) (delivered job history) < size_of job). least_faulty_same (kinds_of job.opening) _ _ (same_size job history)
    (agree_up_to job history complete below))
    (λ (le : size_of job ≤ least_faulty (kinds_of job.opening) (delivered job history)). ap (λ a. least_faulty (kinds_of job.opening) a) (sym (all_delivered job history complete le)))
    (cases_lt (least_faulty (kinds_of job.opening) (delivered job history)) (size_of job))

pub merged_is_meant : MergedIsMeant
merged_is_meant job history legal complete =
    ⊎_elim
    (λ (below : least_faulty (kinds_of job.opening) (delivered job history) < size_of job).
    after_same job.opening (delivered job history) (all_of job.answers) (same_size job history) (omega (arith, length-delivered job history)) (agree_up_to job history complete below))
    (λ (le : size_of job ≤ least_faulty (kinds_of job.opening) (delivered job history)). ap (λ a. after job.opening a) (all_delivered job history complete le))
    (cases_lt (least_faulty (kinds_of job.opening) (delivered job history)) (size_of job))

pub lower_answers_agree : LowerAnswersAgree
lower_answers_agree job history legal complete k j below le =
    delivered_answer job history j (complete_below job history complete j (omega (arith, least_of_complete job history complete)))

-- ---- first deliveries

-- of five verdicts in a row, First is the last
last_is_first : (full stale unasked again : Bool) → cond full Full (cond stale Stale (cond unasked Unasked (cond again Again First))) ≡ First → again ≡ false
last_is_first true stale unasked again e = absurd (cc)
last_is_first false true unasked again e = absurd (cc)
last_is_first false false true again e = absurd (cc)
last_is_first false false false true e = absurd (cc)
last_is_first false false false false e = refl

-- a verdict of First is on a number that was not delivered
judged_first : (job : StepJob) (history : History) (who step k : ℕ) → verdict_on job history who step k ≡ First → is_delivered history k ≡ false
judged_first job history who step k e = last_is_first _ _ _ (is_delivered history k) e

first_step : (job : StepJob) (history : History) (entry : Entry) → ((k : ℕ) → firsts_of history k ≤ 1) → MayFollow job history entry → (k : ℕ) → firsts_of (history ++ entry ∷ []) k ≤ 1
first_step job history (Claim who j) once may k = omega (arith, once k, count_by-push (is_first_of k) history (Claim who j))
first_step job history (Arrive who step j First) once may k =
    let more : firsts_of (history ++ Arrive who step j First ∷ []) k ≡ firsts_of history k + one_if (eqb j k) = count_by-push (is_first_of k) history (Arrive who step j First) in
    ⊎_elim
    (λ (is : eqb j k ≡ true).
    let same : j ≡ k = eqb-true j k is in
    let none : is_delivered history k ≡ false = ap (λ i. is_delivered history i) (sym same) ∙ judged_first job history who step j may.judged in
    let zero_before : firsts_of history k ≤ 0 = ltb-false 0 (firsts_of history k) none in
    omega (arith, more, ap one_if is))
    (λ (isnt : eqb j k ≡ false). omega (arith, more, once k, ap one_if isnt))
    (cases_Bool (eqb j k))
first_step job history (Arrive who step j Again) once may k = omega (arith, once k, count_by-push (is_first_of k) history (Arrive who step j Again))
first_step job history (Arrive who step j Stale) once may k = omega (arith, once k, count_by-push (is_first_of k) history (Arrive who step j Stale))
first_step job history (Arrive who step j Unasked) once may k = omega (arith, once k, count_by-push (is_first_of k) history (Arrive who step j Unasked))
first_step job history (Arrive who step j Full) once may k = omega (arith, once k, count_by-push (is_first_of k) history (Arrive who step j Full))

pub no_second_first : NoSecondFirst
no_second_first job history legal = kept_along (MayFollow job) (λ h. (k : ℕ) → firsts_of h k ≤ 1) (first_step job) history (λ k. omega arith) legal

pub each_first_once : EachFirstOnce
each_first_once job history legal complete k within le =
    let is : is_delivered history k ≡ true = complete_up_to job history complete k within (omega (arith, least_of_complete job history complete)) in
    let some : 0 < firsts_of history k = ltb-true 0 (firsts_of history k) is in
    omega (arith, no_second_first job history legal k)

-- ---- the claim rule

pub claims_are_right : ClaimsAreRight
claims_are_right job history who =
    let n = size_of job in
    let spent = is_spent who (claims_by is_worker history) n in
    elim (lightest_below n (is_wanted job history) (claims_of history)) as (λ o. MatchOption o ((j : ℕ) → j < n → is_wanted job history j ≡ false)
    (IsLightest n (is_wanted job history) (claims_of history)) → IsRightClaim job history who (claimed_if o spent)) [
      | None ↦ λ none k.
          ⊎_elim
          (λ (within : k < n). none k within)
          (λ (past : n ≤ k). and_right (not (is_delivered history k)) _ (le-ltb k (least_faulty (kinds_of job.opening) (delivered job history))
          (omega (arith, least_faulty-le (kinds_of job.opening) (delivered job history), length-delivered job history))))
          (cases_lt k n)
      | Some k ↦ λ is.
          elim spent as (λ b. spent ≡ b → IsRightClaim job history who (claimed_if (Some k) b)) [
            | true ↦ λ e. (e, k, is.passes)
            | false ↦ λ e. (e, is)
          ] refl
    ] (lightest_below-is n (is_wanted job history) (claims_of history))

pub caller_delivers_first : CallerDeliversFirst
caller_delivers_first job history k answered =
    let is : MatchOption (Some k) ((j : ℕ) → j < size_of job → is_wanted job history j ≡ false) (IsLightest (size_of job) (is_wanted job history) (claims_of history)) =
    subst (λ o. MatchOption o ((j : ℕ) → j < size_of job → is_wanted job history j ≡ false) (IsLightest (size_of job) (is_wanted job history) (claims_of history))) (claimed_work _ _ k answered).0
    (lightest_below-is (size_of job) (is_wanted job history) (claims_of history))
    in
    let new : is_delivered history k ≡ false = not-true _ (and_parts (not (is_delivered history k)) _ is.passes).0 in
    let firsts : firsts_of (history ++ Claim CALLER k ∷ []) k ≡ firsts_of history k + 0 = count_by-push (is_first_of k) history (Claim CALLER k) in
    let still : is_delivered (history ++ Claim CALLER k ∷ []) k ≡ false = ap (λ n. ltb 0 n) (firsts ∙ add-zero (firsts_of history k)) ∙ new in
    let more : claims_of (history ++ Claim CALLER k ∷ []) k ≡ claims_of history k + one_if (eqb k k) = count_by-push (is_claim anyone (λ j. eqb j k)) history (Claim CALLER k) in
    let one : one_if (eqb k k) ≡ 1 = ap one_if (eq-eqb k k refl) in
    let asked : eqb (claims_of (history ++ Claim CALLER k ∷ []) k) 0 ≡ false = ne_eqb _ 0 (λ e. omega (arith, more, one)) in
    let current : ltb job.number job.number ≡ false = le-ltb _ _ (omega arith) in
    λ i. cond (current i) Stale (cond (asked i) Unasked (cond (still i) Again First))
