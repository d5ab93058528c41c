-- Each delivery keeps what the core keeps.
use Rattle.std.proofs.Common.{◌≡◌, ◌≢◌, ℕ, zero, suc, ◌+◌, ◌^◌, ◌<◌, ◌≤◌, true, false, cond, ◌&&◌, ltb, eqb, List, [], ◌∷◌, ◌++◌, length, set, get_or, refl, sym, ap, ◌∙◌, subst, ⊎_elim, arith, Some}
use Rattle.std.proofs.Common.{None}
use Rattle.std.specs.Prelude.{slice_get, is_some}
use Rattle.std.specs.List.{sum}
use Rattle.std.proofs.lemmas.List.{length-set, get_or-set_same, get_or-set_other, length_push}
use Rattle.std.proofs.lemmas.Bool.{both_ways, cases_eq, cases_lt, cases_Bool, lt-ltb, le-ltb}
use Rattle.cal_base.specs.declared.step.TheConstants.{CALLER}
use Rattle.cal_base.specs.declared.step.Verdict.{Verdict}
use Rattle.cal_base.specs.declared.step.Verdict.TheVariants.{First, Again, Stale, Unasked, Full}
use Rattle.cal_base.specs.declared.step.Entry.TheVariants.{Arrive}
use Rattle.cal_base.specs.Memory.{kinds_of}
use Rattle.cal_base.specs.declared.answer.Answer.{Answer}
use Rattle.cal_base.specs.Answers.{answer_of, all_of}
use Rattle.cal_base.specs.After.{least_faulty}
use Rattle.cal_base.specs.History.{History, is_worker, is_caller, anyone, is_claim, is_first, claims_by, claims_of, arrivals_by, is_arrival, is_delivered}
use Rattle.cal_base.specs.Claims.{StepJob, size_of, delivered, is_full, verdict_on, MayArrive}
use Rattle.step_laws.proofs.Agreement.{length-restricted_to, answer_of-restricted_to}
use Rattle.step_laws.proofs.Histories.{count_by-push, legal_push}
use Rattle.step_laws.proofs.StepLaws.{one_if}
use Rattle.step_laws.proofs.Growth.{delivered-other, delivered-first, delivered_at, delivered_apart, delivered_no_more, length_is_bounded, arrivals_are_bounded, ArrivalsAreBounded}
use Rattle.progress_table.specs.Progress.{Progress, is_done_in}
use Rattle.step_merge.specs.Staged.{Staged, StandsFor}
use Rattle.ties_commit.specs.Committed.{Agree, AreSame, Commits, LaysFirst, StillAgree, judged, verdict_in}
use Rattle.step_core.specs.Calls.{has_entry}
use Rattle.step_core.specs.Kept.{IsKept}

-- an item past the end is the default
past_end : {A : Type 0} (xs : List A) (i : ℕ) (d : A) → length xs ≤ i → get_or xs i d ≡ d
past_end [] i d le = refl
past_end (x ∷ xs) zero d le = absurd (omega arith)
past_end (x ∷ xs) (suc i) d le = past_end xs i d (omega arith)

has_answer : (xs : List Answer) (k : ℕ) → k < length xs → is_some (answer_of (all_of xs) k) ≡ true
has_answer [] k within = absurd (omega arith)
has_answer (x ∷ xs) zero within = refl
has_answer (x ∷ xs) (suc k) within = has_answer xs k (omega arith)

-- the delivered numbers are those that have an answer
delivered_has : (job : StepJob) (history : History) (k : ℕ) → k < size_of job → is_some (answer_of (delivered job history) k) ≡ is_delivered history k
delivered_has job history k within =
    ap (λ o. is_some o) (answer_of-restricted_to (is_delivered history) job.answers k)
    ∙ (elim (is_delivered history k) as (λ b. is_some (cond b (answer_of (all_of job.answers) k) None) ≡ b) [ true ↦ has_answer job.answers k within | false ↦ refl ])

-- what has an answer is a number of the step
pub within_length : (xs : List Answer) (k : ℕ) (answer : Answer) → slice_get xs k ≡ Some answer → k < length xs
within_length [] k answer at = absurd (cc)
within_length (x ∷ xs) zero answer at = omega arith
within_length (x ∷ xs) (suc k) answer at = omega (arith, within_length xs k answer at)

-- ---- the core

module _ (job : StepJob) (table : Progress) (stage : Staged) (number claims arrivals room : ℕ) (history : History) (kept : IsKept job table stage number claims arrivals room history) where
  pub few_arrivals : arrivals < 2 ^ 31
  few_arrivals =
      let bounded : ArrivalsAreBounded (size_of job) history = arrivals_are_bounded job history kept.legal in
      omega (arith, kept.arrivals_by_workers, kept.small, bounded.workers)

  -- what has an answer is a number of the table
  pub in_table : (k : ℕ) (answer : Answer) → slice_get job.answers k ≡ Some answer → k < length table.claims
  in_table k answer at = omega (arith, kept.size, within_length job.answers k answer at)

  past_size : (k : ℕ) → size_of job ≤ k → is_done_in table k ≡ is_some (answer_of (delivered job history) k)
  past_size k past =
      let none : answer_of (delivered job history) k ≡ None = past_end (delivered job history) k None (omega (arith, past, length-restricted_to (is_delivered history) job.answers)) in
      past_end table.done k false (omega (arith, past, kept.flags)) ∙ sym (ap (λ o. is_some o) none)

  -- table and stage agree on the delivered answers
  pub agree_now : Agree table stage (delivered job history)
  agree_now = record {
    size = kept.laid_so.size ∙ (length-restricted_to (is_delivered history) job.answers ∙ sym kept.size);
    flags = kept.flags ∙ sym kept.size;
    stands = kept.laid_so;
    done = λ k.
        ⊎_elim
        (λ (within : k < size_of job). kept.done_so k within ∙ sym (delivered_has job history k within))
        (λ (past : size_of job ≤ k). past_size k past)
        (cases_lt k (size_of job));
    bound = kept.bounded ∙ ap (λ kinds. least_faulty kinds (delivered job history)) (sym kept.kinds_so);
  }

  -- the verdict by the table
  pub verdict_agrees : (who k : ℕ) → k < size_of job → verdict_in table who arrivals number number k ≡ verdict_on job history who job.number k
  verdict_agrees who k within =
      let a = kept.arrivals_by_workers in
      let s = kept.size in
      let n = kept.numbered in
      let c = kept.claimed_so k within in
      let d = kept.done_so k within in
      λ i. cond (is_full who (a i) (s i)) Full (cond (ltb (n i) (n i)) Stale (cond (eqb (c i) 0) Unasked (cond (d i) Again First)))

  -- a delivery of an older step is judged by the table as by the history
  pub judged_agrees : (who step k : ℕ) (verdict : Verdict) → step < job.number → judged who arrivals (length table.claims) step number ≡ Some verdict → verdict_on job history who step k ≡ verdict
  judged_agrees who step k verdict older is =
      let a = kept.arrivals_by_workers in
      let s = kept.size in
      let full : is_full who arrivals (length table.claims) ≡ is_full who (arrivals_by is_worker history) (size_of job) = (λ i. is_full who (a i) (s i)) in
      let now : ltb step number ≡ true = lt-ltb _ _ (omega (arith, kept.numbered, older)) in
      let was : ltb step job.number ≡ true = lt-ltb _ _ older in
      ⊎_elim
      (λ (on : is_full who arrivals (length table.claims) ≡ true).
      let verdict_is : Full ≡ verdict = let e = (λ i. cond (sym on i) (Some Full) (cond (ltb step number) (Some Stale) None)) ∙ is in (cc e) in
      (λ i. cond ((sym full ∙ on) i) Full (cond (ltb step job.number) Stale (cond (eqb (claims_of history k) 0) Unasked (cond (is_delivered history k) Again First)))) ∙ verdict_is)
      (λ (off : is_full who arrivals (length table.claims) ≡ false).
      let verdict_is : Stale ≡ verdict = let e = (λ i. cond (sym off i) (Some Full) (cond (sym now i) (Some Stale) None)) ∙ is in (cc e) in
      (λ i. cond ((sym full ∙ off) i) Full (cond (was i) Stale (cond (eqb (claims_of history k) 0) Unasked (cond (is_delivered history k) Again First)))) ∙ verdict_is)
      (cases_Bool (is_full who arrivals (length table.claims)))

  -- what is judged so is no first delivery
  pub judged_not_first : (who step : ℕ) (verdict : Verdict) → judged who arrivals (length table.claims) step number ≡ Some verdict → is_first verdict ≡ false
  judged_not_first who step verdict is =
      elim (is_full who arrivals (length table.claims)) as (λ b. cond b (Some Full) (cond (ltb step number) (Some Stale) None) ≡ Some verdict → is_first verdict ≡ false) [
        | true ↦ λ e. let same : Full ≡ verdict = cc in ap is_first (sym same)
        | false ↦ λ e.
            elim (ltb step number) as (λ b. cond b (Some Stale) None ≡ Some verdict → is_first verdict ≡ false) [
              | true ↦ λ e. let same : Stale ≡ verdict = cc in ap is_first (sym same)
              | false ↦ λ e. absurd (cc)
            ] e
      ] is

  -- every delivery of an older step is judged so
  pub judged_some : (who step : ℕ) → step < job.number → judged who arrivals (length table.claims) step number ≡ None → ⊥
  judged_some who step older is =
      let now : ltb step number ≡ true = lt-ltb _ _ (omega (arith, kept.numbered, older)) in
      elim (is_full who arrivals (length table.claims)) as (λ b. cond b (Some Full) (cond (ltb step number) (Some Stale) None) ≡ None → ⊥) [
        | true ↦ λ e. absurd (cc)
        | false ↦ λ e. let e2 = (λ i. cond (sym now i) (Some Stale) None) ∙ e in absurd (cc e2)
      ] is

  -- a delivery of an older step that is not full may come next
  pub may_arrive_held : (who step k : ℕ) (verdict : Verdict) → who < CALLER → step < job.number → k < 2 ^ 32 → judged who arrivals (length table.claims) step number ≡ Some verdict → verdict ≢ Full
      → MayArrive job history who step k verdict
  may_arrive_held who step k verdict worker older small is entered = record {
    known = omega arith;
    not_later = omega arith;
    small = small;
    in_range = λ e. absurd (omega arith);
    judged = judged_agrees who step k verdict older is;
    entered = entered;
    caller_is_current = λ e. absurd (omega arith);
    caller_has_left = λ e. absurd (omega arith);
  }

  -- a delivery of this step that is not full may come next
  pub may_arrive : (value : History) → history ≡ value → (who k : ℕ) (verdict : Verdict) → who ≤ CALLER → k < size_of job → (who ≡ CALLER → arrivals_by is_caller value < size_of job)
      → verdict_on job history who job.number k ≡ verdict → verdict ≢ Full → MayArrive job history who number k verdict
  may_arrive value is who k verdict known within left judged entered = record {
    known = known;
    not_later = omega (arith, kept.numbered);
    small = omega (arith, kept.small);
    in_range = λ _. within;
    judged = ap (λ n. verdict_on job history who n k) kept.numbered ∙ judged;
    entered = entered;
    caller_is_current = λ _. kept.numbered;
    caller_has_left = λ e. rw (ap (λ h. arrivals_by is_caller h) is) (left e);
  }

  pub arrival_fits : (who step k : ℕ) (verdict : Verdict) → MayArrive job history who step k verdict → length history < room
  arrival_fits who step k verdict may =
      omega (arith, kept.has_room, length_push history (Arrive who step k verdict), length_is_bounded job (history ++ Arrive who step k verdict ∷ []) (legal_push job history (Arrive who step k verdict) kept.legal may))

  arrivals_more : (who step k after : ℕ) (verdict : Verdict) → (who < CALLER → after ≡ arrivals + 1) → (CALLER ≤ who → after ≡ arrivals)
      → after ≡ arrivals_by is_worker (history ++ Arrive who step k verdict ∷ [])
  arrivals_more who step k after verdict low high =
      let more : arrivals_by is_worker (history ++ Arrive who step k verdict ∷ []) ≡ arrivals_by is_worker history + one_if (is_worker who) = count_by-push (is_arrival is_worker) history
      (Arrive who step k verdict) in
      ⊎_elim
      (λ (l : who < CALLER). let one : one_if (is_worker who) ≡ 1 = ap one_if (lt-ltb who CALLER l) in omega (arith, more, one, low l, kept.arrivals_by_workers))
      (λ (h : CALLER ≤ who). let nought : one_if (is_worker who) ≡ 0 = ap one_if (le-ltb who CALLER h) in omega (arith, more, nought, high h, kept.arrivals_by_workers))
      (cases_lt who CALLER)

  claims_stay : (who step k j : ℕ) (verdict : Verdict) → claims_of history j ≡ claims_of (history ++ Arrive who step k verdict ∷ []) j
  claims_stay who step k j verdict =
      let more : claims_of (history ++ Arrive who step k verdict ∷ []) j ≡ claims_of history j + 0 = count_by-push (is_claim anyone (λ i. eqb i j)) history (Arrive who step k verdict) in
      omega (arith, more)

  all_claims_stay : (who step k : ℕ) (verdict : Verdict) → claims_by anyone history ≡ claims_by anyone (history ++ Arrive who step k verdict ∷ [])
  all_claims_stay who step k verdict =
      let more : claims_by anyone (history ++ Arrive who step k verdict ∷ []) ≡ claims_by anyone history + 0 = count_by-push (is_claim anyone anyone) history (Arrive who step k verdict) in
      omega (arith, more)

  worker_claims_stay : (who step k : ℕ) (verdict : Verdict) → claims_by is_worker history ≡ claims_by is_worker (history ++ Arrive who step k verdict ∷ [])
  worker_claims_stay who step k verdict =
      let more : claims_by is_worker (history ++ Arrive who step k verdict ∷ []) ≡ claims_by is_worker history + 0 = count_by-push (is_claim is_worker anyone) history (Arrive who step k verdict) in
      omega (arith, more)

  -- a delivery that is no first one keeps it, with table and stage as they are
  pub other_keeps : (who step k after room_after : ℕ) (verdict : Verdict) → MayArrive job history who step k verdict → is_first verdict ≡ false → (who < CALLER → after ≡ arrivals + 1)
      → (CALLER ≤ who → after ≡ arrivals) → room ≤ room_after → IsKept job table stage number claims after room_after (history ++ Arrive who step k verdict ∷ [])
  other_keeps who step k after room_after verdict may none low high grown =
      let same : delivered job (history ++ Arrive who step k verdict ∷ []) ≡ delivered job history = delivered-other job history who step k verdict none in
      record {
        size = kept.size;
        flags = kept.flags;
        small = kept.small;
        numbered = kept.numbered;
        kinds_so = kept.kinds_so;
        claimed_so = λ j l. kept.claimed_so j l ∙ claims_stay who step k j verdict;
        claimed_in_all = kept.claimed_in_all ∙ all_claims_stay who step k verdict;
        done_so = λ j l. kept.done_so j l ∙ sym (delivered_no_more history (Arrive who step k verdict) j (ap (λ b. b && eqb k j) none));
        bounded = kept.bounded ∙ ap (λ a. least_faulty (kinds_of job.opening) a) (sym same);
        laid_so = subst (StandsFor stage) (sym same) kept.laid_so;
        claims_by_workers = kept.claims_by_workers ∙ worker_claims_stay who step k verdict;
        arrivals_by_workers = arrivals_more who step k after verdict low high;
        has_room = omega (arith, kept.has_room);
        legal = legal_push job history (Arrive who step k verdict) kept.legal may;
      }

  -- a first delivery keeps it, where the table notes it and the stage has its answer
  first_keeps : (who k after room_after : ℕ) (answer : Answer) (more : Progress) (later : Staged) → MayArrive job history who number k First → slice_get job.answers k ≡ Some answer
      → LaysFirst table stage k answer more later → Agree more later (set (delivered job history) k (Some answer)) → (who < CALLER → after ≡ arrivals + 1) → (CALLER ≤ who → after ≡ arrivals)
      → room ≤ room_after → IsKept job more later number claims after room_after (history ++ Arrive who number k First ∷ [])
  first_keeps who k after room_after answer more later may at first agree low high grown =
      let within : k < size_of job = within_length job.answers k answer at in
      let next : set (delivered job history) k (Some answer) ≡ delivered job (history ++ Arrive who number k First ∷ []) =
      sym (delivered-first job history who number k answer at)
      in
      let place : later.kinds ≡ kinds_of job.opening = first.lays.kinds ∙ kept.kinds_so in
      record {
        size = ap (λ c. length c) first.claims ∙ kept.size;
        flags = ap (λ d. length d) first.done ∙ (length-set table.done k true ∙ kept.flags);
        small = kept.small;
        numbered = kept.numbered;
        kinds_so = place;
        claimed_so = λ j l. ap (λ c. get_or c j 0) first.claims ∙ (kept.claimed_so j l ∙ claims_stay who number k j First);
        claimed_in_all = ap (λ c. sum c) first.claims ∙ (kept.claimed_in_all ∙ all_claims_stay who number k First);
        done_so = λ j l.
            ap (λ d. get_or d j false) first.done ∙
            ⊎_elim
            (λ (same : j ≡ k).
            let here : get_or (set table.done k true) k false ≡ true = get_or-set_same table.done k true false (omega (arith, kept.flags)) in
            ap (λ i. get_or (set table.done k true) i false) same ∙ (here ∙ (sym (delivered_at history who number k)
            ∙ ap (λ i. is_delivered (history ++ Arrive who number k First ∷ []) i) (sym same))))
            (λ (apart : j ≡ k → ⊥).
            get_or-set_other table.done k j true false apart ∙ (kept.done_so j l ∙ sym (delivered_apart history who number k j apart)))
            (cases_eq j k);
        bounded = agree.bound ∙ (λ i. least_faulty (place i) (next i));
        laid_so = subst (StandsFor later) next agree.stands;
        claims_by_workers = kept.claims_by_workers ∙ worker_claims_stay who number k First;
        arrivals_by_workers = arrivals_more who number k after First low high;
        has_room = omega (arith, kept.has_room);
        legal = legal_push job history (Arrive who number k First) kept.legal may;
      }

  same_keeps : (who k after room_after : ℕ) (verdict : Verdict) (more : Progress) (later : Staged) → MayArrive job history who number k verdict → is_first verdict ≡ false
      → AreSame table stage more later → (who < CALLER → after ≡ arrivals + 1) → (CALLER ≤ who → after ≡ arrivals) → room ≤ room_after
      → IsKept job more later number claims after room_after (history ++ Arrive who number k verdict ∷ [])
  same_keeps who k after room_after verdict more later may none same low high grown =
      let is = other_keeps who number k after room_after verdict may none low high grown in
      rw (same.0, same.1) is

  -- a delivery that was committed keeps it, where it is entered
  pub committed_keeps : (who k after room_after : ℕ) (verdict : Verdict) (answer : Answer) (more : Progress) (later : Staged) → MayArrive job history who number k verdict
      → slice_get job.answers k ≡ Some answer → Commits verdict table stage k answer more later → StillAgree verdict table stage k answer more later → (who < CALLER → after ≡ arrivals + 1)
      → (CALLER ≤ who → after ≡ arrivals) → room ≤ room_after → IsKept job more later number claims after room_after (history ++ Arrive who number k verdict ∷ [])
  committed_keeps who k after room_after First answer more later may at commits agree low high grown = first_keeps who k after room_after answer more later may at commits
      (agree (delivered job history) agree_now) low high grown
  committed_keeps who k after room_after Again answer more later may at commits agree low high grown = same_keeps who k after room_after Again more later may refl commits low high grown
  committed_keeps who k after room_after Stale answer more later may at commits agree low high grown = same_keeps who k after room_after Stale more later may refl commits low high grown
  committed_keeps who k after room_after Unasked answer more later may at commits agree low high grown = same_keeps who k after room_after Unasked more later may refl commits low high grown
  committed_keeps who k after room_after Full answer more later may at commits agree low high grown = absurd (may.entered refl)

  -- a delivery that is not entered changes nothing
  pub full_keeps : (k : ℕ) (answer : Answer) (more : Progress) (later : Staged) → Commits Full table stage k answer more later → IsKept job more later number claims arrivals room history
  full_keeps k answer more later same = rw (same.0, same.1) kept

-- what has an entry is not full
pub not_full : (verdict : Verdict) → has_entry verdict ≡ true → verdict ≢ Full
not_full verdict entered is = absurd (both_ways (has_entry verdict) (ap (λ v. has_entry v) is) entered)
