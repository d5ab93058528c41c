-- Each call of the core keeps what the core keeps.
use Rattle.std.proofs.Common.{◌≡◌, ℕ, ◌+◌, ◌-◌, ◌^◌, ◌<◌, ◌≤◌, not, ◌&&◌, ltb, eqb, [], ◌∷◌, ◌++◌, length, set, get_or, refl, sym, ap, ◌∙◌, subst, ⊎_elim, arith, cond, Result, Ok, Err, None, true}
use Rattle.std.proofs.Common.{false}
use Rattle.std.specs.List.{sum}
use Rattle.std.proofs.lemmas.List.{length-set, get_or-set_same, get_or-set_other, length_push}
use Rattle.std.proofs.lemmas.List.Sums.{sum_by-set}
use Rattle.std.proofs.lemmas.Bool.{cases_eq, cases_lt, eq-eqb, ne_eqb, lt-ltb, le-ltb, and_right}
use Rattle.cal_base.specs.declared.step.TheConstants.{CALLER}
use Rattle.cal_base.specs.declared.step.Claimed.TheVariants.{Work}
use Rattle.cal_base.specs.declared.step.Entry.TheVariants.{Claim}
use Rattle.cal_base.specs.Numbers.{lightest_below}
use Rattle.cal_base.specs.Memory.{Memory, kinds_of}
use Rattle.cal_base.specs.declared.ends.StepFault.{StepFault}
use Rattle.cal_base.specs.After.{least_faulty, after}
use Rattle.cal_base.specs.History.{History, is_worker, is_caller, anyone, is_claim, claims_by, claims_of, arrivals_by, is_arrival, is_delivered}
use Rattle.cal_base.specs.Claims.{StepJob, size_of, delivered, is_wanted, is_spent, claimed, claimed_if, MayClaim, IsComplete, meant}
use Rattle.step_laws.proofs.Searches.{lightest_below_same, lightest_within}
use Rattle.step_laws.proofs.Agreement.{least_faulty-le, length-restricted_to, answer_of-restricted_to}
use Rattle.cal_base.specs.Answers.{answer_of, all_of, entry_in}
use Rattle.step_laws.proofs.Histories.{count_by-push, legal_push}
use Rattle.step_laws.proofs.StepLaws.{AreBounded, are_bounded, claims_are_bounded, claimed_work, one_if, merged_is_meant}
use Rattle.step_laws.proofs.Growth.{delivered-claim, delivered_no_more, length_is_bounded}
use Rattle.progress_table.specs.Progress.{Progress, claims_in, is_wanted_in, least_wanted_in, with_claim, NothingIsWanted}
use Rattle.eager_claim.specs.Claimed.{claimed_in}
use Rattle.step_merge.specs.Staged.{Staged, StandsFor, Merges, IsUnwritten}
use Rattle.step_core.specs.Calls.{IsEnd}
use Rattle.step_core.specs.Kept.{IsKept}

module _ (job : StepJob) (table : Progress) (stage : Staged) (number claims arrivals room : ℕ) (history : History) (kept : IsKept job table stage number claims arrivals room history) where
  pub wanted_agrees : (k : ℕ) → k < size_of job → is_wanted_in table k ≡ is_wanted job history k
  wanted_agrees k within =
      let done = kept.done_so k within in
      let bound = kept.bounded in
      λ i. not (done i) && ltb k (bound i)

  -- where the table wants nothing, nothing is wanted
  pub complete_so : NothingIsWanted table → IsComplete job history
  complete_so none k =
      ⊎_elim
      (λ (within : k < size_of job). sym (wanted_agrees k within) ∙ none k (omega (arith, kept.size)))
      (λ (past : size_of job ≤ k). and_right (not (is_delivered history k)) _ (le-ltb k (least_faulty (kinds_of job.opening) (delivered job history))
      (omega (arith, least_faulty-le (kinds_of job.opening) (delivered job history), length-restricted_to (is_delivered history) job.answers))))
      (cases_lt k (size_of job))

  -- what is laid, merged into the kinds memory, is what the step means
  pub laid_means : (value : History) → history ≡ value → IsComplete job value → after job.opening (delivered job history) ≡ meant job
  laid_means value is complete = merged_is_meant job history kept.legal (rw is complete)

  -- so the merge ends as the step was meant to
  pub merge_means : (value : History) → history ≡ value → (before later : Memory) → before ≡ job.opening → IsComplete job value → (result : Result (Unit {0}) StepFault)
      → Merges stage before later result → IsEnd (meant job) later result
  merge_means value is before later opened complete (Ok done) merges = sym (laid_means value is complete)
      ∙ (ap (λ m. after m (delivered job history)) (sym opened) ∙ merges (delivered job history) kept.laid_so)
  merge_means value is before later opened complete (Err fault) merges = sym (laid_means value is complete)
      ∙ (ap (λ m. after m (delivered job history)) (sym opened) ∙ merges (delivered job history) kept.laid_so)

  -- the table chooses what the history chooses
  pub least_agrees : least_wanted_in table ≡ lightest_below (size_of job) (is_wanted job history) (claims_of history)
  least_agrees =
      ap (λ n. lightest_below n (is_wanted_in table) (claims_in table)) kept.size
      ∙ lightest_below_same (size_of job) _ _ _ _ wanted_agrees kept.claimed_so

  -- and answers what the history answers
  pub claimed_agrees : (who : ℕ) → claimed_in table who claims ≡ claimed job history who
  claimed_agrees who =
      let least = least_agrees in
      let size = kept.size in
      let count = kept.claims_by_workers in
      λ i. claimed_if (least i) (is_spent who (count i) (size i))

  pub few_claims : sum table.claims < 2 ^ 32 - 1
  few_claims = omega (arith, kept.claimed_in_all, kept.small, claims_are_bounded job history kept.legal)

  pub few_worker_claims : claims < 2 ^ 31
  few_worker_claims =
      let bounded : AreBounded (size_of job) history = are_bounded job history kept.legal in
      omega (arith, kept.claims_by_workers, kept.small, bounded.workers)

  -- a claim that is granted may come next
  pub may_claim : (who k : ℕ) → who ≤ CALLER → (who ≡ CALLER → claims_by is_caller history < size_of job) → claimed_in table who claims ≡ Work k → MayClaim job history who k
  may_claim who k known left answered = record { known = known; answered = sym (claimed_agrees who) ∙ answered; caller_has_left = left }

  -- the same, of the history as a caller sees it
  pub may_claim_at : (value : History) → history ≡ value → (who k : ℕ) → who ≤ CALLER → (who ≡ CALLER → claims_by is_caller value < size_of job) → Work k ≡ claimed_in table who claims
      → MayClaim job history who k
  may_claim_at value is who k known left answered =
      may_claim who k known (λ e. rw (ap (λ h. claims_by is_caller h) is) (left e)) (sym answered)

  pub claimed_agrees_at : (value : History) → history ≡ value → (who : ℕ) → claimed_in table who claims ≡ claimed job value who
  claimed_agrees_at value is who = claimed_agrees who ∙ ap (λ h. claimed job h who) is

  -- there is room for it
  pub claim_fits : (who k : ℕ) → MayClaim job history who k → length history < room
  claim_fits who k may =
      omega (arith, kept.has_room, length_push history (Claim who k), length_is_bounded job (history ++ Claim who k ∷ []) (legal_push job history (Claim who k) kept.legal may))

  claim_within : (who k : ℕ) → MayClaim job history who k → k < size_of job
  claim_within who k may = lightest_within (size_of job) (is_wanted job history) (claims_of history) k (claimed_work _ _ k may.answered).0

  claims_more : (who k : ℕ) → k < size_of job → (j : ℕ) → j < size_of job → claims_in (with_claim table k) j ≡ claims_of (history ++ Claim who k ∷ []) j
  claims_more who k within j within_j =
      let more : claims_of (history ++ Claim who k ∷ []) j ≡ claims_of history j + one_if (eqb k j) = count_by-push (is_claim anyone (λ i. eqb i j)) history (Claim who k) in
      ⊎_elim
      (λ (same : j ≡ k).
      let here : get_or (set table.claims k (get_or table.claims k 0 + 1)) j 0 ≡ get_or table.claims k 0 + 1 = rw same (get_or-set_same table.claims k _ 0 (omega (arith, kept.size))) in
      let one : one_if (eqb k j) ≡ 1 = ap one_if (eq-eqb k j (sym same)) in
      let before : get_or table.claims k 0 ≡ claims_of history j = kept.claimed_so k within ∙ ap (λ i. claims_of history i) (sym same) in
      omega (arith, here, one, more, before))
      (λ (apart : j ≡ k → ⊥).
      let here : get_or (set table.claims k (get_or table.claims k 0 + 1)) j 0 ≡ get_or table.claims j 0 = get_or-set_other table.claims k j _ 0 apart in
      let nought : one_if (eqb k j) ≡ 0 = ap one_if (ne_eqb k j (λ e. apart (sym e))) in
      omega (arith, here, nought, more, kept.claimed_so j within_j))
      (cases_eq j k)

  -- a granted claim keeps it
  pub claim_keeps : (who k after room_after : ℕ) → MayClaim job history who k → (who < CALLER → after ≡ claims + 1) → (CALLER ≤ who → after ≡ claims) → room ≤ room_after
      → IsKept job (with_claim table k) stage number after arrivals room_after (history ++ Claim who k ∷ [])
  claim_keeps who k after room_after may low high grown =
      let within : k < size_of job = claim_within who k may in
      let same : delivered job (history ++ Claim who k ∷ []) ≡ delivered job history = delivered-claim job history who k in
      record {
        size = length-set table.claims k _ ∙ kept.size;
        flags = kept.flags;
        small = kept.small;
        numbered = kept.numbered;
        kinds_so = kept.kinds_so;
        claimed_so = claims_more who k within;
        claimed_in_all =
            let x = get_or table.claims k 0 in
            let more : sum (set table.claims k (x + 1)) + x ≡ sum table.claims + (x + 1) = sum_by-set (λ y. y) table.claims k (x + 1) 0 (omega (arith, kept.size)) in
            let all : claims_by anyone (history ++ Claim who k ∷ []) ≡ claims_by anyone history + 1 = count_by-push (is_claim anyone anyone) history (Claim who k) in
            omega (arith, more, all, kept.claimed_in_all);
        done_so = λ j l. kept.done_so j l ∙ sym (delivered_no_more history (Claim who k) j refl);
        bounded = kept.bounded ∙ ap (λ a. least_faulty (kinds_of job.opening) a) (sym same);
        laid_so = subst (StandsFor stage) (sym same) kept.laid_so;
        claims_by_workers =
            let more : claims_by is_worker (history ++ Claim who k ∷ []) ≡ claims_by is_worker history + one_if (is_worker who && true) = count_by-push (is_claim is_worker anyone) history
            (Claim who k) in
            ⊎_elim
            (λ (l : who < CALLER). let one : one_if (is_worker who && true) ≡ 1 = ap (λ b. one_if (b && true)) (lt-ltb who CALLER l) in omega (arith, more, one, low l, kept.claims_by_workers))
            (λ (h : CALLER ≤ who). let nought : one_if (is_worker who && true) ≡ 0 = ap (λ b. one_if (b && true)) (le-ltb who CALLER h) in omega (arith, more, nought, high h, kept.claims_by_workers))
            (cases_lt who CALLER);
        arrivals_by_workers =
            let more : arrivals_by is_worker (history ++ Claim who k ∷ []) ≡ arrivals_by is_worker history + 0 = count_by-push (is_arrival is_worker) history (Claim who k) in
            omega (arith, more, kept.arrivals_by_workers);
        has_room = omega (arith, kept.has_room);
        legal = legal_push job history (Claim who k) kept.legal may;
      }

  -- a page of which no answer of the job has a word has none of the delivered ones either
  pub still_unwritten : (p : ℕ) → IsUnwritten (all_of job.answers) p → IsUnwritten (delivered job history) p
  still_unwritten p none k a on =
      ap (λ o. entry_in o a) (answer_of-restricted_to (is_delivered history) job.answers k)
      ∙ (elim (is_delivered history k) as (λ b. entry_in (cond b (answer_of (all_of job.answers) k) None) a ≡ None) [ true ↦ none k a on | false ↦ refl ])
