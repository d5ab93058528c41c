-- Each first arrival of a legal history was claimed.
use Rattle.std.proofs.Common.{◌≡◌, ℕ, zero, suc, ◌+◌, ◌<◌, ◌≤◌, Bool, true, false, not, cond, ◌&&◌, ltb, eqb, [], ◌∷◌, ◌++◌, refl, sym, ap, ◌∙◌, arith, ⊎_elim}
use Rattle.std.specs.Prelude.{if◌then◌else◌}
use Rattle.std.specs.List.{count_by}
use Rattle.std.proofs.lemmas.Bool.{cases_eq, cases_lt, ne_eqb, lt-ltb}
use Rattle.cal_base.specs.declared.step.Verdict.{Verdict}
use Rattle.cal_base.specs.declared.step.Verdict.TheVariants.{First, Again, Stale, Unasked, Full}
use Rattle.cal_base.specs.declared.step.Entry.{Entry}
use Rattle.cal_base.specs.declared.step.Entry.TheVariants.{Claim, Arrive}
use Rattle.cal_base.specs.History.{History, anyone, is_worker, is_caller, is_claim, is_first, claims_of, claims_by, is_delivered}
use Rattle.cal_base.specs.Claims.{StepJob, size_of, MayArrive, MayFollow, IsLegal}
use Rattle.step_laws.proofs.Histories.{count_by-push, kept_along}
use Rattle.step_laws.proofs.Growth.{delivered_at, delivered_apart, delivered_no_more}
use Rattle.step_laws.proofs.StepLaws.{are_bounded}
use Rattle.step_laws.proofs.Counting.{one, one_false, count_below, count_le, count_same, count_more}
use Rattle.calypso_engine.specs.Traces.{is_first_arrival}

-- ---- counts below a bound

count_none : (n : ℕ) (test : ℕ → Bool) → ((k : ℕ) → test k ≡ false) → count_below n test ≡ 0
count_none zero test none = refl
count_none (suc n) test none = omega (arith, ap one (none n), one_false, count_none n test none)

one_more : (b : Bool) → one b ≤ 1
one_more b = omega (arith, count_le 1 (λ (_ : ℕ). b))

-- where one number alone may pass besides
count_one_more : (n : ℕ) (p q : ℕ → Bool) (k : ℕ) → ((j : ℕ) → (j ≡ k → ⊥) → q j ≡ p j) → count_below n q ≤ count_below n p + 1
count_one_more zero p q k others = omega arith
count_one_more (suc n) p q k others =
    ⊎_elim
    (λ (e : n ≡ k). omega (arith, one_more (q n), count_same n q p (λ j h. others j (λ e2. absurd (below_itself j n (omega (arith, h, e2, e)))))))
    (λ (apart : n ≡ k → ⊥). omega (arith, ap one (others n apart), count_one_more n p q k others))
    (cases_eq n k)
  where
    below_itself : (j n : ℕ) → suc j ≤ j → ⊥
    below_itself j n h = omega (arith, h)

-- ---- what a first verdict says

first_means : (full stale unasked again : Bool) → (if full then Full else (if stale then Stale else (if unasked then Unasked else (if again then Again else First)))) ≡ First
    → (stale ≡ false) × (unasked ≡ false) × (again ≡ false)
first_means true stale unasked again e = absurd (cc)
first_means false true unasked again e = absurd (cc)
first_means false false true again e = absurd (cc)
first_means false false false true e = absurd (cc)
first_means false false false false e = (refl, refl, refl)

-- ---- numbers that were claimed and not delivered

module _ (job : StepJob) where
  is_open : History → ℕ → Bool
  is_open history k = not (is_delivered history k) && ltb 0 (claims_of history k)

  record Spare (history : History) : Type 0 where
    spare : count_by is_first_arrival history + count_below (size_of job) (is_open history) ≤ claims_by anyone history

  at_first : Spare []
  unfolding is_open
  at_first = record { spare = omega (arith, count_none (size_of job) (is_open []) (λ k. refl)) }

  -- a claim opens one number at most
  after_claim : (history : History) (who k : ℕ) → Spare history → Spare (history ++ Claim who k ∷ [])
  unfolding is_open
  after_claim history who k before =
      let others : (j : ℕ) → (j ≡ k → ⊥) → is_open (history ++ Claim who k ∷ []) j ≡ is_open history j =
      λ j apart.
      let claims : claims_of (history ++ Claim who k ∷ []) j ≡ claims_of history j =
      count_by-push (is_claim anyone (λ i. eqb i j)) history (Claim who k) ∙ omega (arith, ap {B = ℕ} (λ b. cond b 1 0) (ne_eqb k j (λ e. apart (sym e))))
      in
      let given = delivered_no_more history (Claim who k) j refl in
      λ i. not (given i) && ltb 0 (claims i)
      in
      record {
        spare =
            omega
            (arith, before.spare, count_by-push is_first_arrival history (Claim who k), count_by-push (is_claim anyone anyone) history (Claim who k), count_one_more (size_of job) (is_open history) (is_open (history ++ Claim who k ∷ [])) k others);
      }

  -- a first delivery closes one
  after_first : (history : History) (who step k : ℕ) → MayArrive job history who step k First → Spare history → Spare (history ++ Arrive who step k First ∷ [])
  unfolding is_open
  after_first history who step k may before =
      let later : History = history ++ Arrive who step k First ∷ [] in
      let means = first_means _ _ _ _ may.judged in
      let number : step ≡ job.number = not_before step job.number means.0 may.not_later in
      let claims : (j : ℕ) → claims_of later j ≡ claims_of history j = λ j. count_by-push (is_claim anyone (λ i. eqb i j)) history (Arrive who step k First) ∙ omega arith in
      let off : is_open later k ≡ false = ap (λ b. not b && ltb 0 (claims_of later k)) (delivered_at history who step k) in
      let asked : ltb 0 (claims_of history k) ≡ true = some_claims (claims_of history k) means.1 in
      let on : is_open history k ≡ true = (λ i. not (means.2 i) && asked i) in
      let others : (j : ℕ) → (j ≡ k → ⊥) → is_open history j ≡ is_open later j = λ j apart. let given = delivered_apart history who step k j apart in λ i. not (sym given i) && ltb 0
      (sym (claims j) i) in
      record {
        spare =
            omega (
              arith,
              before.spare,
              count_by-push is_first_arrival history (Arrive who step k First),
              count_by-push (is_claim anyone anyone) history (Arrive who step k First),
              count_more (size_of job) (is_open later) (is_open history) k (may.in_range number) off on others,
            );
      }
    where
      less : (a b : ℕ) → a ≤ b → (a ≡ b → ⊥) → a < b
      less a b le apart = ⊎_elim (λ (l : a < b). l) (λ (g : b ≤ a). absurd (apart (omega (arith, le, g)))) (cases_lt a b)

      not_before : (a b : ℕ) → ltb a b ≡ false → a ≤ b → a ≡ b
      not_before a b e le = ⊎_elim (λ (same : a ≡ b). same) (λ (apart : a ≡ b → ⊥). absurd (cc (lt-ltb a b (less a b le apart), e))) (cases_eq a b)

      some_claims : (n : ℕ) → eqb n 0 ≡ false → ltb 0 n ≡ true
      some_claims zero e = absurd (cc)
      some_claims (suc n) e = lt-ltb 0 (suc n) (omega arith)

  -- other deliveries leave all as it is
  after_other : (history : History) (who step k : ℕ) (verdict : Verdict) → is_first verdict ≡ false → Spare history → Spare (history ++ Arrive who step k verdict ∷ [])
  unfolding is_open
  after_other history who step k verdict none before =
      let later : History = history ++ Arrive who step k verdict ∷ [] in
      let claims : (j : ℕ) → claims_of later j ≡ claims_of history j = λ j. count_by-push (is_claim anyone (λ i. eqb i j)) history (Arrive who step k verdict) ∙ omega arith in
      let same : (j : ℕ) → j < size_of job → is_open later j ≡ is_open history j =
      λ j h. let given = delivered_no_more history (Arrive who step k verdict) j (ap (λ b. b && eqb k j) none) in λ i. not (given i) && ltb 0 (claims j i)
      in
      record {
        spare =
            omega (
              arith,
              before.spare,
              count_by-push is_first_arrival history (Arrive who step k verdict),
              ap {B = ℕ} (λ b. cond b 1 0) none,
              count_by-push (is_claim anyone anyone) history (Arrive who step k verdict),
              count_same (size_of job) (is_open later) (is_open history) same,
            );
      }

  after_entry : (history : History) (entry : Entry) → Spare history → MayFollow job history entry → Spare (history ++ entry ∷ [])
  after_entry history (Claim who k) before may = after_claim history who k before
  after_entry history (Arrive who step k First) before may = after_first history who step k may before
  after_entry history (Arrive who step k Again) before may = after_other history who step k Again refl before
  after_entry history (Arrive who step k Stale) before may = after_other history who step k Stale refl before
  after_entry history (Arrive who step k Unasked) before may = after_other history who step k Unasked refl before
  after_entry history (Arrive who step k Full) before may = after_other history who step k Full refl before

  pub firsts_claimed : (history : History) → IsLegal job history → count_by is_first_arrival history ≤ claims_by is_worker history + claims_by is_caller history
  firsts_claimed history legal =
      let whole = kept_along (MayFollow job) Spare after_entry history at_first legal in
      omega (arith, whole.spare, (are_bounded job history legal).all)
