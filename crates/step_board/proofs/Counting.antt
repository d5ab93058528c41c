-- The books after one event.
use Rattle.std.proofs.Common.{◌≡◌, ◌≢◌, ℕ, ◌+◌, ◌<◌, ◌≤◌, ◌⊎◌, Bool, true, false, cond, ◌&&◌, ltb, leb, eqb, [], ◌∷◌, ◌++◌, refl, sym, ◌∙◌, ap, subst, inl, inr, ⊎_elim, arith}
use Rattle.std.proofs.lemmas.Bool.{cases_lt, cases_Bool, both_ways, lt-ltb, ltb-true, leb-true, leb-false, and_parts}
use Rattle.cal_base.specs.declared.step.TheConstants.{CALLER}
use Rattle.cal_base.specs.declared.step.Entry.{Entry}
use Rattle.cal_base.specs.declared.step.Entry.TheVariants.{Claim, Arrive}
use Rattle.cal_base.specs.declared.step.Claimed.TheVariants.{Work, AllDone, Spent}
use Rattle.cal_base.specs.declared.step.Verdict.{Verdict}
use Rattle.cal_base.specs.declared.step.Verdict.TheVariants.{First, Again, Stale, Unasked, Full}
use Rattle.cal_base.specs.History.{History, is_worker, anyone, is_claim, is_arrival, claims_by, arrivals_by, claims_of, is_delivered}
use Rattle.cal_base.specs.Claims.{StepJob, size_of, claim_bound, arrival_bound, is_wanted, is_full, claimed, verdict_on, IsComplete, IsLegal}
use Rattle.step_laws.specs.Laws.{IsRightClaim}
use Rattle.step_laws.specs.Turns.{after_arrival}
use Rattle.step_laws.proofs.Histories.{count_by-push}
use Rattle.step_laws.proofs.StepLaws.{one_if, claims_are_right, wanted_shrinks, are_bounded}
use Rattle.step_laws.proofs.Growth.{arrivals_are_bounded}
use Rattle.step_laws.proofs.Caller.{alone_claim, alone_arrive}
use Rattle.step_board.specs.Counted.{IsCounted, is_current, is_late, current_arrivals, stale_arrivals}

-- ---- the counts with one entry more

current_push : (history : History) (entry : Entry) → current_arrivals (history ++ entry ∷ []) ≡ current_arrivals history + one_if (is_current entry)
unfolding current_arrivals
current_push history entry = count_by-push is_current history entry

stale_push : (history : History) (entry : Entry) → stale_arrivals (history ++ entry ∷ []) ≡ stale_arrivals history + one_if (is_late entry)
unfolding stale_arrivals
stale_push history entry = count_by-push is_late history entry

pub nothing_entered : (job : StepJob) → IsCounted job [] 0 0 0 0
unfolding current_arrivals stale_arrivals
nothing_entered job = record {
  claims_are = refl;
  arrivals_are = λ within. (refl, refl);
  both = refl;
  past_full = λ past. absurd (omega arith);
  ends_are = λ some. absurd (omega arith);
  no_caller = record { claims = refl; arrivals = refl };
}

-- ---- verdicts

full_is : (full older unasked again : Bool) → cond full Full (cond older Stale (cond unasked Unasked (cond again Again First))) ≡ Full → full ≡ true
full_is true older unasked again is = refl
full_is false true unasked again is = absurd cc
full_is false false true again is = absurd cc
full_is false false false true is = absurd cc
full_is false false false false is = absurd cc

has_room : (full : Bool) (rest verdict : Verdict) → verdict ≡ cond full Full rest → verdict ≢ Full → full ≡ false
has_room true rest verdict is entered = absurd (entered is)
has_room false rest verdict is entered = refl

older_is : (full older unasked again : Bool) → cond full Full (cond older Stale (cond unasked Unasked (cond again Again First))) ≡ Stale → older ≡ true
older_is true older unasked again is = absurd cc
older_is false true unasked again is = refl
older_is false false true again is = absurd cc
older_is false false false true is = absurd cc
older_is false false false false is = absurd cc

full_or_stale : (full older : Bool) (rest verdict : Verdict) → older ≡ true → verdict ≡ cond full Full (cond older Stale rest) → (verdict ≡ Full) ⊎ (verdict ≡ Stale)
full_or_stale true older rest verdict old is = inl is
full_or_stale false older rest verdict old is = inr (is ∙ ap (λ b. cond b Stale rest) old)

module _ {job : StepJob} {history : History} {claims arrivals held ends : ℕ} (counted : IsCounted job history claims arrivals held ends) where
  -- what was complete or spent stays so
  lasts : (entry : Entry) → claims_by is_worker history ≤ claims_by is_worker (history ++ entry ∷ []) → 0 < ends
      → IsComplete job (history ++ entry ∷ []) ⊎ (claim_bound (size_of job) ≤ claims_by is_worker (history ++ entry ∷ []))
  lasts entry more some =
      ⊎_elim
      (λ (complete : IsComplete job history).
      let still : IsComplete job (history ++ entry ∷ []) = λ k.
      ⊎_elim
      (λ (is : is_wanted job (history ++ entry ∷ []) k ≡ true). absurd (both_ways _ (complete k) (wanted_shrinks job history (entry ∷ []) k is)))
      (λ (isnt : is_wanted job (history ++ entry ∷ []) k ≡ false). isnt)
      (cases_Bool (is_wanted job (history ++ entry ∷ []) k))
      in
      inl still)
      (λ (all : claim_bound (size_of job) ≤ claims_by is_worker history). inr (omega (arith, all, more)))
      (counted.ends_are some)

  -- ---- claims

  -- a claim that gives work
  pub counted_work : (who k : ℕ) → who < CALLER → claimed job history who ≡ Work k → IsCounted job (history ++ Claim who k ∷ []) (claims + 1) arrivals held ends
  counted_work who k worker answered =
      let e = Claim who k in
      let w : is_worker who ≡ true = lt-ltb who CALLER worker in
      let more : claims_by is_worker (history ++ e ∷ []) ≡ claims_by is_worker history + one_if (is_worker who && true) = count_by-push (is_claim is_worker anyone) history e in
      let one : one_if (is_worker who && true) ≡ 1 = ap (λ b. one_if (b && true)) w in
      let current : current_arrivals (history ++ e ∷ []) ≡ current_arrivals history + 0 = current_push history e in
      let stale : stale_arrivals (history ++ e ∷ []) ≡ stale_arrivals history + 0 = stale_push history e in
      let all : arrivals_by is_worker (history ++ e ∷ []) ≡ arrivals_by is_worker history + 0 = count_by-push (is_arrival is_worker) history e in
      record {
        claims_are = omega (arith, more, one, counted.claims_are);
        arrivals_are = λ within. (let a = counted.arrivals_are within in (omega (arith, stale, a.0), omega (arith, current, a.1)));
        both = omega (arith, all, stale, current, counted.both);
        past_full = λ past. omega (arith, all, counted.past_full past);
        ends_are = λ some. lasts e (omega (arith, more)) some;
        no_caller = alone_claim history who k worker counted.no_caller;
      }

  -- an end more
  ended : IsComplete job history ⊎ (claim_bound (size_of job) ≤ claims_by is_worker history) → IsCounted job history claims arrivals held (ends + 1)
  ended why = record {
    claims_are = counted.claims_are;
    arrivals_are = counted.arrivals_are;
    both = counted.both;
    past_full = counted.past_full;
    ends_are = λ some. why;
    no_caller = counted.no_caller;
  }

  -- a claim that finds nothing wanted
  pub counted_all_done : (who : ℕ) → claimed job history who ≡ AllDone → IsCounted job history claims arrivals held (ends + 1)
  counted_all_done who answered = ended (inl (subst (IsRightClaim job history who) answered (claims_are_right job history who)))

  -- a claim where the workers have none left
  pub counted_spent : (who : ℕ) → claimed job history who ≡ Spent → IsCounted job history claims arrivals held (ends + 1)
  counted_spent who answered =
      let right : IsRightClaim job history who Spent = subst (IsRightClaim job history who) answered (claims_are_right job history who) in
      ended (inr (leb-true _ _ (and_parts (is_worker who) (leb (claim_bound (size_of job)) (claims_by is_worker history)) right.0).1))

  -- ---- arrivals

  -- where an arrival is entered, fewer calls were counted than the bound
  below : arrivals_by is_worker history < arrival_bound (size_of job) → arrivals + held < arrival_bound (size_of job)
  below room =
      ⊎_elim
      (λ (past : arrival_bound (size_of job) < arrivals + held). absurd (omega (arith, room, counted.past_full past)))
      (λ (within : arrivals + held ≤ arrival_bound (size_of job)). let a = counted.arrivals_are within in omega (arith, room, a.0, a.1, counted.both))
      (cases_lt (arrival_bound (size_of job)) (arrivals + held))

  -- an arrival that is entered, and counted as what it is
  entered : (who step k : ℕ) (verdict : Verdict) (arrivals' held' : ℕ) → who < CALLER → arrivals_by is_worker history < arrival_bound (size_of job)
      → arrivals' ≡ arrivals + one_if (is_current (Arrive who step k verdict)) → held' ≡ held + one_if (is_late (Arrive who step k verdict))
      → one_if (is_current (Arrive who step k verdict)) + one_if (is_late (Arrive who step k verdict)) ≡ 1
      → IsCounted job (history ++ Arrive who step k verdict ∷ []) claims arrivals' held' ends
  entered who step k verdict arrivals' held' worker room a h one =
      let e = Arrive who step k verdict in
      let w : one_if (is_worker who) ≡ 1 = ap one_if (lt-ltb who CALLER worker) in
      let same : claims_by is_worker (history ++ e ∷ []) ≡ claims_by is_worker history + 0 = count_by-push (is_claim is_worker anyone) history e in
      let all : arrivals_by is_worker (history ++ e ∷ []) ≡ arrivals_by is_worker history + one_if (is_worker who) = count_by-push (is_arrival is_worker) history e in
      let current = current_push history e in
      let stale = stale_push history e in
      let few = below room in
      record {
        claims_are = omega (arith, same, counted.claims_are);
        arrivals_are = λ within. (let c = counted.arrivals_are (omega (arith, few)) in (omega (arith, stale, c.0, h), omega (arith, current, c.1, a)));
        both = omega (arith, all, w, stale, current, one, counted.both);
        past_full = λ past. absurd (omega (arith, past, few, a, h, one));
        ends_are = λ some. lasts e (omega (arith, same)) some;
        no_caller = alone_arrive history who step k verdict worker counted.no_caller;
      }

  -- an arrival that is not entered
  refused : (arrivals' held' : ℕ) → arrival_bound (size_of job) ≤ arrivals_by is_worker history → arrivals' + held' ≡ arrivals + held + 1 → IsCounted job history claims arrivals' held' ends
  refused arrivals' held' full one =
      let low : arrival_bound (size_of job) ≤ arrivals + held =
      ⊎_elim
      (λ (past : arrival_bound (size_of job) < arrivals + held). omega (arith, past))
      (λ (within : arrivals + held ≤ arrival_bound (size_of job)). let a = counted.arrivals_are within in omega (arith, full, a.0, a.1, counted.both))
      (cases_lt (arrival_bound (size_of job)) (arrivals + held))
      in
      record {
        claims_are = counted.claims_are;
        arrivals_are = λ within. absurd (omega (arith, within, low, one));
        both = counted.both;
        past_full = λ past. full;
        ends_are = counted.ends_are;
        no_caller = counted.no_caller;
      }

  room_is : (who step k : ℕ) (verdict : Verdict) → who < CALLER → verdict ≡ verdict_on job history who step k → verdict ≢ Full → arrivals_by is_worker history < arrival_bound (size_of job)
  room_is who step k verdict worker is some =
      let none : is_full who (arrivals_by is_worker history) (size_of job) ≡ false = has_room _ _ verdict is some in
      leb-false _ _ (ap (λ b. b && leb (arrival_bound (size_of job)) (arrivals_by is_worker history)) (sym (lt-ltb who CALLER worker)) ∙ none)

  no_room : (who step k : ℕ) → Full ≡ verdict_on job history who step k → arrival_bound (size_of job) ≤ arrivals_by is_worker history
  no_room who step k is =
      let full : is_full who (arrivals_by is_worker history) (size_of job) ≡ true = full_is _ (ltb step job.number) (eqb (claims_of history k) 0) (is_delivered history k) (sym is) in
      leb-true _ _ (and_parts (is_worker who) (leb (arrival_bound (size_of job)) (arrivals_by is_worker history)) full).1

  -- a delivery of this step
  pub counted_arrival : (who k : ℕ) (verdict : Verdict) → who < CALLER → verdict ≡ verdict_on job history who job.number k
      → IsCounted job (after_arrival history who job.number k verdict) claims (arrivals + 1) held ends
  counted_arrival who k First worker is =
      let w : one_if (is_worker who) ≡ 1 = ap one_if (lt-ltb who CALLER worker) in
      entered who job.number k First (arrivals + 1) held worker (room_is who job.number k First worker is (λ e. cc)) (omega (arith, w)) (omega arith) (omega (arith, w))
  counted_arrival who k Again worker is =
      let w : one_if (is_worker who) ≡ 1 = ap one_if (lt-ltb who CALLER worker) in
      entered who job.number k Again (arrivals + 1) held worker (room_is who job.number k Again worker is (λ e. cc)) (omega (arith, w)) (omega arith) (omega (arith, w))
  counted_arrival who k Unasked worker is =
      let w : one_if (is_worker who) ≡ 1 = ap one_if (lt-ltb who CALLER worker) in
      entered who job.number k Unasked (arrivals + 1) held worker (room_is who job.number k Unasked worker is (λ e. cc)) (omega (arith, w)) (omega arith) (omega (arith, w))
  counted_arrival who k Stale worker is =
      let older : ltb job.number job.number ≡ true = older_is (is_full who (arrivals_by is_worker history) (size_of job)) _ (eqb (claims_of history k) 0) (is_delivered history k) (sym is) in
      let less = ltb-true _ _ older in
      absurd (omega (arith, less))
  counted_arrival who k Full worker is = refused (arrivals + 1) held (no_room who job.number k is) (omega arith)

  held_by : (who step k : ℕ) (verdict : Verdict) → who < CALLER → verdict ≡ verdict_on job history who step k → (verdict ≡ Full) ⊎ (verdict ≡ Stale)
      → IsCounted job (after_arrival history who step k verdict) claims arrivals (held + 1) ends
  held_by who step k verdict worker is which =
      ⊎_elim
      (λ (full : verdict ≡ Full). subst (λ v. IsCounted job (after_arrival history who step k v) claims arrivals (held + 1) ends) (sym full)
      (refused arrivals (held + 1) (no_room who step k (sym full ∙ is)) (omega arith)))
      (λ (stale : verdict ≡ Stale).
      let w : one_if (is_worker who) ≡ 1 = ap one_if (lt-ltb who CALLER worker) in
      subst (λ v. IsCounted job (after_arrival history who step k v) claims arrivals (held + 1) ends) (sym stale)
      (entered who step k Stale arrivals (held + 1) worker (room_is who step k Stale worker (sym stale ∙ is) (λ e. cc)) (omega arith) (omega (arith, w)) (omega (arith, w))))
      which

  -- a delivery of an older step
  pub counted_held : (who step k : ℕ) (verdict : Verdict) → who < CALLER → step < job.number → verdict ≡ verdict_on job history who step k
      → IsCounted job (after_arrival history who step k verdict) claims arrivals (held + 1) ends
  counted_held who step k verdict worker older is =
      held_by who step k verdict worker is (full_or_stale (is_full who (arrivals_by is_worker history) (size_of job)) (ltb step job.number) _ verdict (lt-ltb _ _ older) is)

  -- ---- at the end

  -- workers claim no more than the bound
  pub few_claims : IsLegal job history → claims ≤ claim_bound (size_of job)
  few_claims legal = let bounded = are_bounded job history legal in omega (arith, bounded.workers, counted.claims_are)

  -- past the bound, as many arrivals as it are entered
  pub all_arrivals : IsLegal job history → arrival_bound (size_of job) < arrivals + held → arrivals_by is_worker history ≡ arrival_bound (size_of job)
  all_arrivals legal past = let bounded = arrivals_are_bounded job history legal in omega (arith, bounded.workers, counted.past_full past)

  -- an end says that nothing is wanted, or that the workers have made all their claims
  pub ends_tell : IsLegal job history → 0 < ends → IsComplete job history ⊎ (claims_by is_worker history ≡ claim_bound (size_of job))
  ends_tell legal some =
      let bounded = are_bounded job history legal in
      ⊎_elim
      (λ (complete : IsComplete job history). inl complete)
      (λ (all : claim_bound (size_of job) ≤ claims_by is_worker history). inr (omega (arith, bounded.workers, all)))
      (counted.ends_are some)

-- the same counts and history under other names
pub counted_as : {job : StepJob} {history : History} {claims arrivals held ends : ℕ} (history' : History) (claims' arrivals' held' ends' : ℕ)
    → IsCounted job history claims arrivals held ends → history ≡ history' → claims ≡ claims' → arrivals ≡ arrivals' → held ≡ held' → ends ≡ ends'
    → IsCounted job history' claims' arrivals' held' ends'
counted_as {job} {history} {claims} {arrivals} {held} {ends} history' claims' arrivals' held' ends' counted h c a d e =
    subst (λ (x : History). IsCounted job x claims' arrivals' held' ends') h
    (subst (λ (x : ℕ). IsCounted job history x arrivals' held' ends') c
    (subst (λ (x : ℕ). IsCounted job history claims x held' ends') a
    (subst (λ (x : ℕ). IsCounted job history claims arrivals x ends') d
    (subst (λ (x : ℕ). IsCounted job history claims arrivals held x) e counted))))
