-- Table and stage after the first answer of a number was laid.
use Rattle.std.proofs.Common.{◌≡◌, ℕ, ◌<◌, ◌≤◌, true, false, length, set, get_or, sym, ap, ◌∙◌, ⊎_elim, arith, Option, Some, None, MatchOption, refl}
use Rattle.std.specs.Prelude.{is_some}
use Rattle.std.proofs.lemmas.List.{length-set, get_or-set_same, get_or-set_other}
use Rattle.std.proofs.lemmas.Bool.{cases_eq}
use Rattle.cal_terms.specs.declared.kinds.WordKind.{WordKind}
use Rattle.cal_base.specs.declared.answer.Answer.{Answer}
use Rattle.cal_base.specs.Answers.{Answers, answer_of}
use Rattle.cal_base.specs.After.{least_faulty}
use Rattle.step_laws.proofs.Agreement.{IsWithin, least_faulty_more, least_faulty-le}
use Rattle.progress_table.specs.Progress.{Progress, is_done_in}
use Rattle.step_merge.specs.Staged.{Staged, IsFree}
use Rattle.std.proofs.Common.{List}
use Rattle.ties_commit.specs.Committed.{Agree, CutsAtLeast, LaysFirst, cut_to}

within_set : (xs : Answers) (k : ℕ) (answer : Answer) → answer_of xs k ≡ None → IsWithin xs (set xs k (Some answer))
within_set xs k answer free j other at =
    ⊎_elim
    (λ (same : j ≡ k). absurd (cc (ap (λ i. answer_of xs i) same ∙ free, at)))
    (λ (apart : j ≡ k → ⊥). get_or-set_other xs k j (Some answer) None apart ∙ at)
    (cases_eq j k)

-- further answers don't raise the least faulty number
least_of_laid : (kinds : List WordKind) (xs : Answers) (k : ℕ) (answer : Answer) → answer_of xs k ≡ None → least_faulty kinds (set xs k (Some answer)) ≤ least_faulty kinds xs
least_of_laid kinds xs k answer free = least_faulty_more kinds xs (set xs k (Some answer)) (sym (length-set xs k (Some answer))) (within_set xs k answer free)

least_laid-le : (kinds : List WordKind) (xs : Answers) (k : ℕ) (answer : Answer) → least_faulty kinds xs ≤ length (set xs k (Some answer))
least_laid-le kinds xs k answer = omega (arith, least_faulty-le kinds xs, length-set xs k (Some answer))

-- the bound after a cut at the least fault, if there is one
cut_is : (kinds : List WordKind) (xs : Answers) (k bound : ℕ) (answer : Answer) (found : Option ℕ) → answer_of xs k ≡ None → bound ≡ least_faulty kinds xs
    → MatchOption found (least_faulty kinds (set xs k (Some answer)) ≡ length (set xs k (Some answer))) (λ f. (f < length (set xs k (Some answer))) × (least_faulty kinds (set xs k (Some answer)) ≡ f))
    → cut_to bound found ≡ least_faulty kinds (set xs k (Some answer))
cut_is kinds xs k bound answer None free was is = omega (arith, least_of_laid kinds xs k answer free, least_laid-le kinds xs k answer)
cut_is kinds xs k bound answer (Some f) free was is = omega (arith, least_of_laid kinds xs k answer free, is.1)

module _ (table : Progress) (stage : Staged) (answers : Answers) (agree : Agree table stage answers) (k : ℕ) where
  -- who is not done is free
  pub is_free : is_done_in table k ≡ false → IsFree stage k
  is_free undone = agree.stands.flags k ∙ (sym (agree.done k) ∙ undone)

  none_yet : is_done_in table k ≡ false → answer_of answers k ≡ None
  none_yet undone = nothing (answer_of answers k) (sym (agree.done k) ∙ undone)
    where
      nothing : (answer : Option Answer) → is_some answer ≡ false → answer ≡ None
      nothing None e = refl
      nothing (Some answer) e = absurd (cc)

  module _ (answer : Answer) (later : Progress) (then : Staged) (within : k < length table.claims) (undone : is_done_in table k ≡ false) (first : LaysFirst table stage k answer later then) where
    done_now : (j : ℕ) → get_or (set table.done k true) j false ≡ is_some (answer_of (set answers k (Some answer)) j)
    done_now j =
        ⊎_elim
        (λ (same : j ≡ k).
        let here : get_or (set table.done k true) k false ≡ true = get_or-set_same table.done k true false (omega (arith, agree.flags, within)) in
        let there : answer_of (set answers k (Some answer)) k ≡ Some answer = get_or-set_same answers k (Some answer) None (omega (arith, agree.size, agree.stands.size, within)) in
        ap (λ i. get_or (set table.done k true) i false) same ∙ (here ∙ (sym (ap (λ o. is_some o) there) ∙ ap (λ i. is_some (answer_of (set answers k (Some answer)) i)) (sym same))))
        (λ (apart : j ≡ k → ⊥).
        get_or-set_other table.done k j true false apart ∙ (agree.done j ∙ sym (ap (λ o. is_some o) (get_or-set_other answers k j (Some answer) None apart))))
        (cases_eq j k)

    -- they agree after the first answer too
    pub agree_first : CutsAtLeast then table.bound later.bound → Agree later then (set answers k (Some answer))
    agree_first cuts = record {
      size = ap (λ l. length l) first.lays.laid ∙ (length-set stage.laid k true ∙ (agree.size ∙ ap (λ c. length c) (sym first.claims)));
      flags = ap (λ d. length d) first.done ∙ (length-set table.done k true ∙ (agree.flags ∙ ap (λ c. length c) (sym first.claims)));
      stands = first.lays.lays answers agree.stands;
      done = λ j. ap (λ d. get_or d j false) first.done ∙ done_now j;
      bound =
          let was : table.bound ≡ least_faulty then.kinds answers = agree.bound ∙ ap (λ ks. least_faulty ks answers) (sym first.lays.kinds) in
          let found = cuts.1 (set answers k (Some answer)) (first.lays.lays answers agree.stands) in
          cuts.2 ∙ cut_is then.kinds answers k table.bound answer cuts.0 (none_yet undone) was found;
    }
