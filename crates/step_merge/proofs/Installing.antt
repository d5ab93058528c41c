-- What `install` answers.
use Rattle.std.proofs.Common.{◌≡◌, ◌<◌, ◌≤◌, ℕ, length, Option, None, Some, Ok, Err, Bool, true, ◌&&◌, ltb, min, ◌∙◌, sym, ap, ⊎_elim, arith, cond, refl}
use Rattle.std.specs.Prelude.{is_some, MatchOption}
use Rattle.std.specs.Option.{ForSome}
use Rattle.std.specs.List.{position}
use Rattle.std.proofs.lemmas.Bool.{cases_lt, lt-ltb, le-ltb, ltb-true, and_parts}
use Rattle.cal_base.specs.declared.ends.Cause.{Cause}
use Rattle.cal_base.specs.declared.ends.StepFault.{StepFault}
use Rattle.cal_base.specs.declared.ends.StepFault.TheVariants.{Trap, Conflict, Total}
use Rattle.cal_base.specs.declared.answer.Answer.{Answer}
use Rattle.cal_base.specs.declared.answer.Answer.TheVariants.{Update, Fault}
use Rattle.cal_base.specs.Numbers.{least_below}
use Rattle.cal_base.specs.Memory.{Memory, kinds_of, is_ordinary}
use Rattle.cal_base.specs.Answers.{Answers, answer_of, entry_in}
use Rattle.cal_base.specs.After.{first_writer, is_shared, shared_word, after, least_faulty, fault_by, fault_of, merged_memory, is_outside, unless_outside}
use Rattle.step_laws.proofs.Agreement.{after_fault}
use Rattle.step_laws.proofs.Searches.{least_at, below_least, at_least}
use Rattle.step_merge.specs.Staged.{Staged, StandsFor, IsLeastPair, IsLeastFailed, owner_in}
use Rattle.step_merge.specs.Laws.{least_found}
use Rattle.step_merge.specs.Steps.{least_in, fault_of_found, left_by, left_memory}
use Rattle.step_merge.proofs.Streaming.{least_is_kept}
use Rattle.step_merge.proofs.Laying.{answered_within}
use Rattle.step_merge.proofs.Merging.{left_is_after}

-- the first number that passes is the first below a greater bound too
first_below_more : (n k : ℕ) (test : ℕ → Bool) → k ≤ n → least_below k test < k → least_below n test ≡ least_below k test
first_below_more n k test le below = least_at n test (least_below k test) (omega arith) (λ j l. below_least k test j l) (λ _. at_least k test below)

conflict_by : (answer : Option Answer) (k a b j : ℕ) → is_some (entry_in answer b) ≡ true → fault_by answer k a j ≡ Conflict k a j
conflict_by None k a b j h = absurd (cc)
conflict_by (Some (Fault cause)) k a b j h = absurd (cc)
conflict_by (Some (Update update)) k a b j h = λ i. Conflict k a j

module _ (stage : Staged) (answers : Answers) (stands : StandsFor stage answers) where
  -- the fault of a candidate
  conflict_is : (pair : ℕ × ℕ) → IsLeastPair (is_shared stage.kinds answers) (length answers) (length stage.kinds) (Some pair)
      → fault_of stage.kinds answers pair.0 ≡ Conflict pair.0 pair.1 (owner_in stage pair.1)
  unfolding fault_of shared_word
  conflict_is pair least =
      let k = pair.0 in
      let a = pair.1 in
      let outer = and_parts (is_ordinary stage.kinds a) (is_some (entry_in (answer_of answers k) a) && ltb (first_writer answers k a) k) least.2 in
      let inner = and_parts (is_some (entry_in (answer_of answers k) a)) (ltb (first_writer answers k a) k) outer.1 in
      let word : least_below (length stage.kinds) (is_shared stage.kinds answers k) ≡ a =
      least_at (length stage.kinds) (is_shared stage.kinds answers k) a (omega (arith, least.1)) (λ b l. least.4 b l) (λ _. least.2)
      in
      let owner : first_writer answers k a ≡ owner_in stage a =
      sym (first_below_more (length answers) k (λ j. is_some (entry_in (answer_of answers j) a)) (omega (arith, least.0)) (ltb-true _ _ inner.1)) ∙ sym (stands.owner a least.1)
      in
      ap (λ b. fault_by (answer_of answers k) k b (first_writer answers k b)) word
      ∙ (conflict_by (answer_of answers k) k a a (first_writer answers k a) inner.0 ∙ ap (λ j. Conflict k a j) owner)

  trap_is : (k : ℕ) (cause : Cause) → answer_of answers k ≡ Some (Fault cause) → fault_of stage.kinds answers k ≡ Trap k cause
  unfolding fault_of
  trap_is k cause at = ap (λ o. fault_by o k (shared_word stage.kinds answers k) (first_writer answers k (shared_word stage.kinds answers k))) at

  -- the fault that was found is that of the least faulty number
  found_by : (candidate : Option (ℕ × ℕ)) (failed : Option (ℕ × Cause)) (fault : StepFault) → IsLeastPair (is_shared stage.kinds answers) (length answers) (length stage.kinds) candidate
      → IsLeastFailed answers failed
      → fault_of_found candidate failed (owner_in stage) ≡ Some fault
      → (least_found (length answers) candidate failed < length answers) × (fault_of stage.kinds answers (least_found (length answers) candidate failed) ≡ fault)
  found_by None None fault pair failed is = absurd (cc)
  found_by (Some p) None fault pair failed is = (pair.0, conflict_is p pair ∙ (cc))
  found_by None (Some (k, cause)) fault pair failed is = (answered_within answers k (Fault cause) failed.0, trap_is k cause failed.0 ∙ (cc))
  found_by (Some p) (Some (k, cause)) fault pair failed is =
      ⊎_elim
      (λ (l : p.0 < k).
      let at : p.0 ≡ min p.0 k = omega arith in
      let here : Conflict p.0 p.1 (owner_in stage p.1) ≡ fault = let same = ap (λ b. Some (cond b (Conflict p.0 p.1 (owner_in stage p.1)) (Trap k cause))) (sym (lt-ltb p.0 k l)) ∙ is in (cc same) in
      (omega (arith, pair.0), ap (λ j. fault_of stage.kinds answers j) (sym at) ∙ (conflict_is p pair ∙ here)))
      (λ (g : k ≤ p.0).
      let at : k ≡ min p.0 k = omega arith in
      let here : Trap k cause ≡ fault = let same = ap (λ b. Some (cond b (Conflict p.0 p.1 (owner_in stage p.1)) (Trap k cause))) (sym (le-ltb p.0 k g)) ∙ is in (cc same) in
      (omega (arith, pair.0), ap (λ j. fault_of stage.kinds answers j) (sym at) ∙ (trap_is k cause failed.0 ∙ here)))
      (cases_lt p.0 k)

  none_by : (candidate : Option (ℕ × ℕ)) (failed : Option (ℕ × Cause)) → fault_of_found candidate failed (owner_in stage) ≡ None → least_found (length answers) candidate failed ≡ length answers
  none_by None None is = λ i. length answers
  none_by (Some p) None is = absurd (cc)
  none_by None (Some f) is = absurd (cc)
  none_by (Some p) (Some f) is = absurd (cc)

  module _ (memory : Memory) (kinds : stage.kinds ≡ kinds_of memory) where
    pub ends_in_fault : (fault : StepFault) → fault_of_found stage.candidate stage.failed (owner_in stage) ≡ Some fault → after memory answers ≡ Err fault
    ends_in_fault fault is =
        let found = found_by stage.candidate stage.failed fault stands.candidate stands.failed is in
        let least : least_faulty stage.kinds answers ≡ least_found (length answers) stage.candidate stage.failed = least_is_kept stage answers stands in
        let at : least_faulty (kinds_of memory) answers ≡ least_found (length answers) stage.candidate stage.failed = ap (λ ks. least_faulty ks answers) (sym kinds) ∙ least in
        let named : fault_of (kinds_of memory) answers (least_faulty (kinds_of memory) answers) ≡ fault = (λ i. fault_of (sym kinds i) answers (at i)) ∙ found.1 in
        after_fault memory answers (omega (arith, at, found.0)) ∙ ap (λ f. Err f) named

    sound : fault_of_found stage.candidate stage.failed (owner_in stage) ≡ None → after memory answers ≡ unless_outside (position is_outside (merged_memory memory answers))
        (merged_memory memory answers)
    unfolding after
    sound none =
        let at : least_faulty (kinds_of memory) answers ≡ length answers = ap (λ ks. least_faulty ks answers) (sym kinds)
        ∙ (least_is_kept stage answers stands ∙ none_by stage.candidate stage.failed none) in
        ap (λ b. cond b (Err (fault_of (kinds_of memory) answers (least_faulty (kinds_of memory) answers)))
        (unless_outside (position is_outside (merged_memory memory answers)) (merged_memory memory answers))) (le-ltb _ _ (omega (arith, at)))

    pub ends_in_total : (word : ℕ) → fault_of_found stage.candidate stage.failed (owner_in stage) ≡ None → Some word ≡ position is_outside (left_memory (left_by stage) memory)
        → after memory answers ≡ Err (Total word)
    ends_in_total word none found =
        let at : position is_outside (merged_memory memory answers) ≡ Some word = ap (λ m. position is_outside m) (sym (left_is_after stage answers stands memory kinds)) ∙ sym found in
        sound none ∙ ap (λ o. unless_outside o (merged_memory memory answers)) at

    pub ends_merged : (later : Memory) → fault_of_found stage.candidate stage.failed (owner_in stage) ≡ None → None ≡ position is_outside (left_memory (left_by stage) memory)
        → later ≡ left_memory (left_by stage) memory → after memory answers ≡ Ok later
    ends_merged later none inside is =
        let same = left_is_after stage answers stands memory kinds in
        let at : position is_outside (merged_memory memory answers) ≡ None = ap (λ m. position is_outside m) (sym same) ∙ sym inside in
        sound none ∙ (ap (λ o. unless_outside o (merged_memory memory answers)) at ∙ ap (λ m. Ok m) (sym (is ∙ same)))

  pub least_is : MatchOption (least_in stage.candidate stage.failed) (least_faulty stage.kinds answers ≡ length answers) (λ k. (k < length answers) × (least_faulty stage.kinds answers ≡ k))
  least_is = by stage.candidate stage.failed stands.candidate stands.failed (least_is_kept stage answers stands)
    where
      by : (candidate : Option (ℕ × ℕ)) (failed : Option (ℕ × Cause)) → IsLeastPair (is_shared stage.kinds answers) (length answers) (length stage.kinds) candidate → IsLeastFailed answers failed
          → least_faulty stage.kinds answers ≡ least_found (length answers) candidate failed
          → MatchOption (least_in candidate failed) (least_faulty stage.kinds answers ≡ length answers) (λ k. (k < length answers) × (least_faulty stage.kinds answers ≡ k))
      by None None pair fails is = is
      by (Some p) None pair fails is = (pair.0, is)
      by None (Some (k, cause)) pair fails is = (answered_within answers k (Fault cause) fails.0, is)
      by (Some p) (Some (k, cause)) pair fails is = (omega (arith, pair.0), is)

-- the least number that was found is one of the routines
pub least_below_size : (n words : ℕ) (candidate : Option (ℕ × ℕ)) (failed : Option (ℕ × Cause)) → ForSome candidate (λ pair. (pair.0 < n) × (pair.1 < words)) → ForSome failed (λ f. f.0 < n)
    → ForSome (least_in candidate failed) (λ k. k < n)
least_below_size n words None None pair first = λ k is. absurd (cc)
least_below_size n words (Some p) None pair first = λ k is. let same : p.0 ≡ k = cc in omega (arith, (pair p refl).0)
least_below_size n words None (Some f) pair first = λ k is. let same : f.0 ≡ k = cc in omega (arith, first f refl)
least_below_size n words (Some p) (Some f) pair first = λ k is. let same : min p.0 f.0 ≡ k = cc in omega (arith, (pair p refl).0)
