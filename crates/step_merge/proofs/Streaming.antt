-- Why a stage needs no updates: one writer more changes one candidate.
use Rattle.std.proofs.Common.{◌≡◌, ℕ, zero, suc, ℤ, pos, ◌+ℤ◌, List, [], ◌∷◌, ◌<◌, ◌≤◌, Bool, true, false, ◌&&◌, ◌||◌, ltb, eqb, min, max, cond, inl, inr, ◌⊎◌, refl, sym, ap, ◌∙◌, ⊎_elim, arith}
use Rattle.std.proofs.Common.{length, Option, Some, None}
use Rattle.std.proofs.lemmas.Bool.{cases_lt, cases_eq, cases_Bool, both_ways, lt-ltb, le-ltb, ltb-true, eqb-true, eq-eqb, ne_eqb, and_from, and_parts, or_cases, or_left, or_right}
use Rattle.std.specs.Prelude.{is_some}
use Rattle.std.specs.Option.{unwrap_or}
use Rattle.cal_terms.specs.declared.kinds.WordKind.{WordKind}
use Rattle.cal_base.specs.declared.ends.Cause.{Cause}
use Rattle.cal_base.specs.declared.answer.Answer.{Answer}
use Rattle.cal_base.specs.declared.answer.Answer.TheVariants.{Fault}
use Rattle.cal_base.specs.Answers.{Answers, answer_of, entry_in, is_fault}
use Rattle.cal_base.specs.After.{first_writer, is_shared, shared_word, is_faulty, least_faulty}
use Rattle.step_laws.proofs.Agreement.{least_faulty_at}
use Rattle.step_laws.proofs.Totals.{shifted}
use Rattle.cal_base.specs.Numbers.{least_below}
use Rattle.step_laws.proofs.Searches.{least_below-le, below_least, at_least, least_le, least_at}
use Rattle.step_merge.specs.Staged.{IsLeastPair, IsLeastFailed}
use Rattle.step_merge.specs.Laws.{least_found, LeastIsKept, ValueIsKept, is_second, OwnerRule, CandidateRule, CandidateKept}

pub owner_rule : OwnerRule
owner_rule n x before now within writes =
    let y = least_below n before in
    let le : y ≤ n = least_below-le n before in
    ⊎_elim
    (λ (h : x < y).
    least_at n now (min x y) (omega arith) (λ k l. writes.others k (λ e. omega arith) ∙ below_least n before k (omega arith)) (λ _. let e : min x y ≡ x = omega arith in ap now e ∙ writes.is))
    (λ (h : y ≤ x).
    let there : before y ≡ true = at_least n before (omega arith) in
    let apart : y ≡ x → ⊥ = λ e. both_ways (before x) writes.was (ap before (sym e) ∙ there) in
    least_at n now (min x y) (omega arith) (λ k l. writes.others k (λ e. apart (omega arith)) ∙ below_least n before k (omega arith))
    (λ _. let e : min x y ≡ y = omega arith in ap now e ∙ (writes.others y apart ∙ there)))
    (cases_lt x y)

-- whether somebody below k wrote shows in the owner
by_owner : (n k : ℕ) (wrote : ℕ → Bool) → k < n → ltb (least_below k wrote) k ≡ ltb (least_below n wrote) k
by_owner n k wrote within =
    ⊎_elim
    (λ (h : least_below k wrote < k).
    let passes : wrote (least_below k wrote) ≡ true = at_least k wrote h in
    let le : least_below n wrote ≤ least_below k wrote = least_le n wrote (least_below k wrote) passes in
    lt-ltb _ _ h ∙ sym (lt-ltb _ _ (omega arith)))
    (λ (h : k ≤ least_below k wrote).
    ⊎_elim
    (λ (g : least_below n wrote < k).
    let passes : wrote (least_below n wrote) ≡ true = at_least n wrote (omega arith) in
    absurd (both_ways _ (below_least k wrote (least_below n wrote) (omega arith)) passes))
    (λ (g : k ≤ least_below n wrote). le-ltb _ _ h ∙ sym (le-ltb _ _ g))
    (cases_lt (least_below n wrote) k))
    (cases_lt (least_below k wrote) k)

both_true : (a b : Bool) → a ≡ true → b ≡ true → a ≡ b
both_true a b p q = p ∙ sym q

and_false : (a b : Bool) → b ≡ false → (a && b) ≡ false
and_false true b q = q
and_false false b q = refl

or_false : (a b : Bool) → a ≡ false → b ≡ false → (a || b) ≡ false
or_false a b p q = ap (λ c. c || b) p ∙ q

pub candidate_rule : CandidateRule
candidate_rule n x before now within writes k in_range =
    let y = least_below n before in
    let le : y ≤ n = least_below-le n before in
    let owner : least_below n now ≡ min x y = owner_rule n x before now within writes in
    let left : is_second now k ≡ (now k && ltb (min x y) k) = ap (λ b. now k && b) (by_owner n k now in_range ∙ ap (λ m. ltb m k) owner) in
    let right : is_second before k ≡ (before k && ltb y k) = ap (λ b. before k && b) (by_owner n k before in_range) in
    let apart : y < n → y ≡ x → ⊥ = λ h e. both_ways (before x) writes.was (ap before (sym e) ∙ at_least n before h) in
    let core : (now k && ltb (min x y) k) ≡ ((before k && ltb y k) || (ltb y n && eqb k (max x y))) =
    ⊎_elim
    (λ (same : k ≡ x).
    let wrote : now k ≡ true = ap now same ∙ writes.is in
    let silent : (before k && ltb y k) ≡ false = ap (λ b. b && ltb y k) (ap before same ∙ writes.was) in
    ⊎_elim
    (λ (h : y < x).
    both_true _ _ (and_from _ _ wrote (lt-ltb (min x y) k (omega arith))) (or_right _ _ (and_from _ _ (lt-ltb y n (omega arith)) (eq-eqb k (max x y) (omega arith)))))
    (λ (h : x ≤ y).
    and_false (now k) _ (le-ltb (min x y) k (omega arith))
    ∙ sym (or_false _ _ silent
    (⊎_elim
    (λ (l : y < n). and_false (ltb y n) _ (ne_eqb k (max x y) (λ e. apart l (omega arith))))
    (λ (g : n ≤ y). ap (λ b. b && eqb k (max x y)) (le-ltb y n g))
    (cases_lt y n))))
    (cases_lt y x))
    (λ (other : k ≡ x → ⊥).
    let kept : now k ≡ before k = writes.others k other in
    ⊎_elim
    (λ (wrote : before k ≡ true).
    let low : y ≤ k = least_le n before k wrote in
    ⊎_elim
    (λ (h : y < k). both_true _ _ (and_from _ _ (kept ∙ wrote) (lt-ltb (min x y) k (omega arith))) (or_left _ _ (and_from _ _ wrote (lt-ltb _ _ h))))
    (λ (h : k ≤ y).
    ⊎_elim
    (λ (below : x < k). both_true _ _ (and_from _ _ (kept ∙ wrote) (lt-ltb (min x y) k (omega arith))) (or_right _ _ (and_from _ _ (lt-ltb y n (omega arith)) (eq-eqb k (max x y) (omega arith)))))
    (λ (above : k ≤ x).
    and_false (now k) _ (le-ltb (min x y) k (omega arith)) ∙ sym (or_false _ _ (and_false (before k) _ (le-ltb y k h)) (and_false (ltb y n) _ (ne_eqb k (max x y) (λ e. other (omega arith))))))
    (cases_lt x k))
    (cases_lt y k))
    (λ (silent : before k ≡ false).
    ap (λ b. b && ltb (min x y) k) (kept ∙ silent)
    ∙ sym (or_false _ _ (ap (λ b. b && ltb y k) silent)
    (⊎_elim
    (λ (l : y < n). and_false (ltb y n) _ (ne_eqb k (max x y) (λ e. let is : k ≡ y = omega arith in both_ways (before k) silent (ap before is ∙ at_least n before l))))
    (λ (g : n ≤ y). ap (λ b. b && eqb k (max x y)) (le-ltb y n g))
    (cases_lt y n))))
    (cases_Bool (before k)))
    (cases_eq k x)
    in
    left ∙ (core ∙ ap (λ b. b || (ltb y n && eqb k (max x y))) (sym right))

-- ---- the least faulty number is the lesser of the candidate and of what failed

sound : (kinds : List WordKind) (answers : Answers) (k : ℕ) → is_fault (answer_of answers k) ≡ false → ((a : ℕ) → a < length kinds → is_shared kinds answers k a ≡ false)
    → is_faulty kinds answers k ≡ false
unfolding is_faulty shared_word
sound kinds answers k whole alone =
    or_false _ _ whole
    (le-ltb _ _ (let is : least_below (length kinds) (is_shared kinds answers k) ≡ length kinds = least_at (length kinds) (is_shared kinds answers k) (length kinds) (omega arith) alone
    (λ h. absurd (omega arith)) in omega arith))

shares : (kinds : List WordKind) (answers : Answers) (k a : ℕ) → a < length kinds → is_shared kinds answers k a ≡ true → is_faulty kinds answers k ≡ true
unfolding is_faulty shared_word
shares kinds answers k a within shared =
    let le : least_below (length kinds) (is_shared kinds answers k) ≤ a = least_le (length kinds) (is_shared kinds answers k) a shared in
    or_right _ _ (lt-ltb (least_below (length kinds) (is_shared kinds answers k)) (length kinds) (omega arith))

fails : (kinds : List WordKind) (answers : Answers) (k : ℕ) → is_fault (answer_of answers k) ≡ true → is_faulty kinds answers k ≡ true
unfolding is_faulty
fails kinds answers k fault = or_left _ _ fault

answered_within : (answers : Answers) (k : ℕ) (answer : Answer) → answer_of answers k ≡ Some answer → k < length answers
answered_within [] k answer at = absurd (cc)
answered_within (o ∷ answers) zero answer at = omega arith
answered_within (o ∷ answers) (suc k) answer at = omega (arith, answered_within answers k answer at)

least_of : (kinds : List WordKind) (answers : Answers) (candidate : Option (ℕ × ℕ)) (failed : Option (ℕ × Cause)) → IsLeastPair (is_shared kinds answers) (length answers) (length kinds) candidate
    → IsLeastFailed answers failed → least_faulty kinds answers ≡ least_found (length answers) candidate failed
least_of kinds answers None None alone whole =
    least_faulty_at kinds answers (length answers) (omega arith) (λ k l. sound kinds answers k (whole k) (λ a h. alone k a l h)) (λ h. absurd (omega arith))
least_of kinds answers (Some pair) None alone whole =
    least_faulty_at kinds answers pair.0 (omega (arith, alone.0)) (λ k l. sound kinds answers k (whole k) (λ a h. alone.3 k a l h)) (λ _. shares kinds answers pair.0 pair.1 alone.1 alone.2)
least_of kinds answers None (Some (f, cause)) alone whole =
    let within : f < length answers = answered_within answers f (Fault cause) whole.0 in
    least_faulty_at kinds answers f (omega arith) (λ k l. sound kinds answers k (whole.1 k l) (λ a h. alone k a (omega arith) h)) (λ _. fails kinds answers f (ap is_fault whole.0))
least_of kinds answers (Some pair) (Some (f, cause)) alone whole =
    let within : f < length answers = answered_within answers f (Fault cause) whole.0 in
    least_faulty_at kinds answers (min pair.0 f) (omega (arith, alone.0)) (λ k l. sound kinds answers k (whole.1 k (omega arith)) (λ a h. alone.3 k a (omega arith) h))
    (λ _.
    ⊎_elim
    (λ (h : pair.0 < f). let e : min pair.0 f ≡ pair.0 = omega arith in ap (λ k. is_faulty kinds answers k) e ∙ shares kinds answers pair.0 pair.1 alone.1 alone.2)
    (λ (h : f ≤ pair.0). let e : min pair.0 f ≡ f = omega arith in ap (λ k. is_faulty kinds answers k) e ∙ fails kinds answers f (ap is_fault whole.0))
    (cases_lt pair.0 f))

pub least_is_kept : LeastIsKept
least_is_kept stage answers stands = least_of stage.kinds answers stage.candidate stage.failed stands.candidate stands.failed

pub value_is_kept : ValueIsKept
value_is_kept stage answers stands a value = (
  λ ordinary written. by_entry (entry_in (answer_of answers (first_writer answers (length answers) a)) a) written ∙ sym (stands.value a ordinary),
  λ within tally. shifted answers a value ∙ ap (λ s. value +ℤ s) (sym (stands.sum a within tally)),
)
  where
    by_entry : (o : Option ℤ) → is_some o ≡ true → unwrap_or o value ≡ unwrap_or o (pos 0)
    by_entry None h = absurd (cc)
    by_entry (Some v) h = refl

-- ---- the least candidate

-- what did not pass and is not the new pair does not pass
still_not : (before now : ℕ → ℕ → Bool) (pair : ℕ × ℕ) → ((k a : ℕ) → now k a ≡ (before k a || (eqb k pair.0 && eqb a pair.1))) → (k a : ℕ) → before k a ≡ false → (k ≡ pair.0 → a ≡ pair.1 → ⊥)
    → now k a ≡ false
still_not before now pair more k a none apart =
    more k a ∙ or_false _ _ none
    (⊎_elim
    (λ (same : k ≡ pair.0). and_false (eqb k pair.0) _ (ne_eqb a pair.1 (λ e. apart same e)))
    (λ (other : k ≡ pair.0 → ⊥). ap (λ b. b && eqb a pair.1) (ne_eqb k pair.0 other))
    (cases_eq k pair.0))

new_passes : (before now : ℕ → ℕ → Bool) (pair : ℕ × ℕ) → ((k a : ℕ) → now k a ≡ (before k a || (eqb k pair.0 && eqb a pair.1))) → now pair.0 pair.1 ≡ true
new_passes before now pair more = more pair.0 pair.1 ∙ or_right _ _ (and_from _ _ (eq-eqb pair.0 pair.0 refl) (eq-eqb pair.1 pair.1 refl))

old_passes : (before now : ℕ → ℕ → Bool) (pair : ℕ × ℕ) → ((k a : ℕ) → now k a ≡ (before k a || (eqb k pair.0 && eqb a pair.1))) → (k a : ℕ) → before k a ≡ true → now k a ≡ true
old_passes before now pair more k a is = more k a ∙ or_left _ _ is

lesser_cases : (p q : ℕ × ℕ) → ((ltb p.0 q.0 || (eqb p.0 q.0 && ltb p.1 q.1)) ≡ true → (p.0 < q.0) ⊎ ((p.0 ≡ q.0) × (p.1 < q.1)))
lesser_cases p q h =
    ⊎_elim
    (λ (l : ltb p.0 q.0 ≡ true). inl (ltb-true p.0 q.0 l))
    (λ (r : (eqb p.0 q.0 && ltb p.1 q.1) ≡ true). let both = and_parts _ _ r in inr (eqb-true p.0 q.0 both.0, ltb-true p.1 q.1 both.1))
    (or_cases (ltb p.0 q.0) (eqb p.0 q.0 && ltb p.1 q.1) h)

not_lesser : (p q : ℕ × ℕ) → (ltb p.0 q.0 || (eqb p.0 q.0 && ltb p.1 q.1)) ≡ false → (q.0 ≤ p.0) × (p.0 ≡ q.0 → q.1 ≤ p.1)
not_lesser p q h = (
  ⊎_elim (λ (l : p.0 < q.0). absurd (both_ways _ h (or_left _ _ (lt-ltb p.0 q.0 l)))) (λ (g : q.0 ≤ p.0). g) (cases_lt p.0 q.0),
  λ e. ⊎_elim (λ (l : p.1 < q.1). absurd (both_ways _ h (or_right (ltb p.0 q.0) _ (and_from _ _ (eq-eqb p.0 q.0 e) (lt-ltb p.1 q.1 l))))) (λ (g : q.1 ≤ p.1). g) (cases_lt p.1 q.1),
)

pub candidate_kept : CandidateKept
candidate_kept n words before now None pair within within_words least more = (
  within,
  within_words,
  new_passes before now pair more,
  λ k a l h. still_not before now pair more k a (least k a (omega arith) h) (λ e _. omega arith),
  λ a l. still_not before now pair more pair.0 a (least pair.0 a within (omega arith)) (λ _ e. omega arith),
)
candidate_kept n words before now (Some found) pair within within_words least more =
    elim (ltb pair.0 found.0 || (eqb pair.0 found.0 && ltb pair.1 found.1)) as (λ b. (ltb pair.0 found.0 || (eqb pair.0 found.0 && ltb pair.1 found.1)) ≡ b
    → IsLeastPair now n words (Some (cond b pair found))) [
      | true ↦ λ e.
          let low : pair.0 ≤ found.0 = ⊎_elim (λ (l : pair.0 < found.0). omega arith) (λ (r : (pair.0 ≡ found.0) × (pair.1 < found.1)). omega (arith, r.0)) (lesser_cases pair found e) in (
            within,
            within_words,
            new_passes before now pair more,
            λ k a l h. still_not before now pair more k a (least.3 k a (omega arith) h) (λ e _. omega arith),
            λ a l.
                still_not before now pair more pair.0 a
                (⊎_elim
                (λ (less : pair.0 < found.0). least.3 pair.0 a less (omega arith))
                (λ (r : (pair.0 ≡ found.0) × (pair.1 < found.1)). ap (λ k. before k a) r.0 ∙ least.4 a (omega (arith, r.1)))
                (lesser_cases pair found e))
                (λ _ e. omega arith),
          )
      | false ↦ λ e.
          let not = not_lesser pair found e in (
            least.0,
            least.1,
            old_passes before now pair more found.0 found.1 least.2,
            λ k a l h. still_not before now pair more k a (least.3 k a l h) (λ e _. omega (arith, not.0)),
            λ a l. still_not before now pair more found.0 a (least.4 a l) (λ same e. omega (arith, not.1 (sym same))),
          )
    ] refl
