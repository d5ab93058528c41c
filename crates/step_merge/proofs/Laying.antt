-- What a stage stands for after one entry more, and after one answer more.
use Rattle.std.proofs.Common.{◌≡◌, ℕ, zero, suc, ◌+◌, ◌<◌, ◌≤◌, ℤ, pos, ◌+ℤ◌, Bool, true, false, cond, ◌&&◌, ◌||◌, ltb, eqb, min, max, List, [], ◌∷◌, length, set, get_or, refl, sym, ap, ◌∙◌, subst}
use Rattle.std.proofs.Common.{⊎_elim, arith, Option, Some, None}
use Rattle.std.specs.Prelude.{is_some}
use Rattle.std.specs.Option.{unwrap_or}
use Rattle.std.specs.FinMap.{get, insert, empty, get-empty}
use Rattle.std.specs.Ordering.{nat_cmp}
use Rattle.std.proofs.lemmas.Bool.{cases_lt, cases_eq, cases_Bool, both_ways, lt-ltb, le-ltb, ne_eqb, eq-eqb}
use Rattle.std.proofs.lemmas.List.{length-set, get_or-set_same, get_or-set_other, get_or_past}
use Rattle.std.proofs.lemmas.Int.{ints}
use Rattle.cal_terms.specs.declared.kinds.WordKind.{WordKind}
use Rattle.cal_base.specs.declared.ends.Cause.{Cause}
use Rattle.cal_base.specs.declared.answer.Answer.{Answer}
use Rattle.cal_base.specs.declared.answer.Answer.TheVariants.{Update, Fault}
use Rattle.cal_base.specs.Memory.{is_ordinary}
use Rattle.cal_base.specs.Updates.{Written, IsNextFrom}
use Rattle.cal_base.specs.Answers.{Answers, answer_of, entry_in, is_fault}
use Rattle.cal_base.specs.After.{first_writer, is_shared}
use Rattle.cal_base.specs.Numbers.{least_below}
use Rattle.cal_base.proofs.Updates.{IsCopied, get_put, get_put_other, copied_none, copied_more}
use Rattle.step_laws.proofs.Searches.{at_least, least_below_same}
use Rattle.step_laws.proofs.Totals.{add_from, sum_more}
use Rattle.step_laws.proofs.Leaves.{ordinary_within}
use Rattle.step_merge.specs.Staged.{Staged, StandsFor, size_of, is_laid, owner_in, value_in, addend, IsLeastPair, IsLeastFailed, LaysAt}
use Rattle.step_merge.specs.Laws.{is_second, WritesToo, lesser_pair}
use Rattle.step_merge.specs.Steps.{laid_count, candidate_with, with_write, with_sum, with_laid, with_failed, lesser_failed, HasRoom}
use Rattle.step_merge.proofs.Streaming.{owner_rule, candidate_rule, candidate_kept}

pub answered_within : (answers : Answers) (k : ℕ) (answer : Answer) → answer_of answers k ≡ Some answer → k < length answers
answered_within [] k answer at = absurd (cc)
answered_within (o ∷ answers) zero answer at = omega arith
answered_within (o ∷ answers) (suc k) answer at = omega (arith, answered_within answers k answer at)

and_off : (a b : Bool) → b ≡ false → (a && b) ≡ false
and_off true b q = q
and_off false b q = refl

and_on : (a b : Bool) → b ≡ true → (a && b) ≡ a
and_on true b q = q
and_on false b q = refl

or_off : (a b : Bool) → b ≡ false → (a || b) ≡ a
or_off true b q = refl
or_off false b q = q

-- ---- the part of what a stage keeps that is about entries

pub record KeepsEntries (stage : Staged) (answers : Answers) : Type 0 where
  pub owner : (a : ℕ) → a < length stage.kinds → owner_in stage a ≡ first_writer answers (length answers) a
  pub value : (a : ℕ) → is_ordinary stage.kinds a ≡ true → value_in stage a ≡ addend a (answer_of answers (first_writer answers (length answers) a))
  pub sum : (a : ℕ) → a < length stage.kinds → is_ordinary stage.kinds a ≡ false → value_in stage a ≡ add_from a (pos 0) answers
  pub candidate : IsLeastPair (is_shared stage.kinds answers) (length answers) (length stage.kinds) stage.candidate

-- one has the entries of the other
abbrev SameEntries : ℕ → Answers → Answers → Type 0
SameEntries words xs ys = (j a : ℕ) → a < words → entry_in (answer_of ys j) a ≡ entry_in (answer_of xs j) a

writer_same : (xs ys : Answers) (k a : ℕ) → ((j : ℕ) → entry_in (answer_of ys j) a ≡ entry_in (answer_of xs j) a) → first_writer ys k a ≡ first_writer xs k a
writer_same xs ys k a same = least_below_same k _ _ (λ j _. ap (λ o. is_some o) (same j))

sum_same : (xs ys : Answers) (a : ℕ) → length ys ≡ length xs → ((j : ℕ) → entry_in (answer_of ys j) a ≡ entry_in (answer_of xs j) a) → (z : ℤ) → add_from a z ys ≡ add_from a z xs
sum_same [] [] a size same z = refl
sum_same (x ∷ xs) [] a size same z = absurd (omega arith)
sum_same [] (y ∷ ys) a size same z = absurd (omega arith)
sum_same (x ∷ xs) (y ∷ ys) a size same z =
    let here : entry_in y a ≡ entry_in x a = same 0 in
    ap (λ o. add_from a (z +ℤ unwrap_or o (pos 0)) ys) here ∙ sum_same xs ys a (omega arith) (λ j. same (suc j)) (z +ℤ addend a x)

shared_same : (kinds : List WordKind) (xs ys : Answers) (k a : ℕ) → ((j : ℕ) → entry_in (answer_of ys j) a ≡ entry_in (answer_of xs j) a) → is_shared kinds ys k a ≡ is_shared kinds xs k a
shared_same kinds xs ys k a same =
    let here = same k in
    let writer = writer_same xs ys k a same in
    λ i. is_ordinary kinds a && (is_some (here i) && ltb (writer i) k)

pair_same : (p q : ℕ → ℕ → Bool) (n m words : ℕ) (found : Option (ℕ × ℕ)) → m ≡ n → ((k a : ℕ) → a < words → q k a ≡ p k a) → IsLeastPair p n words found → IsLeastPair q m words found
pair_same p q n m words None size same least = λ k a l h. same k a h ∙ least k a (omega arith) h
pair_same p q n m words (Some pair) size same least = (
  omega (arith, least.0),
  least.1,
  same pair.0 pair.1 least.1 ∙ least.2,
  λ k a l h. same k a h ∙ least.3 k a l h,
  λ a l. same pair.0 a (omega (arith, least.1)) ∙ least.4 a l,
)

pub same_entries : (stage : Staged) (xs ys : Answers) → length ys ≡ length xs → SameEntries (length stage.kinds) xs ys → KeepsEntries stage xs → KeepsEntries stage ys
same_entries stage xs ys size same keeps =
    let writer : (a : ℕ) → a < length stage.kinds → first_writer xs (length xs) a ≡ first_writer ys (length ys) a =
    λ a h. sym (ap (λ n. first_writer ys n a) size ∙ writer_same xs ys (length xs) a (λ j. same j a h))
    in
    record {
      owner = λ a h. keeps.owner a h ∙ writer a h;
      value = λ a ordinary.
          let h = ordinary_within stage.kinds a ordinary in
          keeps.value a ordinary
          ∙ (ap (λ o. unwrap_or o (pos 0)) (sym (same (first_writer xs (length xs) a) a h))
          ∙ ap (λ j. addend a (answer_of ys j)) (writer a h));
      sum = λ a h tally. keeps.sum a h tally ∙ sym (sum_same xs ys a size (λ j. same j a h) (pos 0));
      candidate = pair_same (is_shared stage.kinds xs) (is_shared stage.kinds ys) (length xs) (length ys) (length stage.kinds) stage.candidate size
          (λ k a h. shared_same stage.kinds xs ys k a (λ j. same j a h)) keeps.candidate;
    }

-- ---- one entry more

min_at : (owners : List ℕ) (a k d : ℕ) → a < length owners → get_or (cond (ltb k (get_or owners a d)) (set owners a k) owners) a d ≡ min k (get_or owners a d)
min_at owners a k d within =
    ⊎_elim
    (λ (l : k < get_or owners a d).
    ap (λ b. get_or (cond b (set owners a k) owners) a d) (lt-ltb k (get_or owners a d) l) ∙ (get_or-set_same owners a k d within ∙ omega arith))
    (λ (g : get_or owners a d ≤ k).
    ap (λ b. get_or (cond b (set owners a k) owners) a d) (le-ltb k (get_or owners a d) g) ∙ omega arith)
    (cases_lt k (get_or owners a d))

set_other : {A : Type 0} (c : Bool) (xs : List A) (a b : ℕ) (x d : A) → (b ≡ a → ⊥) → get_or (cond c (set xs a x) xs) b d ≡ get_or xs b d
set_other true xs a b x d apart = get_or-set_other xs a b x d apart
set_other false xs a b x d apart = refl

length_if : {A : Type 0} (c : Bool) (xs : List A) (a : ℕ) (x : A) → length (cond c (set xs a x) xs) ≡ length xs
length_if true xs a x = length-set xs a x
length_if false xs a x = refl

value_at_set : (c : Bool) (values : List ℤ) (a : ℕ) (v : ℤ) → a < length values → get_or (cond c (set values a v) values) a (pos 0) ≡ cond c v (get_or values a (pos 0))
value_at_set true values a v within = get_or-set_same values a v (pos 0) within
value_at_set false values a v within = refl

-- number k has these entries, and one more for word a
module _ (stage : Staged) (xs : Answers) (k a : ℕ) (v : ℤ) (kept : Written) (at : answer_of xs k ≡ Some (Update kept)) (free : get kept a ≡ None) (word : a < length stage.kinds)
    (keeps : KeepsEntries stage xs) (size : size_of stage ≡ length xs) (owners : length stage.owners ≡ length stage.kinds) (values : length stage.values ≡ length stage.kinds) where
  ys : Answers
  ys = set xs k (Some (Update (insert kept a v)))

  within : k < length xs
  within = answered_within xs k (Update kept) at

  ys_size : length ys ≡ length xs
  unfolding ys
  ys_size = length-set xs k (Some (Update (insert kept a v)))

  ys_at : answer_of ys k ≡ Some (Update (insert kept a v))
  unfolding ys
  ys_at = get_or-set_same xs k (Some (Update (insert kept a v))) None within

  ys_other : (j : ℕ) → (j ≡ k → ⊥) → answer_of ys j ≡ answer_of xs j
  unfolding ys
  ys_other j apart = get_or-set_other xs k j (Some (Update (insert kept a v))) None apart

  -- the other words' entries stay
  others : (b : ℕ) → (b ≡ a → ⊥) → (j : ℕ) → entry_in (answer_of ys j) b ≡ entry_in (answer_of xs j) b
  others b apart j =
      ⊎_elim
      (λ (same : j ≡ k).
      ap (λ i. entry_in (answer_of ys i) b) same
      ∙ (ap (λ o. entry_in o b) ys_at ∙ (get_put_other kept a v b apart ∙ (sym (ap (λ o. entry_in o b) at) ∙ sym (ap (λ i. entry_in (answer_of xs i) b) same)))))
      (λ (other : j ≡ k → ⊥). ap (λ o. entry_in o b) (ys_other j other))
      (cases_eq j k)

  here_now : entry_in (answer_of ys k) a ≡ Some v
  here_now = ap (λ o. entry_in o a) ys_at ∙ get_put kept a v

  here_before : entry_in (answer_of xs k) a ≡ None
  here_before = ap (λ o. entry_in o a) at ∙ free

  writes : WritesToo (λ j. is_some (entry_in (answer_of xs j) a)) (λ j. is_some (entry_in (answer_of ys j) a)) k
  writes = record {
    was = ap (λ o. is_some o) here_before;
    is = ap (λ o. is_some o) here_now;
    others = λ j apart. ap (λ o. is_some (entry_in o a)) (ys_other j apart);
  }

  owner_now : first_writer ys (length ys) a ≡ min k (owner_in stage a)
  owner_now =
      ap (λ n. first_writer ys n a) ys_size
      ∙ (owner_rule (length xs) k (λ j. is_some (entry_in (answer_of xs j) a)) (λ j. is_some (entry_in (answer_of ys j) a)) within writes
      ∙ ap (λ y. min k y) (sym (keeps.owner a word)))

  owner_other : (b : ℕ) → (b ≡ a → ⊥) → first_writer ys (length ys) b ≡ first_writer xs (length xs) b
  owner_other b apart = ap (λ n. first_writer ys n b) ys_size ∙ writer_same xs ys (length xs) b (others b apart)

  -- whoever owns the word before is another
  not_owner : owner_in stage a ≡ k → ⊥
  not_owner same =
      let is : first_writer xs (length xs) a ≡ k = sym (keeps.owner a word) ∙ same in
      let there : is_some (entry_in (answer_of xs (first_writer xs (length xs) a)) a) ≡ true = at_least (length xs) (λ j. is_some (entry_in (answer_of xs j) a)) (omega (arith, within)) in
      both_ways _ (ap (λ j. is_some (entry_in (answer_of xs j) a)) is ∙ ap (λ o. is_some o) here_before) there

  owners_now : (b : ℕ) → b < length stage.kinds → get_or (cond (ltb k (owner_in stage a)) (set stage.owners a k) stage.owners) b (size_of stage) ≡ first_writer ys (length ys) b
  owners_now b h =
      ⊎_elim
      (λ (same : b ≡ a).
      ap (λ i. get_or (cond (ltb k (owner_in stage a)) (set stage.owners a k) stage.owners) i (size_of stage)) same
      ∙ (min_at stage.owners a k (size_of stage) (omega arith) ∙ (sym owner_now ∙ ap (λ i. first_writer ys (length ys) i) (sym same))))
      (λ (apart : b ≡ a → ⊥).
      set_other (ltb k (owner_in stage a)) stage.owners a b k (size_of stage) apart ∙ (keeps.owner b h ∙ sym (owner_other b apart)))
      (cases_eq b a)

  value_other : (b : ℕ) → (b ≡ a → ⊥) → addend b (answer_of xs (first_writer xs (length xs) b)) ≡ addend b (answer_of ys (first_writer ys (length ys) b))
  value_other b apart =
      ap (λ o. unwrap_or o (pos 0)) (sym (others b apart (first_writer xs (length xs) b))) ∙ ap (λ j. addend b (answer_of ys j)) (sym (owner_other b apart))

  -- ---- an ordinary word

  value_now : is_ordinary stage.kinds a ≡ true → cond (ltb k (owner_in stage a)) v (value_in stage a) ≡ addend a (answer_of ys (first_writer ys (length ys) a))
  value_now ordinary =
      let y = owner_in stage a in
      ⊎_elim
      (λ (l : k < y).
      let is : first_writer ys (length ys) a ≡ k = owner_now ∙ omega arith in
      ap (λ b. cond b v (value_in stage a)) (lt-ltb k y l) ∙ (sym (ap (λ o. unwrap_or o (pos 0)) here_now) ∙ ap (λ j. addend a (answer_of ys j)) (sym is)))
      (λ (g : y ≤ k).
      let is : first_writer ys (length ys) a ≡ y = owner_now ∙ omega arith in
      ap (λ b. cond b v (value_in stage a)) (le-ltb k y g)
      ∙ (keeps.value a ordinary
      ∙ (ap (λ j. addend a (answer_of xs j)) (sym (keeps.owner a word))
      ∙ (ap (λ o. addend a o) (sym (ys_other y not_owner)) ∙ ap (λ j. addend a (answer_of ys j)) (sym is)))))
      (cases_lt k y)

  second_now : (j : ℕ) → is_second (λ i. is_some (entry_in (answer_of ys i) a)) j ≡ (is_second (λ i. is_some (entry_in (answer_of xs i) a)) j ||
      (ltb (owner_in stage a) (size_of stage) && eqb j (max k (owner_in stage a))))
  second_now j =
      let y = owner_in stage a in
      let was : (ℕ → Bool) = λ i. is_some (entry_in (answer_of xs i) a) in
      let now : (ℕ → Bool) = λ i. is_some (entry_in (answer_of ys i) a) in
      let owner : least_below (length xs) was ≡ y = sym (keeps.owner a word) in
      ⊎_elim
      (λ (l : j < length xs).
      candidate_rule (length xs) k was now within writes j l ∙ (λ i. is_second was j || (ltb (owner i) (sym size i) && eqb j (max k (owner i)))))
      (λ (g : length xs ≤ j).
      let none_now : now j ≡ false = ap (λ o. is_some (entry_in o a)) (get_or_past ys j None (omega (arith, ys_size))) in
      let none_before : was j ≡ false = ap (λ o. is_some (entry_in o a)) (get_or_past xs j None g) in
      let off : (ltb y (size_of stage) && eqb j (max k y)) ≡ false =
      ⊎_elim
      (λ (h : y < size_of stage). and_off (ltb y (size_of stage)) _ (ne_eqb j (max k y) (λ e. omega (arith, within))))
      (λ (h : size_of stage ≤ y). ap (λ b. b && eqb j (max k y)) (le-ltb y (size_of stage) h))
      (cases_lt y (size_of stage))
      in
      ap (λ b. b && ltb (least_below j now) j) none_now ∙ sym (λ i. (none_before i && ltb (least_below j was) j) || off i))
      (cases_lt j (length xs))

  -- which pairs pass now
  shared_now : is_ordinary stage.kinds a ≡ true → (j b : ℕ) → is_shared stage.kinds ys j b ≡
      (is_shared stage.kinds xs j b || ((ltb (owner_in stage a) (size_of stage) && eqb j (max k (owner_in stage a))) && eqb b a))
  shared_now ordinary j b =
      let new = ltb (owner_in stage a) (size_of stage) && eqb j (max k (owner_in stage a)) in
      ⊎_elim
      (λ (same : b ≡ a).
      let on : is_ordinary stage.kinds b ≡ true = ap (λ i. is_ordinary stage.kinds i) same ∙ ordinary in
      let second = subst (λ i. is_second (λ x. is_some (entry_in (answer_of ys x) i)) j ≡ (is_second (λ x. is_some (entry_in (answer_of xs x) i)) j || new)) (sym same) (second_now j) in
      ap (λ c. c && is_second (λ x. is_some (entry_in (answer_of ys x) b)) j) on
      ∙ (second
      ∙ (λ i. (sym on i && is_second (λ x. is_some (entry_in (answer_of xs x) b)) j) || sym (and_on new (eqb b a) (eq-eqb b a same)) i)))
      (λ (apart : b ≡ a → ⊥).
      shared_same stage.kinds xs ys j b (others b apart) ∙ sym (or_off _ _ (and_off new _ (ne_eqb b a apart))))
      (cases_eq b a)

  pairs_now : is_ordinary stage.kinds a ≡ true → IsLeastPair (is_shared stage.kinds ys) (length ys) (length stage.kinds) (candidate_with stage k a)
  pairs_now ordinary =
      let y = owner_in stage a in
      ⊎_elim
      (λ (l : y < size_of stage).
      let on : ltb y (size_of stage) ≡ true = lt-ltb y (size_of stage) l in
      let least : IsLeastPair (is_shared stage.kinds ys) (length xs) (length stage.kinds) (Some (lesser_pair stage.candidate (max k y, a))) =
      candidate_kept (length xs) (length stage.kinds) (is_shared stage.kinds xs) (is_shared stage.kinds ys) stage.candidate (max k y, a) (omega (arith, within)) word keeps.candidate
      (λ j b. shared_now ordinary j b ∙ ap (λ c. is_shared stage.kinds xs j b || ((c && eqb j (max k y)) && eqb b a)) on)
      in
      subst (λ o. IsLeastPair (is_shared stage.kinds ys) (length ys) (length stage.kinds) o) (ap (λ c. cond c (Some (lesser_pair stage.candidate (max k y, a))) stage.candidate) (sym on))
      (pair_same (is_shared stage.kinds ys) (is_shared stage.kinds ys) (length xs) (length ys) (length stage.kinds) (Some (lesser_pair stage.candidate (max k y, a))) ys_size (λ _ _ _. refl) least))
      (λ (g : size_of stage ≤ y).
      let off : ltb y (size_of stage) ≡ false = le-ltb y (size_of stage) g in
      subst (λ o. IsLeastPair (is_shared stage.kinds ys) (length ys) (length stage.kinds) o) (ap (λ c. cond c (Some (lesser_pair stage.candidate (max k y, a))) stage.candidate) (sym off))
      (pair_same (is_shared stage.kinds xs) (is_shared stage.kinds ys) (length xs) (length ys) (length stage.kinds) stage.candidate ys_size
      (λ j b h. shared_now ordinary j b ∙ or_off _ _ (ap (λ c. (c && eqb j (max k y)) && eqb b a) off)) keeps.candidate))
      (cases_lt y (size_of stage))

  pub writes_more : is_ordinary stage.kinds a ≡ true → KeepsEntries (with_write stage k a v) (set xs k (Some (Update (insert kept a v))))
  unfolding ys
  writes_more ordinary = record {
    owner = owners_now;
    value = λ b other.
        ⊎_elim
        (λ (same : b ≡ a).
        ap (λ i. get_or (cond (ltb k (owner_in stage a)) (set stage.values a v) stage.values) i (pos 0)) same
        ∙ (value_at_set (ltb k (owner_in stage a)) stage.values a v (omega arith)
        ∙ (value_now ordinary ∙ ap (λ i. addend i (answer_of ys (first_writer ys (length ys) i))) (sym same))))
        (λ (apart : b ≡ a → ⊥).
        set_other (ltb k (owner_in stage a)) stage.values a b v (pos 0) apart ∙ (keeps.value b other ∙ value_other b apart))
        (cases_eq b a);
    sum = λ b h tally.
        let apart : b ≡ a → ⊥ = λ e. both_ways _ tally (ap (λ i. is_ordinary stage.kinds i) e ∙ ordinary) in
        set_other (ltb k (owner_in stage a)) stage.values a b v (pos 0) apart ∙ (keeps.sum b h tally ∙ sym (sum_same xs ys b ys_size (others b apart) (pos 0)));
    candidate = pairs_now ordinary;
  }

  -- ---- a tally word

  pub sums_more : is_ordinary stage.kinds a ≡ false → KeepsEntries (with_sum stage k a v) (set xs k (Some (Update (insert kept a v))))
  unfolding ys
  sums_more tally = record {
    owner = owners_now;
    value = λ b ordinary.
        let apart : b ≡ a → ⊥ = λ e. both_ways _ tally (ap (λ i. is_ordinary stage.kinds i) (sym e) ∙ ordinary) in
        get_or-set_other stage.values a b _ (pos 0) apart ∙ (keeps.value b ordinary ∙ value_other b apart);
    sum = λ b h other.
        ⊎_elim
        (λ (same : b ≡ a).
        ap (λ i. get_or (set stage.values a (value_in stage a +ℤ v)) i (pos 0)) same
        ∙ (get_or-set_same stage.values a (value_in stage a +ℤ v) (pos 0) (omega arith)
        ∙ (ap (λ z. z +ℤ v) (keeps.sum a word tally)
        ∙ (sym (sum_more xs k a (Some (Update (insert kept a v))) v within (ap (λ o. unwrap_or o (pos 0)) here_before) (ap (λ o. unwrap_or o (pos 0)) (get_put kept a v)) (pos 0))
        ∙ ap (λ i. add_from i (pos 0) ys) (sym same)))))
        (λ (apart : b ≡ a → ⊥).
        get_or-set_other stage.values a b _ (pos 0) apart ∙ (keeps.sum b h other ∙ sym (sum_same xs ys b ys_size (others b apart) (pos 0))))
        (cases_eq b a);
    candidate = pair_same (is_shared stage.kinds xs) (is_shared stage.kinds ys) (length xs) (length ys) (length stage.kinds) stage.candidate ys_size
        (λ j b h.
        ⊎_elim
        (λ (same : b ≡ a).
        let off : is_ordinary stage.kinds b ≡ false = ap (λ i. is_ordinary stage.kinds i) same ∙ tally in
        ap (λ c. c && (is_some (entry_in (answer_of ys j) b) && ltb (first_writer ys j b) j)) off ∙ sym (ap (λ c. c && (is_some (entry_in (answer_of xs j) b) && ltb (first_writer xs j b) j)) off))
        (λ (apart : b ≡ a → ⊥). shared_same stage.kinds xs ys j b (others b apart))
        (cases_eq b a))
        keeps.candidate;
  }

-- ---- one answer more

module _ (stage : Staged) (k : ℕ) (in_range : k < size_of stage) (undone : is_laid stage k ≡ false) where
  module _ (xs : Answers) (stands : StandsFor stage xs) (answer : Answer) where
    none_yet : answer_of xs k ≡ None
    none_yet = nothing (answer_of xs k) (sym (stands.flags k) ∙ undone)
      where
        nothing : (o : Option Answer) → is_some o ≡ false → o ≡ None
        nothing None e = refl
        nothing (Some x) e = absurd (cc)

    fits : k < length xs
    fits = omega (arith, stands.size)

    now_at : answer_of (set xs k (Some answer)) k ≡ Some answer
    now_at = get_or-set_same xs k (Some answer) None fits

    now_other : (j : ℕ) → (j ≡ k → ⊥) → answer_of (set xs k (Some answer)) j ≡ answer_of xs j
    now_other j apart = get_or-set_other xs k j (Some answer) None apart

    flags_more : (j : ℕ) → get_or (set stage.laid k true) j false ≡ is_some (answer_of (set xs k (Some answer)) j)
    flags_more j =
        ⊎_elim
        (λ (same : j ≡ k).
        ap (λ i. get_or (set stage.laid k true) i false) same
        ∙ (get_or-set_same stage.laid k true false in_range ∙ (sym (ap (λ o. is_some o) now_at) ∙ ap (λ i. is_some (answer_of (set xs k (Some answer)) i)) (sym same))))
        (λ (apart : j ≡ k → ⊥).
        get_or-set_other stage.laid k j true false apart ∙ (stands.flags j ∙ ap (λ o. is_some o) (sym (now_other j apart))))
        (cases_eq j k)

    keeps_before : KeepsEntries stage xs
    keeps_before = record { owner = stands.owner; value = stands.value; sum = stands.sum; candidate = stands.candidate }

    -- an answer without entries leaves the entries as they are
    no_entry : ((a : ℕ) → entry_in (Some answer) a ≡ None) → KeepsEntries stage (set xs k (Some answer))
    no_entry none =
        same_entries stage xs (set xs k (Some answer)) (length-set xs k (Some answer))
        (λ j a _.
        ⊎_elim
        (λ (same : j ≡ k).
        ap (λ i. entry_in (answer_of (set xs k (Some answer)) i) a) same
        ∙ (ap (λ o. entry_in o a) now_at ∙ (none a ∙ (sym (ap (λ o. entry_in o a) none_yet) ∙ ap (λ i. entry_in (answer_of xs i) a) (sym same)))))
        (λ (apart : j ≡ k → ⊥). ap (λ o. entry_in o a) (now_other j apart))
        (cases_eq j k))
        keeps_before

    other_fault : (j : ℕ) (cause : Cause) → answer_of xs j ≡ Some (Fault cause) → answer_of (set xs k (Some answer)) j ≡ Some (Fault cause)
    other_fault j cause is = now_other j (λ same. absurd (cc (ap (λ i. answer_of xs i) same ∙ none_yet, is))) ∙ is

    sound_still : is_fault (Some answer) ≡ false → (j : ℕ) → is_fault (answer_of xs j) ≡ false → is_fault (answer_of (set xs k (Some answer)) j) ≡ false
    sound_still sound j was =
        ⊎_elim
        (λ (same : j ≡ k). ap (λ i. is_fault (answer_of (set xs k (Some answer)) i)) same ∙ (ap is_fault now_at ∙ sound))
        (λ (apart : j ≡ k → ⊥). ap is_fault (now_other j apart) ∙ was)
        (cases_eq j k)

    failed_still : (found : Option (ℕ × Cause)) → is_fault (Some answer) ≡ false → IsLeastFailed xs found → IsLeastFailed (set xs k (Some answer)) found
    failed_still None sound least = λ j. sound_still sound j (least j)
    failed_still (Some (f, cause)) sound least = (other_fault f cause least.0, λ j l. sound_still sound j (least.1 j l))

    -- the entries are kept whoever is laid
    keeps_laid : KeepsEntries stage (set xs k (Some answer)) → KeepsEntries (with_laid stage k) (set xs k (Some answer))
    keeps_laid keeps = record {
      owner = λ a h. ap (λ n. get_or stage.owners a n) (length-set stage.laid k true) ∙ keeps.owner a h;
      value = keeps.value;
      sum = keeps.sum;
      candidate = keeps.candidate;
    }

    size_more : length (set stage.laid k true) ≡ length (set xs k (Some answer))
    size_more = length-set stage.laid k true ∙ (stands.size ∙ sym (length-set xs k (Some answer)))

  least_failed : (xs : Answers) → StandsFor stage xs → (cause : Cause) (found : Option (ℕ × Cause)) → IsLeastFailed xs found
      → IsLeastFailed (set xs k (Some (Fault cause))) (Some (lesser_failed found k cause))
  least_failed xs stands cause None least = (
    now_at xs stands (Fault cause),
    λ j l. ap is_fault (now_other xs stands (Fault cause) j (λ e. omega arith)) ∙ least j,
  )
  least_failed xs stands cause (Some (f, was)) least =
      ⊎_elim
      (λ (l : k < f).
      subst (λ p. IsLeastFailed (set xs k (Some (Fault cause))) (Some p)) (ap (λ b. cond b (k, cause) (f, was)) (sym (lt-ltb k f l)))
      (now_at xs stands (Fault cause), λ j h. ap is_fault (now_other xs stands (Fault cause) j (λ e. omega arith)) ∙ least.1 j (omega arith)))
      (λ (g : f ≤ k).
      subst (λ p. IsLeastFailed (set xs k (Some (Fault cause))) (Some p)) (ap (λ b. cond b (k, cause) (f, was)) (sym (le-ltb k f g)))
      (other_fault xs stands (Fault cause) f was least.0, λ j h. ap is_fault (now_other xs stands (Fault cause) j (λ e. omega arith)) ∙ least.1 j h))
      (cases_lt k f)

  -- the stage stands for one fault more
  pub fault_more : (xs : Answers) → StandsFor stage xs → (cause : Cause) → StandsFor (with_failed stage k cause) (set xs k (Some (Fault cause)))
  fault_more xs stands cause =
      let keeps = keeps_laid xs stands (Fault cause) (no_entry xs stands (Fault cause) (λ a. refl)) in
      record {
        size = size_more xs stands (Fault cause);
        flags = flags_more xs stands (Fault cause);
        owner = keeps.owner;
        value = keeps.value;
        sum = keeps.sum;
        candidate = keeps.candidate;
        failed = least_failed xs stands cause stage.failed stands.failed;
      }

  -- and for one update without entries more
  pub empty_more : (xs : Answers) → StandsFor stage xs → StandsFor (with_laid stage k) (set xs k (Some (Update empty)))
  empty_more xs stands =
      let keeps = keeps_laid xs stands (Update empty) (no_entry xs stands (Update empty) (λ a. get-empty nat_cmp a)) in
      record {
        size = size_more xs stands (Update empty);
        flags = flags_more xs stands (Update empty);
        owner = keeps.owner;
        value = keeps.value;
        sum = keeps.sum;
        candidate = keeps.candidate;
        failed = failed_still xs stands (Update empty) stage.failed refl stands.failed;
      }

-- ---- an update, entry by entry

set_twice : {A : Type 0} (xs : List A) (k : ℕ) (x y : A) → set (set xs k x) k y ≡ set xs k y
set_twice [] k x y = refl
set_twice (z ∷ xs) zero x y = refl
set_twice (z ∷ xs) (suc k) x y = let rest = set_twice xs k x y in λ i. z ∷ rest i

-- number k has one update in place of another
module _ (xs : Answers) (k : ℕ) (within : k < length xs) (u w : Written) where
  abbrev one : Answers
  one = set xs k (Some (Update u))

  abbrev two : Answers
  two = set xs k (Some (Update w))

  one_at : answer_of one k ≡ Some (Update u)
  one_at = get_or-set_same xs k (Some (Update u)) None within

  two_at : answer_of two k ≡ Some (Update w)
  two_at = get_or-set_same xs k (Some (Update w)) None within

  apart_same : (j : ℕ) → (j ≡ k → ⊥) → answer_of two j ≡ answer_of one j
  apart_same j apart = get_or-set_other xs k j (Some (Update w)) None apart ∙ sym (get_or-set_other xs k j (Some (Update u)) None apart)

  both_by : {B : Type 0} (f : Option Answer → B) → f (Some (Update u)) ≡ f (Some (Update w)) → (j : ℕ) → f (answer_of one j) ≡ f (answer_of two j)
  both_by f same j =
      ⊎_elim
      (λ (e : j ≡ k). ap (λ i. f (answer_of one i)) e ∙ (ap f one_at ∙ (same ∙ (sym (ap f two_at) ∙ ap (λ i. f (answer_of two i)) (sym e)))))
      (λ (apart : j ≡ k → ⊥). ap f (sym (apart_same j apart)))
      (cases_eq j k)

  fault_both : (j : ℕ) (cause : Cause) → answer_of one j ≡ Some (Fault cause) → answer_of two j ≡ Some (Fault cause)
  fault_both j cause is = apart_same j (λ e. absurd (cc (ap (λ i. answer_of one i) e ∙ one_at, is))) ∙ is

  failed_both : (found : Option (ℕ × Cause)) → IsLeastFailed one found → IsLeastFailed two found
  failed_both None least = λ j. sym (both_by is_fault refl j) ∙ least j
  failed_both (Some (f, cause)) least = (fault_both f cause least.0, λ j l. sym (both_by is_fault refl j) ∙ least.1 j l)

  size_both : length one ≡ length two
  size_both = length-set xs k (Some (Update u)) ∙ sym (length-set xs k (Some (Update w)))

  -- what the stage keeps of the rest is the same, where it keeps the entries
  pub stands_with : (stage next : Staged) → StandsFor stage one → next.laid ≡ stage.laid → next.failed ≡ stage.failed → KeepsEntries next two → StandsFor next two
  stands_with stage next stands laid failed keeps = record {
    size = ap (λ l. length l) laid ∙ (stands.size ∙ size_both);
    flags = λ j. ap (λ l. get_or l j false) laid ∙ (stands.flags j ∙ both_by (λ o. is_some o) refl j);
    owner = keeps.owner;
    value = keeps.value;
    sum = keeps.sum;
    candidate = keeps.candidate;
    failed = subst (λ f. IsLeastFailed two f) (sym failed) (failed_both stage.failed stands.failed);
  }

  -- where the two updates have the same entries for the words, the stage stands for either
  pub stands_same : (stage : Staged) → StandsFor stage one → ((a : ℕ) → a < length stage.kinds → get u a ≡ get w a) → StandsFor stage two
  stands_same stage stands same =
      let keeps : KeepsEntries stage one = record { owner = stands.owner; value = stands.value; sum = stands.sum; candidate = stands.candidate } in
      stands_with stage stage stands refl refl
      (same_entries stage one two (sym size_both) (λ j a h. sym (both_by (λ o. entry_in o a) (same a h) j)) keeps)

-- after the entries below an address: the stage stands for the answers before, and an update with just these entries
pub record IsLaidTo (before now : Staged) (k : ℕ) (update : Written) (from : ℕ) (kept : Written) : Type 0 where
  pub kinds : now.kinds ≡ before.kinds
  pub laid : now.laid ≡ set before.laid k true
  pub owners : length now.owners ≡ length now.kinds
  pub values : length now.values ≡ length now.kinds
  pub copied : IsCopied update kept from
  pub stands : (answers : Answers) → StandsFor before answers → StandsFor now (set answers k (Some (Update kept)))
  pub room : (a : ℕ) → from ≤ a → HasRoom now a

abbrev pub LaidTo : Staged → Staged → ℕ → Written → ℕ → Type 0
LaidTo before now k update from = (kept : Written) × IsLaidTo before now k update from kept

pub laid_first : (before : Staged) (k : ℕ) (update : Written) → k < size_of before → is_laid before k ≡ false → length before.owners ≡ length before.kinds → length before.values ≡ length before.kinds
    → ((a : ℕ) → HasRoom (with_laid before k) a) → LaidTo before (with_laid before k) k update 0
laid_first before k update in_range undone owners values room = (
  empty,
  record {
    kinds = refl;
    laid = refl;
    owners = owners;
    values = values;
    copied = copied_none update;
    stands = λ answers stands. empty_more before k in_range undone answers stands;
    room = λ a _. room a;
  },
)

-- the other words keep their room
room_other : (now next : Staged) (a : ℕ) → next.laid ≡ now.laid → value_in next a ≡ value_in now a → HasRoom now a → HasRoom next a
room_other now next a laid value room = record {
  high = omega (arith, ints, room.high, value, ap laid_count laid);
  low = omega (arith, ints, room.low, value, ap laid_count laid);
}

module _ (before now : Staged) (k : ℕ) (update : Written) (from a : ℕ) (v : ℤ) (in_range : k < size_of before) (next_is : IsNextFrom update from (Some (a, v))) (word : a < length now.kinds) where
  module _ (kept : Written) (is : IsLaidTo before now k update from kept) (next : Staged) (kinds : next.kinds ≡ now.kinds) (laid : next.laid ≡ now.laid) (failed : next.failed ≡ now.failed)
      (owners : length next.owners ≡ length now.owners) (values : length next.values ≡ length now.values)
      (others : (b : ℕ) → (b ≡ a → ⊥) → value_in next b ≡ value_in now b)
      (keeps : (xs : Answers) → answer_of xs k ≡ Some (Update kept) → StandsFor now xs → KeepsEntries next (set xs k (Some (Update (insert kept a v))))) where
    laid_next : LaidTo before next k update (a + 1)
    laid_next = (
      insert kept a v,
      record {
        kinds = kinds ∙ is.kinds;
        laid = laid ∙ is.laid;
        owners = owners ∙ (is.owners ∙ ap (λ ks. length ks) (sym kinds));
        values = values ∙ (is.values ∙ ap (λ ks. length ks) (sym kinds));
        copied = copied_more update kept from a v is.copied next_is;
        stands = λ answers stands.
            let within : k < length answers = omega (arith, stands.size) in
            let was : StandsFor now (set answers k (Some (Update kept))) = is.stands answers stands in
            let at : answer_of (set answers k (Some (Update kept))) k ≡ Some (Update kept) = get_or-set_same answers k (Some (Update kept)) None within in
            stands_with answers k within kept (insert kept a v) now next was laid failed
            (subst (λ ys. KeepsEntries next ys) (set_twice answers k (Some (Update kept)) (Some (Update (insert kept a v)))) (keeps (set answers k (Some (Update kept))) at was));
        room = λ b l. room_other now next b laid (others b (λ e. omega arith)) (is.room b (omega (arith, next_is.0)));
      },
    )

  free_here : (kept : Written) → IsCopied update kept from → get kept a ≡ None
  free_here kept copied = copied.none a next_is.0

  keeps_of : (xs : Answers) → StandsFor now xs → KeepsEntries now xs
  keeps_of xs stands = record { owner = stands.owner; value = stands.value; sum = stands.sum; candidate = stands.candidate }

  pub laid_write : LaidTo before now k update from → is_ordinary now.kinds a ≡ true → LaidTo before (with_write now k a v) k update (a + 1)
  laid_write so_far ordinary =
      let kept = so_far.0 in
      let is = so_far.1 in
      laid_next kept is (with_write now k a v) refl refl refl
      (length_if (ltb k (owner_in now a)) now.owners a k)
      (length_if (ltb k (owner_in now a)) now.values a v)
      (λ b apart. set_other (ltb k (owner_in now a)) now.values a b v (pos 0) apart)
      (λ xs at stands. writes_more now xs k a v kept at (free_here kept is.copied) word (keeps_of xs stands) stands.size is.owners is.values ordinary)

  pub laid_sum : LaidTo before now k update from → is_ordinary now.kinds a ≡ false → LaidTo before (with_sum now k a v) k update (a + 1)
  laid_sum so_far tally =
      let kept = so_far.0 in
      let is = so_far.1 in
      laid_next kept is (with_sum now k a v) refl refl refl
      (length_if (ltb k (owner_in now a)) now.owners a k)
      (length-set now.values a (value_in now a +ℤ v))
      (λ b apart. get_or-set_other now.values a b (value_in now a +ℤ v) (pos 0) apart)
      (λ xs at stands. sums_more now xs k a v kept at (free_here kept is.copied) word (keeps_of xs stands) stands.size is.owners is.values tally)

  pub laid_entry : (next : Staged) → LaidTo before now k update from → (is_ordinary now.kinds a ≡ true → next ≡ with_write now k a v) → (is_ordinary now.kinds a ≡ false → next ≡ with_sum now k a v)
      → LaidTo before next k update (a + 1)
  laid_entry next so_far writes sums =
      ⊎_elim
      (λ (ordinary : is_ordinary now.kinds a ≡ true). subst (λ s. LaidTo before s k update (a + 1)) (sym (writes ordinary)) (laid_write so_far ordinary))
      (λ (tally : is_ordinary now.kinds a ≡ false). subst (λ s. LaidTo before s k update (a + 1)) (sym (sums tally)) (laid_sum so_far tally))
      (cases_Bool (is_ordinary now.kinds a))

-- where the rest has no entry for a word, all is laid
pub laid_all : (before now : Staged) (k : ℕ) (update : Written) (from : ℕ) → k < size_of before → LaidTo before now k update from → ((a : ℕ) → from ≤ a → a < length now.kinds → get update a ≡ None)
    → LaysAt before now k (Update update)
laid_all before now k update from in_range so_far none =
    let kept = so_far.0 in
    let is = so_far.1 in
    record {
      kinds = is.kinds;
      laid = is.laid;
      lays = λ answers stands.
          stands_same answers k (omega (arith, stands.size)) kept update now (is.stands answers stands)
          (λ a h. ⊎_elim (λ (l : a < from). is.copied.same a l) (λ (g : from ≤ a). is.copied.none a g ∙ sym (none a g h)) (cases_lt a from));
    }
