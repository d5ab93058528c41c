-- What a step leaves depends on the answers up to the least faulty number alone.
use Rattle.std.proofs.Common.{◌≡◌, ℕ, zero, suc, ◌<◌, ◌≤◌, Bool, true, false, cond, ◌&&◌, ◌||◌, ltb, List, [], ◌∷◌, length, refl, sym, ap, ◌∙◌, ⊎_elim, arith, Option, Some, None, Err}
use Rattle.std.specs.Prelude.{is_some}
use Rattle.std.specs.List.{position}
use Rattle.std.proofs.lemmas.Bool.{cases_lt, cases_Bool, both_ways, lt-ltb, le-ltb, ltb-true, and_parts, and_from, or_cases, or_left, or_right}
use Rattle.cal_terms.specs.declared.kinds.WordKind.{WordKind}
use Rattle.cal_base.specs.Numbers.{least_below}
use Rattle.cal_base.specs.Memory.{Memory, kinds_of, is_ordinary}
use Rattle.cal_base.specs.declared.answer.Answer.{Answer}
use Rattle.cal_base.specs.Answers.{Answers, answer_of, all_of, restricted_to, entry_in, is_fault}
use Rattle.cal_base.specs.After.{first_writer, is_shared, shared_word, is_faulty, least_faulty, fault_by, fault_of, after, merged_memory, unless_outside, is_outside}
use Rattle.step_laws.specs.Laws.{OneWriterEach}
use Rattle.step_laws.proofs.Searches.{least_below-le, below_least, at_least, least_at, least_below_same, least_le}

pub length-restricted_to : (test : ℕ → Bool) (answers : List Answer) → length (restricted_to test answers) ≡ length answers
length-restricted_to test [] = refl
length-restricted_to test (answer ∷ answers) = ap suc (length-restricted_to (λ k. test (suc k)) answers)

-- a number that passes keeps its answer, and another has none
pub answer_of-restricted_to : (test : ℕ → Bool) (answers : List Answer) (k : ℕ) → answer_of (restricted_to test answers) k ≡ cond (test k) (answer_of (all_of answers) k) None
answer_of-restricted_to test [] k = elim (test k) as (λ b. ◌≡◌ {A = Option Answer} None (cond b None None)) [ true ↦ refl | false ↦ refl ]
answer_of-restricted_to test (answer ∷ answers) zero = refl
answer_of-restricted_to test (answer ∷ answers) (suc k) = answer_of-restricted_to (λ j. test (suc j)) answers k

-- where each number passes, nothing is left out
pub restricted_to_all : (test : ℕ → Bool) (answers : List Answer) → ((k : ℕ) → k < length answers → test k ≡ true) → restricted_to test answers ≡ all_of answers
restricted_to_all test [] each = refl
restricted_to_all test (answer ∷ answers) each =
    let here : test zero ≡ true = each zero (omega arith) in
    let rest : restricted_to (λ k. test (suc k)) answers ≡ all_of answers = restricted_to_all (λ k. test (suc k)) answers (λ k h. each (suc k) (omega arith)) in
    λ i. cond (here i) (Some answer) None ∷ rest i

-- the two have the same answers below the bound
abbrev pub AgreeBelow : Answers → Answers → ℕ → Type 0
AgreeBelow xs ys bound = (j : ℕ) → j < bound → answer_of xs j ≡ answer_of ys j

pub agree_less : (xs ys : Answers) (k bound : ℕ) → k ≤ bound → AgreeBelow xs ys bound → AgreeBelow xs ys k
agree_less xs ys k bound le agree j h = agree j (omega arith)

pub first_writer_same : (xs ys : Answers) (k address : ℕ) → AgreeBelow xs ys k → first_writer xs k address ≡ first_writer ys k address
first_writer_same xs ys k address agree = least_below_same k _ _ (λ j h. ap (λ answer. is_some (entry_in answer address)) (agree j h))

pub is_shared_same : (kinds : List WordKind) (xs ys : Answers) (k address : ℕ) → AgreeBelow xs ys (suc k) → is_shared kinds xs k address ≡ is_shared kinds ys k address
is_shared_same kinds xs ys k address agree =
    let here : answer_of xs k ≡ answer_of ys k = agree k (omega arith) in
    let writer : first_writer xs k address ≡ first_writer ys k address = first_writer_same xs ys k address (agree_less xs ys k (suc k) (omega arith) agree) in
    λ i. is_ordinary kinds address && (is_some (entry_in (here i) address) && ltb (writer i) k)

pub shared_word_same : (kinds : List WordKind) (xs ys : Answers) (k : ℕ) → AgreeBelow xs ys (suc k) → shared_word kinds xs k ≡ shared_word kinds ys k
unfolding shared_word
shared_word_same kinds xs ys k agree = least_below_same (length kinds) _ _ (λ address _. is_shared_same kinds xs ys k address agree)

pub is_faulty_same : (kinds : List WordKind) (xs ys : Answers) (k : ℕ) → AgreeBelow xs ys (suc k) → is_faulty kinds xs k ≡ is_faulty kinds ys k
unfolding is_faulty
is_faulty_same kinds xs ys k agree =
    let here : answer_of xs k ≡ answer_of ys k = agree k (omega arith) in
    let word : shared_word kinds xs k ≡ shared_word kinds ys k = shared_word_same kinds xs ys k agree in
    λ i. is_fault (here i) || ltb (word i) (length kinds)

pub fault_of_same : (kinds : List WordKind) (xs ys : Answers) (k : ℕ) → AgreeBelow xs ys (suc k) → fault_of kinds xs k ≡ fault_of kinds ys k
unfolding fault_of
fault_of_same kinds xs ys k agree =
    let here : answer_of xs k ≡ answer_of ys k = agree k (omega arith) in
    let word : shared_word kinds xs k ≡ shared_word kinds ys k = shared_word_same kinds xs ys k agree in
    let other : first_writer xs k (shared_word kinds ys k) ≡ first_writer ys k (shared_word kinds ys k) = first_writer_same xs ys k _ (agree_less xs ys k (suc k) (omega arith) agree) in
    let writer : first_writer xs k (shared_word kinds xs k) ≡ first_writer ys k (shared_word kinds ys k) = ap (λ w. first_writer xs k w) word ∙ other in
    λ i. fault_by (here i) k (word i) (writer i)

pub least_faulty-le : (kinds : List WordKind) (answers : Answers) → least_faulty kinds answers ≤ length answers
unfolding least_faulty
least_faulty-le kinds answers = least_below-le (length answers) (is_faulty kinds answers)

pub below_least_faulty : (kinds : List WordKind) (answers : Answers) (k : ℕ) → k < least_faulty kinds answers → is_faulty kinds answers k ≡ false
unfolding least_faulty
below_least_faulty kinds answers k h = below_least (length answers) (is_faulty kinds answers) k h

pub at_least_faulty : (kinds : List WordKind) (answers : Answers) → least_faulty kinds answers < length answers → is_faulty kinds answers (least_faulty kinds answers) ≡ true
unfolding least_faulty
at_least_faulty kinds answers h = at_least (length answers) (is_faulty kinds answers) h

pub least_faulty_at : (kinds : List WordKind) (answers : Answers) (m : ℕ) → m ≤ length answers → ((k : ℕ) → k < m → is_faulty kinds answers k ≡ false)
    → (m < length answers → is_faulty kinds answers m ≡ true) → least_faulty kinds answers ≡ m
unfolding least_faulty
least_faulty_at kinds answers m within none fails = least_at (length answers) (is_faulty kinds answers) m within none fails

-- a number without an answer is not faulty
pub not_faulty_without : (kinds : List WordKind) (answers : Answers) (k : ℕ) → answer_of answers k ≡ None → is_faulty kinds answers k ≡ false
unfolding is_faulty shared_word
not_faulty_without kinds answers k none =
    let unshared : (address : ℕ) → is_shared kinds answers k address ≡ false =
    λ address.
    let e : is_some (entry_in (answer_of answers k) address) ≡ false = ap (λ answer. is_some (entry_in answer address)) none in
    elim (is_ordinary kinds address) as (λ b. (b && (is_some (entry_in (answer_of answers k) address) && ltb (first_writer answers k address) k)) ≡ false) [
      | true ↦ ap (λ b. b && ltb (first_writer answers k address) k) e
      | false ↦ refl
    ]
    in
    let word : least_below (length kinds) (is_shared kinds answers k) ≡ length kinds =
    least_at (length kinds) (is_shared kinds answers k) (length kinds) (omega arith) (λ address _. unshared address) (λ h. absurd (omega arith))
    in
    let off : ltb (least_below (length kinds) (is_shared kinds answers k)) (length kinds) ≡ false = le-ltb _ _ (omega arith) in
    let sound : is_fault (answer_of answers k) ≡ false = ap is_fault none in
    λ i. sound i || off i

-- the answers of one are answers of the other
abbrev pub IsWithin : Answers → Answers → Type 0
IsWithin xs ys = (k : ℕ) (answer : Answer) → answer_of xs k ≡ Some answer → answer_of ys k ≡ Some answer

-- what agrees up to and at its own least faulty number has the same least faulty number
pub least_faulty_same : (kinds : List WordKind) (xs ys : Answers) → length xs ≡ length ys → AgreeBelow xs ys (suc (least_faulty kinds xs)) → least_faulty kinds ys ≡ least_faulty kinds xs
least_faulty_same kinds xs ys size agree =
    let f = least_faulty kinds xs in
    let le : f ≤ length xs = least_faulty-le kinds xs in
    least_faulty_at kinds ys f (omega arith)
    (λ k h. sym (is_faulty_same kinds xs ys k (agree_less xs ys (suc k) (suc f) (omega arith) agree)) ∙ below_least_faulty kinds xs k h)
    (λ h. sym (is_faulty_same kinds xs ys f agree) ∙ at_least_faulty kinds xs (omega arith))

-- a step whose least faulty number is below its size ends in that number's fault
pub after_fault : (memory : Memory) (answers : Answers) → least_faulty (kinds_of memory) answers < length answers
    → after memory answers ≡ Err (fault_of (kinds_of memory) answers (least_faulty (kinds_of memory) answers))
unfolding after
after_fault memory answers h = ap (λ b. cond b (Err (fault_of (kinds_of memory) answers (least_faulty (kinds_of memory) answers)))
    (unless_outside (position is_outside (merged_memory memory answers)) (merged_memory memory answers))) (lt-ltb _ _ h)

-- what agrees up to and at its own least faulty number, which is below its size, leaves the same
pub after_same : (memory : Memory) (xs ys : Answers) → length xs ≡ length ys → least_faulty (kinds_of memory) xs < length xs → AgreeBelow xs ys (suc (least_faulty (kinds_of memory) xs))
    → after memory xs ≡ after memory ys
after_same memory xs ys size below agree =
    let f = least_faulty (kinds_of memory) xs in
    let least : least_faulty (kinds_of memory) ys ≡ f = least_faulty_same (kinds_of memory) xs ys size agree in
    let fault : fault_of (kinds_of memory) xs f ≡ fault_of (kinds_of memory) ys (least_faulty (kinds_of memory) ys) = fault_of_same (kinds_of memory) xs ys f agree
    ∙ ap (λ k. fault_of (kinds_of memory) ys k) (sym least) in
    after_fault memory xs below ∙ (ap (λ e. Err e) fault ∙ sym (after_fault memory ys (omega arith)))

-- what an answer has to show for is shown by the same answer among more
shown_more : (t : Option Answer → Bool) → t None ≡ false → (xs ys : Answers) (k : ℕ) → IsWithin xs ys → t (answer_of xs k) ≡ true → t (answer_of ys k) ≡ true
shown_more t none xs ys k within shown =
    elim (answer_of xs k) as (λ o. answer_of xs k ≡ o → t o ≡ true → t (answer_of ys k) ≡ true) [
      | None ↦ λ _ h. absurd (both_ways (t None) none h)
      | Some answer ↦ λ e h. ap t (within k answer e) ∙ h
    ] refl shown

writer_more : (xs ys : Answers) (k address : ℕ) → IsWithin xs ys → ltb (first_writer xs k address) k ≡ true → ltb (first_writer ys k address) k ≡ true
writer_more xs ys k address within h =
    let j = first_writer xs k address in
    let below : j < k = ltb-true j k h in
    let wrote : is_some (entry_in (answer_of xs j) address) ≡ true = at_least k (λ i. is_some (entry_in (answer_of xs i) address)) below in
    let writes : is_some (entry_in (answer_of ys j) address) ≡ true = shown_more (λ answer. is_some (entry_in answer address)) refl xs ys j within wrote in
    let le : first_writer ys k address ≤ j = least_le k (λ i. is_some (entry_in (answer_of ys i) address)) j writes in
    lt-ltb _ _ (omega arith)

shared_more : (kinds : List WordKind) (xs ys : Answers) (k address : ℕ) → IsWithin xs ys → is_shared kinds xs k address ≡ true → is_shared kinds ys k address ≡ true
shared_more kinds xs ys k address within h =
    let outer = and_parts (is_ordinary kinds address) (is_some (entry_in (answer_of xs k) address) && ltb (first_writer xs k address) k) h in
    let inner = and_parts (is_some (entry_in (answer_of xs k) address)) (ltb (first_writer xs k address) k) outer.1 in
    and_from _ _ outer.0 (and_from _ _ (shown_more (λ answer. is_some (entry_in answer address)) refl xs ys k within inner.0) (writer_more xs ys k address within inner.1))

word_more : (kinds : List WordKind) (xs ys : Answers) (k : ℕ) → IsWithin xs ys → ltb (shared_word kinds xs k) (length kinds) ≡ true → ltb (shared_word kinds ys k) (length kinds) ≡ true
unfolding shared_word
word_more kinds xs ys k within h =
    let w = least_below (length kinds) (is_shared kinds xs k) in
    let below : w < length kinds = ltb-true _ _ h in
    let le : least_below (length kinds) (is_shared kinds ys k) ≤ w = least_le (length kinds) (is_shared kinds ys k) w
    (shared_more kinds xs ys k w within (at_least (length kinds) (is_shared kinds xs k) below)) in
    lt-ltb _ _ (omega arith)

-- a faulty number stays faulty where further answers come
pub faulty_more : (kinds : List WordKind) (xs ys : Answers) (k : ℕ) → IsWithin xs ys → is_faulty kinds xs k ≡ true → is_faulty kinds ys k ≡ true
unfolding is_faulty
faulty_more kinds xs ys k within faulty =
    ⊎_elim
    (λ (h : is_fault (answer_of xs k) ≡ true). or_left _ _ (shown_more is_fault refl xs ys k within h))
    (λ (h : ltb (shared_word kinds xs k) (length kinds) ≡ true). or_right _ _ (word_more kinds xs ys k within h))
    (or_cases (is_fault (answer_of xs k)) (ltb (shared_word kinds xs k) (length kinds)) faulty)

-- so further answers don't raise the least faulty number
pub least_faulty_more : (kinds : List WordKind) (xs ys : Answers) → length xs ≡ length ys → IsWithin xs ys → least_faulty kinds ys ≤ least_faulty kinds xs
least_faulty_more kinds xs ys size within =
    ⊎_elim
    (λ (h : least_faulty kinds xs < length xs).
    ⊎_elim
    (λ (g : least_faulty kinds xs < least_faulty kinds ys). absurd (both_ways _ (below_least_faulty kinds ys _ g) (faulty_more kinds xs ys _ within (at_least_faulty kinds xs h))))
    (λ (g : least_faulty kinds ys ≤ least_faulty kinds xs). g)
    (cases_lt _ _))
    (λ (h : length xs ≤ least_faulty kinds xs). omega (arith, least_faulty-le kinds ys))
    (cases_lt (least_faulty kinds xs) (length xs))

-- a number that is not faulty shares no ordinary word with a number below it
pub one_writer_each : OneWriterEach
unfolding is_faulty shared_word
one_writer_each kinds answers j k address sound below within ordinary writes =
    let wrote : ℕ → Bool = λ i. is_some (entry_in (answer_of answers i) address) in
    ⊎_elim
    (λ (also : wrote j ≡ true).
    let first : first_writer answers k address ≤ j = least_le k wrote j also in
    let shared : is_shared kinds answers k address ≡ true = and_from _ _ ordinary (and_from _ _ writes (lt-ltb (first_writer answers k address) k (omega arith))) in
    let word : least_below (length kinds) (is_shared kinds answers k) ≤ address = least_le (length kinds) (is_shared kinds answers k) address shared in
    let faulty : (is_fault (answer_of answers k) || ltb (least_below (length kinds) (is_shared kinds answers k)) (length kinds)) ≡ true = or_right _ _
    (lt-ltb (least_below (length kinds) (is_shared kinds answers k)) (length kinds) (omega arith)) in
    absurd (both_ways _ sound faulty))
    (λ (not_also : wrote j ≡ false). not_also)
    (cases_Bool (wrote j))
