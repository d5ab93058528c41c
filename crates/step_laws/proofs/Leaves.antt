-- What a step leaves, in words.
use Rattle.std.proofs.Common.{◌≡◌, ◌<◌, ◌≤◌, ◌+◌, ℕ, zero, suc, ℤ, pos, length, get_or, map, List, [], ◌∷◌, Option, None, Some, Err, ◌∙◌, sym, ap, subst, refl, arith, Bool, true, false, cond, ltb}
use Rattle.std.proofs.Common.{not, ◌&&◌, add-zero, ⊎_elim, inl, inr}
use Rattle.std.specs.Prelude.{is_some, MatchResult}
use Rattle.std.specs.Option.{unwrap_or, option_map_or}
use Rattle.std.specs.List.{enumerate_from, position, position_or_len}
use Rattle.std.proofs.lemmas.Bool.{cases_lt, lt-ltb, le-ltb, ltb-true, both_ways, and_parts, and_from, or_cases, or_left, or_right}
use Rattle.std.proofs.lemmas.List.{length-map, get_or_past}
use Rattle.std.proofs.lemmas.List.Sums.{fails_before_first, passes_at_first}
use Rattle.std.proofs.lemmas.Option.{slice_get-get_or}
use Rattle.cal_terms.specs.declared.kinds.WordKind.{WordKind}
use Rattle.cal_terms.specs.declared.kinds.WordKind.TheVariants.{Ordinary, Tally}
use Rattle.cal_base.specs.declared.step.Word.{Word}
use Rattle.cal_base.specs.declared.answer.Answer.{Answer}
use Rattle.cal_base.specs.declared.answer.Answer.TheVariants.{Update, Fault}
use Rattle.cal_base.specs.Arithmetic.{fits_word}
use Rattle.cal_base.specs.Memory.{Memory, kinds_of, kind_at, value_at, is_ordinary, has_one_writer}
use Rattle.cal_base.specs.Answers.{Answers, answer_of, entry_in, is_fault}
use Rattle.cal_base.specs.After.{first_writer, is_shared, shared_word, is_faulty, least_faulty, fault_by, fault_of, value_after, merged_memory, has_total, is_outside, unless_outside, after}
use Rattle.step_laws.specs.Leaves.{IsShared, IsFaulty, NoneBelow, IsOutside, IsRightFault, IsRightMemory, FaultyIsTested, AfterIsRight}
use Rattle.step_laws.proofs.Searches.{at_least, least_le}
use Rattle.step_laws.proofs.Totals.{totals_are_laid}
use Rattle.step_laws.proofs.Agreement.{below_least_faulty, at_least_faulty, not_faulty_without, after_fault}

pub ordinary_within : (kinds : List WordKind) (a : ℕ) → is_ordinary kinds a ≡ true → a < length kinds
ordinary_within [] zero e = absurd (cc)
ordinary_within [] (suc a) e = absurd (cc)
ordinary_within (kind ∷ kinds) zero e = omega arith
ordinary_within (kind ∷ kinds) (suc a) e = let h : a < length kinds = ordinary_within kinds a e in omega arith

-- what the answers leave in a word, without bound
abbrev left_in : Memory → Answers → ℕ → ℤ
left_in memory answers address = value_after (kind_at memory address) answers address (value_at memory address)

tally_of : (kind : WordKind) → has_total kind ≡ true → kind ≡ Tally
tally_of Ordinary e = absurd (cc)
tally_of Tally e = refl

-- ---- the search for a shared word

writes : Answers → ℕ → ℕ → Bool
writes answers address j = is_some (entry_in (answer_of answers j) address)

module _ (kinds : List WordKind) (answers : Answers) (k : ℕ) where
  shared_test : (address j : ℕ) → IsShared kinds answers k address j → is_shared kinds answers k address ≡ true
  shared_test address j shared =
      let first : first_writer answers k address ≤ j = least_le k (λ i. is_some (entry_in (answer_of answers i) address)) j shared.lower in
      and_from _ _ shared.ordinary (and_from _ _ shared.upper (lt-ltb (first_writer answers k address) k (omega (arith, first, shared.below))))

  shared_found : (address : ℕ) → is_shared kinds answers k address ≡ true → IsShared kinds answers k address (first_writer answers k address)
  shared_found address passes =
      let outer = and_parts (is_ordinary kinds address) (is_some (entry_in (answer_of answers k) address) && ltb (first_writer answers k address) k) passes in
      let inner = and_parts (is_some (entry_in (answer_of answers k) address)) (ltb (first_writer answers k address) k) outer.1 in
      let below : first_writer answers k address < k = ltb-true _ _ inner.1 in
      record {
        below = below;
        ordinary = outer.0;
        lower = at_least k (λ i. is_some (entry_in (answer_of answers i) address)) below;
        upper = inner.0;
      }

  word_le : (address j : ℕ) → IsShared kinds answers k address j → shared_word kinds answers k ≤ address
  unfolding shared_word
  word_le address j shared = least_le (length kinds) (is_shared kinds answers k) address (shared_test address j shared)

  word_shared : shared_word kinds answers k < length kinds → is_shared kinds answers k (shared_word kinds answers k) ≡ true
  unfolding shared_word
  word_shared below = at_least (length kinds) (is_shared kinds answers k) below

  faulty_found : is_faulty kinds answers k ≡ true → IsFaulty kinds answers k
  unfolding is_faulty
  faulty_found faulty =
      ⊎_elim
      (λ (failed : is_fault (answer_of answers k) ≡ true). inl failed)
      (λ (h : ltb (shared_word kinds answers k) (length kinds) ≡ true).
      let word = shared_word kinds answers k in
      inr (word, (first_writer answers k word, shared_found word (word_shared (ltb-true _ _ h)))))
      (or_cases (is_fault (answer_of answers k)) (ltb (shared_word kinds answers k) (length kinds)) faulty)

  faulty_test : IsFaulty kinds answers k → is_faulty kinds answers k ≡ true
  unfolding is_faulty
  faulty_test faulty =
      ⊎_elim
      (λ (failed : is_fault (answer_of answers k) ≡ true). or_left _ _ failed)
      (λ (h : (address : ℕ) × ((j : ℕ) × IsShared kinds answers k address j)).
      let le : shared_word kinds answers k ≤ h.0 = word_le h.0 h.1.0 h.1.1 in
      or_right _ _ (lt-ltb (shared_word kinds answers k) (length kinds) (omega (arith, le, ordinary_within kinds h.0 h.1.1.ordinary))))
      faulty

pub faulty_is_tested : FaultyIsTested
faulty_is_tested kinds answers k = (faulty_found kinds answers k, faulty_test kinds answers k)

none_below_least : (kinds : List WordKind) (answers : Answers) → NoneBelow kinds answers (least_faulty kinds answers)
none_below_least kinds answers k h faulty = both_ways _ (below_least_faulty kinds answers k h) (faulty_test kinds answers k faulty)

-- no other number below k has an entry for a word that k shares with j, where none below k is faulty
only_one : (kinds : List WordKind) (answers : Answers) (k address i j : ℕ) → NoneBelow kinds answers k → IsShared kinds answers k address i → IsShared kinds answers k address j → i ≡ j
only_one kinds answers k address i j none one other =
    ⊎_elim
    (λ (l : i < j). absurd (none j other.below (inr (address, (i, record { below = l; ordinary = one.ordinary; lower = one.lower; upper = other.lower })))))
    (λ (g : j ≤ i).
    ⊎_elim
    (λ (l : j < i). absurd (none i one.below (inr (address, (j, record { below = l; ordinary = one.ordinary; lower = other.lower; upper = one.lower })))))
    (λ (h : i ≤ j). omega arith)
    (cases_lt j i))
    (cases_lt i j)

right_fault_by : (memory : Memory) (answers : Answers) (k : ℕ) (answer : Option Answer) → answer_of answers k ≡ answer → is_faulty (kinds_of memory) answers k ≡ true
    → NoneBelow (kinds_of memory) answers k
    → IsRightFault memory answers (fault_by answer k (shared_word (kinds_of memory) answers k) (first_writer answers k (shared_word (kinds_of memory) answers k)))
right_fault_by memory answers k None is faulty none = absurd (both_ways _ (not_faulty_without (kinds_of memory) answers k is) faulty)
right_fault_by memory answers k (Some (Fault cause)) is faulty none = (is, none)
right_fault_by memory answers k (Some (Update update)) is faulty none =
    let kinds = kinds_of memory in
    let sound : is_fault (answer_of answers k) ≡ false = ap is_fault is in
    let word = shared_word kinds answers k in
    let shared : IsShared kinds answers k word (first_writer answers k word) =
    ⊎_elim
    (λ (failed : is_fault (answer_of answers k) ≡ true). absurd (both_ways _ sound failed))
    (λ (h : (address : ℕ) × ((j : ℕ) × IsShared kinds answers k address j)).
    shared_found kinds answers k word (word_shared kinds answers k (omega (arith, word_le kinds answers k h.0 h.1.0 h.1.1, ordinary_within kinds h.0 h.1.1.ordinary))))
    (faulty_found kinds answers k faulty)
    in (
      record {
        sound = sound;
        shared = shared;
        least = λ a i other. word_le kinds answers k a i other;
        only = λ i other. only_one kinds answers k word i (first_writer answers k word) none other shared;
      },
      none,
    )

right_fault : (memory : Memory) (answers : Answers) → least_faulty (kinds_of memory) answers < length answers
    → IsRightFault memory answers (fault_of (kinds_of memory) answers (least_faulty (kinds_of memory) answers))
unfolding fault_of
right_fault memory answers h =
    right_fault_by memory answers (least_faulty (kinds_of memory) answers) _ refl (at_least_faulty (kinds_of memory) answers h) (none_below_least (kinds_of memory) answers)

-- ---- the merged words

merged_from : Answers → ℕ → Memory → Memory
merged_from answers base memory = map (λ place. record { kind = place.1.kind; value = value_after place.1.kind answers place.0 place.1.value }) (enumerate_from base memory)

length-merged_from : (answers : Answers) (base : ℕ) (memory : Memory) → length (merged_from answers base memory) ≡ length memory
unfolding merged_from
length-merged_from answers base [] = refl
length-merged_from answers base (word ∷ memory) = ap suc (length-merged_from answers (base + 1) memory)

kinds-merged_from : (answers : Answers) (base : ℕ) (memory : Memory) → kinds_of (merged_from answers base memory) ≡ kinds_of memory
unfolding merged_from
kinds-merged_from answers base [] = refl
kinds-merged_from answers base (word ∷ memory) = let rest = kinds-merged_from answers (base + 1) memory in λ i. word.kind ∷ rest i

abbrev merged_word : Memory → Answers → ℕ → ℕ → Word
merged_word memory answers place a = record { kind = kind_at memory a; value = value_after (kind_at memory a) answers place (value_at memory a) }

merged_at : (answers : Answers) (base : ℕ) (memory : Memory) (a : ℕ) (d : Word) → a < length memory → get_or (merged_from answers base memory) a d ≡ merged_word memory answers (base + a) a
unfolding merged_from
merged_at answers base [] a d within = absurd (omega arith)
merged_at answers base (word ∷ memory) zero d within = let place = add-zero base in λ i. record { kind = word.kind; value = value_after word.kind answers (sym place i) word.value }
merged_at answers base (word ∷ memory) (suc a) d within =
    let place : (base + 1) + a ≡ base + suc a = omega arith in
    merged_at answers (base + 1) memory a d (omega arith) ∙ ap (λ p. merged_word memory answers p a) place

abbrev no_word : Word
no_word = record { kind = Ordinary; value = pos 0 }

module _ (memory : Memory) (answers : Answers) where
  length-merged : length (merged_memory memory answers) ≡ length memory
  unfolding merged_memory merged_from
  length-merged = length-merged_from answers 0 memory

  kinds-merged : kinds_of (merged_memory memory answers) ≡ kinds_of memory
  unfolding merged_memory merged_from
  kinds-merged = kinds-merged_from answers 0 memory

  merged_is : (a : ℕ) → a < length memory → get_or (merged_memory memory answers) a no_word ≡ merged_word memory answers a a
  unfolding merged_memory merged_from
  merged_is a within =
      let place : 0 + a ≡ a = omega arith in
      merged_at answers 0 memory a no_word within ∙ ap (λ p. merged_word memory answers p a) place

  pub value_at-merged : (a : ℕ) → a < length memory → value_at (merged_memory memory answers) a ≡ left_in memory answers a
  value_at-merged a within =
      ap (λ o. option_map_or (λ (w : Word). w.value) o (pos 0)) (slice_get-get_or (merged_memory memory answers) a no_word (omega (arith, length-merged)))
      ∙ ap (λ (w : Word). w.value) (merged_is a within)

  outside_found : (a : ℕ) → a < length memory → is_outside (get_or (merged_memory memory answers) a no_word) ≡ true → IsOutside memory answers a
  outside_found a within passes =
      let parts = and_parts (has_total (kind_at memory a)) (not (fits_word (left_in memory answers a))) (ap (λ (w : Word). is_outside w) (sym (merged_is a within)) ∙ passes) in
      let tally : Tally ≡ kind_at memory a = sym (tally_of (kind_at memory a) parts.0) in
      record {
        within = within;
        tally = parts.0;
        outside = λ total is.
            ap fits_word ((totals_are_laid a (value_at memory a)).1 total is answers ∙ ap (λ k. value_after k answers a (value_at memory a)) tally)
            ∙ negated (fits_word (left_in memory answers a)) parts.1;
      }
    where
      negated : (b : Bool) → not b ≡ true → b ≡ false
      negated true e = absurd (cc)
      negated false e = refl

  outside_test : (a : ℕ) → IsOutside memory answers a → is_outside (get_or (merged_memory memory answers) a no_word) ≡ true
  outside_test a outside =
      ap (λ (w : Word). is_outside w) (merged_is a outside.within)
      ∙ and_from (has_total (kind_at memory a)) (not (fits_word (left_in memory answers a))) outside.tally
      (ap (λ k. not (fits_word (value_after k answers a (value_at memory a)))) (tally_of (kind_at memory a) outside.tally)
      ∙ ap not (outside.outside (λ xs. value_after Tally xs a (value_at memory a)) (totals_are_laid a (value_at memory a)).0))

-- ---- where nothing is faulty

after_sound : (memory : Memory) (answers : Answers) → length answers ≤ least_faulty (kinds_of memory) answers
    → after memory answers ≡ unless_outside (position is_outside (merged_memory memory answers)) (merged_memory memory answers)
unfolding after
after_sound memory answers h =
    ap (λ b. cond b (Err (fault_of (kinds_of memory) answers (least_faulty (kinds_of memory) answers)))
    (unless_outside (position is_outside (merged_memory memory answers)) (merged_memory memory answers))) (le-ltb _ _ h)

ordinary_kind : (memory : Memory) (a : ℕ) → is_ordinary (kinds_of memory) a ≡ true → kind_at memory a ≡ Ordinary
ordinary_kind [] zero e = refl
ordinary_kind [] (suc a) e = refl
ordinary_kind (word ∷ memory) zero e = of_kind word.kind e
  where
    of_kind : (kind : WordKind) → has_one_writer kind ≡ true → kind ≡ Ordinary
    of_kind Ordinary e = refl
    of_kind Tally e = absurd (cc)
ordinary_kind (word ∷ memory) (suc a) e = ordinary_kind memory a e

module _ (memory : Memory) (answers : Answers) (none : NoneBelow (kinds_of memory) answers (length answers)) where
  has_answer : (k a : ℕ) (v : ℤ) → entry_in (answer_of answers k) a ≡ Some v → k < length answers
  has_answer k a v wrote =
      ⊎_elim
      (λ (l : k < length answers). l)
      (λ (g : length answers ≤ k). let missing : entry_in (answer_of answers k) a ≡ None = ap (λ o. entry_in o a) (get_or_past answers k None g) in absurd (cc (wrote, missing)))
      (cases_lt k (length answers))

  -- the one writer of a word is the first
  one_writer : (k a : ℕ) (v : ℤ) → is_ordinary (kinds_of memory) a ≡ true → entry_in (answer_of answers k) a ≡ Some v → first_writer answers (length answers) a ≡ k
  one_writer k a v ordinary wrote =
      let within : k < length answers = has_answer k a v wrote in
      let upper : is_some (entry_in (answer_of answers k) a) ≡ true = ap (λ o. is_some o) wrote in
      let first = first_writer answers (length answers) a in
      let le : first ≤ k = least_le (length answers) (λ j. is_some (entry_in (answer_of answers j) a)) k upper in
      let lower : is_some (entry_in (answer_of answers first) a) ≡ true = at_least (length answers) (λ j. is_some (entry_in (answer_of answers j) a)) (omega arith) in
      ⊎_elim
      (λ (l : first < k). absurd (none k within (inr (a, (first, record { below = l; ordinary = ordinary; lower = lower; upper = upper })))))
      (λ (g : k ≤ first). omega arith)
      (cases_lt first k)

  ordinary_left : (a : ℕ) → is_ordinary (kinds_of memory) a ≡ true → value_at (merged_memory memory answers) a ≡ unwrap_or (entry_in (answer_of answers (first_writer answers (length answers) a)) a)
      (value_at memory a)
  ordinary_left a ordinary =
      value_at-merged memory answers a (omega (arith, ordinary_within (kinds_of memory) a ordinary, length-map memory (λ (w : Word). w.kind)))
      ∙ ap (λ kind. value_after kind answers a (value_at memory a)) (ordinary_kind memory a ordinary)

  right_memory : ((a : ℕ) → IsOutside memory answers a → ⊥) → IsRightMemory memory answers (merged_memory memory answers)
  right_memory inside = record {
    none_faulty = none;
    none_outside = inside;
    kinds = kinds-merged memory answers;
    written = λ k a v ordinary wrote.
        ordinary_left a ordinary
        ∙ (ap (λ j. unwrap_or (entry_in (answer_of answers j) a) (value_at memory a)) (one_writer k a v ordinary wrote)
        ∙ ap (λ o. unwrap_or o (value_at memory a)) wrote);
    stays = λ a ordinary unwritten. ordinary_left a ordinary ∙ ap (λ o. unwrap_or o (value_at memory a)) (unwritten (first_writer answers (length answers) a));
    total = λ a within tally total is.
        value_at-merged memory answers a within
        ∙ (ap (λ kind. value_after kind answers a (value_at memory a)) tally ∙ sym ((totals_are_laid a (value_at memory a)).1 total is answers));
  }

  -- without a fault, the step leaves the merged memory, or the least total outside 64 bits
  right_without : MatchResult (unless_outside (position is_outside (merged_memory memory answers)) (merged_memory memory answers)) (IsRightMemory memory answers) (IsRightFault memory answers)
  right_without =
      let merged = merged_memory memory answers in
      let at = position_or_len is_outside merged in
      ⊎_elim
      (λ (h : at < length merged).
      let found : position is_outside merged ≡ Some at = ap (λ b. cond b (Some at) None) (lt-ltb _ _ h) in
      subst (λ o. MatchResult (unless_outside o merged) (IsRightMemory memory answers) (IsRightFault memory answers)) (sym found) (
        none,
        outside_found memory answers at (omega (arith, h, length-merged memory answers)) (passes_at_first is_outside merged no_word h),
        λ a outside.
            ⊎_elim
            (λ (l : a < at). absurd (both_ways _ (fails_before_first is_outside merged a no_word l) (outside_test memory answers a outside)))
            (λ (g : at ≤ a). g)
            (cases_lt a at),
      ))
      (λ (h : length merged ≤ at).
      let nowhere : position is_outside merged ≡ None = ap (λ b. cond b (Some at) None) (le-ltb _ _ h) in
      subst (λ o. MatchResult (unless_outside o merged) (IsRightMemory memory answers) (IsRightFault memory answers)) (sym nowhere)
      (right_memory (λ a outside. both_ways _ (fails_before_first is_outside merged a no_word (omega (arith, h, outside.within, length-merged memory answers)))
      (outside_test memory answers a outside))))
      (cases_lt at (length merged))

pub after_is_right : AfterIsRight
after_is_right memory answers =
    let least = least_faulty (kinds_of memory) answers in
    ⊎_elim
    (λ (h : least < length answers).
    subst (λ r. MatchResult r (IsRightMemory memory answers) (IsRightFault memory answers)) (sym (after_fault memory answers h)) (right_fault memory answers h))
    (λ (h : length answers ≤ least).
    subst (λ r. MatchResult r (IsRightMemory memory answers) (IsRightFault memory answers)) (sym (after_sound memory answers h))
    (right_without memory answers (λ k l faulty. none_below_least (kinds_of memory) answers k (omega (arith, l, h)) faulty)))
    (cases_lt least (length answers))
