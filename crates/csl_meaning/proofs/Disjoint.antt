-- A step whose routines write different words leaves all their writes.
use Rattle.std.proofs.Common.{◌≡◌, ℕ, zero, suc, ◌<◌, ℤ, Bool, true, false, cond, ◌&&◌, ◌||◌, ◌==◌, if◌then◌else◌, nat_lt, List, [], ◌∷◌, length, map, Option, Some, None, is_some, Err, refl, ap, ◌∙◌}
use Rattle.std.proofs.Common.{arith, slice_index_or}
use Rattle.std.proofs.lemmas.Bool.{eqb-true, both_ways, le-ltb}
use Rattle.std.specs.Option.{unwrap_or}
use Rattle.std.specs.List.{enumerate_from, position}
use Rattle.std.specs.FinMap.{empty, insert, get, get-insert, get-empty}
use Rattle.std.specs.Cmp.{nat_cmp_total, unsigned_tied}
use Rattle.std.specs.Ordering.{nat_cmp}
use Rattle.cal_terms.specs.declared.kinds.WordKind.{WordKind}
use Rattle.cal_terms.specs.declared.kinds.WordKind.TheVariants.{Ordinary, Tally}
use Rattle.cal_base.specs.declared.answer.Answer.{Answer}
use Rattle.cal_base.specs.declared.answer.Answer.TheVariants.{Update}
use Rattle.cal_base.specs.Numbers.{least_below}
use Rattle.cal_base.specs.Memory.{Memory, kinds_of, is_ordinary}
use Rattle.cal_base.specs.Updates.{Written}
use Rattle.cal_base.specs.Answers.{Answers, answer_of, all_of, entry_in, is_fault}
use Rattle.cal_base.specs.After.{first_writer, is_shared, shared_word, is_faulty, least_faulty, fault_of, value_after, merged_memory, is_outside, unless_outside, after}

-- entries, the last one written first, as an update
abbrev pub update_of : List (ℕ × ℤ) → Written
update_of [] = empty
update_of (e ∷ es) = insert (update_of es) e.0 e.1

-- the entry for an address
abbrev pub look : List (ℕ × ℤ) → ℕ → Option ℤ
look [] a = None
look (e ∷ es) a = if a == e.0 then Some e.1 else look es a

abbrev has : List (ℕ × ℤ) → ℕ → Bool
has es a = is_some (look es a)

get_update : (es : List (ℕ × ℤ)) (a : ℕ) → get (update_of es) a ≡ look es a
get_update [] a = get-empty nat_cmp a
get_update (e ∷ es) a =
    get-insert nat_cmp_total (update_of es) e.0 e.1 a
    ∙ ap (λ b. cond b (Some e.1) (get (update_of es) a)) (unsigned_tied a e.0)
    ∙ ap (λ o. cond (a == e.0) (Some e.1) o) (get_update es a)

-- the answers of routines that write these
abbrev pub answers_by : List (List (ℕ × ℤ)) → List Answer
answers_by lists = map (λ es. Update (update_of es)) lists

abbrev nth : List (List (ℕ × ℤ)) → ℕ → List (ℕ × ℤ)
nth lists k = slice_index_or lists k []

entry_by : (lists : List (List (ℕ × ℤ))) (k a : ℕ) → entry_in (answer_of (all_of (answers_by lists)) k) a ≡ look (nth lists k) a
entry_by [] k a = refl
entry_by (es ∷ lists) zero a = get_update es a
entry_by (es ∷ lists) (suc k) a = entry_by lists k a

no_fault : (lists : List (List (ℕ × ℤ))) (k : ℕ) → is_fault (answer_of (all_of (answers_by lists)) k) ≡ false
no_fault [] k = refl
no_fault (es ∷ lists) zero = refl
no_fault (es ∷ lists) (suc k) = no_fault lists k

-- no entry of the second list has an address of the first
abbrev clear : List (ℕ × ℤ) → List (ℕ × ℤ) → Bool
clear es [] = true
clear es (e ∷ others) = if has es e.0 then false else clear es others

abbrev clear_all : List (ℕ × ℤ) → List (List (ℕ × ℤ)) → Bool
clear_all es [] = true
clear_all es (others ∷ lists) = if clear es others then clear_all es lists else false

-- no two of the lists have an address in common
abbrev pub apart : List (List (ℕ × ℤ)) → Bool
apart [] = true
apart (es ∷ lists) = if clear_all es lists then apart lists else false

parts : (b c : Bool) → (if b then c else false) ≡ true → (b ≡ true) × (c ≡ true)
parts true c e = (refl, e)
parts false c e = absurd (both_ways false refl e)

clear_at : (es others : List (ℕ × ℤ)) → clear es others ≡ true → (a : ℕ) → has others a ≡ true → has es a ≡ false
clear_at es [] h a is = absurd (both_ways false refl is)
clear_at es (e ∷ others) h a is = by_tests (has es e.0) (a == e.0) refl refl (λ g of. clear_at es others g a of) h is
  where
    by_tests : (b c : Bool) → has es e.0 ≡ b → (a == e.0) ≡ c → (clear es others ≡ true → has others a ≡ true → has es a ≡ false) → (if b then false else clear es others) ≡ true
        → is_some (if c then Some e.1 else look others a) ≡ true → has es a ≡ false
    by_tests true c eb ec rest h is = absurd (both_ways false refl h)
    by_tests false true eb ec rest h is = ap (has es) (eqb-true a e.0 ec) ∙ eb
    by_tests false false eb ec rest h is = rest h is

clear_nth : (es : List (ℕ × ℤ)) (lists : List (List (ℕ × ℤ))) → clear_all es lists ≡ true → (k : ℕ) → clear es (nth lists k) ≡ true
clear_nth es [] h k = refl
clear_nth es (others ∷ lists) h zero = (parts (clear es others) (clear_all es lists) h).0
clear_nth es (others ∷ lists) h (suc k) = clear_nth es lists (parts (clear es others) (clear_all es lists) h).1 k

-- what one routine writes, none before it writes
apart_at : (lists : List (List (ℕ × ℤ))) → apart lists ≡ true → (j k a : ℕ) → j < k → has (nth lists k) a ≡ true → has (nth lists j) a ≡ false
apart_at [] h j k a lt is = refl
apart_at (es ∷ lists) h j zero a lt is = absurd (omega arith)
apart_at (es ∷ lists) h zero (suc k) a lt is = clear_at es (nth lists k) (clear_nth es lists (parts (clear_all es lists) (apart lists) h).0 k) a is
apart_at (es ∷ lists) h (suc j) (suc k) a lt is = apart_at lists (parts (clear_all es lists) (apart lists) h).1 j k a (omega arith) is

-- where none passes, the search ends at its bound
none_below : (n : ℕ) (test : ℕ → Bool) → ((k : ℕ) → k < n → test k ≡ false) → least_below n test ≡ n
unfolding least_below
none_below zero test none = refl
none_below (suc n) test none =
    ap (λ (b : Bool). if b then zero else suc (least_below n (λ k. test (suc k)))) (none zero (omega arith))
    ∙ ap suc (none_below n (λ k. test (suc k)) (λ k lt. none (suc k) (omega arith)))

module _ (kinds : List WordKind) (lists : List (List (ℕ × ℤ))) (h : apart lists ≡ true) where
  abbrev answers : Answers
  answers = all_of (answers_by lists)

  entry_is : (k a : ℕ) → is_some (entry_in (answer_of answers k) a) ≡ has (nth lists k) a
  entry_is k a = ap is_some (entry_by lists k a)

  unshared : (k a : ℕ) → is_shared kinds answers k a ≡ false
  unshared k a = ap (λ (b : Bool). is_ordinary kinds a && (b && nat_lt (first_writer answers k a) k)) (entry_is k a) ∙ by_test (is_ordinary kinds a) (has (nth lists k) a) refl
    where
      by_test : (o b : Bool) → has (nth lists k) a ≡ b → (o && (b && nat_lt (first_writer answers k a) k)) ≡ false
      by_test false b e = refl
      by_test true false e = refl
      by_test true true e =
          let own : first_writer answers k a ≡ k = none_below k _ (λ j lt. entry_is j a ∙ apart_at lists h j k a lt e) in
          le-ltb (first_writer answers k a) k (omega arith)

  not_faulty : (k : ℕ) → is_faulty kinds answers k ≡ false
  unfolding is_faulty shared_word
  not_faulty k =
      let none : shared_word kinds answers k ≡ length kinds = none_below (length kinds) _ (λ a lt. unshared k a) in
      ap (λ (b : Bool). b || nat_lt (shared_word kinds answers k) (length kinds)) (no_fault lists k)
      ∙ le-ltb (shared_word kinds answers k) (length kinds) (omega arith)

  none_faulty : least_faulty kinds answers ≡ length answers
  unfolding least_faulty
  none_faulty = none_below (length answers) _ (λ k lt. not_faulty k)

-- ---- the merged memory

abbrev or_else : Option ℤ → Option ℤ → Option ℤ
or_else (Some v) other = Some v
or_else None other = other

-- the entry for an address in the first list that has one
abbrev pub look_in_all : List (List (ℕ × ℤ)) → ℕ → Option ℤ
look_in_all [] a = None
look_in_all (es ∷ lists) a = or_else (look es a) (look_in_all lists a)

-- the value of a word after such a step
abbrev pub value_by : WordKind → List (List (ℕ × ℤ)) → ℕ → ℤ → ℤ
value_by Ordinary lists a v = unwrap_or (look_in_all lists a) v
value_by Tally lists a v = value_after Tally (all_of (answers_by lists)) a v

-- the memory after such a step
abbrev pub memory_by : Memory → List (List (ℕ × ℤ)) → Memory
memory_by memory lists = map (λ place. record { kind = place.1.kind; value = value_by place.1.kind lists place.0 place.1.value }) (enumerate_from 0 memory)

first_entry : (lists : List (List (ℕ × ℤ))) (a : ℕ)
    → entry_in (answer_of (all_of (answers_by lists)) (first_writer (all_of (answers_by lists)) (length (all_of (answers_by lists))) a)) a ≡ look_in_all lists a
unfolding least_below
first_entry [] a = refl
first_entry (es ∷ lists) a =
    ap (λ (b : Bool). entry_in (answer_of (all_of (answers_by (es ∷ lists))) (if b then zero else suc (first_writer (all_of (answers_by lists)) (length (all_of (answers_by lists))) a))) a)
    (ap is_some (get_update es a))
    ∙ by_look (look es a) refl (first_entry lists a)
  where
    by_look : (o : Option ℤ) → look es a ≡ o
        → entry_in (answer_of (all_of (answers_by lists)) (first_writer (all_of (answers_by lists)) (length (all_of (answers_by lists))) a)) a ≡ look_in_all lists a
        → entry_in (answer_of (all_of (answers_by (es ∷ lists))) (if is_some o then zero else suc (first_writer (all_of (answers_by lists)) (length (all_of (answers_by lists))) a))) a ≡ or_else o
        (look_in_all lists a)
    by_look (Some v) e rest = get_update es a ∙ e
    by_look None e rest = rest

value_is : (kind : WordKind) (lists : List (List (ℕ × ℤ))) (a : ℕ) (v : ℤ) → value_after kind (all_of (answers_by lists)) a v ≡ value_by kind lists a v
value_is Ordinary lists a v = ap (λ o. unwrap_or o v) (first_entry lists a)
value_is Tally lists a v = refl

merged_is : (memory : Memory) (lists : List (List (ℕ × ℤ))) → merged_memory memory (all_of (answers_by lists)) ≡ memory_by memory lists
unfolding merged_memory
merged_is memory lists = λ i. map (λ place. record { kind = place.1.kind; value = value_is place.1.kind lists place.0 place.1.value i }) (enumerate_from 0 memory)

-- a step whose routines write different words leaves all their writes
pub disjoint : (memory : Memory) (lists : List (List (ℕ × ℤ))) → apart lists ≡ true → after memory (all_of (answers_by lists)) ≡ unless_outside (position is_outside (memory_by memory lists))
    (memory_by memory lists)
unfolding after
disjoint memory lists h =
    let all : Answers = all_of (answers_by lists) in
    let least : least_faulty (kinds_of memory) all ≡ length all = none_faulty (kinds_of memory) lists h in
    ap (λ (b : Bool). if b then Err (fault_of (kinds_of memory) all (least_faulty (kinds_of memory) all)) else unless_outside (position is_outside (merged_memory memory all))
    (merged_memory memory all)) (le-ltb (least_faulty (kinds_of memory) all) (length all) (omega arith))
    ∙ ap (λ m. unless_outside (position is_outside m) m) (merged_is memory lists)
