-- Word by word, the memory with something left in its words.
use Rattle.std.proofs.Common.{◌≡◌, ◌<◌, ◌≤◌, ◌+◌, ◌^◌, ℕ, zero, suc, ℤ, pos, negsuc, length, set, get_or, map, List, [], ◌∷◌, Option, None, Some, ◌∙◌, sym, ap, refl, arith, Bool, true, false, cond}
use Rattle.std.proofs.Common.{ltb, not, ◌&&◌, SFits, w64, add-one, add-zero, ⊎_elim, subst}
use Rattle.std.proofs.lemmas.List.{get_or_past, get_or-set_other}
use Rattle.std.specs.Prelude.{slice_get, is_some}
use Rattle.std.specs.Option.{option_map_or, unwrap_or}
use Rattle.std.specs.List.{enumerate_from, position, position_or_len}
use Rattle.std.proofs.lemmas.Bool.{cases_lt, lt-ltb, le-ltb, ltb-true}
use Rattle.std.proofs.lemmas.List.Sums.{position_or_len_is, fails_before_first}
use Rattle.cal_terms.specs.declared.kinds.WordKind.{WordKind}
use Rattle.cal_terms.specs.declared.kinds.WordKind.TheVariants.{Ordinary, Tally}
use Rattle.cal_base.specs.declared.step.Word.{Word}
use Rattle.cal_base.specs.Memory.{Memory, kinds_of, kind_at, value_at, with_value, has_one_writer, is_ordinary}
use Rattle.cal_base.specs.Arithmetic.{fits_word}
use Rattle.cal_base.specs.Pages.{Paged, page_of, version_of}
use Rattle.cal_base.specs.Answers.{Answers, answer_of, entry_in}
use Rattle.cal_base.specs.After.{first_writer, value_after, is_outside, has_total, merged_memory}
use Rattle.step_laws.proofs.Searches.{below_least, at_least, least_at}
use Rattle.step_laws.proofs.Totals.{nothing_added}
use Rattle.step_merge.specs.Staged.{Staged, StandsFor, size_of, owner_in, value_in}
use Rattle.step_merge.specs.Steps.{has_owner, entered, left_by, left_word, left_memory, is_outside_word}
use Rattle.step_merge.proofs.Streaming.{value_is_kept}

abbrev Left : Type 0
Left = WordKind → ℕ → ℤ → ℤ

-- a number of 64 bits fits them
pub fits_of : (z : ℤ) → fits_word z ≡ true → SFits w64 z
fits_of (pos n) e = record { sfits = ltb-true n (2 ^ 63) e }
fits_of (negsuc n) e = let below = ltb-true n (2 ^ 63) e in record { sfits = omega arith }

-- and what fits them is one
pub fits_back : (z : ℤ) → SFits w64 z → fits_word z ≡ true
fits_back (pos n) f = lt-ltb n (2 ^ 63) (omega arith)
fits_back (negsuc n) f = lt-ltb n (2 ^ 63) (omega arith)

-- a write leaves the version of another page
pub version_other : (before later : Paged) (a p : ℕ) (version : Option ℕ) → later.versions ≡ set before.versions (page_of a) version → (page_of a ≡ p → ⊥) → version_of later p ≡ version_of before p
version_other before later a p version is apart = ap (λ vs. get_or vs p None) is ∙ get_or-set_other before.versions (page_of a) p version None (λ e. apart (sym e))

-- the kind of a word that is there
pub kind_there : (memory : Memory) (a : ℕ) (kind : WordKind) → a < length memory → kind ≡ kind_at memory a → slice_get (kinds_of memory) a ≡ Some kind
kind_there [] a kind within is = absurd (omega arith)
kind_there (word ∷ memory) zero kind within is = ap (λ k. Some k) (sym is)
kind_there (word ∷ memory) (suc a) kind within is = kind_there memory a kind (omega arith) is

module _ (left : Left) where
  abbrev pub left_from : ℕ → Memory → Memory
  left_from base memory = map (λ place. left_word left place.0 place.1) (enumerate_from base memory)

  -- the memory with its first words merged
  abbrev pub partly_left : ℕ → ℕ → Memory → Memory
  partly_left base zero memory = memory
  partly_left base (suc a) [] = []
  partly_left base (suc a) (word ∷ memory) = left_word left base word ∷ partly_left (base + 1) a memory

  pub length-left_from : (base : ℕ) (memory : Memory) → length (left_from base memory) ≡ length memory
  length-left_from base [] = refl
  length-left_from base (word ∷ memory) = ap suc (length-left_from (base + 1) memory)

  partly_all : (base : ℕ) (memory : Memory) → partly_left base (length memory) memory ≡ left_from base memory
  partly_all base [] = refl
  partly_all base (word ∷ memory) = let rest = partly_all (base + 1) memory in λ i. left_word left base word ∷ rest i

  pub kinds-partly : (base a : ℕ) (memory : Memory) → kinds_of (partly_left base a memory) ≡ kinds_of memory
  kinds-partly base zero memory = refl
  kinds-partly base (suc a) [] = refl
  kinds-partly base (suc a) (word ∷ memory) = let rest = kinds-partly (base + 1) a memory in λ i. word.kind ∷ rest i

  pub length-partly : (base a : ℕ) (memory : Memory) → length (partly_left base a memory) ≡ length memory
  length-partly base zero memory = refl
  length-partly base (suc a) [] = refl
  length-partly base (suc a) (word ∷ memory) = ap suc (length-partly (base + 1) a memory)

  pub value-partly : (base a : ℕ) (memory : Memory) → value_at (partly_left base a memory) a ≡ value_at memory a
  value-partly base zero memory = refl
  value-partly base (suc a) [] = refl
  value-partly base (suc a) (word ∷ memory) = value-partly (base + 1) a memory

  partly_more : (base a : ℕ) (memory : Memory) (kind : WordKind) → slice_get (kinds_of memory) a ≡ Some kind
      → with_value (partly_left base a memory) a (left kind (base + a) (value_at memory a)) ≡ partly_left base (suc a) memory
  partly_more base zero [] kind at = refl
  partly_more base (suc a) [] kind at = refl
  partly_more base zero (word ∷ memory) kind at =
      let same : kind ≡ word.kind = cc in
      let place : base + 0 ≡ base = add-zero base in
      λ i. record { kind = word.kind; value = left (same i) (place i) word.value } ∷ memory
  partly_more base (suc a) (word ∷ memory) kind at =
      let place : base + suc a ≡ (base + 1) + a = omega arith in
      ap (λ (p : ℕ). with_value (partly_left base (suc a) (word ∷ memory)) (suc a) (left kind p (value_at memory a))) place
      ∙ (let rest = partly_more (base + 1) a memory kind at in λ i. left_word left base word ∷ rest i)

  outside_from : (base k : ℕ) (memory : Memory) (d : Word) → k < length memory → is_outside (get_or (left_from base memory) k d) ≡ option_map_or (λ word. is_outside (left_word left (base + k) word))
      (slice_get memory k) false
  outside_from base k [] d within = absurd (omega arith)
  outside_from base zero (word ∷ memory) d within = ap (λ (p : ℕ). is_outside (left_word left p word)) (sym (add-zero base))
  outside_from base (suc k) (word ∷ memory) d within =
      let place : (base + 1) + k ≡ base + suc k = omega arith in
      outside_from (base + 1) k memory d (omega arith) ∙ ap (λ (p : ℕ). option_map_or (λ w. is_outside (left_word left p w)) (slice_get memory k) false) place

-- ---- as the loops use them

pub merged_all : (memory : Memory) (left : Left) (a : ℕ) → a ≡ length memory → partly_left left 0 a memory ≡ left_memory left memory
merged_all memory left a e = ap (λ n. partly_left left 0 n memory) e ∙ partly_all left 0 memory

pub merged_more : (memory : Memory) (left : Left) (a : ℕ) (kind : WordKind) (v : ℤ) → slice_get (kinds_of memory) a ≡ Some kind → v ≡ left kind a (value_at memory a)
    → with_value (partly_left left 0 a memory) a v ≡ partly_left left 0 (a + 1) memory
merged_more memory left a kind v at is =
    let place : a ≡ 0 + a = omega arith in
    ap (λ x. with_value (partly_left left 0 a memory) a x) (is ∙ ap (λ p. left kind p (value_at memory a)) place)
    ∙ rw add-one (partly_more left 0 a memory kind at)

outside_at : (memory : Memory) (left : Left) (k : ℕ) (d : Word) → k < length memory → is_outside (get_or (left_memory left memory) k d) ≡ is_outside_word left memory k
outside_at memory left k d within =
    let place : 0 + k ≡ k = omega arith in
    outside_from left 0 k memory d within ∙ ap (λ (p : ℕ). option_map_or (λ word. is_outside (left_word left p word)) (slice_get memory k) false) place

length-merged : (memory : Memory) (left : Left) → length (left_memory left memory) ≡ length memory
length-merged memory left = length-left_from left 0 memory

abbrev no_word : Word
no_word = record { kind = Ordinary; value = pos 0 }

pub outside_found : (memory : Memory) (left : Left) (a : ℕ) → a < length memory → ((i : ℕ) → i < a → is_outside_word left memory i ≡ false) → is_outside_word left memory a ≡ true
    → Some a ≡ position is_outside (left_memory left memory)
outside_found memory left a within none passes =
    let size = length-merged memory left in
    let at : position_or_len is_outside (left_memory left memory) ≡ a =
    position_or_len_is is_outside (left_memory left memory) a no_word (omega arith) (λ k h. outside_at memory left k no_word (omega arith) ∙ none k h)
    (λ _. outside_at memory left a no_word within ∙ passes)
    in
    let below : ltb (position_or_len is_outside (left_memory left memory)) (length (left_memory left memory)) ≡ true = lt-ltb _ _ (omega arith) in
    sym (ap (λ b. cond b (Some (position_or_len is_outside (left_memory left memory))) None) below ∙ ap (λ n. Some n) at)

pub outside_none : (memory : Memory) (left : Left) (a : ℕ) → a ≡ length memory → ((i : ℕ) → i < a → is_outside_word left memory i ≡ false) → None ≡ position is_outside (left_memory left memory)
outside_none memory left a all none =
    let size = length-merged memory left in
    let at : position_or_len is_outside (left_memory left memory) ≡ a =
    position_or_len_is is_outside (left_memory left memory) a no_word (omega arith) (λ k h. outside_at memory left k no_word (omega arith) ∙ none k h) (λ h. absurd (omega arith))
    in
    let past : ltb (position_or_len is_outside (left_memory left memory)) (length (left_memory left memory)) ≡ false = le-ltb _ _ (omega arith) in
    sym (ap (λ b. cond b (Some (position_or_len is_outside (left_memory left memory))) None) past)

-- where there is no total outside 64 bits, each word is inside
pub inside_each : (memory : Memory) (left : Left) (a : ℕ) → position is_outside (left_memory left memory) ≡ None → a < length memory → is_outside_word left memory a ≡ false
inside_each memory left a none within =
    let size = length-merged memory left in
    let p = position_or_len is_outside (left_memory left memory) in
    ⊎_elim
    (λ (h : p < length (left_memory left memory)).
    let found : position is_outside (left_memory left memory) ≡ Some p = ap (λ b. cond b (Some p) None) (lt-ltb _ _ h) in
    absurd (cc (none, found)))
    (λ (h : length (left_memory left memory) ≤ p).
    sym (outside_at memory left a no_word within) ∙ fails_before_first is_outside (left_memory left memory) a no_word (omega arith))
    (cases_lt p (length (left_memory left memory)))

outside_of : (kind : WordKind) (left : Left) (memory : Memory) (a : ℕ) → slice_get (kinds_of memory) a ≡ Some kind
    → is_outside_word left memory a ≡ (has_total kind && not (fits_word (left kind a (value_at memory a))))
outside_of kind left memory a at = step memory a at (λ k v. has_total k && not (fits_word (left k a v)))
  where
    step : (memory : Memory) (i : ℕ) → slice_get (kinds_of memory) i ≡ Some kind → (f : WordKind → ℤ → Bool)
        → option_map_or (λ word. f word.kind word.value) (slice_get memory i) false ≡ f kind (value_at memory i)
    step [] zero at f = absurd (cc)
    step [] (suc i) at f = absurd (cc)
    step (word ∷ memory) zero at f = let same : word.kind ≡ kind = cc in λ j. f (same j) word.value
    step (word ∷ memory) (suc i) at f = step memory i at f

-- a value that is inside fits 64 bits
pub inside_fits : (memory : Memory) (left : Left) (a : ℕ) (kind : WordKind) (v : ℤ) → slice_get (kinds_of memory) a ≡ Some kind → is_outside_word left memory a ≡ false
    → v ≡ left kind a (value_at memory a) → (has_one_writer kind ≡ true → fits_word v ≡ true) → SFits w64 v
inside_fits memory left a Ordinary v at inside is one = fits_of v (one refl)
inside_fits memory left a Tally v at inside is one =
    let no : not (fits_word v) ≡ false = ap (λ x. not (fits_word x)) is ∙ (sym (outside_of Tally left memory a at) ∙ inside) in
    fits_of v (twice (fits_word v) no)
  where
    twice : (b : Bool) → not b ≡ false → b ≡ true
    twice true e = refl
    twice false e = absurd (cc)

-- one turn of the loop that merges
module _ (memory now : Memory) (left : Left) (a : ℕ) (kind : WordKind) (so_far : now ≡ partly_left left 0 a memory) (at : slice_get (kinds_of now) a ≡ Some kind) where
  opening_kind : slice_get (kinds_of memory) a ≡ Some kind
  opening_kind = ap (λ ks. slice_get ks a) (sym (ap (λ m. kinds_of m) so_far ∙ kinds-partly left 0 a memory)) ∙ at

  opening_value : value_at now a ≡ value_at memory a
  opening_value = ap (λ m. value_at m a) so_far ∙ value-partly left 0 a memory

  pub now_more : (x v : ℤ) → x ≡ value_at now a → v ≡ left kind a x → with_value now a v ≡ partly_left left 0 (a + 1) memory
  now_more x v read is =
      ap (λ m. with_value m a v) so_far ∙ merged_more memory left a kind v opening_kind (is ∙ ap (λ y. left kind a y) (read ∙ opening_value))

-- a word that keeps its value leaves the memory as it is
with_value_same : (memory : Memory) (a : ℕ) (v : ℤ) → v ≡ value_at memory a → with_value memory a v ≡ memory
with_value_same [] a v is = refl
with_value_same (word ∷ memory) zero v is = λ i. record { kind = word.kind; value = is i } ∷ memory
with_value_same (word ∷ memory) (suc a) v is = let rest = with_value_same memory a v is in λ i. word ∷ rest i

-- ---- what the answers leave

left_same_from : (l r : Left) (base : ℕ) (memory : Memory) → ((i : ℕ) (word : Word) → slice_get memory i ≡ Some word → l word.kind (base + i) word.value ≡ r word.kind (base + i) word.value)
    → left_from l base memory ≡ left_from r base memory
left_same_from l r base [] same = refl
left_same_from l r base (word ∷ memory) same =
    let here : l word.kind base word.value ≡ r word.kind base word.value = subst (λ (p : ℕ). l word.kind p word.value ≡ r word.kind p word.value) (add-zero base) (same 0 word refl) in
    let rest =
    left_same_from l r (base + 1) memory
    (λ i w at. let place : base + suc i ≡ (base + 1) + i = omega arith in subst (λ (p : ℕ). l w.kind p w.value ≡ r w.kind p w.value) place (same (suc i) w at))
    in
    λ i. record { kind = word.kind; value = here i } ∷ rest i

kind_of_word : (memory : Memory) (i : ℕ) (word : Word) → slice_get memory i ≡ Some word → slice_get (kinds_of memory) i ≡ Some word.kind
kind_of_word [] i word at = absurd (cc)
kind_of_word (w ∷ memory) zero word at = let same : w ≡ word = cc in ap (λ (x : Word). Some x.kind) same
kind_of_word (w ∷ memory) (suc i) word at = kind_of_word memory i word at

found_within : (kinds : List WordKind) (i : ℕ) (kind : WordKind) → slice_get kinds i ≡ Some kind → i < length kinds
found_within [] i kind at = absurd (cc)
found_within (k ∷ kinds) zero kind at = omega arith
found_within (k ∷ kinds) (suc i) kind at = omega (arith, found_within kinds i kind at)

no_entry : (o : Option ℤ) → is_some o ≡ false → o ≡ None
no_entry None e = refl
no_entry (Some v) e = absurd (cc)

module _ (stage : Staged) (answers : Answers) (stands : StandsFor stage answers) where
  -- a word without an owner has no entry
  pub unowned : (a : ℕ) → a < length stage.kinds → size_of stage ≤ owner_in stage a → (j : ℕ) → entry_in (answer_of answers j) a ≡ None
  unowned a word none j =
      ⊎_elim
      (λ (l : j < length answers).
      no_entry (entry_in (answer_of answers j) a) (below_least (length answers) (λ i. is_some (entry_in (answer_of answers i) a)) j (omega (arith, stands.owner a word, stands.size))))
      (λ (g : length answers ≤ j). ap (λ o. entry_in o a) (get_or_past answers j None g))
      (cases_lt j (length answers))

  -- and where there is none it has no owner
  pub owner_none : (a : ℕ) → a < length stage.kinds → ((j : ℕ) → entry_in (answer_of answers j) a ≡ None) → size_of stage ≤ owner_in stage a
  owner_none a word none =
      let is : first_writer answers (length answers) a ≡ length answers =
      least_at (length answers) (λ i. is_some (entry_in (answer_of answers i) a)) (length answers) (omega arith) (λ j _. ap (λ o. is_some o) (none j)) (λ h. absurd (omega arith))
      in
      omega (arith, stands.owner a word, stands.size)

  owned : (kind : WordKind) (a : ℕ) (value : ℤ) → slice_get stage.kinds a ≡ Some kind → owner_in stage a < size_of stage → entered kind stage a value ≡ value_after kind answers a value
  owned Ordinary a value at owner =
      let word : a < length stage.kinds = found_within stage.kinds a Ordinary at in
      let ordinary : is_ordinary stage.kinds a ≡ true = ap (λ o. option_map_or has_one_writer o false) at in
      let there : is_some (entry_in (answer_of answers (first_writer answers (length answers) a)) a) ≡ true =
      at_least (length answers) (λ i. is_some (entry_in (answer_of answers i) a)) (omega (arith, stands.owner a word, stands.size))
      in
      sym ((value_is_kept stage answers stands a value).0 ordinary there)
  owned Tally a value at owner =
      sym ((value_is_kept stage answers stands a value).1 (found_within stage.kinds a Tally at) (ap (λ o. option_map_or has_one_writer o false) at))

  stays : (kind : WordKind) (a : ℕ) (value : ℤ) → ((j : ℕ) → entry_in (answer_of answers j) a ≡ None) → value ≡ value_after kind answers a value
  stays Ordinary a value none = sym (ap (λ o. unwrap_or o value) (none (first_writer answers (length answers) a)))
  stays Tally a value none = sym (nothing_added answers a none value)

  left_is : (kind : WordKind) (a : ℕ) (value : ℤ) → slice_get stage.kinds a ≡ Some kind → left_by stage kind a value ≡ value_after kind answers a value
  left_is kind a value at =
      ⊎_elim
      (λ (l : owner_in stage a < size_of stage). ap (λ b. cond b (entered kind stage a value) value) (lt-ltb _ _ l) ∙ owned kind a value at l)
      (λ (g : size_of stage ≤ owner_in stage a).
      ap (λ b. cond b (entered kind stage a value) value) (le-ltb _ _ g) ∙ stays kind a value (unowned a (found_within stage.kinds a kind at) g))
      (cases_lt (owner_in stage a) (size_of stage))

  pub left_is_after : (memory : Memory) → stage.kinds ≡ kinds_of memory → left_memory (left_by stage) memory ≡ merged_memory memory answers
  unfolding merged_memory
  left_is_after memory kinds =
      left_same_from (left_by stage) (λ kind a value. value_after kind answers a value) 0 memory
      (λ i word at. left_is word.kind (0 + i) word.value (ap (λ (p : ℕ). slice_get stage.kinds p) (omega arith) ∙ (ap (λ ks. slice_get ks i) kinds ∙ kind_of_word memory i word at)))

-- ---- one word

module _ (stage : Staged) (memory : Memory) (a : ℕ) where
  by_owner : (kind : WordKind) (value : ℤ) → has_owner stage a ≡ true → left_by stage kind a value ≡ entered kind stage a value
  by_owner kind value on = ap (λ b. cond b (entered kind stage a value) value) on

  without_owner : (kind : WordKind) (value : ℤ) → has_owner stage a ≡ false → left_by stage kind a value ≡ value
  without_owner kind value off = ap (λ b. cond b (entered kind stage a value) value) off

  pub ordinary_inside : slice_get (kinds_of memory) a ≡ Some Ordinary → false ≡ is_outside_word (left_by stage) memory a
  ordinary_inside at = sym (outside_of Ordinary (left_by stage) memory a at)

  pub outside_if : slice_get (kinds_of memory) a ≡ Some Tally → (is_entered : Bool) (total : ℤ) → is_entered ≡ has_owner stage a → fits_word (value_at memory a) ≡ true
      → total ≡ entered Tally stage a (value_at memory a)
      → (is_entered && not (fits_word total)) ≡ is_outside_word (left_by stage) memory a
  outside_if at true total is fits same = ap (λ v. not (fits_word v)) (same ∙ sym (by_owner Tally (value_at memory a) (sym is))) ∙ sym (outside_of Tally (left_by stage) memory a at)
  outside_if at false total is fits same = sym (outside_of Tally (left_by stage) memory a at ∙ (ap (λ v. not (fits_word v)) (without_owner Tally (value_at memory a) (sym is)) ∙ ap (λ b. not b) fits))

  one_fits : (kind : WordKind) (v : ℤ) → slice_get stage.kinds a ≡ Some kind → v ≡ entered kind stage a (value_at memory a) → (is_ordinary stage.kinds a ≡ true → fits_word (value_in stage a) ≡ true)
      → has_one_writer kind ≡ true → fits_word v ≡ true
  one_fits Ordinary v at is fits one = ap fits_word is ∙ fits (ap (λ o. option_map_or has_one_writer o false) at)
  one_fits Tally v at is fits one = absurd (cc)

  -- what is written fits 64 bits
  pub fits_left : (kind : WordKind) (v : ℤ) → stage.kinds ≡ kinds_of memory → a < length memory → kind ≡ kind_at memory a → is_outside_word (left_by stage) memory a ≡ false → has_owner stage a ≡ true
      → v ≡ entered kind stage a (value_at memory a) → (is_ordinary stage.kinds a ≡ true → fits_word (value_in stage a) ≡ true) → SFits w64 v
  fits_left kind v kinds within is inside on same fits =
      let at : slice_get (kinds_of memory) a ≡ Some kind = kind_there memory a kind within is in
      inside_fits memory (left_by stage) a kind v at inside (same ∙ sym (by_owner kind (value_at memory a) on)) (one_fits kind v (ap (λ ks. slice_get ks a) kinds ∙ at) same fits)

  pub written_left : (kind : WordKind) (x v : ℤ) → kind ≡ kind_at memory a → x ≡ value_at memory a → has_owner stage a ≡ true → v ≡ entered kind stage a x
      → v ≡ left_by stage (kind_at memory a) a (value_at memory a)
  written_left kind x v is read on same = same ∙ ((λ i. entered (is i) stage a (read i)) ∙ sym (by_owner (kind_at memory a) (value_at memory a) on))

  pub kept_left : has_owner stage a ≡ false → memory ≡ with_value memory a (left_by stage (kind_at memory a) a (value_at memory a))
  kept_left off = sym (with_value_same memory a _ (without_owner (kind_at memory a) (value_at memory a) off))

-- ---- one turn of the loop that merges

module _ (memory now : Memory) (left : Left) (a : ℕ) (so_far : now ≡ partly_left left 0 a memory) (within : a < length memory) where
  size_now : length now ≡ length memory
  size_now = ap (λ m. length m) so_far ∙ length-partly left 0 a memory

  kind_now : slice_get (kinds_of now) a ≡ Some (kind_at now a)
  kind_now = kind_there now a (kind_at now a) (omega (arith, size_now)) refl

  pub within_now : a < length now
  within_now = omega (arith, size_now)

  pub kinds_now : kinds_of memory ≡ kinds_of now
  kinds_now = sym (ap (λ m. kinds_of m) so_far ∙ kinds-partly left 0 a memory)

  pub inside_now : position is_outside (left_memory left memory) ≡ None → is_outside_word left now a ≡ false
  inside_now none =
      outside_of (kind_at now a) left now a kind_now
      ∙ (ap (λ v. has_total (kind_at now a) && not (fits_word (left (kind_at now a) a v))) (opening_value memory now left a (kind_at now a) so_far kind_now)
      ∙ (sym (outside_of (kind_at now a) left memory a (opening_kind memory now left a (kind_at now a) so_far kind_now)) ∙ inside_each memory left a none within))

  pub merged_now : (next : Memory) → next ≡ with_value now a (left (kind_at now a) a (value_at now a)) → next ≡ partly_left left 0 (a + 1) memory
  merged_now next is = is ∙ now_more memory now left a (kind_at now a) so_far kind_now (value_at now a) _ refl refl
