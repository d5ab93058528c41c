-- The words, the tally words, the first values and the texts of the module of an accepted program keep the rules.
use Rattle.std.proofs.Common.{◌≡◌, ◌≢◌, ◌≤◌, ◌<◌, ◌+◌, ℕ, zero, suc, ℤ, pos, negsuc, Bool, true, false, if◌then◌else◌, List, [], ◌∷◌, ◌++◌, map, replicate, Option, Some, None, length, refl, ◌∙◌}
use Rattle.std.proofs.Common.{arith, length-append}
use Rattle.std.specs.List.{AllByRecursion}
use Rattle.std.specs.Ordering.{int_eq}
use Rattle.std.proofs.lemmas.List.{length-replicate}
use Rattle.std.proofs.lemmas.Bool.Decides.{Decides-int_eq}
use Rattle.cal_base.specs.declared.step.Word.{Word}
use Rattle.cal_terms.specs.declared.kinds.WordKind.{WordKind}
use Rattle.cal_terms.specs.declared.kinds.WordKind.TheVariants.{Ordinary, Tally}
use Rattle.cal_base.specs.Memory.{Memory, memory_of}
use Rattle.cal_base.proofs.Images.{length-memory_of}
use Rattle.csl_tree.specs.declared.program.Program.{Program}
use Rattle.csl_tree.specs.declared.program.ArraySize.{ArraySize}
use Rattle.csl_tree.specs.declared.program.Shared.{Shared}
use Rattle.csl_tree.specs.declared.program.Valued.{Valued}
use Rattle.csl_tree.specs.declared.program.Form.TheVariants as variant
use Rattle.csl_grammar.specs.Texts.{text_limit}
use Rattle.csl_meaning.specs.Layout.{natural, words_in, first_words, first_memory, items_in, word_count}
use Rattle.csl_meaning.specs.Layout as layout
use Rattle.type_check.specs.Faults.{IsAccepted, most_words}
use Rattle.type_check.specs.Faults as faults
use Rattle.type_check.specs.Words.{words_taken, total_words}
use Rattle.type_check.proofs.WordLemmas.{accepted-words}
use Rattle.bytecode.specs.Spelling.{AreAscendingFrom, AreAscending, Counted, FitsNum, FitsZig, FitsInitial, FitsText}
use Rattle.code_verify.specs.Rules.{IsWord}
use Rattle.compiled_code.specs.Sizes.{texts_in}
use Rattle.compiled_code.specs.Modules.{with_tally, tallies_from, initial_from, module_of}
use Rattle.accepted_code.proofs.TokenFacts.{TextFits}
use Rattle.accepted_code.proofs.Parts.{ValuesFit, SpelledProgram}

-- ---- lists

all_append : {A : Type 0} (P : A → Type 0) (xs ys : List A) → AllByRecursion P xs → AllByRecursion P ys → AllByRecursion P (xs ++ ys)
all_append P [] ys h k = k
all_append P (x ∷ xs) ys h k = (h.0, all_append P xs ys h.1 k)

all_replicate : {A : Type 0} (P : A → Type 0) (n : ℕ) (x : A) → P x → AllByRecursion P (replicate n x)
all_replicate P zero x h = tt
all_replicate P (suc n) x h = (h, all_replicate P n x h)

all_weaker : {A : Type 0} (P Q : A → Type 0) → ((x : A) → P x → Q x) → (xs : List A) → AllByRecursion P xs → AllByRecursion Q xs
all_weaker P Q f [] h = tt
all_weaker P Q f (x ∷ xs) h = (f x h.0, all_weaker P Q f xs h.1)

-- ---- how many words there are

-- both count the words of a declaration in the same way
words_same : (size : Option ArraySize) → word_count (items_in size) ≡ words_taken size
words_same None = refl
words_same (Some size) = by size.number
  where
    by : (z : ℤ) → layout.natural z ≡ faults.natural z
    by (pos n) = refl
    by (negsuc n) = refl

first_length : (s : Shared) → length (first_words s) ≡ words_in s
first_length s =
    let stated : List ℤ = map (λ v. v.number) s.values in
    let zeros : List ℤ = replicate (words_in s) (pos 0) in
    length-memory_of (replicate (words_in s) s.kind) (stated ++ zeros) (omega (arith, length-replicate (words_in s) s.kind, length-replicate (words_in s) (pos 0), length-append stated zeros))
    ∙ length-replicate (words_in s) s.kind

memory_length : (shared : List Shared) → length (first_memory shared) ≡ total_words shared
memory_length [] = refl
memory_length (s ∷ rest) = omega (arith, length-append (first_words s) (first_memory rest), first_length s, words_same s.size, memory_length rest)

-- ---- tally words

ascends_lower : (low high : ℕ) (ns : List ℕ) → low ≤ high → AreAscendingFrom high ns → AreAscendingFrom low ns
ascends_lower low high [] h a = tt
ascends_lower low high (n ∷ rest) h a = (omega (arith, h, a.0), a.1)

tallies_ascend : (at : ℕ) (memory : Memory) → AreAscendingFrom at (tallies_from at memory)
tallies_ascend at [] = tt
tallies_ascend at (word ∷ rest) = by word.kind (tallies_ascend (suc at) rest)
  where
    by : (k : WordKind) → AreAscendingFrom (suc at) (tallies_from (suc at) rest) → AreAscendingFrom at (with_tally k at (tallies_from (suc at) rest))
    by Ordinary h = ascends_lower at (suc at) (tallies_from (suc at) rest) (omega arith) h
    by Tally h = (omega arith, ascends_lower (at + 1) (suc at) (tallies_from (suc at) rest) (omega arith) h)

tallies_below : (limit at : ℕ) (memory : Memory) → at + length memory ≤ limit → AllByRecursion (λ (a : ℕ). a < limit) (tallies_from at memory)
tallies_below limit at [] h = tt
tallies_below limit at (word ∷ rest) h = by word.kind (tallies_below limit (suc at) rest (omega (arith, h)))
  where
    by : (k : WordKind) → AllByRecursion (λ (a : ℕ). a < limit) (tallies_from (suc at) rest) → AllByRecursion (λ (a : ℕ). a < limit) (with_tally k at (tallies_from (suc at) rest))
    by Ordinary all = all
    by Tally all = (omega (arith, h), all)

tallies_few : (at : ℕ) (memory : Memory) → length (tallies_from at memory) ≤ length memory
tallies_few at [] = omega arith
tallies_few at (word ∷ rest) = by word.kind (tallies_few (suc at) rest)
  where
    by : (k : WordKind) → length (tallies_from (suc at) rest) ≤ length rest → length (with_tally k at (tallies_from (suc at) rest)) ≤ suc (length rest)
    by Ordinary h = omega (arith, h)
    by Tally h = omega (arith, h)

-- ---- first values

-- an address below the limit, and a value of 64 bits that is not 0
abbrev pub EntryFits : ℕ → ℕ × ℤ → Type 0
EntryFits limit entry = (entry.0 < limit) × FitsZig entry.1 × (entry.1 ≢ pos 0)

memory_fits : (kinds : List WordKind) (values : List ℤ) → AllByRecursion FitsZig values → AllByRecursion (λ (w : Word). FitsZig w.value) (memory_of kinds values)
memory_fits [] values h = tt
memory_fits (k ∷ kinds) [] h = tt
memory_fits (k ∷ kinds) (v ∷ values) h = (h.0, memory_fits kinds values h.1)

numbers_fit : (vs : List Valued) → AllByRecursion (λ (v : Valued). FitsZig v.number) vs → AllByRecursion FitsZig (map (λ v. v.number) vs)
numbers_fit [] h = tt
numbers_fit (v ∷ vs) h = (h.0, numbers_fit vs h.1)

first_words_fit : (s : Shared) → ValuesFit s → AllByRecursion (λ (w : Word). FitsZig w.value) (first_words s)
first_words_fit s h =
    let zero_fits : FitsZig (pos 0) = omega arith in
    memory_fits (replicate (words_in s) s.kind) (map (λ v. v.number) s.values ++ replicate (words_in s) (pos 0))
    (all_append FitsZig (map (λ v. v.number) s.values) (replicate (words_in s) (pos 0)) (numbers_fit s.values h) (all_replicate FitsZig (words_in s) (pos 0) zero_fits))

first_memory_fits : (shared : List Shared) → AllByRecursion ValuesFit shared → AllByRecursion (λ (w : Word). FitsZig w.value) (first_memory shared)
first_memory_fits [] h = tt
first_memory_fits (s ∷ rest) h = all_append (λ (w : Word). FitsZig w.value) (first_words s) (first_memory rest) (first_words_fit s h.0) (first_memory_fits rest h.1)

initial_ascends : (at : ℕ) (memory : Memory) → AreAscendingFrom at (map (λ e. e.0) (initial_from at memory))
initial_ascends at [] = tt
initial_ascends at (word ∷ rest) = by (int_eq word.value (pos 0)) (initial_ascends (suc at) rest)
  where
    by : (b : Bool) → AreAscendingFrom (suc at) (map (λ e. e.0) (initial_from (suc at) rest))
        → AreAscendingFrom at (map (λ e. e.0) (if b then initial_from (suc at) rest else (at, word.value) ∷ initial_from (suc at) rest))
    by true h = ascends_lower at (suc at) (map (λ e. e.0) (initial_from (suc at) rest)) (omega arith) h
    by false h = (omega arith, ascends_lower (at + 1) (suc at) (map (λ e. e.0) (initial_from (suc at) rest)) (omega arith) h)

initial_fits : (limit at : ℕ) (memory : Memory) → at + length memory ≤ limit → AllByRecursion (λ (w : Word). FitsZig w.value) memory → AllByRecursion (EntryFits limit) (initial_from at memory)
initial_fits limit at [] h all = tt
initial_fits limit at (word ∷ rest) h all = by (int_eq word.value (pos 0)) refl (initial_fits limit (suc at) rest (omega (arith, h)) all.1)
  where
    by : (b : Bool) → int_eq word.value (pos 0) ≡ b → AllByRecursion (EntryFits limit) (initial_from (suc at) rest)
        → AllByRecursion (EntryFits limit) (if b then initial_from (suc at) rest else (at, word.value) ∷ initial_from (suc at) rest)
    by true e others = others
    by false e others = ((omega (arith, h), all.0, λ is. let same : int_eq word.value (pos 0) ≡ true = (Decides-int_eq word.value (pos 0)).1 is in absurd cc), others)

initial_few : (at : ℕ) (memory : Memory) → length (initial_from at memory) ≤ length memory
initial_few at [] = omega arith
initial_few at (word ∷ rest) = by (int_eq word.value (pos 0)) (initial_few (suc at) rest)
  where
    by : (b : Bool) → length (initial_from (suc at) rest) ≤ length rest → length (if b then initial_from (suc at) rest else (at, word.value) ∷ initial_from (suc at) rest) ≤ suc (length rest)
    by true h = omega (arith, h)
    by false h = omega (arith, h)

-- ---- texts

texts_fit : (texts : List (List ℕ)) → AllByRecursion (TextFits text_limit) texts → AllByRecursion FitsText texts
texts_fit [] fit = tt
texts_fit (text ∷ texts) fit = ((omega (arith, fit.0.0), fit.0.1), texts_fit texts fit.1)

-- ---- the module

-- the words and the lists of a program's module keep the rules
pub record ListsFit (p : Program) : Type 0 where
  pub few_words : (module_of p).words ≤ 262144
  pub words : FitsNum (module_of p).words
  pub tallies : Counted FitsNum (module_of p).tallies × AreAscending (module_of p).tallies
  pub tallies_within : AllByRecursion (λ a. IsWord (module_of p) a) (module_of p).tallies
  pub initial : Counted FitsInitial (module_of p).initial × AreAscending (map (λ e. e.0) (module_of p).initial)
  pub initial_within : AllByRecursion (λ e. IsWord (module_of p) e.0) (module_of p).initial
  pub texts : Counted FitsText (module_of p).texts

-- an accepted program has at most 262,144 words
pub module_words : (p : Program) → IsAccepted p → (module_of p).words ≤ 262144
module_words p accepted = omega (arith, memory_length p.shared, accepted-words p accepted)

pub lists_fit : (p : Program) → SpelledProgram p → IsAccepted p → ListsFit p
lists_fit p s accepted =
    let memory : Memory = first_memory p.shared in
    let count : ℕ = length memory in
    let few : count ≤ 262144 = module_words p accepted in
    let below : AllByRecursion (λ (a : ℕ). a < count) (tallies_from 0 memory) = tallies_below count 0 memory (omega arith) in
    let entries : AllByRecursion (EntryFits count) (initial_from 0 memory) = initial_fits count 0 memory (omega arith) (first_memory_fits p.shared s.values) in
    let small : (n : ℕ) → n < count → FitsNum n = λ n h. omega (arith, few, h) in
    record {
      few_words = few;
      words = omega (arith, few);
      tallies = ((omega (arith, few, tallies_few 0 memory), all_weaker (λ (a : ℕ). a < count) FitsNum small (tallies_from 0 memory) below), tallies_ascend 0 memory);
      tallies_within = below;
      initial = ((omega (arith, few, initial_few 0 memory), all_weaker (EntryFits count) FitsInitial (λ e h. (small e.0 h.0, h.1, h.2)) (initial_from 0 memory) entries), initial_ascends 0 memory);
      initial_within = all_weaker (EntryFits count) (λ (e : ℕ × ℤ). e.0 < count) (λ e h. h.0) (initial_from 0 memory) entries;
      texts = (omega (arith, s.few_texts), texts_fit (texts_in (variant.Block p.main)) s.texts);
    }
