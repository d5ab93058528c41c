-- Shared memory.
use Rattle.std.specs.Prelude.{ℕ, zero, suc, Bool, true, false, List, [], ◌∷◌, ℤ, pos, slice_get, map}
use Rattle.std.specs.Option.{option_map_or}
use Rattle.cal_terms.specs.declared.kinds.WordKind.{WordKind}
use Rattle.cal_terms.specs.declared.kinds.WordKind.TheVariants.{Ordinary, Tally}
pub use Rattle.cal_base.specs.declared.step.Word.{Word}

-- the words, by their addresses from 0
abbrev pub Memory : Type 0
Memory = List Word

-- may one routine alone write the word?
abbrev pub has_one_writer : WordKind → Bool
has_one_writer Ordinary = true
has_one_writer Tally = false

-- the kinds of the words
abbrev pub kinds_of : Memory → List WordKind
kinds_of memory = map (λ word. word.kind) memory

-- is this the address of an ordinary word?
abbrev pub is_ordinary : List WordKind → ℕ → Bool
is_ordinary kinds address = option_map_or has_one_writer (slice_get kinds address) false

-- the kind of a word; a word that is not there is ordinary
abbrev pub kind_at : Memory → ℕ → WordKind
kind_at memory address = option_map_or (λ word. word.kind) (slice_get memory address) Ordinary

-- the value of a word, and 0 where there is none
abbrev pub value_at : Memory → ℕ → ℤ
value_at memory address = option_map_or (λ word. word.value) (slice_get memory address) (pos 0)

-- the words of these kinds with these values; further values belong to no word
abbrev pub memory_of : List WordKind → List ℤ → Memory
memory_of [] values = []
memory_of (kind ∷ kinds) [] = []
memory_of (kind ∷ kinds) (value ∷ values) = record { kind = kind; value = value } ∷ memory_of kinds values

-- the memory with another value in one word
abbrev pub with_value : Memory → ℕ → ℤ → Memory
with_value [] address value = []
with_value (word ∷ memory) zero value = record { kind = word.kind; value = value } ∷ memory
with_value (word ∷ memory) (suc address) value = word ∷ with_value memory address value
