-- Where the shared words lie, and what they hold at first.
use Rattle.std.specs.Prelude.{ℕ, ℤ, pos, negsuc, ◌+◌, if◌then◌else◌, List, [], ◌∷◌, ◌++◌, map, replicate, Option, Some, None}
use Rattle.std.specs.Str.{bytes_eq}
use Rattle.cal_base.specs.Memory.{Memory, memory_of}
use Rattle.csl_tree.specs.declared.program.ArraySize.{ArraySize}
use Rattle.csl_tree.specs.declared.program.Shared.{Shared}
use Rattle.csl_meaning.specs.declared.state.Area.{Area}

-- a name, as its bytes
abbrev pub Text : Type 0
Text = List ℕ

-- a number that is not negative, and else 0
abbrev pub natural : ℤ → ℕ
natural (pos n) = n
natural (negsuc n) = 0

-- how many words an array has; a scalar is no array
abbrev pub items_in : Option ArraySize → Option ℕ
items_in None = None
items_in (Some size) = Some (natural size.number)

-- an array takes a word for each of its items, and a scalar takes one
abbrev pub word_count : Option ℕ → ℕ
word_count None = 1
word_count (Some n) = n

-- how many words a declaration takes
abbrev pub words_in : Shared → ℕ
words_in s = word_count (items_in s.size)

-- the words of the declaration with this name, where the declarations lie one after the other from this address on
abbrev pub area_from : ℕ → List Shared → Text → Option Area
area_from at [] name = None
area_from at (s ∷ rest) name =
    if bytes_eq s.name.text name
    then Some (record { first = at; items = items_in s.size })
    else area_from (at + words_in s) rest name

-- the words of the declaration with this name: the declarations lie in their order from address 0 on
abbrev pub area_of : List Shared → Text → Option Area
area_of shared name = area_from 0 shared name

-- the first words of one declaration, all of its kind: they hold the stated values, and else 0
abbrev pub first_words : Shared → Memory
first_words s = memory_of (replicate (words_in s) s.kind) (map (λ v. v.number) s.values ++ replicate (words_in s) (pos 0))

-- the first memory: the words of all declarations in their order
abbrev pub first_memory : List Shared → Memory
first_memory [] = []
first_memory (s ∷ rest) = first_words s ++ first_memory rest
