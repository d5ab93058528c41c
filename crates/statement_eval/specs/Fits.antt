-- How many words a program may have.
use Rattle.std.specs.Prelude.{ℕ, ◌≤◌, List, map, sum}
use Rattle.csl_tree.specs.declared.program.Shared.{Shared}
use Rattle.csl_meaning.specs.Layout.{words_in}
use Rattle.cal_terms.specs.declared.limits.TheConstants.{MOST_WORDS}

-- how many words these declarations take
abbrev pub words_of : List Shared → ℕ
words_of shared = sum (map words_in shared)

-- the words of all declarations are at most 262,144
abbrev pub FitsMemory : List Shared → Type 0
FitsMemory shared = words_of shared ≤ MOST_WORDS
