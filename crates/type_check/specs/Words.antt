-- How many words the shared declarations take, and what an accepted program keeps of the limits.
use Rattle.std.specs.Prelude.{ℕ, ℤ, pos, negsuc, ◌+◌, ◌≤◌, List, [], ◌∷◌, Option, Some, None}
use Rattle.csl_tree.specs.declared.program.ArraySize.{ArraySize}
use Rattle.csl_tree.specs.declared.program.Shared.{Shared}
use Rattle.type_check.specs.Faults.{most_words, natural}

-- an array's size is from 1 to 262,144
abbrev pub IsGoodSize : ℤ → Type 0
IsGoodSize (pos n) = (1 ≤ n) × (n ≤ most_words)
IsGoodSize (negsuc n) = ⊥

-- an array has a good size
abbrev pub IsSized : Option ArraySize → Type 0
IsSized None = Unit {0}
IsSized (Some size) = IsGoodSize size.number

-- each array has a good size
abbrev pub AreSized : List Shared → Type 0
AreSized [] = Unit {0}
AreSized (s ∷ rest) = IsSized s.size × AreSized rest

-- a scalar takes one word, and an array one for each item
abbrev pub words_taken : Option ArraySize → ℕ
words_taken None = 1
words_taken (Some size) = natural size.number

-- how many words the shared declarations take in all
abbrev pub total_words : List Shared → ℕ
total_words [] = 0
total_words (s ∷ rest) = words_taken s.size + total_words rest
