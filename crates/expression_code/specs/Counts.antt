-- Numbers of 32 bits, of which code is made.
use Rattle.std.specs.Prelude.{ℕ, ◌+◌, ◌<◌, ◌^◌, List, [], ◌∷◌}
use Rattle.csl_tree.specs.declared.program.Shared.{Shared}
use Rattle.csl_meaning.specs.Layout.{words_in}

-- it has 32 bits
abbrev pub IsSmall : ℕ → Type 0
IsSmall n = n < 2 ^ 32

-- how many words declarations take
abbrev pub words_in_all : List Shared → ℕ
words_in_all [] = 0
words_in_all (s ∷ rest) = words_in s + words_in_all rest
