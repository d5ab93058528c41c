-- What a print shows.
use Rattle.std.specs.Prelude.{ℕ, true, false, List, [], ◌∷◌, ◌++◌, codes}
use Rattle.std.specs.Fmt.{signed_decimal}
use Rattle.cal_base.specs.declared.value.Val.{Val}
use Rattle.cal_base.specs.declared.value.Val.TheVariants.{Int, Truth}

-- a value as it is printed: a number in decimal, or `true` or `false`
abbrev pub shown : Val → List ℕ
shown (Int z) = signed_decimal z
shown (Truth true) = codes "true"
shown (Truth false) = codes "false"

-- the printed line of these pieces: one blank between two, and a line feed at the end
abbrev pub line_of : List (List ℕ) → List ℕ
line_of [] = 10 ∷ []
line_of (piece ∷ []) = piece ++ 10 ∷ []
line_of (piece ∷ next ∷ rest) = piece ++ 32 ∷ line_of (next ∷ rest)
