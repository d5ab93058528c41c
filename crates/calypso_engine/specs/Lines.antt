-- The pieces of a line.
use Rattle.std.specs.Prelude.{ℕ, Bool, true, false, List, [], ◌∷◌, ◌++◌}

-- a piece of a line, with a blank behind it unless it is the last one
abbrev pub spaced : Bool → List ℕ → List ℕ
spaced true text = text
spaced false text = text ++ 32 ∷ []
