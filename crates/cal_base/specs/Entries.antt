-- An update with at most one entry for each word of a list.
use Rattle.std.specs.Prelude.{ℕ, ◌+◌, ℤ, List, [], ◌∷◌, Option, Some, None}
use Rattle.std.specs.FinMap.{insert, empty}
use Rattle.cal_base.specs.Updates.{Written}

-- the update of these entries, the first of which is for the word at the address, the next for the word behind it
abbrev pub own_from : ℕ → List (Option ℤ) → Written
own_from a [] = empty
own_from a (None ∷ own) = own_from (a + 1) own
own_from a (Some v ∷ own) = insert (own_from (a + 1) own) a v
