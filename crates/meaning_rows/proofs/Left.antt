-- What a step leaves.
use Rattle.std.proofs.Common.{◌≡◌, ℕ, ℤ, cond, Some, None, List, [], ◌∷◌}
use Rattle.std.specs.FinMap.{FinMap, empty, insert, get, get-insert, get-empty}
use Rattle.std.specs.Cmp.{nat_cmp_total}
use Rattle.std.specs.Ordering.{nat_cmp, eq_by_cmp}
use Rattle.cal_terms.specs.declared.kinds.WordKind.TheVariants.{Ordinary, Tally}
use Rattle.cal_base.specs.Memory.{Memory}

-- what a map holds after one more entry
pub get_insert : (m : FinMap nat_cmp ℤ) (address at : ℕ) (value : ℤ) → get (insert m address value) at ≡ cond (eq_by_cmp nat_cmp at address) (Some value) (get m at)
get_insert m address at value = get-insert nat_cmp_total m address value at

-- nothing written
abbrev nothing : FinMap nat_cmp ℤ
nothing = empty

-- it holds nothing
pub get_none : (at : ℕ) → get nothing at ≡ None
get_none at = get-empty nat_cmp at

-- a memory of ordinary words
abbrev pub ordinary : List ℤ → Memory
ordinary [] = []
ordinary (z ∷ zs) = record { kind = Ordinary; value = z } ∷ ordinary zs

-- a memory of one tally word
abbrev pub one_tally : ℤ → Memory
one_tally z = record { kind = Tally; value = z } ∷ []
