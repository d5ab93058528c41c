-- The widths of a step's blocks.
use Rattle.std.specs.Prelude.{ℕ, ℤ, pos, negsuc, nat_le, if◌then◌else◌, List, [], ◌∷◌, sum, Option, Some, None}
use Rattle.cal_terms.specs.declared.limits.TheConstants.{MOST_ROUTINES}

-- how many routines a step has at most
abbrev pub most_routines : ℕ
most_routines = MOST_ROUTINES

-- one more width in front, unless it or another one is negative
abbrev pub and_natural : ℤ → Option (List ℕ) → Option (List ℕ)
and_natural (pos n) (Some ns) = Some (n ∷ ns)
and_natural (pos n) None = None
and_natural (negsuc n) ns = None

-- the widths, unless one is negative
abbrev pub naturals : List ℤ → Option (List ℕ)
naturals [] = Some []
naturals (z ∷ zs) = and_natural z (naturals zs)

-- the widths, unless they are too many routines together
abbrev pub unless_too_many : Option (List ℕ) → Option (List ℕ)
unless_too_many None = None
unless_too_many (Some ns) = if nat_le (sum ns) most_routines then Some ns else None

-- the widths of a step: none where one is negative or the sum is above 65,536
abbrev pub step_widths : List ℤ → Option (List ℕ)
step_widths zs = unless_too_many (naturals zs)
