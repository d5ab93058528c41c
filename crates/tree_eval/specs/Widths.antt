-- A width of a step's block.
use Rattle.std.specs.Prelude.{ℕ, ℤ, pos, negsuc, nat_le, if◌then◌else◌, Option, Some, None}
use Rattle.cal_base.specs.Widths.{most_routines}

-- a number from 0 to 65,536
abbrev pub small_number : ℤ → Option ℕ
small_number (pos n) = if nat_le n most_routines then Some n else None
small_number (negsuc n) = None
