-- Arithmetic on 64-bit signed numbers, and what traps.
use Rattle.std.specs.Prelude.{ℕ, ℤ, pos, negsuc, ◌+◌, ◌^◌, Bool, nat_lt, int_div, int_rem, if◌then◌else◌, Option, Some, None, Result, Ok}
use Rattle.std.specs.Prelude.{Err}
use Rattle.std.specs.Ordering.{int_eq}
use Rattle.cal_base.specs.declared.ends.Cause.{Cause}
use Rattle.cal_base.specs.declared.ends.Cause.TheVariants.{Overflow, DivisionByZero}

-- the number is one of 64 bits, signed
abbrev pub fits_word : ℤ → Bool
fits_word (pos n) = nat_lt n (2 ^ 63)
fits_word (negsuc n) = nat_lt n (2 ^ 63)

-- the number, unless it needs more than 64 bits
abbrev pub checked : ℤ → Result ℤ Cause
checked z = if fits_word z then Ok z else Err Overflow

-- a quotient, cut towards zero
abbrev pub quotient : ℤ → ℤ → Result ℤ Cause
quotient x y = if int_eq y (pos 0) then Err DivisionByZero else checked (int_div x y)

-- a remainder, with the sign of the dividend; it traps wherever the quotient does
abbrev pub remainder : ℤ → ℤ → Result ℤ Cause
remainder x y =
    if int_eq y (pos 0) then Err DivisionByZero
    else (if fits_word (int_div x y) then Ok (int_rem x y) else Err Overflow)

-- the address of an array's item, from the array's first address, the number of its items and the index: none where the index is out of range
abbrev pub item_at : (first count : ℕ) → ℤ → Option ℕ
item_at first count (pos i) = if nat_lt i count then Some (first + i) else None
item_at first count (negsuc i) = None
