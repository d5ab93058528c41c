-- A value as a word.
use Rattle.std.specs.Prelude.{true, false, ℤ, pos}
use Rattle.cal_base.specs.declared.value.Val.{Val}
use Rattle.cal_base.specs.declared.value.Val.TheVariants.{Int, Truth}

-- the word of a value: a number itself, a truth as 1 or 0
abbrev pub word_of : Val → ℤ
word_of (Int z) = z
word_of (Truth true) = pos 1
word_of (Truth false) = pos 0
