-- Digits and numbers.
use Rattle.std.proofs.Common.{◌≡◌, ℕ, zero, suc, ◌<◌, ◌≤◌, ◌^◌, List, [], ◌∷◌, length, Bool, true, false, None, Some, if◌then◌else◌, ◌⊎◌, inl, inr, nat_le, ◌&&◌, refl, sym, subst, arith}
use Rattle.std.proofs.lemmas.Bool.{cases_lt}
use Rattle.std.specs.List.{list_all}
use Rattle.std.specs.Char.{digit_value}
use Rattle.std.specs.Str.{IsAscii, IsUtf8}
use Rattle.std.specs.Str.Parse.{AllDigits, IsNumeral, digits_value, without_leading_plus}
use Rattle.std.proofs.lemmas.Str.{digit_value_digit, IsUtf8-from_ascii}
use Rattle.decimal_number.specs.Decimal.{is_digit, is_numeral, number_between}

-- digits are ASCII
ascii : (text : List ℕ) → list_all is_digit text ≡ true → IsAscii text
ascii [] h i = omega arith
ascii (c ∷ rest) h zero =
    let here : is_digit c ≡ true = grind (arith, h) in
    let high : c ≤ 57 = grind (arith, here) in
    omega (arith, high)
ascii (c ∷ rest) h (suc i) =
    let there : list_all is_digit rest ≡ true = grind (arith, h) in
    ascii rest there i

-- so a numeral is a text
pub numeral_is_text : (text : List ℕ) → is_numeral text ≡ true → IsUtf8 text
numeral_is_text text h =
    let digits : list_all is_digit text ≡ true = grind (arith, h) in
    IsUtf8-from_ascii text (ascii text digits)

-- a digit is below ten
digit-below : (c : ℕ) → is_digit c ≡ true → digit_value c < 10
digit-below c h =
    let low : 48 ≤ c = grind (arith, h) in
    let high : c ≤ 57 = grind (arith, h) in
    omega (arith, digit_value_digit c (low, high), high)

-- each byte of a numeral is a digit
all-digits : (text : List ℕ) → list_all is_digit text ≡ true → AllDigits 10 text
all-digits [] h = tt
all-digits (c ∷ rest) h =
    let here : is_digit c ≡ true = grind (arith, h) in
    let there : list_all is_digit rest ≡ true = grind (arith, h) in
    (digit-below c here, all-digits rest there)

-- so it begins with no plus
no-plus : (text : List ℕ) → list_all is_digit text ≡ true → without_leading_plus text ≡ text
no-plus [] h = refl
no-plus (c ∷ rest) h =
    let here : is_digit c ≡ true = grind (arith, h) in
    let low : 48 ≤ c = grind (arith, here) in
    grind (arith, low)

-- it is read as its value
pub numeral : (text : List ℕ) → is_numeral text ≡ true → (without_leading_plus text ≡ text) × IsNumeral 10 text
numeral text h =
    let some : 0 < length text = grind (arith, h) in
    let digits : list_all is_digit text ≡ true = grind (arith, h) in
    (no-plus text digits, (some, all-digits text digits))

unless_below : (n : ℕ) (a b c : Bool) → c ≡ false → None ≡ (if a && (b && c) then Some n else None)
unless_below n true true true e = absurd (cc)
unless_below n true true false e = refl
unless_below n true false c e = refl
unless_below n false b c e = refl

above : (n most : ℕ) → most < n → nat_le n most ≡ false
above n most h = grind (arith, h)

-- a numeral that is not read is too large
pub too_large : (least most : ℕ) (text : List ℕ) → most < 2 ^ 32 → is_numeral text ≡ true
    → ((IsNumeral 10 (without_leading_plus text) × (digits_value 10 (without_leading_plus text) < 2 ^ 32)) → ⊥) → None ≡ number_between least most text
too_large least most text small is unread =
    let parts = numeral text is in
    let large : 2 ^ 32 ≤ digits_value 10 text = elim (below_or (digits_value 10 text)) [
      | inl less ↦ absurd (unread (subst (IsNumeral 10) (sym parts.0) parts.1, subst (λ t. digits_value 10 t < 2 ^ 32) (sym parts.0) less))
      | inr more ↦ more
    ] in
    unless_below (digits_value 10 text) (is_numeral text) (nat_le least (digits_value 10 text)) (nat_le (digits_value 10 text) most)
    (above (digits_value 10 text) most (omega (arith, large, small))) where
      below_or : (n : ℕ) → (n < 2 ^ 32) ⊎ (2 ^ 32 ≤ n)
      below_or n = cases_lt n (2 ^ 32)
