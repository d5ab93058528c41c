-- The values of numbers as their digits are read.
use Rattle.std.proofs.Common.{◌≡◌, ◌≤◌, ◌<◌, ◌+◌, ◌*◌, ◌-◌, ℕ, suc, List, [], ◌∷◌, ◌++◌, length, take, drop, get_or, sym, ◌∙◌, ap, arith, take-append-drop, drop-cons}
use Rattle.std.specs.List.{fold}
use Rattle.std.proofs.lemmas.List.Sums.{fold-append}
use Rattle.csl_lexer.specs.Tokens.{value_of}

abbrev step : ℕ → ℕ → ℕ
step n b = 10 * n + (b - 48)

-- further digits make no number smaller
grows : (n : ℕ) (digits : List ℕ) → n ≤ fold step n digits
grows n [] = omega arith
grows n (d ∷ digits) = omega (arith, grows (step n d) digits)

pub value_past : (digits : List ℕ) (i : ℕ) → i < length digits → 10 * value_of (take i digits) + (get_or digits i 0 - 48) ≤ value_of digits
value_past digits i within =
    let parts : digits ≡ take i digits ++ get_or digits i 0 ∷ drop (suc i) digits = sym (take-append-drop i digits) ∙ ap (λ x. take i digits ++ x) (drop-cons digits i 0 within) in
    let whole : value_of digits ≡ fold step (step (value_of (take i digits)) (get_or digits i 0)) (drop (suc i) digits) =
    ap (λ x. value_of x) parts ∙ fold-append step 0 (take i digits) (get_or digits i 0 ∷ drop (suc i) digits) in
    omega (arith, whole, grows (step (value_of (take i digits)) (get_or digits i 0)) (drop (suc i) digits))
