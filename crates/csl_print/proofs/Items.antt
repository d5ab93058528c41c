-- Tokens with a blank behind them are the longest items at the front.
use Rattle.std.proofs.Common.{◌≡◌, ◌≢◌, ◌≤◌, ◌⊎◌, inl, inr, ℕ, suc, List, [], ◌∷◌, ◌++◌, length, refl, sym, ap, ◌∙◌, arith}
use Rattle.csl_tree.specs.declared.token.Mark.{Mark}
use Rattle.csl_tree.specs.declared.token.Mark.TheVariants as mark
use Rattle.csl_lexer.specs.declared.scan.ByteClass.TheVariants as class
use Rattle.csl_lexer.specs.Tokens.{IsBlank, IsDigit, IsLetter, spelled, Item, Sign, IsItem, blank, line, block, run, digits, quoted, sign, Longest}
use Rattle.csl_lexer.specs.Steps.{BeginsOutside}
use Rattle.csl_lexer.proofs.Items.{letter_low, blank_high, mark_front, heads}

-- ---- blanks

pub blank_outside_names : (b : ℕ) (rest : List ℕ) → IsBlank b → BeginsOutside class.InName (b ∷ rest)
blank_outside_names b rest h (inl l) = omega (arith, blank_high b h, letter_low b l)
blank_outside_names b rest h (inr d) = omega (arith, blank_high b h)

pub blank_outside_numbers : (b : ℕ) (rest : List ℕ) → IsBlank b → BeginsOutside class.InNumber (b ∷ rest)
blank_outside_numbers b rest h d = omega (arith, blank_high b h)

-- ---- marks

-- one byte, or two, of which the second is no blank
mark_second : (m : Mark) → (x : ℕ) × (tail : List ℕ) × (spelled m ≡ x ∷ tail) × ((tail ≡ []) ⊎ ((y : ℕ) × (tail ≡ y ∷ []) × (33 ≤ y) × (x ≢ 47)))
mark_second mark.OpenBrace = (123, [], refl, inl refl)
mark_second mark.CloseBrace = (125, [], refl, inl refl)
mark_second mark.OpenParen = (40, [], refl, inl refl)
mark_second mark.CloseParen = (41, [], refl, inl refl)
mark_second mark.OpenBracket = (91, [], refl, inl refl)
mark_second mark.CloseBracket = (93, [], refl, inl refl)
mark_second mark.Comma = (44, [], refl, inl refl)
mark_second mark.Semicolon = (59, [], refl, inl refl)
mark_second mark.Assign = (61, [], refl, inl refl)
mark_second mark.AddAssign = (43, 61 ∷ [], refl, inr (61, refl, omega arith, λ e. omega arith))
mark_second mark.Plus = (43, [], refl, inl refl)
mark_second mark.Minus = (45, [], refl, inl refl)
mark_second mark.Star = (42, [], refl, inl refl)
mark_second mark.Slash = (47, [], refl, inl refl)
mark_second mark.Percent = (37, [], refl, inl refl)
mark_second mark.Bang = (33, [], refl, inl refl)
mark_second mark.Equal = (61, 61 ∷ [], refl, inr (61, refl, omega arith, λ e. omega arith))
mark_second mark.NotEqual = (33, 61 ∷ [], refl, inr (61, refl, omega arith, λ e. omega arith))
mark_second mark.Less = (60, [], refl, inl refl)
mark_second mark.LessEqual = (60, 61 ∷ [], refl, inr (61, refl, omega arith, λ e. omega arith))
mark_second mark.Greater = (62, [], refl, inl refl)
mark_second mark.GreaterEqual = (62, 61 ∷ [], refl, inr (61, refl, omega arith, λ e. omega arith))
mark_second mark.AndAnd = (38, 38 ∷ [], refl, inr (38, refl, omega arith, λ e. omega arith))
mark_second mark.OrOr = (124, 124 ∷ [], refl, inr (124, refl, omega arith, λ e. omega arith))

-- behind a mark of one byte stands a blank; behind one of two, nothing more of an item
module _ (x : ℕ) (tail : List ℕ) (b : ℕ) (rest : List ℕ) (h : IsBlank b) where
  -- another mark at the front is no longer
  mark_bound : (tail ≡ []) ⊎ ((y : ℕ) × (tail ≡ y ∷ []) × (33 ≤ y) × (x ≢ 47)) → (m' : Mark) (behind : List ℕ) → x ∷ (tail ++ b ∷ rest) ≡ spelled m' ++ behind → length (spelled m') ≤ suc (length tail)
  mark_bound shape m' behind e = by shape (mark_second m')
    where
      by : (tail ≡ []) ⊎ ((y : ℕ) × (tail ≡ y ∷ []) × (33 ≤ y) × (x ≢ 47)) → (x' : ℕ) × (tail' : List ℕ) × (spelled m' ≡ x' ∷ tail')
          × ((tail' ≡ []) ⊎ ((y : ℕ) × (tail' ≡ y ∷ []) × (33 ≤ y) × (x' ≢ 47))) → length (spelled m') ≤ suc (length tail)
      by s (x', tail', is, inl none) = omega (arith, ap (λ (z : List ℕ). length z) is, ap (λ (z : List ℕ). length z) none)
      by (inr (y, two, high, low)) (x', tail', is, inr (y', two', high', low')) = omega (arith, ap (λ (z : List ℕ). length z) is, ap (λ (z : List ℕ). length z) two', ap (λ (z : List ℕ). length z) two)
      by (inl none) (x', tail', is, inr (y', two', high', low')) =
          let front : x ∷ b ∷ rest ≡ x' ∷ y' ∷ behind = ap (λ z. x ∷ (z ++ b ∷ rest)) (sym none) ∙ e ∙ ap (λ z. z ++ behind) (is ∙ ap (λ z. x' ∷ z) two') in
          let same : b ≡ y' = cc in
          absurd (omega (arith, blank_high b h, high', same))

pub mark_longest : (m : Mark) (b : ℕ) (rest : List ℕ) → IsBlank b → Longest (spelled m ++ b ∷ rest) (spelled m) (b ∷ rest) (Sign m)
mark_longest m b rest h = from (mark_second m)
  where
    from : (x : ℕ) × (tail : List ℕ) × (spelled m ≡ x ∷ tail) × ((tail ≡ []) ⊎ ((y : ℕ) × (tail ≡ y ∷ []) × (33 ≤ y) × (x ≢ 47))) → Longest (spelled m ++ b ∷ rest) (spelled m) (b ∷ rest) (Sign m)
    from (x, tail, is, shape) = record {
      split = refl;
      is_item = sign m;
      longest = λ other behind kind e d. at_most other kind d behind e;
      closed = λ o. comment shape 42 o.body (omega arith) o.split;
    }
      where
        size : length (spelled m) ≡ suc (length tail)
        size = ap (λ (z : List ℕ). length z) is

        front : spelled m ++ b ∷ rest ≡ x ∷ (tail ++ b ∷ rest)
        front = ap (λ z. z ++ b ∷ rest) is

        first : (y : ℕ) (ys behind : List ℕ) → spelled m ++ b ∷ rest ≡ y ∷ ys → (33 ≤ y) × (y ≢ 34) × (IsDigit y → ⊥) × (IsLetter y → ⊥)
        first y ys behind e = mark_front m y ys (b ∷ rest) (sym e)

        -- no comment begins with a mark and a blank
        comment : (tail ≡ []) ⊎ ((y : ℕ) × (tail ≡ y ∷ []) × (33 ≤ y) × (x ≢ 47)) → (second : ℕ) (ys : List ℕ) → 33 ≤ second → spelled m ++ b ∷ rest ≡ 47 ∷ second ∷ ys → ⊥
        comment (inl none) second ys high e =
            let whole : x ∷ b ∷ rest ≡ 47 ∷ second ∷ ys = ap (λ z. x ∷ (z ++ b ∷ rest)) (sym none) ∙ sym front ∙ e in
            let same : b ≡ second = cc in
            omega (arith, blank_high b h, same, high)
        comment (inr (y, two, more, low)) second ys high e = low (heads x 47 _ _ (sym front ∙ e))

        at_most : (other : List ℕ) (kind : Item) → IsItem other kind → (behind : List ℕ) → spelled m ++ b ∷ rest ≡ other ++ behind → length other ≤ length (spelled m)
        at_most _ _ (blank {b = y} w) behind e = absurd (omega (arith, (first y behind behind e).0, blank_high y w))
        at_most _ _ (line {bytes = ys} w) behind e = absurd (comment shape 47 (ys ++ behind) (omega arith) e)
        at_most _ _ (block body w) behind e = absurd (comment shape 42 _ (omega arith) e)
        at_most _ _ (run {b = y} {bytes = ys} l w) behind e = absurd ((first y (ys ++ behind) behind e).3 l)
        at_most _ _ (digits {b = y} {bytes = ys} l w) behind e = absurd ((first y (ys ++ behind) behind e).2 l)
        at_most _ _ (quoted ys w) behind e = absurd ((first 34 _ behind e).1 refl)
        at_most _ _ (sign m') behind e = omega (arith, size, mark_bound x tail b rest h shape m' behind (sym front ∙ e))
