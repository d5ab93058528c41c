-- The longest item at the front of some bytes, for each kind of item.
use Rattle.std.proofs.Common.{◌≡◌, ◌≢◌, ◌≤◌, ◌<◌, ◌+◌, inl, inr, ℕ, suc, List, [], ◌∷◌, ◌++◌, length, refl, ap, sym, ◌∙◌, subst, arith, append_assoc, length-append, drop, ◌⊎◌}
use Rattle.std.specs.List.{AllByRecursion}
use Rattle.csl_tree.specs.declared.token.Mark.{Mark}
use Rattle.csl_tree.specs.declared.token.Mark.TheVariants as mark
use Rattle.csl_lexer.specs.declared.scan.ByteClass.{ByteClass}
use Rattle.csl_lexer.specs.declared.scan.ByteClass.TheVariants as class
use Rattle.csl_lexer.specs.Tokens.{IsBlank, IsDigit, IsLetter, IsNameByte, IsInLine, IsInText, NeverCloses, value_of, spelled, Item, Gap, Run, Digits, Quoted, Sign, IsItem, blank, line, block, run}
use Rattle.csl_lexer.specs.Tokens.{digits, quoted, sign, OpensComment, Longest}
use Rattle.csl_lexer.specs.Steps.{IsIn, BeginsOutside, LongestMark, IsOther}

-- bytes of a class go no further than a run of them that ends
run_bound : (c : ByteClass) (xs rest ys behind : List ℕ) → AllByRecursion (IsIn c) ys → xs ++ rest ≡ ys ++ behind → BeginsOutside c rest → length ys ≤ length xs
run_bound c xs rest [] behind all e out = omega arith
run_bound c [] [] (y ∷ ys) behind all e out = absurd (cc)
run_bound c [] (r ∷ rest) (y ∷ ys) behind all e out = let same : r ≡ y = cc in absurd (out (subst (λ (b : ℕ). IsIn c b) (sym same) all.0))
run_bound c (x ∷ xs) rest (y ∷ ys) behind all e out =
    let tails : xs ++ rest ≡ ys ++ behind = cc in
    let below : length ys ≤ length xs = run_bound c xs rest ys behind all.1 tails out in
    omega arith

pub letter_low : (b : ℕ) → IsLetter b → 65 ≤ b
letter_low b (inl h) = h.0
letter_low b (inr (inl h)) = omega arith
letter_low b (inr (inr h)) = omega arith

pub blank_high : (b : ℕ) → IsBlank b → b ≤ 32
blank_high b (inl h) = omega arith
blank_high b (inr (inl h)) = omega arith
blank_high b (inr (inr (inl h))) = omega arith
blank_high b (inr (inr (inr h))) = omega arith

-- between the ranges of letters stands no letter
no_letter : (b : ℕ) → (b < 65) ⊎ ((90 < b) × (b < 95)) ⊎ (122 < b) → IsLetter b → ⊥
no_letter b (inl h) (inl l) = omega arith
no_letter b (inl h) (inr (inl l)) = omega arith
no_letter b (inl h) (inr (inr l)) = omega arith
no_letter b (inr (inl h)) (inl l) = omega arith
no_letter b (inr (inl h)) (inr (inl l)) = omega arith
no_letter b (inr (inl h)) (inr (inr l)) = omega arith
no_letter b (inr (inr h)) (inl l) = omega arith
no_letter b (inr (inr h)) (inr (inl l)) = omega arith
no_letter b (inr (inr h)) (inr (inr l)) = omega arith

-- no mark begins with a blank, a quote, a digit or a letter
pub mark_front : (m : Mark) (b : ℕ) (tail behind : List ℕ) → b ∷ tail ≡ spelled m ++ behind → (33 ≤ b) × (b ≢ 34) × (IsDigit b → ⊥) × (IsLetter b → ⊥)
mark_front mark.OpenBrace b tail behind e = let same : b ≡ 123 = cc in (omega arith, λ h. omega arith, λ h. omega arith, no_letter b (inr (inr (omega arith))))
mark_front mark.CloseBrace b tail behind e = let same : b ≡ 125 = cc in (omega arith, λ h. omega arith, λ h. omega arith, no_letter b (inr (inr (omega arith))))
mark_front mark.OpenParen b tail behind e = let same : b ≡ 40 = cc in (omega arith, λ h. omega arith, λ h. omega arith, no_letter b (inl (omega arith)))
mark_front mark.CloseParen b tail behind e = let same : b ≡ 41 = cc in (omega arith, λ h. omega arith, λ h. omega arith, no_letter b (inl (omega arith)))
mark_front mark.OpenBracket b tail behind e = let same : b ≡ 91 = cc in (omega arith, λ h. omega arith, λ h. omega arith, no_letter b (inr (inl (omega arith, omega arith))))
mark_front mark.CloseBracket b tail behind e = let same : b ≡ 93 = cc in (omega arith, λ h. omega arith, λ h. omega arith, no_letter b (inr (inl (omega arith, omega arith))))
mark_front mark.Comma b tail behind e = let same : b ≡ 44 = cc in (omega arith, λ h. omega arith, λ h. omega arith, no_letter b (inl (omega arith)))
mark_front mark.Semicolon b tail behind e = let same : b ≡ 59 = cc in (omega arith, λ h. omega arith, λ h. omega arith, no_letter b (inl (omega arith)))
mark_front mark.Assign b tail behind e = let same : b ≡ 61 = cc in (omega arith, λ h. omega arith, λ h. omega arith, no_letter b (inl (omega arith)))
mark_front mark.AddAssign b tail behind e = let same : b ≡ 43 = cc in (omega arith, λ h. omega arith, λ h. omega arith, no_letter b (inl (omega arith)))
mark_front mark.Plus b tail behind e = let same : b ≡ 43 = cc in (omega arith, λ h. omega arith, λ h. omega arith, no_letter b (inl (omega arith)))
mark_front mark.Minus b tail behind e = let same : b ≡ 45 = cc in (omega arith, λ h. omega arith, λ h. omega arith, no_letter b (inl (omega arith)))
mark_front mark.Star b tail behind e = let same : b ≡ 42 = cc in (omega arith, λ h. omega arith, λ h. omega arith, no_letter b (inl (omega arith)))
mark_front mark.Slash b tail behind e = let same : b ≡ 47 = cc in (omega arith, λ h. omega arith, λ h. omega arith, no_letter b (inl (omega arith)))
mark_front mark.Percent b tail behind e = let same : b ≡ 37 = cc in (omega arith, λ h. omega arith, λ h. omega arith, no_letter b (inl (omega arith)))
mark_front mark.Bang b tail behind e = let same : b ≡ 33 = cc in (omega arith, λ h. omega arith, λ h. omega arith, no_letter b (inl (omega arith)))
mark_front mark.Equal b tail behind e = let same : b ≡ 61 = cc in (omega arith, λ h. omega arith, λ h. omega arith, no_letter b (inl (omega arith)))
mark_front mark.NotEqual b tail behind e = let same : b ≡ 33 = cc in (omega arith, λ h. omega arith, λ h. omega arith, no_letter b (inl (omega arith)))
mark_front mark.Less b tail behind e = let same : b ≡ 60 = cc in (omega arith, λ h. omega arith, λ h. omega arith, no_letter b (inl (omega arith)))
mark_front mark.LessEqual b tail behind e = let same : b ≡ 60 = cc in (omega arith, λ h. omega arith, λ h. omega arith, no_letter b (inl (omega arith)))
mark_front mark.Greater b tail behind e = let same : b ≡ 62 = cc in (omega arith, λ h. omega arith, λ h. omega arith, no_letter b (inl (omega arith)))
mark_front mark.GreaterEqual b tail behind e = let same : b ≡ 62 = cc in (omega arith, λ h. omega arith, λ h. omega arith, no_letter b (inl (omega arith)))
mark_front mark.AndAnd b tail behind e = let same : b ≡ 38 = cc in (omega arith, λ h. omega arith, λ h. omega arith, no_letter b (inl (omega arith)))
mark_front mark.OrOr b tail behind e = let same : b ≡ 124 = cc in (omega arith, λ h. omega arith, λ h. omega arith, no_letter b (inr (inr (omega arith))))

mark_size : (m : Mark) → (0 < length (spelled m)) × (length (spelled m) ≤ 2)
mark_size mark.OpenBrace = omega arith
mark_size mark.CloseBrace = omega arith
mark_size mark.OpenParen = omega arith
mark_size mark.CloseParen = omega arith
mark_size mark.OpenBracket = omega arith
mark_size mark.CloseBracket = omega arith
mark_size mark.Comma = omega arith
mark_size mark.Semicolon = omega arith
mark_size mark.Assign = omega arith
mark_size mark.AddAssign = omega arith
mark_size mark.Plus = omega arith
mark_size mark.Minus = omega arith
mark_size mark.Star = omega arith
mark_size mark.Slash = omega arith
mark_size mark.Percent = omega arith
mark_size mark.Bang = omega arith
mark_size mark.Equal = omega arith
mark_size mark.NotEqual = omega arith
mark_size mark.Less = omega arith
mark_size mark.LessEqual = omega arith
mark_size mark.Greater = omega arith
mark_size mark.GreaterEqual = omega arith
mark_size mark.AndAnd = omega arith
mark_size mark.OrOr = omega arith

pub heads : (a b : ℕ) (xs ys : List ℕ) → a ∷ xs ≡ b ∷ ys → a ≡ b
heads a b xs ys e = cc

seconds : (c a b : ℕ) (xs ys : List ℕ) → c ∷ a ∷ xs ≡ c ∷ b ∷ ys → a ≡ b
seconds c a b xs ys e = cc

not_open : (b : ℕ) (tail : List ℕ) → b ≢ 47 → OpensComment (b ∷ tail) → ⊥
not_open b tail other o = let e : b ∷ tail ≡ 47 ∷ 42 ∷ o.body = o.split in other (cc)

-- an item takes some byte
pub item_some : {piece : List ℕ} {item : Item} → IsItem piece item → 0 < length piece
item_some (blank w) = omega arith
item_some (line w) = omega arith
item_some (block xs w) = omega arith
item_some (run l w) = omega arith
item_some (digits l w) = omega arith
item_some (quoted xs w) = omega arith
item_some (sign m) = (mark_size m).0

pub run_longest : (b : ℕ) (bytes rest : List ℕ) → IsLetter b → AllByRecursion IsNameByte bytes → BeginsOutside class.InName rest → Longest (b ∷ bytes ++ rest) (b ∷ bytes) rest (Run (b ∷ bytes))
run_longest b bytes rest letter all out = record {
  split = refl;
  is_item = run letter all;
  longest = λ other behind kind e d. at_most other kind d behind e;
  closed = not_open b _ (λ h. let low = letter_low b letter in omega (arith, low));
}
  where
    at_most : (other : List ℕ) (kind : Item) → IsItem other kind → (behind : List ℕ) → b ∷ bytes ++ rest ≡ other ++ behind → length other ≤ suc (length bytes)
    at_most _ _ (blank w) behind e = omega arith
    at_most _ _ (line w) behind e = let same : b ≡ 47 = cc in absurd (omega (arith, letter_low b letter))
    at_most _ _ (block body w) behind e = let same : b ≡ 47 = cc in absurd (omega (arith, letter_low b letter))
    at_most _ _ (run {bytes = ys} l w) behind e = let tails : bytes ++ rest ≡ ys ++ behind = cc in let below : length ys ≤ length bytes = run_bound class.InName bytes rest ys behind w tails out in
        omega arith
    at_most _ _ (digits {b = y} l w) behind e = let same : b ≡ y = cc in absurd (omega (arith, letter_low b letter))
    at_most _ _ (quoted ys w) behind e = let same : b ≡ 34 = cc in absurd (omega (arith, letter_low b letter))
    at_most _ _ (sign m) behind e = absurd ((mark_front m b (bytes ++ rest) behind e).3 letter)

pub digits_longest : (b : ℕ) (bytes rest : List ℕ) → IsDigit b → AllByRecursion IsDigit bytes → BeginsOutside class.InNumber rest
    → Longest (b ∷ bytes ++ rest) (b ∷ bytes) rest (Digits (value_of (b ∷ bytes)))
digits_longest b bytes rest digit all out = record {
  split = refl;
  is_item = digits digit all;
  longest = λ other behind kind e d. at_most other kind d behind e;
  closed = not_open b _ (λ h. omega arith);
}
  where
    at_most : (other : List ℕ) (kind : Item) → IsItem other kind → (behind : List ℕ) → b ∷ bytes ++ rest ≡ other ++ behind → length other ≤ suc (length bytes)
    at_most _ _ (blank w) behind e = omega arith
    at_most _ _ (line w) behind e = let same : b ≡ 47 = cc in absurd (omega arith)
    at_most _ _ (block body w) behind e = let same : b ≡ 47 = cc in absurd (omega arith)
    at_most _ _ (run {b = y} l w) behind e = let same : b ≡ y = cc in absurd (omega (arith, letter_low y l))
    at_most _ _ (digits {bytes = ys} l w) behind e = let tails : bytes ++ rest ≡ ys ++ behind = cc in let below : length ys ≤ length bytes = run_bound class.InNumber bytes rest ys behind w tails
        out in omega arith
    at_most _ _ (quoted ys w) behind e = let same : b ≡ 34 = cc in absurd (omega arith)
    at_most _ _ (sign m) behind e = absurd ((mark_front m b (bytes ++ rest) behind e).2 digit)

pub blank_longest : (b : ℕ) (rest : List ℕ) → IsBlank b → Longest (b ∷ rest) (b ∷ []) rest Gap
blank_longest b rest h = record {
  split = refl;
  is_item = blank h;
  longest = λ other behind kind e d. at_most other kind d behind e;
  closed = not_open b _ (λ h'. omega (arith, blank_high b h));
}
  where
    at_most : (other : List ℕ) (kind : Item) → IsItem other kind → (behind : List ℕ) → b ∷ rest ≡ other ++ behind → length other ≤ 1
    at_most _ _ (blank w) behind e = omega arith
    at_most _ _ (line w) behind e = let same : b ≡ 47 = cc in absurd (omega (arith, blank_high b h))
    at_most _ _ (block body w) behind e = let same : b ≡ 47 = cc in absurd (omega (arith, blank_high b h))
    at_most _ _ (run {b = y} l w) behind e = let same : b ≡ y = cc in absurd (omega (arith, letter_low y l, blank_high b h))
    at_most _ _ (digits {b = y} l w) behind e = let same : b ≡ y = cc in absurd (omega (arith, blank_high b h))
    at_most _ _ (quoted ys w) behind e = let same : b ≡ 34 = cc in absurd (omega (arith, blank_high b h))
    at_most _ _ (sign m) behind e = absurd (omega (arith, (mark_front m b rest behind e).0, blank_high b h))

pub quoted_longest : (inner rest : List ℕ) → AllByRecursion IsInText inner → Longest (34 ∷ inner ++ 34 ∷ rest) (34 ∷ inner ++ (34 ∷ [])) rest (Quoted inner)
quoted_longest inner rest all = record {
  split = ap (λ x. 34 ∷ x) (sym (append_assoc inner (34 ∷ []) rest));
  is_item = quoted inner all;
  longest = λ other behind kind e d. at_most other kind d behind e;
  closed = not_open 34 _ (λ h. omega arith);
}
  where
    ends_text : BeginsOutside class.InText (34 ∷ rest)
    ends_text h = h.0 refl

    size : length (34 ∷ inner ++ (34 ∷ [])) ≡ suc (suc (length inner))
    size = omega (arith, length-append inner (34 ∷ []))

    at_most : (other : List ℕ) (kind : Item) → IsItem other kind → (behind : List ℕ) → 34 ∷ inner ++ 34 ∷ rest ≡ other ++ behind → length other ≤ length (34 ∷ inner ++ (34 ∷ []))
    at_most _ _ (blank w) behind e = omega (arith, size)
    at_most _ _ (line w) behind e = absurd (omega (arith, heads 34 47 _ _ e))
    at_most _ _ (block body w) behind e = absurd (omega (arith, heads 34 47 _ _ e))
    at_most _ _ (run {b = y} l w) behind e = absurd (omega (arith, heads 34 y _ _ e, letter_low y l))
    at_most _ _ (digits {b = y} l w) behind e = absurd (omega (arith, heads 34 y _ _ e))
    at_most _ _ (quoted ys w) behind e =
        let tails : inner ++ 34 ∷ rest ≡ (ys ++ (34 ∷ [])) ++ behind = cc in
        let below : length ys ≤ length inner = run_bound class.InText inner (34 ∷ rest) ys (34 ∷ behind) w (tails ∙ append_assoc ys (34 ∷ []) behind) ends_text in
        omega (arith, size, length-append ys (34 ∷ []))
    at_most _ _ (sign m) behind e = absurd ((mark_front m 34 _ behind e).1 refl)

pub line_longest : (body rest : List ℕ) → AllByRecursion IsInLine body → BeginsOutside class.InLine rest → Longest (47 ∷ 47 ∷ body ++ rest) (47 ∷ 47 ∷ body) rest Gap
line_longest body rest all out = record {
  split = refl;
  is_item = line all;
  longest = λ other behind kind e d. at_most other kind d behind e;
  closed = λ o. let e : 47 ∷ 47 ∷ body ++ rest ≡ 47 ∷ 42 ∷ o.body = o.split in omega (arith, seconds 47 47 42 _ _ e);
}
  where
    at_most : (other : List ℕ) (kind : Item) → IsItem other kind → (behind : List ℕ) → 47 ∷ 47 ∷ body ++ rest ≡ other ++ behind → length other ≤ suc (suc (length body))
    at_most _ _ (blank w) behind e = omega arith
    at_most _ _ (line {bytes = ys} w) behind e = let tails : body ++ rest ≡ ys ++ behind = cc in let below : length ys ≤ length body = run_bound class.InLine body rest ys behind w tails out in omega
        arith
    at_most _ _ (block ys w) behind e = absurd (omega (arith, seconds 47 47 42 _ _ e))
    at_most _ _ (run {b = y} l w) behind e = absurd (omega (arith, heads 47 y _ _ e, letter_low y l))
    at_most _ _ (digits {b = y} l w) behind e = absurd (omega (arith, heads 47 y _ _ e))
    at_most _ _ (quoted ys w) behind e = absurd (omega (arith, heads 47 34 _ _ e))
    at_most _ _ (sign m) behind e = omega (arith, (mark_size m).1)

-- a block comment goes no further than the first `*/`
close_bound : (body ys rest behind : List ℕ) → NeverCloses (ys ++ 42 ∷ []) → body ++ 42 ∷ 47 ∷ rest ≡ ys ++ 42 ∷ 47 ∷ behind → length ys ≤ length body
close_bound body [] rest behind never e = omega arith
close_bound [] (y ∷ []) rest behind never e = let tails : 47 ∷ rest ≡ 42 ∷ 47 ∷ behind = cc in absurd (omega (arith, heads 47 42 _ _ tails))
close_bound [] (y ∷ z ∷ ys) rest behind never e =
    let first : 42 ≡ y = heads 42 y _ _ e in
    let tails : 47 ∷ rest ≡ z ∷ (ys ++ 42 ∷ 47 ∷ behind) = cc in
    let second : 47 ≡ z = heads 47 z _ _ tails in
    absurd (never [] (ys ++ 42 ∷ []) (ap (λ x. x ∷ z ∷ (ys ++ 42 ∷ [])) (sym first) ∙ ap (λ x. 42 ∷ x ∷ (ys ++ 42 ∷ [])) (sym second)))
close_bound (b ∷ body) (y ∷ ys) rest behind never e =
    let tails : body ++ 42 ∷ 47 ∷ rest ≡ ys ++ 42 ∷ 47 ∷ behind = cc in
    let below : length ys ≤ length body = close_bound body ys rest behind (λ before after split. never (y ∷ before) after (ap (λ x. y ∷ x) split)) tails in
    omega arith

pub block_longest : (body rest : List ℕ) → NeverCloses (body ++ 42 ∷ []) → Longest (47 ∷ 42 ∷ body ++ 42 ∷ 47 ∷ rest) (47 ∷ 42 ∷ body ++ (42 ∷ 47 ∷ [])) rest Gap
block_longest body rest never = record {
  split = ap (λ x. 47 ∷ 42 ∷ x) (sym (append_assoc body (42 ∷ 47 ∷ []) rest));
  is_item = block body never;
  longest = λ other behind kind e d. at_most other kind d behind e;
  closed = λ o. let e : 47 ∷ 42 ∷ body ++ 42 ∷ 47 ∷ rest ≡ 47 ∷ 42 ∷ o.body = o.split in let tails : body ++ 42 ∷ 47 ∷ rest ≡ o.body = cc in o.never body rest (sym tails);
}
  where
    size : length (47 ∷ 42 ∷ body ++ (42 ∷ 47 ∷ [])) ≡ length body + 4
    size = omega (arith, length-append body (42 ∷ 47 ∷ []))

    at_most : (other : List ℕ) (kind : Item) → IsItem other kind → (behind : List ℕ) → 47 ∷ 42 ∷ body ++ 42 ∷ 47 ∷ rest ≡ other ++ behind → length other ≤ length (47 ∷ 42 ∷ body ++ (42 ∷ 47 ∷ []))
    at_most _ _ (blank w) behind e = omega (arith, size)
    at_most _ _ (line w) behind e = absurd (omega (arith, seconds 47 42 47 _ _ e))
    at_most _ _ (block ys w) behind e =
        let tails : body ++ 42 ∷ 47 ∷ rest ≡ (ys ++ (42 ∷ 47 ∷ [])) ++ behind = cc in
        let below : length ys ≤ length body = close_bound body ys rest behind w (tails ∙ append_assoc ys (42 ∷ 47 ∷ []) behind) in
        omega (arith, size, length-append ys (42 ∷ 47 ∷ []))
    at_most _ _ (run {b = y} l w) behind e = absurd (omega (arith, heads 47 y _ _ e, letter_low y l))
    at_most _ _ (digits {b = y} l w) behind e = absurd (omega (arith, heads 47 y _ _ e))
    at_most _ _ (quoted ys w) behind e = absurd (omega (arith, heads 47 34 _ _ e))
    at_most _ _ (sign m) behind e = omega (arith, size, (mark_size m).1)

pub sign_longest : (bytes : List ℕ) (m : Mark) (n : ℕ) → LongestMark bytes m n → IsOther bytes → Longest bytes (spelled m) (drop n bytes) (Sign m)
sign_longest bytes m n longest other = record {
  split = longest.split;
  is_item = sign m;
  longest = λ piece behind kind e d.
      let as_mark : (m' : Mark) × (kind ≡ Sign m') × (piece ≡ spelled m') = other.sign_only piece behind kind e d in
      let below : length (spelled as_mark.0) ≤ n = longest.longest as_mark.0 behind (e ∙ ap (λ x. x ++ behind) as_mark.2) in
      omega (arith, below, longest.size, ap (λ (x : List ℕ). length x) as_mark.2);
  closed = other.closed;
}
