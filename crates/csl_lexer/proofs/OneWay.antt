-- A text is read in one way: one token list, or one first fault.
use Rattle.std.proofs.Common.{◌≡◌, ◌≤◌, ◌<◌, ◌+◌, ◌⊎◌, inl, inr, ℕ, Bool, true, false, cond, List, [], ◌∷◌, ◌++◌, Option, Some, Result, Err, length, refl, ap, sym, ◌∙◌, subst, arith, append_assoc}
use Rattle.std.proofs.Common.{append-nil, nat_eq, find, ◌^◌, length-append}
use Rattle.std.specs.List.{AllByRecursion}
use Rattle.csl_tree.specs.declared.token.Token.{Token}
use Rattle.csl_tree.specs.declared.token.TokenKind.{TokenKind}
use Rattle.csl_tree.specs.declared.token.TokenKind.TheVariants as kind
use Rattle.csl_tree.specs.declared.token.Keyword.{Keyword}
use Rattle.csl_tree.specs.declared.token.Keyword.TheVariants as word
use Rattle.csl_tree.specs.declared.token.Mark.{Mark}
use Rattle.csl_tree.specs.declared.token.Mark.TheVariants as mark
use Rattle.csl_lexer.specs.declared.LexError.{LexError}
use Rattle.csl_lexer.specs.Tokens.{IsInText, spelled, written, value_of, Item, Gap, Run, Digits, Quoted, Sign, IsItem, blank, line, block, run, digits, quoted, sign, OpensComment, OpensText, Longest}
use Rattle.csl_lexer.specs.Tokens.{IsWord, keyword, name, IsToken, run_token, number_token, text_token, mark_token, IsFault, bad_byte, long_name, long_number, open_comment, open_text, Reads, at_end}
use Rattle.csl_lexer.specs.Tokens.{gap, token, fault_here}
use Rattle.csl_lexer.specs.Laws.{ReadsOneWay}
use Rattle.csl_lexer.proofs.Items.{letter_low, blank_high, mark_front, heads, item_some}

-- whether two lists of bytes are equal
abbrev same_bytes : List ℕ → List ℕ → Bool
same_bytes [] [] = true
same_bytes [] (y ∷ ys) = false
same_bytes (x ∷ xs) [] = false
same_bytes (x ∷ xs) (y ∷ ys) = cond (nat_eq x y) (same_bytes xs ys) false

abbrev mark_of : List ℕ → Option Mark
mark_of bytes = find (λ m. same_bytes (spelled m) bytes) (mark.OpenBrace ∷ mark.CloseBrace ∷ mark.OpenParen ∷ mark.CloseParen ∷ mark.OpenBracket ∷ mark.CloseBracket ∷ mark.Comma ∷ mark.Semicolon ∷
    mark.Assign ∷ mark.AddAssign ∷ mark.Plus ∷ mark.Minus ∷ mark.Star ∷ mark.Slash ∷ mark.Percent ∷ mark.Bang ∷ mark.Equal ∷ mark.NotEqual ∷ mark.Less ∷ mark.LessEqual ∷ mark.Greater ∷
    mark.GreaterEqual ∷ mark.AndAnd ∷ mark.OrOr ∷ [])

mark_of-spelled : (m : Mark) → mark_of (spelled m) ≡ Some m
mark_of-spelled mark.OpenBrace = refl
mark_of-spelled mark.CloseBrace = refl
mark_of-spelled mark.OpenParen = refl
mark_of-spelled mark.CloseParen = refl
mark_of-spelled mark.OpenBracket = refl
mark_of-spelled mark.CloseBracket = refl
mark_of-spelled mark.Comma = refl
mark_of-spelled mark.Semicolon = refl
mark_of-spelled mark.Assign = refl
mark_of-spelled mark.AddAssign = refl
mark_of-spelled mark.Plus = refl
mark_of-spelled mark.Minus = refl
mark_of-spelled mark.Star = refl
mark_of-spelled mark.Slash = refl
mark_of-spelled mark.Percent = refl
mark_of-spelled mark.Bang = refl
mark_of-spelled mark.Equal = refl
mark_of-spelled mark.NotEqual = refl
mark_of-spelled mark.Less = refl
mark_of-spelled mark.LessEqual = refl
mark_of-spelled mark.Greater = refl
mark_of-spelled mark.GreaterEqual = refl
mark_of-spelled mark.AndAnd = refl
mark_of-spelled mark.OrOr = refl

abbrev word_of : List ℕ → Option Keyword
word_of bytes = find (λ w. same_bytes (written w) bytes) (word.Shared ∷ word.Int ∷ word.Bool ∷ word.Void ∷ word.Tally ∷ word.Main ∷ word.Routine ∷ word.Parbegin ∷ word.Parend ∷ word.If ∷ word.Else ∷
    word.While ∷ word.For ∷ word.Break ∷ word.Continue ∷ word.Return ∷ word.Assert ∷ word.Print ∷ word.True ∷ word.False ∷ word.Least ∷ word.Greatest ∷ [])

word_of-written : (w : Keyword) → word_of (written w) ≡ Some w
word_of-written word.Shared = refl
word_of-written word.Int = refl
word_of-written word.Bool = refl
word_of-written word.Void = refl
word_of-written word.Tally = refl
word_of-written word.Main = refl
word_of-written word.Routine = refl
word_of-written word.Parbegin = refl
word_of-written word.Parend = refl
word_of-written word.If = refl
word_of-written word.Else = refl
word_of-written word.While = refl
word_of-written word.For = refl
word_of-written word.Break = refl
word_of-written word.Continue = refl
word_of-written word.Return = refl
word_of-written word.Assert = refl
word_of-written word.Print = refl
word_of-written word.True = refl
word_of-written word.False = refl
word_of-written word.Least = refl
word_of-written word.Greatest = refl

spelled_same : (a b : Mark) → spelled a ≡ spelled b → a ≡ b
spelled_same a b e = let both : Some a ≡ Some b = sym (mark_of-spelled a) ∙ ap mark_of e ∙ mark_of-spelled b in cc

written_same : (a b : Keyword) → written a ≡ written b → a ≡ b
written_same a b e = let both : Some a ≡ Some b = sym (word_of-written a) ∙ ap word_of e ∙ word_of-written b in cc

drop_last : (xs ys : List ℕ) (z : ℕ) → xs ++ z ∷ [] ≡ ys ++ z ∷ [] → xs ≡ ys
drop_last [] [] z e = refl
drop_last [] (y ∷ []) z e = absurd (cc)
drop_last [] (y ∷ y' ∷ ys) z e = absurd (cc)
drop_last (x ∷ []) [] z e = absurd (cc)
drop_last (x ∷ x' ∷ xs) [] z e = absurd (cc)
drop_last (x ∷ xs) (y ∷ ys) z e = let tails : xs ++ z ∷ [] ≡ ys ++ z ∷ [] = cc in let same : xs ≡ ys = drop_last xs ys z tails in cc

comment_no_mark : (m : Mark) (b : ℕ) (xs : List ℕ) → spelled m ≡ 47 ∷ b ∷ xs → ⊥
comment_no_mark mark.OpenBrace b xs e = cc
comment_no_mark mark.CloseBrace b xs e = cc
comment_no_mark mark.OpenParen b xs e = cc
comment_no_mark mark.CloseParen b xs e = cc
comment_no_mark mark.OpenBracket b xs e = cc
comment_no_mark mark.CloseBracket b xs e = cc
comment_no_mark mark.Comma b xs e = cc
comment_no_mark mark.Semicolon b xs e = cc
comment_no_mark mark.Assign b xs e = cc
comment_no_mark mark.AddAssign b xs e = omega (arith, heads 43 47 _ _ e)
comment_no_mark mark.Plus b xs e = cc
comment_no_mark mark.Minus b xs e = cc
comment_no_mark mark.Star b xs e = cc
comment_no_mark mark.Slash b xs e = cc
comment_no_mark mark.Percent b xs e = cc
comment_no_mark mark.Bang b xs e = cc
comment_no_mark mark.Equal b xs e = omega (arith, heads 61 47 _ _ e)
comment_no_mark mark.NotEqual b xs e = omega (arith, heads 33 47 _ _ e)
comment_no_mark mark.Less b xs e = cc
comment_no_mark mark.LessEqual b xs e = omega (arith, heads 60 47 _ _ e)
comment_no_mark mark.Greater b xs e = cc
comment_no_mark mark.GreaterEqual b xs e = omega (arith, heads 62 47 _ _ e)
comment_no_mark mark.AndAnd b xs e = omega (arith, heads 38 47 _ _ e)
comment_no_mark mark.OrOr b xs e = omega (arith, heads 124 47 _ _ e)

one_item : {p p' : List ℕ} {i i' : Item} → IsItem p i → IsItem p' i' → p ≡ p' → i ≡ i'
one_item (blank {b = b} w) (blank {b = b'} w') e = refl
one_item (blank {b = b} w) (line {bytes = xs'} w') e = refl
one_item (blank {b = b} w) (block xs' w') e = refl
one_item (blank {b = b} w) (run {b = b'} {bytes = xs'} l' w') e = absurd (omega (arith, heads b b' _ _ e, blank_high b w, letter_low b' l'))
one_item (blank {b = b} w) (digits {b = b'} {bytes = xs'} l' w') e = absurd (omega (arith, heads b b' _ _ e, blank_high b w, l'))
one_item (blank {b = b} w) (quoted xs' w') e = absurd (omega (arith, heads b 34 _ _ e, blank_high b w))
one_item (blank {b = b} w) (sign m') e = absurd (omega (arith, (mark_front m' b [] [] ((e) ∙ sym (append-nil (spelled m')))).0, blank_high b w))
one_item (line {bytes = xs} w) (blank {b = b'} w') e = refl
one_item (line {bytes = xs} w) (line {bytes = xs'} w') e = refl
one_item (line {bytes = xs} w) (block xs' w') e = refl
one_item (line {bytes = xs} w) (run {b = b'} {bytes = xs'} l' w') e = absurd (omega (arith, heads 47 b' _ _ e, letter_low b' l'))
one_item (line {bytes = xs} w) (digits {b = b'} {bytes = xs'} l' w') e = absurd (omega (arith, heads 47 b' _ _ e, l'))
one_item (line {bytes = xs} w) (quoted xs' w') e = absurd (omega (arith, heads 47 34 _ _ e))
one_item (line {bytes = xs} w) (sign m') e = absurd (comment_no_mark m' _ _ (sym (e)))
one_item (block xs w) (blank {b = b'} w') e = refl
one_item (block xs w) (line {bytes = xs'} w') e = refl
one_item (block xs w) (block xs' w') e = refl
one_item (block xs w) (run {b = b'} {bytes = xs'} l' w') e = absurd (omega (arith, heads 47 b' _ _ e, letter_low b' l'))
one_item (block xs w) (digits {b = b'} {bytes = xs'} l' w') e = absurd (omega (arith, heads 47 b' _ _ e, l'))
one_item (block xs w) (quoted xs' w') e = absurd (omega (arith, heads 47 34 _ _ e))
one_item (block xs w) (sign m') e = absurd (comment_no_mark m' _ _ (sym (e)))
one_item (run {b = b} {bytes = xs} l w) (blank {b = b'} w') e = absurd (omega (arith, heads b b' _ _ e, letter_low b l, blank_high b' w'))
one_item (run {b = b} {bytes = xs} l w) (line {bytes = xs'} w') e = absurd (omega (arith, heads b 47 _ _ e, letter_low b l))
one_item (run {b = b} {bytes = xs} l w) (block xs' w') e = absurd (omega (arith, heads b 47 _ _ e, letter_low b l))
one_item (run {b = b} {bytes = xs} l w) (run {b = b'} {bytes = xs'} l' w') e = ap (λ x. Run x) e
one_item (run {b = b} {bytes = xs} l w) (digits {b = b'} {bytes = xs'} l' w') e = absurd (omega (arith, heads b b' _ _ e, letter_low b l, l'))
one_item (run {b = b} {bytes = xs} l w) (quoted xs' w') e = absurd (omega (arith, heads b 34 _ _ e, letter_low b l))
one_item (run {b = b} {bytes = xs} l w) (sign m') e = absurd ((mark_front m' b xs [] (e ∙ sym (append-nil (spelled m')))).3 l)
one_item (digits {b = b} {bytes = xs} l w) (blank {b = b'} w') e = absurd (omega (arith, heads b b' _ _ e, l, blank_high b' w'))
one_item (digits {b = b} {bytes = xs} l w) (line {bytes = xs'} w') e = absurd (omega (arith, heads b 47 _ _ e, l))
one_item (digits {b = b} {bytes = xs} l w) (block xs' w') e = absurd (omega (arith, heads b 47 _ _ e, l))
one_item (digits {b = b} {bytes = xs} l w) (run {b = b'} {bytes = xs'} l' w') e = absurd (omega (arith, heads b b' _ _ e, l, letter_low b' l'))
one_item (digits {b = b} {bytes = xs} l w) (digits {b = b'} {bytes = xs'} l' w') e = ap (λ x. Digits (value_of x)) e
one_item (digits {b = b} {bytes = xs} l w) (quoted xs' w') e = absurd (omega (arith, heads b 34 _ _ e, l))
one_item (digits {b = b} {bytes = xs} l w) (sign m') e = absurd ((mark_front m' b xs [] ((e) ∙ sym (append-nil (spelled m')))).2 l)
one_item (quoted xs w) (blank {b = b'} w') e = absurd (omega (arith, heads 34 b' _ _ e, blank_high b' w'))
one_item (quoted xs w) (line {bytes = xs'} w') e = absurd (omega (arith, heads 34 47 _ _ e))
one_item (quoted xs w) (block xs' w') e = absurd (omega (arith, heads 34 47 _ _ e))
one_item (quoted xs w) (run {b = b'} {bytes = xs'} l' w') e = absurd (omega (arith, heads 34 b' _ _ e, letter_low b' l'))
one_item (quoted xs w) (digits {b = b'} {bytes = xs'} l' w') e = absurd (omega (arith, heads 34 b' _ _ e, l'))
one_item (quoted xs w) (quoted xs' w') e = let tails : xs ++ 34 ∷ [] ≡ xs' ++ 34 ∷ [] = cc in ap (λ x. Quoted x) (drop_last xs xs' 34 tails)
one_item (quoted xs w) (sign m') e = absurd ((mark_front m' 34 _ [] ((e) ∙ sym (append-nil (spelled m')))).1 refl)
one_item (sign m) (blank {b = b'} w') e = absurd (omega (arith, (mark_front m b' [] [] ((sym e) ∙ sym (append-nil (spelled m)))).0, blank_high b' w'))
one_item (sign m) (line {bytes = xs'} w') e = absurd (comment_no_mark m _ _ (sym (sym e)))
one_item (sign m) (block xs' w') e = absurd (comment_no_mark m _ _ (sym (sym e)))
one_item (sign m) (run {b = b'} {bytes = xs'} l' w') e = absurd ((mark_front m b' xs' [] (sym e ∙ sym (append-nil (spelled m)))).3 l')
one_item (sign m) (digits {b = b'} {bytes = xs'} l' w') e = absurd ((mark_front m b' xs' [] ((sym e) ∙ sym (append-nil (spelled m)))).2 l')
one_item (sign m) (quoted xs' w') e = absurd ((mark_front m 34 _ [] ((sym e) ∙ sym (append-nil (spelled m)))).1 refl)
one_item (sign m) (sign m') e = ap (λ x. Sign x) (spelled_same m m' e)

prefix_same : (p r p' r' : List ℕ) → p ++ r ≡ p' ++ r' → length p ≡ length p' → (p ≡ p') × (r ≡ r')
prefix_same [] r [] r' e same = (refl, e)
prefix_same [] r (y ∷ ys) r' e same = absurd (omega arith)
prefix_same (x ∷ xs) r [] r' e same = absurd (omega arith)
prefix_same (x ∷ xs) r (y ∷ ys) r' e same =
    let tails : xs ++ r ≡ ys ++ r' = cc in
    let sizes : length xs ≡ length ys = omega arith in
    let both : (xs ≡ ys) × (r ≡ r') = prefix_same xs r ys r' tails sizes in
    ((cc (both.0)), both.1)

-- the longest item is one
one_longest : (bytes p r p' r' : List ℕ) (i i' : Item) → Longest bytes p r i → Longest bytes p' r' i' → (p ≡ p') × (r ≡ r') × (i ≡ i')
one_longest bytes p r p' r' i i' l l' =
    let sizes : length p ≡ length p' = omega (arith, l'.longest p r i l.split l.is_item, l.longest p' r' i' l'.split l'.is_item) in
    let both : (p ≡ p') × (r ≡ r') = prefix_same p r p' r' (sym l.split ∙ l'.split) sizes in
    (both.0, both.1, one_item l.is_item l'.is_item both.0)

none_empty : {p r : List ℕ} {i : Item} → Longest [] p r i → ⊥
none_empty {p = p} {r = r} l = omega (arith, item_some l.is_item, ap (λ (x : List ℕ). length x) l.split, length-append p r)

word_same : {at : ℕ} {bytes bytes' : List ℕ} {k k' : TokenKind} → IsWord at bytes k → IsWord at bytes' k' → bytes ≡ bytes' → k ≡ k'
word_same (keyword {w = w}) (keyword {w = w'}) e = ap (λ x. kind.Word x) (written_same w w' e)
word_same (keyword {w = w}) (name other) e = absurd (other w (sym e))
word_same (name other) (keyword {w = w}) e = absurd (other w e)
word_same (name other) (name other') e = cc

token_same : {at : ℕ} {i i' : Item} {k k' : TokenKind} → IsToken at i k → IsToken at i' k' → i ≡ i' → k ≡ k'
token_same (run_token s w) (run_token s' w') e = word_same w w' (cc)
token_same (run_token s w) (number_token h) e = absurd (cc)
token_same (run_token s w) text_token e = absurd (cc)
token_same (run_token s w) mark_token e = absurd (cc)
token_same (number_token h) (run_token s w) e = absurd (cc)
token_same (number_token h) (number_token h') e = cc
token_same (number_token h) text_token e = absurd (cc)
token_same (number_token h) mark_token e = absurd (cc)
token_same text_token (run_token s w) e = absurd (cc)
token_same text_token (number_token h) e = absurd (cc)
token_same text_token text_token e = cc
token_same text_token mark_token e = absurd (cc)
token_same mark_token (run_token s w) e = absurd (cc)
token_same mark_token (number_token h) e = absurd (cc)
token_same mark_token text_token e = absurd (cc)
token_same mark_token mark_token e = cc

-- what a fault says of the item at the front
pub data Clash : Item → Type 0 where
  too_long : {p : List ℕ} → 64 < length p → Clash (Run p)
  too_large : {n : ℕ} → 2 ^ 63 ≤ n → Clash (Digits n)

gap_clash : {i : Item} → Clash i → i ≡ Gap → ⊥
gap_clash (too_long h) e = cc
gap_clash (too_large h) e = cc

token_clash : {at : ℕ} {i i' : Item} {k : TokenKind} → Clash i → IsToken at i' k → i ≡ i' → ⊥
token_clash (too_long {p = p} h) (run_token {bytes = q} s w) e = let same : p ≡ q = cc in omega (arith, ap (λ (x : List ℕ). length x) same)
token_clash (too_long h) (number_token h') e = cc
token_clash (too_long h) text_token e = cc
token_clash (too_long h) mark_token e = cc
token_clash (too_large h) (run_token s w) e = cc
token_clash (too_large {n = n} h) (number_token {n = m} h') e = let same : n ≡ m = cc in omega arith
token_clash (too_large h) text_token e = cc
token_clash (too_large h) mark_token e = cc

no_close : (inner rest ys r : List ℕ) → AllByRecursion IsInText inner → AllByRecursion IsInText ys → (rest ≡ []) ⊎ ((more : List ℕ) × (rest ≡ 10 ∷ more)) → inner ++ rest ≡ ys ++ 34 ∷ r → ⊥
no_close [] rest [] r good all (inl h) e = let both : [] ≡ 34 ∷ r = sym h ∙ e in cc
no_close [] rest [] r good all (inr h) e = omega (arith, heads 10 34 _ _ (sym h.1 ∙ e))
no_close [] rest (y ∷ ys) r good all (inl h) e = let both : [] ≡ y ∷ (ys ++ 34 ∷ r) = sym h ∙ e in cc
no_close [] rest (y ∷ ys) r good all (inr h) e = all.0.1 (sym (heads 10 y _ _ (sym h.1 ∙ e)))
no_close (x ∷ xs) rest [] r good all h e = good.0.0 (heads x 34 _ _ e)
no_close (x ∷ xs) rest (y ∷ ys) r good all h e = let tails : xs ++ rest ≡ ys ++ 34 ∷ r = cc in no_close xs rest ys r good.1 all.1 h tails

-- no item is at the front of an open text
text_no_item : {p : List ℕ} {i : Item} (r inner rest : List ℕ) → AllByRecursion IsInText inner → (rest ≡ []) ⊎ ((more : List ℕ) × (rest ≡ 10 ∷ more)) → IsItem p i → 34 ∷ inner ++ rest ≡ p ++ r → ⊥
text_no_item r inner rest good stops (blank {b = b} w) e = omega (arith, blank_high b w, heads 34 b _ _ e)
text_no_item r inner rest good stops (line w) e = omega (arith, heads 34 47 _ _ e)
text_no_item r inner rest good stops (block xs w) e = omega (arith, heads 34 47 _ _ e)
text_no_item r inner rest good stops (run {b = b} l w) e = omega (arith, letter_low b l, heads 34 b _ _ e)
text_no_item r inner rest good stops (digits {b = b} l w) e = omega (arith, heads 34 b _ _ e)
text_no_item r inner rest good stops (quoted ys w) e =
    let tails : inner ++ rest ≡ (ys ++ 34 ∷ []) ++ r = cc in
    no_close inner rest ys r good w stops (tails ∙ append_assoc ys (34 ∷ []) r)
text_no_item r inner rest good stops (sign m) e = (mark_front m 34 (inner ++ rest) r e).1 refl

at_text : {bytes p : List ℕ} {i : Item} (r : List ℕ) → OpensText bytes → bytes ≡ p ++ r → IsItem p i → ⊥
at_text r t split d = text_no_item r t.inner t.rest t.good t.stops d (sym t.split ∙ split)

fault_clash : {at : ℕ} {bytes : List ℕ} {e : LexError} (p r : List ℕ) (i : Item) → IsFault at bytes e → Longest bytes p r i → Clash i
fault_clash p r i (bad_byte never text) l = absurd (never p r i l.split l.is_item)
fault_clash p r i (long_name {piece = q} {rest = s} l' h) l = subst Clash (sym (one_longest _ p r q s i (Run q) l l').2) (too_long h)
fault_clash p r i (long_number {n = n} {piece = q} {rest = s} l' h) l = subst Clash (sym (one_longest _ p r q s i (Digits n) l l').2) (too_large h)
fault_clash p r i (open_comment o) l = absurd (l.closed o)
fault_clash p r i (open_text t) l = absurd (at_text _ t l.split l.is_item)

run_not_digits : {p q r s bytes : List ℕ} {n : ℕ} → Longest bytes p r (Run p) → Longest bytes q s (Digits n) → ⊥
run_not_digits {p = p} {q = q} {r = r} {s = s} {bytes = bytes} {n = n} l l' = let same : Run p ≡ Digits n = (one_longest bytes p r q s (Run p) (Digits n) l l').2 in cc

fault_same : {at : ℕ} {bytes bytes' : List ℕ} {e e' : LexError} → IsFault at bytes e → IsFault at bytes' e' → bytes ≡ bytes' → e ≡ e'
fault_same (bad_byte never text) (bad_byte never' text') same = refl
fault_same (bad_byte never text) (long_name {piece = q} {rest = s} l h) same = absurd (never q s (Run q) (same ∙ l.split) l.is_item)
fault_same (bad_byte never text) (long_number {n = n} {piece = q} {rest = s} l h) same = absurd (never q s (Digits n) (same ∙ l.split) l.is_item)
fault_same (bad_byte never text) (open_comment o) same = absurd (never (47 ∷ []) (42 ∷ o.body) (Sign mark.Slash) (same ∙ o.split) (sign mark.Slash))
fault_same (bad_byte never text) (open_text t) same = absurd (text (subst OpensText (sym same) t))
fault_same (long_name {piece = q} {rest = s} l h) (bad_byte never text) same = absurd (never q s (Run q) (sym same ∙ l.split) l.is_item)
fault_same (long_name l h) (long_name l' h') same = refl
fault_same (long_name {piece = q} {rest = s} l h) (long_number {n = n} {piece = q'} {rest = s'} l' h') same = let on : List ℕ
    → Type 0 = λ x. Longest x q' s' (Digits n) in absurd (run_not_digits l (subst on (sym same) l'))
fault_same (long_name {piece = q} {rest = s} l h) (open_comment o) same = absurd (l.closed (subst OpensComment (sym same) o))
fault_same (long_name l h) (open_text t) same = absurd (at_text _ (subst OpensText (sym same) t) l.split l.is_item)
fault_same (long_number {n = n} {piece = q} {rest = s} l h) (bad_byte never text) same = absurd (never q s (Digits n) (sym same ∙ l.split) l.is_item)
fault_same (long_number {n = n} {piece = q} {rest = s} l h) (long_name {piece = q'} {rest = s'} l' h') same = let on : List ℕ
    → Type 0 = λ x. Longest x q s (Digits n) in absurd (run_not_digits l' (subst on same l))
fault_same (long_number l h) (long_number l' h') same = refl
fault_same (long_number l h) (open_comment o) same = absurd (l.closed (subst OpensComment (sym same) o))
fault_same (long_number l h) (open_text t) same = absurd (at_text _ (subst OpensText (sym same) t) l.split l.is_item)
fault_same (open_comment o) (bad_byte never text) same = absurd (never (47 ∷ []) (42 ∷ o.body) (Sign mark.Slash) (sym same ∙ o.split) (sign mark.Slash))
fault_same (open_comment o) (long_name l h) same = absurd (l.closed (subst OpensComment same o))
fault_same (open_comment o) (long_number l h) same = absurd (l.closed (subst OpensComment same o))
fault_same (open_comment o) (open_comment o') same = refl
fault_same (open_comment o) (open_text t) same = absurd (omega (arith, heads 47 34 _ _ (sym o.split ∙ same ∙ t.split)))
fault_same (open_text t) (bad_byte never text) same = absurd (text (subst OpensText same t))
fault_same (open_text t) (long_name l h) same = absurd (at_text _ (subst OpensText same t) l.split l.is_item)
fault_same (open_text t) (long_number l h) same = absurd (at_text _ (subst OpensText same t) l.split l.is_item)
fault_same (open_text t) (open_comment o) same = absurd (omega (arith, heads 34 47 _ _ (sym t.split ∙ same ∙ o.split)))
fault_same (open_text t) (open_text t') same = refl

no_fault_in_nothing : {at : ℕ} {bytes : List ℕ} {e : LexError} → IsFault at bytes e → bytes ≡ [] → ⊥
no_fault_in_nothing (bad_byte never text) same = cc
no_fault_in_nothing (long_name {piece = q} {rest = s} l h) same = let on : List ℕ → Type 0 = λ x. Longest x q s (Run q) in none_empty (subst on same l)
no_fault_in_nothing (long_number {n = n} {piece = q} {rest = s} l h) same = let on : List ℕ → Type 0 = λ x. Longest x q s (Digits n) in none_empty (subst on same l)
no_fault_in_nothing (open_comment o) same = let e : 47 ∷ 42 ∷ o.body ≡ [] = sym o.split ∙ same in cc
no_fault_in_nothing (open_text t) same = let e : 34 ∷ t.inner ++ t.rest ≡ [] = sym t.split ∙ same in cc

module _ {bytes bytes' p p' r r' : List ℕ} {i i' : Item} (l : Longest bytes p r i) (l' : Longest bytes' p' r' i') (same : bytes ≡ bytes') where
  both_longest : (p ≡ p') × (r ≡ r') × (i ≡ i')
  both_longest = let on : List ℕ → Type 0 = λ x. Longest x p' r' i' in one_longest bytes p r p' r' i i' l (subst on (sym same) l')

  same_place : {at at' : ℕ} → at ≡ at' → at + length p ≡ at' + length p'
  same_place here = omega (arith, here, ap (λ (x : List ℕ). length x) both_longest.0)

not_at_end : {bytes p r : List ℕ} {i : Item} → Longest bytes p r i → bytes ≡ [] → ⊥
not_at_end {p = p} {r = r} {i = i} l same = let on : List ℕ → Type 0 = λ x. Longest x p r i in none_empty (subst on same l)

gap_no_token : {at : ℕ} {i : Item} {k : TokenKind} → IsToken at i k → Gap ≡ i → ⊥
gap_no_token (run_token s w) e = cc
gap_no_token (number_token h) e = cc
gap_no_token text_token e = cc
gap_no_token mark_token e = cc

one_way : {at at' : ℕ} {bytes bytes' : List ℕ} {o o' : Result (List Token) LexError} → Reads at bytes o → Reads at' bytes' o' → at ≡ at' → bytes ≡ bytes' → o ≡ o'
one_way at_end at_end here same = cc
one_way at_end (gap l d) here same = absurd (not_at_end l (sym same))
one_way at_end (token l t d) here same = absurd (not_at_end l (sym same))
one_way at_end (fault_here f) here same = absurd (no_fault_in_nothing f (sym same))
one_way (gap l d) at_end here same = absurd (not_at_end l same)
one_way (gap l d) (gap l' d') here same = one_way d d' (same_place l l' same here) (both_longest l l' same).1
one_way (gap l d) (token l' t' d') here same = absurd (gap_no_token t' (both_longest l l' same).2)
one_way (gap {piece = p} {rest = r} l d) (fault_here {e = e'} f) here same = let on : List ℕ → Type 0 = λ x. Longest x p r Gap in absurd (gap_clash (fault_clash p r Gap f (subst on same l)) refl)
one_way (token l t d) at_end here same = absurd (not_at_end l same)
one_way (token l t d) (gap l' d') here same = absurd (gap_no_token t (sym (both_longest l l' same).2))
one_way {at = at} {at' = at'} (token {item = i} {k = k} {outcome = o} l t d) (token {item = i'} {k = k'} {outcome = o'} l' t' d') here same =
    let rest : o ≡ o' = one_way d d' (same_place l l' same here) (both_longest l l' same).1 in
    let on : ℕ → Type 0 = λ x. IsToken x i k in
    let kinds : k ≡ k' = token_same (subst on here t) t' (both_longest l l' same).2 in
    cc
one_way (token {piece = p} {rest = r} {item = i} l t d) (fault_here f) here same = let on : List ℕ
    → Type 0 = λ x. Longest x p r i in absurd (token_clash (fault_clash p r i f (subst on same l)) t refl)
one_way (fault_here f) at_end here same = absurd (no_fault_in_nothing f same)
one_way (fault_here f) (gap {piece = p} {rest = r} l d) here same = let on : List ℕ → Type 0 = λ x. Longest x p r Gap in absurd (gap_clash (fault_clash p r Gap f (subst on (sym same) l)) refl)
one_way (fault_here f) (token {piece = p} {rest = r} {item = i} l t d) here same = let on : List ℕ
    → Type 0 = λ x. Longest x p r i in absurd (token_clash (fault_clash p r i f (subst on (sym same) l)) t refl)
one_way (fault_here {bytes = bytes} {e = e} f) (fault_here f') here same =
    let on : ℕ → Type 0 = λ x. IsFault x bytes e in
    ap (λ x. Err x) (fault_same (subst on here f) f' same)

pub reads_one_way : ReadsOneWay
reads_one_way text one two d d' = one_way d d' refl refl
