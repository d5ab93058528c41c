-- One step of the reader, and the rest of the text behind it.
use Rattle.std.proofs.Common.{◌≡◌, ◌≢◌, ◌≤◌, ◌<◌, ◌+◌, ◌⊎◌, inl, inr, ℕ, suc, zero, List, [], ◌∷◌, ◌++◌, Option, Some, None, Result, Ok, Err, length, take, drop, length-drop, take-append-drop}
use Rattle.std.proofs.Common.{length-take, length-append, drop-cons, get_or-drop, true, false, ◌-◌, get_or, refl, ap, sym, ◌∙◌, subst, arith, append_assoc, pos, ◌^◌}
use Rattle.std.specs.List.{AllByRecursion}
use Rattle.std.proofs.lemmas.List.{drop-drop, drop_all, take_all}
use Rattle.std.proofs.lemmas.Bool.Decides.{leb_tells}
use Rattle.std.proofs.Math.Dec.{leb}
use Rattle.std.proofs.Math.Seq.{drop-append_seam}
use Rattle.csl_tree.specs.declared.token.Token.{Token}
use Rattle.csl_tree.specs.declared.token.TokenKind.{TokenKind}
use Rattle.csl_tree.specs.declared.token.TokenKind.TheVariants as kind
use Rattle.csl_lexer.specs.declared.LexError.{LexError}
use Rattle.csl_lexer.specs.declared.LexError.TheVariants as fault
use Rattle.csl_lexer.specs.declared.scan.ByteClass.TheVariants as class
use Rattle.csl_lexer.specs.Tokens.{Reads, gap, token, at_end, fault_here, before, Item, Run, Digits, Sign, IsItem, blank, line, block, run, digits, quoted, sign, Longest, IsFault, bad_byte, long_name}
use Rattle.csl_lexer.specs.Tokens.{long_number, open_comment, open_text, IsInLine, IsInText, IsBlank, IsDigit, IsLetter, IsNameByte, IsWord, NeverCloses, value_of, spelled, run_token, number_token}
use Rattle.csl_lexer.specs.Tokens.{text_token, mark_token}
use Rattle.csl_tree.specs.declared.token.Mark.{Mark}
use Rattle.csl_lexer.specs.Steps.{Takes, takes_gap, takes_token, BeginsOutside, FirstCloses, LongestMark, NoMark, IsOther}
use Rattle.csl_lexer.proofs.Items.{quoted_longest, blank_longest, run_longest, digits_longest, line_longest, block_longest, sign_longest, item_some}

-- the token that a step adds, if it adds one
abbrev pub added : ℕ → Option TokenKind → List Token
added at None = []
added at (Some k) = record { at = at; kind = k } ∷ []

before_none : (outcome : Result (List Token) LexError) → before [] outcome ≡ outcome
before_none (Ok more) = refl
before_none (Err e) = refl

before_both : (xs ys : List Token) (outcome : Result (List Token) LexError) → before xs (before ys outcome) ≡ before (xs ++ ys) outcome
before_both xs ys (Ok more) = ap (λ x. Ok x) (sym (append_assoc xs ys more))
before_both xs ys (Err e) = refl

behind_piece : (bytes piece rest : List ℕ) → bytes ≡ piece ++ rest → drop (length piece) bytes ≡ rest
behind_piece bytes piece rest e = ap (λ x. drop (length piece) x) e ∙ drop-append_seam piece rest

step : {at : ℕ} {bytes : List ℕ} {k : Option TokenKind} {n : ℕ} (outcome : Result (List Token) LexError) → Takes at bytes k n → Reads (at + n) (drop n bytes) outcome
    → Reads at bytes (before (added at k) outcome)
step {at = at} {bytes = bytes} outcome (takes_gap {piece = piece} {rest = rest} longest) r =
    let on : List ℕ → Type 0 = λ x. Reads (at + length piece) x outcome in
    let to : Result (List Token) LexError → Type 0 = λ x. Reads at bytes x in
    subst to (sym (before_none outcome)) (gap longest (subst on (behind_piece bytes piece rest longest.split) r))
step {at = at} {bytes = bytes} outcome (takes_token {piece = piece} {rest = rest} longest is) r =
    let on : List ℕ → Type 0 = λ x. Reads (at + length piece) x outcome in
    token longest is (subst on (behind_piece bytes piece rest longest.split) r)

module _ (text : List ℕ) (at : ℕ) (tokens : List Token) (goes_on : (outcome : Result (List Token) LexError) → Reads at (drop at text) outcome → Reads 0 text (before tokens outcome)) where
  pub goes_on_more : (k : Option TokenKind) (n : ℕ) (more : List Token) → more ≡ tokens ++ added at k → Takes at (drop at text) k n → (outcome : Result (List Token) LexError)
      → Reads (at + n) (drop (at + n) text) outcome → Reads 0 text (before more outcome)
  goes_on_more k n more is takes outcome r =
      let on : List ℕ → Type 0 = λ x. Reads (at + n) x outcome in
      let to : Result (List Token) LexError → Type 0 = λ x. Reads 0 text x in
      let here : Reads (at + n) (drop n (drop at text)) outcome = subst on (sym (drop-drop n at text)) r in
      let all : Reads 0 text (before tokens (before (added at k) outcome)) = goes_on (before (added at k) outcome) (step outcome takes here) in
      subst to (before_both tokens (added at k) outcome ∙ ap (λ x. before x outcome) (sym is)) all

  pub text_ends : (more : List Token) → more ≡ tokens ++ record { at = at; kind = kind.End } ∷ [] → length text ≤ at → Reads 0 text (Ok more)
  text_ends more is past =
      let on : List ℕ → Type 0 = λ x. Reads at x (Ok (record { at = at; kind = kind.End } ∷ [])) in
      let to : List Token → Type 0 = λ x. Reads 0 text (Ok x) in
      subst to (sym is) (goes_on _ (subst on (sym (drop_all at text past)) at_end))

  pub text_fails : (e : LexError) → IsFault at (drop at text) e → Reads 0 text (Err e)
  text_fails e h = goes_on (Err e) (fault_here h)

-- a step takes some of the bytes
pub takes_some : {at : ℕ} {bytes : List ℕ} {k : Option TokenKind} {n : ℕ} → Takes at bytes k n → (0 < n) × (n ≤ length bytes)
takes_some {bytes = bytes} (takes_gap {piece = piece} {rest = rest} l) = (item_some l.is_item, omega (arith, ap (λ (x : List ℕ). length x) l.split, length-append piece rest))
takes_some {bytes = bytes} (takes_token {piece = piece} {rest = rest} l is) = (item_some l.is_item, omega (arith, ap (λ (x : List ℕ). length x) l.split, length-append piece rest))

get_or-drop0 : (n : ℕ) (xs : List ℕ) → get_or (drop n xs) 0 0 ≡ get_or xs n 0
get_or-drop0 n xs = get_or-drop n xs 0 0 ∙ ap (λ k. get_or xs k 0) (omega arith)

-- what a slice to the end is
pub to_the_end : (at : ℕ) (text : List ℕ) → take (length text - at) (drop at text) ≡ drop at text
to_the_end at text = take_all (length text - at) (drop at text) (omega (arith, length-drop at text))

first_of : (bytes : List ℕ) → 0 < length bytes → bytes ≡ get_or bytes 0 0 ∷ drop 1 bytes
first_of [] h = absurd (omega arith)
first_of (b ∷ bytes) h = refl

-- a blank
pub takes_blank : (at : ℕ) (bytes : List ℕ) → 0 < length bytes → IsBlank (get_or bytes 0 0) → Takes at bytes None 1
takes_blank at bytes some h =
    let on : List ℕ → Type 0 = λ x. Takes at x None 1 in
    subst on (sym (first_of bytes some)) (takes_gap (blank_longest (get_or bytes 0 0) (drop 1 bytes) h))

-- a line comment, whose bytes behind `//` were counted
pub takes_line : (at : ℕ) (body : List ℕ) (n : ℕ) → n ≤ length body → AllByRecursion IsInLine (take n body) → BeginsOutside class.InLine (drop n body) → Takes at (47 ∷ 47 ∷ body) None (2 + n)
takes_line at body n within all out =
    let on : List ℕ → Type 0 = λ x. Takes at (47 ∷ 47 ∷ x) None (length (47 ∷ 47 ∷ take n body)) in
    let by : ℕ → Type 0 = λ x. Takes at (47 ∷ 47 ∷ body) None x in
    let size : length (47 ∷ 47 ∷ take n body) ≡ 2 + n = omega (arith, length-take n body, within) in
    subst by size (subst on (take-append-drop n body) (takes_gap (line_longest (take n body) (drop n body) all out)))

-- a block comment, whose bytes before the first `*/` were counted
pub takes_block : (at : ℕ) (body : List ℕ) (n : ℕ) → FirstCloses body n → Takes at (47 ∷ 42 ∷ body) None (n + 4)
takes_block at body n closes =
    let on : List ℕ → Type 0 = λ x. Takes at (47 ∷ 42 ∷ x) None (length (47 ∷ 42 ∷ take n body ++ (42 ∷ 47 ∷ []))) in
    let by : ℕ → Type 0 = λ x. Takes at (47 ∷ 42 ∷ body) None x in
    let size : length (47 ∷ 42 ∷ take n body ++ (42 ∷ 47 ∷ [])) ≡ n + 4 = omega (arith, length-append (take n body) (42 ∷ 47 ∷ []), length-take n body, closes.2) in
    subst by size (subst on (sym closes.0) (takes_gap (block_longest (take n body) (drop (n + 2) body) closes.1)))

-- `/*` that nothing closes
pub opens_comment : (at : ℕ) (body : List ℕ) → NeverCloses body → IsFault at (47 ∷ 42 ∷ body) (fault.OpenComment at)
opens_comment at body never = open_comment (record { body = body; split = refl; never = never })

-- a text, whose bytes behind the first quote were counted
pub takes_text : (at : ℕ) (inner : List ℕ) (n : ℕ) → n < length inner → AllByRecursion IsInText (take n inner) → get_or inner n 0 ≡ 34
    → Takes at (34 ∷ inner) (Some (kind.Text (record { text = take n inner; at = at }))) (n + 2)
takes_text at inner n within all quote =
    let k : Option TokenKind = Some (kind.Text (record { text = take n inner; at = at })) in
    let ends : drop n inner ≡ 34 ∷ drop (suc n) inner = drop-cons inner n 0 within ∙ ap (λ x. x ∷ drop (suc n) inner) quote in
    let parts : inner ≡ take n inner ++ 34 ∷ drop (suc n) inner = sym (take-append-drop n inner) ∙ ap (λ x. take n inner ++ x) ends in
    let on : List ℕ → Type 0 = λ x. Takes at (34 ∷ x) k (length (34 ∷ take n inner ++ (34 ∷ []))) in
    let by : ℕ → Type 0 = λ x. Takes at (34 ∷ inner) k x in
    let size : length (34 ∷ take n inner ++ (34 ∷ [])) ≡ n + 2 = omega (arith, length-append (take n inner) (34 ∷ []), length-take n inner) in
    subst by size (subst on (sym parts) (takes_token (quoted_longest (take n inner) (drop (suc n) inner) all) text_token))

line_end : (b : ℕ) → (IsInText b → ⊥) → b ≢ 34 → b ≡ 10
line_end b out other = by_order (leb_tells b 10) (leb_tells 10 b)
  where
    by_order : ((leb b 10 ≡ true) × (b ≤ 10)) ⊎ ((leb b 10 ≡ false) × (10 < b)) → ((leb 10 b ≡ true) × (10 ≤ b)) ⊎ ((leb 10 b ≡ false) × (b < 10)) → b ≡ 10
    by_order (inl x) (inl y) = omega (arith, x.1, y.1)
    by_order (inr x) y = absurd (out (other, λ h. omega (arith, x.1, h)))
    by_order (inl x) (inr y) = absurd (out (other, λ h. omega (arith, y.1, h)))

text_stops : (rest : List ℕ) → BeginsOutside class.InText rest → (0 < length rest → get_or rest 0 0 ≢ 34) → (rest ≡ []) ⊎ ((more : List ℕ) × (rest ≡ 10 ∷ more))
text_stops [] out other = inl refl
text_stops (b ∷ more) out other = inr (more, ap (λ x. x ∷ more) (line_end b out (other (omega arith))))

pub opens_text : (at : ℕ) (inner : List ℕ) (n : ℕ) → n ≤ length inner → AllByRecursion IsInText (take n inner) → BeginsOutside class.InText (drop n inner) → (n < length inner → get_or inner n 0 ≢ 34)
    → IsFault at (34 ∷ inner) (fault.OpenText at)
opens_text at inner n within all out quote = open_text (record {
  inner = take n inner;
  rest = drop n inner;
  split = ap (λ x. 34 ∷ x) (sym (take-append-drop n inner));
  good = all;
  stops = text_stops (drop n inner) out (λ some same. quote (omega (arith, some, length-drop n inner)) (sym (get_or-drop0 n inner) ∙ same));
})

-- a word, whose bytes were counted
word_longest : (bytes : List ℕ) (n : ℕ) → 0 < length bytes → IsLetter (get_or bytes 0 0) → AllByRecursion IsNameByte (take n bytes) → BeginsOutside class.InName (drop n bytes)
    → Longest bytes (take n bytes) (drop n bytes) (Run (take n bytes))
word_longest [] n some letter all out = absurd (omega arith)
word_longest (b ∷ tail) zero some letter all out = absurd (out (inl letter))
word_longest (b ∷ tail) (suc n) some letter all out =
    let whole : List ℕ → Type 0 = λ x. Longest (b ∷ x) (b ∷ take n tail) (drop n tail) (Run (b ∷ take n tail)) in
    subst whole (take-append-drop n tail) (run_longest b (take n tail) (drop n tail) letter all.1 out)

-- how long a piece at the front is
piece_length : (bytes : List ℕ) (n : ℕ) → n ≤ length bytes → length (take n bytes) ≡ n
piece_length bytes n within = omega (arith, length-take n bytes, within)

pub takes_word : (at : ℕ) (bytes : List ℕ) (n : ℕ) (k : TokenKind) → 0 < length bytes → IsLetter (get_or bytes 0 0) → n ≤ length bytes → AllByRecursion IsNameByte (take n bytes)
    → BeginsOutside class.InName (drop n bytes) → n ≤ 64 → IsWord at (take n bytes) k → Takes at bytes (Some k) n
takes_word at bytes n k some letter within all out short is =
    let by : ℕ → Type 0 = λ x. Takes at bytes (Some k) x in
    let size : length (take n bytes) ≡ n = piece_length bytes n within in
    subst by size (takes_token (word_longest bytes n some letter all out) (run_token (omega (arith, size, short)) is))

pub long_word : (at : ℕ) (bytes : List ℕ) (n : ℕ) → 0 < length bytes → IsLetter (get_or bytes 0 0) → n ≤ length bytes → AllByRecursion IsNameByte (take n bytes)
    → BeginsOutside class.InName (drop n bytes) → 64 < n → IsFault at bytes (fault.LongName at)
long_word at bytes n some letter within all out long =
    long_name (word_longest bytes n some letter all out) (omega (arith, piece_length bytes n within, long))

-- a number, whose digits were counted
number_longest : (bytes : List ℕ) (n : ℕ) → 0 < length bytes → IsDigit (get_or bytes 0 0) → AllByRecursion IsDigit (take n bytes) → BeginsOutside class.InNumber (drop n bytes)
    → Longest bytes (take n bytes) (drop n bytes) (Digits (value_of (take n bytes)))
number_longest [] n some digit all out = absurd (omega arith)
number_longest (b ∷ tail) zero some digit all out = absurd (out digit)
number_longest (b ∷ tail) (suc n) some digit all out =
    let whole : List ℕ → Type 0 = λ x. Longest (b ∷ x) (b ∷ take n tail) (drop n tail) (Digits (value_of (b ∷ take n tail))) in
    subst whole (take-append-drop n tail) (digits_longest b (take n tail) (drop n tail) digit all.1 out)

pub takes_number : (at : ℕ) (bytes : List ℕ) (n : ℕ) → 0 < length bytes → IsDigit (get_or bytes 0 0) → n ≤ length bytes → AllByRecursion IsDigit (take n bytes)
    → BeginsOutside class.InNumber (drop n bytes) → value_of (take n bytes) < 2 ^ 63 → Takes at bytes (Some (kind.Number (pos (value_of (take n bytes))))) n
takes_number at bytes n some digit within all out small =
    let by : ℕ → Type 0 = λ x. Takes at bytes (Some (kind.Number (pos (value_of (take n bytes))))) x in
    subst by (piece_length bytes n within) (takes_token (number_longest bytes n some digit all out) (number_token small))

pub large_number : (at : ℕ) (bytes : List ℕ) (n : ℕ) → 0 < length bytes → IsDigit (get_or bytes 0 0) → AllByRecursion IsDigit (take n bytes) → BeginsOutside class.InNumber (drop n bytes)
    → 2 ^ 63 ≤ value_of (take n bytes) → IsFault at bytes (fault.LongNumber at)
large_number at bytes n some digit all out large = long_number (number_longest bytes n some digit all out) large

-- a mark
pub takes_sign : (at : ℕ) (bytes : List ℕ) (m : Mark) (n : ℕ) → LongestMark bytes m n → IsOther bytes → Takes at bytes (Some (kind.Mark m)) n
takes_sign at bytes m n longest other =
    let by : ℕ → Type 0 = λ x. Takes at bytes (Some (kind.Mark m)) x in
    subst by (sym longest.size) (takes_token (sign_longest bytes m n longest other) mark_token)

-- nothing
pub begins_nothing : (at : ℕ) (bytes : List ℕ) → 0 < length bytes → NoMark bytes → IsOther bytes → IsFault at bytes (fault.BadByte at)
begins_nothing at [] some none other = absurd (omega arith)
begins_nothing at (b ∷ bytes) some none other = bad_byte
    (λ piece behind item e d.
    let as_mark : (m : Mark) × (item ≡ Sign m) × (piece ≡ spelled m) = other.sign_only piece behind item e d in
    none as_mark.0 behind (e ∙ ap (λ x. x ++ behind) as_mark.2))
    other.no_text

-- at the front of the bytes stands a mark or nothing
module _ (bytes : List ℕ) (some : 0 < length bytes)
    (no_blank : IsBlank (get_or bytes 0 0) → ⊥) (no_letter : IsLetter (get_or bytes 0 0) → ⊥) (no_digit : IsDigit (get_or bytes 0 0) → ⊥)
    (no_quote : (rest : List ℕ) → bytes ≢ 34 ∷ rest) (no_line : (rest : List ℕ) → bytes ≢ 47 ∷ 47 ∷ rest) (no_block : (rest : List ℕ) → bytes ≢ 47 ∷ 42 ∷ rest) where
  first_is : (b : ℕ) (rest : List ℕ) → bytes ≡ b ∷ rest → b ≡ get_or bytes 0 0
  first_is b rest e = sym (ap (λ (x : List ℕ). get_or x 0 0) e)

  only_sign : {piece : List ℕ} {item : Item} → IsItem piece item → (behind : List ℕ) → bytes ≡ piece ++ behind → (m : Mark) × (item ≡ Sign m) × (piece ≡ spelled m)
  only_sign (blank {b = y} w) behind e = absurd (no_blank (subst (λ (x : ℕ). IsBlank x) (first_is y _ e) w))
  only_sign (line {bytes = ys} w) behind e = absurd (no_line (ys ++ behind) e)
  only_sign (block ys w) behind e = absurd (no_block ((ys ++ (42 ∷ 47 ∷ [])) ++ behind) e)
  only_sign (run {b = y} l w) behind e = absurd (no_letter (subst (λ (x : ℕ). IsLetter x) (first_is y _ e) l))
  only_sign (digits {b = y} l w) behind e = absurd (no_digit (subst (λ (x : ℕ). IsDigit x) (first_is y _ e) l))
  only_sign (quoted ys w) behind e = absurd (no_quote ((ys ++ (34 ∷ [])) ++ behind) e)
  only_sign (sign m) behind e = (m, refl, refl)

  pub other_of : IsOther bytes
  other_of = record {
    sign_only = λ piece behind item e d. only_sign d behind e;
    closed = λ o. no_block o.body o.split;
    no_text = λ t. no_quote (t.inner ++ t.rest) t.split;
  }
