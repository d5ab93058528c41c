-- The reader finds in the canonical text the tokens that were written.
use Rattle.std.proofs.Common.{◌≡◌, ◌<◌, ◌+◌, ◌*◌, ◌^◌, inl, inr, ℕ, zero, suc, ℤ, pos, negsuc, Bool, true, false, if◌then◌else◌, List, [], ◌∷◌, ◌++◌, Ok, length, refl, sym, ap, subst, arith}
use Rattle.std.proofs.Common.{append_assoc}
use Rattle.std.specs.List.{AllByRecursion}
use Rattle.std.specs.Prelude.{replicate}
use Rattle.std.specs.Fmt.{decimal}
use Rattle.csl_tree.specs.declared.name.Name.{Name}
use Rattle.csl_tree.specs.declared.token.Token.{Token}
use Rattle.csl_tree.specs.declared.token.TokenKind.{TokenKind}
use Rattle.csl_tree.specs.declared.token.TokenKind.TheVariants as kind
use Rattle.csl_lexer.specs.Tokens.{IsBlank, IsInText, value_of, spelled, written, Item, Run, Digits, Quoted, Sign, Longest, keyword, name, IsToken, run_token, number_token, text_token, mark_token}
use Rattle.csl_lexer.specs.Tokens.{Reads, at_end, gap, token}
use Rattle.csl_lexer.proofs.Items.{run_longest, digits_longest, blank_longest, quoted_longest}
use Rattle.csl_print.specs.Canonical.{bytes_of, turn_of, set_in, depth, line_ends, byte_behind, line_begins, blanks, indentation, laid}
use Rattle.csl_print.proofs.Bares.{at_place}
use Rattle.csl_print.proofs.Goods.{Fits, AllFit}
use Rattle.csl_print.proofs.Items.{blank_outside_names, blank_outside_numbers, mark_longest}
use Rattle.csl_print.proofs.Runs.{IsRun, keyword_run, IsDecimal, decimal_is}

-- ---- tokens at their places

-- the token of this kind that the reader finds at a place
abbrev pub at_kind : ℕ → TokenKind → TokenKind
at_kind at (kind.Word w) = kind.Word w
at_kind at (kind.Named n) = kind.Named (at_place at n)
at_kind at (kind.Number z) = kind.Number z
at_kind at (kind.Text n) = kind.Text (at_place at n)
at_kind at (kind.Mark m) = kind.Mark m
at_kind at kind.End = kind.End

-- the tokens are of these kinds, each at its place
abbrev pub ArePlaced : List TokenKind → List Token → Type 0
ArePlaced [] [] = Unit {0}
ArePlaced [] (t ∷ ts) = ⊥
ArePlaced (k ∷ ks) [] = ⊥
ArePlaced (k ∷ ks) (t ∷ ts) = (t.kind ≡ at_kind t.at k) × ArePlaced ks ts

-- the bytes at a place are read as tokens of these kinds
pub record Found (at : ℕ) (bytes : List ℕ) (ks : List TokenKind) : Type 0 where
  pub tokens : List Token
  pub reads : Reads at bytes (Ok tokens)
  pub placed : ArePlaced ks tokens

-- wherever they stand
abbrev pub Finds : List ℕ → List TokenKind → Type 0
Finds bytes ks = (at : ℕ) → Found at bytes ks

finds_end : Finds [] (kind.End ∷ [])
finds_end at = record { tokens = record { at = at; kind = kind.End } ∷ []; reads = at_end; placed = (refl, tt) }

finds_blank : (b : ℕ) (rest : List ℕ) (ks : List TokenKind) → IsBlank b → Finds rest ks → Finds (b ∷ rest) ks
finds_blank b rest ks h behind at =
    let found : Found (at + length (b ∷ [])) rest ks = behind (at + length (b ∷ [])) in
    record { tokens = found.tokens; reads = gap (blank_longest b rest h) found.reads; placed = found.placed }

finds_blanks : (n : ℕ) (rest : List ℕ) (ks : List TokenKind) → Finds rest ks → Finds (replicate n 32 ++ rest) ks
finds_blanks zero rest ks behind = behind
finds_blanks (suc n) rest ks behind = finds_blank 32 (replicate n 32 ++ rest) ks (inl refl) (finds_blanks n rest ks behind)

finds_item : (bytes piece rest : List ℕ) (item : Item) (k : TokenKind) (ks : List TokenKind) → Longest bytes piece rest item → ((at : ℕ) → IsToken at item (at_kind at k)) → Finds rest ks
    → Finds bytes (k ∷ ks)
finds_item bytes piece rest item k ks longest is behind at =
    let found : Found (at + length piece) rest ks = behind (at + length piece) in
    record { tokens = record { at = at; kind = at_kind at k } ∷ found.tokens; reads = token longest (is at) found.reads; placed = (refl, found.placed) }

finds_as : (bytes bytes' : List ℕ) (ks : List TokenKind) → bytes ≡ bytes' → Finds bytes ks → Finds bytes' ks
finds_as bytes bytes' ks e h = let P : List ℕ → Type 0 = λ x. Finds x ks in subst P e h

-- ---- one token, with a blank behind it

module _ (b : ℕ) (rest : List ℕ) (ks : List TokenKind) (h : IsBlank b) (behind : Finds (b ∷ rest) ks) where
  finds_run : (bytes : List ℕ) (k : TokenKind) → IsRun bytes → ((at : ℕ) → IsToken at (Run bytes) (at_kind at k)) → Finds (bytes ++ b ∷ rest) (k ∷ ks)
  finds_run bytes k r is =
      let longest : Longest (r.first ∷ r.rest ++ b ∷ rest) (r.first ∷ r.rest) (b ∷ rest) (Run (r.first ∷ r.rest)) = run_longest r.first r.rest (b ∷ rest) r.letter r.all
      (blank_outside_names b rest h) in
      let P : List ℕ → Type 0 = λ x. Longest (x ++ b ∷ rest) x (b ∷ rest) (Run x) in
      finds_item (bytes ++ b ∷ rest) bytes (b ∷ rest) (Run bytes) k ks (subst P (sym r.split) longest) is behind

  finds_number : (n : ℕ) → n < 2 ^ 63 → Finds (decimal n ++ b ∷ rest) (kind.Number (pos n) ∷ ks)
  finds_number n low =
      let d : IsDecimal n (decimal n) = decimal_is n (omega arith) in
      let longest : Longest (d.first ∷ d.rest ++ b ∷ rest) (d.first ∷ d.rest) (b ∷ rest) (Digits (value_of (d.first ∷ d.rest))) = digits_longest d.first d.rest (b ∷ rest) d.digit d.all
      (blank_outside_numbers b rest h) in
      let P : List ℕ → Type 0 = λ x. Longest (x ++ b ∷ rest) x (b ∷ rest) (Digits (value_of x)) in
      let Q : ℕ → Type 0 = λ x. Longest (decimal n ++ b ∷ rest) (decimal n) (b ∷ rest) (Digits x) in
      finds_item (decimal n ++ b ∷ rest) (decimal n) (b ∷ rest) (Digits n) (kind.Number (pos n)) ks (subst Q d.value (subst P (sym d.split) longest)) (λ at. number_token low) behind

  finds_quoted : (n : Name) → AllByRecursion IsInText n.text → Finds ((34 ∷ n.text ++ 34 ∷ []) ++ b ∷ rest) (kind.Text n ∷ ks)
  finds_quoted n all =
      let longest : Longest (34 ∷ n.text ++ 34 ∷ (b ∷ rest)) (34 ∷ n.text ++ (34 ∷ [])) (b ∷ rest) (Quoted n.text) = quoted_longest n.text (b ∷ rest) all in
      finds_as (34 ∷ n.text ++ 34 ∷ (b ∷ rest)) ((34 ∷ n.text ++ 34 ∷ []) ++ b ∷ rest) (kind.Text n ∷ ks) (ap (λ x. 34 ∷ x) (sym (append_assoc n.text (34 ∷ []) (b ∷ rest))))
      (finds_item (34 ∷ n.text ++ 34 ∷ (b ∷ rest)) (34 ∷ n.text ++ (34 ∷ [])) (b ∷ rest) (Quoted n.text) (kind.Text n) ks longest (λ at. text_token) behind)

  finds_number_of : (z : ℤ) → Fits (kind.Number z) → Finds (bytes_of (kind.Number z) ++ b ∷ rest) (kind.Number z ∷ ks)
  finds_number_of (pos n) fits = finds_number n fits
  finds_number_of (negsuc n) fits = absurd fits

  finds_token : (k : TokenKind) → Fits k → Finds (bytes_of k ++ b ∷ rest) (k ∷ ks)
  finds_token (kind.Word w) fits = finds_run (written w) (kind.Word w) (keyword_run w) (λ at. run_token (keyword_run w).short keyword)
  finds_token (kind.Named n) fits =
      let r : IsRun n.text = record { first = fits.first; rest = fits.rest; split = fits.split; letter = fits.letter; all = fits.all; short = fits.short } in
      finds_run n.text (kind.Named n) r (λ at. run_token fits.short (name fits.other))
  finds_token (kind.Number z) fits = finds_number_of z fits
  finds_token (kind.Text n) fits = finds_quoted n fits
  finds_token (kind.Mark m) fits = finds_item (spelled m ++ b ∷ rest) (spelled m) (b ∷ rest) (Sign m) (kind.Mark m) ks (mark_longest m b rest h) (λ at. mark_token) behind
  finds_token kind.End fits = absurd fits

-- ---- the canonical text

finds_indented : (before : List TokenKind) (k : TokenKind) (rest : List ℕ) (ks : List TokenKind) → Finds rest ks → Finds (indentation before k ++ rest) ks
finds_indented before k rest ks behind = by (line_begins before)
  where
    by : (line : Bool) → Finds ((if line then blanks (set_in (turn_of k) (depth before)) else []) ++ rest) ks
    by true = finds_blanks (2 * set_in (turn_of k) (depth before)) rest ks behind
    by false = behind

byte_blank : (before : List TokenKind) (k : TokenKind) → IsBlank (byte_behind before k)
byte_blank before k = by (line_ends before k)
  where
    by : (line : Bool) → IsBlank (if line then 10 else 32)
    by true = inr (inr (inr refl))
    by false = inl refl

pub finds_laid : (before ks : List TokenKind) → AllFit ks → Finds (laid before ks) (ks ++ kind.End ∷ [])
finds_laid before [] fit = finds_end
finds_laid before (k ∷ []) fit =
    let behind : Finds (10 ∷ []) (kind.End ∷ []) = finds_blank 10 [] (kind.End ∷ []) (inr (inr (inr refl))) finds_end in
    let one : Finds (bytes_of k ++ 10 ∷ []) (k ∷ kind.End ∷ []) = finds_token 10 [] (kind.End ∷ []) (inr (inr (inr refl))) behind k fit.0 in
    finds_as (indentation before k ++ (bytes_of k ++ 10 ∷ [])) (laid before (k ∷ [])) (k ∷ kind.End ∷ []) (sym (append_assoc (indentation before k) (bytes_of k) (10 ∷ [])))
    (finds_indented before k (bytes_of k ++ 10 ∷ []) (k ∷ kind.End ∷ []) one)
finds_laid before (k ∷ next ∷ more) fit =
    let others : List TokenKind = next ∷ (more ++ kind.End ∷ []) in
    let rest : List ℕ = laid (k ∷ before) (next ∷ more) in
    let b : ℕ = byte_behind before k in
    let behind : Finds (b ∷ rest) others = finds_blank b rest others (byte_blank before k) (finds_laid (k ∷ before) (next ∷ more) fit.1) in
    let one : Finds (bytes_of k ++ b ∷ rest) (k ∷ others) = finds_token b rest others (byte_blank before k) behind k fit.0 in
    finds_as (indentation before k ++ (bytes_of k ++ b ∷ rest)) (laid before (k ∷ next ∷ more)) (k ∷ others) (sym (append_assoc (indentation before k) (bytes_of k) (b ∷ rest)))
    (finds_indented before k (bytes_of k ++ b ∷ rest) (k ∷ others) one)
