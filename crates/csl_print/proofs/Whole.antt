-- A text that grew token by token is the text of the tokens.
use Rattle.std.proofs.Common.{◌≡◌, ℕ, Bool, true, false, if◌then◌else◌, List, [], ◌∷◌, ◌++◌, refl, ap, ◌∙◌, append_assoc, drop}
use Rattle.csl_tree.specs.declared.token.TokenKind.{TokenKind}
use Rattle.csl_tree.specs.declared.token.TokenKind.TheVariants as kind
use Rattle.csl_tree.specs.declared.token.Keyword.TheVariants as keyword
use Rattle.csl_tree.specs.declared.program.Program.{Program}
use Rattle.csl_print.specs.declared.turn.Gap.{Gap}
use Rattle.csl_print.specs.declared.turn.Gap.TheVariants as gap
use Rattle.csl_print.specs.TreeTokens.{tokens_of}
use Rattle.csl_print.specs.Canonical.{bytes_of, turn_of, set_in, depth, open_parens, line_ends, byte_behind, line_begins, blanks, indentation, laid, canonical}
use Rattle.csl_print.specs.Layout.{Laid, gap_bytes, gap_behind, put, adds, adds_all, nothing}

-- what comes before the next token
gap_of : List TokenKind → Gap
gap_of [] = gap.Start
gap_of (k ∷ earlier) = gap_behind (turn_of k) (open_parens earlier)

-- the byte of a gap
gap_byte : Gap → List ℕ
gap_byte gap.Start = []
gap_byte gap.Blank = 32 ∷ []
gap_byte gap.Line = 10 ∷ []

-- what is laid out behind these tokens
behind : List ℕ → List TokenKind → Laid
behind text before = record { text = text; depth = depth before; parens = open_parens before; gap = gap_of before }

-- what is written before a token is the byte of the gap and the indentation
gap_split : (before : List TokenKind) (steps : ℕ) → gap_bytes (gap_of before) steps ≡ gap_byte (gap_of before) ++ (if line_begins before then blanks steps else [])
unfolding gap_of gap_byte
gap_split [] steps = refl
gap_split (k ∷ earlier) steps = by (line_ends earlier k)
  where
    by : (b : Bool) → gap_bytes (if b then gap.Line else gap.Blank) steps ≡ gap_byte (if b then gap.Line else gap.Blank) ++ (if b then blanks steps else [])
    by true = refl
    by false = refl

-- the byte of the gap behind a token
gap_behind_is : (before : List TokenKind) (k : TokenKind) → gap_byte (gap_of (k ∷ before)) ≡ byte_behind before k ∷ []
unfolding gap_of gap_byte
gap_behind_is before k = by (line_ends before k)
  where
    by : (b : Bool) → gap_byte (if b then gap.Line else gap.Blank) ≡ (if b then 10 else 32) ∷ []
    by true = refl
    by false = refl

-- the text behind one more token
grown : List ℕ → List TokenKind → TokenKind → List ℕ
grown text before k = text ++ gap_bytes (gap_of before) (set_in (turn_of k) (depth before)) ++ bytes_of k

one_more : (text : List ℕ) (before : List TokenKind) (k : TokenKind) → adds (behind text before) k ≡ behind (grown text before k) (k ∷ before)
unfolding adds put behind grown gap_of
one_more text before k = refl

grown_is : (text : List ℕ) (before : List TokenKind) (k : TokenKind) (more : List ℕ) → grown text before k ++ more ≡ text ++ gap_byte (gap_of before) ++ (indentation before k ++ bytes_of k ++ more)
unfolding grown
grown_is text before k more =
    ap (λ g. text ++ g ++ bytes_of k ++ more) (gap_split before (set_in (turn_of k) (depth before)))
    ∙ simp append_assoc

laid_from : (text : List ℕ) (before : List TokenKind) (k : TokenKind) (more : List TokenKind)
    → (adds_all (behind text before) (k ∷ more)).text ++ 10 ∷ [] ≡ text ++ gap_byte (gap_of before) ++ laid before (k ∷ more)
unfolding behind
laid_from text before k [] = ap (λ (l : Laid). l.text ++ 10 ∷ []) (one_more text before k) ∙ grown_is text before k (10 ∷ [])
laid_from text before k (next ∷ more) =
    ap (λ (l : Laid). (adds_all l (next ∷ more)).text ++ 10 ∷ []) (one_more text before k)
    ∙ laid_from (grown text before k) (k ∷ before) next more
    ∙ append_assoc (grown text before k) (gap_byte (gap_of (k ∷ before))) (laid (k ∷ before) (next ∷ more))
    ∙ ap (λ g. grown text before k ++ (g ++ laid (k ∷ before) (next ∷ more))) (gap_behind_is before k)
    ∙ grown_is text before k (byte_behind before k ∷ laid (k ∷ before) (next ∷ more))

pub laid_all : (k : TokenKind) (more : List TokenKind) → (adds_all nothing (k ∷ more)).text ++ 10 ∷ [] ≡ laid [] (k ∷ more)
unfolding behind gap_of gap_byte
laid_all k more = laid_from [] [] k more

pub canonical_is : (p : Program) → (adds_all nothing (tokens_of p)).text ++ 10 ∷ [] ≡ canonical p
unfolding canonical tokens_of
canonical_is p = laid_all (kind.Word keyword.Shared) (drop 1 (tokens_of p))
