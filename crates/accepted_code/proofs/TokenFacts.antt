-- The tokens of a text: no more than its bytes and one for the end, numbers of 63 bits, and texts of bytes that are no longer than the whole.
use Rattle.std.proofs.Common.{◌≡◌, ◌≤◌, ◌<◌, ◌+◌, ◌^◌, ℕ, ℤ, pos, negsuc, List, [], ◌∷◌, Result, Ok, Err, length, refl, ap, subst, arith, length-append}
use Rattle.std.specs.List.{AllByRecursion}
use Rattle.csl_tree.specs.declared.token.Token.{Token}
use Rattle.csl_tree.specs.declared.token.TokenKind.{TokenKind}
use Rattle.csl_tree.specs.declared.token.TokenKind.TheVariants as kind
use Rattle.csl_lexer.specs.declared.LexError.{LexError}
use Rattle.csl_lexer.specs.Tokens.{Item, IsItem, quoted, Longest, keyword, name, IsToken, run_token, number_token, text_token, mark_token, Reads, at_end, gap, token, fault_here, IsTokenList}
use Rattle.csl_lexer.proofs.Items.{item_some}
use Rattle.csl_grammar.specs.Texts.{AreBytes}
use Rattle.accepted_code.proofs.Lists.{all_in_first, all_in_second}

-- a number that some digits write, of 63 bits at most
abbrev pub NumberFits : ℤ → Type 0
NumberFits (pos n) = n < 2 ^ 63
NumberFits (negsuc n) = ⊥

-- a text of at most this many bytes
abbrev pub TextFits : ℕ → List ℕ → Type 0
TextFits limit text = (length text ≤ limit) × AreBytes text

-- a number of 63 bits, a text of at most this many bytes, or anything else
abbrev pub KindFits : ℕ → TokenKind → Type 0
KindFits limit (kind.Number n) = NumberFits n
KindFits limit (kind.Text t) = TextFits limit t.text
KindFits limit _ = Unit {0}

abbrev pub TokenFits : ℕ → Token → Type 0
TokenFits limit t = KindFits limit t.kind

-- the token that an item is fits where the item is of bytes and no longer than the limit
kind_fits : {at : ℕ} {piece : List ℕ} {item : Item} {k : TokenKind} (limit : ℕ) → IsToken at item k → IsItem piece item → TextFits limit piece → KindFits limit k
kind_fits limit (run_token s keyword) i h = tt
kind_fits limit (run_token s (name other)) i h = tt
kind_fits limit (number_token small) i h = small
kind_fits limit text_token (quoted bytes all) h = (omega (arith, h.0, length-append bytes (34 ∷ [])), all_in_first (λ (b : ℕ). b < 256) bytes (34 ∷ []) h.1.1)
kind_fits limit mark_token i h = tt

-- how many bytes a piece and the rest have
parts : {bytes piece rest : List ℕ} {item : Item} → Longest bytes piece rest item → length piece + length rest ≡ length bytes
parts {piece = piece} {rest = rest} l = omega (arith, ap (λ (x : List ℕ). length x) l.split, length-append piece rest)

-- of a text that fits, a piece and the rest fit
piece_fits : {bytes piece rest : List ℕ} {item : Item} (limit : ℕ) → Longest bytes piece rest item → TextFits limit bytes → TextFits limit piece
piece_fits {piece = piece} {rest = rest} limit l h = (omega (arith, h.0, parts l), all_in_first (λ (b : ℕ). b < 256) piece rest (subst AreBytes l.split h.1))

rest_fits : {bytes piece rest : List ℕ} {item : Item} (limit : ℕ) → Longest bytes piece rest item → TextFits limit bytes → TextFits limit rest
rest_fits {piece = piece} {rest = rest} limit l h = (omega (arith, h.0, parts l), all_in_second (λ (b : ℕ). b < 256) piece rest (subst AreBytes l.split h.1))

all_fit : {at : ℕ} {bytes : List ℕ} {o : Result (List Token) LexError} (limit : ℕ) → Reads at bytes o → TextFits limit bytes → (tokens : List Token) → o ≡ Ok tokens
    → AllByRecursion (TokenFits limit) tokens
all_fit {at = at} limit at_end h tokens e =
    let last : Token = record { at = at; kind = kind.End } in
    let same : last ∷ [] ≡ tokens = cc in
    subst (λ (x : List Token). AllByRecursion (TokenFits limit) x) same (tt, tt)
all_fit limit (gap l d) h tokens e = all_fit limit d (rest_fits limit l h) tokens e
all_fit {at = at} limit (token {k = k} {outcome = Ok more} l is d) h tokens e =
    let first : Token = record { at = at; kind = k } in
    let same : first ∷ more ≡ tokens = cc in
    subst (λ (x : List Token). AllByRecursion (TokenFits limit) x) same
    (kind_fits limit is l.is_item (piece_fits limit l h), all_fit limit d (rest_fits limit l h) more refl)
all_fit limit (token {outcome = Err x} l is d) h tokens e = absurd (cc)
all_fit limit (fault_here f) h tokens e = absurd (cc)

count : {at : ℕ} {bytes : List ℕ} {o : Result (List Token) LexError} → Reads at bytes o → (tokens : List Token) → o ≡ Ok tokens → length tokens ≤ length bytes + 1
count {at = at} at_end tokens e =
    let last : Token = record { at = at; kind = kind.End } in
    let same : last ∷ [] ≡ tokens = cc in
    subst (λ (x : List Token). length x ≤ 0 + 1) same (omega arith)
count (gap l d) tokens e = omega (arith, count d tokens e, parts l)
count {at = at} {bytes = bytes} (token {k = k} {outcome = Ok more} l is d) tokens e =
    let first : Token = record { at = at; kind = k } in
    let same : first ∷ more ≡ tokens = cc in
    subst (λ (x : List Token). length x ≤ length bytes + 1) same (omega (arith, count d more refl, parts l, item_some l.is_item))
count (token {outcome = Err x} l is d) tokens e = absurd (cc)
count (fault_here f) tokens e = absurd (cc)

-- each token of a text of bytes fits each limit that the text keeps
pub tokens_fit_within : (limit : ℕ) (text : List ℕ) (tokens : List Token) → IsTokenList text tokens → TextFits limit text → AllByRecursion (TokenFits limit) tokens
tokens_fit_within limit text tokens reads fits = all_fit limit reads fits tokens refl

-- there are no more tokens than bytes, and one for the end
pub few_tokens : (text : List ℕ) (tokens : List Token) → IsTokenList text tokens → length tokens ≤ length text + 1
few_tokens text tokens reads = count reads tokens refl
