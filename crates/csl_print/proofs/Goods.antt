-- What the reader gives as tokens.
use Rattle.std.proofs.Common.{◌≡◌, ◌≢◌, ℕ, List, [], ◌∷◌, ◌++◌, Result, Ok, Err, length, refl, sym, subst}
use Rattle.std.specs.List.{AllByRecursion}
use Rattle.csl_tree.specs.declared.token.Token.{Token}
use Rattle.csl_tree.specs.declared.token.TokenKind.{TokenKind}
use Rattle.csl_tree.specs.declared.token.TokenKind.TheVariants as kind
use Rattle.csl_lexer.specs.declared.LexError.{LexError}
use Rattle.csl_lexer.specs.Tokens.{IsLetter, IsNameByte, IsInText, Item, Run, Quoted, IsItem, blank, line, block, run, digits, quoted, sign, keyword, name, IsToken, run_token, number_token}
use Rattle.csl_lexer.specs.Tokens.{text_token, mark_token, Reads, at_end, gap, token, fault_here, IsTokenList}
use Rattle.csl_lexer.specs.Laws.{EndsAt}
use Rattle.csl_grammar.specs.Stops.{IsEnded}
use Rattle.csl_lexer.proofs.Shape.{lists_end}
use Rattle.csl_print.proofs.Leads.{kinds}
use Rattle.csl_print.proofs.Reduces.{IsNameText, GoodNumber, GoodKind, AllGood}

-- the shape of a run, and of a text
record RunShape (bytes : List ℕ) : Type 0 where
  first : ℕ
  rest : List ℕ
  split : bytes ≡ first ∷ rest
  letter : IsLetter first
  all : AllByRecursion IsNameByte rest

run_shape : {piece : List ℕ} {item : Item} → IsItem piece item → (bytes : List ℕ) → item ≡ Run bytes → RunShape bytes
run_shape (blank w) bytes e = absurd (cc)
run_shape (line w) bytes e = absurd (cc)
run_shape (block xs w) bytes e = absurd (cc)
run_shape (run {b = b} {bytes = rest} l all) bytes e = let same : b ∷ rest ≡ bytes = cc in record { first = b; rest = rest; split = sym same; letter = l; all = all }
run_shape (digits l all) bytes e = absurd (cc)
run_shape (quoted xs all) bytes e = absurd (cc)
run_shape (sign m) bytes e = absurd (cc)

text_shape : {piece : List ℕ} {item : Item} → IsItem piece item → (bytes : List ℕ) → item ≡ Quoted bytes → AllByRecursion IsInText bytes
text_shape (blank w) bytes e = absurd (cc)
text_shape (line w) bytes e = absurd (cc)
text_shape (block xs w) bytes e = absurd (cc)
text_shape (run l all) bytes e = absurd (cc)
text_shape (digits l all) bytes e = absurd (cc)
text_shape (quoted xs all) bytes e = let same : xs ≡ bytes = cc in let P : List ℕ → Type 0 = λ x. AllByRecursion IsInText x in subst P same all
text_shape (sign m) bytes e = absurd (cc)

good_token : {at : ℕ} {piece : List ℕ} {item : Item} {k : TokenKind} → IsItem piece item → IsToken at item k → GoodKind at k
good_token is (run_token short keyword) = tt
good_token is (run_token {bytes = bytes} short (name other)) =
    let shape : RunShape bytes = run_shape is bytes refl in
    (refl, record { first = shape.first; rest = shape.rest; split = shape.split; letter = shape.letter; all = shape.all; short = short; other = other })
good_token is (number_token h) = h
good_token is (text_token {bytes = bytes}) = (refl, text_shape is bytes refl)
good_token is mark_token = tt

reads_good : {at : ℕ} {bytes : List ℕ} {o : Result (List Token) LexError} → Reads at bytes o → (tokens : List Token) → o ≡ Ok tokens → AllGood tokens
reads_good (at_end {at = at}) tokens e =
    let last : Token = record { at = at; kind = kind.End } in
    let same : last ∷ [] ≡ tokens = cc in
    subst AllGood same (tt, tt)
reads_good (gap l d) tokens e = reads_good d tokens e
reads_good (token {at = at} {k = k} {outcome = Ok more} l is d) tokens e =
    let first : Token = record { at = at; kind = k } in
    let same : first ∷ more ≡ tokens = cc in
    subst AllGood same (good_token l.is_item is, reads_good d more refl)
reads_good (token {outcome = Err x} l is d) tokens e = absurd (cc)
reads_good (fault_here f) tokens e = absurd (cc)

pub list_good : (text : List ℕ) (tokens : List Token) → IsTokenList text tokens → AllGood tokens
list_good text tokens read = reads_good read tokens refl

ended : (place : ℕ) (tokens : List Token) → EndsAt place tokens → IsEnded tokens
ended place [] h = h
ended place (t ∷ []) h = h.0
ended place (t ∷ next ∷ more) h = (h.0, ended place (next ∷ more) h.1)

pub list_ended : (text : List ℕ) (tokens : List Token) → IsTokenList text tokens → IsEnded tokens
list_ended text tokens read = ended (length text) tokens (lists_end text tokens read)

-- ---- what can be written so that the reader finds it

abbrev pub Fits : TokenKind → Type 0
Fits (kind.Word w) = Unit {0}
Fits (kind.Named n) = IsNameText n.text
Fits (kind.Number z) = GoodNumber z
Fits (kind.Text n) = AllByRecursion IsInText n.text
Fits (kind.Mark m) = Unit {0}
Fits kind.End = ⊥

abbrev pub AllFit : List TokenKind → Type 0
AllFit [] = Unit {0}
AllFit (k ∷ ks) = Fits k × AllFit ks

good_fits : (at : ℕ) (k : TokenKind) → GoodKind at k → k ≢ kind.End → Fits k
good_fits at (kind.Word w) h other = tt
good_fits at (kind.Named n) h other = h.1
good_fits at (kind.Number z) h other = h
good_fits at (kind.Text n) h other = h.1
good_fits at (kind.Mark m) h other = tt
good_fits at kind.End h other = other refl

-- all tokens but the end
pub all_fit : (ks : List TokenKind) (ts : List Token) → kinds ts ≡ ks ++ kind.End ∷ [] → AllGood ts → IsEnded ts → AllFit ks
all_fit [] ts e good ends = tt
all_fit (k ∷ ks) [] e good ends = absurd (cc)
all_fit (k ∷ []) (t ∷ []) e good ends = absurd (cc)
all_fit (k ∷ k' ∷ ks) (t ∷ []) e good ends = absurd (cc)
all_fit (k ∷ ks) (t ∷ next ∷ ts) e good ends =
    let first : t.kind ≡ k = cc in
    let others : kinds (next ∷ ts) ≡ ks ++ kind.End ∷ [] = cc in
    (subst Fits first (good_fits t.at t.kind good.0 ends.0), all_fit ks (next ∷ ts) others good.1 ends.1)
