-- The tokens of a text: read by longest match from the left, with blanks and comments dropped, or the first fault.
use Rattle.std.specs.Prelude.{◌≡◌, ◌≢◌, ◌≤◌, ◌<◌, ◌+◌, ◌*◌, ◌-◌, ◌^◌, ◌⊎◌, ℕ, pos, List, [], ◌∷◌, ◌++◌, length, fold, Result, Ok, Err}
use Rattle.std.specs.Prelude.{codes}
use Rattle.std.specs.List.{AllByRecursion}
use Rattle.csl_tree.specs.declared.token.Token.{Token}
use Rattle.csl_tree.specs.declared.token.TokenKind.{TokenKind}
use Rattle.csl_tree.specs.declared.token.TokenKind.TheVariants as kind
use Rattle.csl_tree.specs.declared.token.Keyword.{Keyword}
use Rattle.csl_tree.specs.declared.token.Keyword.TheVariants as word
use Rattle.csl_tree.specs.declared.token.Mark.{Mark}
use Rattle.csl_tree.specs.declared.token.Mark.TheVariants as mark
use Rattle.csl_lexer.specs.declared.LexError.{LexError}
use Rattle.csl_lexer.specs.declared.LexError.TheVariants as fault
use Rattle.cal_terms.specs.declared.limits.TheConstants.{MOST_TEXT}

-- space, tab, CR or LF
abbrev pub IsBlank : ℕ → Type 0
IsBlank b = (b ≡ 32) ⊎ (b ≡ 9) ⊎ (b ≡ 13) ⊎ (b ≡ 10)

-- a decimal digit
abbrev pub IsDigit : ℕ → Type 0
IsDigit b = (48 ≤ b) × (b ≤ 57)

-- an ASCII letter or `_`
abbrev pub IsLetter : ℕ → Type 0
IsLetter b = ((65 ≤ b) × (b ≤ 90)) ⊎ ((97 ≤ b) × (b ≤ 122)) ⊎ (b ≡ 95)

-- a byte that may go on in a name: an ASCII letter, a digit or `_`
abbrev pub IsNameByte : ℕ → Type 0
IsNameByte b = IsLetter b ⊎ IsDigit b

-- a byte that a line comment may hold: any but LF
abbrev pub IsInLine : ℕ → Type 0
IsInLine b = b ≢ 10

-- a byte that a text may hold: any but `"` and LF
abbrev pub IsInText : ℕ → Type 0
IsInText b = (b ≢ 34) × (b ≢ 10)

-- `*/` stands nowhere in the bytes
abbrev pub NeverCloses : List ℕ → Type 0
NeverCloses bytes = (before after : List ℕ) → bytes ≡ before ++ (42 ∷ 47 ∷ after) → ⊥

-- the number that decimal digits write
abbrev pub value_of : List ℕ → ℕ
value_of digits = fold (λ n b. 10 * n + (b - 48)) 0 digits

-- how each mark is written
abbrev pub spelled : Mark → List ℕ
spelled mark.OpenBrace = codes "{"
spelled mark.CloseBrace = codes "}"
spelled mark.OpenParen = codes "("
spelled mark.CloseParen = codes ")"
spelled mark.OpenBracket = codes "["
spelled mark.CloseBracket = codes "]"
spelled mark.Comma = codes ","
spelled mark.Semicolon = codes ";"
spelled mark.Assign = codes "="
spelled mark.AddAssign = codes "+="
spelled mark.Plus = codes "+"
spelled mark.Minus = codes "-"
spelled mark.Star = codes "*"
spelled mark.Slash = codes "/"
spelled mark.Percent = codes "%"
spelled mark.Bang = codes "!"
spelled mark.Equal = codes "=="
spelled mark.NotEqual = codes "!="
spelled mark.Less = codes "<"
spelled mark.LessEqual = codes "<="
spelled mark.Greater = codes ">"
spelled mark.GreaterEqual = codes ">="
spelled mark.AndAnd = codes "&&"
spelled mark.OrOr = codes "||"

-- how each keyword is written; `least` and `greatest` are reserved
abbrev pub written : Keyword → List ℕ
written word.Shared = codes "shared"
written word.Int = codes "int"
written word.Bool = codes "bool"
written word.Void = codes "void"
written word.Tally = codes "tally"
written word.Main = codes "main"
written word.Routine = codes "routine"
written word.Parbegin = codes "parbegin"
written word.Parend = codes "parend"
written word.If = codes "if"
written word.Else = codes "else"
written word.While = codes "while"
written word.For = codes "for"
written word.Break = codes "break"
written word.Continue = codes "continue"
written word.Return = codes "return"
written word.Assert = codes "assert"
written word.Print = codes "print"
written word.True = codes "true"
written word.False = codes "false"
written word.Least = codes "least"
written word.Greatest = codes "greatest"

-- what a text is made of: blanks and comments (gaps), runs of letters and digits, numbers, texts, and marks
pub data Item : Type 0 where
  Gap : Item
  Run : List ℕ → Item
  Digits : ℕ → Item
  Quoted : List ℕ → Item
  Sign : Mark → Item

-- which bytes, taken by themselves, are an item: one case for each kind
pub data IsItem : List ℕ → Item → Type 0 where
  -- a blank
  blank : {b : ℕ} → IsBlank b → IsItem (b ∷ []) Gap
  -- `//` and what follows in the line
  line : {bytes : List ℕ} → AllByRecursion IsInLine bytes → IsItem (47 ∷ 47 ∷ bytes) Gap
  -- `/*`, and the first `*/` behind it
  block : (bytes : List ℕ) → NeverCloses (bytes ++ 42 ∷ []) → IsItem (47 ∷ 42 ∷ bytes ++ (42 ∷ 47 ∷ [])) Gap
  -- a letter, then letters and digits
  run : {b : ℕ} {bytes : List ℕ} → IsLetter b → AllByRecursion IsNameByte bytes → IsItem (b ∷ bytes) (Run (b ∷ bytes))
  -- one or more digits
  digits : {b : ℕ} {bytes : List ℕ} → IsDigit b → AllByRecursion IsDigit bytes → IsItem (b ∷ bytes) (Digits (value_of (b ∷ bytes)))
  -- `"`, the bytes of the text, `"`
  quoted : (bytes : List ℕ) → AllByRecursion IsInText bytes → IsItem (34 ∷ bytes ++ (34 ∷ [])) (Quoted bytes)
  -- a mark
  sign : (m : Mark) → IsItem (spelled m) (Sign m)

-- `/*` with no `*/` behind it
pub record OpensComment (bytes : List ℕ) : Type 0 where
  pub body : List ℕ
  pub split : bytes ≡ 47 ∷ 42 ∷ body
  pub never : NeverCloses body

-- `"`, and then LF or the end before another `"`
pub record OpensText (bytes : List ℕ) : Type 0 where
  pub inner : List ℕ
  pub rest : List ℕ
  pub split : bytes ≡ 34 ∷ inner ++ rest
  pub good : AllByRecursion IsInText inner
  pub stops : (rest ≡ []) ⊎ ((more : List ℕ) × (rest ≡ 10 ∷ more))

-- the longest item at the front of the bytes, and what is behind it; an open comment is none
pub record Longest (bytes piece rest : List ℕ) (item : Item) : Type 0 where
  pub split : bytes ≡ piece ++ rest
  pub is_item : IsItem piece item
  pub longest : (other behind : List ℕ) (kind : Item) → bytes ≡ other ++ behind → IsItem other kind → length other ≤ length piece
  pub closed : OpensComment bytes → ⊥

-- the keyword or the name that a run of letters and digits at a place is
pub data IsWord : ℕ → List ℕ → TokenKind → Type 0 where
  keyword : {at : ℕ} {w : Keyword} → IsWord at (written w) (kind.Word w)
  name : {at : ℕ} {bytes : List ℕ} → ((w : Keyword) → bytes ≡ written w → ⊥)
      → IsWord at bytes (kind.Named (record { text = bytes; at = at }))

-- the token that an item at a place is: a name or keyword has at most 64 bytes, a number is at most 9223372036854775807
pub data IsToken : ℕ → Item → TokenKind → Type 0 where
  run_token : {at : ℕ} {bytes : List ℕ} {k : TokenKind} → length bytes ≤ 64 → IsWord at bytes k → IsToken at (Run bytes) k
  number_token : {at n : ℕ} → n < 2 ^ 63 → IsToken at (Digits n) (kind.Number (pos n))
  text_token : {at : ℕ} {bytes : List ℕ} → IsToken at (Quoted bytes) (kind.Text (record { text = bytes; at = at }))
  mark_token : {at : ℕ} {m : Mark} → IsToken at (Sign m) (kind.Mark m)

-- the fault at the front of the bytes, which stand at a place
pub data IsFault : ℕ → List ℕ → LexError → Type 0 where
  -- the byte begins no token, blank or comment
  bad_byte : {at b : ℕ} {bytes : List ℕ} → ((piece behind : List ℕ) (item : Item) → b ∷ bytes ≡ piece ++ behind → IsItem piece item → ⊥)
      → (OpensText (b ∷ bytes) → ⊥) → IsFault at (b ∷ bytes) (fault.BadByte at)
  -- a run of letters and digits has more than 64 bytes
  long_name : {at : ℕ} {bytes piece rest : List ℕ} → Longest bytes piece rest (Run piece) → 64 < length piece
      → IsFault at bytes (fault.LongName at)
  -- a number is above 9223372036854775807
  long_number : {at n : ℕ} {bytes piece rest : List ℕ} → Longest bytes piece rest (Digits n) → 2 ^ 63 ≤ n
      → IsFault at bytes (fault.LongNumber at)
  -- `/*` has no `*/` behind it
  open_comment : {at : ℕ} {bytes : List ℕ} → OpensComment bytes → IsFault at bytes (fault.OpenComment at)
  -- LF or the end comes before the closing `"`
  open_text : {at : ℕ} {bytes : List ℕ} → OpensText bytes → IsFault at bytes (fault.OpenText at)

-- a token and the rest of the tokens, or the fault in the rest
abbrev pub before : List Token → Result (List Token) LexError → Result (List Token) LexError
before tokens (Ok more) = Ok (tokens ++ more)
before tokens (Err e) = Err e

-- the bytes from a place on are read, item by item, as these tokens, or up to this fault
pub data Reads : ℕ → List ℕ → Result (List Token) LexError → Type 0 where
  -- nothing is left: the end, at the text's length
  at_end : {at : ℕ} → Reads at [] (Ok (record { at = at; kind = kind.End } ∷ []))
  -- a blank or a comment is dropped
  gap : {at : ℕ} {bytes piece rest : List ℕ} {outcome : Result (List Token) LexError} →
      Longest bytes piece rest Gap → Reads (at + length piece) rest outcome → Reads at bytes outcome
  -- a token, and then the rest
  token : {at : ℕ} {bytes piece rest : List ℕ} {item : Item} {k : TokenKind} {outcome : Result (List Token) LexError} →
      Longest bytes piece rest item → IsToken at item k → Reads (at + length piece) rest outcome →
      Reads at bytes (before (record { at = at; kind = k } ∷ []) outcome)
  -- a fault ends the reading
  fault_here : {at : ℕ} {bytes : List ℕ} {e : LexError} → IsFault at bytes e → Reads at bytes (Err e)

-- the token list of a text
abbrev pub IsTokenList : List ℕ → List Token → Type 0
IsTokenList text tokens = Reads 0 text (Ok tokens)

-- the first fault of a text
abbrev pub IsFirstFault : List ℕ → LexError → Type 0
IsFirstFault text e = Reads 0 text (Err e)

-- the tokens are the token list of some text of at most 1,048,576 bytes
pub record SomeText (tokens : List Token) : Type 0 where
  pub text : List ℕ
  pub short : length text ≤ MOST_TEXT
  pub reads : IsTokenList text tokens
