-- What one step of the reader finds.
use Rattle.std.specs.Prelude.{◌≡◌, ◌≢◌, ◌≤◌, ◌+◌, ℕ, List, [], ◌∷◌, ◌++◌, length, take, drop, Option, Some, None, Result, Ok, Err}
use Rattle.csl_tree.specs.declared.token.TokenKind.{TokenKind}
use Rattle.csl_tree.specs.declared.token.Mark.{Mark}
use Rattle.csl_lexer.specs.declared.scan.ByteClass.{ByteClass}
use Rattle.csl_lexer.specs.declared.scan.ByteClass.TheVariants as class
use Rattle.csl_lexer.specs.declared.LexError.{LexError}
use Rattle.csl_lexer.specs.declared.LexError.TheVariants as fault
use Rattle.csl_lexer.specs.Tokens.{IsDigit, IsNameByte, IsInLine, IsInText, NeverCloses, spelled, Item, Gap, Sign, IsItem, OpensComment}
use Rattle.csl_lexer.specs.Tokens.{OpensText, Longest, IsToken, IsFault}

-- the bytes that may go on in a name, a number, a line comment and a text
abbrev pub IsIn : ByteClass → ℕ → Type 0
IsIn class.InName b = IsNameByte b
IsIn class.InNumber b = IsDigit b
IsIn class.InLine b = IsInLine b
IsIn class.InText b = IsInText b

-- the bytes do not begin with one of the class
abbrev pub BeginsOutside : ByteClass → List ℕ → Type 0
BeginsOutside c [] = Unit {0}
BeginsOutside c (b ∷ bytes) = IsIn c b → ⊥

-- the first `*/` stands behind so many bytes
abbrev pub FirstCloses : List ℕ → ℕ → Type 0
FirstCloses bytes n = (bytes ≡ take n bytes ++ 42 ∷ 47 ∷ drop (n + 2) bytes) × NeverCloses (take n bytes ++ 42 ∷ [])
    × (n + 2 ≤ length bytes)

-- no mark is at the front of the bytes
abbrev pub NoMark : List ℕ → Type 0
NoMark bytes = (m : Mark) (behind : List ℕ) → bytes ≢ spelled m ++ behind

-- the longest mark at the front of the bytes is this one, of so many bytes
pub record LongestMark (bytes : List ℕ) (m : Mark) (n : ℕ) : Type 0 where
  pub size : n ≡ length (spelled m)
  pub split : bytes ≡ spelled m ++ drop n bytes
  pub longest : (other : Mark) (behind : List ℕ) → bytes ≡ spelled other ++ behind → length (spelled other) ≤ n

-- at the front of the bytes stands a mark or nothing
pub record IsOther (bytes : List ℕ) : Type 0 where
  pub sign_only : (piece behind : List ℕ) (item : Item) → bytes ≡ piece ++ behind → IsItem piece item
      → (m : Mark) × (item ≡ Sign m) × (piece ≡ spelled m)
  pub closed : OpensComment bytes → ⊥
  pub no_text : OpensText bytes → ⊥

-- at the front of the bytes stands a blank or a comment, or this token, and takes so many bytes
pub data Takes (at : ℕ) (bytes : List ℕ) : Option TokenKind → ℕ → Type 0 where
  takes_gap : {piece rest : List ℕ} → Longest bytes piece rest Gap → Takes at bytes None (length piece)
  takes_token : {piece rest : List ℕ} {item : Item} {k : TokenKind} → Longest bytes piece rest item → IsToken at item k
      → Takes at bytes (Some k) (length piece)

-- one step finds what stands at the front, or its fault
abbrev pub Steps : ℕ → List ℕ → Result (Option TokenKind × ℕ) LexError → Type 0
Steps at bytes (Ok x) = Takes at bytes x.0 x.1
Steps at bytes (Err e) = e ≢ fault.NoMemory → IsFault at bytes e
