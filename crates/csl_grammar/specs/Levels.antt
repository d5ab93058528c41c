-- The level of each token of a list, which bounds how deeply a text nests.
use Rattle.std.specs.Prelude.{◌≡◌, ℕ, ◌+◌, ◌≤◌, ◌<◌, List, [], ◌∷◌, ◌++◌}
use Rattle.csl_tree.specs.declared.token.Token.{Token}
use Rattle.csl_tree.specs.declared.token.TokenKind.{TokenKind}
use Rattle.csl_tree.specs.declared.token.TokenKind.TheVariants as kind
use Rattle.csl_tree.specs.declared.token.Keyword.{Keyword}
use Rattle.csl_tree.specs.declared.token.Keyword.TheVariants as word
use Rattle.csl_tree.specs.declared.token.Mark.{Mark}
use Rattle.csl_tree.specs.declared.token.Mark.TheVariants as mark

-- a level, and the levels at which brackets were opened and are still open, the last one first
pub record Nesting : Type 0 where
  pub level : ℕ
  pub opened : List ℕ

-- what a token does to the level
pub data Turn : Type 0 where
  -- a bracket opens: the level is pushed, and rises by one
  Opens : Turn
  -- a bracket of any kind closes: the level is the popped one
  Closes : Turn
  -- something ends between the same brackets: the level is the pushed one and one more
  Parts : Turn
  -- an operator: the level rises by one
  Rises : Turn
  -- the level stays
  Stays : Turn

-- what a mark does to the level
abbrev pub turn_of_mark : Mark → Turn
turn_of_mark mark.OpenParen = Opens
turn_of_mark mark.OpenBracket = Opens
turn_of_mark mark.OpenBrace = Opens
turn_of_mark mark.CloseParen = Closes
turn_of_mark mark.CloseBracket = Closes
turn_of_mark mark.CloseBrace = Closes
turn_of_mark mark.Semicolon = Parts
turn_of_mark mark.Comma = Parts
turn_of_mark mark.Plus = Rises
turn_of_mark mark.Minus = Rises
turn_of_mark mark.Star = Rises
turn_of_mark mark.Slash = Rises
turn_of_mark mark.Percent = Rises
turn_of_mark mark.Bang = Rises
turn_of_mark mark.Equal = Rises
turn_of_mark mark.NotEqual = Rises
turn_of_mark mark.Less = Rises
turn_of_mark mark.LessEqual = Rises
turn_of_mark mark.Greater = Rises
turn_of_mark mark.GreaterEqual = Rises
turn_of_mark mark.AndAnd = Rises
turn_of_mark mark.OrOr = Rises
turn_of_mark mark.Assign = Stays
turn_of_mark mark.AddAssign = Stays

-- what a keyword does to the level
abbrev pub turn_of_word : Keyword → Turn
turn_of_word word.Parbegin = Opens
turn_of_word word.Parend = Closes
turn_of_word _ = Stays

-- what a token does to the level
abbrev pub turn_of : TokenKind → Turn
turn_of (kind.Word w) = turn_of_word w
turn_of (kind.Mark m) = turn_of_mark m
turn_of (kind.Named name) = Stays
turn_of (kind.Number n) = Stays
turn_of (kind.Text text) = Stays
turn_of kind.End = Stays

-- after a closing bracket: with no bracket open nothing changes
abbrev pub closed : Nesting → List ℕ → Nesting
closed nesting [] = nesting
closed nesting (level ∷ opened) = record { level = level; opened = opened }

-- the level between the brackets that are open: 0 where none is, else the pushed one and one more
abbrev pub between : List ℕ → ℕ
between [] = 0
between (level ∷ opened) = level + 1

-- the nesting behind a token that does this
abbrev pub turned : Turn → Nesting → Nesting
turned Opens nesting = record { level = nesting.level + 1; opened = nesting.level ∷ nesting.opened }
turned Closes nesting = closed nesting nesting.opened
turned Parts nesting = record { level = between nesting.opened; opened = nesting.opened }
turned Rises nesting = record { level = nesting.level + 1; opened = nesting.opened }
turned Stays nesting = nesting

-- the nesting behind a token; the level of a token is the level behind it
abbrev pub behind : Token → Nesting → Nesting
behind token nesting = turned (turn_of token.kind) nesting

-- the nesting before the first token
abbrev pub outermost : Nesting
outermost = record { level = 0; opened = [] }

-- the highest level of a token
abbrev pub most_levels : ℕ
most_levels = 64

-- no token has a level above 64, from this nesting on
abbrev pub IsFlatFrom : Nesting → List Token → Type 0
IsFlatFrom nesting [] = Unit {0}
IsFlatFrom nesting (token ∷ tokens) = ((behind token nesting).level ≤ most_levels) × IsFlatFrom (behind token nesting) tokens

-- no token of the list has a level above 64
abbrev pub IsFlat : List Token → Type 0
IsFlat tokens = IsFlatFrom outermost tokens

-- the nesting behind some tokens
abbrev pub behind_all : List Token → Nesting → Nesting
behind_all [] nesting = nesting
behind_all (token ∷ tokens) nesting = behind_all tokens (behind token nesting)

-- at that place stands the first token whose level is above 64
pub record IsTooDeep (tokens : List Token) (at : ℕ) : Type 0 where
  pub before : List Token
  pub token : Token
  pub after : List Token
  pub split : tokens ≡ before ++ token ∷ after
  pub stands : token.at ≡ at
  pub flat : IsFlat before
  pub deep : most_levels < (behind token (behind_all before outermost)).level
