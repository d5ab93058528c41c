-- The canonical text of a program: its tokens in order, and the rule for the byte behind each of them.
use Rattle.std.specs.Prelude.{ℕ, ◌+◌, ◌-◌, ◌*◌, Bool, true, false, ◌&&◌, nat_eq, if◌then◌else◌, List, [], ◌∷◌, ◌++◌, replicate}
use Rattle.std.specs.Fmt.{signed_decimal}
use Rattle.csl_tree.specs.declared.token.TokenKind.{TokenKind}
use Rattle.csl_tree.specs.declared.token.TokenKind.TheVariants as kind
use Rattle.csl_tree.specs.declared.token.Keyword.{Keyword}
use Rattle.csl_tree.specs.declared.token.Keyword.TheVariants as keyword
use Rattle.csl_tree.specs.declared.token.Mark.{Mark}
use Rattle.csl_tree.specs.declared.token.Mark.TheVariants as mark
use Rattle.csl_tree.specs.declared.program.Program.{Program}
use Rattle.csl_lexer.specs.Tokens.{spelled, written}
use Rattle.csl_print.specs.declared.turn.Turn.{Turn}
use Rattle.csl_print.specs.declared.turn.Turn.TheVariants as turn
use Rattle.csl_print.specs.TreeTokens.{tokens_of}

-- how a token is written: a number in decimal with no leading zeros, a text between quotes
abbrev pub bytes_of : TokenKind → List ℕ
bytes_of (kind.Word w) = written w
bytes_of (kind.Mark m) = spelled m
bytes_of (kind.Named name) = name.text
bytes_of (kind.Number z) = signed_decimal z
bytes_of (kind.Text text) = 34 ∷ text.text ++ 34 ∷ []
bytes_of kind.End = []

-- what a mark does to the lines
abbrev pub turn_of_mark : Mark → Turn
turn_of_mark mark.OpenBrace = turn.Opens
turn_of_mark mark.CloseBrace = turn.Closes
turn_of_mark mark.Semicolon = turn.Ends
turn_of_mark mark.OpenParen = turn.OpensParen
turn_of_mark mark.CloseParen = turn.ClosesParen
turn_of_mark _ = turn.Stays

-- what a keyword does to the lines
abbrev pub turn_of_word : Keyword → Turn
turn_of_word keyword.Parbegin = turn.Opens
turn_of_word keyword.Parend = turn.Leaves
turn_of_word _ = turn.Stays

-- what a token does to the lines
abbrev pub turn_of : TokenKind → Turn
turn_of (kind.Word w) = turn_of_word w
turn_of (kind.Mark m) = turn_of_mark m
turn_of (kind.Named name) = turn.Stays
turn_of (kind.Number z) = turn.Stays
turn_of (kind.Text text) = turn.Stays
turn_of kind.End = turn.Stays

-- how many `{` and `parbegin` are open behind a token, where so many are open before it
abbrev pub nested : Turn → ℕ → ℕ
nested turn.Opens n = n + 1
nested turn.Closes n = n - 1
nested turn.Leaves n = n - 1
nested _ n = n

-- how many `(` are open behind a token, where so many are open before it
abbrev pub enclosed : Turn → ℕ → ℕ
enclosed turn.OpensParen n = n + 1
enclosed turn.ClosesParen n = n - 1
enclosed _ n = n

-- how far a line is set in that such a token begins: one step fewer for `}` and `parend`
abbrev pub set_in : Turn → ℕ → ℕ
set_in turn.Closes n = n - 1
set_in turn.Leaves n = n - 1
set_in _ n = n

-- `{`, `}`, `;` and `parbegin`
abbrev pub ends_line : Turn → Bool
ends_line turn.Opens = true
ends_line turn.Closes = true
ends_line turn.Ends = true
ends_line _ = false

-- In what follows `before` are the tokens before a token, the nearest first.

-- how many `{` and `parbegin` are open behind these tokens
abbrev pub depth : List TokenKind → ℕ
depth [] = 0
depth (k ∷ earlier) = nested (turn_of k) (depth earlier)

-- how many `(` are open behind these tokens
abbrev pub open_parens : List TokenKind → ℕ
open_parens [] = 0
open_parens (k ∷ earlier) = enclosed (turn_of k) (open_parens earlier)

-- a line ends behind `{`, `}`, `;` and `parbegin` where no `(` is open
abbrev pub line_ends : List TokenKind → TokenKind → Bool
line_ends before k = ends_line (turn_of k) && nat_eq (open_parens before) 0

-- the byte behind a token: LF where the line ends, else a blank
abbrev pub byte_behind : List TokenKind → TokenKind → ℕ
byte_behind before k = if line_ends before k then 10 else 32

-- a line begins before the first token and where one has ended
abbrev pub line_begins : List TokenKind → Bool
line_begins [] = true
line_begins (k ∷ earlier) = line_ends earlier k

-- two blanks for each step that a line is set in
abbrev pub blanks : ℕ → List ℕ
blanks steps = replicate (2 * steps) 32

-- the blanks at the beginning of a line
abbrev pub indentation : List TokenKind → TokenKind → List ℕ
indentation before k = if line_begins before then blanks (set_in (turn_of k) (depth before)) else []

-- the text of tokens: each with the byte behind it, and LF behind the last
abbrev pub laid : List TokenKind → List TokenKind → List ℕ
laid before [] = []
laid before (k ∷ []) = indentation before k ++ bytes_of k ++ 10 ∷ []
laid before (k ∷ next ∷ more) = indentation before k ++ bytes_of k ++ byte_behind before k ∷ laid (k ∷ before) (next ∷ more)

-- the canonical text of a program
unfoldable pub canonical : Program → List ℕ
canonical p = laid [] (tokens_of p)
