-- Which statements hold statements, told by the first token.
use Rattle.std.specs.Prelude.{Option, Some, None}
use Rattle.csl_tree.specs.declared.token.TokenKind.{TokenKind}
use Rattle.csl_tree.specs.declared.token.TokenKind.TheVariants as kind
use Rattle.csl_tree.specs.declared.token.Keyword.{Keyword}
use Rattle.csl_tree.specs.declared.token.Keyword.TheVariants as word
use Rattle.statement_parser.specs.declared.leaf.Holding.{Holding}
use Rattle.statement_parser.specs.declared.leaf.Holding.TheVariants as holding

-- the keyword of a form
abbrev pub holding_word : Holding → Keyword
holding_word holding.If = word.If
holding_word holding.While = word.While
holding_word holding.For = word.For
holding_word holding.Parallel = word.Parbegin

-- the form that a keyword begins
abbrev pub held_by : Keyword → Option Holding
held_by word.If = Some holding.If
held_by word.While = Some holding.While
held_by word.For = Some holding.For
held_by word.Parbegin = Some holding.Parallel
held_by _ = None

-- the form that a token begins
abbrev pub holding_of : TokenKind → Option Holding
holding_of (kind.Word w) = held_by w
holding_of (kind.Named n) = None
holding_of (kind.Number n) = None
holding_of (kind.Text t) = None
holding_of (kind.Mark m) = None
holding_of kind.End = None
