-- Which tokens may stand behind an expression.
use Rattle.std.specs.Prelude.{◌≡◌, ◌≢◌, ◌≤◌, ℕ, List, [], ◌∷◌, Option, Some, None}
use Rattle.csl_tree.specs.declared.token.Token.{Token}
use Rattle.csl_tree.specs.declared.token.TokenKind.{TokenKind}
use Rattle.csl_tree.specs.declared.token.TokenKind.TheVariants as kind
use Rattle.csl_tree.specs.declared.token.Mark.{Mark}
use Rattle.csl_tree.specs.declared.token.Mark.TheVariants as mark
use Rattle.csl_tree.specs.declared.program.BinaryOp.{BinaryOp}
use Rattle.csl_tree.specs.declared.program.BinaryOp.TheVariants as binary_op
use Rattle.csl_grammar.specs.Expressions.{level_of, mark_of}

-- the last token is the end, and no other is
abbrev pub IsEnded : List Token → Type 0
IsEnded [] = ⊥
IsEnded (token ∷ []) = token.kind ≡ kind.End
IsEnded (token ∷ next ∷ more) = (token.kind ≢ kind.End) × IsEnded (next ∷ more)

-- the tokens do not begin with a token of that kind
abbrev pub BeginsOtherThan : TokenKind → List Token → Type 0
BeginsOtherThan k [] = Unit {0}
BeginsOtherThan k (token ∷ more) = token.kind ≢ k

-- an expression of the level cannot go on with these tokens: no bracket and no operator of the level comes first
pub record Stops (level : ℕ) (rest : List Token) : Type 0 where
  pub no_index : BeginsOtherThan (kind.Mark mark.OpenBracket) rest
  pub no_call : BeginsOtherThan (kind.Mark mark.OpenParen) rest
  pub no_operator : (op : BinaryOp) → level_of op ≤ level → BeginsOtherThan (kind.Mark (mark_of op)) rest

-- the operator between operands that a mark is
abbrev pub operator_of : Mark → Option BinaryOp
operator_of mark.OpenBrace = None
operator_of mark.CloseBrace = None
operator_of mark.OpenParen = None
operator_of mark.CloseParen = None
operator_of mark.OpenBracket = None
operator_of mark.CloseBracket = None
operator_of mark.Comma = None
operator_of mark.Semicolon = None
operator_of mark.Assign = None
operator_of mark.AddAssign = None
operator_of mark.Plus = Some binary_op.Add
operator_of mark.Minus = Some binary_op.Sub
operator_of mark.Star = Some binary_op.Mul
operator_of mark.Slash = Some binary_op.Div
operator_of mark.Percent = Some binary_op.Rem
operator_of mark.Bang = None
operator_of mark.Equal = Some binary_op.Eq
operator_of mark.NotEqual = Some binary_op.Ne
operator_of mark.Less = Some binary_op.Lt
operator_of mark.LessEqual = Some binary_op.Le
operator_of mark.Greater = Some binary_op.Gt
operator_of mark.GreaterEqual = Some binary_op.Ge
operator_of mark.AndAnd = Some binary_op.And
operator_of mark.OrOr = Some binary_op.Or
