-- How tokens spell an expression: one case for each rule of the grammar.
-- Each relation goes from a token list to the part of it that is left behind the tree.
use Rattle.std.specs.Prelude.{◌≡◌, ℕ, suc, ℤ, Bool, true, false, List, [], ◌∷◌, Option, Some, None}
use Rattle.csl_tree.specs.declared.name.Name.{Name}
use Rattle.csl_tree.specs.declared.token.Token.{Token}
use Rattle.csl_tree.specs.declared.token.TokenKind.TheVariants as kind
use Rattle.csl_tree.specs.declared.token.Keyword.{Keyword}
use Rattle.csl_tree.specs.declared.token.Keyword.TheVariants as word
use Rattle.csl_tree.specs.declared.token.Mark.{Mark}
use Rattle.csl_tree.specs.declared.token.Mark.TheVariants as mark
use Rattle.csl_tree.specs.declared.program.UnaryOp.{UnaryOp}
use Rattle.csl_tree.specs.declared.program.UnaryOp.TheVariants as unary_op
use Rattle.csl_tree.specs.declared.program.BinaryOp.{BinaryOp}
use Rattle.csl_tree.specs.declared.program.BinaryOp.TheVariants as binary_op
use Rattle.csl_tree.specs.declared.program.Expr.{Expr, roll-Expr, out-Expr}
use Rattle.csl_tree.specs.declared.program.Node.{Node}
use Rattle.csl_tree.specs.declared.program.Node.TheVariants as node
use Rattle.csl_tree.specs.declared.program.Place.{Place, roll-Place}
use Rattle.csl_tree.specs.declared.program.Call.{Call, roll-Call}

-- the rule whose chains an operator makes: 1 for product, 2 for sum, and so on to 6 for expr
abbrev pub level_of : BinaryOp → ℕ
level_of binary_op.Mul = 1
level_of binary_op.Div = 1
level_of binary_op.Rem = 1
level_of binary_op.Add = 2
level_of binary_op.Sub = 2
level_of binary_op.Lt = 3
level_of binary_op.Le = 3
level_of binary_op.Gt = 3
level_of binary_op.Ge = 3
level_of binary_op.Eq = 4
level_of binary_op.Ne = 4
level_of binary_op.And = 5
level_of binary_op.Or = 6

-- the mark of an operator between two operands
abbrev pub mark_of : BinaryOp → Mark
mark_of binary_op.Mul = mark.Star
mark_of binary_op.Div = mark.Slash
mark_of binary_op.Rem = mark.Percent
mark_of binary_op.Add = mark.Plus
mark_of binary_op.Sub = mark.Minus
mark_of binary_op.Lt = mark.Less
mark_of binary_op.Le = mark.LessEqual
mark_of binary_op.Gt = mark.Greater
mark_of binary_op.Ge = mark.GreaterEqual
mark_of binary_op.Eq = mark.Equal
mark_of binary_op.Ne = mark.NotEqual
mark_of binary_op.And = mark.AndAnd
mark_of binary_op.Or = mark.OrOr

-- the mark of an operator before its operand
abbrev pub prefix_mark : UnaryOp → Mark
prefix_mark unary_op.Neg = mark.Minus
prefix_mark unary_op.Not = mark.Bang

-- the word of a truth value
abbrev pub truth_word : Bool → Keyword
truth_word true = word.True
truth_word false = word.False

-- an expression that begins at a place in the text
abbrev pub expr : ℕ → Node → Expr
expr at node = roll-Expr (record { at = at; node = node })

-- where an expression begins
abbrev pub start_of : Expr → ℕ
start_of e = (out-Expr e).at

-- two operands and the operator between them
abbrev pub binary : BinaryOp → Expr → Expr → Expr
binary op left right = expr (start_of left) (node.Binary op left right)

-- a name, and its index if it has one
abbrev pub place : Name → Option Expr → Place
place name index = roll-Place (record { name = name; index = index })

-- a name, and the arguments that it is called with
abbrev pub call : Name → List Expr → Call
call name args = roll-Call (record { name = name; args = args })

-- the level of `expr`, whose chains are of `||`
abbrev pub whole : ℕ
whole = 6

mutual
  -- Level 0 is `unary`, and each level above it a chain of operands of the level below.
  pub data SpellsExpr : ℕ → List Token → List Token → Expr → Type 0 where
    -- operand {operator operand}
    chain : {level : ℕ} {tokens middle rest : List Token} {first e : Expr} →
        SpellsExpr level tokens middle first →
        SpellsChain level first middle rest e →
        SpellsExpr (suc level) tokens rest e
    -- ("-"|"!") unary
    prefixed : {op : UnaryOp} {sign : Token} {tokens rest : List Token} {e : Expr} →
        sign.kind ≡ kind.Mark (prefix_mark op) →
        SpellsExpr 0 tokens rest e →
        SpellsExpr 0 (sign ∷ tokens) rest (expr sign.at (node.Unary op e))
    -- NUMBER
    number : {token : Token} {rest : List Token} {n : ℤ} →
        token.kind ≡ kind.Number n →
        SpellsExpr 0 (token ∷ rest) rest (expr token.at (node.Number n))
    -- "true" | "false"
    truth : {token : Token} {rest : List Token} {b : Bool} →
        token.kind ≡ kind.Word (truth_word b) →
        SpellsExpr 0 (token ∷ rest) rest (expr token.at (node.Truth b))
    -- NAME
    named : {token : Token} {rest : List Token} {name : Name} →
        token.kind ≡ kind.Named name →
        SpellsExpr 0 (token ∷ rest) rest (expr token.at (node.Read (place name None)))
    -- NAME "[" expr "]"
    indexed : {token opening closing : Token} {tokens rest : List Token} {name : Name} {index : Expr} →
        token.kind ≡ kind.Named name →
        opening.kind ≡ kind.Mark mark.OpenBracket →
        SpellsExpr whole tokens (closing ∷ rest) index →
        closing.kind ≡ kind.Mark mark.CloseBracket →
        SpellsExpr 0 (token ∷ opening ∷ tokens) rest (expr token.at (node.Read (place name (Some index))))
    -- NAME "(" [expr {"," expr}] ")"
    called : {token opening closing : Token} {tokens rest : List Token} {name : Name} {args : List Expr} →
        token.kind ≡ kind.Named name →
        opening.kind ≡ kind.Mark mark.OpenParen →
        SpellsArguments tokens (closing ∷ rest) args →
        closing.kind ≡ kind.Mark mark.CloseParen →
        SpellsExpr 0 (token ∷ opening ∷ tokens) rest (expr token.at (node.CallOf (call name args)))
    -- "(" expr ")"
    paren : {opening closing : Token} {tokens rest : List Token} {e : Expr} →
        opening.kind ≡ kind.Mark mark.OpenParen →
        SpellsExpr whole tokens (closing ∷ rest) e →
        closing.kind ≡ kind.Mark mark.CloseParen →
        SpellsExpr 0 (opening ∷ tokens) rest (expr opening.at (node.Paren e))

  -- {operator operand}, which groups to the left: what was read becomes the left operand
  pub data SpellsChain : ℕ → Expr → List Token → List Token → Expr → Type 0 where
    ends : {level : ℕ} {rest : List Token} {e : Expr} →
        SpellsChain level e rest rest e
    goes_on : {level : ℕ} {op : BinaryOp} {sign : Token} {tokens middle rest : List Token} {left right e : Expr} →
        level_of op ≡ suc level →
        sign.kind ≡ kind.Mark (mark_of op) →
        SpellsExpr level tokens middle right →
        SpellsChain level (binary op left right) middle rest e →
        SpellsChain level left (sign ∷ tokens) rest e

  -- [expr {"," expr}]
  pub data SpellsArguments : List Token → List Token → List Expr → Type 0 where
    nothing : {rest : List Token} → SpellsArguments rest rest []
    something : {tokens middle rest : List Token} {e : Expr} {es : List Expr} →
        SpellsExpr whole tokens middle e →
        SpellsMore middle rest es →
        SpellsArguments tokens rest (e ∷ es)

  -- {"," expr}
  pub data SpellsMore : List Token → List Token → List Expr → Type 0 where
    no_more : {rest : List Token} → SpellsMore rest rest []
    more : {comma : Token} {tokens middle rest : List Token} {e : Expr} {es : List Expr} →
        comma.kind ≡ kind.Mark mark.Comma →
        SpellsExpr whole tokens middle e →
        SpellsMore middle rest es →
        SpellsMore (comma ∷ tokens) rest (e ∷ es)
