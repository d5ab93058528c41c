-- The tokens of a tree, in order.
use Rattle.std.specs.Prelude.{ℤ, pos, negsuc, suc, Bool, true, false, List, [], ◌∷◌, ◌++◌, Option, Some, None}
use Rattle.cal_terms.specs.declared.kinds.WordKind.{WordKind}
use Rattle.cal_terms.specs.declared.kinds.WordKind.TheVariants as words
use Rattle.csl_tree.specs.declared.name.Name.{Name}
use Rattle.csl_tree.specs.declared.token.TokenKind.{TokenKind}
use Rattle.csl_tree.specs.declared.token.TokenKind.TheVariants as kind
use Rattle.csl_tree.specs.declared.token.Keyword.{Keyword}
use Rattle.csl_tree.specs.declared.token.Keyword.TheVariants as keyword
use Rattle.csl_tree.specs.declared.token.Mark.{Mark}
use Rattle.csl_tree.specs.declared.token.Mark.TheVariants.{OpenBrace, CloseBrace, OpenParen, CloseParen, OpenBracket, CloseBracket, Comma}
use Rattle.csl_tree.specs.declared.token.Mark.TheVariants.{Semicolon, Assign, AddAssign, Minus}
use Rattle.csl_tree.specs.declared.program.ArraySize.{ArraySize}
use Rattle.csl_tree.specs.declared.program.Valued.{Valued}
use Rattle.csl_tree.specs.declared.program.Shared.{Shared}
use Rattle.csl_tree.specs.declared.program.Param.{Param}
use Rattle.csl_tree.specs.declared.program.Function.{Function}
use Rattle.csl_tree.specs.declared.program.Program.{Program}
use Rattle.csl_tree.specs.declared.program.Expr.{Expr}
use Rattle.csl_tree.specs.declared.program.Node as tree
use Rattle.csl_tree.specs.declared.program.Node.{Node, Row_of-Expr, end_of-Expr, more_of-Expr}
use Rattle.csl_tree.specs.declared.program.Place.{Place, Place', None', Some'}
use Rattle.csl_tree.specs.declared.program.Call.{Call, Call'}
use Rattle.csl_tree.specs.declared.program.Item.{Item}
use Rattle.csl_tree.specs.declared.program.Item.TheVariants as item
use Rattle.csl_tree.specs.declared.program.Stmt.{Stmt}
use Rattle.csl_tree.specs.declared.program.Arm.{Arm, Arm', out-Arm}
use Rattle.csl_tree.specs.declared.program.RoutineBlock.{RoutineBlock, RoutineBlock', out-RoutineBlock}
use Rattle.csl_tree.specs.declared.program.Form as form
use Rattle.csl_tree.specs.declared.program.Form.{Form, Row_of-Arm, end_of-Arm, more_of-Arm, Row_of-Stmt, end_of-Stmt, more_of-Stmt}
use Rattle.csl_tree.specs.declared.program.Form.{Held-Form-If-1, Row_of-RoutineBlock, end_of-RoutineBlock, more_of-RoutineBlock}
use Rattle.csl_grammar.specs.Expressions.{mark_of, prefix_mark, truth_word}
use Rattle.csl_grammar.specs.Programs.{type_word, result_word}

-- ---- one token

-- a mark
abbrev pub mark : Mark → List TokenKind
mark m = kind.Mark m ∷ []

-- a keyword
abbrev pub word : Keyword → List TokenKind
word w = kind.Word w ∷ []

-- a name
abbrev pub named : Name → List TokenKind
named name = kind.Named name ∷ []

-- a number
abbrev pub number : ℤ → List TokenKind
number z = kind.Number z ∷ []

-- a text in quotes
abbrev pub quoted : Name → List TokenKind
quoted text = kind.Text text ∷ []

-- ---- lists

-- the tokens of each part in turn
abbrev pub each : {T : Type 0} → (T → List TokenKind) → List T → List TokenKind
each tokens [] = []
each tokens (x ∷ rest) = tokens x ++ each tokens rest

-- the tokens of each further part, the same tokens before each
abbrev pub further : {T : Type 0} → List TokenKind → (T → List TokenKind) → List T → List TokenKind
further between tokens [] = []
further between tokens (x ∷ rest) = between ++ tokens x ++ further between tokens rest

-- the tokens of each part, with the same tokens between
abbrev pub parted : {T : Type 0} → List TokenKind → (T → List TokenKind) → List T → List TokenKind
parted between tokens [] = []
parted between tokens (x ∷ rest) = tokens x ++ further between tokens rest

-- the tokens of each part, with commas between
abbrev pub separated : {T : Type 0} → (T → List TokenKind) → List T → List TokenKind
separated tokens xs = parted (mark Comma) tokens xs

-- tokens in parentheses
abbrev pub in_parens : List TokenKind → List TokenKind
in_parens inner = mark OpenParen ++ inner ++ mark CloseParen

-- tokens in braces
abbrev pub in_braces : List TokenKind → List TokenKind
in_braces inner = mark OpenBrace ++ inner ++ mark CloseBrace

-- ---- expressions

abbrev mutual
  -- an expression: operators stand between their operands or before them, and parentheses where the tree has them
  pub node_tokens : Node → List TokenKind
  node_tokens (tree.Number z) = number z
  node_tokens (tree.Truth b) = word (truth_word b)
  node_tokens (tree.Read place) = place_tokens place
  node_tokens (tree.CallOf call) = call_tokens call
  node_tokens (tree.Unary' op shape a) = mark (prefix_mark op) ++ boxed_tokens a
  node_tokens (tree.Binary' op shape a shape' b) = boxed_tokens a ++ mark (mark_of op) ++ boxed_tokens b
  node_tokens (tree.Paren' shape a) = in_parens (boxed_tokens a)

  -- a name, and the index of an array's element
  pub place_tokens : Place → List TokenKind
  place_tokens (Place' name None') = named name
  place_tokens (Place' name (Some' shape i)) = named name ++ mark OpenBracket ++ boxed_tokens i ++ mark CloseBracket

  -- a name, and the arguments in parentheses
  pub call_tokens : Call → List TokenKind
  call_tokens (Call' name shape args) = named name ++ in_parens (row_tokens args)

  -- the expression in a box; no box is empty
  pub boxed_tokens : {n : _} → Row_of-Expr n → List TokenKind
  boxed_tokens end_of-Expr = []
  boxed_tokens (more_of-Expr at node rest) = node_tokens node

  -- several expressions, with commas between
  pub row_tokens : {n : _} → Row_of-Expr n → List TokenKind
  row_tokens end_of-Expr = []
  row_tokens (more_of-Expr at node rest) = node_tokens node ++ further_tokens rest

  -- further expressions, a comma before each
  pub further_tokens : {n : _} → Row_of-Expr n → List TokenKind
  further_tokens end_of-Expr = []
  further_tokens (more_of-Expr at node rest) = mark Comma ++ node_tokens node ++ further_tokens rest

-- an expression
abbrev pub expr_tokens : Expr → List TokenKind
expr_tokens e = node_tokens e.node

-- an expression, if one stands there
abbrev pub given_tokens : Option Expr → List TokenKind
given_tokens None = []
given_tokens (Some e) = expr_tokens e

-- an item of a `print`
abbrev pub item_tokens : Item → List TokenKind
item_tokens (item.Text text) = quoted text
item_tokens (item.Value e) = expr_tokens e

-- ---- statements

-- an arm of an `if`: its test, and the tokens of its statements
abbrev pub arm_of : Expr → List TokenKind → List TokenKind
arm_of test inner = word keyword.If ++ in_parens (expr_tokens test) ++ in_braces inner

-- the width and the two parameters of a routine block
abbrev pub heading : Expr → Name → Name → List TokenKind
heading width width_name id_name =
    mark OpenBracket ++ expr_tokens width ++ mark CloseBracket
    ++ in_parens (word keyword.Int ++ named width_name ++ mark Comma ++ word keyword.Int ++ named id_name)

-- a routine block, and the tokens of its statements
abbrev pub routine_of : Expr → Name → Name → List TokenKind → List TokenKind
routine_of width width_name id_name inner = word keyword.Routine ++ heading width width_name id_name ++ in_braces inner

-- the semicolon behind a statement, where it does not end with a block
abbrev pub ending : Form → List TokenKind
ending (form.If' shape arms last) = []
ending (form.While' test shape body) = []
ending (form.For' shape first test shape' next shape'' body) = []
ending (form.Block' shape body) = []
ending _ = mark Semicolon

abbrev mutual
  -- a statement but for the semicolon behind it
  pub form_tokens : Form → List TokenKind
  form_tokens (form.Declare ty name value) = word (type_word ty) ++ named name ++ mark Assign ++ expr_tokens value
  form_tokens (form.Set place value) = place_tokens place ++ mark Assign ++ expr_tokens value
  form_tokens (form.AddTo place value) = place_tokens place ++ mark AddAssign ++ expr_tokens value
  form_tokens (form.If' shape arms last) = arms_tokens arms ++ last_tokens last
  form_tokens (form.While' test shape body) =
      word keyword.While ++ in_parens (expr_tokens test) ++ in_braces (statements_tokens body)
  form_tokens (form.For' shape first test shape' next shape'' body) =
      word keyword.For
      ++ in_parens (part_tokens first ++ mark Semicolon ++ expr_tokens test ++ mark Semicolon ++ part_tokens next)
      ++ in_braces (statements_tokens body)
  form_tokens form.Break = word keyword.Break
  form_tokens form.Continue = word keyword.Continue
  form_tokens (form.Return given) = word keyword.Return ++ given_tokens given
  form_tokens (form.CallOf call) = call_tokens call
  form_tokens (form.Assert e) = word keyword.Assert ++ in_parens (expr_tokens e)
  form_tokens (form.Block' shape body) = in_braces (statements_tokens body)
  form_tokens (form.Print items) = word keyword.Print ++ in_parens (separated item_tokens items)
  form_tokens (form.Par' shape blocks) = word keyword.Parbegin ++ routines_tokens blocks ++ word keyword.Parend

  -- statements in turn
  pub statements_tokens : {n : _} → Row_of-Stmt n → List TokenKind
  statements_tokens end_of-Stmt = []
  statements_tokens (more_of-Stmt at form rest) = form_tokens form ++ ending form ++ statements_tokens rest

  -- the first or last part of a `for`, which has no semicolon of its own
  pub part_tokens : {n : _} → Row_of-Stmt n → List TokenKind
  part_tokens end_of-Stmt = []
  part_tokens (more_of-Stmt at form rest) = form_tokens form

  -- the arms of an `if`
  pub arms_tokens : {n : _} → Row_of-Arm n → List TokenKind
  arms_tokens end_of-Arm = []
  arms_tokens (more_of-Arm (Arm' test shape body) rest) =
      arm_of test (statements_tokens body) ++ further_arms_tokens rest

  -- the further arms of an `if`, `else` before each
  pub further_arms_tokens : {n : _} → Row_of-Arm n → List TokenKind
  further_arms_tokens end_of-Arm = []
  further_arms_tokens (more_of-Arm (Arm' test shape body) rest) =
      word keyword.Else ++ arm_of test (statements_tokens body) ++ further_arms_tokens rest

  -- the last block of an `if`, if it has one
  pub last_tokens : Held-Form-If-1 → List TokenKind
  last_tokens form.None' = []
  last_tokens (form.Some' shape body) = word keyword.Else ++ in_braces (statements_tokens body)

  -- the routine blocks of a step
  pub routines_tokens : {n : _} → Row_of-RoutineBlock n → List TokenKind
  routines_tokens end_of-RoutineBlock = []
  routines_tokens (more_of-RoutineBlock (RoutineBlock' at width width_name id_name shape body) rest) =
      routine_of width width_name id_name (statements_tokens body) ++ routines_tokens rest

-- a statement, with the semicolon behind it
abbrev pub statement_tokens : Stmt → List TokenKind
statement_tokens s = form_tokens s.form ++ ending s.form

-- a list of statements in braces
abbrev pub body_tokens : List Stmt → List TokenKind
body_tokens body = in_braces (each statement_tokens body)

-- an arm of an `if`: its test and its statements
abbrev pub arm_tokens : Arm → List TokenKind
arm_tokens a = arm_of (out-Arm a).test (each statement_tokens (out-Arm a).body)

-- a routine block: its width, its two parameters and its statements
abbrev pub routine_tokens : RoutineBlock → List TokenKind
routine_tokens r = routine_of (out-RoutineBlock r).width (out-RoutineBlock r).width_name (out-RoutineBlock r).id_name
    (each statement_tokens (out-RoutineBlock r).body)

-- ---- shared declarations

-- a number with its sign apart
abbrev pub signed_tokens : ℤ → List TokenKind
signed_tokens (pos n) = number (pos n)
signed_tokens (negsuc n) = mark Minus ++ number (pos (suc n))

-- an initial value
abbrev pub value_tokens : Valued → List TokenKind
value_tokens v = signed_tokens v.number

-- the words before the name of a shared declaration
abbrev pub kind_tokens : WordKind → List TokenKind
kind_tokens words.Ordinary = word keyword.Int
kind_tokens words.Tally = word keyword.Tally ++ word keyword.Int

-- the size in brackets, if there is one
abbrev pub size_tokens : Option ArraySize → List TokenKind
size_tokens None = []
size_tokens (Some size) = mark OpenBracket ++ number size.number ++ mark CloseBracket

-- the initial values, if they are listed
abbrev pub initial_tokens : Bool → List Valued → List TokenKind
initial_tokens false values = []
initial_tokens true values = mark Assign ++ in_braces (separated value_tokens values)

-- a shared declaration
abbrev pub shared_tokens : Shared → List TokenKind
shared_tokens s = kind_tokens s.kind ++ named s.name ++ size_tokens s.size ++ initial_tokens s.listed s.values ++ mark Semicolon

-- ---- functions, programs

-- a parameter of a function
abbrev pub param_tokens : Param → List TokenKind
param_tokens p = word (type_word p.ty) ++ named p.name

-- a function
abbrev pub function_tokens : Function → List TokenKind
function_tokens f = word (result_word f.gives) ++ named f.name ++ in_parens (separated param_tokens f.params) ++ body_tokens f.body

-- the tokens of a program, but for the end
unfoldable pub tokens_of : Program → List TokenKind
tokens_of p =
    word keyword.Shared ++ in_braces (each shared_tokens p.shared)
    ++ each function_tokens p.functions
    ++ word keyword.Main ++ body_tokens p.main
