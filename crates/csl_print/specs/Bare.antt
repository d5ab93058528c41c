-- A tree with all its positions 0.
use Rattle.std.specs.Prelude.{List, [], ◌∷◌, Option, Some, None, false, map, option_map}
use Rattle.csl_tree.specs.declared.name.Name.{Name}
use Rattle.csl_tree.specs.declared.program.ArraySize.{ArraySize}
use Rattle.csl_tree.specs.declared.program.Valued.{Valued}
use Rattle.csl_tree.specs.declared.program.Shared.{Shared}
use Rattle.csl_tree.specs.declared.program.Param.{Param}
use Rattle.csl_tree.specs.declared.program.Function.{Function}
use Rattle.csl_tree.specs.declared.program.Program.{Program}
use Rattle.csl_tree.specs.declared.program.Expr.{Expr}
use Rattle.csl_tree.specs.declared.program.Node as tree
use Rattle.csl_tree.specs.declared.program.Node.{Node, Row_of-Expr, end_of-Expr, more_of-Expr}
use Rattle.csl_tree.specs.declared.program.Node.TheVariants as node
use Rattle.csl_tree.specs.declared.program.Place.{Place, Place', None', Some'}
use Rattle.csl_tree.specs.declared.program.Call.{Call, Call'}
use Rattle.csl_tree.specs.declared.program.Item.{Item}
use Rattle.csl_tree.specs.declared.program.Item.TheVariants as item
use Rattle.csl_tree.specs.declared.program.Stmt.{Stmt}
use Rattle.csl_tree.specs.declared.program.Arm.{Arm, Arm'}
use Rattle.csl_tree.specs.declared.program.RoutineBlock.{RoutineBlock, RoutineBlock', roll-RoutineBlock}
use Rattle.csl_tree.specs.declared.program.Form as tree_form
use Rattle.csl_tree.specs.declared.program.Form.{Form, Row_of-Arm, end_of-Arm, more_of-Arm, Row_of-Stmt, end_of-Stmt, more_of-Stmt}
use Rattle.csl_tree.specs.declared.program.Form.{Held-Form-If-1, Row_of-RoutineBlock, end_of-RoutineBlock, more_of-RoutineBlock}
use Rattle.csl_tree.specs.declared.program.Form.TheVariants as form
use Rattle.csl_grammar.specs.Expressions.{expr, place, call}
use Rattle.csl_grammar.specs.Programs.{stmt, arm}

-- a name at position 0
abbrev pub bare_name : Name → Name
bare_name name = record { text = name.text; at = 0 }

-- ---- expressions

abbrev mutual
  -- the same expression, all its positions 0
  pub bare_node : Node → Node
  bare_node (tree.Number z) = node.Number z
  bare_node (tree.Truth b) = node.Truth b
  bare_node (tree.Read p) = node.Read (bare_place p)
  bare_node (tree.CallOf c) = node.CallOf (bare_call c)
  bare_node (tree.Unary' op shape a) = node.Unary op (bare_boxed a)
  bare_node (tree.Binary' op shape a shape' b) = node.Binary op (bare_boxed a) (bare_boxed b)
  bare_node (tree.Paren' shape a) = node.Paren (bare_boxed a)

  -- the same place
  pub bare_place : Place → Place
  bare_place (Place' name None') = place (bare_name name) None
  bare_place (Place' name (Some' shape i)) = place (bare_name name) (Some (bare_boxed i))

  -- the same call
  pub bare_call : Call → Call
  bare_call (Call' name shape args) = call (bare_name name) (bare_row args)

  -- the expression in a box; no box is empty
  pub bare_boxed : {n : _} → Row_of-Expr n → Expr
  bare_boxed end_of-Expr = expr 0 (node.Truth false)
  bare_boxed (more_of-Expr at n rest) = expr 0 (bare_node n)

  -- several expressions
  pub bare_row : {n : _} → Row_of-Expr n → List Expr
  bare_row end_of-Expr = []
  bare_row (more_of-Expr at n rest) = expr 0 (bare_node n) ∷ bare_row rest

-- the same expression, itself at position 0 too
abbrev pub bare_expr : Expr → Expr
bare_expr e = expr 0 (bare_node e.node)

-- an item of a `print`
abbrev pub bare_item : Item → Item
bare_item (item.Text text) = item.Text (bare_name text)
bare_item (item.Value e) = item.Value (bare_expr e)

-- ---- statements

abbrev mutual
  -- the same form of a statement, all its positions 0
  pub bare_form : Form → Form
  bare_form (tree_form.Declare ty name value) = form.Declare ty (bare_name name) (bare_expr value)
  bare_form (tree_form.Set p value) = form.Set (bare_place p) (bare_expr value)
  bare_form (tree_form.AddTo p value) = form.AddTo (bare_place p) (bare_expr value)
  bare_form (tree_form.If' shape arms last) = form.If (bare_arms arms) (bare_last last)
  bare_form (tree_form.While' test shape body) = form.While (bare_expr test) (bare_statements body)
  bare_form (tree_form.For' shape first test shape' next shape'' body) =
      form.For (bare_part first) (bare_expr test) (bare_part next) (bare_statements body)
  bare_form tree_form.Break = form.Break
  bare_form tree_form.Continue = form.Continue
  bare_form (tree_form.Return given) = form.Return (option_map bare_expr given)
  bare_form (tree_form.CallOf c) = form.CallOf (bare_call c)
  bare_form (tree_form.Assert e) = form.Assert (bare_expr e)
  bare_form (tree_form.Block' shape body) = form.Block (bare_statements body)
  bare_form (tree_form.Print items) = form.Print (map bare_item items)
  bare_form (tree_form.Par' shape blocks) = form.Par (bare_routines blocks)

  -- several statements
  pub bare_statements : {n : _} → Row_of-Stmt n → List Stmt
  bare_statements end_of-Stmt = []
  bare_statements (more_of-Stmt at f rest) = stmt 0 (bare_form f) ∷ bare_statements rest

  -- the first or last part of a `for`; there is one
  pub bare_part : {n : _} → Row_of-Stmt n → Stmt
  bare_part end_of-Stmt = stmt 0 form.Break
  bare_part (more_of-Stmt at f rest) = stmt 0 (bare_form f)

  -- the arms of an `if`
  pub bare_arms : {n : _} → Row_of-Arm n → List Arm
  bare_arms end_of-Arm = []
  bare_arms (more_of-Arm (Arm' test shape body) rest) = arm (bare_expr test) (bare_statements body) ∷ bare_arms rest

  -- the last block of an `if`, if it has one
  pub bare_last : Held-Form-If-1 → Option (List Stmt)
  bare_last tree_form.None' = None
  bare_last (tree_form.Some' shape body) = Some (bare_statements body)

  -- the routine blocks of a step
  pub bare_routines : {n : _} → Row_of-RoutineBlock n → List RoutineBlock
  bare_routines end_of-RoutineBlock = []
  bare_routines (more_of-RoutineBlock (RoutineBlock' at width width_name id_name shape body) rest) =
      roll-RoutineBlock (record { at = 0; width = bare_expr width; width_name = bare_name width_name; id_name = bare_name id_name; body = bare_statements body }) ∷ bare_routines rest

-- the same statement, all its positions 0
abbrev pub bare_stmt : Stmt → Stmt
bare_stmt s = stmt 0 (bare_form s.form)

-- ---- programs

-- an initial value
abbrev pub bare_value : Valued → Valued
bare_value v = record { at = 0; number = v.number }

-- the size of an array
abbrev pub bare_size : ArraySize → ArraySize
bare_size size = record { at = 0; number = size.number }

-- a shared declaration
abbrev pub bare_shared : Shared → Shared
bare_shared s = record { name = bare_name s.name; kind = s.kind; size = option_map bare_size s.size; values = map bare_value s.values; listed = s.listed }

-- a parameter of a function
abbrev pub bare_param : Param → Param
bare_param p = record { name = bare_name p.name; ty = p.ty }

-- a function
abbrev pub bare_function : Function → Function
bare_function f = record { name = bare_name f.name; gives = f.gives; params = map bare_param f.params; body = map bare_stmt f.body }

-- the program with all its positions 0
unfoldable pub bare : Program → Program
bare p = record { shared = map bare_shared p.shared; functions = map bare_function p.functions; main = map bare_stmt p.main }
