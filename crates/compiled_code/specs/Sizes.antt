-- What the code of a part of a program takes: instructions, and for statements the slots of their locals, the texts that they print and the blocks that they open.
use Rattle.std.specs.Prelude.{ℕ, ◌+◌, List, [], ◌∷◌, ◌++◌, Option, Some, None}
use Rattle.csl_tree.specs.declared.program.BinaryOp.{BinaryOp}
use Rattle.csl_tree.specs.declared.program.BinaryOp.TheVariants.{And, Or}
use Rattle.csl_tree.specs.declared.program.Expr.{Expr}
use Rattle.csl_tree.specs.declared.program.Node.{Node, Number, Truth, Read, CallOf, Unary', Binary', Paren', Row_of-Expr, end_of-Expr}
use Rattle.csl_tree.specs.declared.program.Node.{more_of-Expr}
use Rattle.csl_tree.specs.declared.program.Place.{Place, Place', None', Some'}
use Rattle.csl_tree.specs.declared.program.Call.{Call, Call'}
use Rattle.csl_tree.specs.declared.program.Function.{Function}
use Rattle.cal_terms.specs.declared.types.Gives.{Gives}
use Rattle.cal_terms.specs.declared.types.Gives.TheVariants as gives
use Rattle.csl_tree.specs.declared.program.Item.{Item}
use Rattle.csl_tree.specs.declared.program.Item.TheVariants as item
use Rattle.csl_tree.specs.declared.program.Arm.{Arm'}
use Rattle.csl_tree.specs.declared.program.RoutineBlock.{RoutineBlock, RoutineBlock'}
use Rattle.csl_tree.specs.declared.program.Form.{Form, Declare, Set, AddTo, If', While', For', Break, Continue, Return, Assert, Block'}
use Rattle.csl_tree.specs.declared.program.Form.{Print, Par', Row_of-Arm, end_of-Arm, more_of-Arm, Row_of-Stmt, end_of-Stmt, more_of-Stmt}
use Rattle.csl_tree.specs.declared.program.Form.{Held-Form-If-1}
use Rattle.csl_tree.specs.declared.program.Form as form
use Rattle.csl_meaning.specs.Layout.{Text}
use Rattle.csl_meaning.specs.Effect.{blocks_in}
use Rattle.cal_terms.specs.declared.types.Ty.{Ty}
use Rattle.compiled_code.specs.Slots.{kind_of}

-- ---- the instructions of an expression

-- what `&&` and `||` take besides their operands
abbrev pub operator_size : BinaryOp → ℕ
operator_size And = 3
operator_size Or = 3
operator_size _ = 1

abbrev mutual
  -- the number of instructions of an expression
  pub value_size : Node → ℕ
  value_size (Number z) = 1
  value_size (Truth b) = 1
  value_size (Read place) = place_size place + 1
  value_size (CallOf call) = call_size call
  value_size (Unary' op shape a) = boxed_size a + 1
  value_size (Binary' op shape a shape' b) = boxed_size a + boxed_size b + operator_size op
  value_size (Paren' shape a) = boxed_size a

  -- that of an index, where there is one
  pub place_size : Place → ℕ
  place_size (Place' name None') = 0
  place_size (Place' name (Some' shape i)) = boxed_size i

  -- that of a call with its arguments
  pub call_size : Call → ℕ
  call_size (Call' name shape args) = values_size args + 1

  pub boxed_size : {n : _} → Row_of-Expr n → ℕ
  boxed_size end_of-Expr = 0
  boxed_size (more_of-Expr at node rest) = value_size node

  pub values_size : {n : _} → Row_of-Expr n → ℕ
  values_size end_of-Expr = 0
  values_size (more_of-Expr at node rest) = value_size node + values_size rest

-- the number of instructions of an expression at its place
abbrev pub size_of : Expr → ℕ
size_of e = value_size e.node

-- ---- the instructions of the parts of a statement

-- that of a returned value, where there is one
abbrev pub returned_size : Option Expr → ℕ
returned_size None = 0
returned_size (Some e) = size_of e

-- that of the values of a print
abbrev pub items_size : List Item → ℕ
items_size [] = 0
items_size (item.Text text ∷ rest) = items_size rest
items_size (item.Value e ∷ rest) = size_of e + items_size rest

-- that of the widths of a step
abbrev pub widths_size : List RoutineBlock → ℕ
widths_size [] = 0
widths_size (RoutineBlock' at width width_name id_name shape body ∷ rest) = size_of width + widths_size rest

-- a result that is dropped takes one instruction
abbrev pub drop_size : Gives → ℕ
drop_size gives.Nothing = 0
drop_size gives.Int = 1
drop_size gives.Bool = 1

-- what a function gives back; one that is not there gives nothing
abbrev pub given_by : Option Function → Gives
given_by None = gives.Nothing
given_by (Some f) = f.gives

-- ---- the locals of a statement

abbrev mutual
  -- the kinds of the locals that a statement declares, in order; those of routine blocks belong to other bodies
  pub kinds_in : Form → List Ty
  kinds_in (Declare ty name e) = kind_of ty ∷ []
  kinds_in (If' shape arms last) = kinds_in_arms arms ++ kinds_in_last last
  kinds_in (While' test shape body) = kinds_in_row body
  kinds_in (For' shape first test shape' next shape'' body) = kinds_in_row first ++ kinds_in_row body
  kinds_in (Block' shape body) = kinds_in_row body
  kinds_in _ = []

  pub kinds_in_row : {n : _} → Row_of-Stmt n → List Ty
  kinds_in_row end_of-Stmt = []
  kinds_in_row (more_of-Stmt at form rest) = kinds_in form ++ kinds_in_row rest

  pub kinds_in_arms : {n : _} → Row_of-Arm n → List Ty
  kinds_in_arms end_of-Arm = []
  kinds_in_arms (more_of-Arm (Arm' test shape body) rest) = kinds_in_row body ++ kinds_in_arms rest

  pub kinds_in_last : Held-Form-If-1 → List Ty
  kinds_in_last form.None' = []
  kinds_in_last (form.Some' shape body) = kinds_in_row body

-- ---- what main's statements print and open

-- the texts among the items of a print
abbrev pub item_texts : List Item → List Text
item_texts [] = []
item_texts (item.Text text ∷ rest) = text.text ∷ item_texts rest
item_texts (item.Value e ∷ rest) = item_texts rest

abbrev mutual
  -- the texts that a statement prints, in order
  pub texts_in : Form → List Text
  texts_in (Print items) = item_texts items
  texts_in (If' shape arms last) = texts_in_arms arms ++ texts_in_last last
  texts_in (While' test shape body) = texts_in_row body
  texts_in (For' shape first test shape' next shape'' body) = texts_in_row body
  texts_in (Block' shape body) = texts_in_row body
  texts_in _ = []

  pub texts_in_row : {n : _} → Row_of-Stmt n → List Text
  texts_in_row end_of-Stmt = []
  texts_in_row (more_of-Stmt at form rest) = texts_in form ++ texts_in_row rest

  pub texts_in_arms : {n : _} → Row_of-Arm n → List Text
  texts_in_arms end_of-Arm = []
  texts_in_arms (more_of-Arm (Arm' test shape body) rest) = texts_in_row body ++ texts_in_arms rest

  pub texts_in_last : Held-Form-If-1 → List Text
  texts_in_last form.None' = []
  texts_in_last (form.Some' shape body) = texts_in_row body

abbrev mutual
  -- the routine blocks of the steps that a statement opens, in order
  pub steps_in : Form → List RoutineBlock
  steps_in (Par' shape blocks) = blocks_in blocks
  steps_in (If' shape arms last) = steps_in_arms arms ++ steps_in_last last
  steps_in (While' test shape body) = steps_in_row body
  steps_in (For' shape first test shape' next shape'' body) = steps_in_row body
  steps_in (Block' shape body) = steps_in_row body
  steps_in _ = []

  pub steps_in_row : {n : _} → Row_of-Stmt n → List RoutineBlock
  steps_in_row end_of-Stmt = []
  steps_in_row (more_of-Stmt at form rest) = steps_in form ++ steps_in_row rest

  pub steps_in_arms : {n : _} → Row_of-Arm n → List RoutineBlock
  steps_in_arms end_of-Arm = []
  steps_in_arms (more_of-Arm (Arm' test shape body) rest) = steps_in_row body ++ steps_in_arms rest

  pub steps_in_last : Held-Form-If-1 → List RoutineBlock
  steps_in_last form.None' = []
  steps_in_last (form.Some' shape body) = steps_in_row body
