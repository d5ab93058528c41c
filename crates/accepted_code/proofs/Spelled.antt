-- What the grammar gives of a tree: its expressions nest no deeper than the levels of its tokens, and its numbers have 64 bits.
use Rattle.std.specs.Prelude.{ℕ, ◌+◌, ◌≤◌, List, [], ◌∷◌, Option, Some, None, length}
use Rattle.csl_tree.specs.declared.program.Node.{Node, Number, Truth, Read, CallOf, Unary', Binary', Paren', Row_of-Expr, end_of-Expr, more_of-Expr}
use Rattle.csl_tree.specs.declared.program.Expr.{Expr}
use Rattle.csl_tree.specs.declared.program.Place.{Place, Place', None', Some'}
use Rattle.csl_tree.specs.declared.program.Call.{Call, Call'}
use Rattle.csl_tree.specs.declared.program.Item.{Item}
use Rattle.csl_tree.specs.declared.program.Item.TheVariants as item
use Rattle.csl_tree.specs.declared.program.Arm.{Arm'}
use Rattle.csl_tree.specs.declared.program.RoutineBlock.{RoutineBlock, RoutineBlock'}
use Rattle.csl_tree.specs.declared.program.Form.{Form, Declare, Set, AddTo, If', While', For', Break, Continue, Return, Assert, Block', Print, Par', Row_of-Arm, end_of-Arm, more_of-Arm, Row_of-Stmt}
use Rattle.csl_tree.specs.declared.program.Form.{end_of-Stmt, more_of-Stmt, Held-Form-If-1, Row_of-RoutineBlock, end_of-RoutineBlock, more_of-RoutineBlock}
use Rattle.csl_tree.specs.declared.program.Form as form
use Rattle.csl_grammar.specs.Levels.{most_levels}
use Rattle.csl_meaning.specs.Effect.{blocks_in}
use Rattle.bytecode.specs.Spelling.{FitsZig}

abbrev mutual
  -- an expression that begins at this level
  pub ValueSpelled : ℕ → Node → Type 0
  ValueSpelled level (Number z) = (level ≤ most_levels) × FitsZig z
  ValueSpelled level (Truth b) = level ≤ most_levels
  ValueSpelled level (Read place) = PlaceSpelled level place
  ValueSpelled level (CallOf call) = CallSpelled level call
  ValueSpelled level (Unary' op shape a) = BoxedSpelled (level + 1) a
  ValueSpelled level (Binary' op shape a shape' b) = BoxedSpelled level a × BoxedSpelled (level + 1) b
  ValueSpelled level (Paren' shape a) = BoxedSpelled (level + 1) a

  pub PlaceSpelled : ℕ → Place → Type 0
  PlaceSpelled level (Place' name None') = level ≤ most_levels
  PlaceSpelled level (Place' name (Some' shape i)) = BoxedSpelled (level + 1) i

  pub CallSpelled : ℕ → Call → Type 0
  CallSpelled level (Call' name shape args) = (level ≤ most_levels) × ValuesSpelled (level + 1) args

  -- no box is empty
  pub BoxedSpelled : {n : _} → ℕ → Row_of-Expr n → Type 0
  BoxedSpelled level end_of-Expr = ⊥
  BoxedSpelled level (more_of-Expr at node rest) = ValueSpelled level node

  pub ValuesSpelled : {n : _} → ℕ → Row_of-Expr n → Type 0
  ValuesSpelled level end_of-Expr = Unit {0}
  ValuesSpelled level (more_of-Expr at node rest) = ValueSpelled level node × ValuesSpelled level rest

-- an expression of a statement
abbrev pub ExprSpelled : Expr → Type 0
ExprSpelled e = ValueSpelled 0 e.node

abbrev pub ReturnSpelled : Option Expr → Type 0
ReturnSpelled None = Unit {0}
ReturnSpelled (Some e) = ExprSpelled e

abbrev pub ItemsSpelled : List Item → Type 0
ItemsSpelled [] = Unit {0}
ItemsSpelled (item.Text text ∷ rest) = ItemsSpelled rest
ItemsSpelled (item.Value e ∷ rest) = ExprSpelled e × ItemsSpelled rest

abbrev mutual
  -- a statement; a step has at least one routine block
  pub FormSpelled : Form → Type 0
  FormSpelled (Declare ty name e) = ExprSpelled e
  FormSpelled (Set place e) = PlaceSpelled 0 place × ExprSpelled e
  FormSpelled (AddTo place e) = PlaceSpelled 0 place × ExprSpelled e
  FormSpelled (If' shape arms last) = ArmsSpelled arms × LastSpelled last
  FormSpelled (While' test shape body) = ExprSpelled test × RowSpelled body
  FormSpelled (For' shape first test shape' next shape'' body) = RowSpelled first × ExprSpelled test × RowSpelled next × RowSpelled body
  FormSpelled Break = Unit {0}
  FormSpelled Continue = Unit {0}
  FormSpelled (Return given) = ReturnSpelled given
  FormSpelled (form.CallOf call) = CallSpelled 0 call
  FormSpelled (Assert e) = ExprSpelled e
  FormSpelled (Block' shape body) = RowSpelled body
  FormSpelled (Print items) = ItemsSpelled items
  FormSpelled (Par' shape blocks) = (1 ≤ length (blocks_in blocks)) × BlocksSpelled blocks

  pub RowSpelled : {n : _} → Row_of-Stmt n → Type 0
  RowSpelled end_of-Stmt = Unit {0}
  RowSpelled (more_of-Stmt at form rest) = FormSpelled form × RowSpelled rest

  pub ArmsSpelled : {n : _} → Row_of-Arm n → Type 0
  ArmsSpelled end_of-Arm = Unit {0}
  ArmsSpelled (more_of-Arm (Arm' test shape body) rest) = ExprSpelled test × RowSpelled body × ArmsSpelled rest

  pub LastSpelled : Held-Form-If-1 → Type 0
  LastSpelled form.None' = Unit {0}
  LastSpelled (form.Some' shape body) = RowSpelled body

  pub BlocksSpelled : {n : _} → Row_of-RoutineBlock n → Type 0
  BlocksSpelled end_of-RoutineBlock = Unit {0}
  BlocksSpelled (more_of-RoutineBlock (RoutineBlock' at width width_name id_name shape body) rest) = ExprSpelled width × RowSpelled body × BlocksSpelled rest

-- a routine block of some step
abbrev pub RoutineSpelled : RoutineBlock → Type 0
RoutineSpelled (RoutineBlock' at width width_name id_name shape body) = RowSpelled body
