-- What the code of a program asks of its tree. Accepted programs have this shape.
use Rattle.std.specs.Prelude.{◌≡◌, ◌⊎◌, ℕ, suc, List, [], ◌∷◌, length, Option, Some, None}
use Rattle.csl_tree.specs.declared.program.Program.{Program}
use Rattle.csl_tree.specs.declared.program.Function.{Function}
use Rattle.cal_terms.specs.declared.types.Gives.{Gives}
use Rattle.cal_terms.specs.declared.types.Gives.TheVariants as gives
use Rattle.csl_tree.specs.declared.program.Expr.{Expr}
use Rattle.csl_tree.specs.declared.program.Node.{Node, Number, Truth, Read, CallOf, Unary', Binary', Paren', Row_of-Expr, end_of-Expr}
use Rattle.csl_tree.specs.declared.program.Node.{more_of-Expr}
use Rattle.csl_tree.specs.declared.program.Place.{Place, Place', None', Some'}
use Rattle.csl_tree.specs.declared.program.Call.{Call, Call'}
use Rattle.csl_tree.specs.declared.program.Item.{Item}
use Rattle.csl_tree.specs.declared.program.Item.TheVariants as item
use Rattle.csl_tree.specs.declared.program.Arm.{Arm'}
use Rattle.csl_tree.specs.declared.program.RoutineBlock.{RoutineBlock, RoutineBlock'}
use Rattle.csl_tree.specs.declared.program.Form.{Form, Declare, Set, AddTo, If', While', For', Break, Continue, Return, Assert, Block'}
use Rattle.csl_tree.specs.declared.program.Form.{Print, Par', Row_of-Arm, end_of-Arm, more_of-Arm, Row_of-Stmt, end_of-Stmt, more_of-Stmt}
use Rattle.csl_tree.specs.declared.program.Form.{Held-Form-If-1, Row_of-RoutineBlock, end_of-RoutineBlock, more_of-RoutineBlock}
use Rattle.csl_tree.specs.declared.program.Form as form
use Rattle.csl_tree.specs.declared.program.Form.TheVariants as variant
use Rattle.csl_meaning.specs.Layout.{Text}
use Rattle.csl_meaning.specs.Effect.{function_named}
use Rattle.compiled_code.specs.Sizes.{given_by}

-- how many expressions a row has
abbrev pub count : {n : _} → Row_of-Expr n → ℕ
count end_of-Expr = 0
count (more_of-Expr at node rest) = suc (count rest)

-- as many arguments as the function has parameters
abbrev pub HasCount : Option Function → ℕ → Type 0
HasCount None n = Unit {0}
HasCount (Some f) n = n ≡ length f.params

-- it gives a value
abbrev pub HasValue : Gives → Type 0
HasValue gives.Nothing = ⊥
HasValue gives.Int = Unit {0}
HasValue gives.Bool = Unit {0}

-- a declaration or a change
abbrev pub IsSimple : Form → Type 0
IsSimple (Declare ty name e) = Unit {0}
IsSimple (Set place e) = Unit {0}
IsSimple (AddTo place e) = Unit {0}
IsSimple _ = ⊥

-- a change
abbrev pub IsChange : Form → Type 0
IsChange (Set place e) = Unit {0}
IsChange (AddTo place e) = Unit {0}
IsChange _ = ⊥

-- a row of one statement of which this holds
abbrev pub OneOf : {n : _} → (Form → Type 0) → Row_of-Stmt n → Type 0
OneOf P end_of-Stmt = ⊥
OneOf P (more_of-Stmt at form end_of-Stmt) = P form
OneOf P (more_of-Stmt at form (more_of-Stmt at' form' rest)) = ⊥

module _ (p : Program) where
  abbrev mutual
    -- each call in an expression has as many arguments as parameters, and gives the value that is used
    pub ValueIs : Node → Type 0
    ValueIs (Number z) = Unit {0}
    ValueIs (Truth b) = Unit {0}
    ValueIs (Read place) = PlaceIs place
    ValueIs (CallOf (Call' name shape args)) = CallIs (Call' name shape args) × HasValue (given_by (function_named p.functions name.text))
    ValueIs (Unary' op shape a) = BoxedIs a
    ValueIs (Binary' op shape a shape' b) = BoxedIs a × BoxedIs b
    ValueIs (Paren' shape a) = BoxedIs a

    pub PlaceIs : Place → Type 0
    PlaceIs (Place' name None') = Unit {0}
    PlaceIs (Place' name (Some' shape i)) = BoxedIs i

    pub CallIs : Call → Type 0
    CallIs (Call' name shape args) = HasCount (function_named p.functions name.text) (count args) × ValuesAre args

    -- no box is empty
    pub BoxedIs : {n : _} → Row_of-Expr n → Type 0
    BoxedIs end_of-Expr = ⊥
    BoxedIs (more_of-Expr at node rest) = ValueIs node

    pub ValuesAre : {n : _} → Row_of-Expr n → Type 0
    ValuesAre end_of-Expr = Unit {0}
    ValuesAre (more_of-Expr at node rest) = ValueIs node × ValuesAre rest

  abbrev pub ItemsAre : List Item → Type 0
  ItemsAre [] = Unit {0}
  ItemsAre (item.Text text ∷ rest) = ItemsAre rest
  ItemsAre (item.Value e ∷ rest) = ValueIs e.node × ItemsAre rest

  abbrev pub WidthsAre : List RoutineBlock → Type 0
  WidthsAre [] = Unit {0}
  WidthsAre (RoutineBlock' at width width_name id_name shape body ∷ rest) = ValueIs width.node × WidthsAre rest

  abbrev pub ReturnIs : Option Expr → Type 0
  ReturnIs None = Unit {0}
  ReturnIs (Some e) = ValueIs e.node

  abbrev mutual
    -- so it is in a statement, and a `for` has one declaration or change before its test, and one change behind it
    pub FormIs : Form → Type 0
    FormIs (Declare ty name e) = ValueIs e.node
    FormIs (Set place e) = PlaceIs place × ValueIs e.node
    FormIs (AddTo place e) = PlaceIs place × ValueIs e.node
    FormIs (If' shape arms last) = ArmsAre arms × LastIs last
    FormIs (While' test shape body) = ValueIs test.node × RowIs body
    FormIs (For' shape first test shape' next shape'' body) =
        OneOf IsSimple first × RowIs first × ValueIs test.node × OneOf IsChange next × RowIs next × RowIs body
    FormIs Break = Unit {0}
    FormIs Continue = Unit {0}
    FormIs (Return given) = ReturnIs given
    FormIs (form.CallOf call) = CallIs call
    FormIs (Assert e) = ValueIs e.node
    FormIs (Block' shape body) = RowIs body
    FormIs (Print items) = ItemsAre items
    FormIs (Par' shape blocks) = BlocksAre blocks

    pub RowIs : {n : _} → Row_of-Stmt n → Type 0
    RowIs end_of-Stmt = Unit {0}
    RowIs (more_of-Stmt at form rest) = FormIs form × RowIs rest

    pub ArmsAre : {n : _} → Row_of-Arm n → Type 0
    ArmsAre end_of-Arm = Unit {0}
    ArmsAre (more_of-Arm (Arm' test shape body) rest) = ValueIs test.node × RowIs body × ArmsAre rest

    pub LastIs : Held-Form-If-1 → Type 0
    LastIs form.None' = Unit {0}
    LastIs (form.Some' shape body) = RowIs body

    pub BlocksAre : {n : _} → Row_of-RoutineBlock n → Type 0
    BlocksAre end_of-RoutineBlock = Unit {0}
    BlocksAre (more_of-RoutineBlock (RoutineBlock' at width width_name id_name shape body) rest) = ValueIs width.node × RowIs body
        × BlocksAre rest

abbrev mutual
  -- no `break` and no `continue` leads out of the statement
  pub Stays : Form → Type 0
  Stays Break = ⊥
  Stays Continue = ⊥
  Stays (If' shape arms last) = ArmsStay arms × LastStays last
  Stays (Block' shape body) = RowStays body
  Stays _ = Unit {0}

  pub RowStays : {n : _} → Row_of-Stmt n → Type 0
  RowStays end_of-Stmt = Unit {0}
  RowStays (more_of-Stmt at form rest) = Stays form × RowStays rest

  pub ArmsStay : {n : _} → Row_of-Arm n → Type 0
  ArmsStay end_of-Arm = Unit {0}
  ArmsStay (more_of-Arm (Arm' test shape body) rest) = RowStays body × ArmsStay rest

  pub LastStays : Held-Form-If-1 → Type 0
  LastStays form.None' = Unit {0}
  LastStays (form.Some' shape body) = RowStays body

abbrev mutual
  -- the statement never ends normally
  pub Ends : Form → Type 0
  Ends (Return given) = Unit {0}
  Ends (If' shape arms last) = ArmsEnd arms × LastEnds last
  Ends (Block' shape body) = RowEnds body
  Ends _ = ⊥

  pub RowEnds : {n : _} → Row_of-Stmt n → Type 0
  RowEnds end_of-Stmt = ⊥
  RowEnds (more_of-Stmt at form rest) = Ends form ⊎ RowEnds rest

  pub ArmsEnd : {n : _} → Row_of-Arm n → Type 0
  ArmsEnd end_of-Arm = Unit {0}
  ArmsEnd (more_of-Arm (Arm' test shape body) rest) = RowEnds body × ArmsEnd rest

  pub LastEnds : Held-Form-If-1 → Type 0
  LastEnds form.None' = ⊥
  LastEnds (form.Some' shape body) = RowEnds body

-- so it is in a function, and one with a result returns it
pub record FunctionIs (p : Program) (f : Function) : Type 0 where
  pub body : FormIs p (variant.Block f.body)
  pub returns : HasValue f.gives → Stays (variant.Block f.body) × Ends (variant.Block f.body)

-- so it is in a routine block
abbrev pub RoutineIs : Program → RoutineBlock → Type 0
RoutineIs p (RoutineBlock' at width width_name id_name shape body) = RowIs p body

-- so it is in the whole program
pub record HasShape (p : Program) : Type 0 where
  pub functions : (name : Text) (f : Function) → function_named p.functions name ≡ Some f → FunctionIs p f
  pub main : FormIs p (variant.Block p.main)
