-- What a tree needs so that its code keeps the rules: its names are those of locals, words and functions of the right kinds.
use Rattle.std.specs.Prelude.{◌≡◌, ◌+◌, ◌≤◌, List, [], ◌∷◌, Option, Some, None, unwrap_or, length, slice_get}
use Rattle.std.specs.List.{AllByRecursion}
use Rattle.csl_tree.specs.declared.name.Name.{Name}
use Rattle.csl_tree.specs.declared.program.Program.{Program}
use Rattle.csl_tree.specs.declared.program.BinaryOp.{BinaryOp}
use Rattle.csl_tree.specs.declared.program.BinaryOp.TheVariants.{Add, Sub, Mul, Div, Rem, Eq, Ne, Lt, Le, Gt, Ge, And, Or}
use Rattle.csl_tree.specs.declared.program.Expr.{Expr}
use Rattle.csl_tree.specs.declared.program.Node.{Node, Number, Truth, Read, CallOf, Unary', Binary', Paren', Row_of-Expr, end_of-Expr, more_of-Expr}
use Rattle.csl_tree.specs.declared.program.Place.{Place, Place', None', Some'}
use Rattle.csl_tree.specs.declared.program.Call.{Call'}
use Rattle.csl_tree.specs.declared.program.Item.{Item}
use Rattle.csl_tree.specs.declared.program.Item.TheVariants as item
use Rattle.csl_tree.specs.declared.program.Arm.{Arm'}
use Rattle.csl_tree.specs.declared.program.RoutineBlock.{RoutineBlock, RoutineBlock'}
use Rattle.csl_tree.specs.declared.program.Form.{Form, Declare, Set, AddTo, If', While', For', Break, Continue, Return, Assert, Block', Print, Par', Row_of-Arm, end_of-Arm, more_of-Arm, Row_of-Stmt}
use Rattle.csl_tree.specs.declared.program.Form.{end_of-Stmt, more_of-Stmt, Held-Form-If-1}
use Rattle.csl_tree.specs.declared.program.Form as form
use Rattle.csl_meaning.specs.declared.state.Area.{Area}
use Rattle.csl_meaning.specs.Layout.{area_of}
use Rattle.csl_meaning.specs.Value.{declared}
use Rattle.csl_meaning.specs.Effect.{function_named, blocks_in}
use Rattle.bytecode.specs.declared.instr.Instr.{Instr}
use Rattle.bytecode.specs.declared.instr.Instr.TheVariants as i
use Rattle.cal_terms.specs.declared.types.Ty.{Ty}
use Rattle.cal_terms.specs.declared.types.Ty.TheVariants as ty
use Rattle.cal_terms.specs.declared.types.Gives.{Gives}
use Rattle.cal_terms.specs.declared.types.Gives.TheVariants as gives
use Rattle.bytecode.specs.declared.module.Code.{Code}
use Rattle.bytecode.specs.declared.module.Module.{Module}
use Rattle.code_verify.specs.Kinds.{Kinds, below, parameters}
use Rattle.code_verify.specs.Rules.{IsWord, IsArray, HasText, HoldsNoTally}
use Rattle.compiled_code.specs.Slots.{Slot, Slots, slot_of, kind_of}
use Rattle.compiled_code.specs.Sizes.{given_by, size_of}
use Rattle.compiled_code.specs.Places.{slots_after, slots_after_row}
use Rattle.compiled_code.specs.Values.{function_number, unary_kind, kind_in, boxed_kind}
use Rattle.compiled_code.specs.Modules.{gives_of}
use Rattle.compiled_code.specs.Statements.{At, printed_items, past, beyond, beyond_row, beyond_arms}
use Rattle.compiled_code.specs.Shape.{count, HasValue}

-- operands of these kinds fit the operator
abbrev pub OperandsFit : BinaryOp → Ty → Ty → Type 0
OperandsFit Add a b = (a ≡ ty.Int) × (b ≡ ty.Int)
OperandsFit Sub a b = (a ≡ ty.Int) × (b ≡ ty.Int)
OperandsFit Mul a b = (a ≡ ty.Int) × (b ≡ ty.Int)
OperandsFit Div a b = (a ≡ ty.Int) × (b ≡ ty.Int)
OperandsFit Rem a b = (a ≡ ty.Int) × (b ≡ ty.Int)
OperandsFit Lt a b = (a ≡ ty.Int) × (b ≡ ty.Int)
OperandsFit Le a b = (a ≡ ty.Int) × (b ≡ ty.Int)
OperandsFit Gt a b = (a ≡ ty.Int) × (b ≡ ty.Int)
OperandsFit Ge a b = (a ≡ ty.Int) × (b ≡ ty.Int)
OperandsFit Eq a b = a ≡ b
OperandsFit Ne a b = a ≡ b
OperandsFit And a b = (a ≡ ty.Bool) × (b ≡ ty.Bool)
OperandsFit Or a b = (a ≡ ty.Bool) × (b ≡ ty.Bool)

-- the kinds with the values of several expressions on top, the last one uppermost
abbrev pub pushed : {n : _} → Program → Slots → Row_of-Expr n → Kinds → Kinds
pushed p slots end_of-Expr ks = ks
pushed p slots (more_of-Expr at node rest) ks = pushed p slots rest (kind_in p slots node ∷ ks)

-- with the values of a line
abbrev pub items_pushed : Program → Slots → List Item → Kinds → Kinds
items_pushed p slots [] ks = ks
items_pushed p slots (item.Text text ∷ rest) ks = items_pushed p slots rest ks
items_pushed p slots (item.Value e ∷ rest) ks = items_pushed p slots rest (kind_in p slots e.node ∷ ks)

module _ (m : Module) (c : Code) (Ok : Instr → Type 0) (p : Program) where
  -- a local of this slot's kind
  abbrev pub IsLocal : Slot → Type 0
  IsLocal s = slice_get c.locals s.number ≡ Some s.kind

  -- an array of the module without tally words
  abbrev pub IsItems : Area → Type 0
  IsItems area = IsArray m area.first (unwrap_or area.items 0) × HoldsNoTally m area.first (unwrap_or area.items 0)

  -- a name without an index that is read: a local, or a word
  abbrev pub ReadFits : Option Slot → Area → Type 0
  ReadFits (Some s) area = IsLocal s
  ReadFits None area = IsWord m area.first × Ok (i.Word area.first)

  -- one that is set to a value of this kind
  abbrev pub StoreFits : Option Slot → Area → Ty → Type 0
  StoreFits (Some s) area kind = IsLocal s × (kind ≡ s.kind)
  StoreFits None area kind = IsWord m area.first × Ok (i.Put area.first) × (kind ≡ ty.Int)

  -- one that is added to
  abbrev pub AddFits : Option Slot → Area → Type 0
  AddFits (Some s) area = IsLocal s × (s.kind ≡ ty.Int)
  AddFits None area = IsWord m area.first × Ok (i.AddWord area.first)

  module _ (slots : Slots) where
    -- a call: the function takes the values of the arguments, which are 8 at most
    pub record CallFits {n : _} (name : Name) (args : Row_of-Expr n) : Type 0 where
      pub code : Code
      pub there : slice_get m.functions (function_number p.functions name.text) ≡ Some code
      pub takes : (ks : Kinds) → below (parameters code) (pushed p slots args ks) ≡ Some ks
      pub gives : code.gives ≡ gives_of (given_by (function_named p.functions name.text))
      pub few : count args ≤ 8
      pub allowed : Ok (i.Call (function_number p.functions name.text))

    abbrev mutual
      -- an expression
      pub ValueFits : Node → Type 0
      ValueFits (Number z) = Unit {0}
      ValueFits (Truth b) = Unit {0}
      ValueFits (Read place) = PlaceFits place
      ValueFits (CallOf (Call' name shape args)) = CallFits name args × ValuesFit args × HasValue (given_by (function_named p.functions name.text))
      ValueFits (Unary' op shape a) = BoxedFits a × (boxed_kind p slots a ≡ unary_kind op)
      ValueFits (Binary' op shape a shape' b) = BoxedFits a × BoxedFits b × OperandsFit op (boxed_kind p slots a) (boxed_kind p slots b)
      ValueFits (Paren' shape a) = BoxedFits a

      -- a place that is read
      pub PlaceFits : Place → Type 0
      PlaceFits (Place' name None') = ReadFits (slot_of slots name.text) (declared (area_of p.shared name.text))
      PlaceFits (Place' name (Some' shape i)) = IsItems (declared (area_of p.shared name.text)) × BoxedFits i × (boxed_kind p slots i ≡ ty.Int)

      -- no box is empty
      pub BoxedFits : {n : _} → Row_of-Expr n → Type 0
      BoxedFits end_of-Expr = ⊥
      BoxedFits (more_of-Expr at node rest) = ValueFits node

      pub ValuesFit : {n : _} → Row_of-Expr n → Type 0
      ValuesFit end_of-Expr = Unit {0}
      ValuesFit (more_of-Expr at node rest) = ValueFits node × ValuesFit rest

    -- an expression of this kind
    abbrev pub ExprFits : Expr → Ty → Type 0
    ExprFits e kind = ValueFits e.node × (kind_in p slots e.node ≡ kind)

    -- an assignment
    abbrev pub SetFits : Place → Expr → Type 0
    SetFits (Place' name None') e = ValueFits e.node × StoreFits (slot_of slots name.text) (declared (area_of p.shared name.text)) (kind_in p slots e.node)
    SetFits (Place' name (Some' shape index)) e = IsItems (declared (area_of p.shared name.text)) × BoxedFits index × (boxed_kind p slots index ≡ ty.Int) × ExprFits e ty.Int

    -- an adding
    abbrev pub AddToFits : Place → Expr → Type 0
    AddToFits (Place' name None') e = ExprFits e ty.Int × AddFits (slot_of slots name.text) (declared (area_of p.shared name.text))
    AddToFits (Place' name (Some' shape index)) e = IsItems (declared (area_of p.shared name.text)) × BoxedFits index × (boxed_kind p slots index ≡ ty.Int) × ExprFits e ty.Int

    -- a return from a code that gives this back
    abbrev pub ReturnFits : Gives → Option Expr → Type 0
    ReturnFits gives.Nothing None = Unit {0}
    ReturnFits gives.Nothing (Some e) = ⊥
    ReturnFits gives.Int None = ⊥
    ReturnFits gives.Int (Some e) = ExprFits e ty.Int
    ReturnFits gives.Bool None = ⊥
    ReturnFits gives.Bool (Some e) = ExprFits e ty.Bool

    -- the values of a line
    abbrev pub ItemsFit : List Item → Type 0
    ItemsFit [] = Unit {0}
    ItemsFit (item.Text text ∷ rest) = ItemsFit rest
    ItemsFit (item.Value e ∷ rest) = ValueFits e.node × ItemsFit rest

    -- the widths of a step
    abbrev pub WidthsFit : List RoutineBlock → Type 0
    WidthsFit [] = Unit {0}
    WidthsFit (RoutineBlock' where' width width_name id_name shape body ∷ rest) = ExprFits width ty.Int × WidthsFit rest

  abbrev mutual
    -- a statement whose code begins here
    pub FormFits : Slots → At → Form → Type 0
    FormFits slots at (Declare ty name e) = ExprFits slots e (kind_of ty) × (slice_get c.locals at.slot ≡ Some (kind_of ty))
    FormFits slots at (Set place e) = SetFits slots place e
    FormFits slots at (AddTo place e) = AddToFits slots place e
    FormFits slots at (If' shape arms last) = ArmsFit slots at arms × LastFits slots (beyond_arms p slots at arms) last
    FormFits slots at (While' test shape body) = ExprFits slots test ty.Bool × RowFits slots (past p at (size_of test + 1)) body
    FormFits slots at (For' shape first test shape' next shape'' body) =
        let inner = slots_after_row slots at.slot first in
        let head = beyond_row p slots at first in
        let begin = past p head (size_of test + 1) in
        let step = beyond_row p inner begin body in
        RowFits slots at first × ExprFits inner test ty.Bool × RowFits inner begin body × RowFits inner step next
    FormFits slots at Break = Unit {0}
    FormFits slots at Continue = Unit {0}
    FormFits slots at (Return given) = ReturnFits slots c.gives given
    FormFits slots at (form.CallOf (Call' name shape args)) = CallFits slots name args × ValuesFit slots args
    FormFits slots at (Assert e) = ExprFits slots e ty.Bool
    FormFits slots at (Block' shape body) = RowFits slots at body
    FormFits slots at (Print items) =
        ItemsFit slots items × (length items ≤ 64) × AllByRecursion (HasText m) (printed_items p slots items at.text) × Ok (i.Print (printed_items p slots items at.text))
    FormFits slots at (Par' shape blocks) = WidthsFit slots (blocks_in blocks) × (length (blocks_in blocks) ≤ 64) × Ok (i.Par at.block (length (blocks_in blocks)))

    pub RowFits : {n : _} → Slots → At → Row_of-Stmt n → Type 0
    RowFits slots at end_of-Stmt = Unit {0}
    RowFits slots at (more_of-Stmt where' form rest) = FormFits slots at form × RowFits (slots_after slots at.slot form) (beyond p slots at form) rest

    pub ArmsFit : {n : _} → Slots → At → Row_of-Arm n → Type 0
    ArmsFit slots at end_of-Arm = Unit {0}
    ArmsFit slots at (more_of-Arm (Arm' test shape body) rest) =
        let begin = past p at (size_of test + 1) in
        let behind = past p (beyond_row p slots begin body) 1 in
        ExprFits slots test ty.Bool × RowFits slots begin body × ArmsFit slots behind rest

    pub LastFits : Slots → At → Held-Form-If-1 → Type 0
    LastFits slots at form.None' = Unit {0}
    LastFits slots at (form.Some' shape body) = RowFits slots at body
