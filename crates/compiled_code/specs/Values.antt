-- The code of an expression: it leaves the value on top of the operands. Places count from the beginning of the body's code.
use Rattle.std.specs.Prelude.{ℕ, suc, ◌+◌, Bool, true, false, if◌then◌else◌, List, [], ◌∷◌, ◌++◌, Option, Some, None, unwrap_or}
use Rattle.std.specs.Str.{bytes_eq}
use Rattle.csl_tree.specs.declared.program.Program.{Program}
use Rattle.csl_tree.specs.declared.program.Function.{Function}
use Rattle.cal_terms.specs.declared.types.Gives.{Gives}
use Rattle.cal_terms.specs.declared.types.Gives.TheVariants as gives
use Rattle.csl_tree.specs.declared.program.UnaryOp.{UnaryOp}
use Rattle.csl_tree.specs.declared.program.UnaryOp.TheVariants.{Neg, Not}
use Rattle.csl_tree.specs.declared.program.BinaryOp.{BinaryOp}
use Rattle.csl_tree.specs.declared.program.BinaryOp.TheVariants.{Add, Sub, Mul, Div, Rem, Eq, Ne, Lt, Le, Gt, Ge, And, Or}
use Rattle.csl_tree.specs.declared.program.Expr.{Expr}
use Rattle.csl_tree.specs.declared.program.Node.{Node, Number, Truth, Read, CallOf, Unary', Binary', Paren', Row_of-Expr, end_of-Expr}
use Rattle.csl_tree.specs.declared.program.Node.{more_of-Expr}
use Rattle.csl_tree.specs.declared.program.Place.{Place, Place', None', Some'}
use Rattle.csl_tree.specs.declared.program.Call.{Call, Call'}
use Rattle.csl_meaning.specs.declared.state.Area.{Area}
use Rattle.csl_meaning.specs.Layout.{Text, area_of}
use Rattle.csl_meaning.specs.Value.{declared}
use Rattle.csl_meaning.specs.Effect.{function_named}
use Rattle.bytecode.specs.declared.instr.Instr.{Instr}
use Rattle.bytecode.specs.declared.instr.Instr.TheVariants as i
use Rattle.cal_terms.specs.declared.types.Ty.{Ty}
use Rattle.cal_terms.specs.declared.types.Ty.TheVariants as ty
use Rattle.compiled_code.specs.Slots.{Slot, Slots, slot_of}
use Rattle.compiled_code.specs.Sizes.{value_size, boxed_size, given_by}

-- ---- instructions of single parts

abbrev pub unary_instr : UnaryOp → Instr
unary_instr Neg = i.Neg
unary_instr Not = i.Not

-- the instruction of an operator that takes both operands; `&&` and `||` have code of their own
abbrev pub binary_instr : BinaryOp → Instr
binary_instr Add = i.Add
binary_instr Sub = i.Sub
binary_instr Mul = i.Mul
binary_instr Div = i.Div
binary_instr Rem = i.Rem
binary_instr Eq = i.Eq
binary_instr Ne = i.Ne
binary_instr Lt = i.Lt
binary_instr Le = i.Le
binary_instr Gt = i.Gt
binary_instr Ge = i.Ge
binary_instr And = i.Pop
binary_instr Or = i.Pop

abbrev pub truth_instr : Bool → Instr
truth_instr true = i.True
truth_instr false = i.False

-- a name without an index is read: it is a local, else a shared word
abbrev pub read_instr : Option Slot → Area → Instr
read_instr (Some s) area = i.Load s.number
read_instr None area = i.Word area.first

-- an item of an array is read
abbrev pub item_instr : Area → Instr
item_instr area = i.Item area.first (unwrap_or area.items 0)

-- how many functions stand before the one with this name
abbrev pub function_number : List Function → Text → ℕ
function_number [] name = 0
function_number (f ∷ rest) name = if bytes_eq f.name.text name then 0 else suc (function_number rest name)

-- ---- operators

-- Two operands and an operator, where the left operand's code of this size begins at this place, and `right` is the right one's at its place.
-- `&&` skips the right operand where the left one is false and leaves false in its place; `||` skips it where the left one is true.
abbrev pub binary_code : BinaryOp → (at left_size right_size : ℕ) → (left : List Instr) → (right : ℕ → List Instr) → List Instr
binary_code And at n k left right =
    left ++ i.Branch (at + n + 1 + k + 1) ∷ right (at + n + 1) ++ i.Jump (at + n + 1 + k + 2) ∷ i.False ∷ []
binary_code Or at n k left right = left ++ i.Branch (at + n + 3) ∷ i.True ∷ i.Jump (at + n + 3 + k) ∷ right (at + n + 3)
binary_code op at n k left right = left ++ right (at + n) ++ binary_instr op ∷ []

module _ (p : Program) (slots : Slots) where
  abbrev mutual
    -- the code of an expression that begins at this place
    pub value_code : Node → ℕ → List Instr
    value_code (Number z) at = i.Int z ∷ []
    value_code (Truth b) at = truth_instr b ∷ []
    value_code (Read place) at = read_code place at
    value_code (CallOf call) at = call_code call at
    value_code (Unary' op shape a) at = boxed_code a at ++ unary_instr op ∷ []
    value_code (Binary' op shape a shape' b) at = binary_code op at (boxed_size a) (boxed_size b) (boxed_code a at)
        (λ there. boxed_code b there)
    value_code (Paren' shape a) at = boxed_code a at

    -- a place that is read; an index stands before it
    pub read_code : Place → ℕ → List Instr
    read_code (Place' name None') at = read_instr (slot_of slots name.text) (declared (area_of p.shared name.text)) ∷ []
    read_code (Place' name (Some' shape index)) at = boxed_code index at ++ item_instr (declared (area_of p.shared name.text)) ∷ []

    -- a call behind its arguments
    pub call_code : Call → ℕ → List Instr
    call_code (Call' name shape args) at = values_code args at ++ i.Call (function_number p.functions name.text) ∷ []

    -- the expression in a box
    pub boxed_code : {n : _} → Row_of-Expr n → ℕ → List Instr
    boxed_code end_of-Expr at = []
    boxed_code (more_of-Expr where' node rest) at = value_code node at

    -- several expressions, one behind the other
    pub values_code : {n : _} → Row_of-Expr n → ℕ → List Instr
    values_code end_of-Expr at = []
    values_code (more_of-Expr where' node rest) at = value_code node at ++ values_code rest (at + value_size node)

  -- the code of an expression at its place
  abbrev pub code_of : Expr → ℕ → List Instr
  code_of e at = value_code e.node at

-- ---- the kind of an expression's value

-- what a call gives; one that gives nothing has no value
abbrev pub given_kind : Gives → Ty
given_kind gives.Nothing = ty.Int
given_kind gives.Int = ty.Int
given_kind gives.Bool = ty.Bool

abbrev pub unary_kind : UnaryOp → Ty
unary_kind Neg = ty.Int
unary_kind Not = ty.Bool

abbrev pub binary_kind : BinaryOp → Ty
binary_kind Add = ty.Int
binary_kind Sub = ty.Int
binary_kind Mul = ty.Int
binary_kind Div = ty.Int
binary_kind Rem = ty.Int
binary_kind _ = ty.Bool

-- a name without an index: a local has its own kind, and a word is an int
abbrev pub name_kind : Option Slot → Ty
name_kind (Some s) = s.kind
name_kind None = ty.Int

module _ (p : Program) (slots : Slots) where
  abbrev mutual
    -- the kind of an expression's value, in an accepted program
    pub kind_in : Node → Ty
    kind_in (Number z) = ty.Int
    kind_in (Truth b) = ty.Bool
    kind_in (Read (Place' name None')) = name_kind (slot_of slots name.text)
    kind_in (Read (Place' name (Some' shape index))) = ty.Int
    kind_in (CallOf (Call' name shape args)) = given_kind (given_by (function_named p.functions name.text))
    kind_in (Unary' op shape a) = unary_kind op
    kind_in (Binary' op shape a shape' b) = binary_kind op
    kind_in (Paren' shape a) = boxed_kind a

    pub boxed_kind : {n : _} → Row_of-Expr n → Ty
    boxed_kind end_of-Expr = ty.Int
    boxed_kind (more_of-Expr where' node rest) = kind_in node
