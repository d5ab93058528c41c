-- The kinds with which the instructions of a tree's code are taken, in the order of the code.
use Rattle.std.specs.Prelude.{ℕ, ◌+◌, List, [], ◌∷◌, ◌++◌, Option, Some, None, length}
use Rattle.csl_tree.specs.declared.program.Program.{Program}
use Rattle.csl_tree.specs.declared.program.BinaryOp.{BinaryOp}
use Rattle.csl_tree.specs.declared.program.BinaryOp.TheVariants.{And, Or}
use Rattle.cal_terms.specs.declared.types.Gives.{Gives}
use Rattle.cal_terms.specs.declared.types.Gives.TheVariants as gives
use Rattle.csl_tree.specs.declared.program.Expr.{Expr}
use Rattle.csl_tree.specs.declared.program.Node.{Node, Number, Truth, Read, CallOf, Unary', Binary', Paren', Row_of-Expr, end_of-Expr, more_of-Expr}
use Rattle.csl_tree.specs.declared.program.Place.{Place, Place', None', Some'}
use Rattle.csl_tree.specs.declared.program.Call.{Call, Call'}
use Rattle.csl_tree.specs.declared.program.Item.{Item}
use Rattle.csl_tree.specs.declared.program.Item.TheVariants as item
use Rattle.csl_tree.specs.declared.program.Arm.{Arm'}
use Rattle.csl_tree.specs.declared.program.RoutineBlock.{RoutineBlock, RoutineBlock'}
use Rattle.csl_tree.specs.declared.program.Form.{Form, Declare, Set, AddTo, If', While', For', Break, Continue, Return, Assert, Block', Print, Par', Row_of-Arm, end_of-Arm, more_of-Arm, Row_of-Stmt}
use Rattle.csl_tree.specs.declared.program.Form.{end_of-Stmt, more_of-Stmt, Held-Form-If-1}
use Rattle.csl_tree.specs.declared.program.Form as form
use Rattle.csl_meaning.specs.Effect.{function_named, blocks_in}
use Rattle.cal_terms.specs.declared.types.Ty.{Ty}
use Rattle.cal_terms.specs.declared.types.Ty.TheVariants.{Int, Bool as Truth'}
use Rattle.code_verify.specs.Kinds.{Kinds}
use Rattle.code_verify.specs.Rules.{Taken}
use Rattle.compiled_code.specs.Slots.{Slot, Slots, slot_of}
use Rattle.compiled_code.specs.Sizes.{given_by, kinds_in, kinds_in_row, kinds_in_arms}
use Rattle.compiled_code.specs.Places.{slots_after, slots_after_row}
use Rattle.compiled_code.specs.Values.{kind_in, boxed_kind}
use Rattle.accepted_code.proofs.Fits.{pushed, items_pushed}

-- two operands and an operator, where the operands have these kinds
abbrev pub binary_taken : BinaryOp → Kinds → (a b : Ty) → (left : Taken) → (right : Kinds → Taken) → Taken
binary_taken And ks a b left right = left ++ (a ∷ ks) ∷ right ks ++ (b ∷ ks) ∷ ks ∷ []
binary_taken Or ks a b left right = left ++ (a ∷ ks) ∷ ks ∷ (Truth' ∷ ks) ∷ right ks
binary_taken op ks a b left right = left ++ right (a ∷ ks) ++ (b ∷ a ∷ ks) ∷ []

-- an adding under a name
abbrev pub add_taken : Option Slot → Taken
add_taken (Some s) = (Int ∷ []) ∷ (s.kind ∷ Int ∷ []) ∷ (Int ∷ []) ∷ []
add_taken None = (Int ∷ []) ∷ []

-- a result that is dropped
abbrev pub drop_taken : Gives → Taken
drop_taken gives.Nothing = []
drop_taken gives.Int = (Int ∷ []) ∷ []
drop_taken gives.Bool = (Truth' ∷ []) ∷ []

module _ (p : Program) (slots : Slots) where
  abbrev mutual
    -- an expression, above operands of these kinds
    pub value_taken : Node → Kinds → Taken
    value_taken (Number z) ks = ks ∷ []
    value_taken (Truth b) ks = ks ∷ []
    value_taken (Read place) ks = read_taken place ks
    value_taken (CallOf call) ks = call_taken call ks
    value_taken (Unary' op shape a) ks = boxed_taken a ks ++ (boxed_kind p slots a ∷ ks) ∷ []
    value_taken (Binary' op shape a shape' b) ks = binary_taken op ks (boxed_kind p slots a) (boxed_kind p slots b) (boxed_taken a ks) (λ below. boxed_taken b below)
    value_taken (Paren' shape a) ks = boxed_taken a ks

    pub read_taken : Place → Kinds → Taken
    read_taken (Place' name None') ks = ks ∷ []
    read_taken (Place' name (Some' shape i)) ks = boxed_taken i ks ++ (boxed_kind p slots i ∷ ks) ∷ []

    pub call_taken : Call → Kinds → Taken
    call_taken (Call' name shape args) ks = values_taken args ks ++ (pushed p slots args ks) ∷ []

    pub boxed_taken : {n : _} → Row_of-Expr n → Kinds → Taken
    boxed_taken end_of-Expr ks = []
    boxed_taken (more_of-Expr at node rest) ks = value_taken node ks

    -- one expression behind the other
    pub values_taken : {n : _} → Row_of-Expr n → Kinds → Taken
    values_taken end_of-Expr ks = []
    values_taken (more_of-Expr at node rest) ks = value_taken node ks ++ values_taken rest (kind_in p slots node ∷ ks)

  abbrev pub taken_of : Expr → Kinds → Taken
  taken_of e ks = value_taken e.node ks

  abbrev pub set_taken : Place → Expr → Taken
  set_taken (Place' name None') e = taken_of e [] ++ (kind_in p slots e.node ∷ []) ∷ []
  set_taken (Place' name (Some' shape index)) e = boxed_taken index [] ++ taken_of e (boxed_kind p slots index ∷ []) ++ (kind_in p slots e.node ∷ boxed_kind p slots index ∷ []) ∷ []

  abbrev pub add_to_taken : Place → Expr → Taken
  add_to_taken (Place' name None') e = taken_of e [] ++ add_taken (slot_of slots name.text)
  add_to_taken (Place' name (Some' shape index)) e = boxed_taken index [] ++ taken_of e (boxed_kind p slots index ∷ []) ++ (kind_in p slots e.node ∷ boxed_kind p slots index ∷ []) ∷ []

  abbrev pub return_taken : Option Expr → Taken
  return_taken None = [] ∷ []
  return_taken (Some e) = taken_of e [] ++ (kind_in p slots e.node ∷ []) ∷ []

  abbrev pub statement_taken : Call → Taken
  statement_taken (Call' name shape args) = call_taken (Call' name shape args) [] ++ drop_taken (given_by (function_named p.functions name.text))

  abbrev pub items_taken : List Item → Kinds → Taken
  items_taken [] ks = []
  items_taken (item.Text text ∷ rest) ks = items_taken rest ks
  items_taken (item.Value e ∷ rest) ks = taken_of e ks ++ items_taken rest (kind_in p slots e.node ∷ ks)

  -- the kinds with the widths of a step on top
  abbrev pub widths_pushed : List RoutineBlock → Kinds → Kinds
  widths_pushed [] ks = ks
  widths_pushed (RoutineBlock' where' width width_name id_name shape body ∷ rest) ks = widths_pushed rest (kind_in p slots width.node ∷ ks)

  abbrev pub widths_taken : List RoutineBlock → Kinds → Taken
  widths_taken [] ks = []
  widths_taken (RoutineBlock' where' width width_name id_name shape body ∷ rest) ks = taken_of width ks ++ widths_taken rest (kind_in p slots width.node ∷ ks)

module _ (p : Program) where
  abbrev mutual
    -- a statement: each begins and ends with no operands
    pub form_taken : Form → Slots → ℕ → Taken
    form_taken (Declare ty name e) slots slot = taken_of p slots e [] ++ (kind_in p slots e.node ∷ []) ∷ []
    form_taken (Set place e) slots slot = set_taken p slots place e
    form_taken (AddTo place e) slots slot = add_to_taken p slots place e
    form_taken (If' shape arms last) slots slot = arms_taken arms slots slot ++ last_taken last slots (slot + length (kinds_in_arms arms))
    form_taken (While' test shape body) slots slot = taken_of p slots test [] ++ (kind_in p slots test.node ∷ []) ∷ row_taken body slots slot ++ [] ∷ []
    form_taken (For' shape first test shape' next shape'' body) slots slot =
        let inner = slots_after_row slots slot first in
        let begin = slot + length (kinds_in_row first) in
        row_taken first slots slot
        ++ taken_of p inner test []
        ++ (kind_in p inner test.node ∷ []) ∷ row_taken body inner begin
        ++ row_taken next inner (begin + length (kinds_in_row body))
        ++ [] ∷ []
    form_taken Break slots slot = [] ∷ []
    form_taken Continue slots slot = [] ∷ []
    form_taken (Return given) slots slot = return_taken p slots given
    form_taken (form.CallOf call) slots slot = statement_taken p slots call
    form_taken (Assert e) slots slot = taken_of p slots e [] ++ (kind_in p slots e.node ∷ []) ∷ []
    form_taken (Block' shape body) slots slot = row_taken body slots slot
    form_taken (Print items) slots slot = items_taken p slots items [] ++ (items_pushed p slots items []) ∷ []
    form_taken (Par' shape blocks) slots slot = widths_taken p slots (blocks_in blocks) [] ++ (widths_pushed p slots (blocks_in blocks) []) ∷ []

    pub row_taken : {n : _} → Row_of-Stmt n → Slots → ℕ → Taken
    row_taken end_of-Stmt slots slot = []
    row_taken (more_of-Stmt where' form rest) slots slot = form_taken form slots slot ++ row_taken rest (slots_after slots slot form) (slot + length (kinds_in form))

    pub arms_taken : {n : _} → Row_of-Arm n → Slots → ℕ → Taken
    arms_taken end_of-Arm slots slot = []
    arms_taken (more_of-Arm (Arm' test shape body) rest) slots slot =
        taken_of p slots test [] ++ (kind_in p slots test.node ∷ []) ∷ row_taken body slots slot ++ [] ∷ arms_taken rest slots (slot + length (kinds_in_row body))

    pub last_taken : Held-Form-If-1 → Slots → ℕ → Taken
    last_taken form.None' slots slot = []
    last_taken (form.Some' shape body) slots slot = row_taken body slots slot
