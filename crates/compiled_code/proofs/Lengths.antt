-- Code is as long as its size says.
use Rattle.std.proofs.Common.{◌≡◌, ℕ, ◌+◌, List, [], ◌∷◌, ◌++◌, length, Option, Some, None, refl, ◌∙◌, arith, length-append}
use Rattle.csl_tree.specs.declared.program.Program.{Program}
use Rattle.csl_tree.specs.declared.program.BinaryOp.{BinaryOp}
use Rattle.csl_tree.specs.declared.program.BinaryOp.TheVariants.{And, Or}
use Rattle.cal_terms.specs.declared.types.Gives.{Gives}
use Rattle.cal_terms.specs.declared.types.Gives.TheVariants as gives
use Rattle.csl_tree.specs.declared.program.Expr.{Expr}
use Rattle.csl_tree.specs.declared.program.Node.{Node, Number, Truth, Read, Unary', Binary', Paren', Row_of-Expr, end_of-Expr, more_of-Expr}
use Rattle.csl_tree.specs.declared.program.Node as node
use Rattle.csl_tree.specs.declared.program.Place.{Place, Place', None', Some'}
use Rattle.csl_tree.specs.declared.program.Call.{Call, Call'}
use Rattle.csl_tree.specs.declared.program.Item.{Item}
use Rattle.csl_tree.specs.declared.program.Item.TheVariants as item
use Rattle.csl_tree.specs.declared.program.Arm.{Arm'}
use Rattle.csl_tree.specs.declared.program.RoutineBlock.{RoutineBlock, RoutineBlock'}
use Rattle.csl_tree.specs.declared.program.Form.{Form, Declare, Set, AddTo, If', While', For', Break, Continue, Return, Assert, Block', Print, Par', Row_of-Arm, end_of-Arm, more_of-Arm, Row_of-Stmt}
use Rattle.csl_tree.specs.declared.program.Form.{end_of-Stmt, more_of-Stmt, Held-Form-If-1}
use Rattle.csl_tree.specs.declared.program.Form as form
use Rattle.csl_meaning.specs.Effect.{function_named, blocks_in}
use Rattle.bytecode.specs.declared.instr.Instr.{Instr}
use Rattle.bytecode.specs.declared.instr.Instr.TheVariants as i
use Rattle.csl_meaning.specs.declared.state.Area.{Area}
use Rattle.csl_meaning.specs.Layout.{area_of}
use Rattle.csl_meaning.specs.Value.{declared}
use Rattle.compiled_code.specs.Slots.{Slot, Slots, slot_of}
use Rattle.compiled_code.specs.Sizes.{kinds_in, kinds_in_arms, value_size, boxed_size, place_size, values_size, call_size, size_of, operator_size, items_size, widths_size, returned_size, drop_size}
use Rattle.compiled_code.specs.Sizes.{given_by}
use Rattle.compiled_code.specs.Places.{slots_after, slots_after_row, add_size, statement_size, form_size, row_size, arms_size, last_size}
use Rattle.compiled_code.specs.Values.{binary_code, value_code, read_code, call_code, boxed_code, values_code, code_of, binary_instr}
use Rattle.compiled_code.specs.Statements.{At, Exits, set_code, add_code, add_to_code, return_code, drop_code, statement_code, items_code, widths_code, past, beyond, beyond_row, beyond_arms}
use Rattle.compiled_code.specs.Statements.{form_code, row_code, arms_code, last_code}

-- one more instruction behind
pub behind : (a : List Instr) (x : Instr) (n : ℕ) → length a ≡ n → length (a ++ x ∷ []) ≡ n + 1
behind a x n e = let l = length-append a (x ∷ []) in omega (arith, l, e)

-- two pieces
pub both : (a b : List Instr) (n k : ℕ) → length a ≡ n → length b ≡ k → length (a ++ b) ≡ n + k
both a b n k e f = let l = length-append a b in omega (arith, l, e, f)

plain : (op : BinaryOp) (left right : List Instr) (n k : ℕ) → length left ≡ n → length right ≡ k → length (left ++ right ++ binary_instr op ∷ []) ≡ n + k + 1
plain op left right n k e f =
    let l = length-append (left ++ right) (binary_instr op ∷ []) in
    let q = length-append left right in
    omega (arith, l, q, e, f)

binary_length : (op : BinaryOp) (at n k : ℕ) (left : List Instr) (right : ℕ → List Instr) → length left ≡ n → ((there : ℕ) → length (right there) ≡ k)
    → length (binary_code op at n k left right) ≡ n + k + operator_size op
binary_length And at n k left right e f =
    let there = at + n + 1 in
    let l = length-append (left ++ i.Branch (at + n + 1 + k + 1) ∷ right there) (i.Jump (at + n + 1 + k + 2) ∷ i.False ∷ []) in
    let q = length-append left (i.Branch (at + n + 1 + k + 1) ∷ right there) in
    let g = f there in
    omega (arith, l, q, e, g)
binary_length Or at n k left right e f =
    let l = length-append left (i.Branch (at + n + 3) ∷ i.True ∷ i.Jump (at + n + 3 + k) ∷ right (at + n + 3)) in
    let g = f (at + n + 3) in
    omega (arith, l, e, g)
binary_length op at n k left right e f = plain op left (right (at + n)) n k e (f (at + n))

module _ (p : Program) (slots : Slots) where
  mutual
    pub value_length : (n : Node) (at : ℕ) → length (value_code p slots n at) ≡ value_size n
    value_length (Number z) at = refl
    value_length (Truth b) at = refl
    value_length (Read place) at = read_length place at
    value_length (node.CallOf call) at = call_length call at
    value_length (Unary' op shape a) at = behind (boxed_code p slots a at) _ (boxed_size a) (boxed_length a at)
    value_length (Binary' op shape a shape' b) at = binary_length op at (boxed_size a) (boxed_size b) (boxed_code p slots a at) (λ there. boxed_code p slots b there) (boxed_length a at)
        (λ there. boxed_length b there)
    value_length (Paren' shape a) at = boxed_length a at

    read_length : (place : Place) (at : ℕ) → length (read_code p slots place at) ≡ place_size place + 1
    read_length (Place' name None') at = refl
    read_length (Place' name (Some' shape index)) at = behind (boxed_code p slots index at) _ (boxed_size index) (boxed_length index at)

    pub call_length : (call : Call) (at : ℕ) → length (call_code p slots call at) ≡ call_size call
    call_length (Call' name shape args) at = behind (values_code p slots args at) _ (values_size args) (values_length args at)

    pub boxed_length : {n : _} (row : Row_of-Expr n) (at : ℕ) → length (boxed_code p slots row at) ≡ boxed_size row
    boxed_length end_of-Expr at = refl
    boxed_length (more_of-Expr where' n rest) at = value_length n at

    pub values_length : {n : _} (row : Row_of-Expr n) (at : ℕ) → length (values_code p slots row at) ≡ values_size row
    values_length end_of-Expr at = refl
    values_length (more_of-Expr where' n rest) at = both (value_code p slots n at) (values_code p slots rest (at + value_size n)) (value_size n) (values_size rest) (value_length n at)
        (values_length rest (at + value_size n))

  pub expr_length : (e : Expr) (at : ℕ) → length (code_of p slots e at) ≡ size_of e
  expr_length e at = value_length e.node at

  pub items_length : (items : List Item) (at : ℕ) → length (items_code p slots items at) ≡ items_size items
  items_length [] at = refl
  items_length (item.Text text ∷ rest) at = items_length rest at
  items_length (item.Value e ∷ rest) at = both (code_of p slots e at) (items_code p slots rest (at + size_of e)) (size_of e) (items_size rest) (expr_length e at) (items_length rest (at + size_of e))

  pub widths_length : (blocks : List RoutineBlock) (at : ℕ) → length (widths_code p slots blocks at) ≡ widths_size blocks
  widths_length [] at = refl
  widths_length (RoutineBlock' where' width width_name id_name shape body ∷ rest) at =
      both (code_of p slots width at) (widths_code p slots rest (at + size_of width)) (size_of width) (widths_size rest) (expr_length width at) (widths_length rest (at + size_of width))

  set_code_length : (target : Place) (e : Expr) (at : ℕ) → length (set_code p slots target e at) ≡ place_size target + size_of e + 1
  set_code_length (Place' name None') e at =
      let none : size_of e + 1 ≡ 0 + size_of e + 1 = omega arith in
      behind (code_of p slots e at) _ (size_of e) (expr_length e at) ∙ none
  set_code_length (Place' name (Some' shape index)) e at =
      behind (boxed_code p slots index at ++ code_of p slots e (at + boxed_size index)) _ (boxed_size index + size_of e)
      (both (boxed_code p slots index at) (code_of p slots e (at + boxed_size index)) (boxed_size index) (size_of e) (boxed_length index at) (expr_length e (at + boxed_size index)))

  returned_length : (given : Option Expr) (at : ℕ) → length (return_code p slots given at) ≡ returned_size given + 1
  returned_length None at = refl
  returned_length (Some e) at = behind (code_of p slots e at) _ (size_of e) (expr_length e at)

  statement_length : (call : Call) (at : ℕ) → length (statement_code p slots call at) ≡ statement_size p call
  statement_length (Call' name shape args) at = both (call_code p slots (Call' name shape args) at) (drop_code (given_by (function_named p.functions name.text))) (values_size args + 1)
      (drop_size (given_by (function_named p.functions name.text))) (call_length (Call' name shape args) at) (dropped (given_by (function_named p.functions name.text)))
    where
      dropped : (g : Gives) → length (drop_code g) ≡ drop_size g
      dropped gives.Nothing = refl
      dropped gives.Int = refl
      dropped gives.Bool = refl

pub add_code_length : (slot : Option Slot) (area : Area) → length (add_code slot area) ≡ add_size slot
add_code_length (Some s) area = refl
add_code_length None area = refl

-- the code of an adding is as long as its size
pub add_to_length : (p : Program) (slots : Slots) (target : Place) (e : Expr) (slot at : ℕ) → length (add_to_code p slots target e at) ≡ form_size p (AddTo target e) slots slot
add_to_length p slots (Place' name None') e slot at =
    both (code_of p slots e at) (add_code (slot_of slots name.text) (declared (area_of p.shared name.text))) (size_of e) (add_size (slot_of slots name.text)) (expr_length p slots e at)
    (add_code_length (slot_of slots name.text) (declared (area_of p.shared name.text)))
add_to_length p slots (Place' name (Some' shape index)) e slot at =
    behind (boxed_code p slots index at ++ code_of p slots e (at + boxed_size index)) _ (boxed_size index + size_of e)
    (both (boxed_code p slots index at) (code_of p slots e (at + boxed_size index)) (boxed_size index) (size_of e) (boxed_length p slots index at) (expr_length p slots e (at + boxed_size index)))

module _ (p : Program) where
  mutual
    pub form_length : (f : Form) (slots : Slots) (at : At) (exits : Exits) → length (form_code p f slots at exits) ≡ form_size p f slots at.slot
    form_length (Declare ty name e) slots at exits = behind (code_of p slots e at.place) _ (size_of e) (expr_length p slots e at.place)
    form_length (Set place e) slots at exits = set_code_length p slots place e at.place
    form_length (AddTo place e) slots at exits = add_to_length p slots place e at.slot at.place
    form_length (If' shape arms last) slots at exits =
        both (arms_code p arms slots at exits (at.place + form_size p (If' shape arms last) slots at.slot)) (last_code p last slots (beyond_arms p slots at arms) exits)
        (arms_size p arms slots at.slot) (last_size p last slots (at.slot + length (kinds_in_arms arms)))
        (arms_length arms slots at exits (at.place + form_size p (If' shape arms last) slots at.slot)) (last_length last slots (beyond_arms p slots at arms) exits)
    form_length (While' test shape body) slots at exits =
        let back = at.place + size_of test + 1 + row_size p body slots at.slot in
        let inside = row_code p body slots (past p at (size_of test + 1)) (record { on_break = back + 1; on_continue = back }) in
        let body_long = row_length body slots (past p at (size_of test + 1)) (record { on_break = back + 1; on_continue = back }) in
        let test_long = expr_length p slots test at.place in
        let l = length-append (code_of p slots test at.place ++ i.Branch (back + 1) ∷ inside) (i.Loop at.place ∷ []) in
        let q = length-append (code_of p slots test at.place) (i.Branch (back + 1) ∷ inside) in
        omega (arith, l, q, body_long, test_long)
    form_length (For' shape first test shape' next shape'' body) slots at exits =
        let inner = slots_after_row slots at.slot first in
        let head = beyond_row p slots at first in
        let begin = past p head (size_of test + 1) in
        let step = beyond_row p inner begin body in
        let back = step.place + row_size p next inner step.slot in
        let inside = row_code p body inner begin (record { on_break = back + 1; on_continue = step.place }) in
        let one = row_code p first slots at exits in
        let two = code_of p inner test head.place in
        let four = row_code p next inner step exits in
        let first_long = row_length first slots at exits in
        let test_long = expr_length p inner test head.place in
        let body_long = row_length body inner begin (record { on_break = back + 1; on_continue = step.place }) in
        let next_long = row_length next inner step exits in
        let l1 = length-append (one ++ two ++ i.Branch (back + 1) ∷ inside ++ four) (i.Loop head.place ∷ []) in
        let l2 = length-append (one ++ two ++ i.Branch (back + 1) ∷ inside) four in
        let l3 = length-append (one ++ two) (i.Branch (back + 1) ∷ inside) in
        let l4 = length-append one two in
        omega (arith, l1, l2, l3, l4, first_long, test_long, body_long, next_long)
    form_length Break slots at exits = refl
    form_length Continue slots at exits = refl
    form_length (Return given) slots at exits = returned_length p slots given at.place
    form_length (form.CallOf call) slots at exits = statement_length p slots call at.place
    form_length (Assert e) slots at exits = behind (code_of p slots e at.place) _ (size_of e) (expr_length p slots e at.place)
    form_length (Block' shape body) slots at exits = row_length body slots at exits
    form_length (Print items) slots at exits = behind (items_code p slots items at.place) _ (items_size items) (items_length p slots items at.place)
    form_length (Par' shape blocks) slots at exits = behind (widths_code p slots (blocks_in blocks) at.place) _ (widths_size (blocks_in blocks)) (widths_length p slots (blocks_in blocks) at.place)

    pub row_length : {n : _} (row : Row_of-Stmt n) (slots : Slots) (at : At) (exits : Exits) → length (row_code p row slots at exits) ≡ row_size p row slots at.slot
    row_length end_of-Stmt slots at exits = refl
    row_length (more_of-Stmt where' f rest) slots at exits =
        both (form_code p f slots at exits) (row_code p rest (slots_after slots at.slot f) (beyond p slots at f) exits) (form_size p f slots at.slot)
        (row_size p rest (slots_after slots at.slot f) (at.slot + length (kinds_in f)))
        (form_length f slots at exits) (row_length rest (slots_after slots at.slot f) (beyond p slots at f) exits)

    pub arms_length : {n : _} (arms : Row_of-Arm n) (slots : Slots) (at : At) (exits : Exits) (end : ℕ) → length (arms_code p arms slots at exits end) ≡ arms_size p arms slots at.slot
    arms_length end_of-Arm slots at exits end = refl
    arms_length (more_of-Arm (Arm' test shape body) rest) slots at exits end =
        let begin = past p at (size_of test + 1) in
        let behind' = past p (beyond_row p slots begin body) 1 in
        let one = code_of p slots test at.place in
        let two = row_code p body slots begin exits in
        let three = arms_code p rest slots behind' exits end in
        let test_long = expr_length p slots test at.place in
        let body_long = row_length body slots begin exits in
        let rest_long = arms_length rest slots behind' exits end in
        let l1 = length-append (one ++ i.Branch behind'.place ∷ two) (i.Jump end ∷ three) in
        let l2 = length-append one (i.Branch behind'.place ∷ two) in
        omega (arith, l1, l2, test_long, body_long, rest_long)

    pub last_length : (last : Held-Form-If-1) (slots : Slots) (at : At) (exits : Exits) → length (last_code p last slots at exits) ≡ last_size p last slots at.slot
    last_length form.None' slots at exits = refl
    last_length (form.Some' shape body) slots at exits = row_length body slots at exits
