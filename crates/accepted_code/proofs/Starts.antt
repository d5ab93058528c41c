-- The kinds of a tree's code are as many as its instructions, and begin with those that are there.
use Rattle.std.proofs.Common.{◌≡◌, ℕ, ◌+◌, List, [], ◌∷◌, ◌++◌, length, Option, Some, None, refl, ◌∙◌, subst, arith, length-append}
use Rattle.csl_tree.specs.declared.program.Program.{Program}
use Rattle.csl_tree.specs.declared.program.BinaryOp.{BinaryOp}
use Rattle.csl_tree.specs.declared.program.BinaryOp.TheVariants.{And, Or}
use Rattle.cal_terms.specs.declared.types.Gives.{Gives}
use Rattle.cal_terms.specs.declared.types.Gives.TheVariants as gives
use Rattle.csl_tree.specs.declared.program.Expr.{Expr}
use Rattle.csl_tree.specs.declared.program.Node.{Node, Number, Truth, Read, CallOf, Unary', Binary', Paren', Row_of-Expr, end_of-Expr, more_of-Expr}
use Rattle.csl_tree.specs.declared.program.Place.{Place, Place', None', Some'}
use Rattle.csl_tree.specs.declared.program.Call.{Call, Call'}
use Rattle.csl_tree.specs.declared.program.Item.{Item}
use Rattle.csl_tree.specs.declared.program.Item.TheVariants as item
use Rattle.csl_tree.specs.declared.program.Arm.{Arm'}
use Rattle.csl_tree.specs.declared.program.RoutineBlock.{RoutineBlock, RoutineBlock'}
use Rattle.csl_tree.specs.declared.program.Form.{Form, Declare, Set, AddTo, If', While', For', Break, Continue, Return, Assert, Block', Print, Par', Row_of-Arm, end_of-Arm, more_of-Arm, Row_of-Stmt}
use Rattle.csl_tree.specs.declared.program.Form.{end_of-Stmt, more_of-Stmt, Held-Form-If-1, Row_of-RoutineBlock, end_of-RoutineBlock, more_of-RoutineBlock}
use Rattle.csl_tree.specs.declared.program.Form as form
use Rattle.csl_meaning.specs.Effect.{function_named, blocks_in}
use Rattle.cal_terms.specs.declared.types.Ty.{Ty}
use Rattle.cal_terms.specs.declared.types.Ty.TheVariants.{Bool as Truth'}
use Rattle.code_verify.specs.Kinds.{Kinds}
use Rattle.code_verify.specs.Rules.{Taken, KindsAt}
use Rattle.compiled_code.specs.Slots.{Slot, Slots, slot_of}
use Rattle.compiled_code.specs.Sizes.{value_size, boxed_size, place_size, values_size, call_size, size_of, operator_size, items_size, widths_size, returned_size, drop_size, given_by, kinds_in}
use Rattle.compiled_code.specs.Sizes.{kinds_in_row, kinds_in_arms}
use Rattle.compiled_code.specs.Places.{slots_after, slots_after_row, add_size, statement_size, form_size, row_size, arms_size, last_size}
use Rattle.compiled_code.specs.Values.{kind_in, boxed_kind}
use Rattle.accepted_code.proofs.Spelled.{ValueSpelled, PlaceSpelled, BoxedSpelled, ValuesSpelled, ExprSpelled, ReturnSpelled, ItemsSpelled, FormSpelled, RowSpelled, ArmsSpelled, LastSpelled}
use Rattle.accepted_code.proofs.Spelled.{BlocksSpelled}
use Rattle.accepted_code.proofs.Fits.{pushed, items_pushed}
use Rattle.accepted_code.proofs.Taken.{binary_taken, add_taken, drop_taken, value_taken, call_taken, boxed_taken, values_taken, taken_of, set_taken, add_to_taken, return_taken, statement_taken}
use Rattle.accepted_code.proofs.Taken.{items_taken, widths_taken, widths_pushed, form_taken, row_taken, arms_taken, last_taken}
use Rattle.accepted_code.proofs.Fine.{Held, in_front, behind}

-- ---- as many as instructions

-- one more behind
more : (a : Taken) (x : Kinds) (n : ℕ) → length a ≡ n → length (a ++ x ∷ []) ≡ n + 1
more a x n e = let l = length-append a (x ∷ []) in omega (arith, l, e)

two : (a b : Taken) (n k : ℕ) → length a ≡ n → length b ≡ k → length (a ++ b) ≡ n + k
two a b n k e f = let l = length-append a b in omega (arith, l, e, f)

plain_many : (left right : Taken) (x : Kinds) (n k : ℕ) → length left ≡ n → length right ≡ k → length (left ++ right ++ x ∷ []) ≡ n + k + 1
plain_many left right x n k e f =
    let l = length-append (left ++ right) (x ∷ []) in
    let q = length-append left right in
    omega (arith, l, q, e, f)

pub binary_many : (op : BinaryOp) (ks : Kinds) (a b : Ty) (n k : ℕ) (left : Taken) (right : Kinds → Taken) → length left ≡ n → ((below : Kinds) → length (right below) ≡ k)
    → length (binary_taken op ks a b left right) ≡ n + k + operator_size op
binary_many And ks a b n k left right e f =
    let l = length-append (left ++ (a ∷ ks) ∷ right ks) ((b ∷ ks) ∷ ks ∷ []) in
    let q = length-append left ((a ∷ ks) ∷ right ks) in
    let g = f ks in
    omega (arith, l, q, e, g)
binary_many Or ks a b n k left right e f =
    let l = length-append left ((a ∷ ks) ∷ ks ∷ (Truth' ∷ ks) ∷ right ks) in
    let g = f ks in
    omega (arith, l, e, g)
binary_many op ks a b n k left right e f = plain_many left (right (a ∷ ks)) (b ∷ a ∷ ks) n k e (f (a ∷ ks))

module _ (p : Program) (slots : Slots) where
  mutual
    pub value_many : (n : Node) (ks : Kinds) → length (value_taken p slots n ks) ≡ value_size n
    value_many (Number z) ks = refl
    value_many (Truth b) ks = refl
    value_many (Read (Place' name None')) ks = refl
    value_many (Read (Place' name (Some' shape i))) ks = more (boxed_taken p slots i ks) _ (boxed_size i) (boxed_many i ks)
    value_many (CallOf call) ks = call_many call ks
    value_many (Unary' op shape a) ks = more (boxed_taken p slots a ks) _ (boxed_size a) (boxed_many a ks)
    value_many (Binary' op shape a shape' b) ks =
        binary_many op ks (boxed_kind p slots a) (boxed_kind p slots b) (boxed_size a) (boxed_size b) (boxed_taken p slots a ks) (λ below. boxed_taken p slots b below) (boxed_many a ks)
        (λ below. boxed_many b below)
    value_many (Paren' shape a) ks = boxed_many a ks

    pub call_many : (call : Call) (ks : Kinds) → length (call_taken p slots call ks) ≡ call_size call
    call_many (Call' name shape args) ks = more (values_taken p slots args ks) _ (values_size args) (values_many args ks)

    pub boxed_many : {n : _} (row : Row_of-Expr n) (ks : Kinds) → length (boxed_taken p slots row ks) ≡ boxed_size row
    boxed_many end_of-Expr ks = refl
    boxed_many (more_of-Expr at node rest) ks = value_many node ks

    pub values_many : {n : _} (row : Row_of-Expr n) (ks : Kinds) → length (values_taken p slots row ks) ≡ values_size row
    values_many end_of-Expr ks = refl
    values_many (more_of-Expr at node rest) ks = two (value_taken p slots node ks) (values_taken p slots rest (kind_in p slots node ∷ ks)) (value_size node) (values_size rest) (value_many node ks)
        (values_many rest (kind_in p slots node ∷ ks))

  pub expr_many : (e : Expr) (ks : Kinds) → length (taken_of p slots e ks) ≡ size_of e
  expr_many e ks = value_many e.node ks

  pub items_many : (items : List Item) (ks : Kinds) → length (items_taken p slots items ks) ≡ items_size items
  items_many [] ks = refl
  items_many (item.Text text ∷ rest) ks = items_many rest ks
  items_many (item.Value e ∷ rest) ks = two (taken_of p slots e ks) (items_taken p slots rest (kind_in p slots e.node ∷ ks)) (size_of e) (items_size rest) (expr_many e ks)
      (items_many rest (kind_in p slots e.node ∷ ks))

  pub widths_many : (blocks : List RoutineBlock) (ks : Kinds) → length (widths_taken p slots blocks ks) ≡ widths_size blocks
  widths_many [] ks = refl
  widths_many (RoutineBlock' where' width width_name id_name shape body ∷ rest) ks =
      two (taken_of p slots width ks) (widths_taken p slots rest (kind_in p slots width.node ∷ ks)) (size_of width) (widths_size rest) (expr_many width ks)
      (widths_many rest (kind_in p slots width.node ∷ ks))

  set_many : (place : Place) (e : Expr) → length (set_taken p slots place e) ≡ place_size place + size_of e + 1
  set_many (Place' name None') e =
      let none : size_of e + 1 ≡ 0 + size_of e + 1 = omega arith in
      more (taken_of p slots e []) _ (size_of e) (expr_many e []) ∙ none
  set_many (Place' name (Some' shape index)) e = plain_many (boxed_taken p slots index []) (taken_of p slots e _) _ (boxed_size index) (size_of e) (boxed_many index []) (expr_many e _)

  return_many : (given : Option Expr) → length (return_taken p slots given) ≡ returned_size given + 1
  return_many None = refl
  return_many (Some e) = more (taken_of p slots e []) _ (size_of e) (expr_many e [])

  dropped : (g : Gives) → length (drop_taken g) ≡ drop_size g
  dropped gives.Nothing = refl
  dropped gives.Int = refl
  dropped gives.Bool = refl

  statement_many : (call : Call) → length (statement_taken p slots call) ≡ statement_size p call
  statement_many (Call' name shape args) =
      two (call_taken p slots (Call' name shape args) []) (drop_taken (given_by (function_named p.functions name.text))) (values_size args + 1)
      (drop_size (given_by (function_named p.functions name.text))) (call_many (Call' name shape args) []) (dropped (given_by (function_named p.functions name.text)))

  add_many : (o : Option Slot) → length (add_taken o) ≡ add_size o
  add_many (Some s) = refl
  add_many None = refl

  add_to_many : (place : Place) (e : Expr) (slot : ℕ) → length (add_to_taken p slots place e) ≡ form_size p (AddTo place e) slots slot
  add_to_many (Place' name None') e slot = two (taken_of p slots e []) (add_taken (slot_of slots name.text)) (size_of e) (add_size (slot_of slots name.text)) (expr_many e [])
      (add_many (slot_of slots name.text))
  add_to_many (Place' name (Some' shape index)) e slot = plain_many (boxed_taken p slots index []) (taken_of p slots e _) _ (boxed_size index) (size_of e) (boxed_many index []) (expr_many e _)

module _ (p : Program) where
  mutual
    pub form_many : (f : Form) (slots : Slots) (slot : ℕ) → length (form_taken p f slots slot) ≡ form_size p f slots slot
    form_many (Declare ty name e) slots slot = more (taken_of p slots e []) _ (size_of e) (expr_many p slots e [])
    form_many (Set place e) slots slot = set_many p slots place e
    form_many (AddTo place e) slots slot = add_to_many p slots place e slot
    form_many (If' shape arms last) slots slot =
        two (arms_taken p arms slots slot) (last_taken p last slots (slot + length (kinds_in_arms arms))) (arms_size p arms slots slot) (last_size p last slots (slot + length (kinds_in_arms arms)))
        (arms_many arms slots slot) (last_many last slots (slot + length (kinds_in_arms arms)))
    form_many (While' test shape body) slots slot =
        let one = taken_of p slots test [] in
        let inside = row_taken p body slots slot in
        let l = length-append (one ++ (kind_in p slots test.node ∷ []) ∷ inside) ([] ∷ []) in
        let q = length-append one ((kind_in p slots test.node ∷ []) ∷ inside) in
        let t = expr_many p slots test [] in
        let b = row_many body slots slot in
        omega (arith, l, q, t, b)
    form_many (For' shape first test shape' next shape'' body) slots slot =
        let inner = slots_after_row slots slot first in
        let begin = slot + length (kinds_in_row first) in
        let one = row_taken p first slots slot in
        let two' = taken_of p inner test [] in
        let three = row_taken p body inner begin in
        let four = row_taken p next inner (begin + length (kinds_in_row body)) in
        let x = kind_in p inner test.node ∷ [] in
        let l1 = length-append (one ++ two' ++ x ∷ three ++ four) ([] ∷ []) in
        let l2 = length-append (one ++ two' ++ x ∷ three) four in
        let l3 = length-append (one ++ two') (x ∷ three) in
        let l4 = length-append one two' in
        let a = row_many first slots slot in
        let t = expr_many p inner test [] in
        let b = row_many body inner begin in
        let n = row_many next inner (begin + length (kinds_in_row body)) in
        omega (arith, l1, l2, l3, l4, a, t, b, n)
    form_many Break slots slot = refl
    form_many Continue slots slot = refl
    form_many (Return given) slots slot = return_many p slots given
    form_many (form.CallOf call) slots slot = statement_many p slots call
    form_many (Assert e) slots slot = more (taken_of p slots e []) _ (size_of e) (expr_many p slots e [])
    form_many (Block' shape body) slots slot = row_many body slots slot
    form_many (Print items) slots slot = more (items_taken p slots items []) _ (items_size items) (items_many p slots items [])
    form_many (Par' shape blocks) slots slot = more (widths_taken p slots (blocks_in blocks) []) _ (widths_size (blocks_in blocks)) (widths_many p slots (blocks_in blocks) [])

    pub row_many : {n : _} (row : Row_of-Stmt n) (slots : Slots) (slot : ℕ) → length (row_taken p row slots slot) ≡ row_size p row slots slot
    row_many end_of-Stmt slots slot = refl
    row_many (more_of-Stmt where' f rest) slots slot =
        two (form_taken p f slots slot) (row_taken p rest (slots_after slots slot f) (slot + length (kinds_in f))) (form_size p f slots slot)
        (row_size p rest (slots_after slots slot f) (slot + length (kinds_in f))) (form_many f slots slot) (row_many rest (slots_after slots slot f) (slot + length (kinds_in f)))

    pub arms_many : {n : _} (arms : Row_of-Arm n) (slots : Slots) (slot : ℕ) → length (arms_taken p arms slots slot) ≡ arms_size p arms slots slot
    arms_many end_of-Arm slots slot = refl
    arms_many (more_of-Arm (Arm' test shape body) rest) slots slot =
        let one = taken_of p slots test [] in
        let inside = row_taken p body slots slot in
        let others = arms_taken p rest slots (slot + length (kinds_in_row body)) in
        let x = kind_in p slots test.node ∷ [] in
        let l1 = length-append (one ++ x ∷ inside) ([] ∷ others) in
        let l2 = length-append one (x ∷ inside) in
        let t = expr_many p slots test [] in
        let b = row_many body slots slot in
        let r = arms_many rest slots (slot + length (kinds_in_row body)) in
        omega (arith, l1, l2, t, b, r)

    pub last_many : (last : Held-Form-If-1) (slots : Slots) (slot : ℕ) → length (last_taken p last slots slot) ≡ last_size p last slots slot
    last_many form.None' slots slot = refl
    last_many (form.Some' shape body) slots slot = row_many body slots slot

-- ---- the first kinds

-- the widths of a step are spelled
abbrev pub WidthsSpelled : List RoutineBlock → Type 0
WidthsSpelled [] = Unit {0}
WidthsSpelled (RoutineBlock' where' width width_name id_name shape body ∷ rest) = ExprSpelled width × WidthsSpelled rest

pub widths_spelled : {n : _} (blocks : Row_of-RoutineBlock n) → BlocksSpelled blocks → WidthsSpelled (blocks_in blocks)
widths_spelled end_of-RoutineBlock s = tt
widths_spelled (more_of-RoutineBlock (RoutineBlock' where' width width_name id_name shape body) rest) s = (s.0, widths_spelled rest s.2)

binary_starts : (taken : Taken) (at : ℕ) (op : BinaryOp) (ks : Kinds) (a b : Ty) (left : Taken) (right : Kinds → Taken) → (Held taken at left → KindsAt taken at ks)
    → Held taken at (binary_taken op ks a b left right) → KindsAt taken at ks
binary_starts taken at And ks a b left right first h = first (in_front taken at left ((a ∷ ks) ∷ right ks) (in_front taken at (left ++ (a ∷ ks) ∷ right ks) _ h))
binary_starts taken at Or ks a b left right first h = first (in_front taken at left _ h)
binary_starts taken at op ks a b left right first h = first (in_front taken at left (right (a ∷ ks)) (in_front taken at (left ++ right (a ∷ ks)) _ h))

module _ (p : Program) (slots : Slots) (taken : Taken) where
  mutual
    -- an expression begins with the kinds that are there
    pub value_starts : (n : Node) (at : ℕ) (ks : Kinds) (level : ℕ) → ValueSpelled level n → Held taken at (value_taken p slots n ks) → KindsAt taken at ks
    value_starts (Number z) at ks level s h = h.0
    value_starts (Truth b) at ks level s h = h.0
    value_starts (Read (Place' name None')) at ks level s h = h.0
    value_starts (Read (Place' name (Some' shape i))) at ks level s h = boxed_starts i at ks (level + 1) s (in_front taken at (boxed_taken p slots i ks) _ h)
    value_starts (CallOf (Call' name shape args)) at ks level s h = call_starts args at ks _ s.1 h
    value_starts (Unary' op shape a) at ks level s h = boxed_starts a at ks (level + 1) s (in_front taken at (boxed_taken p slots a ks) _ h)
    value_starts (Binary' op shape a shape' b) at ks level s h =
        binary_starts taken at op ks (boxed_kind p slots a) (boxed_kind p slots b) (boxed_taken p slots a ks) (λ below. boxed_taken p slots b below) (λ h'. boxed_starts a at ks level s.0 h') h
    value_starts (Paren' shape a) at ks level s h = boxed_starts a at ks (level + 1) s h

    pub boxed_starts : {n : _} (row : Row_of-Expr n) (at : ℕ) (ks : Kinds) (level : ℕ) → BoxedSpelled level row → Held taken at (boxed_taken p slots row ks) → KindsAt taken at ks
    boxed_starts end_of-Expr at ks level s h = absurd s
    boxed_starts (more_of-Expr where' node rest) at ks level s h = value_starts node at ks level s h

    -- arguments, and what stands behind them
    pub call_starts : {n : _} (row : Row_of-Expr n) (at : ℕ) (ks : Kinds) (level : ℕ) → ValuesSpelled level row → Held taken at (values_taken p slots row ks ++ (pushed p slots row ks) ∷ [])
        → KindsAt taken at ks
    call_starts end_of-Expr at ks level s h = h.0
    call_starts (more_of-Expr where' node rest) at ks level s h =
        value_starts node at ks level s.0 (in_front taken at (value_taken p slots node ks) _ (in_front taken at (values_taken p slots (more_of-Expr where' node rest) ks) _ h))

  -- arguments before more of the kinds that they leave
  pub values_start : {n : _} (row : Row_of-Expr n) (at : ℕ) (ks : Kinds) (level : ℕ) → ValuesSpelled level row → Held taken at (values_taken p slots row ks)
      → KindsAt taken (at + values_size row) (pushed p slots row ks) → KindsAt taken at ks
  values_start end_of-Expr at ks level s h e = let same : at + 0 ≡ at = omega arith in subst (λ (n : ℕ). KindsAt taken n ks) same e
  values_start (more_of-Expr where' node rest) at ks level s h e = value_starts node at ks level s.0 (in_front taken at (value_taken p slots node ks) _ h)

  pub items_start : (items : List Item) (at : ℕ) (ks : Kinds) → ItemsSpelled items → Held taken at (items_taken p slots items ks)
      → KindsAt taken (at + items_size items) (items_pushed p slots items ks) → KindsAt taken at ks
  items_start [] at ks s h e = let same : at + 0 ≡ at = omega arith in subst (λ (n : ℕ). KindsAt taken n ks) same e
  items_start (item.Text text ∷ rest) at ks s h e = items_start rest at ks s h e
  items_start (item.Value v ∷ rest) at ks s h e = value_starts v.node at ks 0 s.0 (in_front taken at (taken_of p slots v ks) _ h)

  pub widths_start : (blocks : List RoutineBlock) (at : ℕ) (ks : Kinds) → WidthsSpelled blocks → Held taken at (widths_taken p slots blocks ks)
      → KindsAt taken (at + widths_size blocks) (widths_pushed p slots blocks ks) → KindsAt taken at ks
  widths_start [] at ks s h e = let same : at + 0 ≡ at = omega arith in subst (λ (n : ℕ). KindsAt taken n ks) same e
  widths_start (RoutineBlock' where' width width_name id_name shape body ∷ rest) at ks s h e = value_starts width.node at ks 0 s.0 (in_front taken at (taken_of p slots width ks) _ h)

  return_starts : (given : Option Expr) (at : ℕ) → ReturnSpelled given → Held taken at (return_taken p slots given) → KindsAt taken at []
  return_starts None at s h = h.0
  return_starts (Some e) at s h = value_starts e.node at [] 0 s (in_front taken at (taken_of p slots e []) _ h)

  set_starts : (place : Place) (e : Expr) (at : ℕ) → PlaceSpelled 0 place → ExprSpelled e → Held taken at (set_taken p slots place e) → KindsAt taken at []
  set_starts (Place' name None') e at s t h = value_starts e.node at [] 0 t (in_front taken at (taken_of p slots e []) _ h)
  set_starts (Place' name (Some' shape index)) e at s t h = boxed_starts index at [] 1 s (in_front taken at (boxed_taken p slots index []) _
      (in_front taken at (boxed_taken p slots index [] ++ taken_of p slots e _) _ h))

  add_to_starts : (place : Place) (e : Expr) (at : ℕ) → PlaceSpelled 0 place → ExprSpelled e → Held taken at (add_to_taken p slots place e) → KindsAt taken at []
  add_to_starts (Place' name None') e at s t h = value_starts e.node at [] 0 t (in_front taken at (taken_of p slots e []) _ h)
  add_to_starts (Place' name (Some' shape index)) e at s t h = boxed_starts index at [] 1 s
      (in_front taken at (boxed_taken p slots index []) _ (in_front taken at (boxed_taken p slots index [] ++ taken_of p slots e _) _ h))

  print_starts : (items : List Item) (at : ℕ) → ItemsSpelled items → Held taken at (items_taken p slots items [] ++ (items_pushed p slots items []) ∷ []) → KindsAt taken at []
  print_starts items at s h =
      let l = items_many p slots items [] in
      items_start items at [] s (in_front taken at (items_taken p slots items []) _ h) (behind taken at (at + items_size items) (items_taken p slots items []) ((items_pushed p slots items []) ∷ [])
      (omega (arith, l)) h).0

  par_starts : (blocks : List RoutineBlock) (at : ℕ) → WidthsSpelled blocks → Held taken at (widths_taken p slots blocks [] ++ (widths_pushed p slots blocks []) ∷ []) → KindsAt taken at []
  par_starts blocks at s h =
      let l = widths_many p slots blocks [] in
      widths_start blocks at [] s (in_front taken at (widths_taken p slots blocks []) _ h) (behind taken at (at + widths_size blocks) (widths_taken p slots blocks [])
      ((widths_pushed p slots blocks []) ∷ []) (omega (arith, l)) h).0

-- where a piece of no entries ends it begins
nothing_there : (taken : Taken) (at : ℕ) → KindsAt taken (at + 0) [] → KindsAt taken at []
nothing_there taken at e = let same : at + 0 ≡ at = omega arith in subst (λ (n : ℕ). KindsAt taken n []) same e

module _ (p : Program) (taken : Taken) where
  mutual
    -- a statement begins with no operands, where it ends with none
    pub form_starts : (f : Form) (slots : Slots) (at slot : ℕ) → FormSpelled f → Held taken at (form_taken p f slots slot) → KindsAt taken (at + form_size p f slots slot) [] → KindsAt taken at []
    form_starts (Declare ty name e) slots at slot s h end = value_starts p slots taken e.node at [] 0 s (in_front taken at (taken_of p slots e []) _ h)
    form_starts (Set place e) slots at slot s h end = set_starts p slots taken place e at s.0 s.1 h
    form_starts (AddTo place e) slots at slot s h end = add_to_starts p slots taken place e at s.0 s.1 h
    form_starts (If' shape arms last) slots at slot s h end =
        let behind_arms = slot + length (kinds_in_arms arms) in
        let l = arms_many p arms slots slot in
        let last_there = behind taken at (at + arms_size p arms slots slot) (arms_taken p arms slots slot) (last_taken p last slots behind_arms) (omega (arith, l)) h in
        let same : at + (arms_size p arms slots slot + last_size p last slots behind_arms) ≡ at + arms_size p arms slots slot + last_size p last slots behind_arms = omega arith in
        arms_start arms slots at slot s.0 (in_front taken at (arms_taken p arms slots slot) _ h)
        (last_starts last slots (at + arms_size p arms slots slot) behind_arms s.1 last_there (subst (λ (n : ℕ). KindsAt taken n []) same end))
    form_starts (While' test shape body) slots at slot s h end =
        value_starts p slots taken test.node at [] 0 s.0
        (in_front taken at (taken_of p slots test []) ((kind_in p slots test.node ∷ []) ∷ row_taken p body slots slot)
        (in_front taken at (taken_of p slots test [] ++ (kind_in p slots test.node ∷ []) ∷ row_taken p body slots slot) ([] ∷ []) h))
    form_starts (For' shape first test shape' next' shape'' body) slots at slot s h end =
        let inner = slots_after_row slots slot first in
        let begin = slot + length (kinds_in_row first) in
        let one = row_taken p first slots slot in
        let two' = taken_of p inner test [] in
        let three = (kind_in p inner test.node ∷ []) ∷ row_taken p body inner begin in
        let four = row_taken p next' inner (begin + length (kinds_in_row body)) in
        let h1 = in_front taken at (one ++ two') three (in_front taken at (one ++ two' ++ three) four (in_front taken at (one ++ two' ++ three ++ four) ([] ∷ []) h)) in
        let l = row_many p first slots slot in
        row_starts first slots at slot s.0 (in_front taken at one two' h1)
        (value_starts p inner taken test.node (at + row_size p first slots slot) [] 0 s.1 (behind taken at (at + row_size p first slots slot) one two' (omega (arith, l)) h1))
    form_starts Break slots at slot s h end = h.0
    form_starts Continue slots at slot s h end = h.0
    form_starts (Return given) slots at slot s h end = return_starts p slots taken given at s h
    form_starts (form.CallOf (Call' name shape args)) slots at slot s h end = call_starts p slots taken args at [] 1 s.1 (in_front taken at (call_taken p slots (Call' name shape args) []) _ h)
    form_starts (Assert e) slots at slot s h end = value_starts p slots taken e.node at [] 0 s (in_front taken at (taken_of p slots e []) _ h)
    form_starts (Block' shape body) slots at slot s h end = row_starts body slots at slot s h end
    form_starts (Print items) slots at slot s h end = print_starts p slots taken items at s h
    form_starts (Par' shape blocks) slots at slot s h end = par_starts p slots taken (blocks_in blocks) at (widths_spelled blocks s.1) h

    pub row_starts : {n : _} (row : Row_of-Stmt n) (slots : Slots) (at slot : ℕ) → RowSpelled row → Held taken at (row_taken p row slots slot) → KindsAt taken (at + row_size p row slots slot) []
        → KindsAt taken at []
    row_starts end_of-Stmt slots at slot s h end = nothing_there taken at end
    row_starts (more_of-Stmt where' f rest) slots at slot s h end =
        let size = form_size p f slots slot in
        let more_slots = slots_after slots slot f in
        let more_slot = slot + length (kinds_in f) in
        let l = form_many p f slots slot in
        let same : at + (size + row_size p rest more_slots more_slot) ≡ at + size + row_size p rest more_slots more_slot = omega arith in
        form_starts f slots at slot s.0 (in_front taken at (form_taken p f slots slot) _ h)
        (row_starts rest more_slots (at + size) more_slot s.1 (behind taken at (at + size) (form_taken p f slots slot) (row_taken p rest more_slots more_slot) (omega (arith, l)) h)
        (subst (λ (n : ℕ). KindsAt taken n []) same end))

    pub arms_start : {n : _} (arms : Row_of-Arm n) (slots : Slots) (at slot : ℕ) → ArmsSpelled arms → Held taken at (arms_taken p arms slots slot) → KindsAt taken (at + arms_size p arms slots slot) []
        → KindsAt taken at []
    arms_start end_of-Arm slots at slot s h end = nothing_there taken at end
    arms_start (more_of-Arm (Arm' test shape body) rest) slots at slot s h end =
        value_starts p slots taken test.node at [] 0 s.0
        (in_front taken at (taken_of p slots test []) ((kind_in p slots test.node ∷ []) ∷ row_taken p body slots slot)
        (in_front taken at (taken_of p slots test [] ++ (kind_in p slots test.node ∷ []) ∷ row_taken p body slots slot) ([] ∷ arms_taken p rest slots (slot + length (kinds_in_row body))) h))

    pub last_starts : (last : Held-Form-If-1) (slots : Slots) (at slot : ℕ) → LastSpelled last → Held taken at (last_taken p last slots slot) → KindsAt taken (at + last_size p last slots slot) []
        → KindsAt taken at []
    last_starts form.None' slots at slot s h end = nothing_there taken at end
    last_starts (form.Some' shape body) slots at slot s h end = row_starts body slots at slot s h end
