-- How many instructions, texts and routine blocks come of the tokens of a statement.
use Rattle.std.proofs.Common.{◌≡◌, ◌≤◌, ◌+◌, ◌*◌, ℕ, List, [], ◌∷◌, ◌++◌, Option, Some, None, length, refl, arith, length-append}
use Rattle.std.specs.List.{AllByRecursion}
use denote.Hole.Carrier.{hidden, roll}
use Rattle.csl_tree.specs.declared.token.Token.{Token}
use Rattle.csl_tree.specs.declared.program.BinaryOp.{BinaryOp}
use Rattle.csl_tree.specs.declared.program.BinaryOp.TheVariants as binary_op
use Rattle.csl_tree.specs.declared.program.Program.{Program}
use Rattle.cal_terms.specs.declared.types.Gives.{Gives}
use Rattle.cal_terms.specs.declared.types.Gives.TheVariants as gives
use Rattle.csl_tree.specs.declared.program.Expr.{Expr}
use Rattle.csl_tree.specs.declared.program.Node.{Node, Number, Truth, Read, CallOf, Unary', Binary', Paren', Row_of-Expr, end_of-Expr, more_of-Expr}
use Rattle.csl_tree.specs.declared.program.Node.TheBlock.{shape-the_row-Expr-0, hidden-the_row-Expr-0, shape-the_row-Expr-1, hidden-the_row-Expr-1}
use Rattle.csl_tree.specs.declared.program.Place.{Place, Place', None', Some', roll-Place}
use Rattle.csl_tree.specs.declared.program.Call.{Call, Call', roll-Call}
use Rattle.csl_tree.specs.declared.program.Item.{Item}
use Rattle.csl_tree.specs.declared.program.Item.TheVariants as item
use Rattle.csl_tree.specs.declared.program.Stmt.{Stmt}
use Rattle.csl_tree.specs.declared.program.Arm.{Arm, Arm', roll-Arm}
use Rattle.csl_tree.specs.declared.program.RoutineBlock.{RoutineBlock, RoutineBlock', roll-RoutineBlock}
use Rattle.csl_tree.specs.declared.program.Form.{Form, Declare, Set, AddTo, If', While', For', Break, Continue, Return, Assert, Block', Print, Par', Row_of-Arm, end_of-Arm, more_of-Arm, Row_of-Stmt}
use Rattle.csl_tree.specs.declared.program.Form.{end_of-Stmt, more_of-Stmt, Held-Form-If-1, Row_of-RoutineBlock, end_of-RoutineBlock, more_of-RoutineBlock}
use Rattle.csl_tree.specs.declared.program.Form as form
use Rattle.csl_tree.specs.declared.program.Form.TheBlock.{shape-the_row-Stmt-1, hidden-the_row-Stmt-1, shape-the_row-Stmt-2, hidden-the_row-Stmt-2, shape-the_row-Arm-0, hidden-the_row-Arm-0}
use Rattle.csl_tree.specs.declared.program.Form.TheBlock.{shape-the_row-RoutineBlock-3, hidden-the_row-RoutineBlock-3, back-Form-If-1}
use Rattle.csl_grammar.specs.Expressions.{SpellsExpr, SpellsChain, SpellsArguments, SpellsMore, chain, prefixed, number, truth, named, indexed, called, paren, ends, goes_on, nothing, something}
use Rattle.csl_grammar.specs.Expressions.{no_more, more}
use Rattle.csl_grammar.specs.Programs as grammar
use Rattle.csl_grammar.specs.Programs.{SpellsPlace, SpellsCall, SpellsDecl, SpellsChange, SpellsItem, MoreOf, ListOf, SpellsStmt, SpellsStart, SpellsBlock, SpellsStmts, SpellsArm, SpellsElse}
use Rattle.csl_grammar.specs.Programs.{SpellsRoutine, SpellsRoutines}
use Rattle.csl_meaning.specs.Effect.{function_named, blocks_in}
use Rattle.compiled_code.specs.Slots.{Slot, Slots, slot_of}
use Rattle.compiled_code.specs.Sizes.{operator_size, value_size, place_size, boxed_size, values_size, size_of, returned_size, items_size, widths_size, drop_size, given_by, kinds_in, kinds_in_row}
use Rattle.compiled_code.specs.Sizes.{kinds_in_arms, item_texts, texts_in, texts_in_row, texts_in_arms, texts_in_last, steps_in, steps_in_row, steps_in_arms, steps_in_last}
use Rattle.compiled_code.specs.Places.{slots_after, slots_after_row, add_size, form_size, row_size, arms_size, last_size}
use Rattle.accepted_code.proofs.Spelled.{FormSpelled, RowSpelled, ArmsSpelled, LastSpelled, BlocksSpelled}

-- ---- some of the tokens of a tree

abbrev mutual
  -- of an expression
  pub value_tokens : Node → ℕ
  value_tokens (Number z) = 1
  value_tokens (Truth b) = 1
  value_tokens (Read place) = place_tokens place
  value_tokens (CallOf call) = call_tokens call
  value_tokens (Unary' op shape a) = boxed_tokens a + 1
  value_tokens (Binary' op shape a shape' b) = boxed_tokens a + boxed_tokens b + 1
  value_tokens (Paren' shape a) = boxed_tokens a

  pub place_tokens : Place → ℕ
  place_tokens (Place' name None') = 1
  place_tokens (Place' name (Some' shape i)) = boxed_tokens i + 1

  pub call_tokens : Call → ℕ
  call_tokens (Call' name shape args) = values_tokens args + 1

  pub boxed_tokens : {n : _} → Row_of-Expr n → ℕ
  boxed_tokens end_of-Expr = 0
  boxed_tokens (more_of-Expr at node rest) = value_tokens node

  pub values_tokens : {n : _} → Row_of-Expr n → ℕ
  values_tokens end_of-Expr = 0
  values_tokens (more_of-Expr at node rest) = value_tokens node + values_tokens rest

abbrev pub expr_tokens : Expr → ℕ
expr_tokens e = value_tokens e.node

abbrev pub returned_tokens : Option Expr → ℕ
returned_tokens None = 0
returned_tokens (Some e) = expr_tokens e

abbrev pub item_tokens : Item → ℕ
item_tokens (item.Text t) = 1
item_tokens (item.Value e) = expr_tokens e

abbrev pub items_tokens : List Item → ℕ
items_tokens [] = 0
items_tokens (x ∷ rest) = item_tokens x + items_tokens rest

abbrev mutual
  -- of a statement
  pub form_tokens : Form → ℕ
  form_tokens (Declare ty name e) = expr_tokens e + 1
  form_tokens (Set place e) = place_tokens place + expr_tokens e + 1
  form_tokens (AddTo place e) = place_tokens place + expr_tokens e + 1
  form_tokens (If' shape arms last) = arms_tokens arms + last_tokens last
  form_tokens (While' test shape body) = expr_tokens test + row_tokens body + 1
  form_tokens (For' shape first test shape' next shape'' body) = row_tokens first + expr_tokens test + row_tokens next + row_tokens body + 1
  form_tokens Break = 1
  form_tokens Continue = 1
  form_tokens (Return given) = returned_tokens given + 1
  form_tokens (form.CallOf call) = call_tokens call
  form_tokens (Assert e) = expr_tokens e + 1
  form_tokens (Block' shape body) = row_tokens body
  form_tokens (Print items) = items_tokens items + 1
  form_tokens (Par' shape blocks) = blocks_tokens blocks + 1

  pub row_tokens : {n : _} → Row_of-Stmt n → ℕ
  row_tokens end_of-Stmt = 0
  row_tokens (more_of-Stmt at form rest) = form_tokens form + row_tokens rest

  pub arms_tokens : {n : _} → Row_of-Arm n → ℕ
  arms_tokens end_of-Arm = 0
  arms_tokens (more_of-Arm (Arm' test shape body) rest) = expr_tokens test + row_tokens body + 1 + arms_tokens rest

  pub last_tokens : Held-Form-If-1 → ℕ
  last_tokens form.None' = 0
  last_tokens (form.Some' shape body) = row_tokens body

  pub blocks_tokens : {n : _} → Row_of-RoutineBlock n → ℕ
  blocks_tokens end_of-RoutineBlock = 0
  blocks_tokens (more_of-RoutineBlock (RoutineBlock' at width width_name id_name shape body) rest) = expr_tokens width + row_tokens body + 1 + blocks_tokens rest

abbrev pub arm_tokens : Arm → ℕ
arm_tokens (Arm' test shape body) = expr_tokens test + row_tokens body + 1

abbrev pub block_tokens : RoutineBlock → ℕ
block_tokens (RoutineBlock' at width width_name id_name shape body) = expr_tokens width + row_tokens body + 1

arms_more : {n : _} (a : Arm) (others : Row_of-Arm n) → arms_tokens (more_of-Arm a others) ≡ arm_tokens a + arms_tokens others
arms_more (Arm' test shape body) others = refl

blocks_more : {n : _} (r : RoutineBlock) (others : Row_of-RoutineBlock n) → blocks_tokens (more_of-RoutineBlock r others) ≡ block_tokens r + blocks_tokens others
blocks_more (RoutineBlock' at width width_name id_name shape body) others = refl

-- ---- they are among the tokens that spell the tree

mutual
  unfolding shape-the_row-Expr-0 hidden-the_row-Expr-0 shape-the_row-Expr-1 hidden-the_row-Expr-1 roll-Place roll-Call hidden roll

  pub expr_counted : {level : ℕ} {tokens rest : List Token} {e : Expr} → SpellsExpr level tokens rest e → expr_tokens e + length rest ≤ length tokens
  expr_counted (chain d c) = omega (arith, expr_counted d, chain_counted c)
  expr_counted (prefixed k d) = omega (arith, expr_counted d)
  expr_counted (number k) = omega arith
  expr_counted (truth k) = omega arith
  expr_counted (named k) = omega arith
  expr_counted (indexed k o d c) = omega (arith, expr_counted d)
  expr_counted (called k o d c) = omega (arith, arguments_counted d)
  expr_counted (paren k d c) = omega (arith, expr_counted d)

  pub chain_counted : {level : ℕ} {left e : Expr} {tokens rest : List Token} → SpellsChain level left tokens rest e → expr_tokens e + length rest ≤ expr_tokens left + length tokens
  chain_counted ends = omega arith
  chain_counted (goes_on at k d c) = omega (arith, expr_counted d, chain_counted c)

  pub arguments_counted : {tokens rest : List Token} {es : List Expr} → SpellsArguments tokens rest es → values_tokens (hidden-the_row-Expr-1 es) + length rest ≤ length tokens
  arguments_counted nothing = omega arith
  arguments_counted (something d m) = omega (arith, expr_counted d, more_counted m)

  pub more_counted : {tokens rest : List Token} {es : List Expr} → SpellsMore tokens rest es → values_tokens (hidden-the_row-Expr-1 es) + length rest ≤ length tokens
  more_counted no_more = omega arith
  more_counted (more k d m) = omega (arith, expr_counted d, more_counted m)

place_counted : {tokens rest : List Token} {p : Place} → SpellsPlace tokens rest p → place_tokens p + length rest ≤ length tokens
unfolding shape-the_row-Expr-0 hidden-the_row-Expr-0 roll-Place hidden roll
place_counted (grammar.bare k) = omega arith
place_counted (grammar.indexed k b d c) = omega (arith, expr_counted d)

call_counted : {tokens rest : List Token} {q : Call} → SpellsCall tokens rest q → call_tokens q + length rest ≤ length tokens
unfolding shape-the_row-Expr-1 hidden-the_row-Expr-1 roll-Call hidden roll
call_counted (grammar.called k b d c) = omega (arith, arguments_counted d)

decl_counted : {tokens rest : List Token} {s : Stmt} → SpellsDecl tokens rest s → form_tokens s.form + length rest ≤ length tokens
decl_counted (grammar.declare k i a d) = omega (arith, expr_counted d)

change_counted : {tokens rest : List Token} {s : Stmt} → SpellsChange tokens rest s → form_tokens s.form + length rest ≤ length tokens
change_counted (grammar.set p k d) = omega (arith, place_counted p, expr_counted d)
change_counted (grammar.add_to p k d) = omega (arith, place_counted p, expr_counted d)

start_counted : {tokens rest : List Token} {s : Stmt} → SpellsStart tokens rest s → form_tokens s.form + length rest ≤ length tokens
start_counted (grammar.declares d) = decl_counted d
start_counted (grammar.changes d) = change_counted d

item_counted : {tokens rest : List Token} {x : Item} → SpellsItem tokens rest x → item_tokens x + length rest ≤ length tokens
item_counted (grammar.text k) = omega arith
item_counted (grammar.value d) = expr_counted d

more_items_counted : {tokens rest : List Token} {xs : List Item} → MoreOf SpellsItem tokens rest xs → items_tokens xs + length rest ≤ length tokens
more_items_counted grammar.no_more = omega arith
more_items_counted (grammar.more k d m) = omega (arith, item_counted d, more_items_counted m)

items_counted : {tokens rest : List Token} {xs : List Item} → ListOf SpellsItem tokens rest xs → items_tokens xs + length rest ≤ length tokens
items_counted grammar.nothing = omega arith
items_counted (grammar.something d m) = omega (arith, item_counted d, more_items_counted m)

mutual
  unfolding shape-the_row-Stmt-1 hidden-the_row-Stmt-1 shape-the_row-Stmt-2 hidden-the_row-Stmt-2 shape-the_row-Arm-0 hidden-the_row-Arm-0 shape-the_row-RoutineBlock-3 hidden-the_row-RoutineBlock-3
      roll-Arm roll-RoutineBlock hidden roll

  pub stmt_counted : {tokens rest : List Token} {s : Stmt} → SpellsStmt tokens rest s → form_tokens s.form + length rest ≤ length tokens
  stmt_counted (grammar.declared d k) = omega (arith, decl_counted d)
  stmt_counted (grammar.changed d k) = omega (arith, change_counted d)
  stmt_counted (grammar.calls d k) = omega (arith, call_counted d)
  stmt_counted (grammar.block d) = block_counted d
  stmt_counted (grammar.if_else {a = a} {arms = arms} k d l) = omega (arith, arm_counted d, else_counted l, arms_more a (hidden-the_row-Arm-0 arms))
  stmt_counted (grammar.while_loop k b d c body) = omega (arith, expr_counted d, block_counted body)
  stmt_counted (grammar.for_loop k b a s t u x c body) = omega (arith, start_counted a, expr_counted t, change_counted x, block_counted body)
  stmt_counted (grammar.break_out k s) = omega arith
  stmt_counted (grammar.goes_on k s) = omega arith
  stmt_counted (grammar.returns k s) = omega arith
  stmt_counted (grammar.returns_value k d s) = omega (arith, expr_counted d)
  stmt_counted (grammar.asserts k b d c s) = omega (arith, expr_counted d)
  stmt_counted (grammar.prints k b d c s) = omega (arith, items_counted d)
  stmt_counted (grammar.parallel {r = r} {rs = rs} k d ds l s) = omega (arith, routine_counted d, routines_counted ds, blocks_more r (hidden-the_row-RoutineBlock-3 rs))

  pub block_counted : {tokens rest : List Token} {body : List Stmt} → SpellsBlock tokens rest body → row_tokens (hidden-the_row-Stmt-1 body) + length rest ≤ length tokens
  block_counted (grammar.braces o d c) = omega (arith, stmts_counted d)

  pub stmts_counted : {tokens rest : List Token} {body : List Stmt} → SpellsStmts tokens rest body → row_tokens (hidden-the_row-Stmt-1 body) + length rest ≤ length tokens
  stmts_counted grammar.none = omega arith
  stmts_counted (grammar.one_more d m) = omega (arith, stmt_counted d, stmts_counted m)

  pub arm_counted : {tokens rest : List Token} {a : Arm} → SpellsArm tokens rest a → arm_tokens a + length rest ≤ length tokens
  arm_counted (grammar.tested o d c b) = omega (arith, expr_counted d, block_counted b)

  pub else_counted : {tokens rest : List Token} {arms : List Arm} {last : Option (List Stmt)} → SpellsElse tokens rest arms last
      → arms_tokens (hidden-the_row-Arm-0 arms) + last_tokens (back-Form-If-1 last) + length rest ≤ length tokens
  else_counted grammar.no_else = omega arith
  else_counted (grammar.else_if {a = a} {arms = arms} k i d l) = omega (arith, arm_counted d, else_counted l, arms_more a (hidden-the_row-Arm-0 arms))
  else_counted (grammar.else_block k b) = omega (arith, block_counted b)

  pub routine_counted : {tokens rest : List Token} {r : RoutineBlock} → SpellsRoutine tokens rest r → block_tokens r + length rest ≤ length tokens
  routine_counted (grammar.routine k o d c p i a m j b q body) = omega (arith, expr_counted d, block_counted body)

  pub routines_counted : {tokens rest : List Token} {rs : List RoutineBlock} → SpellsRoutines tokens rest rs → blocks_tokens (hidden-the_row-RoutineBlock-3 rs) + length rest ≤ length tokens
  routines_counted grammar.no_routine = omega arith
  routines_counted (grammar.one_routine {r = r} {rs = rs} d ds) = omega (arith, routine_counted d, routines_counted ds, blocks_more r (hidden-the_row-RoutineBlock-3 rs))

-- ---- at most four instructions for each

operator_bounded : (op : BinaryOp) → operator_size op ≤ 3
operator_bounded binary_op.And = omega arith
operator_bounded binary_op.Or = omega arith
operator_bounded _ = omega arith

drop_bounded : (g : Gives) → drop_size g ≤ 1
drop_bounded gives.Nothing = omega arith
drop_bounded gives.Int = omega arith
drop_bounded gives.Bool = omega arith

add_bounded : (s : Option Slot) → add_size s ≤ 3
add_bounded None = omega arith
add_bounded (Some s) = omega arith

mutual
  pub value_bounded : (n : Node) → value_size n ≤ 4 * value_tokens n
  value_bounded (Number z) = omega arith
  value_bounded (Truth b) = omega arith
  value_bounded (Read (Place' name None')) = omega arith
  value_bounded (Read (Place' name (Some' shape i))) = omega (arith, boxed_bounded i)
  value_bounded (CallOf (Call' name shape args)) = omega (arith, values_bounded args)
  value_bounded (Unary' op shape a) = omega (arith, boxed_bounded a)
  value_bounded (Binary' op shape a shape' b) = omega (arith, boxed_bounded a, boxed_bounded b, operator_bounded op)
  value_bounded (Paren' shape a) = boxed_bounded a

  pub boxed_bounded : {n : _} (a : Row_of-Expr n) → boxed_size a ≤ 4 * boxed_tokens a
  boxed_bounded end_of-Expr = omega arith
  boxed_bounded (more_of-Expr at node rest) = value_bounded node

  pub values_bounded : {n : _} (args : Row_of-Expr n) → values_size args ≤ 4 * values_tokens args
  values_bounded end_of-Expr = omega arith
  values_bounded (more_of-Expr at node rest) = omega (arith, value_bounded node, values_bounded rest)

place_bounded : (place : Place) → place_size place ≤ 4 * place_tokens place
place_bounded (Place' name None') = omega arith
place_bounded (Place' name (Some' shape i)) = omega (arith, boxed_bounded i)

expr_bounded : (e : Expr) → size_of e ≤ 4 * expr_tokens e
expr_bounded e = value_bounded e.node

returned_bounded : (given : Option Expr) → returned_size given ≤ 4 * returned_tokens given
returned_bounded None = omega arith
returned_bounded (Some e) = expr_bounded e

items_bounded : (items : List Item) → items_size items ≤ 4 * items_tokens items
items_bounded [] = omega arith
items_bounded (item.Text t ∷ rest) = omega (arith, items_bounded rest)
items_bounded (item.Value e ∷ rest) = omega (arith, expr_bounded e, items_bounded rest)

widths_bounded : {n : _} (blocks : Row_of-RoutineBlock n) → widths_size (blocks_in blocks) ≤ 4 * blocks_tokens blocks
widths_bounded end_of-RoutineBlock = omega arith
widths_bounded (more_of-RoutineBlock (RoutineBlock' at width width_name id_name shape body) rest) = omega (arith, expr_bounded width, widths_bounded rest)

module _ (p : Program) where
  mutual
    pub form_bounded : (f : Form) (slots : Slots) (slot : ℕ) → form_size p f slots slot ≤ 4 * form_tokens f
    form_bounded (Declare ty name e) slots slot = omega (arith, expr_bounded e)
    form_bounded (Set place e) slots slot = omega (arith, place_bounded place, expr_bounded e)
    form_bounded (AddTo (Place' name None') e) slots slot = omega (arith, expr_bounded e, add_bounded (slot_of slots name.text))
    form_bounded (AddTo (Place' name (Some' shape index)) e) slots slot = omega (arith, boxed_bounded index, expr_bounded e)
    form_bounded (If' shape arms last) slots slot = omega (arith, arms_bounded arms slots slot, last_bounded last slots (slot + length (kinds_in_arms arms)))
    form_bounded (While' test shape body) slots slot = omega (arith, expr_bounded test, row_bounded body slots slot)
    form_bounded (For' shape first test shape' next shape'' body) slots slot =
        let inner : Slots = slots_after_row slots slot first in
        omega (arith, row_bounded first slots slot, expr_bounded test, row_bounded body inner (slot + length (kinds_in_row first)), row_bounded next inner (slot + length (kinds_in_row first) + length (kinds_in_row body)))
    form_bounded Break slots slot = omega arith
    form_bounded Continue slots slot = omega arith
    form_bounded (Return given) slots slot = omega (arith, returned_bounded given)
    form_bounded (form.CallOf (Call' name shape args)) slots slot = omega (arith, values_bounded args, drop_bounded (given_by (function_named p.functions name.text)))
    form_bounded (Assert e) slots slot = omega (arith, expr_bounded e)
    form_bounded (Block' shape body) slots slot = row_bounded body slots slot
    form_bounded (Print items) slots slot = omega (arith, items_bounded items)
    form_bounded (Par' shape blocks) slots slot = omega (arith, widths_bounded blocks)

    pub row_bounded : {n : _} (row : Row_of-Stmt n) (slots : Slots) (slot : ℕ) → row_size p row slots slot ≤ 4 * row_tokens row
    row_bounded end_of-Stmt slots slot = omega arith
    row_bounded (more_of-Stmt at form rest) slots slot = omega (arith, form_bounded form slots slot, row_bounded rest (slots_after slots slot form) (slot + length (kinds_in form)))

    pub arms_bounded : {n : _} (arms : Row_of-Arm n) (slots : Slots) (slot : ℕ) → arms_size p arms slots slot ≤ 4 * arms_tokens arms
    arms_bounded end_of-Arm slots slot = omega arith
    arms_bounded (more_of-Arm (Arm' test shape body) rest) slots slot = omega (arith, expr_bounded test, row_bounded body slots slot, arms_bounded rest slots (slot + length (kinds_in_row body)))

    pub last_bounded : (last : Held-Form-If-1) (slots : Slots) (slot : ℕ) → last_size p last slots slot ≤ 4 * last_tokens last
    last_bounded form.None' slots slot = omega arith
    last_bounded (form.Some' shape body) slots slot = row_bounded body slots slot

-- ---- at most one text for each

item_texts_bounded : (items : List Item) → length (item_texts items) ≤ items_tokens items
item_texts_bounded [] = omega arith
item_texts_bounded (item.Text t ∷ rest) = omega (arith, item_texts_bounded rest)
item_texts_bounded (item.Value e ∷ rest) = omega (arith, item_texts_bounded rest)

mutual
  pub texts_bounded : (f : Form) → length (texts_in f) ≤ form_tokens f
  texts_bounded (Print items) = omega (arith, item_texts_bounded items)
  texts_bounded (If' shape arms last) = omega (arith, arm_texts_bounded arms, last_texts_bounded last, length-append (texts_in_arms arms) (texts_in_last last))
  texts_bounded (While' test shape body) = omega (arith, row_texts_bounded body)
  texts_bounded (For' shape first test shape' next shape'' body) = omega (arith, row_texts_bounded body)
  texts_bounded (Block' shape body) = row_texts_bounded body
  texts_bounded _ = omega arith

  pub row_texts_bounded : {n : _} (row : Row_of-Stmt n) → length (texts_in_row row) ≤ row_tokens row
  row_texts_bounded end_of-Stmt = omega arith
  row_texts_bounded (more_of-Stmt at form rest) = omega (arith, texts_bounded form, row_texts_bounded rest, length-append (texts_in form) (texts_in_row rest))

  pub arm_texts_bounded : {n : _} (arms : Row_of-Arm n) → length (texts_in_arms arms) ≤ arms_tokens arms
  arm_texts_bounded end_of-Arm = omega arith
  arm_texts_bounded (more_of-Arm (Arm' test shape body) rest) = omega (arith, row_texts_bounded body, arm_texts_bounded rest, length-append (texts_in_row body) (texts_in_arms rest))

  pub last_texts_bounded : (last : Held-Form-If-1) → length (texts_in_last last) ≤ last_tokens last
  last_texts_bounded form.None' = omega arith
  last_texts_bounded (form.Some' shape body) = row_texts_bounded body

-- ---- at most one routine block for each

blocks_bounded : {n : _} (blocks : Row_of-RoutineBlock n) → length (blocks_in blocks) ≤ blocks_tokens blocks
blocks_bounded end_of-RoutineBlock = omega arith
blocks_bounded (more_of-RoutineBlock (RoutineBlock' at width width_name id_name shape body) rest) = omega (arith, blocks_bounded rest)

mutual
  pub steps_bounded : (f : Form) → length (steps_in f) ≤ form_tokens f
  steps_bounded (Par' shape blocks) = omega (arith, blocks_bounded blocks)
  steps_bounded (If' shape arms last) = omega (arith, arm_steps_bounded arms, last_steps_bounded last, length-append (steps_in_arms arms) (steps_in_last last))
  steps_bounded (While' test shape body) = omega (arith, row_steps_bounded body)
  steps_bounded (For' shape first test shape' next shape'' body) = omega (arith, row_steps_bounded body)
  steps_bounded (Block' shape body) = row_steps_bounded body
  steps_bounded _ = omega arith

  pub row_steps_bounded : {n : _} (row : Row_of-Stmt n) → length (steps_in_row row) ≤ row_tokens row
  row_steps_bounded end_of-Stmt = omega arith
  row_steps_bounded (more_of-Stmt at form rest) = omega (arith, steps_bounded form, row_steps_bounded rest, length-append (steps_in form) (steps_in_row rest))

  pub arm_steps_bounded : {n : _} (arms : Row_of-Arm n) → length (steps_in_arms arms) ≤ arms_tokens arms
  arm_steps_bounded end_of-Arm = omega arith
  arm_steps_bounded (more_of-Arm (Arm' test shape body) rest) = omega (arith, row_steps_bounded body, arm_steps_bounded rest, length-append (steps_in_row body) (steps_in_arms rest))

  pub last_steps_bounded : (last : Held-Form-If-1) → length (steps_in_last last) ≤ last_tokens last
  last_steps_bounded form.None' = omega arith
  last_steps_bounded (form.Some' shape body) = row_steps_bounded body

-- ---- the routine blocks of the steps of a statement

-- its body is spelled, its code has at most so many instructions, and it prints at most so many texts and opens at most so many routine blocks
abbrev pub RoutineFits : Program → ℕ → RoutineBlock → Type 0
RoutineFits p limit (RoutineBlock' at width width_name id_name shape body) = RowSpelled body × ((slots : Slots) (slot : ℕ) → row_size p body slots slot ≤ limit) × (length (texts_in_row body) ≤ limit)
    × (length (steps_in_row body) ≤ limit)

pub record RoutinesFit (p : Program) (limit : ℕ) (blocks : List RoutineBlock) : Type 0 where
  pub each : AllByRecursion (RoutineFits p limit) blocks

none_fit : {p : Program} {limit : ℕ} → RoutinesFit p limit []
none_fit = record { each = tt }

both_fit : {p : Program} {limit : ℕ} {xs ys : List RoutineBlock} → RoutinesFit p limit xs → RoutinesFit p limit ys → RoutinesFit p limit (xs ++ ys)
both_fit {p = p} {limit = limit} {xs = xs} {ys = ys} a b = record { each = by xs a.each }
  where
    by : (zs : List RoutineBlock) → AllByRecursion (RoutineFits p limit) zs → AllByRecursion (RoutineFits p limit) (zs ++ ys)
    by [] h = b.each
    by (z ∷ zs) h = (h.0, by zs h.1)

module _ (p : Program) (limit : ℕ) where
  blocks_fit : {n : _} (blocks : Row_of-RoutineBlock n) → BlocksSpelled blocks → 4 * blocks_tokens blocks ≤ limit → RoutinesFit p limit (blocks_in blocks)
  blocks_fit end_of-RoutineBlock h small = none_fit
  blocks_fit (more_of-RoutineBlock (RoutineBlock' at width width_name id_name shape body) rest) h small =
      record { each = ((h.1, λ slots slot. omega (arith, small, row_bounded p body slots slot), omega (arith, small, row_texts_bounded body), omega (arith, small, row_steps_bounded body)), (blocks_fit rest h.2 (omega (arith, small))).each) }

  mutual
    pub steps_fit : (f : Form) → FormSpelled f → 4 * form_tokens f ≤ limit → RoutinesFit p limit (steps_in f)
    steps_fit (Par' shape blocks) h small = blocks_fit blocks h.1 (omega (arith, small))
    steps_fit (If' shape arms last) h small = both_fit (arm_steps_fit arms h.0 (omega (arith, small))) (last_steps_fit last h.1 (omega (arith, small)))
    steps_fit (While' test shape body) h small = row_steps_fit body h.1 (omega (arith, small))
    steps_fit (For' shape first test shape' next shape'' body) h small = row_steps_fit body h.3 (omega (arith, small))
    steps_fit (Block' shape body) h small = row_steps_fit body h small
    steps_fit _ h small = none_fit

    pub row_steps_fit : {n : _} (row : Row_of-Stmt n) → RowSpelled row → 4 * row_tokens row ≤ limit → RoutinesFit p limit (steps_in_row row)
    row_steps_fit end_of-Stmt h small = none_fit
    row_steps_fit (more_of-Stmt at form rest) h small = both_fit (steps_fit form h.0 (omega (arith, small))) (row_steps_fit rest h.1 (omega (arith, small)))

    pub arm_steps_fit : {n : _} (arms : Row_of-Arm n) → ArmsSpelled arms → 4 * arms_tokens arms ≤ limit → RoutinesFit p limit (steps_in_arms arms)
    arm_steps_fit end_of-Arm h small = none_fit
    arm_steps_fit (more_of-Arm (Arm' test shape body) rest) h small = both_fit (row_steps_fit body h.1 (omega (arith, small))) (arm_steps_fit rest h.2 (omega (arith, small)))

    pub last_steps_fit : (last : Held-Form-If-1) → LastSpelled last → 4 * last_tokens last ≤ limit → RoutinesFit p limit (steps_in_last last)
    last_steps_fit form.None' h small = none_fit
    last_steps_fit (form.Some' shape body) h small = row_steps_fit body h small
