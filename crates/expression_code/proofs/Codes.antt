-- The code of expressions at the tree's own constructors, and code behind code.
use Rattle.std.proofs.Common.{◌≡◌, ℕ, ◌+◌, ◌<◌, List, [], ◌∷◌, ◌++◌, length, get_or, drop, Some, None, refl, sym, ap, ◌∙◌, append_assoc, length-append}
use denote.Hole.Carrier.{hidden}
use Rattle.csl_tree.specs.declared.name.Name.{Name}
use Rattle.csl_tree.specs.declared.program.Program.{Program}
use Rattle.csl_tree.specs.declared.program.UnaryOp.{UnaryOp}
use Rattle.csl_tree.specs.declared.program.BinaryOp.{BinaryOp}
use Rattle.csl_tree.specs.declared.program.BinaryOp.TheVariants.{And, Or}
use Rattle.csl_tree.specs.declared.program.Expr.{Expr}
use Rattle.csl_tree.specs.declared.program.Node.{Node}
use Rattle.csl_tree.specs.declared.program.Node.TheVariants as node
use Rattle.csl_tree.specs.declared.program.Node.TheBlock.{shape-the_row-Expr-0, hidden-the_row-Expr-0, shape-the_row-Expr-1, hidden-the_row-Expr-1, back-Place-index}
use Rattle.csl_tree.specs.declared.program.Place.{Place, Place', out-Place, is-Place'}
use Rattle.csl_tree.specs.declared.program.Call.{Call, out-Call, is-Call'}
use Rattle.csl_tree.specs.declared.program.Item.{Item}
use Rattle.csl_tree.specs.declared.program.Item.TheVariants as item
use Rattle.csl_tree.specs.declared.program.RoutineBlock.{RoutineBlock, out-RoutineBlock, is-RoutineBlock'}
use Rattle.csl_meaning.specs.Layout.{area_of}
use Rattle.csl_meaning.specs.Value.{declared}
use Rattle.bytecode.specs.declared.instr.Instr.{Instr}
use Rattle.bytecode.specs.declared.instr.Instr.TheVariants as i
use Rattle.cal_terms.proofs.Lists.{next_item}
use Rattle.compiled_code.specs.Slots.{Slots, slot_of}
use Rattle.compiled_code.specs.Sizes.{size_of}
use Rattle.compiled_code.specs.Values.{unary_instr, binary_instr, binary_code, read_instr, item_instr, function_number, value_code, read_code, call_code, values_code, code_of, kind_in}
use Rattle.compiled_code.specs.Statements.{items_code, widths_code}
use Rattle.compiled_code.proofs.Lengths.{expr_length}
use Rattle.expression_code.specs.Lists.{codes_of, right_code}

-- code, and then other code
pub further : (l m n xs ys : List Instr) → m ≡ l ++ xs → n ≡ m ++ ys → n ≡ l ++ (xs ++ ys)
further l m n xs ys first next = next ∙ ap (λ k. k ++ ys) first ∙ append_assoc l xs ys

-- the operator and the right operand stand behind the left one
binary_is : (op : BinaryOp) (at n k : ℕ) (left : List Instr) (right : ℕ → List Instr) → binary_code op at n k left right ≡ left ++ right_code op (at + n) k right
binary_is And at n k left right = append_assoc left (i.Branch (at + n + 1 + k + 1) ∷ right (at + n + 1)) (i.Jump (at + n + 1 + k + 2) ∷ i.False ∷ [])
binary_is Or at n k left right = refl
binary_is op at n k left right = append_assoc left (right (at + n)) (binary_instr op ∷ [])

module _ (p : Program) (slots : Slots) where
  -- where code goes on behind an expression
  pub ends_at : (e : Expr) (l m : List Instr) → m ≡ l ++ code_of p slots e (length l) → length m ≡ length l + size_of e
  ends_at e l m is = ap length is ∙ length-append l (code_of p slots e (length l)) ∙ ap (λ k. length l + k) (expr_length p slots e (length l))

  pub code_unary : (n : Node) (op : UnaryOp) (a : Expr) (at : ℕ) → n ≡ node.Unary op a → value_code p slots n at ≡ code_of p slots a at ++ unary_instr op ∷ []
  unfolding shape-the_row-Expr-0 hidden-the_row-Expr-0 hidden
  code_unary n op a at e = ap (λ m. value_code p slots m at) e

  pub code_binary : (n : Node) (op : BinaryOp) (a b : Expr) (at : ℕ) → n ≡ node.Binary op a b
      → value_code p slots n at ≡ code_of p slots a at ++ right_code op (at + size_of a) (size_of b) (λ there. code_of p slots b there)
  unfolding shape-the_row-Expr-0 hidden-the_row-Expr-0 hidden
  code_binary n op a b at e =
      ap (λ m. value_code p slots m at) e
      ∙ binary_is op at (size_of a) (size_of b) (code_of p slots a at) (λ there. code_of p slots b there)

  pub code_paren : (n : Node) (a : Expr) (at : ℕ) → n ≡ node.Paren a → value_code p slots n at ≡ code_of p slots a at
  unfolding shape-the_row-Expr-0 hidden-the_row-Expr-0 hidden
  code_paren n a at e = ap (λ m. value_code p slots m at) e

  -- a right operand behind its left one
  pub right_written : (op : BinaryOp) (a b : Expr) (l m k : List Instr) → m ≡ l ++ code_of p slots a (length l)
      → k ≡ m ++ right_code op (length m) (size_of b) (λ there. code_of p slots b there)
      → k ≡ l ++ (code_of p slots a (length l) ++ right_code op (length l + size_of a) (size_of b) (λ there. code_of p slots b there))
  right_written op a b l m k left right =
      further l m k (code_of p slots a (length l)) (right_code op (length l + size_of a) (size_of b) (λ there. code_of p slots b there)) left
      (right ∙ ap (λ at. m ++ right_code op at (size_of b) (λ there. code_of p slots b there)) (ends_at a l m left))

  pub read_name : (q : Place) (at : ℕ) → (out-Place q).index ≡ None
      → read_code p slots q at ≡ read_instr (slot_of slots (out-Place q).name.text) (declared (area_of p.shared (out-Place q).name.text)) ∷ []
  unfolding shape-the_row-Expr-0 hidden-the_row-Expr-0 hidden
  read_name q at e = ap (λ r. read_code p slots r at) (is-Place' q) ∙ ap (λ j. read_code p slots (Place' (out-Place q).name (back-Place-index j)) at) e

  pub read_item : (q : Place) (j : Expr) (at : ℕ) → (out-Place q).index ≡ Some j
      → read_code p slots q at ≡ code_of p slots j at ++ item_instr (declared (area_of p.shared (out-Place q).name.text)) ∷ []
  unfolding shape-the_row-Expr-0 hidden-the_row-Expr-0 hidden
  read_item q j at e = ap (λ r. read_code p slots r at) (is-Place' q) ∙ ap (λ k. read_code p slots (Place' (out-Place q).name (back-Place-index k)) at) e

  values_are : (args : List Expr) (at : ℕ) → values_code p slots (hidden-the_row-Expr-1 args) at ≡ codes_of p slots args at
  unfolding shape-the_row-Expr-1 hidden-the_row-Expr-1 hidden
  values_are [] at = refl
  values_are (e ∷ rest) at = ap (λ r. code_of p slots e at ++ r) (values_are rest (at + size_of e))

  pub code_call : (q : Call) (at : ℕ) → call_code p slots q at ≡ codes_of p slots (out-Call q).args at ++ i.Call (function_number p.functions (out-Call q).name.text) ∷ []
  code_call q at =
      ap (λ r. call_code p slots r at) (is-Call' q)
      ∙ ap (λ r. r ++ i.Call (function_number p.functions (out-Call q).name.text) ∷ []) (values_are (out-Call q).args at)

  -- the next expression of several
  pub codes_next : (args : List Expr) (index : ℕ) (e : Expr) (l m whole : List Instr) → index < length args → e ≡ get_or args index e
      → m ≡ l ++ code_of p slots e (length l) → l ++ codes_of p slots (drop index args) (length l) ≡ whole
      → m ++ codes_of p slots (drop (index + 1) args) (length m) ≡ whole
  codes_next args index e l m whole within at is so_far =
      let rest = drop (index + 1) args in
      (λ j. is j ++ codes_of p slots rest (ends_at e l m is j))
      ∙ append_assoc l (code_of p slots e (length l)) (codes_of p slots rest (length l + size_of e))
      ∙ ap (λ r. l ++ codes_of p slots r (length l)) (sym (next_item args index e within at))
      ∙ so_far

  -- the next value of a line
  pub items_value : (items : List Item) (index : ℕ) (it : Item) (e : Expr) (l m whole : List Instr) → index < length items → it ≡ get_or items index it
      → it ≡ item.Value e → m ≡ l ++ code_of p slots e (length l) → l ++ items_code p slots (drop index items) (length l) ≡ whole
      → m ++ items_code p slots (drop (index + 1) items) (length m) ≡ whole
  items_value items index it e l m whole within at value is so_far =
      let rest = drop (index + 1) items in
      (λ j. is j ++ items_code p slots rest (ends_at e l m is j))
      ∙ append_assoc l (code_of p slots e (length l)) (items_code p slots rest (length l + size_of e))
      ∙ ap (λ x. l ++ items_code p slots (x ∷ rest) (length l)) (sym value)
      ∙ ap (λ r. l ++ items_code p slots r (length l)) (sym (next_item items index it within at))
      ∙ so_far

  -- a text has no code
  pub items_text : (items : List Item) (index : ℕ) (it : Item) (name : Name) (l m whole : List Instr) → index < length items → it ≡ get_or items index it
      → it ≡ item.Text name → m ≡ l → l ++ items_code p slots (drop index items) (length l) ≡ whole
      → m ++ items_code p slots (drop (index + 1) items) (length m) ≡ whole
  items_text items index it name l m whole within at text is so_far =
      let rest = drop (index + 1) items in
      ap (λ k. k ++ items_code p slots rest (length k)) is
      ∙ ap (λ x. l ++ items_code p slots (x ∷ rest) (length l)) (sym text)
      ∙ ap (λ r. l ++ items_code p slots r (length l)) (sym (next_item items index it within at))
      ∙ so_far

  -- the next width of a step
  pub widths_next : (blocks : List RoutineBlock) (index : ℕ) (b : RoutineBlock) (l m whole : List Instr) → index < length blocks → b ≡ get_or blocks index b
      → m ≡ l ++ code_of p slots (out-RoutineBlock b).width (length l) → l ++ widths_code p slots (drop index blocks) (length l) ≡ whole
      → m ++ widths_code p slots (drop (index + 1) blocks) (length m) ≡ whole
  widths_next blocks index b l m whole within at is so_far =
      let rest = drop (index + 1) blocks in
      let width = (out-RoutineBlock b).width in
      (λ j. is j ++ widths_code p slots rest (ends_at width l m is j))
      ∙ append_assoc l (code_of p slots width (length l)) (widths_code p slots rest (length l + size_of width))
      ∙ ap (λ x. l ++ widths_code p slots (x ∷ rest) (length l)) (sym (is-RoutineBlock' b))
      ∙ ap (λ r. l ++ widths_code p slots r (length l)) (sym (next_item blocks index b within at))
      ∙ so_far

  pub kind_paren : (n : Node) (a : Expr) → n ≡ node.Paren a → kind_in p slots n ≡ kind_in p slots a.node
  unfolding shape-the_row-Expr-0 hidden-the_row-Expr-0 hidden
  kind_paren n a e = ap (kind_in p slots) e
