-- Sizes of statements at the tree's own constructors.
use Rattle.std.proofs.Common.{◌≡◌, ℕ, ◌+◌, length, List, [], ◌∷◌, Option, Some, None, refl, sym, ap, ◌∙◌, arith}
use denote.Hole.Carrier.{hidden}
use Rattle.csl_tree.specs.declared.program.Program.{Program}
use Rattle.csl_tree.specs.declared.program.Expr.{Expr}
use Rattle.csl_tree.specs.declared.program.Stmt.{Stmt}
use Rattle.csl_tree.specs.declared.program.Arm.{Arm, out-Arm, is-Arm'}
use Rattle.csl_tree.specs.declared.program.RoutineBlock.{RoutineBlock}
use Rattle.csl_tree.specs.declared.program.Form.{Form, more_of-Arm}
use Rattle.csl_tree.specs.declared.program.Form.TheVariants as form
use Rattle.csl_tree.specs.declared.program.Form.TheBlock.{shape-the_row-Stmt-1, hidden-the_row-Stmt-1, shape-the_row-Stmt-2, hidden-the_row-Stmt-2, shape-the_row-Arm-0, hidden-the_row-Arm-0}
use Rattle.compiled_code.specs.Slots.{Slots}
use Rattle.compiled_code.specs.Sizes.{size_of, widths_size, kinds_in}
use Rattle.compiled_code.specs.Places.{slots_after, form_size, row_size, arms_size}
use Rattle.expression_code.specs.Scopes.{Scoped}
use Rattle.expression_code.specs.Lists.{kinds_of, kinds_of_arms, statements_size, all_arms_size, last_block_size, for_loop_size}
use Rattle.expression_code.proofs.RowLemmas.{append_none, kinds_row, kinds_arms, blocks_is}

module _ (p : Program) where
  pub row_is : (body : List Stmt) (slots : Slots) (slot : ℕ) → row_size p (hidden-the_row-Stmt-1 body) slots slot ≡ statements_size p body slots slot
  unfolding shape-the_row-Stmt-1 hidden-the_row-Stmt-1 hidden
  row_is [] slots slot = refl
  row_is (s ∷ rest) slots slot = ap (λ n. form_size p s.form slots slot + n) (row_is rest (slots_after slots slot s.form) (slot + length (kinds_in s.form)))

  pub arms_is : (arms : List Arm) (slots : Slots) (slot : ℕ) → arms_size p (hidden-the_row-Arm-0 arms) slots slot ≡ all_arms_size p arms slots slot
  unfolding shape-the_row-Arm-0 hidden-the_row-Arm-0 hidden
  arms_is [] slots slot = refl
  arms_is (a ∷ rest) slots slot =
      ap (λ x. arms_size p (more_of-Arm x (hidden-the_row-Arm-0 rest)) slots slot) (is-Arm' a)
      ∙ (λ i. size_of (out-Arm a).test + 1 + row_is (out-Arm a).body slots slot i + 1 + arms_size p (hidden-the_row-Arm-0 rest) slots (slot + length (kinds_row (out-Arm a).body i)))
      ∙ ap (λ n. size_of (out-Arm a).test + 1 + statements_size p (out-Arm a).body slots slot + 1 + n) (arms_is rest slots (slot + length (kinds_of (out-Arm a).body)))

  pub size_if : (f : Form) (arms : List Arm) (last : Option (List Stmt)) (slots : Slots) (slot : ℕ) → f ≡ form.If arms last
      → form_size p f slots slot ≡ all_arms_size p arms slots slot + last_block_size p last slots (slot + length (kinds_of_arms arms))
  size_if f arms None slots slot e = ap (λ g. form_size p g slots slot) e ∙ ap (λ n. n + 0) (arms_is arms slots slot)
  size_if f arms (Some body) slots slot e =
      ap (λ g. form_size p g slots slot) e
      ∙ (λ i. arms_is arms slots slot i + row_size p (hidden-the_row-Stmt-1 body) slots (slot + length (kinds_arms arms i)))
      ∙ ap (λ n. all_arms_size p arms slots slot + n) (row_is body slots (slot + length (kinds_of_arms arms)))

  pub size_while : (f : Form) (test : Expr) (body : List Stmt) (slots : Slots) (slot : ℕ) → f ≡ form.While test body
      → form_size p f slots slot ≡ size_of test + 1 + statements_size p body slots slot + 1
  size_while f test body slots slot e = ap (λ g. form_size p g slots slot) e ∙ ap (λ n. size_of test + 1 + n + 1) (row_is body slots slot)

  pub size_for : (f : Form) (first : Stmt) (test : Expr) (next : Stmt) (body : List Stmt) (slots : Slots) (slot : ℕ) → f ≡ form.For first test next body
      → form_size p f slots slot ≡ for_loop_size p first.form test next.form body slots slot
  unfolding shape-the_row-Stmt-2 hidden-the_row-Stmt-2 hidden
  size_for f first test next body slots slot e =
      let inner = slots_after slots slot first.form in
      ap (λ g. form_size p g slots slot) e
      ∙ (λ i. (form_size p first.form slots slot + 0) + size_of test + 1 + row_size p (hidden-the_row-Stmt-1 body) inner (slot + length (append_none (kinds_in first.form) i))
      + (form_size p next.form inner (slot + length (append_none (kinds_in first.form) i) + length (kinds_row body i)) + 0) + 1)
      ∙ (λ i. (form_size p first.form slots slot + 0) + size_of test + 1 + row_is body inner (slot + length (kinds_in first.form)) i
      + (form_size p next.form inner (slot + length (kinds_in first.form) + length (kinds_of body)) + 0) + 1)
      ∙ (omega arith)

  pub size_block : (f : Form) (body : List Stmt) (slots : Slots) (slot : ℕ) → f ≡ form.Block body → form_size p f slots slot ≡ statements_size p body slots slot
  size_block f body slots slot e = ap (λ g. form_size p g slots slot) e ∙ row_is body slots slot

  pub size_par : (f : Form) (blocks : List RoutineBlock) (slots : Slots) (slot : ℕ) → f ≡ form.Par blocks → form_size p f slots slot ≡ widths_size blocks + 1
  size_par f blocks slots slot e = ap (λ g. form_size p g slots slot) e ∙ ap (λ b. widths_size b + 1) (blocks_is blocks)

  -- the parts of a `for`, each in the scope in which it is measured
  pub for_parts : (f : Form) (first first' : Stmt) (test : Expr) (next next' : Stmt) (body body' : List Stmt) (slots : Slots) (slot : ℕ) (one two : Scoped) → f ≡ form.For first test next body
      → first' ≡ first → next' ≡ next → body' ≡ body → one.slots ≡ slots_after slots slot first'.form → one.next ≡ slot + length (kinds_in first'.form) → two.slots ≡ one.slots
      → two.next ≡ one.next + length (kinds_of body')
      → form_size p f slots slot ≡ form_size p first'.form slots slot + size_of test + 1 + statements_size p body' one.slots one.next + form_size p next'.form two.slots two.next + 1
  for_parts f first first' test next next' body body' slots slot one two e first_is next_is body_is slots_is next_slot slots_stay next_more =
      let begins : one.next ≡ slot + length (kinds_in first.form) = next_slot ∙ ap (λ (s : Stmt). slot + length (kinds_in s.form)) first_is in
      let sees : one.slots ≡ slots_after slots slot first.form = slots_is ∙ ap (λ (s : Stmt). slots_after slots slot s.form) first_is in
      let goes_on : two.next ≡ (slot + length (kinds_in first.form)) + length (kinds_of body) = next_more ∙ (λ j. begins j + length (kinds_of (body_is j))) in
      let before = ap (λ (s : Stmt). form_size p s.form slots slot) first_is in
      let inside : statements_size p body' one.slots one.next ≡ statements_size p body (slots_after slots slot first.form) (slot + length (kinds_in first.form)) =
      (λ j. statements_size p (body_is j) (sees j) (begins j)) in
      let step : form_size p next'.form two.slots two.next ≡ form_size p next.form (slots_after slots slot first.form) ((slot + length (kinds_in first.form)) + length (kinds_of body)) =
      (λ j. form_size p (next_is j).form ((slots_stay ∙ sees) j) (goes_on j)) in
      let whole = size_for f first test next body slots slot e in
      omega (arith, whole, before, inside, step)

  -- the parts of an `if`, each in the scope in which it is measured
  pub if_parts : (f : Form) (arms arms' : List Arm) (last : Option (List Stmt)) (slots : Slots) (slot : ℕ) (one : Scoped) → f ≡ form.If arms last
      → arms' ≡ arms → one.slots ≡ slots → one.next ≡ slot + length (kinds_of_arms arms')
      → form_size p f slots slot ≡ all_arms_size p arms' slots slot + last_block_size p last one.slots one.next
  if_parts f arms arms' last slots slot one e arms_is slots_stay next_more =
      let begins : one.next ≡ slot + length (kinds_of_arms arms) = next_more ∙ ap (λ (a : List Arm). slot + length (kinds_of_arms a)) arms_is in
      size_if f arms last slots slot e ∙ sym (λ j. all_arms_size p (arms_is j) slots slot + last_block_size p last (slots_stay j) (begins j))
