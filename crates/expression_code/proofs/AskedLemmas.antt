-- The sizes that are asked for, at the tree's own constructors.
use Rattle.std.proofs.Common.{◌≡◌, ℕ, ◌+◌, length, List, [], ◌∷◌, ◌++◌, Option, Some, None, refl, sym, ap, ◌∙◌, arith, slice_set, append_assoc}
use Rattle.std.proofs.lemmas.List.{append-nil}
use denote.Hole.Carrier.{hidden}
use Rattle.csl_tree.specs.declared.program.Program.{Program}
use Rattle.csl_tree.specs.declared.program.Expr.{Expr}
use Rattle.csl_tree.specs.declared.program.Stmt.{Stmt}
use Rattle.csl_tree.specs.declared.program.Arm.{Arm, out-Arm, is-Arm'}
use Rattle.csl_tree.specs.declared.program.Form.{Form, more_of-Arm}
use Rattle.csl_tree.specs.declared.program.Form.TheVariants as form
use Rattle.csl_tree.specs.declared.program.Form.TheBlock.{shape-the_row-Stmt-1, hidden-the_row-Stmt-1, shape-the_row-Stmt-2, hidden-the_row-Stmt-2, shape-the_row-Arm-0, hidden-the_row-Arm-0}
use Rattle.compiled_code.specs.Slots.{Slots}
use Rattle.compiled_code.specs.Sizes.{kinds_in}
use Rattle.compiled_code.specs.Places.{slots_after, form_size}
use Rattle.expression_code.specs.Scopes.{Scoped}
use Rattle.expression_code.specs.Lists.{kinds_of, kinds_of_arms, all_arms_size, last_block_size}
use Rattle.expression_code.specs.Asked.{asked, asked_in_row, asked_in_arms, asked_by, asked_inside, asked_by_arms, asked_by_last, asked_by_if, asked_by_for}
use Rattle.expression_code.proofs.RowLemmas.{kinds_row, kinds_arms}
use Rattle.expression_code.proofs.StatementSizes.{row_is, size_if}
use Rattle.expression_code.proofs.Targets.{set_there}

module _ (p : Program) where
  pub asked_row : (body : List Stmt) (slots : Slots) (slot : ℕ) → asked_in_row p (hidden-the_row-Stmt-1 body) slots slot ≡ asked_by p body slots slot
  unfolding shape-the_row-Stmt-1 hidden-the_row-Stmt-1 hidden
  asked_row [] slots slot = refl
  asked_row (s ∷ rest) slots slot = ap (λ a. asked p s.form slots slot ++ a) (asked_row rest (slots_after slots slot s.form) (slot + length (kinds_in s.form)))

  pub asked_arms : (arms : List Arm) (slots : Slots) (slot : ℕ) → asked_in_arms p (hidden-the_row-Arm-0 arms) slots slot ≡ asked_by_arms p arms slots slot
  unfolding shape-the_row-Arm-0 hidden-the_row-Arm-0 hidden
  asked_arms [] slots slot = refl
  asked_arms (a ∷ rest) slots slot =
      ap (λ x. asked_in_arms p (more_of-Arm x (hidden-the_row-Arm-0 rest)) slots slot) (is-Arm' a)
      ∙ (λ i. row_is p (out-Arm a).body slots slot i ∷ asked_row (out-Arm a).body slots slot i ++ asked_in_arms p (hidden-the_row-Arm-0 rest) slots (slot + length (kinds_row (out-Arm a).body i)))
      ∙ ap (λ x. asked_inside p (out-Arm a).body slots slot ++ x) (asked_arms rest slots (slot + length (kinds_of (out-Arm a).body)))

  pub asked_if : (f : Form) (arms : List Arm) (last : Option (List Stmt)) (slots : Slots) (slot : ℕ) → f ≡ form.If arms last → asked p f slots slot ≡ asked_by_if p arms last slots slot
  asked_if f arms last slots slot e = ap (λ g. asked p g slots slot) e ∙ by last
    where
      by : (last : Option (List Stmt)) → asked p (form.If arms last) slots slot ≡ asked_by_if p arms last slots slot
      by None = λ i. size_if p (form.If arms None) arms None slots slot refl i ∷ asked_arms arms slots slot i ++ []
      by (Some body) =
          λ i. size_if p (form.If arms (Some body)) arms (Some body) slots slot refl i ∷ asked_arms arms slots slot i ++ asked_row body slots (slot + length (kinds_arms arms i)) i

  pub asked_while : (f : Form) (test : Expr) (body : List Stmt) (slots : Slots) (slot : ℕ) → f ≡ form.While test body → asked p f slots slot ≡ asked_inside p body slots slot
  asked_while f test body slots slot e = ap (λ g. asked p g slots slot) e ∙ (λ i. row_is p body slots slot i ∷ asked_row body slots slot i)

  pub asked_block : (f : Form) (body : List Stmt) (slots : Slots) (slot : ℕ) → f ≡ form.Block body → asked p f slots slot ≡ asked_by p body slots slot
  asked_block f body slots slot e = ap (λ g. asked p g slots slot) e ∙ asked_row body slots slot

  pub asked_for : (f : Form) (first : Stmt) (test : Expr) (next : Stmt) (body : List Stmt) (slots : Slots) (slot : ℕ) → f ≡ form.For first test next body
      → asked p f slots slot ≡ asked_by_for p first.form next.form body slots slot
  unfolding shape-the_row-Stmt-2 hidden-the_row-Stmt-2 hidden
  asked_for f first test next body slots slot e =
      let inner = slots_after slots slot first.form in
      let none : (n : ℕ) → n + 0 ≡ n = λ n. omega arith in
      ap (λ g. asked p g slots slot) e
      ∙ (λ i.
      let begin = slot + length (append-nil (kinds_in first.form) i) in
      let step = begin + length (kinds_row body i) in
      append-nil (asked p first.form slots slot) i
      ++ (none (form_size p next.form inner step) i ∷ row_is p body inner begin i ∷ asked_row body inner begin i ++ append-nil (asked p next.form inner step) i))

  -- the parts of an `if`, each in the scope in which it is measured
  pub asked_if_parts : (f : Form) (arms arms' : List Arm) (last : Option (List Stmt)) (slots : Slots) (slot : ℕ) (one : Scoped) → f ≡ form.If arms last
      → arms' ≡ arms → one.slots ≡ slots → one.next ≡ slot + length (kinds_of_arms arms')
      → asked p f slots slot
      ≡ (all_arms_size p arms' slots slot + last_block_size p last one.slots one.next) ∷ asked_by_arms p arms' slots slot ++ asked_by_last p last one.slots one.next
  asked_if_parts f arms arms' last slots slot one e arms_is slots_stay next_more =
      let begins : one.next ≡ slot + length (kinds_of_arms arms) = next_more ∙ ap (λ (a : List Arm). slot + length (kinds_of_arms a)) arms_is in
      asked_if f arms last slots slot e
      ∙ sym (λ j. (all_arms_size p (arms_is j) slots slot + last_block_size p last (slots_stay j) (begins j)) ∷ asked_by_arms p (arms_is j) slots slot
      ++ asked_by_last p last (slots_stay j) (begins j))

  -- the parts of a `for`, each in the scope in which it is measured
  pub asked_for_parts : (f : Form) (first first' : Stmt) (test : Expr) (next next' : Stmt) (body body' : List Stmt) (slots : Slots) (slot : ℕ) (one two : Scoped) → f ≡ form.For first test next body
      → first' ≡ first → next' ≡ next → body' ≡ body → one.slots ≡ slots_after slots slot first'.form → one.next ≡ slot + length (kinds_in first'.form) → two.slots ≡ one.slots
      → two.next ≡ one.next + length (kinds_of body')
      → asked p f slots slot ≡ asked p first'.form slots slot ++ (form_size p next'.form two.slots two.next ∷ asked_inside p body' one.slots one.next ++ asked p next'.form two.slots two.next)
  asked_for_parts f first first' test next next' body body' slots slot one two e first_is next_is body_is slots_is next_slot slots_stay next_more =
      let begins : one.next ≡ slot + length (kinds_in first.form) = next_slot ∙ ap (λ (s : Stmt). slot + length (kinds_in s.form)) first_is in
      let sees : one.slots ≡ slots_after slots slot first.form = slots_is ∙ ap (λ (s : Stmt). slots_after slots slot s.form) first_is in
      let goes_on : two.next ≡ (slot + length (kinds_in first.form)) + length (kinds_of body) = next_more ∙ (λ j. begins j + length (kinds_of (body_is j))) in
      asked_for f first test next body slots slot e
      ∙ sym (λ j. asked p (first_is j).form slots slot ++ (form_size p (next_is j).form ((slots_stay ∙ sees) j) (goes_on j) ∷ asked_inside p (body_is j) (sees j) (begins j)
      ++ asked p (next_is j).form ((slots_stay ∙ sees) j) (goes_on j)))

-- a size is set in the place that was held for it
pub filled : (old held now sizes more : List ℕ) (place size : ℕ) → held ≡ old ++ 0 ∷ [] → place ≡ length old → now ≡ held ++ more → sizes ≡ slice_set now place size → sizes ≡ old ++ size ∷ more
filled old held now sizes more place size first at second set =
    set
    ∙ (λ j. slice_set ((second ∙ ap (λ h. h ++ more) first ∙ append_assoc old (0 ∷ []) more) j) (at j) size)
    ∙ set_there old 0 size more
