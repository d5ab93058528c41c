-- Statements at the tree's own constructors: what is defined over rows is what is defined over lists.
use Rattle.std.proofs.Common.{◌≡◌, ℕ, ◌+◌, List, [], ◌∷◌, ◌++◌, length, Option, Some, None, refl, sym, ap, ◌∙◌, subst, arith}
use Rattle.std.proofs.lemmas.List.{append-nil}
use denote.Hole.Carrier.{hidden}
use Rattle.csl_tree.specs.declared.program.Program.{Program}
use Rattle.csl_tree.specs.declared.program.Expr.{Expr}
use Rattle.csl_tree.specs.declared.program.Stmt.{Stmt}
use Rattle.csl_tree.specs.declared.program.Arm.{Arm, out-Arm, is-Arm'}
use Rattle.csl_tree.specs.declared.program.Form.{Form, more_of-Arm}
use Rattle.csl_tree.specs.declared.program.Form.TheVariants as form
use Rattle.csl_tree.specs.declared.program.Form.TheBlock.{shape-the_row-Stmt-1, hidden-the_row-Stmt-1, shape-the_row-Stmt-2, hidden-the_row-Stmt-2, shape-the_row-Arm-0, hidden-the_row-Arm-0}
use Rattle.bytecode.specs.declared.instr.Instr.{Instr}
use Rattle.bytecode.specs.declared.instr.Instr.TheVariants as i
use Rattle.compiled_code.specs.Slots.{Slots}
use Rattle.compiled_code.specs.Sizes.{size_of, kinds_in, texts_in, texts_in_row, texts_in_arms, steps_in, steps_in_row, steps_in_arms}
use Rattle.compiled_code.specs.Places.{slots_after, form_size}
use Rattle.compiled_code.specs.Values.{code_of}
use Rattle.compiled_code.specs.Statements.{At, Exits, past, beyond, beyond_row, beyond_arms, form_code, row_code, arms_code}
use Rattle.compiled_code.specs.Shape.{ValueIs, FormIs, RowIs, ArmsAre, IsSimple, IsChange}
use Rattle.expression_code.specs.Lists.{texts_of, texts_of_arms, texts_of_last, steps_of, steps_of_arms, steps_of_last, beyond_all, beyond_all_arms, statements_code, all_arms_code, last_block_code}
use Rattle.expression_code.specs.Lists.{while_code, StatementsAre, AllArmsAre, LastBlockIs}
use Rattle.expression_code.proofs.RowLemmas.{kinds_row, kinds_arms}
use Rattle.expression_code.proofs.StatementSizes.{row_is, arms_is}

-- ---- texts and steps

pub texts_row : (body : List Stmt) → texts_in_row (hidden-the_row-Stmt-1 body) ≡ texts_of body
unfolding shape-the_row-Stmt-1 hidden-the_row-Stmt-1 hidden
texts_row [] = refl
texts_row (s ∷ rest) = ap (λ r. texts_in s.form ++ r) (texts_row rest)

pub steps_row : (body : List Stmt) → steps_in_row (hidden-the_row-Stmt-1 body) ≡ steps_of body
unfolding shape-the_row-Stmt-1 hidden-the_row-Stmt-1 hidden
steps_row [] = refl
steps_row (s ∷ rest) = ap (λ r. steps_in s.form ++ r) (steps_row rest)

texts_arms : (arms : List Arm) → texts_in_arms (hidden-the_row-Arm-0 arms) ≡ texts_of_arms arms
unfolding shape-the_row-Arm-0 hidden-the_row-Arm-0 hidden
texts_arms [] = refl
texts_arms (a ∷ rest) = ap (λ x. texts_in_arms (more_of-Arm x (hidden-the_row-Arm-0 rest))) (is-Arm' a) ∙ (λ j. texts_row (out-Arm a).body j ++ texts_arms rest j)

steps_arms : (arms : List Arm) → steps_in_arms (hidden-the_row-Arm-0 arms) ≡ steps_of_arms arms
unfolding shape-the_row-Arm-0 hidden-the_row-Arm-0 hidden
steps_arms [] = refl
steps_arms (a ∷ rest) = ap (λ x. steps_in_arms (more_of-Arm x (hidden-the_row-Arm-0 rest))) (is-Arm' a) ∙ (λ j. steps_row (out-Arm a).body j ++ steps_arms rest j)

pub texts_if : (arms : List Arm) (last : Option (List Stmt)) → texts_in (form.If arms last) ≡ texts_of_arms arms ++ texts_of_last last
texts_if arms None = ap (λ k. k ++ []) (texts_arms arms)
texts_if arms (Some body) = λ j. texts_arms arms j ++ texts_row body j

pub steps_if : (arms : List Arm) (last : Option (List Stmt)) → steps_in (form.If arms last) ≡ steps_of_arms arms ++ steps_of_last last
steps_if arms None = ap (λ k. k ++ []) (steps_arms arms)
steps_if arms (Some body) = λ j. steps_arms arms j ++ steps_row body j

-- ---- code

-- a `for` with one statement before its test and one behind its block
abbrev pub for_code : Program → (first : Form) (test : Expr) (next : Form) (body : List Stmt) → Slots → At → Exits → List Instr
for_code p first test next body slots at exits =
    let inner = slots_after slots at.slot first in
    let head = beyond p slots at first in
    let begin = past p head (size_of test + 1) in
    let step = beyond_all p inner begin body in
    let back = step.place + form_size p next inner step.slot in
    form_code p first slots at exits
    ++ code_of p inner test head.place
    ++ i.Branch (back + 1) ∷ statements_code p body inner begin (record { on_break = back + 1; on_continue = step.place })
    ++ form_code p next inner step exits
    ++ i.Loop head.place ∷ []

module _ (p : Program) where
  beyond_row_is : (body : List Stmt) (slots : Slots) (at : At) → beyond_row p slots at (hidden-the_row-Stmt-1 body) ≡ beyond_all p slots at body
  beyond_row_is body slots at = λ j. record {
    place = at.place + row_is p body slots at.slot j;
    slot = at.slot + length (kinds_row body j);
    text = at.text + length (texts_row body j);
    block = at.block + length (steps_row body j);
  }

  beyond_arms_is : (arms : List Arm) (slots : Slots) (at : At) → beyond_arms p slots at (hidden-the_row-Arm-0 arms) ≡ beyond_all_arms p slots at arms
  beyond_arms_is arms slots at = λ j. record {
    place = at.place + arms_is p arms slots at.slot j;
    slot = at.slot + length (kinds_arms arms j);
    text = at.text + length (texts_arms arms j);
    block = at.block + length (steps_arms arms j);
  }

  pub row_code_is : (body : List Stmt) (slots : Slots) (at : At) (exits : Exits) → row_code p (hidden-the_row-Stmt-1 body) slots at exits ≡ statements_code p body slots at exits
  unfolding shape-the_row-Stmt-1 hidden-the_row-Stmt-1 hidden
  row_code_is [] slots at exits = refl
  row_code_is (s ∷ rest) slots at exits = ap (λ c. form_code p s.form slots at exits ++ c) (row_code_is rest (slots_after slots at.slot s.form) (beyond p slots at s.form) exits)

  arms_code_is : (arms : List Arm) (slots : Slots) (at : At) (exits : Exits) (end : ℕ) → arms_code p (hidden-the_row-Arm-0 arms) slots at exits end ≡ all_arms_code p arms slots at exits end
  unfolding shape-the_row-Arm-0 hidden-the_row-Arm-0 hidden
  arms_code_is [] slots at exits end = refl
  arms_code_is (a ∷ rest) slots at exits end =
      let begin = past p at (size_of (out-Arm a).test + 1) in
      ap (λ x. arms_code p (more_of-Arm x (hidden-the_row-Arm-0 rest)) slots at exits end) (is-Arm' a)
      ∙ (λ j. code_of p slots (out-Arm a).test at.place
      ++ i.Branch (past p (beyond_row_is (out-Arm a).body slots begin j) 1).place ∷ row_code_is (out-Arm a).body slots begin exits j
      ++ i.Jump end ∷ arms_code_is rest slots (past p (beyond_row_is (out-Arm a).body slots begin j) 1) exits end j)

  pub if_code_is : (arms : List Arm) (last : Option (List Stmt)) (slots : Slots) (at : At) (exits : Exits)
      → form_code p (form.If arms last) slots at exits
      ≡ all_arms_code p arms slots at exits (at.place + form_size p (form.If arms last) slots at.slot) ++ last_block_code p last slots (beyond_all_arms p slots at arms) exits
  if_code_is arms None slots at exits = ap (λ c. c ++ []) (arms_code_is arms slots at exits (at.place + form_size p (form.If arms None) slots at.slot))
  if_code_is arms (Some body) slots at exits =
      λ j. arms_code_is arms slots at exits (at.place + form_size p (form.If arms (Some body)) slots at.slot) j ++ row_code_is body slots (beyond_arms_is arms slots at j) exits j

  pub while_code_is : (test : Expr) (body : List Stmt) (slots : Slots) (at : At) (exits : Exits) → form_code p (form.While test body) slots at exits ≡ while_code p test body slots at
  while_code_is test body slots at exits =
      λ j.
      let back = at.place + size_of test + 1 + row_is p body slots at.slot j in
      code_of p slots test at.place
      ++ i.Branch (back + 1) ∷ row_code_is body slots (past p at (size_of test + 1)) (record { on_break = back + 1; on_continue = back }) j
      ++ i.Loop at.place ∷ []

  -- where code goes on behind a row of one statement
  beyond_one : (s : Stmt) (slots : Slots) (at : At) → beyond_row p slots at (hidden-the_row-Stmt-2 s) ≡ beyond p slots at s.form
  unfolding shape-the_row-Stmt-2 hidden-the_row-Stmt-2 hidden
  beyond_one s slots at =
      let none : form_size p s.form slots at.slot + 0 ≡ form_size p s.form slots at.slot = omega arith in
      λ j. record {
        place = at.place + none j;
        slot = at.slot + length (append-nil (kinds_in s.form) j);
        text = at.text + length (append-nil (texts_in s.form) j);
        block = at.block + length (append-nil (steps_in s.form) j);
      }

  pub for_code_is : (first : Stmt) (test : Expr) (next : Stmt) (body : List Stmt) (slots : Slots) (at : At) (exits : Exits)
      → form_code p (form.For first test next body) slots at exits ≡ for_code p first.form test next.form body slots at exits
  unfolding shape-the_row-Stmt-2 hidden-the_row-Stmt-2 hidden
  for_code_is first test next body slots at exits =
      let inner = slots_after slots at.slot first.form in
      let none : (n : ℕ) → n + 0 ≡ n = λ n. omega arith in
      λ j.
      let head = beyond_one first slots at j in
      let begin = past p head (size_of test + 1) in
      let step = beyond_row_is body inner begin j in
      let back = step.place + none (form_size p next.form inner step.slot) j in
      append-nil (form_code p first.form slots at exits) j
      ++ code_of p inner test head.place
      ++ i.Branch (back + 1) ∷ row_code_is body inner begin (record { on_break = back + 1; on_continue = step.place }) j
      ++ append-nil (form_code p next.form inner step exits) j
      ++ i.Loop head.place ∷ []

  -- ---- shape

  pub row_are : (body : List Stmt) → RowIs p (hidden-the_row-Stmt-1 body) → StatementsAre p body
  unfolding shape-the_row-Stmt-1 hidden-the_row-Stmt-1 hidden
  row_are [] is = tt
  row_are (s ∷ rest) is = (is.0, row_are rest is.1)

  arms_are : (arms : List Arm) → ArmsAre p (hidden-the_row-Arm-0 arms) → AllArmsAre p arms
  unfolding shape-the_row-Arm-0 hidden-the_row-Arm-0 hidden
  arms_are [] is = tt
  arms_are (a ∷ rest) is =
      let opened = subst (λ (x : _). ArmsAre p (more_of-Arm x (hidden-the_row-Arm-0 rest))) (is-Arm' a) is in
      (opened.0, row_are (out-Arm a).body opened.1, arms_are rest opened.2)

  pub is_while : (f : Form) (test : Expr) (body shown : List Stmt) → f ≡ form.While test body → shown ≡ body → FormIs p f → StatementsAre p shown
  is_while f test body shown e same is = subst (StatementsAre p) (sym same) (row_are body (subst (FormIs p) e is).1)

  pub is_block : (f : Form) (body shown : List Stmt) → f ≡ form.Block body → shown ≡ body → FormIs p f → StatementsAre p shown
  is_block f body shown e same is = subst (StatementsAre p) (sym same) (row_are body (subst (FormIs p) e is))

  pub is_if : (f : Form) (arms shown : List Arm) (last : Option (List Stmt)) → f ≡ form.If arms last → shown ≡ arms → FormIs p f → AllArmsAre p shown × LastBlockIs p last
  is_if f arms shown last e same is = by last (subst (FormIs p) e is)
    where
      by : (last : Option (List Stmt)) → FormIs p (form.If arms last) → AllArmsAre p shown × LastBlockIs p last
      by None is = (subst (AllArmsAre p) (sym same) (arms_are arms is.0), tt)
      by (Some body) is = (subst (AllArmsAre p) (sym same) (arms_are arms is.0), row_are body is.1)

  -- the parts of a `for`
  pub record ForIs (first : Form) (test : Expr) (next : Form) (body : List Stmt) : Type 0 where
    pub first_simple : IsSimple first
    pub first_is : FormIs p first
    pub test_is : ValueIs p test.node
    pub next_change : IsChange next
    pub next_is : FormIs p next
    pub body_are : StatementsAre p body

  pub is_for : (f : Form) (first : Stmt) (test : Expr) (next : Stmt) (body : List Stmt) → f ≡ form.For first test next body → FormIs p f → ForIs first.form test next.form body
  unfolding shape-the_row-Stmt-2 hidden-the_row-Stmt-2 hidden
  is_for f first test next body e is =
      let parts = subst (FormIs p) e is in
      record {
        first_simple = parts.0;
        first_is = parts.1.0;
        test_is = parts.2;
        next_change = parts.3;
        next_is = parts.4.0;
        body_are = row_are body parts.5;
      }
