-- What is written and what is still to be written have 32 bits.
use Rattle.std.proofs.Common.{◌≡◌, ℕ, ◌+◌, List, [], ◌∷◌, ◌++◌, length, Option, Some, None, refl, sym, ap, ◌∙◌, subst, arith, length-append}
use Rattle.csl_tree.specs.declared.program.Program.{Program}
use Rattle.csl_tree.specs.declared.program.Expr.{Expr}
use Rattle.csl_tree.specs.declared.program.Stmt.{Stmt}
use Rattle.csl_tree.specs.declared.program.Arm.{Arm, out-Arm}
use Rattle.csl_tree.specs.declared.program.RoutineBlock.{RoutineBlock}
use Rattle.csl_tree.specs.declared.program.Form.{Form}
use Rattle.csl_tree.specs.declared.program.Form.TheVariants as form
use Rattle.bytecode.specs.declared.instr.Instr.{Instr}
use Rattle.bytecode.specs.declared.instr.Instr.TheVariants as i
use Rattle.compiled_code.specs.Sizes.{size_of, kinds_in, texts_in, steps_in, widths_size}
use Rattle.compiled_code.specs.Places.{slots_after, form_size}
use Rattle.compiled_code.specs.Shape.{IsChange}
use Rattle.expression_code.specs.Scopes.{Scoped}
use Rattle.compiled_code.specs.Statements.{At, Exits, past, beyond}
use Rattle.compiled_code.proofs.Lengths.{form_length}
use Rattle.expression_code.specs.declared.writer.Writer.{Writer}
use Rattle.expression_code.specs.Counts.{IsSmall}
use Rattle.expression_code.specs.Lists.{kinds_of, kinds_of_arms, kinds_of_last, texts_of, texts_of_arms, texts_of_last, steps_of, steps_of_arms, steps_of_last, statements_size, all_arms_size}
use Rattle.expression_code.specs.Lists.{last_block_size, beyond_all, beyond_all_arms}
use Rattle.expression_code.proofs.RowLemmas.{kinds_while, kinds_block, kinds_for, kinds_if, blocks_is}
use Rattle.expression_code.proofs.StatementSizes.{size_while, size_block, size_if, size_par, for_parts}
use Rattle.compile_steps.specs.declared.statements.Around.{Around}
use Rattle.compile_steps.specs.Writing.{here, Fits, FormFits, AllFit, ArmsFit, LastFits, WhileFits, TestFits, WroteTest, WroteForm, WroteBlock, WroteArms}
use Rattle.compile_steps.proofs.Bridges.{texts_row, steps_row, texts_if, steps_if, ForIs}
use Rattle.compile_steps.proofs.Written.{here_behind, here_past, test_long, statements_length, all_arms_length, change_kinds, change_texts, change_steps, simple_texts, simple_steps}

-- what fits at a place fits at the same place
moved : {at at' : At} → at ≡ at' → Fits at → Fits at'
moved {at} {at'} e h = subst Fits e h

module _ (p : Program) where
  -- ---- several statements

  -- the first of several
  pub first_fits : (s : Stmt) (rest : List Stmt) (w : Writer) → AllFit p (s ∷ rest) w → FormFits p s.form w
  first_fits s rest w h = record {
    room = let e = length-append (kinds_in s.form) (kinds_of rest) in let r = h.room in omega (arith, e, r);
    text = let e = length-append (texts_in s.form) (texts_of rest) in let r = h.text in omega (arith, e, r);
    block = let e = length-append (steps_in s.form) (steps_of rest) in let r = h.block in omega (arith, e, r);
  }

  -- the others behind it
  pub rest_fits : (s : Stmt) (rest : List Stmt) (exits : Exits) (old new : Writer) → AllFit p (s ∷ rest) old → WroteForm p s.form exits old new → AllFit p rest new
  rest_fits s rest exits old new h wrote =
      let at : here new ≡ beyond p old.scope.slots (here old) s.form = here_behind (form_size p s.form old.scope.slots old.scope.next) wrote (form_length p s.form old.scope.slots (here old) exits) in
      let behind : Fits (beyond_all p (slots_after old.scope.slots old.scope.next s.form) (beyond p old.scope.slots (here old) s.form) rest) = record {
        room = let e = length-append (kinds_in s.form) (kinds_of rest) in let r = h.room in omega (arith, e, r);
        text = let e = length-append (texts_in s.form) (texts_of rest) in let r = h.text in omega (arith, e, r);
        block = let e = length-append (steps_in s.form) (steps_of rest) in let r = h.block in omega (arith, e, r);
      } in
      moved (λ j. beyond_all p (sym wrote.slots j) (sym at j) rest) behind

  -- ---- a test and its block

  -- where the block's size was taken
  pub test_fits : (test : Expr) (body : List Stmt) (size : ℕ) (w taken : Writer) → taken ≡ record w { asked = w.asked + 1 } → size ≡ statements_size p body w.scope.slots w.scope.next
      → WhileFits p test body w → TestFits test size 0 taken
  test_fits test body size w taken e is h =
      let same = ap (λ (x : Writer). length x.instrs) e in
      let r = h.room in
      omega (arith, same, is, r)

  pub inside_fits : (test : Expr) (body : List Stmt) (inside more k : ℕ) (around : Around) (old new : Writer) → WhileFits p test body old → WroteTest p test inside more k around old new
      → AllFit p body new
  inside_fits test body inside more k around old new h t =
      let at = here_past p (size_of test + 1) t.code (test_long p test old.scope.slots (length old.instrs) around.out) in
      let begins : Fits (beyond_all p old.scope.slots (past p (here old) (size_of test + 1)) body) = record {
        room = let r = h.room in omega (arith, r);
        text = h.text;
        block = h.block;
      } in
      moved (λ j. beyond_all p (sym t.code.slots j) (sym at j) body) begins

  pub while_fits : (f : Form) (test : Expr) (body shown : List Stmt) (w : Writer) → f ≡ form.While test body → shown ≡ body → FormFits p f w → WhileFits p test shown w
  while_fits f test body shown w is e h =
      let size = size_while p f test body w.scope.slots w.scope.next is in
      let kinds = ap length (kinds_while f test body is) in
      let texts = ap (λ g. length (texts_in g)) is ∙ ap length (texts_row body) in
      let steps = ap (λ g. length (steps_in g)) is ∙ ap length (steps_row body) in
      subst (λ (b : List Stmt). WhileFits p test b w) (sym e) (record {
        room = let r = h.room in omega (arith, size, kinds, r);
        text = let r = h.text in omega (arith, texts, r);
        block = let r = h.block in omega (arith, steps, r);
      })

  pub block_fits : (f : Form) (body shown : List Stmt) (w : Writer) → f ≡ form.Block body → shown ≡ body → FormFits p f w → AllFit p shown w
  block_fits f body shown w is e h =
      let size = size_block p f body w.scope.slots w.scope.next is in
      let kinds = ap length (kinds_block f body is) in
      let texts = ap (λ g. length (texts_in g)) is ∙ ap length (texts_row body) in
      let steps = ap (λ g. length (steps_in g)) is ∙ ap length (steps_row body) in
      subst (λ (b : List Stmt). AllFit p b w) (sym e) (record {
        room = let r = h.room in omega (arith, size, kinds, r);
        text = let r = h.text in omega (arith, texts, r);
        block = let r = h.block in omega (arith, steps, r);
      })

  -- ---- a step

  pub widths_fit : (f : Form) (blocks shown : List RoutineBlock) (w : Writer) → f ≡ form.Par blocks → shown ≡ blocks → FormFits p f w → IsSmall (length w.instrs + widths_size shown)
  widths_fit f blocks shown w is e h =
      let size = size_par p f blocks w.scope.slots w.scope.next is in
      let same = ap widths_size e in
      let r = h.room in
      omega (arith, size, same, r)

  pub blocks_fit : (f : Form) (blocks shown : List RoutineBlock) (w : Writer) → f ≡ form.Par blocks → shown ≡ blocks → FormFits p f w → IsSmall (w.block + length shown)
  blocks_fit f blocks shown w is e h =
      let steps = ap (λ g. length (steps_in g)) is ∙ ap length (blocks_is blocks) in
      let same = ap length e in
      let r = h.block in
      omega (arith, steps, same, r)

  -- ---- an `if`

  if_parts : (f : Form) (arms : List Arm) (last : Option (List Stmt)) (w : Writer) → f ≡ form.If arms last → FormFits p f w
      → Fits (record {
        place = length w.instrs + (all_arms_size p arms w.scope.slots w.scope.next + last_block_size p last w.scope.slots (w.scope.next + length (kinds_of_arms arms)));
        slot = w.scope.next + (length (kinds_of_arms arms) + length (kinds_of_last last));
        text = w.text + (length (texts_of_arms arms) + length (texts_of_last last));
        block = w.block + (length (steps_of_arms arms) + length (steps_of_last last));
      })
  if_parts f arms last w is h =
      let size = size_if p f arms last w.scope.slots w.scope.next is in
      let kinds = ap length (kinds_if f arms last is) ∙ length-append (kinds_of_arms arms) (kinds_of_last last) in
      let texts = ap (λ g. length (texts_in g)) is ∙ ap length (texts_if arms last) ∙ length-append (texts_of_arms arms) (texts_of_last last) in
      let steps = ap (λ g. length (steps_in g)) is ∙ ap length (steps_if arms last) ∙ length-append (steps_of_arms arms) (steps_of_last last) in
      record {
        room = let r = h.room in omega (arith, size, kinds, r);
        text = let r = h.text in omega (arith, texts, r);
        block = let r = h.block in omega (arith, steps, r);
      }

  pub arms_fit : (f : Form) (arms shown : List Arm) (last : Option (List Stmt)) (w : Writer) → f ≡ form.If arms last → shown ≡ arms → FormFits p f w → ArmsFit p shown w
  arms_fit f arms shown last w is e h =
      let whole = if_parts f arms last w is h in
      subst (λ (a : List Arm). ArmsFit p a w) (sym e) (record {
        room = let r = whole.room in omega (arith, r);
        text = let r = whole.text in omega (arith, r);
        block = let r = whole.block in omega (arith, r);
      })

  pub last_fits : (f : Form) (arms shown : List Arm) (last : Option (List Stmt)) (exits : Exits) (end : ℕ) (old taken new : Writer) → f ≡ form.If arms last → shown ≡ arms
      → taken ≡ record old { asked = old.asked + 1 } → FormFits p f old → WroteArms p shown exits end taken new → LastFits p last new
  last_fits f arms shown last exits end old taken new is e same h wrote =
      let one : WroteArms p arms exits end (record old { asked = old.asked + 1 }) new =
      subst (λ (w : Writer). WroteArms p arms exits end w new) same (subst (λ (a : List Arm). WroteArms p a exits end taken new) e wrote) in
      let at : here new ≡ beyond_all_arms p old.scope.slots (here old) arms = here_behind (all_arms_size p arms old.scope.slots old.scope.next) one
      (all_arms_length p arms old.scope.slots (here old) exits end) in
      by last (if_parts f arms last old is h) one.slots at
    where
      by : (last : Option (List Stmt)) → Fits (record {
        place = length old.instrs + (all_arms_size p arms old.scope.slots old.scope.next + last_block_size p last old.scope.slots (old.scope.next + length (kinds_of_arms arms)));
        slot = old.scope.next + (length (kinds_of_arms arms) + length (kinds_of_last last));
        text = old.text + (length (texts_of_arms arms) + length (texts_of_last last));
        block = old.block + (length (steps_of_arms arms) + length (steps_of_last last));
      }) → new.scope.slots ≡ old.scope.slots → here new ≡ beyond_all_arms p old.scope.slots (here old) arms → LastFits p last new
      by None whole slots at = moved (sym at) (record {
        room = let r = whole.room in omega (arith, r);
        text = let r = whole.text in omega (arith, r);
        block = let r = whole.block in omega (arith, r);
      })
      by (Some body) whole slots at =
          let behind : Fits (beyond_all p old.scope.slots (beyond_all_arms p old.scope.slots (here old) arms) body) = record {
            room = let r = whole.room in omega (arith, r);
            text = let r = whole.text in omega (arith, r);
            block = let r = whole.block in omega (arith, r);
          } in
          moved (λ j. beyond_all p (sym slots j) (sym at j) body) behind

  -- the test and the block of the first arm
  pub arm_fits : (a : Arm) (rest : List Arm) (w : Writer) → ArmsFit p (a ∷ rest) w → WhileFits p (out-Arm a).test (out-Arm a).body w
  arm_fits a rest w h = record {
    room = let e = length-append (kinds_of (out-Arm a).body) (kinds_of_arms rest) in let r = h.room in omega (arith, e, r);
    text = let e = length-append (texts_of (out-Arm a).body) (texts_of_arms rest) in let r = h.text in omega (arith, e, r);
    block = let e = length-append (steps_of (out-Arm a).body) (steps_of_arms rest) in let r = h.block in omega (arith, e, r);
  }

  -- the arms behind it
  pub other_arms_fit : (a : Arm) (rest : List Arm) (exits : Exits) (end inside more k : ℕ) (around : Around) (old mid after : Writer) (instrs : List Instr) → ArmsFit p (a ∷ rest) old
      → WroteTest p (out-Arm a).test inside more k around old mid → WroteBlock p (out-Arm a).body exits mid after → instrs ≡ after.instrs ++ i.Jump end ∷ []
      → ArmsFit p rest (record after { instrs = instrs })
  other_arms_fit a rest exits end inside more k around old mid after instrs h t block e =
      let test = (out-Arm a).test in
      let body = (out-Arm a).body in
      let at_mid : here mid ≡ past p (here old) (size_of test + 1) = here_past p (size_of test + 1) t.code (test_long p test old.scope.slots (length old.instrs) around.out) in
      let at_after : here after ≡ beyond_all p old.scope.slots (past p (here old) (size_of test + 1)) body =
      here_behind (statements_size p body mid.scope.slots mid.scope.next) block (statements_length p body mid.scope.slots (here mid) exits)
      ∙ (λ j. beyond_all p (t.code.slots j) (at_mid j) body) in
      let long : length instrs ≡ length after.instrs + 1 = ap length e ∙ length-append after.instrs (i.Jump end ∷ []) in
      let behind = past p (beyond_all p old.scope.slots (past p (here old) (size_of test + 1)) body) 1 in
      let at_rest : here (record after { instrs = instrs }) ≡ behind = λ j. record { place = (long ∙ ap (λ (x : At). x.place + 1) at_after) j; slot = (at_after j).slot; text = (at_after j).text; block = (at_after j).block } in
      let slots_rest : after.scope.slots ≡ old.scope.slots = block.slots ∙ t.code.slots in
      let others : Fits (beyond_all_arms p old.scope.slots behind rest) = record {
        room = let l = length-append (kinds_of body) (kinds_of_arms rest) in let r = h.room in omega (arith, l, r);
        text = let l = length-append (texts_of body) (texts_of_arms rest) in let r = h.text in omega (arith, l, r);
        block = let l = length-append (steps_of body) (steps_of_arms rest) in let r = h.block in omega (arith, l, r);
      } in
      moved (λ j. beyond_all_arms p (sym slots_rest j) (sym at_rest j) rest) others

  -- ---- a `for`

  -- where a `for` ends
  for_ends : (f : Form) (first : Stmt) (test : Expr) (next : Stmt) (body : List Stmt) (w : Writer) → f ≡ form.For first test next body → FormFits p f w
      → Fits (record {
        place = length w.instrs + form_size p f w.scope.slots w.scope.next;
        slot = w.scope.next + (length (kinds_in first.form) + length (kinds_of body));
        text = w.text + length (texts_of body);
        block = w.block + length (steps_of body);
      })
  for_ends f first test next body w is h =
      let kinds = ap length (kinds_for f first test next body is) ∙ length-append (kinds_in first.form) (kinds_of body) in
      let texts = ap (λ g. length (texts_in g)) is ∙ ap length (texts_row body) in
      let steps = ap (λ g. length (steps_in g)) is ∙ ap length (steps_row body) in
      record {
        room = let r = h.room in omega (arith, kinds, r);
        text = let r = h.text in omega (arith, texts, r);
        block = let r = h.block in omega (arith, steps, r);
      }

  -- its first statement
  pub for_first_fits : (f : Form) (first first' : Stmt) (test : Expr) (next : Stmt) (body : List Stmt) (w : Writer) → f ≡ form.For first test next body → first' ≡ first
      → ForIs p first.form test next.form body
      → FormFits p f w → FormFits p first'.form w
  for_first_fits f first first' test next body w is e shape h =
      let one : Scoped = record { slots = slots_after w.scope.slots w.scope.next first.form; next = w.scope.next + length (kinds_in first.form) } in
      let two : Scoped = record { slots = one.slots; next = one.next + length (kinds_of body) } in
      let parts = for_parts p f first first test next next body body w.scope.slots w.scope.next one two is refl refl refl refl refl refl refl in
      let ends = for_ends f first test next body w is h in
      let no_texts = ap length (simple_texts first.form shape.first_simple) in
      let no_steps = ap length (simple_steps first.form shape.first_simple) in
      subst (λ (s : Stmt). FormFits p s.form w) (sym e) (record {
        room = let r = ends.room in omega (arith, parts, r);
        text = let r = ends.text in omega (arith, no_texts, r);
        block = let r = ends.block in omega (arith, no_steps, r);
      })

  module _ (f : Form) (first first' : Stmt) (test : Expr) (next next' : Stmt) (body inside : List Stmt) (exits : Exits) (old one : Writer) (is : f ≡ form.For first test next body)
      (first_is : first' ≡ first) (next_is : next' ≡ next) (inside_is : inside ≡ body) (shape : ForIs p first.form test next.form body) (h : FormFits p f old)
      (w : WroteForm p first'.form exits old one) where
    head : here one ≡ beyond p old.scope.slots (here old) first'.form
    head = here_behind (form_size p first'.form old.scope.slots old.scope.next) w (form_length p first'.form old.scope.slots (here old) exits)

    abbrev two : Scoped
    two = record { slots = one.scope.slots; next = one.scope.next + length (kinds_of inside) }

    parts : form_size p f old.scope.slots old.scope.next
        ≡ form_size p first'.form old.scope.slots old.scope.next + size_of test + 1 + statements_size p inside one.scope.slots one.scope.next + form_size p next'.form one.scope.slots
        (one.scope.next + length (kinds_of inside)) + 1
    parts = for_parts p f first first' test next next' body inside old.scope.slots old.scope.next one.scope two is first_is next_is inside_is w.slots w.locals refl refl

    -- where it ends, from behind its first statement
    ends : Fits (record {
      place = length one.instrs + size_of test + 1 + statements_size p inside one.scope.slots one.scope.next + form_size p next'.form one.scope.slots (one.scope.next + length (kinds_of inside)) + 1;
      slot = one.scope.next + length (kinds_of inside);
      text = one.text + length (texts_of inside);
      block = one.block + length (steps_of inside);
    })
    ends =
        let whole = for_ends f first test next body old is h in
        let long : length one.instrs ≡ length old.instrs + form_size p first'.form old.scope.slots old.scope.next = ap (λ (x : At). x.place) head in
        let locals = w.locals in
        let texts = w.texts in
        let blocks = w.blocks in
        let same_first = ap (λ (s : Stmt). length (kinds_in s.form)) first_is in
        let same_kinds = ap (λ (b : List Stmt). length (kinds_of b)) inside_is in
        let same_texts = ap (λ (b : List Stmt). length (texts_of b)) inside_is in
        let same_steps = ap (λ (b : List Stmt). length (steps_of b)) inside_is in
        let no_texts = ap (λ (s : Stmt). length (texts_in s.form)) first_is ∙ ap length (simple_texts first.form shape.first_simple) in
        let no_steps = ap (λ (s : Stmt). length (steps_in s.form)) first_is ∙ ap length (simple_steps first.form shape.first_simple) in
        record {
          room = let r = whole.room in omega (arith, parts, long, locals, same_first, same_kinds, r);
          text = let r = whole.text in omega (arith, texts, no_texts, same_texts, r);
          block = let r = whole.block in omega (arith, blocks, no_steps, same_steps, r);
        }

    -- its test, where the two sizes were taken
    pub for_test_fits : (size step : ℕ) (taken two : Writer) → taken ≡ record one { asked = one.asked + 1 } → two ≡ record taken { asked = taken.asked + 1 }
        → step ≡ form_size p next'.form one.scope.slots (one.scope.next + length (kinds_of inside)) → size ≡ statements_size p inside one.scope.slots one.scope.next → TestFits test size step two
    for_test_fits size step taken two e f step_is is =
        let same : length two.instrs ≡ length one.instrs = ap (λ (x : Writer). length x.instrs) f ∙ ap (λ (x : Writer). length x.instrs) e in
        let r = ends.room in
        omega (arith, same, step_is, is, r)

    module _ (size more k : ℕ) (around : Around) (after : Writer) (t : WroteTest p test size more k around one after) where
      begins : here after ≡ past p (here one) (size_of test + 1)
      begins = here_past p (size_of test + 1) t.code (test_long p test one.scope.slots (length one.instrs) around.out)

      -- its block
      pub for_body_fits : (inside' : List Stmt) → inside' ≡ inside → AllFit p inside' after
      for_body_fits inside' e =
          let block : Fits (beyond_all p one.scope.slots (past p (here one) (size_of test + 1)) inside) = record {
            room = let r = ends.room in omega (arith, r);
            text = ends.text;
            block = ends.block;
          } in
          subst (λ (b : List Stmt). AllFit p b after) (sym e) (moved (λ j. beyond_all p (sym t.code.slots j) (sym begins j) inside) block)

      -- and the statement behind it
      pub for_next_fits : (inside' : List Stmt) (exits' : Exits) (three : Writer) → inside' ≡ inside → WroteBlock p inside' exits' after three → FormFits p next'.form three
      for_next_fits inside' exits' three e wrote =
          let block : WroteBlock p inside exits' after three = subst (λ (b : List Stmt). WroteBlock p b exits' after three) e wrote in
          let at : here three ≡ beyond_all p one.scope.slots (past p (here one) (size_of test + 1)) inside =
          here_behind (statements_size p inside after.scope.slots after.scope.next) block (statements_length p inside after.scope.slots (here after) exits')
          ∙ (λ j. beyond_all p (t.code.slots j) (begins j) inside) in
          let sees : three.scope.slots ≡ one.scope.slots = block.slots ∙ t.code.slots in
          let change = subst (λ (s : Stmt). IsChange s.form) (sym next_is) shape.next_change in
          let no_kinds = ap length (change_kinds next'.form change) in
          let no_texts = ap length (change_texts next'.form change) in
          let no_steps = ap length (change_steps next'.form change) in
          let step : Fits (beyond p one.scope.slots (beyond_all p one.scope.slots (past p (here one) (size_of test + 1)) inside) next'.form) = record {
            room = let r = ends.room in omega (arith, no_kinds, r);
            text = let r = ends.text in omega (arith, no_texts, r);
            block = let r = ends.block in omega (arith, no_steps, r);
          } in
          moved (λ j. beyond p (sym sees j) (sym at j) next'.form) step
