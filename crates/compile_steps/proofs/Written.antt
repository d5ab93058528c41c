-- Code is written behind code.
use Rattle.std.proofs.Common.{◌≡◌, ℕ, ◌+◌, ◌<◌, List, [], ◌∷◌, ◌++◌, length, get_or, take, drop, Option, Some, None, refl, sym, ap, ◌∙◌, subst, arith, append_assoc, length-append}
use Rattle.std.proofs.Math.Seq.{take-append_seam}
use Rattle.std.proofs.lemmas.List.{append-nil, at_drop_more}
use Rattle.std.specs.Prelude.{unwrap_or}
use denote.Hole.Carrier.{hidden}
use Rattle.csl_tree.specs.declared.program.Program.{Program}
use Rattle.csl_tree.specs.declared.program.Expr.{Expr}
use Rattle.csl_tree.specs.declared.program.Place.{Place, Place', out-Place, is-Place'}
use Rattle.csl_tree.specs.declared.program.Node.TheBlock.{shape-the_row-Expr-0, hidden-the_row-Expr-0, back-Place-index}
use Rattle.csl_tree.specs.declared.program.Stmt.{Stmt}
use Rattle.csl_tree.specs.declared.program.Arm.{Arm, out-Arm}
use Rattle.csl_tree.specs.declared.program.RoutineBlock.{RoutineBlock}
use Rattle.csl_tree.specs.declared.program.Form.{Form, Declare, Set, AddTo}
use Rattle.csl_tree.specs.declared.program.Form.TheVariants as form
use Rattle.csl_meaning.specs.declared.state.Area.{Area}
use Rattle.csl_meaning.specs.Layout.{area_of}
use Rattle.csl_meaning.specs.Value.{declared}
use Rattle.bytecode.specs.declared.instr.Instr.{Instr}
use Rattle.bytecode.specs.declared.instr.Instr.TheVariants as i
use Rattle.compiled_code.specs.Slots.{Slots}
use Rattle.compiled_code.specs.Sizes.{size_of, kinds_in, texts_in, steps_in}
use Rattle.compiled_code.specs.Places.{slots_after, form_size}
use Rattle.compiled_code.specs.Values.{code_of}
use Rattle.compiled_code.specs.Statements.{At, Exits, set_code, add_to_code, past, beyond, widths_code, form_code}
use Rattle.compiled_code.specs.Shape.{FormIs, IsSimple, IsChange}
use Rattle.compiled_code.proofs.Lengths.{both, expr_length, form_length}
use Rattle.expression_code.specs.declared.writer.Writer.{Writer}
use Rattle.compile_steps.specs.declared.statements.Around.{Around}
use Rattle.expression_code.specs.Scopes.{Scoped}
use Rattle.expression_code.specs.Lists.{kinds_of, kinds_of_arms, kinds_of_last, texts_of, texts_of_arms, texts_of_last, steps_of, steps_of_arms, steps_of_last, slots_after_all, statements_size}
use Rattle.expression_code.specs.Asked.{asked, asked_by, asked_inside, asked_by_arms, asked_by_last, asked_by_for}
use Rattle.expression_code.proofs.AskedLemmas.{asked_if, asked_while, asked_block, asked_for}
use Rattle.expression_code.specs.Lists.{all_arms_size, last_block_size, beyond_all, beyond_all_arms, statements_code, all_arms_code, last_block_code}
use Rattle.compile_steps.specs.Writing.{here, Wrote, WroteCode, WroteTest, WroteStep, WroteForm, WroteAll, WroteBlock, WroteArms, WroteLast, WroteWhile}
use Rattle.expression_code.proofs.RowLemmas.{slots_grow, block_ends, kinds_row, kinds_if, kinds_for, blocks_is}
use Rattle.compile_steps.proofs.Bridges.{texts_row, steps_row, texts_if, steps_if, row_code_is, if_code_is, while_code_is, for_code, for_code_is, ForIs, is_for}

-- ---- lengths

pub length_both : {X : Type 0} (xs ys : List X) (n k : ℕ) → length xs ≡ n → length ys ≡ k → length (xs ++ ys) ≡ n + k
length_both xs ys n k e f = let l = length-append xs ys in omega (arith, l, e, f)

module _ (p : Program) where
  -- the code of several statements is as long as their size
  pub statements_length : (body : List Stmt) (slots : Slots) (at : At) (exits : Exits) → length (statements_code p body slots at exits) ≡ statements_size p body slots at.slot
  statements_length [] slots at exits = refl
  statements_length (s ∷ rest) slots at exits =
      both (form_code p s.form slots at exits) (statements_code p rest (slots_after slots at.slot s.form) (beyond p slots at s.form) exits) (form_size p s.form slots at.slot)
      (statements_size p rest (slots_after slots at.slot s.form) (at.slot + length (kinds_in s.form)))
      (form_length p s.form slots at exits) (statements_length rest (slots_after slots at.slot s.form) (beyond p slots at s.form) exits)

  pub all_arms_length : (arms : List Arm) (slots : Slots) (at : At) (exits : Exits) (end : ℕ) → length (all_arms_code p arms slots at exits end) ≡ all_arms_size p arms slots at.slot
  all_arms_length [] slots at exits end = refl
  all_arms_length (a ∷ rest) slots at exits end =
      let begin = past p at (size_of (out-Arm a).test + 1) in
      let behind = past p (beyond_all p slots begin (out-Arm a).body) 1 in
      let one = code_of p slots (out-Arm a).test at.place in
      let two = statements_code p (out-Arm a).body slots begin exits in
      let three = all_arms_code p rest slots behind exits end in
      let one_long = expr_length p slots (out-Arm a).test at.place in
      let two_long = statements_length (out-Arm a).body slots begin exits in
      let three_long = all_arms_length rest slots behind exits end in
      let l = length-append (one ++ i.Branch behind.place ∷ two) (i.Jump end ∷ three) in
      let q = length-append one (i.Branch behind.place ∷ two) in
      omega (arith, l, q, one_long, two_long, three_long)

-- what is left of a list begins with its next item
pub next_of : {X : Type 0} (xs : List X) (n : ℕ) (x : X) → n < length xs → x ≡ get_or xs n x → drop n xs ≡ x ∷ drop (n + 1) xs
next_of xs n x lt is = at_drop_more (λ ys. ys) xs n x lt ∙ ap (λ y. y ∷ drop (n + 1) xs) (sym is)

-- ---- one behind the other

-- code behind code
pub wrote_then : {a b : List Instr} {first next : Slots} {k k' t t' s s' q q' : ℕ} {old mid new : Writer} → Wrote a first k t s q old mid → Wrote b next k' t' s' q' mid new
    → Wrote (a ++ b) next (k + k') (t + t') (s + s') (q + q') old new
wrote_then {a} {b} {first} {next} {k} {k'} {t} {t'} {s} {s'} {q} {q'} {old} {mid} {new} one two = record {
  instrs = two.instrs ∙ ap (λ c. c ++ b) one.instrs ∙ append_assoc old.instrs a b;
  slots = two.slots;
  locals = let e = one.locals in let f = two.locals in omega (arith, e, f);
  texts = let e = one.texts in let f = two.texts in omega (arith, e, f);
  blocks = let e = one.blocks in let f = two.blocks in omega (arith, e, f);
  sizes = two.sizes ∙ one.sizes;
  asked = let e = one.asked in let f = two.asked in omega (arith, e, f);
}

-- the same under other names
pub wrote_as : {a b : List Instr} {first next : Slots} {k k' t t' s s' q q' : ℕ} {old new : Writer} → Wrote a first k t s q old new → b ≡ a → first ≡ next → k ≡ k' → t ≡ t' → s ≡ s' → q ≡ q'
    → Wrote b next k' t' s' q' old new
wrote_as {a} {b} {first} {next} {k} {k'} {t} {t'} {s} {s'} {q} {q'} {old} {new} w code visible locals texts steps asked = record {
  instrs = w.instrs ∙ ap (λ c. old.instrs ++ c) (sym code);
  slots = w.slots ∙ visible;
  locals = w.locals ∙ ap (λ n. old.scope.next + n) locals;
  texts = w.texts ∙ ap (λ n. old.text + n) texts;
  blocks = w.blocks ∙ ap (λ n. old.block + n) steps;
  sizes = w.sizes;
  asked = w.asked ∙ ap (λ n. old.asked + n) asked;
}

-- one more instruction
pub pushed : {a : List Instr} {visible : Slots} {k t s q : ℕ} {old mid : Writer} (x : Instr) (instrs : List Instr) → Wrote a visible k t s q old mid → instrs ≡ mid.instrs ++ x ∷ []
    → Wrote (a ++ x ∷ []) visible k t s q old (record mid { instrs = instrs })
pushed {a} {visible} {k} {t} {s} {q} {old} {mid} x instrs w e = record {
  instrs = e ∙ ap (λ c. c ++ x ∷ []) w.instrs ∙ append_assoc old.instrs a (x ∷ []);
  slots = w.slots;
  locals = w.locals;
  texts = w.texts;
  blocks = w.blocks;
  sizes = w.sizes;
  asked = w.asked;
}

-- where code goes on
pub here_behind : {a : List Instr} {visible : Slots} {k t s q : ℕ} {old new : Writer} (n : ℕ) → Wrote a visible k t s q old new → length a ≡ n
    → here new ≡ record { place = (here old).place + n; slot = (here old).slot + k; text = (here old).text + t; block = (here old).block + s }
here_behind {a} {visible} {k} {t} {s} {q} {old} {new} n w long =
    let place : length new.instrs ≡ length old.instrs + n = ap length w.instrs ∙ length_both old.instrs a (length old.instrs) n refl long in
    λ j. record { place = place j; slot = w.locals j; text = w.texts j; block = w.blocks j }

-- behind code without locals, texts and blocks
pub here_past : {a : List Instr} {q : ℕ} {old new : Writer} (p : Program) (n : ℕ) → Wrote a old.scope.slots 0 0 0 q old new → length a ≡ n → here new ≡ past p (here old) n
here_past {a} {q} {old} {new} p n w long =
    let place : length new.instrs ≡ length old.instrs + n = ap length w.instrs ∙ length_both old.instrs a (length old.instrs) n refl long in
    let slot : new.scope.next ≡ old.scope.next = let e = w.locals in omega (arith, e) in
    let text : new.text ≡ old.text = let e = w.texts in omega (arith, e) in
    let block : new.block ≡ old.block = let e = w.blocks in omega (arith, e) in
    λ j. record { place = place j; slot = slot j; text = text j; block = block j }

-- ---- slots

-- behind a statement the locals in front of it are left
left_one : (slots : Slots) (slot : ℕ) (f : Form) → take (length slots) (slots_after slots slot f) ≡ slots
left_one slots slot f = let grown = slots_grow slots slot f in ap (take (length slots)) grown.1 ∙ take-append_seam slots grown.0

-- a change declares nothing, prints nothing and opens nothing; nor does a declaration but for its local
pub change_slots : (slots : Slots) (slot : ℕ) (f : Form) → IsChange f → slots_after slots slot f ≡ slots
change_slots slots slot (Set place e) is = refl
change_slots slots slot (AddTo place e) is = refl
change_slots slots slot _ is = absurd is

pub change_kinds : (f : Form) → IsChange f → kinds_in f ≡ []
change_kinds (Set place e) is = refl
change_kinds (AddTo place e) is = refl
change_kinds _ is = absurd is

pub change_texts : (f : Form) → IsChange f → texts_in f ≡ []
change_texts (Set place e) is = refl
change_texts (AddTo place e) is = refl
change_texts _ is = absurd is

pub change_steps : (f : Form) → IsChange f → steps_in f ≡ []
change_steps (Set place e) is = refl
change_steps (AddTo place e) is = refl
change_steps _ is = absurd is

pub simple_texts : (f : Form) → IsSimple f → texts_in f ≡ []
simple_texts (Declare ty name e) is = refl
simple_texts (Set place e) is = refl
simple_texts (AddTo place e) is = refl
simple_texts _ is = absurd is

pub simple_steps : (f : Form) → IsSimple f → steps_in f ≡ []
simple_steps (Declare ty name e) is = refl
simple_steps (Set place e) is = refl
simple_steps (AddTo place e) is = refl
simple_steps _ is = absurd is

-- an `if` declares nothing that is visible behind it
slots_if : (arms : List Arm) (last : Option (List Stmt)) (slots : Slots) (slot : ℕ) → slots_after slots slot (form.If arms last) ≡ slots
slots_if arms None slots slot = refl
slots_if arms (Some body) slots slot = refl

-- ---- statements

-- no code at all
pub wrote_nothing : (w : Writer) → WroteCode [] w w
wrote_nothing w = record { instrs = sym (append-nil w.instrs); slots = refl; locals = omega arith; texts = omega arith; blocks = omega arith; sizes = refl; asked = omega arith }

-- a size is taken, and then code is written
size_taken : {a : List Instr} {visible : Slots} {k t s q : ℕ} (old new : Writer) → Wrote a visible k t s q (record old { asked = old.asked + 1 }) new → Wrote a visible k t s (q + 1) old new
size_taken {a} {visible} {k} {t} {s} {q} old new w = record {
  instrs = w.instrs;
  slots = w.slots;
  locals = w.locals;
  texts = w.texts;
  blocks = w.blocks;
  sizes = w.sizes;
  asked = let e = w.asked in omega (arith, e);
}

-- the same, where other locals are left visible
pub left : {a : List Instr} {visible : Slots} {k t s q : ℕ} {old mid : Writer} (ss : Slots) (scope : Scoped) → Wrote a visible k t s q old mid
    → scope ≡ record { slots = ss; next = mid.scope.next } → Wrote a ss k t s q old (record mid { scope = scope })
left {a} {visible} {k} {t} {s} {q} {old} {mid} ss scope w e = record {
  instrs = w.instrs;
  slots = ap (λ (x : Scoped). x.slots) e;
  locals = ap (λ (x : Scoped). x.next) e ∙ w.locals;
  texts = w.texts;
  blocks = w.blocks;
  sizes = w.sizes;
  asked = w.asked;
}

module _ (p : Program) where
  -- a test
  pub test_wrote : (test : Expr) (inside more test_at behind out : ℕ) (old : Writer) (one two : List Instr)
      → test_at ≡ length old.instrs → one ≡ old.instrs ++ code_of p old.scope.slots test (length old.instrs)
      → behind ≡ length one + 1 + inside → out ≡ behind + more + 1 → two ≡ one ++ i.Branch out ∷ []
      → WroteTest p test inside more 0 (record { test = test_at; behind = behind; out = out }) old (record old { instrs = two })
  test_wrote test inside more test_at behind out old one two begins wrote behind_is out_is branch =
      let code = code_of p old.scope.slots test (length old.instrs) in
      let long : length one ≡ length old.instrs + size_of test = ap length wrote ∙ length_both old.instrs code (length old.instrs) (size_of test) refl
      (expr_length p old.scope.slots test (length old.instrs)) in
      record {
        code = record {
          instrs = branch ∙ ap (λ c. c ++ i.Branch out ∷ []) wrote ∙ append_assoc old.instrs code (i.Branch out ∷ []);
          slots = refl;
          locals = omega arith;
          texts = omega arith;
          blocks = omega arith;
          sizes = refl;
          asked = omega arith;
        };
        begins = begins;
        behind = omega (arith, long, behind_is);
        out = out_is;
      }

  -- the same, where a size is taken before it
  taken_before : (test : Expr) (inside more k : ℕ) (around : Around) (old new : Writer) → WroteTest p test inside more k around (record old { asked = old.asked + 1 }) new
      → WroteTest p test inside more (k + 1) around old new
  taken_before test inside more k around old new t = record { code = size_taken old new t.code; begins = t.begins; behind = t.behind; out = t.out }

  -- its block is as long as the size that is taken
  pub test_taken : (test : Expr) (inside size more : ℕ) (around : Around) (old taken new : Writer) → taken ≡ record old { asked = old.asked + 1 } → size ≡ inside
      → WroteTest p test size more 0 around taken new → WroteTest p test inside more 1 around old new
  test_taken test inside size more around old taken new e is t =
      taken_before test inside more 0 around old new (subst (λ (n : ℕ). WroteTest p test n more 0 around (record old { asked = old.asked + 1 }) new) is
      (subst (λ (w : Writer). WroteTest p test size more 0 around w new) e t))

  -- the block and what stands behind it are as long as the two sizes that are taken
  pub test_taken_twice : (test : Expr) (inside size more step : ℕ) (around : Around) (old one two new : Writer) → one ≡ record old { asked = old.asked + 1 }
      → two ≡ record one { asked = one.asked + 1 }
      → step ≡ more → size ≡ inside → WroteTest p test size step 0 around two new → WroteTest p test inside more 2 around old new
  test_taken_twice test inside size more step around old one two new e f step_is is t =
      let first : WroteTest p test inside step 1 around one new = test_taken test inside size step around one two new f is t in
      taken_before test inside more 1 around old new (subst (λ (n : ℕ). WroteTest p test inside n 1 around (record old { asked = old.asked + 1 }) new) step_is
      (subst (λ (w : Writer). WroteTest p test inside step 1 around w new) e first))

  -- the code of a test and of its branch is as long as this
  pub test_long : (test : Expr) (slots : Slots) (at out : ℕ) → length (code_of p slots test at ++ i.Branch out ∷ []) ≡ size_of test + 1
  test_long test slots at out = length_both (code_of p slots test at) (i.Branch out ∷ []) (size_of test) 1 (expr_length p slots test at) refl

  -- one statement more
  pub all_wrote : (s : Stmt) (rest : List Stmt) (exits : Exits) (old mid new : Writer) → WroteForm p s.form exits old mid → WroteAll p rest exits mid new → WroteAll p (s ∷ rest) exits old new
  all_wrote s rest exits old mid new one others =
      let at = here_behind (form_size p s.form old.scope.slots old.scope.next) one (form_length p s.form old.scope.slots (here old) exits) in
      wrote_as (wrote_then one others) (λ j. form_code p s.form old.scope.slots (here old) exits ++ statements_code p rest (sym one.slots j) (sym at j) exits)
      (λ j. slots_after_all (one.slots j) (one.locals j) rest)
      (sym (length-append (kinds_in s.form) (kinds_of rest))) (sym (length-append (texts_in s.form) (texts_of rest))) (sym (length-append (steps_in s.form) (steps_of rest)))
      ((λ j. length (asked p s.form old.scope.slots old.scope.next) + length (asked_by p rest (one.slots j) (one.locals j)))
      ∙ sym (length-append (asked p s.form old.scope.slots old.scope.next) (asked_by p rest (slots_after old.scope.slots old.scope.next s.form) (old.scope.next + length (kinds_in s.form)))))

  -- the statements of a block
  pub block_wrote : (body : List Stmt) (exits : Exits) (mark : ℕ) (old mid : Writer) (scope : Scoped) → WroteAll p body exits old mid → mark ≡ length old.scope.slots
      → scope ≡ record { slots = take mark mid.scope.slots; next = mid.scope.next } → WroteBlock p body exits old (record mid { scope = scope })
  block_wrote body exits mark old mid scope w marked e =
      left old.scope.slots scope w
      (e ∙ ap (λ (ss : Slots). record { slots = ss; next = mid.scope.next }) ((λ j. take (marked j) (w.slots j))
      ∙ block_ends old.scope.slots (slots_after_all old.scope.slots old.scope.next body) old.scope.next body refl))

  -- a `while`
  pub while_wrote : (test : Expr) (body : List Stmt) (around : Around) (old mid after : Writer) (instrs : List Instr)
      → WroteTest p test (statements_size p body old.scope.slots old.scope.next) 0 1 around old mid
      → WroteBlock p body (record { on_break = around.out; on_continue = around.behind }) mid after → instrs ≡ after.instrs ++ i.Loop around.test ∷ []
      → WroteWhile p test body old (record after { instrs = instrs })
  while_wrote test body around old mid after instrs t block e =
      let back = length old.instrs + size_of test + 1 + statements_size p body old.scope.slots old.scope.next in
      let code = code_of p old.scope.slots test (length old.instrs) in
      let at = here_past p (size_of test + 1) t.code (test_long test old.scope.slots (length old.instrs) around.out) in
      let behind_is : back ≡ around.behind = sym t.behind in
      let out_is : back + 1 ≡ around.out = let f = t.out in omega (arith, f, behind_is) in
      let inside : List Instr = statements_code p body mid.scope.slots (here mid) (record { on_break = around.out; on_continue = around.behind }) in
      wrote_as (pushed (i.Loop around.test) instrs (wrote_then t.code block) e)
      ((λ j. code ++ i.Branch (out_is j) ∷ statements_code p body (sym t.code.slots j) (sym at j) (record { on_break = out_is j; on_continue = behind_is j }) ++ i.Loop (sym t.begins j) ∷ [])
      ∙ ap (λ c. c ++ i.Loop around.test ∷ []) (sym (append_assoc code (i.Branch around.out ∷ []) inside)))
      t.code.slots (omega arith) (omega arith) (omega arith)
      (let same : length (asked_by p body mid.scope.slots mid.scope.next) ≡ length (asked_by p body old.scope.slots old.scope.next) = (λ j. length (asked_by p body (t.code.slots j) (at j).slot)) in
      omega (arith, same))

  -- an arm more
  arm_wrote : (a : Arm) (rest : List Arm) (exits : Exits) (end : ℕ) (around : Around) (old mid after new : Writer) (instrs : List Instr)
      → WroteTest p (out-Arm a).test (statements_size p (out-Arm a).body old.scope.slots old.scope.next) 0 1 around old mid
      → WroteBlock p (out-Arm a).body exits mid after → instrs ≡ after.instrs ++ i.Jump end ∷ [] → WroteArms p rest exits end (record after { instrs = instrs }) new
      → WroteArms p (a ∷ rest) exits end old new
  arm_wrote a rest exits end around old mid after new instrs t block e others =
      let test = (out-Arm a).test in
      let body = (out-Arm a).body in
      let code = code_of p old.scope.slots test (length old.instrs) in
      let begin = past p (here old) (size_of test + 1) in
      let behind = past p (beyond_all p old.scope.slots begin body) 1 in
      let inside : List Instr = statements_code p body mid.scope.slots (here mid) exits in
      let at_mid : here mid ≡ begin = here_past p (size_of test + 1) t.code (test_long test old.scope.slots (length old.instrs) around.out) in
      let at_after : here after ≡ beyond_all p old.scope.slots begin body =
      here_behind (statements_size p body mid.scope.slots mid.scope.next) block (statements_length p body mid.scope.slots (here mid) exits)
      ∙ (λ j. beyond_all p (t.code.slots j) (at_mid j) body) in
      let long : length instrs ≡ length after.instrs + 1 = ap length e ∙ length_both after.instrs (i.Jump end ∷ []) (length after.instrs) 1 refl refl in
      let at_rest : here (record after { instrs = instrs }) ≡ behind = λ j. record { place = (long ∙ ap (λ (x : At). x.place + 1) at_after) j; slot = (at_after j).slot; text = (at_after j).text; block = (at_after j).block } in
      let out_is : behind.place ≡ around.out = let f = t.out in let g = t.behind in omega (arith, f, g) in
      let slots_rest : after.scope.slots ≡ old.scope.slots = block.slots ∙ t.code.slots in
      let first = pushed (i.Jump end) instrs (wrote_then t.code block) e in
      let jump_and_rest : List Instr = all_arms_code p rest after.scope.slots (here (record after { instrs = instrs })) exits end in
      wrote_as (wrote_then first others)
      ((λ j. code ++ i.Branch (out_is j) ∷ statements_code p body (sym t.code.slots j) (sym at_mid j) exits ++ i.Jump end ∷ all_arms_code p rest (sym slots_rest j) (sym at_rest j) exits end)
      ∙ ap (λ c. c ++ i.Jump end ∷ jump_and_rest) (sym (append_assoc code (i.Branch around.out ∷ []) inside))
      ∙ sym (append_assoc ((code ++ i.Branch around.out ∷ []) ++ inside) (i.Jump end ∷ []) jump_and_rest))
      slots_rest
      (let l = length-append (kinds_of body) (kinds_of_arms rest) in omega (arith, l)) (let l = length-append (texts_of body) (texts_of_arms rest) in omega (arith, l))
      (let l = length-append (steps_of body) (steps_of_arms rest) in omega (arith, l))
      (let first : length (asked_by p body mid.scope.slots mid.scope.next) ≡ length (asked_by p body old.scope.slots old.scope.next) =
      (λ j. length (asked_by p body (t.code.slots j) (at_mid j).slot)) in
      let next : length (asked_by_arms p rest after.scope.slots after.scope.next) ≡ length (asked_by_arms p rest old.scope.slots (old.scope.next + length (kinds_of body))) =
      (λ j. length (asked_by_arms p rest (slots_rest j) (at_after j).slot)) in
      let l = length-append (asked_inside p body old.scope.slots old.scope.next) (asked_by_arms p rest old.scope.slots (old.scope.next + length (kinds_of body))) in
      omega (arith, first, next, l))

  pub arms_wrote : (a : Arm) (rest : List Arm) (body : List Stmt) (exits : Exits) (end : ℕ) (around : Around) (old mid after new : Writer) (instrs : List Instr) → body ≡ (out-Arm a).body
      → WroteTest p (out-Arm a).test (statements_size p (out-Arm a).body old.scope.slots old.scope.next) 0 1 around old mid → WroteBlock p body exits mid after
      → instrs ≡ after.instrs ++ i.Jump end ∷ []
      → WroteArms p rest exits end (record after { instrs = instrs }) new
      → WroteArms p (a ∷ rest) exits end old new
  arms_wrote a rest body exits end around old mid after new instrs same t block e others =
      arm_wrote a rest exits end around old mid after new instrs t (subst (λ (b : List Stmt). WroteBlock p b exits mid after) same block) e others

  -- an `if` that ends at this place
  pub if_wrote : (f : Form) (arms shown : List Arm) (last : Option (List Stmt)) (exits : Exits) (end : ℕ) (old taken mid new : Writer) → f ≡ form.If arms last → shown ≡ arms
      → taken ≡ record old { asked = old.asked + 1 }
      → end ≡ length old.instrs + form_size p f old.scope.slots old.scope.next → WroteArms p shown exits end taken mid → WroteLast p last exits mid new
      → WroteForm p f exits old new
  if_wrote f arms shown last exits end old taken mid new is e same ends arms_part last_part =
      let one = size_taken old mid
      (subst (λ (a : List Arm). WroteArms p a exits end (record old { asked = old.asked + 1 }) mid) e (subst (λ (w : Writer). WroteArms p shown exits end w mid) same arms_part)) in
      let at : here mid ≡ beyond_all_arms p old.scope.slots (here old) arms =
      here_behind (all_arms_size p arms old.scope.slots old.scope.next) one (all_arms_length p arms old.scope.slots (here old) exits end) in
      let end_is : end ≡ length old.instrs + form_size p (form.If arms last) old.scope.slots old.scope.next = ends ∙ ap (λ g. length old.instrs + form_size p g old.scope.slots old.scope.next) is in
      let behind = old.scope.next + length (kinds_of_arms arms) in
      let whole = ap length (asked_if p (form.If arms last) arms last old.scope.slots old.scope.next refl) in
      let parts = length-append ((all_arms_size p arms old.scope.slots old.scope.next + last_block_size p last old.scope.slots behind) ∷ asked_by_arms p arms old.scope.slots old.scope.next)
      (asked_by_last p last old.scope.slots behind) in
      let others : length (asked_by_last p last mid.scope.slots mid.scope.next) ≡ length (asked_by_last p last old.scope.slots behind) =
      (λ j. length (asked_by_last p last (one.slots j) (at j).slot)) in
      subst (λ (g : Form). WroteForm p g exits old new) (sym is)
      (wrote_as (wrote_then one last_part)
      (if_code_is p arms last old.scope.slots (here old) exits
      ∙ (λ j. all_arms_code p arms old.scope.slots (here old) exits (sym end_is j) ++ last_block_code p last (sym one.slots j) (sym at j) exits))
      (one.slots ∙ sym (slots_if arms last old.scope.slots old.scope.next))
      (sym (ap length (kinds_if (form.If arms last) arms last refl) ∙ length-append (kinds_of_arms arms) (kinds_of_last last)))
      (sym (ap length (texts_if arms last) ∙ length-append (texts_of_arms arms) (texts_of_last last)))
      (sym (ap length (steps_if arms last) ∙ length-append (steps_of_arms arms) (steps_of_last last)))
      (omega (arith, whole, parts, others)))

  -- a `while`, a block and a step, as statements
  pub form_while_wrote : (f : Form) (test : Expr) (body shown : List Stmt) (exits : Exits) (old new : Writer) → f ≡ form.While test body → shown ≡ body → WroteWhile p test shown old new
      → WroteForm p f exits old new
  form_while_wrote f test body shown exits old new is e w =
      subst (λ (g : Form). WroteForm p g exits old new) (sym is)
      (wrote_as (subst (λ (b : List Stmt). WroteWhile p test b old new) e w) (while_code_is p test body old.scope.slots (here old) exits) refl (sym (ap length (kinds_row body)))
      (sym (ap length (texts_row body))) (sym (ap length (steps_row body))) (sym (ap length (asked_while p (form.While test body) test body old.scope.slots old.scope.next refl))))

  pub form_block_wrote : (f : Form) (body shown : List Stmt) (exits : Exits) (old new : Writer) → f ≡ form.Block body → shown ≡ body → WroteBlock p shown exits old new → WroteForm p f exits old new
  form_block_wrote f body shown exits old new is e w =
      subst (λ (g : Form). WroteForm p g exits old new) (sym is)
      (wrote_as (subst (λ (b : List Stmt). WroteBlock p b exits old new) e w) (row_code_is p body old.scope.slots (here old) exits) refl (sym (ap length (kinds_row body)))
      (sym (ap length (texts_row body))) (sym (ap length (steps_row body))) (sym (ap length (asked_block p (form.Block body) body old.scope.slots old.scope.next refl))))

  pub form_par_wrote : (f : Form) (blocks shown : List RoutineBlock) (exits : Exits) (old new : Writer) → f ≡ form.Par blocks → shown ≡ blocks → WroteStep p shown old new → WroteForm p f exits old new
  form_par_wrote f blocks shown exits old new is e w =
      subst (λ (g : Form). WroteForm p g exits old new) (sym is)
      (wrote_as (subst (λ (b : List RoutineBlock). WroteStep p b old new) e w) (λ j. widths_code p old.scope.slots (blocks_is blocks j) (length old.instrs)
      ++ i.Par old.block (length (blocks_is blocks j)) ∷ []) refl refl refl (sym (ap length (blocks_is blocks))) refl)

  -- A `for`. What its first statement declares is visible up to the end of the loop; its last one is a change, which declares nothing.
  for_wrote : (first : Form) (test : Expr) (next : Form) (body : List Stmt) (exits : Exits) (around : Around) (old one two three four : Writer) (instrs : List Instr) → ForIs p first test next body
      → WroteForm p first exits old one
      → WroteTest p test (statements_size p body one.scope.slots one.scope.next) (form_size p next one.scope.slots (one.scope.next + length (kinds_of body))) 2 around one two
      → WroteBlock p body (record { on_break = around.out; on_continue = around.behind }) two three
      → WroteForm p next exits three four
      → instrs ≡ four.instrs ++ i.Loop around.test ∷ []
      → Wrote (for_code p first test next body old.scope.slots (here old) exits) (slots_after old.scope.slots old.scope.next first) (length (kinds_in first ++ kinds_of body)) (length (texts_of body))
      (length (steps_of body)) (length (asked_by_for p first next body old.scope.slots old.scope.next)) old (record four { instrs = instrs })
  for_wrote first test next body exits around old one two three four instrs is w t block w' e =
      let inner = slots_after old.scope.slots old.scope.next first in
      let head = beyond p old.scope.slots (here old) first in
      let begin = past p head (size_of test + 1) in
      let step = beyond_all p inner begin body in
      let back = step.place + form_size p next inner step.slot in
      let before = form_code p first old.scope.slots (here old) exits in
      let tested = code_of p inner test head.place in
      let inside = statements_code p body inner begin (record { on_break = back + 1; on_continue = step.place }) in
      let head_is : here one ≡ head = here_behind (form_size p first old.scope.slots old.scope.next) w (form_length p first old.scope.slots (here old) exits) in
      let two_is : two.scope.slots ≡ inner = t.code.slots ∙ w.slots in
      let begin_is : here two ≡ begin = here_past p (size_of test + 1) t.code (test_long test one.scope.slots (length one.instrs) around.out) ∙ ap (λ (x : At). past p x (size_of test + 1)) head_is in
      let three_is : three.scope.slots ≡ inner = block.slots ∙ two_is in
      let step_is : here three ≡ step =
      here_behind (statements_size p body two.scope.slots two.scope.next) block (statements_length p body two.scope.slots (here two) (record { on_break = around.out; on_continue = around.behind }))
      ∙ (λ j. beyond_all p (two_is j) (begin_is j) body) in
      let regroup : (n : ℕ) → head.place + size_of test + 1 + n ≡ head.place + (size_of test + 1) + n = λ n. omega arith in
      let behind_is : around.behind ≡ step.place =
      t.behind ∙ (λ j. (head_is j).place + size_of test + 1 + statements_size p body (w.slots j) (head_is j).slot) ∙ regroup (statements_size p body inner head.slot) in
      let out_is : around.out ≡ back + 1 = t.out ∙ (λ j. behind_is j + form_size p next (w.slots j) ((head_is j).slot + length (kinds_of body)) + 1) in
      let no_kinds = ap length (change_kinds next is.next_change) in
      let no_texts = ap length (change_texts next is.next_change) in
      let no_steps = ap length (change_steps next is.next_change) in
      let no_first_texts = ap length (simple_texts first is.first_simple) in
      let no_first_steps = ap length (simple_steps first is.first_simple) in
      let kinds_both = length-append (kinds_in first) (kinds_of body) in
      let asked_first : List ℕ = asked p first old.scope.slots old.scope.next in
      let asked_inner : List ℕ = form_size p next inner step.slot ∷ asked_inside p body inner begin.slot in
      let asked_next : List ℕ = asked p next inner step.slot in
      let all_asked = length-append asked_first (asked_inner ++ asked_next) in
      let rest_asked = length-append asked_inner asked_next in
      let in_block : length (asked_by p body two.scope.slots two.scope.next) ≡ length (asked_by p body inner begin.slot) = (λ j. length (asked_by p body (two_is j) (begin_is j).slot)) in
      let in_next : length (asked p next three.scope.slots three.scope.next) ≡ length asked_next = (λ j. length (asked p next (three_is j) (step_is j).slot)) in
      wrote_as (pushed (i.Loop around.test) instrs (wrote_then (wrote_then (wrote_then w t.code) block) w') e)
      (sym ((λ j. before ++ (code_of p (w.slots j) test (head_is j).place ++ i.Branch (out_is j) ∷ [])
      ++ statements_code p body (two_is j) (begin_is j) (record { on_break = out_is j; on_continue = behind_is j })
      ++ form_code p next (three_is j) (step_is j) exits ++ i.Loop ((t.begins ∙ ap (λ (x : At). x.place) head_is) j) ∷ [])
      ∙ ap (λ c. c ++ form_code p next inner step exits ++ i.Loop head.place ∷ [])
      (ap (λ c. c ++ inside) (sym (append_assoc before tested (i.Branch (back + 1) ∷ []))) ∙ append_assoc (before ++ tested) (i.Branch (back + 1) ∷ []) inside)))
      (change_slots three.scope.slots three.scope.next next is.next_change ∙ three_is)
      (omega (arith, no_kinds, kinds_both)) (omega (arith, no_texts, no_first_texts)) (omega (arith, no_steps, no_first_steps))
      (omega (arith, all_asked, rest_asked, in_block, in_next))

  -- the same, where the locals of the loop are left behind it
  pub form_for_wrote : (f : Form) (first first' : Stmt) (test : Expr) (next next' : Stmt) (body inside inside' : List Stmt) (exits : Exits) (around : Around) (mark : ℕ)
      (old one two three four : Writer) (instrs : List Instr) (scope : Scoped)
      → f ≡ form.For first test next body → first' ≡ first → next' ≡ next → inside ≡ body → inside' ≡ body → FormIs p f → mark ≡ length old.scope.slots
      → WroteForm p first'.form exits old one
      → WroteTest p test (statements_size p inside one.scope.slots one.scope.next) (form_size p next'.form one.scope.slots (one.scope.next + length (kinds_of inside))) 2 around one two
      → WroteBlock p inside' (record { on_break = around.out; on_continue = around.behind }) two three → WroteForm p next'.form exits three four
      → instrs ≡ four.instrs ++ i.Loop around.test ∷ [] → scope ≡ record { slots = take mark four.scope.slots; next = four.scope.next }
      → WroteForm p f exits old (record four { instrs = instrs; scope = scope })
  form_for_wrote f first first' test next next' body inside inside' exits around mark old one two three four instrs scope is first_is next_is inside_is inside_is' shape marked w t block w' e left_is =
      let whole =
      for_wrote first.form test next.form body exits around old one two three four instrs (is_for p f first test next body is shape)
      (subst (λ (s : Stmt). WroteForm p s.form exits old one) first_is w)
      (subst (λ (b : List Stmt). WroteTest p test (statements_size p b one.scope.slots one.scope.next) (form_size p next.form one.scope.slots (one.scope.next + length (kinds_of b))) 2 around one two)
      inside_is
      (subst (λ (s : Stmt).
      WroteTest p test (statements_size p inside one.scope.slots one.scope.next) (form_size p s.form one.scope.slots (one.scope.next + length (kinds_of inside))) 2 around one two)
      next_is t))
      (subst (λ (b : List Stmt). WroteBlock p b (record { on_break = around.out; on_continue = around.behind }) two three) inside_is' block)
      (subst (λ (s : Stmt). WroteForm p s.form exits three four) next_is w') e in
      let slots_left : take mark four.scope.slots ≡ old.scope.slots = (λ j. take (marked j) (whole.slots j)) ∙ left_one old.scope.slots old.scope.next first.form in
      subst (λ (g : Form). WroteForm p g exits old (record four { instrs = instrs; scope = scope })) (sym is)
      (wrote_as (left old.scope.slots scope whole (left_is ∙ ap (λ (ss : Slots). record { slots = ss; next = four.scope.next }) slots_left))
      (for_code_is p first test next body old.scope.slots (here old) exits) refl (sym (ap length (kinds_for (form.For first test next body) first test next body refl)))
      (sym (ap length (texts_row body))) (sym (ap length (steps_row body)))
      (sym (ap length (asked_for p (form.For first test next body) first test next body old.scope.slots old.scope.next refl))))

-- ---- single statements

-- the code for an item of an array
set_element : (p : Program) (slots : Slots) (q : Place) (e index : Expr) (at : ℕ) → (out-Place q).index ≡ Some index
    → set_code p slots q e at ≡ code_of p slots index at ++ code_of p slots e (at + size_of index)
    ++ i.SetItem (declared (area_of p.shared (out-Place q).name.text)).first (unwrap_or (declared (area_of p.shared (out-Place q).name.text)).items 0) ∷ []
unfolding shape-the_row-Expr-0 hidden-the_row-Expr-0 hidden
set_element p slots q e index at is = ap (λ (x : Place). set_code p slots x e at) (is-Place' q) ∙ ap (λ j. set_code p slots (Place' (out-Place q).name (back-Place-index j)) e at) is

add_element : (p : Program) (slots : Slots) (q : Place) (e index : Expr) (at : ℕ) → (out-Place q).index ≡ Some index
    → add_to_code p slots q e at ≡ code_of p slots index at ++ code_of p slots e (at + size_of index)
    ++ i.AddItem (declared (area_of p.shared (out-Place q).name.text)).first (unwrap_or (declared (area_of p.shared (out-Place q).name.text)).items 0) ∷ []
unfolding shape-the_row-Expr-0 hidden-the_row-Expr-0 hidden
add_element p slots q e index at is = ap (λ (x : Place). add_to_code p slots x e at) (is-Place' q) ∙ ap (λ j. add_to_code p slots (Place' (out-Place q).name (back-Place-index j)) e at) is

-- an index, a value, and an instruction for an item of an array
item_wrote : (p : Program) (e index shown : Expr) (instr : ℕ → ℕ → Instr) (meant area : Area) (items : ℕ) (old : Writer) (one two three : List Instr) → shown ≡ index → area ≡ meant
    → items ≡ unwrap_or area.items 0
    → one ≡ old.instrs ++ code_of p old.scope.slots shown (length old.instrs) → two ≡ one ++ code_of p old.scope.slots e (length one) → three ≡ two ++ instr area.first items ∷ []
    → WroteCode (code_of p old.scope.slots index (length old.instrs) ++ code_of p old.scope.slots e (length old.instrs + size_of index) ++ instr meant.first (unwrap_or meant.items 0) ∷ []) old
    (record old { instrs = three })
item_wrote p e index shown instr meant area items old one two three shown_is area_is items_is first second third =
    let slots = old.scope.slots in
    let at = length old.instrs in
    let code : List Instr = code_of p slots index at in
    let value : List Instr = code_of p slots e (at + size_of index) in
    let wrote : one ≡ old.instrs ++ code = first ∙ ap (λ (x : Expr). old.instrs ++ code_of p slots x at) shown_is in
    let long : length one ≡ at + size_of index = ap length wrote ∙ length_both old.instrs code at (size_of index) refl (expr_length p slots index at) in
    record {
      instrs =
          third
          ∙ (λ j. (second ∙ (λ k. wrote k ++ code_of p slots e (long k))) j ++ instr (area_is j).first ((items_is ∙ ap (λ (a : Area). unwrap_or a.items 0) area_is) j) ∷ [])
          ∙ ap (λ c. c ++ instr meant.first (unwrap_or meant.items 0) ∷ []) (append_assoc old.instrs code value)
          ∙ append_assoc old.instrs (code ++ value) (instr meant.first (unwrap_or meant.items 0) ∷ []);
      slots = refl;
      locals = omega arith;
      texts = omega arith;
      blocks = omega arith;
      sizes = refl;
      asked = omega arith;
    }

pub set_wrote : (p : Program) (q : Place) (e index shown : Expr) (area : Area) (items : ℕ) (old : Writer) (one two three : List Instr) → (out-Place q).index ≡ Some index → shown ≡ index
    → area ≡ declared (area_of p.shared (out-Place q).name.text) → items ≡ unwrap_or area.items 0
    → one ≡ old.instrs ++ code_of p old.scope.slots shown (length old.instrs) → two ≡ one ++ code_of p old.scope.slots e (length one) → three ≡ two ++ i.SetItem area.first items ∷ []
    → WroteCode (set_code p old.scope.slots q e (length old.instrs)) old (record old { instrs = three })
set_wrote p q e index shown area items old one two three is shown_is area_is items_is first second third =
    wrote_as (item_wrote p e index shown i.SetItem (declared (area_of p.shared (out-Place q).name.text)) area items old one two three shown_is area_is items_is first second third)
    (set_element p old.scope.slots q e index (length old.instrs) is) refl refl refl refl refl

pub add_wrote : (p : Program) (q : Place) (e index shown : Expr) (area : Area) (items : ℕ) (old : Writer) (one two three : List Instr) → (out-Place q).index ≡ Some index → shown ≡ index
    → area ≡ declared (area_of p.shared (out-Place q).name.text) → items ≡ unwrap_or area.items 0
    → one ≡ old.instrs ++ code_of p old.scope.slots shown (length old.instrs) → two ≡ one ++ code_of p old.scope.slots e (length one) → three ≡ two ++ i.AddItem area.first items ∷ []
    → WroteCode (add_to_code p old.scope.slots q e (length old.instrs)) old (record old { instrs = three })
add_wrote p q e index shown area items old one two three is shown_is area_is items_is first second third =
    wrote_as (item_wrote p e index shown i.AddItem (declared (area_of p.shared (out-Place q).name.text)) area items old one two three shown_is area_is items_is first second third)
    (add_element p old.scope.slots q e index (length old.instrs) is) refl refl refl refl refl
