-- The code of statements keeps the rules.
use Rattle.std.proofs.Common.{◌≡◌, ℕ, ◌+◌, ◌≤◌, Bool, List, [], ◌∷◌, ◌++◌, length, Some, refl, sym, subst, arith, length-append}
use Rattle.std.specs.Prelude.{slice_get}
use Rattle.std.proofs.lemmas.Option.{slice_get_within}
use Rattle.csl_tree.specs.declared.program.Program.{Program}
use Rattle.csl_tree.specs.declared.program.Call.{Call'}
use Rattle.csl_tree.specs.declared.program.Expr.{Expr}
use Rattle.csl_tree.specs.declared.program.Arm.{Arm'}
use Rattle.csl_tree.specs.declared.program.Form.{Form, Declare, Set, AddTo, If', While', For', Break, Continue, Return, Assert, Block', Print, Par', Row_of-Arm, end_of-Arm, more_of-Arm, Row_of-Stmt}
use Rattle.csl_tree.specs.declared.program.Form.{end_of-Stmt, more_of-Stmt, Held-Form-If-1}
use Rattle.csl_tree.specs.declared.program.Form as form
use Rattle.csl_meaning.specs.Effect.{blocks_in}
use Rattle.bytecode.specs.declared.instr.Instr.{Instr}
use Rattle.bytecode.specs.declared.instr.Instr.TheVariants as i
use Rattle.cal_terms.specs.declared.types.Ty.{Ty}
use Rattle.cal_terms.specs.declared.types.Ty.TheVariants as ty
use Rattle.bytecode.specs.declared.module.Code.{Code}
use Rattle.bytecode.specs.declared.module.Module.{Module}
use Rattle.code_verify.specs.Kinds.{after}
use Rattle.code_verify.specs.Rules.{Taken, KindsAt}
use Rattle.compiled_code.specs.Slots.{Slots}
use Rattle.compiled_code.specs.Sizes.{size_of, kinds_in, kinds_in_row, kinds_in_arms}
use Rattle.compiled_code.specs.Places.{slots_after, slots_after_row, form_size, row_size, arms_size, last_size}
use Rattle.compiled_code.specs.Values.{kind_in, code_of}
use Rattle.compiled_code.specs.Statements.{At, Exits, past, beyond, beyond_row, beyond_arms, form_code, row_code, arms_code, last_code}
use Rattle.compiled_code.specs.Modules.{ends_at}
use Rattle.compiled_code.proofs.Lengths.{expr_length, form_length, row_length, arms_length}
use Rattle.accepted_code.proofs.Spelled.{ExprSpelled, FormSpelled, RowSpelled, ArmsSpelled, LastSpelled}
use Rattle.accepted_code.proofs.Permits.{Permits}
use Rattle.accepted_code.proofs.Fits.{ExprFits, FormFits, RowFits, ArmsFit, LastFits}
use Rattle.accepted_code.proofs.Taken.{taken_of, form_taken, row_taken, arms_taken, last_taken}
use Rattle.accepted_code.proofs.Fine.{Held, in_front, behind, Right, Fine, join, jumps, branches, loops}
use Rattle.accepted_code.proofs.Starts.{widths_spelled, expr_many, form_many, row_many, arms_many, value_starts, row_starts, arms_start, last_starts}
use Rattle.accepted_code.proofs.Pieces.{at_end, then_piece, inside}
use Rattle.accepted_code.proofs.ValuesRight.{expr_right}
use Rattle.accepted_code.proofs.Leaving.{store_leaves}
use Rattle.accepted_code.proofs.StatementsRight.{expr_then, set_right, add_to_right, return_right, statement_right, print_right, step_right}

module _ (m : Module) (c : Code) (taken : Taken) (Ok : Instr → Type 0) (visible : ℕ) (main : Bool) (permits : Permits m c visible main Ok) (long : length taken ≡ length c.instrs) (p : Program) where
  -- a place to which a jump may go from before: nothing is on the operands there
  pub record IsExit (end to : ℕ) : Type 0 where
    pub ahead : end ≤ to
    pub empty : KindsAt taken to []

  -- both exits are behind this place
  pub record AreExits (exits : Exits) (end : ℕ) : Type 0 where
    pub on_break : IsExit end exits.on_break
    pub on_continue : IsExit end exits.on_continue

  pub earlier : (exits : Exits) (end sooner : ℕ) → sooner ≤ end → AreExits exits end → AreExits exits sooner
  earlier exits end sooner le are =
      let one = are.on_break.ahead in
      let two = are.on_continue.ahead in
      record { on_break = record { ahead = omega (arith, le, one); empty = are.on_break.empty }; on_continue = record { ahead = omega (arith, le, two); empty = are.on_continue.empty } }

  -- both exits of a body are its end
  pub body_exits : (end : ℕ) → KindsAt taken (0 + end) [] → AreExits (ends_at end) (0 + end)
  body_exits end empty =
      let at : KindsAt taken end [] = at_end taken [] (0 + end) end (omega arith) empty in
      record { on_break = record { ahead = omega arith; empty = at }; on_continue = record { ahead = omega arith; empty = at } }

  leaps : (place to : ℕ) → IsExit (place + 1) to → KindsAt taken place [] → KindsAt taken (place + 1) [] → Fine m c taken Ok place (i.Jump to)
  leaps place to exit here next =
      let ahead = exit.ahead in
      jumps m c taken Ok place to [] here (inside m c taken Ok long to [] exit.empty) (omega (arith, ahead)) (omega arith) (permits.jumps to (inside m c taken Ok long to [] exit.empty)) exit.empty
      (λ within none. next)

  -- a test and the branch behind it, to a place where nothing is on the operands
  tested : (slots : Slots) (test : Expr) (at to : ℕ) (row : List Instr) (row_t : Taken) → ExprFits m c Ok p slots test ty.Bool → ExprSpelled test → at + (size_of test + 1) ≤ to → KindsAt taken to []
      → Held c.instrs at (code_of p slots test at ++ i.Branch to ∷ row) → Held taken at (taken_of p slots test [] ++ (kind_in p slots test.node ∷ []) ∷ row_t)
      → (Held taken (at + (size_of test + 1)) row_t → KindsAt taken (at + (size_of test + 1)) [])
      → (Held c.instrs (at + (size_of test + 1)) row → Held taken (at + (size_of test + 1)) row_t → Right m c taken Ok (at + (size_of test + 1)) row)
      → Right m c taken Ok at (code_of p slots test at ++ i.Branch to ∷ row)
  tested slots test at to row row_t fit s ahead there h t begins rest =
      let kind = kind_in p slots test.node in
      let same : at + size_of test + 1 ≡ at + (size_of test + 1) = omega arith in
      then_piece m c taken Ok at (size_of test) (code_of p slots test at) (i.Branch to ∷ row) (taken_of p slots test []) ((kind ∷ []) ∷ row_t) (kind ∷ []) (expr_length p slots test at)
      (expr_many p slots test []) h t (λ tb. tb.0)
      (λ ha ta here. expr_right m c taken Ok visible main permits long p slots test ty.Bool at [] fit s (omega arith) ha ta here)
      (λ hb tb here.
      let test_is : KindsAt taken (at + size_of test) (ty.Bool ∷ []) = subst (λ (x : Ty). KindsAt taken (at + size_of test) (x ∷ [])) fit.1 here in
      let row_held : Held taken (at + (size_of test + 1)) row_t = subst (λ (n : ℕ). Held taken n row_t) same tb.1 in
      let code_held : Held c.instrs (at + (size_of test + 1)) row = subst (λ (n : ℕ). Held c.instrs n row) same hb.1 in
      let next = at_end taken [] (at + (size_of test + 1)) (at + size_of test + 1) (sym same) (begins row_held) in (
        branches m c taken Ok (at + size_of test) to [] hb.0 test_is (inside m c taken Ok long to [] there) (omega (arith, ahead)) (omega arith)
            (permits.branches to (inside m c taken Ok long to [] there)) there next,
        subst (λ (n : ℕ). Right m c taken Ok n row) (sym same) (rest code_held row_held),
      ))

  mutual
    pub form_right : (f : Form) (slots : Slots) (at : At) (exits : Exits) → FormFits m c Ok p slots at f → FormSpelled f → AreExits exits (at.place + form_size p f slots at.slot)
        → Held c.instrs at.place (form_code p f slots at exits) → Held taken at.place (form_taken p f slots at.slot) → KindsAt taken (at.place + form_size p f slots at.slot) []
        → Right m c taken Ok at.place (form_code p f slots at exits)
    form_right (Declare ty' name e) slots at exits fit s ex h t end =
        let within = slice_get_within c.locals at.slot _ fit.1 in
        expr_then m c taken Ok visible main permits long p slots e (i.Store at.slot) at.place s tt within (permits.stores at.slot within)
        (store_leaves m c Ok p slots (slice_get c.locals at.slot) _ (kind_in p slots e.node) fit.1 fit.0.1) fit.0.0 h t end
    form_right (Set place e) slots at exits fit s ex h t end = set_right m c taken Ok visible main permits long p slots place e at.place fit s.0 s.1 h t end
    form_right (AddTo place e) slots at exits fit s ex h t end = add_to_right m c taken Ok visible main permits long p slots place e at.slot at.place fit s.0 s.1 h t end
    form_right (If' shape arms last) slots at exits fit s ex h t end =
        let end_place = at.place + form_size p (If' shape arms last) slots at.slot in
        let arms_long = arms_size p arms slots at.slot in
        let behind_slot = at.slot + length (kinds_in_arms arms) in
        let last_long = last_size p last slots behind_slot in
        let one = arms_code p arms slots at exits end_place in
        let two = last_code p last slots (beyond_arms p slots at arms) exits in
        let same : at.place + (arms_long + last_long) ≡ at.place + arms_long + last_long = omega arith in
        let end' = at_end taken [] (at.place + (arms_long + last_long)) (at.place + arms_long + last_long) same end in
        then_piece m c taken Ok at.place arms_long one two (arms_taken p arms slots at.slot) (last_taken p last slots behind_slot) [] (arms_length p arms slots at exits end_place)
        (arms_many p arms slots at.slot) h t
        (λ tb. last_starts p taken last slots (at.place + arms_long) behind_slot s.1 tb end')
        (λ ha ta there. arms_right arms slots at exits end_place fit.0 s.0 (earlier exits (at.place + (arms_long + last_long)) (at.place + arms_long) (omega arith) ex)
        (record { ahead = omega arith; empty = end }) ha ta there)
        (λ hb tb there. last_right last slots (beyond_arms p slots at arms) exits fit.1 s.1 (earlier exits (at.place + (arms_long + last_long)) (at.place + arms_long + last_long) (omega arith) ex) hb
        tb end')
    form_right (While' test shape body) slots at exits fit s ex h t end =
        let body_long = row_size p body slots at.slot in
        let begin = at.place + (size_of test + 1) in
        let back = at.place + size_of test + 1 + body_long in
        let inner : Exits = record { on_break = back + 1; on_continue = back } in
        let inside_code = row_code p body slots (past p at (size_of test + 1)) inner in
        let one = code_of p slots test at.place ++ i.Branch (back + 1) ∷ inside_code in
        let one_t = taken_of p slots test [] ++ (kind_in p slots test.node ∷ []) ∷ row_taken p body slots at.slot in
        let l = length-append (code_of p slots test at.place) (i.Branch (back + 1) ∷ inside_code) in
        let l1 = expr_length p slots test at.place in
        let l2 = row_length p body slots (past p at (size_of test + 1)) inner in
        let q = length-append (taken_of p slots test []) ((kind_in p slots test.node ∷ []) ∷ row_taken p body slots at.slot) in
        let q1 = expr_many p slots test [] in
        let q2 = row_many p body slots at.slot in
        let out = at_end taken [] (at.place + (size_of test + 1 + body_long + 1)) (back + 1) (omega arith) end in
        let body_end : at.place + (size_of test + 1 + body_long) ≡ begin + body_long = omega arith in
        let back_place : at.place + (size_of test + 1 + body_long) ≡ back = omega arith in
        let starts = value_starts p slots taken test.node at.place [] 0 s.0 (in_front taken at.place (taken_of p slots test []) _ (in_front taken at.place one_t ([] ∷ []) t)) in
        let place_in = inside m c taken Ok long at.place [] starts in
        then_piece m c taken Ok at.place (size_of test + 1 + body_long) one (i.Loop at.place ∷ []) one_t ([] ∷ []) [] (omega (arith, l, l1, l2)) (omega (arith, q, q1, q2)) h t (λ tb. tb.0)
        (λ ha ta there.
        let at_back = at_end taken [] (at.place + (size_of test + 1 + body_long)) back back_place there in
        let body_ends = at_end taken [] (at.place + (size_of test + 1 + body_long)) (begin + body_long) body_end there in
        tested slots test at.place (back + 1) inside_code (row_taken p body slots at.slot) fit.0 s.0 (omega arith) out ha ta
        (λ tb. row_starts p taken body slots begin at.slot s.1 tb body_ends)
        (λ hb tb. row_right body slots (past p at (size_of test + 1)) inner fit.1 s.1 (record
        { on_break = record { ahead = omega arith; empty = out }; on_continue = record { ahead = omega arith; empty = at_back } }) hb tb body_ends))
        (λ hb tb there. (loops m c taken Ok (at.place + (size_of test + 1 + body_long)) at.place there place_in (omega arith) (permits.loops at.place place_in) starts (λ within none. at_end taken [] (at.place + (size_of test + 1 + body_long + 1)) (at.place + (size_of test + 1 + body_long) + 1) (omega arith) end), tt))
    form_right (For' shape first test shape' next' shape'' body) slots at exits fit s ex h t end =
        let inner = slots_after_row slots at.slot first in
        let head = beyond_row p slots at first in
        let begin = past p head (size_of test + 1) in
        let step = beyond_row p inner begin body in
        let first_long = row_size p first slots at.slot in
        let body_long = row_size p body inner begin.slot in
        let next_long = row_size p next' inner step.slot in
        let back = step.place + next_long in
        let exits' : Exits = record { on_break = back + 1; on_continue = step.place } in
        let one = row_code p first slots at exits in
        let two = code_of p inner test head.place in
        let three = i.Branch (back + 1) ∷ row_code p body inner begin exits' in
        let four = row_code p next' inner step exits in
        let one_t = row_taken p first slots at.slot in
        let two_t = taken_of p inner test [] in
        let three_t = (kind_in p inner test.node ∷ []) ∷ row_taken p body inner begin.slot in
        let four_t = row_taken p next' inner step.slot in
        let a = row_length p first slots at exits in
        let b = expr_length p inner test head.place in
        let d = row_length p body inner begin exits' in
        let e = row_length p next' inner step exits in
        let a' = row_many p first slots at.slot in
        let b' = expr_many p inner test [] in
        let d' = row_many p body inner begin.slot in
        let e' = row_many p next' inner step.slot in
        let l1 = length-append (one ++ two ++ three) four in
        let l2 = length-append (one ++ two) three in
        let l3 = length-append one two in
        let q1 = length-append (one_t ++ two_t ++ three_t) four_t in
        let q2 = length-append (one_t ++ two_t) three_t in
        let q3 = length-append one_t two_t in
        let whole = first_long + size_of test + 1 + body_long + next_long in
        let h4 = in_front c.instrs at.place (one ++ two ++ three ++ four) (i.Loop head.place ∷ []) h in
        let t4 = in_front taken at.place (one_t ++ two_t ++ three_t ++ four_t) ([] ∷ []) t in
        let h5 = behind c.instrs at.place back (one ++ two ++ three ++ four) (i.Loop head.place ∷ []) (omega (arith, l1, l2, l3, a, b, d, e)) h in
        let t5 = behind taken at.place back (one_t ++ two_t ++ three_t ++ four_t) ([] ∷ []) (omega (arith, q1, q2, q3, a', b', d', e')) t in
        let h3 = in_front c.instrs at.place (one ++ two ++ three) four h4 in
        let t3 = in_front taken at.place (one_t ++ two_t ++ three_t) four_t t4 in
        let next_h = behind c.instrs at.place step.place (one ++ two ++ three) four (omega (arith, l2, l3, a, b, d)) h4 in
        let next_t = behind taken at.place step.place (one_t ++ two_t ++ three_t) four_t (omega (arith, q2, q3, a', b', d')) t4 in
        let h2 = in_front c.instrs at.place (one ++ two) three h3 in
        let t2 = in_front taken at.place (one_t ++ two_t) three_t t3 in
        let branch_h = behind c.instrs at.place (head.place + size_of test) (one ++ two) three (omega (arith, l3, a, b)) h3 in
        let branch_t = behind taken at.place (head.place + size_of test) (one_t ++ two_t) three_t (omega (arith, q3, a', b')) t3 in
        let first_h = in_front c.instrs at.place one two h2 in
        let first_t = in_front taken at.place one_t two_t t2 in
        let test_h = behind c.instrs at.place head.place one two (omega (arith, a)) h2 in
        let test_t = behind taken at.place head.place one_t two_t (omega (arith, a')) t2 in
        let at_back : KindsAt taken back [] = t5.0 in
        let out : KindsAt taken (back + 1) [] = at_end taken [] (at.place + (first_long + size_of test + 1 + body_long + next_long + 1)) (back + 1) (omega arith) end in
        let at_step = row_starts p taken next' inner step.place step.slot s.2 next_t at_back in
        let body_t : Held taken begin.place (row_taken p body inner begin.slot) = subst (λ (n : ℕ). Held taken n (row_taken p body inner begin.slot)) (omega arith) branch_t.1 in
        let body_h : Held c.instrs begin.place (row_code p body inner begin exits') = subst (λ (n : ℕ). Held c.instrs n (row_code p body inner begin exits')) (omega arith) branch_h.1 in
        let at_begin = row_starts p taken body inner begin.place begin.slot s.3 body_t at_step in
        let at_head = value_starts p inner taken test.node head.place [] 0 s.1 test_t in
        let head_in = inside m c taken Ok long head.place [] at_head in
        let out_in = inside m c taken Ok long (back + 1) [] out in
        let one_right = row_right first slots at exits fit.0 s.0 (earlier exits (at.place + (first_long + size_of test + 1 + body_long + next_long + 1)) (at.place + first_long) (omega arith) ex)
        first_h first_t at_head in
        let two_right = expr_right m c taken Ok visible main permits long p inner test ty.Bool head.place [] fit.1 s.1 (omega arith) test_h test_t branch_t.0 in
        let test_is : KindsAt taken (head.place + size_of test) (ty.Bool ∷ []) = subst (λ (x : Ty). KindsAt taken (head.place + size_of test) (x ∷ [])) fit.1.1 branch_t.0 in
        let branch = branches m c taken Ok (head.place + size_of test) (back + 1) [] branch_h.0 test_is out_in (omega arith) (omega arith) (permits.branches (back + 1) out_in) out
        (at_end taken [] begin.place (head.place + size_of test + 1) (omega arith) at_begin) in
        let body_right = row_right body inner begin exits' fit.2 s.3 (record { on_break = record { ahead = omega arith; empty = out }; on_continue = record { ahead = omega arith; empty = at_step } })
        body_h body_t at_step in
        let next_right = row_right next' inner step exits fit.3 s.2 (earlier exits (at.place + (first_long + size_of test + 1 + body_long + next_long + 1)) back (omega arith) ex) next_h next_t
        at_back in
        let loop = loops m c taken Ok back head.place at_back head_in (omega arith) (permits.loops head.place head_in) at_head (λ within none. out) in
        join m c taken Ok at.place back (one ++ two ++ three ++ four) (i.Loop head.place ∷ []) (omega (arith, l1, l2, l3, a, b, d, e))
        (join m c taken Ok at.place step.place (one ++ two ++ three) four (omega (arith, l2, l3, a, b, d))
        (join m c taken Ok at.place (head.place + size_of test) (one ++ two) three (omega (arith, l3, a, b))
        (join m c taken Ok at.place head.place one two (omega (arith, a)) one_right two_right)
        (branch, subst (λ (n : ℕ). Right m c taken Ok n (row_code p body inner begin exits')) (omega arith) body_right))
        next_right)
        (loop, tt)
    form_right Break slots at exits fit s ex h t end = (leaps at.place exits.on_break ex.on_break t.0 end, tt)
    form_right Continue slots at exits fit s ex h t end = (leaps at.place exits.on_continue ex.on_continue t.0 end, tt)
    form_right (Return given) slots at exits fit s ex h t end = return_right m c taken Ok visible main permits long p slots c.gives given at.place refl fit s h t end
    form_right (form.CallOf (Call' name shape args)) slots at exits fit s ex h t end = statement_right m c taken Ok visible main permits long p slots name args at.place fit.0 fit.1 s.1 h t end
    form_right (Assert e) slots at exits fit s ex h t end =
        expr_then m c taken Ok visible main permits long p slots e i.Assert at.place s tt tt (permits.plain i.Assert tt) (subst (λ (x : Ty). after m c i.Assert (x ∷ []) ≡ Some []) (sym fit.1) refl)
        fit.0 h t end
    form_right (Block' shape body) slots at exits fit s ex h t end = row_right body slots at exits fit s ex h t end
    form_right (Print items) slots at exits fit s ex h t end = print_right m c taken Ok visible main permits long p slots items at.text at.place fit.0 fit.1 fit.3 fit.2 s h t end
    form_right (Par' shape blocks) slots at exits fit s ex h t end = step_right m c taken Ok visible main permits long p slots (blocks_in blocks) at.block at.place fit.0 fit.1 fit.2
        (widths_spelled blocks s.1) h t end

    pub row_right : {n : _} (row : Row_of-Stmt n) (slots : Slots) (at : At) (exits : Exits) → RowFits m c Ok p slots at row → RowSpelled row → AreExits exits (at.place + row_size p row slots at.slot)
        → Held c.instrs at.place (row_code p row slots at exits) → Held taken at.place (row_taken p row slots at.slot) → KindsAt taken (at.place + row_size p row slots at.slot) []
        → Right m c taken Ok at.place (row_code p row slots at exits)
    row_right end_of-Stmt slots at exits fit s ex h t end = tt
    row_right (more_of-Stmt where' f rest) slots at exits fit s ex h t end =
        let size = form_size p f slots at.slot in
        let more_slots = slots_after slots at.slot f in
        let more_slot = at.slot + length (kinds_in f) in
        let rest_long = row_size p rest more_slots more_slot in
        let same : at.place + (size + rest_long) ≡ at.place + size + rest_long = omega arith in
        let end' = at_end taken [] (at.place + (size + rest_long)) (at.place + size + rest_long) same end in
        then_piece m c taken Ok at.place size (form_code p f slots at exits) (row_code p rest more_slots (beyond p slots at f) exits) (form_taken p f slots at.slot)
        (row_taken p rest more_slots more_slot) [] (form_length p f slots at exits) (form_many p f slots at.slot) h t
        (λ tb. row_starts p taken rest more_slots (at.place + size) more_slot s.1 tb end')
        (λ ha ta there. form_right f slots at exits fit.0 s.0 (earlier exits (at.place + (size + rest_long)) (at.place + size) (omega arith) ex) ha ta there)
        (λ hb tb there. row_right rest more_slots (beyond p slots at f) exits fit.1 s.1 (earlier exits (at.place + (size + rest_long)) (at.place + size + rest_long) (omega arith) ex) hb tb end')

    pub arms_right : {n : _} (arms : Row_of-Arm n) (slots : Slots) (at : At) (exits : Exits) (to : ℕ) → ArmsFit m c Ok p slots at arms → ArmsSpelled arms
        → AreExits exits (at.place + arms_size p arms slots at.slot) → IsExit (at.place + arms_size p arms slots at.slot) to
        → Held c.instrs at.place (arms_code p arms slots at exits to) → Held taken at.place (arms_taken p arms slots at.slot) → KindsAt taken (at.place + arms_size p arms slots at.slot) []
        → Right m c taken Ok at.place (arms_code p arms slots at exits to)
    arms_right end_of-Arm slots at exits to fit s ex exit h t end = tt
    arms_right (more_of-Arm (Arm' test shape body) rest) slots at exits to fit s ex exit h t end =
        let begin = past p at (size_of test + 1) in
        let behind' = past p (beyond_row p slots begin body) 1 in
        let body_long = row_size p body slots at.slot in
        let rest_slot = at.slot + length (kinds_in_row body) in
        let rest_long = arms_size p rest slots rest_slot in
        let inside_code = row_code p body slots begin exits in
        let one = code_of p slots test at.place ++ i.Branch behind'.place ∷ inside_code in
        let one_t = taken_of p slots test [] ++ (kind_in p slots test.node ∷ []) ∷ row_taken p body slots at.slot in
        let l = length-append (code_of p slots test at.place) (i.Branch behind'.place ∷ inside_code) in
        let l1 = expr_length p slots test at.place in
        let l2 = row_length p body slots begin exits in
        let q = length-append (taken_of p slots test []) ((kind_in p slots test.node ∷ []) ∷ row_taken p body slots at.slot) in
        let q1 = expr_many p slots test [] in
        let q2 = row_many p body slots at.slot in
        let jump = at.place + (size_of test + 1 + body_long) in
        let next_place : jump + 1 ≡ behind'.place = omega arith in
        let body_end : jump ≡ begin.place + body_long = omega arith in
        let end' = at_end taken [] (at.place + (size_of test + 1 + body_long + 1 + rest_long)) (behind'.place + rest_long) (omega arith) end in
        let exit' : IsExit (behind'.place + rest_long) to = (let ahead = exit.ahead in record { ahead = omega (arith, ahead); empty = exit.empty }) in
        let rest_t = behind taken at.place jump one_t ([] ∷ arms_taken p rest slots rest_slot) (omega (arith, q, q1, q2)) t in
        let rest_held : Held taken behind'.place (arms_taken p rest slots rest_slot) = subst (λ (n : ℕ). Held taken n (arms_taken p rest slots rest_slot)) next_place rest_t.1 in
        let rest_starts = arms_start p taken rest slots behind'.place rest_slot s.2 rest_held end' in
        then_piece m c taken Ok at.place (size_of test + 1 + body_long) one (i.Jump to ∷ arms_code p rest slots behind' exits to) one_t ([] ∷ arms_taken p rest slots rest_slot) []
        (omega (arith, l, l1, l2)) (omega (arith, q, q1, q2)) h t (λ tb. tb.0)
        (λ ha ta there.
        let body_ends = at_end taken [] jump (begin.place + body_long) body_end there in
        tested slots test at.place behind'.place inside_code (row_taken p body slots at.slot) fit.0 s.0 (omega arith) rest_starts ha ta
        (λ tb. row_starts p taken body slots begin.place at.slot s.1 tb body_ends)
        (λ hb tb. row_right body slots begin exits fit.1 s.1 (earlier exits (at.place + (size_of test + 1 + body_long + 1 + rest_long)) (begin.place + body_long) (omega arith) ex) hb tb body_ends))
        (λ hb tb there.
        let ahead = exit.ahead in
        let code_held : Held c.instrs behind'.place (arms_code p rest slots behind' exits to) = subst (λ (n : ℕ). Held c.instrs n (arms_code p rest slots behind' exits to)) next_place hb.1 in
        let rest_right = arms_right rest slots behind' exits to fit.2 s.2 (earlier exits (at.place + (size_of test + 1 + body_long + 1 + rest_long)) (behind'.place + rest_long) (omega arith) ex) exit'
        code_held rest_held end' in
        (leaps jump to (record { ahead = omega (arith, ahead); empty = exit.empty }) there (at_end taken [] behind'.place (jump + 1) (sym next_place) rest_starts), subst (λ (n : ℕ). Right m c taken Ok n (arms_code p rest slots behind' exits to)) (sym next_place) rest_right))

    pub last_right : (last : Held-Form-If-1) (slots : Slots) (at : At) (exits : Exits) → LastFits m c Ok p slots at last → LastSpelled last → AreExits exits (at.place + last_size p last slots at.slot)
        → Held c.instrs at.place (last_code p last slots at exits) → Held taken at.place (last_taken p last slots at.slot) → KindsAt taken (at.place + last_size p last slots at.slot) []
        → Right m c taken Ok at.place (last_code p last slots at exits)
    last_right form.None' slots at exits fit s ex h t end = tt
    last_right (form.Some' shape body) slots at exits fit s ex h t end = row_right body slots at exits fit s ex h t end
