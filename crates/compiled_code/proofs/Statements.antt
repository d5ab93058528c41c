-- The code of statements does what they do.
use Rattle.std.proofs.Common.{◌≡◌, ℕ, zero, suc, ◌+◌, ◌≤◌, ◌<◌, Bool, true, false, if◌then◌else◌, List, [], ◌∷◌, ◌++◌, length, Option, Some, None, refl, sym, ap, ◌∙◌, subst, arith, append_assoc}
use Rattle.std.proofs.Common.{length-append}
use Rattle.std.specs.Prelude.{slice_get, slice_set}
use Rattle.std.proofs.lemmas.List.{append-nil}
use Rattle.cal_base.specs.declared.ends.Cause.TheVariants.{Assertion}
use Rattle.cal_base.specs.declared.value.Val.{Val}
use Rattle.cal_base.specs.declared.value.Val.TheVariants as val
use Rattle.cal_base.specs.declared.value.Store.TheVariants.{Main}
use Rattle.csl_tree.specs.declared.program.Program.{Program}
use Rattle.cal_terms.specs.declared.types.Gives.{Gives as Result'}
use Rattle.cal_terms.specs.declared.types.Gives.TheVariants as gives
use Rattle.csl_tree.specs.declared.program.Call.{Call' as call_of}
use Rattle.csl_tree.specs.declared.program.Item.{Item}
use Rattle.csl_tree.specs.declared.program.Arm.{Arm'}
use Rattle.csl_tree.specs.declared.program.RoutineBlock.{RoutineBlock, RoutineBlock'}
use Rattle.csl_tree.specs.declared.program.Form.{Form, Declare, Set, AddTo, If', While', For', Break, Continue, Return, Assert, Block', Print, Par', Row_of-Arm, end_of-Arm, more_of-Arm, Row_of-Stmt}
use Rattle.csl_tree.specs.declared.program.Form.{end_of-Stmt, more_of-Stmt, Held-Form-If-1, Row_of-RoutineBlock, end_of-RoutineBlock, more_of-RoutineBlock}
use Rattle.csl_tree.specs.declared.program.Form as form
use Rattle.csl_meaning.specs.declared.state.World.{World}
use Rattle.csl_meaning.specs.declared.state.Ending.{Ending}
use Rattle.csl_meaning.specs.declared.state.Ending.TheVariants as ending
use Rattle.csl_meaning.specs.Layout.{Text}
use Rattle.csl_meaning.specs.Locals.{Locals, declare}
use Rattle.csl_meaning.specs.Operators.{truth_in}
use Rattle.csl_meaning.specs.Runs.{Outcome, Gives, Stops, ShowsLine, OpensStep, Run, ◌>>=◌, pure}
use Rattle.csl_meaning.specs.Value.{value_of, result}
use Rattle.csl_meaning.specs.Effect.{Went, MainOnly, Printing, Stepping, go_on, scoped, locals_after, loop, assert, set, add_to, blocks_in, calls_to, effect, in_order, choose, otherwise}
use Rattle.csl_meaning.specs.Effect.{function_named, leave}
use Rattle.csl_meaning.proofs.Parts.{Always, of_expr, of_in_order, of_scoped, of_calls_to}
use Rattle.csl_meaning.proofs.Counts.{Counts, counts}
use Rattle.bytecode.specs.declared.instr.Instr.TheVariants as i
use Rattle.cal_terms.specs.declared.types.Ty.{Ty}
use Rattle.bytecode.specs.declared.module.Code.{Code}
use Rattle.code_verify.specs.Rules.{IsVerified}
use Rattle.machine_meaning.specs.Machine.{Call, State, next}
use Rattle.compiled_code.specs.Slots.{Slots, with_slot, kind_of}
use Rattle.compiled_code.specs.Sizes.{size_of, values_size, call_size, given_by, drop_size, items_size, widths_size, kinds_in, kinds_in_row, kinds_in_arms, kinds_in_last, item_texts, texts_in}
use Rattle.compiled_code.specs.Sizes.{texts_in_row, texts_in_arms, texts_in_last, steps_in, steps_in_row, steps_in_arms, steps_in_last}
use Rattle.compiled_code.specs.Places.{slots_after, slots_after_row, form_size, row_size, arms_size, last_size}
use Rattle.compiled_code.specs.Values.{code_of, call_code}
use Rattle.compiled_code.specs.Statements.{At, Exits, add_to_code, drop_code, items_code, printed_items, widths_code, past, beyond, beyond_row, beyond_arms, form_code, row_code, arms_code, last_code}
use Rattle.compiled_code.specs.Modules.{module_of}
use Rattle.compiled_code.specs.Shape.{IsSimple, IsChange, OneOf, ItemsAre, WidthsAre, FormIs, RowIs, ArmsAre, LastIs, BlocksAre}
use Rattle.compiled_code.proofs.Does.{Sound, Does, then_does, step_does, trap_does, no_step, weaken, after_run}
use Rattle.machine_meaning.proofs.Composes.{here}
use Rattle.compiled_code.proofs.Pieces.{Holds, front, back}
use Rattle.compiled_code.proofs.Frames.{Agree, Ascend, agree_length, declare_agrees, declare_ascends, ascends_more, set_length}
use Rattle.compiled_code.proofs.Lengths.{both, expr_length, call_length, add_to_length, form_length, row_length, arms_length}
use Rattle.compiled_code.proofs.Values.{CallsDo, IsGiven, listed, at_instr, from, mk, Left, gives_one, value_does, result_does, CallLeft}
use Rattle.compiled_code.proofs.Changes.{Settled, store_does, set_does, add_to_does}
use Rattle.compiled_code.proofs.Loops.{After, Behind, behind_after, scoped_does, loop_does}

-- there is a value in each slot
pub there : (ml : List Val) (n : ℕ) → n < length ml → (v : Val) × (slice_get ml n ≡ Some v)
there [] n lt = absurd (omega arith)
there (v ∷ ml) zero lt = (v, refl)
there (v ∷ ml) (suc n) lt = there ml n (omega (arith, lt))

-- the locals that become visible stand behind the others
pub added : (slots : Slots) (slot : ℕ) (f : Form) → (more : Slots) × (slots_after slots slot f ≡ slots ++ more)
added slots slot (Declare ty name e) = (_, refl)
added slots slot (Set place e) = ([], sym (append-nil slots))
added slots slot (AddTo place e) = ([], sym (append-nil slots))
added slots slot (If' shape arms last) = ([], sym (append-nil slots))
added slots slot (While' test shape body) = ([], sym (append-nil slots))
added slots slot (For' shape first test shape' next shape'' body) = ([], sym (append-nil slots))
added slots slot Break = ([], sym (append-nil slots))
added slots slot Continue = ([], sym (append-nil slots))
added slots slot (Return given) = ([], sym (append-nil slots))
added slots slot (form.CallOf call) = ([], sym (append-nil slots))
added slots slot (Assert e) = ([], sym (append-nil slots))
added slots slot (Block' shape body) = ([], sym (append-nil slots))
added slots slot (Print items) = ([], sym (append-nil slots))
added slots slot (Par' shape blocks) = ([], sym (append-nil slots))

pub added_row : {n : _} (slots : Slots) (slot : ℕ) (row : Row_of-Stmt n) → (more : Slots) × (slots_after_row slots slot row ≡ slots ++ more)
added_row slots slot end_of-Stmt = ([], sym (append-nil slots))
added_row slots slot (more_of-Stmt where' f rest) =
    let one = added slots slot f in
    let others = added_row (slots_after slots slot f) (slot + length (kinds_in f)) rest in
    (one.0 ++ others.0, others.1 ∙ ap (λ (ss : Slots). ss ++ others.0) one.1 ∙ append_assoc slots one.0 others.0)

-- the slots ascend behind a statement
pub ascends_after : (slots : Slots) (slot : ℕ) (f : Form) → Ascend 0 slots slot → Ascend 0 (slots_after slots slot f) (slot + length (kinds_in f))
ascends_after slots slot (Declare ty name e) up =
    let more : suc slot ≡ slot + 1 = omega arith in
    subst (λ (n : ℕ). Ascend 0 (with_slot slots name.text slot (kind_of ty)) n) more (declare_ascends 0 slots slot name.text (kind_of ty) up)
ascends_after slots slot (Set place e) up = ascends_more 0 slots slot (slot + 0) (omega arith) up
ascends_after slots slot (AddTo place e) up = ascends_more 0 slots slot (slot + 0) (omega arith) up
ascends_after slots slot (If' shape arms last) up = ascends_more 0 slots slot _ (omega arith) up
ascends_after slots slot (While' test shape body) up = ascends_more 0 slots slot _ (omega arith) up
ascends_after slots slot (For' shape first test shape' next shape'' body) up = ascends_more 0 slots slot _ (omega arith) up
ascends_after slots slot Break up = ascends_more 0 slots slot _ (omega arith) up
ascends_after slots slot Continue up = ascends_more 0 slots slot _ (omega arith) up
ascends_after slots slot (Return given) up = ascends_more 0 slots slot _ (omega arith) up
ascends_after slots slot (form.CallOf call) up = ascends_more 0 slots slot _ (omega arith) up
ascends_after slots slot (Assert e) up = ascends_more 0 slots slot _ (omega arith) up
ascends_after slots slot (Block' shape body) up = ascends_more 0 slots slot _ (omega arith) up
ascends_after slots slot (Print items) up = ascends_more 0 slots slot _ (omega arith) up
ascends_after slots slot (Par' shape blocks) up = ascends_more 0 slots slot _ (omega arith) up

pub ascends_row : {n : _} (slots : Slots) (slot : ℕ) (row : Row_of-Stmt n) → Ascend 0 slots slot → Ascend 0 (slots_after_row slots slot row) (slot + length (kinds_in_row row))
ascends_row slots slot end_of-Stmt up = ascends_more 0 slots slot (slot + 0) (omega arith) up
ascends_row slots slot (more_of-Stmt where' f rest) up =
    let l = length-append (kinds_in f) (kinds_in_row rest) in
    let same : slot + length (kinds_in f) + length (kinds_in_row rest) ≡ slot + length (kinds_in f ++ kinds_in_row rest) = omega (arith, l) in
    subst (λ (n : ℕ). Ascend 0 (slots_after_row (slots_after slots slot f) (slot + length (kinds_in f)) rest) n) same
    (ascends_row (slots_after slots slot f) (slot + length (kinds_in f)) rest (ascends_after slots slot f up))

pub widths_are : {n : _} (p : Program) (blocks : Row_of-RoutineBlock n) → BlocksAre p blocks → WidthsAre p (blocks_in blocks)
widths_are p end_of-RoutineBlock h = tt
widths_are p (more_of-RoutineBlock (RoutineBlock' at width width_name id_name shape body) rest) h = (h.0, widths_are p rest h.2)

-- what stands before the test of a `for` prints nothing and opens no step
simple_form : (f : Form) → IsSimple f → (texts_in f ≡ []) × (steps_in f ≡ [])
simple_form (Declare ty name e) one = (refl, refl)
simple_form (Set place e) one = (refl, refl)
simple_form (AddTo place e) one = (refl, refl)
simple_form (If' shape arms last) one = absurd one
simple_form (While' test shape body) one = absurd one
simple_form (For' shape first test shape' next' shape'' body) one = absurd one
simple_form Break one = absurd one
simple_form Continue one = absurd one
simple_form (Return given) one = absurd one
simple_form (form.CallOf call) one = absurd one
simple_form (Assert e) one = absurd one
simple_form (Block' shape body) one = absurd one
simple_form (Print items) one = absurd one
simple_form (Par' shape blocks) one = absurd one

simple_texts : {n : _} (row : Row_of-Stmt n) → OneOf IsSimple row → (texts_in_row row ≡ []) × (steps_in_row row ≡ [])
simple_texts end_of-Stmt one = absurd one
simple_texts (more_of-Stmt where' f (more_of-Stmt where'' g rest)) one = absurd one
simple_texts (more_of-Stmt where' f end_of-Stmt) one =
    let h = simple_form f one in
    (ap (λ (l : List Text). l ++ []) h.0, ap (λ (l : List RoutineBlock). l ++ []) h.1)

-- what stands behind it declares nothing
change_form : (f : Form) → IsChange f → (kinds_in f ≡ []) × IsSimple f × ((slots : Slots) (slot : ℕ) → slots_after slots slot f ≡ slots)
change_form (Declare ty name e) one = absurd one
change_form (Set place e) one = (refl, tt, λ slots slot. refl)
change_form (AddTo place e) one = (refl, tt, λ slots slot. refl)
change_form (If' shape arms last) one = absurd one
change_form (While' test shape body) one = absurd one
change_form (For' shape first test shape' next' shape'' body) one = absurd one
change_form Break one = absurd one
change_form Continue one = absurd one
change_form (Return given) one = absurd one
change_form (form.CallOf call) one = absurd one
change_form (Assert e) one = absurd one
change_form (Block' shape body) one = absurd one
change_form (Print items) one = absurd one
change_form (Par' shape blocks) one = absurd one

change_kinds : {n : _} (row : Row_of-Stmt n) → OneOf IsChange row → length (kinds_in_row row) ≡ 0
change_kinds end_of-Stmt one = absurd one
change_kinds (more_of-Stmt where' f (more_of-Stmt where'' g rest)) one = absurd one
change_kinds (more_of-Stmt where' f end_of-Stmt) one = ap (λ (l : List Ty). length (l ++ [])) (change_form f one).0

change_simple : {n : _} (row : Row_of-Stmt n) → OneOf IsChange row → OneOf IsSimple row
change_simple end_of-Stmt one = absurd one
change_simple (more_of-Stmt where' f (more_of-Stmt where'' g rest)) one = absurd one
change_simple (more_of-Stmt where' f end_of-Stmt) one = (change_form f one).1

change_slots : {n : _} (slots : Slots) (slot : ℕ) (row : Row_of-Stmt n) → OneOf IsChange row → slots_after_row slots slot row ≡ slots
change_slots slots slot end_of-Stmt one = absurd one
change_slots slots slot (more_of-Stmt where' f (more_of-Stmt where'' g rest)) one = absurd one
change_slots slots slot (more_of-Stmt where' f end_of-Stmt) one = (change_form f one).2 slots slot

module _ (p : Program) (ok : IsVerified (module_of p)) (r : Bool) (whole : ℕ) (c : Code) (callers : List Call) (levels : ℕ) (calls : CallsDo p ok r whole levels) (deep : length callers + levels ≡ 64)
  where
    abbrev Settled' : ℕ → Slots → ℕ → Locals → World → State → Type 0
    Settled' place slots count ls u s' = Settled p ok r whole c callers levels calls deep place slots count ls u s'

    -- a statement that ends normally
    abbrev pub Plain : ℕ → Slots → ℕ → Went → World → State → Type 0
    Plain place after count went u s' = (went.0 ≡ ending.Normal) × Settled' place after count went.1 u s'

    plain_after : (place : ℕ) (exits : Exits) (slots after : Slots) (count : ℕ) (went : Went) (u : World) (s' : State) → Plain place after count went u s'
        → After p ok r whole c callers levels calls deep place exits slots after count went u s'
    plain_after place exits slots after count (e, ls) u s' h = subst (λ (x : Ending). After p ok r whole c callers levels calls deep place exits slots after count (x, ls) u s') (sym h.0) h.1

    -- where a row goes on
    gone_on : (place : ℕ) (exits : Exits) (slots mid after after' : Slots) (more : Slots) (count : ℕ) (place' : ℕ) (went : Went) (u : World) (s' : State) → mid ≡ slots ++ more → place' ≡ place
        → after' ≡ after
        → After p ok r whole c callers levels calls deep place' exits mid after' count went u s' → After p ok r whole c callers levels calls deep place exits slots after count went u s'
    gone_on place exits slots mid after after' more count place' (ending.Normal, ls) u s' e f g h =
        subst (λ (n : ℕ). Settled' n after count ls u s') f (subst (λ (ss : Slots). Settled' place' ss count ls u s') g h)
    gone_on place exits slots mid after after' more count place' (ending.Break, ls) u s' e f g h =
        (h.0, more ++ h.1, h.2, subst (λ (ss : Slots). Agree ss ls h.0) (ap (λ (ss : Slots). ss ++ h.1) e ∙ append_assoc slots more h.1) h.3, h.4)
    gone_on place exits slots mid after after' more count place' (ending.Continue, ls) u s' e f g h =
        (h.0, more ++ h.1, h.2, subst (λ (ss : Slots). Agree ss ls h.0) (ap (λ (ss : Slots). ss ++ h.1) e ∙ append_assoc slots more h.1) h.3, h.4)
    gone_on place exits slots mid after after' more count place' (ending.Return v, ls) u s' e f g h = h

    module _ (Here : ℕ → ℕ → List Text → List RoutineBlock → Type 0)
        (here_front : (t b : ℕ) (a a' : List Text) (x x' : List RoutineBlock) → Here t b (a ++ a') (x ++ x') → Here t b a x)
        (here_back : (t b : ℕ) (a a' : List Text) (x x' : List RoutineBlock) → Here t b (a ++ a') (x ++ x') → Here (t + length a) (b + length x) a' x')
        (mains : MainOnly → Locals → Run Went) (of_main : (statement : MainOnly) (l : Locals) → Always Counts (mains statement l))
        (print_does : (items : List Item) (slots : Slots) (ls : Locals) (ml : List Val) (at : At) (w : World) → ItemsAre p items → Here at.text at.block (item_texts items) [] → Agree slots ls ml
        → Sound p ok r whole (mk p ok r whole c ml callers at.place [] w)
        → Holds c.instrs at.place (items_code p slots items at.place ++ i.Print (printed_items p slots items at.text) ∷ [])
        → Does p ok r whole (Plain (at.place + (items_size items + 1)) slots (length ml)) (mains (Printing items) ls w) (mk p ok r whole c ml callers at.place [] w))
        (par_does : (blocks : List RoutineBlock) (slots : Slots) (ls : Locals) (ml : List Val) (at : At) (w : World) → WidthsAre p blocks → Here at.text at.block [] blocks → Agree slots ls ml
        → Sound p ok r whole (mk p ok r whole c ml callers at.place [] w)
        → Holds c.instrs at.place (widths_code p slots blocks at.place ++ i.Par at.block (length blocks) ∷ [])
        → Does p ok r whole (Plain (at.place + (widths_size blocks + 1)) slots (length ml)) (mains (Stepping blocks) ls w) (mk p ok r whole c ml callers at.place [] w)) where
      abbrev mk' : List Val → ℕ → List Val → World → State
      mk' ml place ops w = mk p ok r whole c ml callers place ops w

      -- declarations and changes
      simple_does : (f : Form) → IsSimple f → (slots : Slots) (ls : Locals) (ml : List Val) (at : At) (exits : Exits) (w : World) → FormIs p f → Agree slots ls ml → Ascend 0 slots at.slot
          → at.slot + length (kinds_in f) ≤ length ml → Sound p ok r whole (mk' ml at.place [] w)
          → Holds c.instrs at.place (form_code p f slots at exits) → Does p ok r whole (Plain (at.place + form_size p f slots at.slot) (slots_after slots at.slot f) (length ml))
          (effect p (calls_to p levels) mains f ls w) (mk' ml at.place [] w)
      simple_does (Declare ty name e) simple slots ls ml at exits w is agree up room sound has =
          let lt : at.slot < length ml = omega (arith, room) in
          let old = there ml at.slot lt in
          let same : at.place + size_of e + 1 ≡ at.place + (size_of e + 1) = omega arith in
          then_does p ok r whole (Left p ok r whole c ml callers (at.place + size_of e) []) (Plain (at.place + (size_of e + 1)) (with_slot slots name.text at.slot (kind_of ty)) (length ml))
          (value_of p (calls_to p levels) ls e w) (λ v. pure (ending.Normal, declare ls name.text v)) (mk' ml at.place [] w)
          (value_does p ok r whole c ml callers slots ls agree levels calls deep e.node at.place [] w is sound (front c.instrs at.place (code_of p slots e at.place) (i.Store at.slot ∷ []) has))
          (λ v u s' sound' q.
          from p ok r whole (Plain (at.place + (size_of e + 1)) (with_slot slots name.text at.slot (kind_of ty)) (length ml)) (Gives (ending.Normal, declare ls name.text v) u) s'
          (mk' ml (at.place + size_of e) (v ∷ []) u) q sound' (λ sound1.
          store_does p ok r whole c callers levels calls deep (Plain (at.place + (size_of e + 1)) (with_slot slots name.text at.slot (kind_of ty)) (length ml)) (ending.Normal, declare ls name.text v) ml
          at.slot v old.0 (at.place + size_of e) u old.1 sound1
          (back c.instrs at.place (code_of p slots e at.place) (i.Store at.slot ∷ []) (size_of e) (expr_length p slots e at.place) has).0
          (refl, (slice_set ml at.slot v, ap (λ (n : ℕ). mk' (slice_set ml at.slot v) n [] u) same, declare_agrees 0 slots at.slot ls ml name.text (kind_of ty) v old.0 up agree old.1, set_length ml at.slot v))))
      simple_does (Set target e) simple slots ls ml at exits w is agree up room sound has =
          let same : at.place + Rattle.compiled_code.specs.Sizes.place_size target + size_of e + 1 ≡ at.place + (Rattle.compiled_code.specs.Sizes.place_size target + size_of e + 1) = omega arith in
          then_does p ok r whole (Settled' (at.place + Rattle.compiled_code.specs.Sizes.place_size target + size_of e + 1) slots (length ml))
          (Plain (at.place + (Rattle.compiled_code.specs.Sizes.place_size target + size_of e + 1)) slots (length ml)) (set p (calls_to p levels) ls target e w) (λ after. pure (ending.Normal, after))
          (mk' ml at.place [] w)
          (set_does p ok r whole c callers levels calls deep slots ls ml agree at.slot up at.place w sound target e is.0 is.1 has)
          (λ after u s' sound' q. (s', here (module_of p) s', sound', (refl, subst (λ (n : ℕ). Settled' n slots (length ml) after u s') same q)))
      simple_does (AddTo target e) simple slots ls ml at exits w is agree up room sound has =
          let same = ap (λ (n : ℕ). at.place + n) (add_to_length p slots target e at.slot at.place) in
          then_does p ok r whole (Settled' (at.place + length (add_to_code p slots target e at.place)) slots (length ml))
          (Plain (at.place + form_size p (AddTo target e) slots at.slot) slots (length ml)) (add_to p (calls_to p levels) ls target e w) (λ after. pure (ending.Normal, after)) (mk' ml at.place [] w)
          (add_to_does p ok r whole c callers levels calls deep slots ls ml agree at.slot up at.place w sound target e is.0 is.1 has)
          (λ after u s' sound' q. (s', here (module_of p) s', sound', (refl, subst (λ (n : ℕ). Settled' n slots (length ml) after u s') same q)))
      simple_does (If' shape arms last) simple slots ls ml at exits w is agree up room sound has = absurd simple
      simple_does (While' test shape body) simple slots ls ml at exits w is agree up room sound has = absurd simple
      simple_does (For' shape first test shape' next shape'' body) simple slots ls ml at exits w is agree up room sound has = absurd simple
      simple_does Break simple slots ls ml at exits w is agree up room sound has = absurd simple
      simple_does Continue simple slots ls ml at exits w is agree up room sound has = absurd simple
      simple_does (Return given) simple slots ls ml at exits w is agree up room sound has = absurd simple
      simple_does (form.CallOf call) simple slots ls ml at exits w is agree up room sound has = absurd simple
      simple_does (Assert e) simple slots ls ml at exits w is agree up room sound has = absurd simple
      simple_does (Block' shape body) simple slots ls ml at exits w is agree up room sound has = absurd simple
      simple_does (Print items) simple slots ls ml at exits w is agree up room sound has = absurd simple
      simple_does (Par' shape blocks) simple slots ls ml at exits w is agree up room sound has = absurd simple

      -- one declaration or change, as a `for` has it
      one_does : {n : _} (row : Row_of-Stmt n) → OneOf IsSimple row → (slots : Slots) (ls : Locals) (ml : List Val) (at : At) (exits : Exits) (w : World) → RowIs p row → Agree slots ls ml
          → Ascend 0 slots at.slot → at.slot + length (kinds_in_row row) ≤ length ml → Sound p ok r whole (mk' ml at.place [] w)
          → Holds c.instrs at.place (row_code p row slots at exits) → Does p ok r whole (Settled' (at.place + row_size p row slots at.slot) (slots_after_row slots at.slot row) (length ml))
          (locals_after (in_order p (calls_to p levels) mains row) ls w) (mk' ml at.place [] w)
      one_does end_of-Stmt one slots ls ml at exits w is agree up room sound has = absurd one
      one_does (more_of-Stmt where' f (more_of-Stmt where'' g rest)) one slots ls ml at exits w is agree up room sound has = absurd one
      one_does (more_of-Stmt where' f end_of-Stmt) one slots ls ml at exits w is agree up room sound has =
          let l = length-append (kinds_in f) [] in
          let room' : at.slot + length (kinds_in f) ≤ length ml = omega (arith, l, room) in
          let same : at.place + form_size p f slots at.slot ≡ at.place + (form_size p f slots at.slot + 0) = omega arith in
          then_does p ok r whole (Plain (at.place + (form_size p f slots at.slot + 0)) (slots_after slots at.slot f) (length ml))
          (Settled' (at.place + (form_size p f slots at.slot + 0)) (slots_after slots at.slot f) (length ml)) (in_order p (calls_to p levels) mains (more_of-Stmt where' f end_of-Stmt) ls w)
          (λ went. pure went.1) (mk' ml at.place [] w)
          (then_does p ok r whole (Plain (at.place + form_size p f slots at.slot) (slots_after slots at.slot f) (length ml))
          (Plain (at.place + (form_size p f slots at.slot + 0)) (slots_after slots at.slot f) (length ml)) (effect p (calls_to p levels) mains f ls w)
          (λ went. go_on went (in_order p (calls_to p levels) mains end_of-Stmt)) (mk' ml at.place [] w)
          (simple_does f one slots ls ml at exits w is.0 agree up room' sound (front c.instrs at.place (form_code p f slots at exits) [] has))
          (λ went u s' sound' q. ended went u s' sound' (q.0, subst (λ (n : ℕ). Settled' n (slots_after slots at.slot f) (length ml) went.1 u s') same q.1)))
          (λ went u s' sound' q. (s', here (module_of p) s', sound', q.1))
        where
          ended : (went : Went) (u : World) (s' : State) → Sound p ok r whole s' → Plain (at.place + (form_size p f slots at.slot + 0)) (slots_after slots at.slot f) (length ml) went u s'
              → Does p ok r whole (Plain (at.place + (form_size p f slots at.slot + 0)) (slots_after slots at.slot f) (length ml)) (go_on went (in_order p (calls_to p levels) mains end_of-Stmt) u) s'
          ended (ending.Normal, ls') u s' sound' q = (s', here (module_of p) s', sound', q)
          ended (ending.Break, ls') u s' sound' q = let clash = q.0 in absurd cc
          ended (ending.Continue, ls') u s' sound' q = let clash = q.0 in absurd cc
          ended (ending.Return v, ls') u s' sound' q = let clash = q.0 in absurd cc

      -- a value that is asserted
      assert_does : (v : Val) (slots : Slots) (ls : Locals) (ml : List Val) (place : ℕ) (u : World) → Agree slots ls ml → Sound p ok r whole (mk' ml place (v ∷ []) u)
          → slice_get c.instrs place ≡ Some i.Assert
          → Does p ok r whole (Plain (place + 1) slots (length ml)) (assert (truth_in v) ls u) (mk' ml place (v ∷ []) u)
      assert_does (val.Int z) slots ls ml place u agree sound h = no_step p ok r whole (mk' ml place (val.Int z ∷ []) u) sound (at_instr p ok r whole (mk' ml place (val.Int z ∷ []) u) i.Assert h)
      assert_does (val.Truth true) slots ls ml place u agree sound h =
          gives_one p ok r whole c ml callers (Plain (place + 1) slots (length ml)) (ending.Normal, ls) (mk' ml place (val.Truth true ∷ []) u) (mk' ml (place + 1) [] u) u sound
          (at_instr p ok r whole (mk' ml place (val.Truth true ∷ []) u) i.Assert h) sound.kinds
          (refl, (ml, refl, agree, refl))
      assert_does (val.Truth false) slots ls ml place u agree sound h =
          trap_does p ok r whole (Plain (place + 1) slots (length ml)) Assertion u (mk' ml place (val.Truth false ∷ []) u) (at_instr p ok r whole (mk' ml place (val.Truth false ∷ []) u) i.Assert h)

      -- a result that is dropped
      drop_does : (g : Result') (given : Option Val) → IsGiven g given → (slots : Slots) (ls : Locals) (ml : List Val) (place : ℕ) (u : World) → Agree slots ls ml
          → Sound p ok r whole (mk' ml place (listed given ++ []) u) → Holds c.instrs place (drop_code g)
          → Does p ok r whole (Plain (place + drop_size g) slots (length ml)) (Gives (ending.Normal, ls) u) (mk' ml place (listed given ++ []) u)
      drop_does gives.Nothing None is slots ls ml place u agree sound h =
          let same : place ≡ place + 0 = omega arith in
          (mk' ml place [] u, here (module_of p) (mk' ml place [] u), sound, (refl, (ml, ap (λ (n : ℕ). mk' ml n [] u) same, agree, refl)))
      drop_does gives.Nothing (Some v) is slots ls ml place u agree sound h = absurd is
      drop_does gives.Int None is slots ls ml place u agree sound h = absurd is
      drop_does gives.Int (Some v) is slots ls ml place u agree sound h =
          gives_one p ok r whole c ml callers (Plain (place + 1) slots (length ml)) (ending.Normal, ls) (mk' ml place (v ∷ []) u) (mk' ml (place + 1) [] u) u sound
          (at_instr p ok r whole (mk' ml place (v ∷ []) u) i.Pop h.0) sound.kinds (refl, (ml, refl, agree, refl))
      drop_does gives.Bool None is slots ls ml place u agree sound h = absurd is
      drop_does gives.Bool (Some v) is slots ls ml place u agree sound h =
          gives_one p ok r whole c ml callers (Plain (place + 1) slots (length ml)) (ending.Normal, ls) (mk' ml place (v ∷ []) u) (mk' ml (place + 1) [] u) u sound
          (at_instr p ok r whole (mk' ml place (v ∷ []) u) i.Pop h.0) sound.kinds (refl, (ml, refl, agree, refl))

      -- where the code of a statement comes to
      abbrev pub Comes : Form → Slots → At → Exits → ℕ → Went → World → State → Type 0
      Comes f slots at exits count = After p ok r whole c callers levels calls deep (at.place + form_size p f slots at.slot) exits slots (slots_after slots at.slot f) count

      -- a jump to the end
      jumps_to : (t place : ℕ) (exits : Exits) (slots : Slots) (count : ℕ) (went : Went) (u : World) (s' : State) → slice_get c.instrs place ≡ Some (i.Jump t) → Sound p ok r whole s'
          → Behind p ok r whole c callers levels calls deep place exits slots count went u s'
          → Does p ok r whole (Behind p ok r whole c callers levels calls deep t exits slots count) (Gives went u) s'
      jumps_to t place exits slots count (ending.Normal, ls) u s' h sound q =
          from p ok r whole (Behind p ok r whole c callers levels calls deep t exits slots count) (Gives (ending.Normal, ls) u) s' (mk' q.0 place [] u) q.1 sound (λ sound1.
          gives_one p ok r whole c q.0 callers (Behind p ok r whole c callers levels calls deep t exits slots count) (ending.Normal, ls) (mk' q.0 place [] u) (mk' q.0 t [] u) u sound1
          (at_instr p ok r whole (mk' q.0 place [] u) (i.Jump t) h) sound1.kinds (q.0, refl, q.2, q.3))
      jumps_to t place exits slots count (ending.Break, ls) u s' h sound q = (s', Rattle.machine_meaning.proofs.Composes.here (module_of p) s', sound, q)
      jumps_to t place exits slots count (ending.Continue, ls) u s' h sound q = (s', Rattle.machine_meaning.proofs.Composes.here (module_of p) s', sound, q)
      jumps_to t place exits slots count (ending.Return v, ls) u s' h sound q = (s', Rattle.machine_meaning.proofs.Composes.here (module_of p) s', sound, q)

      jumped : (t place : ℕ) (exits : Exits) (slots : Slots) (count : ℕ) (o : Outcome Went) (s : State) → slice_get c.instrs place ≡ Some (i.Jump t)
          → Does p ok r whole (Behind p ok r whole c callers levels calls deep place exits slots count) o s
          → Does p ok r whole (Behind p ok r whole c callers levels calls deep t exits slots count) o s
      jumped t place exits slots count (Gives went u) s h does = after_run p ok r whole (Behind p ok r whole c callers levels calls deep t exits slots count) (Gives went u) s does.0 does.1
          (jumps_to t place exits slots count went u does.0 h does.2 does.3)
      jumped t place exits slots count (Stops cause u) s h does = does
      jumped t place exits slots count (ShowsLine line rest) s h does = (does.0, does.1, does.2, jumped t place exits slots count rest does.0 h does.3)
      jumped t place exits slots count (OpensStep job rest) s h does = (does.0, does.1, does.2, does.3, does.4, does.5, λ later kinds. jumped t place exits slots count (rest later) (record does.0 { store = Main later }) h (does.6 later kinds))

      -- what a block comes to, at a place that is the same
      moved : (a b : ℕ) (exits : Exits) (slots : Slots) (count : ℕ) (o : Outcome Went) (s : State) → a ≡ b → Does p ok r whole (Behind p ok r whole c callers levels calls deep a exits slots count) o s
          → Does p ok r whole (Behind p ok r whole c callers levels calls deep b exits slots count) o s
      moved a b exits slots count o s e does = subst (λ (n : ℕ). Does p ok r whole (Behind p ok r whole c callers levels calls deep n exits slots count) o s) e does

      -- a statement that ended normally goes on with the rest of its row
      row_goes_on : {n : _} (f : Form) (rest : Row_of-Stmt n) (slots : Slots) (at : At) (exits : Exits) (count : ℕ)
          → ((ls' : Locals) (ml' : List Val) (u : World) → Agree (slots_after slots at.slot f) ls' ml' → length ml' ≡ count → Sound p ok r whole (mk' ml' (at.place + form_size p f slots at.slot) [] u)
          → Does p ok r whole (After p ok r whole c callers levels calls deep (at.place + form_size p f slots at.slot + row_size p rest (slots_after slots at.slot f) (at.slot + length (kinds_in f)))
          exits (slots_after slots at.slot f) (slots_after_row (slots_after slots at.slot f) (at.slot + length (kinds_in f)) rest) count) (in_order p (calls_to p levels) mains rest ls' u)
          (mk' ml' (at.place + form_size p f slots at.slot) [] u))
          → (went : Went) (u : World) (s' : State) → Sound p ok r whole s' → Comes f slots at exits count went u s'
          → Does p ok r whole (After p ok r whole c callers levels calls deep (at.place + (form_size p f slots at.slot + row_size p rest (slots_after slots at.slot f) (at.slot + length (kinds_in f))))
          exits slots (slots_after_row (slots_after slots at.slot f) (at.slot + length (kinds_in f)) rest) count) (go_on went (in_order p (calls_to p levels) mains rest) u) s'
      row_goes_on f rest slots at exits count rest_does (ending.Normal, ls') u s' sound q =
          let more = added slots at.slot f in
          let place = at.place + (form_size p f slots at.slot + row_size p rest (slots_after slots at.slot f) (at.slot + length (kinds_in f))) in
          let place' = at.place + form_size p f slots at.slot + row_size p rest (slots_after slots at.slot f) (at.slot + length (kinds_in f)) in
          let same : place' ≡ place = omega arith in
          let after = slots_after_row (slots_after slots at.slot f) (at.slot + length (kinds_in f)) rest in
          from p ok r whole (After p ok r whole c callers levels calls deep place exits slots after count) (in_order p (calls_to p levels) mains rest ls' u) s'
          (mk' q.0 (at.place + form_size p f slots at.slot) [] u) q.1 sound (λ sound1.
          weaken p ok r whole (After p ok r whole c callers levels calls deep place' exits (slots_after slots at.slot f) after count)
          (After p ok r whole c callers levels calls deep place exits slots after count) (in_order p (calls_to p levels) mains rest ls' u) (mk' q.0 (at.place + form_size p f slots at.slot) [] u)
          (rest_does ls' q.0 u q.2 q.3 sound1) (λ went u' s'' h. gone_on place exits slots (slots_after slots at.slot f) after after more.0 count place' went u' s'' more.1 same refl h))
      row_goes_on f rest slots at exits count rest_does (ending.Break, ls') u s' sound q = (s', Rattle.machine_meaning.proofs.Composes.here (module_of p) s', sound, q)
      row_goes_on f rest slots at exits count rest_does (ending.Continue, ls') u s' sound q = (s', Rattle.machine_meaning.proofs.Composes.here (module_of p) s', sound, q)
      row_goes_on f rest slots at exits count rest_does (ending.Return v, ls') u s' sound q = (s', Rattle.machine_meaning.proofs.Composes.here (module_of p) s', sound, q)

      -- the test of an arm decides
      arm_decides : (v : Val) (test_place behind' end : ℕ) (slots : Slots) (ls : Locals) (ml : List Val) (exits : Exits) (body others : Locals → Run Went) (u : World)
          → Sound p ok r whole (mk' ml test_place (v ∷ []) u) → slice_get c.instrs test_place ≡ Some (i.Branch behind')
          → ((sound' : Sound p ok r whole (mk' ml (test_place + 1) [] u)) → Does p ok r whole (Behind p ok r whole c callers levels calls deep end exits slots (length ml)) (body ls u)
          (mk' ml (test_place + 1) [] u))
          → ((sound' : Sound p ok r whole (mk' ml behind' [] u)) → Does p ok r whole (Behind p ok r whole c callers levels calls deep end exits slots (length ml)) (others ls u) (mk' ml behind' [] u))
          → Does p ok r whole (Behind p ok r whole c callers levels calls deep end exits slots (length ml)) ((if truth_in v then body ls else others ls) u) (mk' ml test_place (v ∷ []) u)
      arm_decides (val.Int z) test_place behind' end slots ls ml exits body others u sound h yes' no' = no_step p ok r whole (mk' ml test_place (val.Int z ∷ []) u) sound
          (at_instr p ok r whole (mk' ml test_place (val.Int z ∷ []) u) (i.Branch behind') h)
      arm_decides (val.Truth true) test_place behind' end slots ls ml exits body others u sound h yes' no' =
          step_does p ok r whole (Behind p ok r whole c callers levels calls deep end exits slots (length ml)) (body ls u) (mk' ml test_place (val.Truth true ∷ []) u) (mk' ml (test_place + 1) [] u)
          sound (at_instr p ok r whole (mk' ml test_place (val.Truth true ∷ []) u) (i.Branch behind') h) sound.kinds yes'
      arm_decides (val.Truth false) test_place behind' end slots ls ml exits body others u sound h yes' no' =
          step_does p ok r whole (Behind p ok r whole c callers levels calls deep end exits slots (length ml)) (others ls u) (mk' ml test_place (val.Truth false ∷ []) u) (mk' ml behind' [] u) sound
          (at_instr p ok r whole (mk' ml test_place (val.Truth false ∷ []) u) (i.Branch behind') h) sound.kinds no'

      -- behind a loop, the locals of its first statement are gone
      behind_inner : (place : ℕ) (exits : Exits) (slots inner more : Slots) (count : ℕ) (went : Went) (u : World) (s' : State) → inner ≡ slots ++ more
          → Behind p ok r whole c callers levels calls deep place exits inner count went u s'
          → After p ok r whole c callers levels calls deep place exits slots (slots ++ more) count went u s'
      behind_inner place exits slots inner more count (ending.Normal, ls) u s' e h = subst (λ (ss : Slots). Settled' place ss count ls u s') e h
      behind_inner place exits slots inner more count (ending.Break, ls) u s' e h = (h.0, more, h.1, subst (λ (ss : Slots). Agree ss ls h.0) e h.2, h.3)
      behind_inner place exits slots inner more count (ending.Continue, ls) u s' e h = (h.0, more, h.1, subst (λ (ss : Slots). Agree ss ls h.0) e h.2, h.3)
      behind_inner place exits slots inner more count (ending.Return v, ls) u s' e h = h

      mutual
        pub form_does : (f : Form) (slots : Slots) (ls : Locals) (ml : List Val) (at : At) (exits : Exits) (w : World) → FormIs p f → Here at.text at.block (texts_in f) (steps_in f) → Agree slots ls ml
            → Ascend 0 slots at.slot → at.slot + length (kinds_in f) ≤ length ml
            → Sound p ok r whole (mk' ml at.place [] w) → Holds c.instrs at.place (form_code p f slots at exits)
            → Does p ok r whole (Comes f slots at exits (length ml)) (effect p (calls_to p levels) mains f ls w) (mk' ml at.place [] w)
        form_does (Declare ty name e) slots ls ml at exits w is here' agree up room sound has =
            weaken p ok r whole (Plain (at.place + (size_of e + 1)) (with_slot slots name.text at.slot (kind_of ty)) (length ml)) (Comes (Declare ty name e) slots at exits (length ml))
            (effect p (calls_to p levels) mains (Declare ty name e) ls w) (mk' ml at.place [] w)
            (simple_does (Declare ty name e) tt slots ls ml at exits w is agree up room sound has)
            (λ went u s' q. plain_after (at.place + (size_of e + 1)) exits slots (with_slot slots name.text at.slot (kind_of ty)) (length ml) went u s' q)
        form_does (Set target e) slots ls ml at exits w is here' agree up room sound has =
            weaken p ok r whole (Plain (at.place + form_size p (Set target e) slots at.slot) slots (length ml)) (Comes (Set target e) slots at exits (length ml))
            (effect p (calls_to p levels) mains (Set target e) ls w) (mk' ml at.place [] w)
            (simple_does (Set target e) tt slots ls ml at exits w is agree up room sound has)
            (λ went u s' q. plain_after (at.place + form_size p (Set target e) slots at.slot) exits slots slots (length ml) went u s' q)
        form_does (AddTo target e) slots ls ml at exits w is here' agree up room sound has =
            weaken p ok r whole (Plain (at.place + form_size p (AddTo target e) slots at.slot) slots (length ml)) (Comes (AddTo target e) slots at exits (length ml))
            (effect p (calls_to p levels) mains (AddTo target e) ls w) (mk' ml at.place [] w)
            (simple_does (AddTo target e) tt slots ls ml at exits w is agree up room sound has)
            (λ went u s' q. plain_after (at.place + form_size p (AddTo target e) slots at.slot) exits slots slots (length ml) went u s' q)
        form_does (If' shape arms last) slots ls ml at exits w is here' agree up room sound has =
            let end = at.place + form_size p (If' shape arms last) slots at.slot in
            let l = length-append (kinds_in_arms arms) (kinds_in_last last) in
            let room1 : at.slot + length (kinds_in_arms arms) ≤ length ml = omega (arith, l, room) in
            let room2 : at.slot + length (kinds_in_arms arms) + length (kinds_in_last last) ≤ length ml = omega (arith, l, room) in
            let up2 = ascends_more 0 slots at.slot (at.slot + length (kinds_in_arms arms)) (omega arith) up in
            let ends : at.place + arms_size p arms slots at.slot + last_size p last slots (at.slot + length (kinds_in_arms arms)) ≡ end = omega arith in
            weaken p ok r whole (Behind p ok r whole c callers levels calls deep end exits slots (length ml)) (Comes (If' shape arms last) slots at exits (length ml))
            (choose p (calls_to p levels) mains arms (otherwise p (calls_to p levels) mains last) ls w) (mk' ml at.place [] w)
            (arms_do arms (otherwise p (calls_to p levels) mains last) slots ls ml at exits end w is.0
            (here_front at.text at.block (texts_in_arms arms) (texts_in_last last) (steps_in_arms arms) (steps_in_last last) here') agree up room1 sound
            (front c.instrs at.place (arms_code p arms slots at exits end) (last_code p last slots (beyond_arms p slots at arms) exits) has) (λ u sound'.
            moved (at.place + arms_size p arms slots at.slot + last_size p last slots (at.slot + length (kinds_in_arms arms))) end exits slots (length ml)
            (otherwise p (calls_to p levels) mains last ls u) (mk' ml (at.place + arms_size p arms slots at.slot) [] u) ends
            (last_does last slots ls ml (beyond_arms p slots at arms) exits u is.1 (here_back at.text at.block (texts_in_arms arms) (texts_in_last last) (steps_in_arms arms) (steps_in_last last) here')
            agree up2 room2 sound'
            (back c.instrs at.place (arms_code p arms slots at exits end) (last_code p last slots (beyond_arms p slots at arms) exits) (arms_size p arms slots at.slot)
            (arms_length p arms slots at exits end) has))))
            (λ went u s' q. behind_after p ok r whole c callers levels calls deep end exits slots (length ml) went u s' q)
        form_does (While' test shape body) slots ls ml at exits w is here' agree up room sound has =
            let begin = past p at (size_of test + 1) in
            let back' = at.place + size_of test + 1 + row_size p body slots at.slot in
            let inside : Exits = record { on_break = back' + 1; on_continue = back' } in
            let one = code_of p slots test at.place in
            let two = row_code p body slots begin inside in
            let test_long = expr_length p slots test at.place in
            let two_long = row_length p body slots begin inside in
            let whole_long : length (i.Branch (back' + 1) ∷ two) ≡ row_size p body slots at.slot + 1 = omega (arith, two_long) in
            let ahead = front c.instrs at.place (one ++ i.Branch (back' + 1) ∷ two) (i.Loop at.place ∷ []) has in
            let tail = back c.instrs at.place (one ++ i.Branch (back' + 1) ∷ two) (i.Loop at.place ∷ []) (size_of test + (row_size p body slots at.slot + 1))
            (both one (i.Branch (back' + 1) ∷ two) (size_of test) (row_size p body slots at.slot + 1) test_long whole_long) has in
            let middle = back c.instrs at.place one (i.Branch (back' + 1) ∷ two) (size_of test) test_long ahead in
            let loop_place : at.place + (size_of test + (row_size p body slots at.slot + 1)) ≡ back' = omega arith in
            let body_place : at.place + size_of test + 1 ≡ at.place + (size_of test + 1) = omega arith in
            let step_place : at.place + (size_of test + 1) + row_size p body slots at.slot ≡ back' = omega arith in
            let exit_place : back' + 1 ≡ at.place + (size_of test + 1 + row_size p body slots at.slot + 1) = omega arith in
            let more = added_row slots at.slot body in
            let looped = loop_does p ok r whole c callers levels calls deep slots (length ml) at.place (size_of test) back' back' (back' + 1) exits (λ inner. value_of p (calls_to p levels) inner test)
            (scoped (in_order p (calls_to p levels) mains body)) pure
            (λ l. of_expr Counts counts p (calls_to p levels) (of_calls_to Counts counts p levels) l test)
            (of_scoped Counts counts (in_order p (calls_to p levels) mains body) (of_in_order Counts counts p (calls_to p levels) (of_calls_to Counts counts p levels) mains of_main body))
            (λ l. counts.of_pure Locals l)
            (λ ls' ml' u agree' long' sound'. value_does p ok r whole c ml' callers slots ls' agree' levels calls deep test.node at.place [] u is.0 sound'
            (front c.instrs at.place one (i.Branch (back' + 1) ∷ two) ahead))
            middle.0
            (λ ls' ml' u agree' long' sound'.
            subst (λ (n : ℕ). Does p ok r whole (Behind p ok r whole c callers levels calls deep back' (record { on_break = back' + 1; on_continue = back' }) slots (length ml))
            (scoped (in_order p (calls_to p levels) mains body) ls' u) (mk' ml' n [] u)) (sym body_place)
            (moved (at.place + (size_of test + 1) + row_size p body slots at.slot) back' inside slots (length ml) (scoped (in_order p (calls_to p levels) mains body) ls' u)
            (mk' ml' (at.place + (size_of test + 1)) [] u) step_place
            (scoped_does p ok r whole c callers levels calls deep (at.place + (size_of test + 1) + row_size p body slots at.slot) inside slots more.0 (length ml)
            (in_order p (calls_to p levels) mains body) ls' u (mk' ml' (at.place + (size_of test + 1)) [] u) (agree_length slots ls' ml' agree')
            (subst (λ (ss : Slots). Does p ok r whole (After p ok r whole c callers levels calls deep (at.place + (size_of test + 1) + row_size p body slots at.slot) inside slots ss (length ml))
            (in_order p (calls_to p levels) mains body ls' u) (mk' ml' (at.place + (size_of test + 1)) [] u)) more.1
            (subst (λ (n : ℕ). Does p ok r whole (After p ok r whole c callers levels calls deep (at.place + (size_of test + 1) + row_size p body slots at.slot) inside slots
            (slots_after_row slots at.slot body) n) (in_order p (calls_to p levels) mains body ls' u) (mk' ml' (at.place + (size_of test + 1)) [] u)) long'
            (row_does body slots ls' ml' begin inside u is.1 here' agree' up (omega (arith, room, long')) (subst (λ (n : ℕ). Sound p ok r whole (mk' ml' n [] u)) body_place sound')
            (subst (λ (n : ℕ). Holds c.instrs n two) body_place middle.1)))))))
            (λ ls' ml' u agree' long' sound'. (mk' ml' back' [] u, Rattle.machine_meaning.proofs.Composes.here (module_of p) (mk' ml' back' [] u), sound', (ml', refl, agree', long')))
            (subst (λ (n : ℕ). slice_get c.instrs n ≡ Some (i.Loop at.place)) loop_place tail.0) in
            weaken p ok r whole (Behind p ok r whole c callers levels calls deep (at.place + (size_of test + 1 + row_size p body slots at.slot + 1)) exits slots (length ml))
            (Comes (While' test shape body) slots at exits (length ml)) (effect p (calls_to p levels) mains (While' test shape body) ls w) (mk' ml at.place [] w)
            (moved (back' + 1) (at.place + (size_of test + 1 + row_size p body slots at.slot + 1)) exits slots (length ml) (effect p (calls_to p levels) mains (While' test shape body) ls w)
            (mk' ml at.place [] w) exit_place (looped ls ml w agree refl sound))
            (λ went u s' q. behind_after p ok r whole c callers levels calls deep (at.place + (size_of test + 1 + row_size p body slots at.slot + 1)) exits slots (length ml) went u s' q)
        form_does (For' shape first test shape' next' shape'' body) slots ls ml at exits w is here' agree up room sound has =
            let inner = slots_after_row slots at.slot first in
            let head = beyond_row p slots at first in
            let begin = past p head (size_of test + 1) in
            let step = beyond_row p inner begin body in
            let back' = step.place + row_size p next' inner step.slot in
            let inside : Exits = record { on_break = back' + 1; on_continue = step.place } in
            let one = row_code p first slots at exits in
            let two = code_of p inner test head.place in
            let three = row_code p body inner begin inside in
            let four = row_code p next' inner step exits in
            let last = i.Loop head.place ∷ [] in
            let l = length-append (kinds_in_row first) (kinds_in_row body) in
            let room1 : at.slot + length (kinds_in_row first) ≤ length ml = omega (arith, l, room) in
            let room2 : at.slot + length (kinds_in_row first) + length (kinds_in_row body) ≤ length ml = omega (arith, l, room) in
            let first_long = row_length p first slots at exits in
            let test_long = expr_length p inner test head.place in
            let body_long = row_length p body inner begin inside in
            let next_long = row_length p next' inner step exits in
            let three_long : length (i.Branch (back' + 1) ∷ three) ≡ row_size p body inner begin.slot + 1 = omega (arith, body_long) in
            let has4 = front c.instrs at.place (one ++ two ++ i.Branch (back' + 1) ∷ three ++ four) last has in
            let has3 = front c.instrs at.place (one ++ two ++ i.Branch (back' + 1) ∷ three) four has4 in
            let has2 = front c.instrs at.place (one ++ two) (i.Branch (back' + 1) ∷ three) has3 in
            let long2 = both one two (row_size p first slots at.slot) (size_of test) first_long test_long in
            let long3 = both (one ++ two) (i.Branch (back' + 1) ∷ three) (row_size p first slots at.slot + size_of test) (row_size p body inner begin.slot + 1) long2 three_long in
            let long4 = both (one ++ two ++ i.Branch (back' + 1) ∷ three) four (row_size p first slots at.slot + size_of test + (row_size p body inner begin.slot + 1)) (row_size p next' inner step.slot)
            long3 next_long in
            let test_at = back c.instrs at.place one two (row_size p first slots at.slot) first_long has2 in
            let branch_at = back c.instrs at.place (one ++ two) (i.Branch (back' + 1) ∷ three) (row_size p first slots at.slot + size_of test) long2 has3 in
            let next_at = back c.instrs at.place (one ++ two ++ i.Branch (back' + 1) ∷ three) four (row_size p first slots at.slot + size_of test + (row_size p body inner begin.slot + 1)) long3 has4 in
            let loop_at = back c.instrs at.place (one ++ two ++ i.Branch (back' + 1) ∷ three ++ four) last
            (row_size p first slots at.slot + size_of test + (row_size p body inner begin.slot + 1) + row_size p next' inner step.slot) long4 has in
            let branch_place : at.place + (row_size p first slots at.slot + size_of test) ≡ head.place + size_of test = omega arith in
            let body_place : at.place + (row_size p first slots at.slot + size_of test) + 1 ≡ begin.place = omega arith in
            let body_place' : head.place + size_of test + 1 ≡ begin.place = omega arith in
            let next_place : at.place + (row_size p first slots at.slot + size_of test + (row_size p body inner begin.slot + 1)) ≡ step.place = omega arith in
            let loop_place : at.place + (row_size p first slots at.slot + size_of test + (row_size p body inner begin.slot + 1) + row_size p next' inner step.slot) ≡ back' = omega arith in
            let exit_place : back' + 1 ≡ at.place + form_size p (For' shape first test shape' next' shape'' body) slots at.slot = omega arith in
            let shared = added_row slots at.slot first in
            let up1 = ascends_row slots at.slot first up in
            let more = added_row inner begin.slot body in
            let none = simple_texts first is.0 in
            let no_kinds = change_kinds next' is.3 in
            let no_texts : at.text ≡ at.text + length (texts_in_row first) = let e = ap (λ (x : List Text). length x) none.0 in omega (arith, e) in
            let no_steps : at.block ≡ at.block + length (steps_in_row first) = let e = ap (λ (x : List RoutineBlock). length x) none.1 in omega (arith, e) in
            let here_body = subst (λ (n : ℕ). Here n (at.block + length (steps_in_row first)) (texts_in_row body) (steps_in_row body)) no_texts
            (subst (λ (n : ℕ). Here at.text n (texts_in_row body) (steps_in_row body)) no_steps here') in
            let test_run : Locals → Run Val = λ q. value_of p (calls_to p levels) q test in
            let body_run : Locals → Run Went = scoped (in_order p (calls_to p levels) mains body) in
            let next_run : Locals → Run Locals = locals_after (in_order p (calls_to p levels) mains next') in
            let looped = loop_does p ok r whole c callers levels calls deep inner (length ml) head.place (size_of test) step.place back' (back' + 1) exits test_run body_run next_run
            (λ q. of_expr Counts counts p (calls_to p levels) (of_calls_to Counts counts p levels) q test)
            (of_scoped Counts counts (in_order p (calls_to p levels) mains body) (of_in_order Counts counts p (calls_to p levels) (of_calls_to Counts counts p levels) mains of_main body))
            (λ q. counts.of_then Went Locals (in_order p (calls_to p levels) mains next' q) (λ went. pure went.1)
            (of_in_order Counts counts p (calls_to p levels) (of_calls_to Counts counts p levels) mains of_main next' q) (λ went. counts.of_pure Locals went.1))
            (λ ls' ml' u agree' long' sound'. value_does p ok r whole c ml' callers inner ls' agree' levels calls deep test.node head.place [] u is.2 sound' test_at)
            (subst (λ (n : ℕ). slice_get c.instrs n ≡ Some (i.Branch (back' + 1))) branch_place branch_at.0)
            (λ ls' ml' u agree' long' sound'.
            subst (λ (n : ℕ). Does p ok r whole (Behind p ok r whole c callers levels calls deep step.place inside inner (length ml)) (body_run ls' u) (mk' ml' n [] u)) (sym body_place')
            (scoped_does p ok r whole c callers levels calls deep step.place inside inner more.0 (length ml) (in_order p (calls_to p levels) mains body) ls' u (mk' ml' begin.place [] u)
            (agree_length inner ls' ml' agree')
            (subst (λ (ss : Slots). Does p ok r whole (After p ok r whole c callers levels calls deep step.place inside inner ss (length ml)) (in_order p (calls_to p levels) mains body ls' u)
            (mk' ml' begin.place [] u)) more.1
            (subst (λ (n : ℕ). Does p ok r whole (After p ok r whole c callers levels calls deep step.place inside inner (slots_after_row inner begin.slot body) n)
            (in_order p (calls_to p levels) mains body ls' u) (mk' ml' begin.place [] u)) long'
            (row_does body inner ls' ml' begin inside u is.5 here_body agree' up1 (omega (arith, room2, long')) (subst (λ (n : ℕ). Sound p ok r whole (mk' ml' n [] u)) body_place' sound')
            (subst (λ (n : ℕ). Holds c.instrs n three) body_place branch_at.1))))))
            (λ ls' ml' u agree' long' sound'.
            subst (λ (n : ℕ). Does p ok r whole (Settled' back' inner n) (next_run ls' u) (mk' ml' step.place [] u)) long'
            (subst (λ (ss : Slots). Does p ok r whole (Settled' back' ss (length ml')) (next_run ls' u) (mk' ml' step.place [] u)) (change_slots inner step.slot next' is.3)
            (one_does next' (change_simple next' is.3) inner ls' ml' step exits u is.4 agree' (ascends_more 0 inner begin.slot step.slot (omega arith) up1) (omega (arith, room2, long', no_kinds)) sound'
            (subst (λ (n : ℕ). Holds c.instrs n four) next_place next_at))))
            (subst (λ (n : ℕ). slice_get c.instrs n ≡ Some (i.Loop head.place)) loop_place loop_at.0) in
            then_does p ok r whole (Settled' head.place inner (length ml)) (Comes (For' shape first test shape' next' shape'' body) slots at exits (length ml))
            (locals_after (in_order p (calls_to p levels) mains first) ls w) (λ q. loop test_run body_run next_run q >>= (λ went. pure (leave (length ls) went))) (mk' ml at.place [] w)
            (one_does first is.0 slots ls ml at exits w is.1 agree up room1 sound (front c.instrs at.place one two has2)) (λ ls' u s' sound' q.
            from p ok r whole (Comes (For' shape first test shape' next' shape'' body) slots at exits (length ml)) ((loop test_run body_run next_run ls' >>= (λ went. pure (leave (length ls) went))) u)
            s' (mk' q.0 head.place [] u) q.1 sound' (λ sound1.
            weaken p ok r whole (Behind p ok r whole c callers levels calls deep (at.place + form_size p (For' shape first test shape' next' shape'' body) slots at.slot) exits slots (length ml))
            (Comes (For' shape first test shape' next' shape'' body) slots at exits (length ml)) ((loop test_run body_run next_run ls' >>= (λ went. pure (leave (length ls) went))) u)
            (mk' q.0 head.place [] u)
            (moved (back' + 1) (at.place + form_size p (For' shape first test shape' next' shape'' body) slots at.slot) exits slots (length ml)
            ((loop test_run body_run next_run ls' >>= (λ went. pure (leave (length ls) went))) u) (mk' q.0 head.place [] u) exit_place
            (scoped_does p ok r whole c callers levels calls deep (back' + 1) exits slots shared.0 (length ml) (λ _. loop test_run body_run next_run ls') ls u (mk' q.0 head.place [] u)
            (agree_length slots ls ml agree)
            (weaken p ok r whole (Behind p ok r whole c callers levels calls deep (back' + 1) exits inner (length ml))
            (After p ok r whole c callers levels calls deep (back' + 1) exits slots (slots ++ shared.0) (length ml)) (loop test_run body_run next_run ls' u) (mk' q.0 head.place [] u)
            (looped ls' q.0 u q.2 q.3 sound1) (λ went u' s'' h. behind_inner (back' + 1) exits slots inner shared.0 (length ml) went u' s'' shared.1 h))))
            (λ went u' s'' h. behind_after p ok r whole c callers levels calls deep (at.place + form_size p (For' shape first test shape' next' shape'' body) slots at.slot) exits slots (length ml) went
            u' s'' h)))
        form_does Break slots ls ml at exits w is here' agree up room sound has =
            gives_one p ok r whole c ml callers (Comes Break slots at exits (length ml)) (ending.Break, ls) (mk' ml at.place [] w) (mk' ml exits.on_break [] w) w sound
            (at_instr p ok r whole (mk' ml at.place [] w) (i.Jump exits.on_break) has.0) sound.kinds
            (ml, [], refl, subst (λ (ss : Slots). Agree ss ls ml) (sym (append-nil slots)) agree, refl)
        form_does Continue slots ls ml at exits w is here' agree up room sound has =
            gives_one p ok r whole c ml callers (Comes Continue slots at exits (length ml)) (ending.Continue, ls) (mk' ml at.place [] w) (mk' ml exits.on_continue [] w) w sound
            (at_instr p ok r whole (mk' ml at.place [] w) (i.Jump exits.on_continue) has.0) sound.kinds
            (ml, [], refl, subst (λ (ss : Slots). Agree ss ls ml) (sym (append-nil slots)) agree, refl)
        form_does (Return None) slots ls ml at exits w is here' agree up room sound has = (mk' ml at.place [] w, Rattle.machine_meaning.proofs.Composes.here (module_of p) (mk' ml at.place [] w), sound, (ml, at.place, has.0, refl))
        form_does (Return (Some e)) slots ls ml at exits w is here' agree up room sound has =
            then_does p ok r whole (Left p ok r whole c ml callers (at.place + size_of e) []) (Comes (Return (Some e)) slots at exits (length ml)) (value_of p (calls_to p levels) ls e w)
            (λ v. pure (ending.Return (Some v), ls)) (mk' ml at.place [] w)
            (value_does p ok r whole c ml callers slots ls agree levels calls deep e.node at.place [] w is sound (front c.instrs at.place (code_of p slots e at.place) (i.Return ∷ []) has))
            (λ v u s' sound' q.
            (s', Rattle.machine_meaning.proofs.Composes.here (module_of p) s', sound', (ml, at.place + size_of e, (back c.instrs at.place (code_of p slots e at.place) (i.Return ∷ []) (size_of e) (expr_length p slots e at.place) has).0, q)))
        form_does (form.CallOf (call_of name shape args)) slots ls ml at exits w is here' agree up room sound has =
            let g = given_by (function_named p.functions name.text) in
            let same : at.place + (values_size args + 1) + drop_size g ≡ at.place + (values_size args + 1 + drop_size g) = omega arith in
            then_does p ok r whole (CallLeft p ok r whole c ml callers slots ls agree levels calls deep (call_of name shape args) at.place [])
            (Comes (form.CallOf (call_of name shape args)) slots at exits (length ml)) (result p (calls_to p levels) ls (call_of name shape args) w) (λ _. pure (ending.Normal, ls))
            (mk' ml at.place [] w)
            (result_does p ok r whole c ml callers slots ls agree levels calls deep (call_of name shape args) at.place [] w is sound
            (front c.instrs at.place (call_code p slots (call_of name shape args) at.place) (drop_code g) has)) (λ given u s' sound' q.
            from p ok r whole (Comes (form.CallOf (call_of name shape args)) slots at exits (length ml)) (Gives (ending.Normal, ls) u) s'
            (mk' ml (at.place + (values_size args + 1)) (listed given ++ []) u) q.0 sound' (λ sound1.
            weaken p ok r whole (Plain (at.place + (values_size args + 1) + drop_size g) slots (length ml)) (Comes (form.CallOf (call_of name shape args)) slots at exits (length ml))
            (Gives (ending.Normal, ls) u) (mk' ml (at.place + (values_size args + 1)) (listed given ++ []) u)
            (drop_does g given q.1 slots ls ml (at.place + (values_size args + 1)) u agree sound1
            (back c.instrs at.place (call_code p slots (call_of name shape args) at.place) (drop_code g) (values_size args + 1) (call_length p slots (call_of name shape args) at.place) has))
            (λ went u' s'' q'. plain_after (at.place + (values_size args + 1 + drop_size g)) exits slots slots (length ml) went u' s''
            (q'.0, subst (λ (n : ℕ). Settled' n slots (length ml) went.1 u' s'') same q'.1))))
        form_does (Assert e) slots ls ml at exits w is here' agree up room sound has =
            let same : at.place + size_of e + 1 ≡ at.place + (size_of e + 1) = omega arith in
            then_does p ok r whole (Left p ok r whole c ml callers (at.place + size_of e) []) (Comes (Assert e) slots at exits (length ml)) (value_of p (calls_to p levels) ls e w)
            (λ v. assert (truth_in v) ls) (mk' ml at.place [] w)
            (value_does p ok r whole c ml callers slots ls agree levels calls deep e.node at.place [] w is sound (front c.instrs at.place (code_of p slots e at.place) (i.Assert ∷ []) has))
            (λ v u s' sound' q.
            from p ok r whole (Comes (Assert e) slots at exits (length ml)) (assert (truth_in v) ls u) s' (mk' ml (at.place + size_of e) (v ∷ []) u) q sound' (λ sound1.
            weaken p ok r whole (Plain (at.place + size_of e + 1) slots (length ml)) (Comes (Assert e) slots at exits (length ml)) (assert (truth_in v) ls u) (mk' ml (at.place + size_of e) (v ∷ []) u)
            (assert_does v slots ls ml (at.place + size_of e) u agree sound1 (back c.instrs at.place (code_of p slots e at.place) (i.Assert ∷ []) (size_of e) (expr_length p slots e at.place) has).0)
            (λ went u' s'' q'. plain_after (at.place + (size_of e + 1)) exits slots slots (length ml) went u' s'' (q'.0, subst (λ (n : ℕ). Settled' n slots (length ml) went.1 u' s'') same q'.1))))
        form_does (Block' shape body) slots ls ml at exits w is here' agree up room sound has =
            let more = added_row slots at.slot body in
            weaken p ok r whole (Behind p ok r whole c callers levels calls deep (at.place + row_size p body slots at.slot) exits slots (length ml))
            (Comes (Block' shape body) slots at exits (length ml)) (scoped (in_order p (calls_to p levels) mains body) ls w) (mk' ml at.place [] w)
            (scoped_does p ok r whole c callers levels calls deep (at.place + row_size p body slots at.slot) exits slots more.0 (length ml) (in_order p (calls_to p levels) mains body) ls w
            (mk' ml at.place [] w) (agree_length slots ls ml agree)
            (subst (λ (ss : Slots). Does p ok r whole (After p ok r whole c callers levels calls deep (at.place + row_size p body slots at.slot) exits slots ss (length ml))
            (in_order p (calls_to p levels) mains body ls w) (mk' ml at.place [] w)) more.1
            (row_does body slots ls ml at exits w is here' agree up room sound has)))
            (λ went u s' q. behind_after p ok r whole c callers levels calls deep (at.place + row_size p body slots at.slot) exits slots (length ml) went u s' q)
        form_does (Print items) slots ls ml at exits w is here' agree up room sound has =
            weaken p ok r whole (Plain (at.place + (items_size items + 1)) slots (length ml)) (Comes (Print items) slots at exits (length ml)) (mains (Printing items) ls w) (mk' ml at.place [] w)
            (print_does items slots ls ml at w is here' agree sound has) (λ went u s' q. plain_after (at.place + (items_size items + 1)) exits slots slots (length ml) went u s' q)
        form_does (Par' shape blocks) slots ls ml at exits w is here' agree up room sound has =
            weaken p ok r whole (Plain (at.place + (widths_size (blocks_in blocks) + 1)) slots (length ml)) (Comes (Par' shape blocks) slots at exits (length ml))
            (mains (Stepping (blocks_in blocks)) ls w) (mk' ml at.place [] w)
            (par_does (blocks_in blocks) slots ls ml at w (widths_are p blocks is) here' agree sound has)
            (λ went u s' q. plain_after (at.place + (widths_size (blocks_in blocks) + 1)) exits slots slots (length ml) went u s' q)

        pub row_does : {n : _} (row : Row_of-Stmt n) (slots : Slots) (ls : Locals) (ml : List Val) (at : At) (exits : Exits) (w : World) → RowIs p row
            → Here at.text at.block (texts_in_row row) (steps_in_row row) → Agree slots ls ml → Ascend 0 slots at.slot → at.slot + length (kinds_in_row row) ≤ length ml
            → Sound p ok r whole (mk' ml at.place [] w) → Holds c.instrs at.place (row_code p row slots at exits)
            → Does p ok r whole (After p ok r whole c callers levels calls deep (at.place + row_size p row slots at.slot) exits slots (slots_after_row slots at.slot row) (length ml))
            (in_order p (calls_to p levels) mains row ls w) (mk' ml at.place [] w)
        row_does end_of-Stmt slots ls ml at exits w is here' agree up room sound has =
            let same : at.place ≡ at.place + 0 = omega arith in
            (mk' ml at.place [] w, Rattle.machine_meaning.proofs.Composes.here (module_of p) (mk' ml at.place [] w), sound, (ml, ap (λ (n : ℕ). mk' ml n [] w) same, agree, refl))
        row_does (more_of-Stmt where' f rest) slots ls ml at exits w is here' agree up room sound has =
            let l = length-append (kinds_in f) (kinds_in_row rest) in
            let room1 : at.slot + length (kinds_in f) ≤ length ml = omega (arith, l, room) in
            let room2 : at.slot + length (kinds_in f) + length (kinds_in_row rest) ≤ length ml = omega (arith, l, room) in
            let one = form_code p f slots at exits in
            let two = row_code p rest (slots_after slots at.slot f) (beyond p slots at f) exits in
            then_does p ok r whole (Comes f slots at exits (length ml)) (After p ok r whole c callers levels calls deep
            (at.place + (form_size p f slots at.slot + row_size p rest (slots_after slots at.slot f) (at.slot + length (kinds_in f)))) exits slots
            (slots_after_row (slots_after slots at.slot f) (at.slot + length (kinds_in f)) rest) (length ml))
            (effect p (calls_to p levels) mains f ls w) (λ went. go_on went (in_order p (calls_to p levels) mains rest)) (mk' ml at.place [] w)
            (form_does f slots ls ml at exits w is.0 (here_front at.text at.block (texts_in f) (texts_in_row rest) (steps_in f) (steps_in_row rest) here') agree up room1 sound
            (front c.instrs at.place one two has)) (λ went u s' sound' q.
            row_goes_on f rest slots at exits (length ml) (λ ls' ml' u' agree' long' sound''.
            subst (λ (n : ℕ). Does p ok r whole (After p ok r whole c callers levels calls deep
            (at.place + form_size p f slots at.slot + row_size p rest (slots_after slots at.slot f) (at.slot + length (kinds_in f))) exits (slots_after slots at.slot f)
            (slots_after_row (slots_after slots at.slot f) (at.slot + length (kinds_in f)) rest) n) (in_order p (calls_to p levels) mains rest ls' u')
            (mk' ml' (at.place + form_size p f slots at.slot) [] u')) long'
            (row_does rest (slots_after slots at.slot f) ls' ml' (beyond p slots at f) exits u' is.1 (here_back at.text at.block (texts_in f) (texts_in_row rest) (steps_in f) (steps_in_row rest) here')
            agree' (ascends_after slots at.slot f up) (omega (arith, room2, long')) sound''
            (back c.instrs at.place one two (form_size p f slots at.slot) (form_length p f slots at exits) has))) went u s' sound' q)

        pub arms_do : {n : _} (arms : Row_of-Arm n) (last : Locals → Run Went) (slots : Slots) (ls : Locals) (ml : List Val) (at : At) (exits : Exits) (end : ℕ) (w : World) → ArmsAre p arms
            → Here at.text at.block (texts_in_arms arms) (steps_in_arms arms) → Agree slots ls ml → Ascend 0 slots at.slot
            → at.slot + length (kinds_in_arms arms) ≤ length ml → Sound p ok r whole (mk' ml at.place [] w) → Holds c.instrs at.place (arms_code p arms slots at exits end)
            → ((u : World) → Sound p ok r whole (mk' ml (at.place + arms_size p arms slots at.slot) [] u)
            → Does p ok r whole (Behind p ok r whole c callers levels calls deep end exits slots (length ml)) (last ls u) (mk' ml (at.place + arms_size p arms slots at.slot) [] u))
            → Does p ok r whole (Behind p ok r whole c callers levels calls deep end exits slots (length ml)) (choose p (calls_to p levels) mains arms last ls w) (mk' ml at.place [] w)
        arms_do end_of-Arm last slots ls ml at exits end w is here' agree up room sound has last_do =
            let same : at.place ≡ at.place + 0 = omega arith in
            subst (λ (n : ℕ). Does p ok r whole (Behind p ok r whole c callers levels calls deep end exits slots (length ml)) (last ls w) (mk' ml n [] w)) (sym same)
            (last_do w (subst (λ (n : ℕ). Sound p ok r whole (mk' ml n [] w)) same sound))
        arms_do (more_of-Arm (Arm' test shape body) rest) last slots ls ml at exits end w is here' agree up room sound has last_do =
            let l = length-append (kinds_in_row body) (kinds_in_arms rest) in
            let room1 : at.slot + length (kinds_in_row body) ≤ length ml = omega (arith, l, room) in
            let room2 : at.slot + length (kinds_in_row body) + length (kinds_in_arms rest) ≤ length ml = omega (arith, l, room) in
            let begin = past p at (size_of test + 1) in
            let behind' = past p (beyond_row p slots begin body) 1 in
            let one = code_of p slots test at.place in
            let two = row_code p body slots begin exits in
            let three = arms_code p rest slots behind' exits end in
            let test_long = expr_length p slots test at.place in
            let two_long = row_length p body slots begin exits in
            let long : length (i.Branch behind'.place ∷ two) ≡ row_size p body slots at.slot + 1 = omega (arith, two_long) in
            let ahead = front c.instrs at.place (one ++ i.Branch behind'.place ∷ two) (i.Jump end ∷ three) has in
            let tail = back c.instrs at.place (one ++ i.Branch behind'.place ∷ two) (i.Jump end ∷ three) (size_of test + (row_size p body slots at.slot + 1))
            (both one (i.Branch behind'.place ∷ two) (size_of test) (row_size p body slots at.slot + 1) test_long long) has in
            let middle = back c.instrs at.place one (i.Branch behind'.place ∷ two) (size_of test) test_long ahead in
            let jump_place : at.place + (size_of test + (row_size p body slots at.slot + 1)) ≡ at.place + (size_of test + 1) + row_size p body slots at.slot = omega arith in
            let behind_place : at.place + (size_of test + (row_size p body slots at.slot + 1)) + 1 ≡ behind'.place = omega arith in
            let body_place : at.place + size_of test + 1 ≡ at.place + (size_of test + 1) = omega arith in
            let last_place : behind'.place + arms_size p rest slots (at.slot + length (kinds_in_row body)) ≡ at.place +
            (size_of test + 1 + row_size p body slots at.slot + 1 + arms_size p rest slots (at.slot + length (kinds_in_row body))) = omega arith in
            let more = added_row slots at.slot body in
            let up2 = ascends_more 0 slots at.slot (at.slot + length (kinds_in_row body)) (omega arith) up in
            let jump_at = subst (λ (n : ℕ). slice_get c.instrs n ≡ Some (i.Jump end)) jump_place tail.0 in
            then_does p ok r whole (Left p ok r whole c ml callers (at.place + size_of test) []) (Behind p ok r whole c callers levels calls deep end exits slots (length ml))
            (value_of p (calls_to p levels) ls test w)
            (λ v. if truth_in v then scoped (in_order p (calls_to p levels) mains body) ls else choose p (calls_to p levels) mains rest last ls) (mk' ml at.place [] w)
            (value_does p ok r whole c ml callers slots ls agree levels calls deep test.node at.place [] w is.0 sound (front c.instrs at.place one (i.Branch behind'.place ∷ two) ahead))
            (λ v u s' sound' q.
            from p ok r whole (Behind p ok r whole c callers levels calls deep end exits slots (length ml))
            ((if truth_in v then scoped (in_order p (calls_to p levels) mains body) ls else choose p (calls_to p levels) mains rest last ls) u) s' (mk' ml (at.place + size_of test) (v ∷ []) u) q
            sound' (λ sound1.
            arm_decides v (at.place + size_of test) behind'.place end slots ls ml exits (scoped (in_order p (calls_to p levels) mains body)) (choose p (calls_to p levels) mains rest last) u sound1
            middle.0
            (λ sound2.
            subst (λ (n : ℕ). Does p ok r whole (Behind p ok r whole c callers levels calls deep end exits slots (length ml)) (scoped (in_order p (calls_to p levels) mains body) ls u) (mk' ml n [] u))
            (sym body_place)
            (jumped end (at.place + (size_of test + 1) + row_size p body slots at.slot) exits slots (length ml) (scoped (in_order p (calls_to p levels) mains body) ls u)
            (mk' ml (at.place + (size_of test + 1)) [] u) jump_at
            (scoped_does p ok r whole c callers levels calls deep (at.place + (size_of test + 1) + row_size p body slots at.slot) exits slots more.0 (length ml)
            (in_order p (calls_to p levels) mains body) ls u (mk' ml (at.place + (size_of test + 1)) [] u) (agree_length slots ls ml agree)
            (subst (λ (ss : Slots). Does p ok r whole (After p ok r whole c callers levels calls deep (at.place + (size_of test + 1) + row_size p body slots at.slot) exits slots ss (length ml))
            (in_order p (calls_to p levels) mains body ls u) (mk' ml (at.place + (size_of test + 1)) [] u)) more.1
            (row_does body slots ls ml begin exits u is.1 (here_front at.text at.block (texts_in_row body) (texts_in_arms rest) (steps_in_row body) (steps_in_arms rest) here') agree up room1
            (subst (λ (n : ℕ). Sound p ok r whole (mk' ml n [] u)) body_place sound2) (subst (λ (n : ℕ). Holds c.instrs n two) body_place middle.1))))))
            (λ sound2.
            arms_do rest last slots ls ml behind' exits end u is.2 (here_back at.text at.block (texts_in_row body) (texts_in_arms rest) (steps_in_row body) (steps_in_arms rest) here') agree up2 room2
            sound2 (subst (λ (n : ℕ). Holds c.instrs n three) behind_place tail.1) (λ u' sound3.
            subst (λ (n : ℕ). Does p ok r whole (Behind p ok r whole c callers levels calls deep end exits slots (length ml)) (last ls u') (mk' ml n [] u')) (sym last_place)
            (last_do u' (subst (λ (n : ℕ). Sound p ok r whole (mk' ml n [] u')) last_place sound3))))))

        pub last_does : (last : Held-Form-If-1) (slots : Slots) (ls : Locals) (ml : List Val) (at : At) (exits : Exits) (w : World) → LastIs p last
            → Here at.text at.block (texts_in_last last) (steps_in_last last) → Agree slots ls ml → Ascend 0 slots at.slot → at.slot + length (kinds_in_last last) ≤ length ml
            → Sound p ok r whole (mk' ml at.place [] w) → Holds c.instrs at.place (last_code p last slots at exits)
            → Does p ok r whole (Behind p ok r whole c callers levels calls deep (at.place + last_size p last slots at.slot) exits slots (length ml)) (otherwise p (calls_to p levels) mains last ls w)
            (mk' ml at.place [] w)
        last_does form.None' slots ls ml at exits w is here' agree up room sound has =
            let same : at.place ≡ at.place + 0 = omega arith in
            (mk' ml at.place [] w, Rattle.machine_meaning.proofs.Composes.here (module_of p) (mk' ml at.place [] w), sound, (ml, ap (λ (n : ℕ). mk' ml n [] w) same, agree, refl))
        last_does (form.Some' shape body) slots ls ml at exits w is here' agree up room sound has =
            let more = added_row slots at.slot body in
            scoped_does p ok r whole c callers levels calls deep (at.place + row_size p body slots at.slot) exits slots more.0 (length ml) (in_order p (calls_to p levels) mains body) ls w
            (mk' ml at.place [] w) (agree_length slots ls ml agree)
            (subst (λ (ss : Slots). Does p ok r whole (After p ok r whole c callers levels calls deep (at.place + row_size p body slots at.slot) exits slots ss (length ml))
            (in_order p (calls_to p levels) mains body ls w) (mk' ml at.place [] w)) more.1
            (row_does body slots ls ml at exits w is here' agree up room sound has))
