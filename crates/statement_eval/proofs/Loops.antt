-- Statements at the tree's own constructors, and the turns of a loop.
use Rattle.std.proofs.Common.{◌≡◌, length, take, ℕ, zero, suc, ◌+◌, ◌≤◌, Bool, true, false, if◌then◌else◌, List, [], ◌∷◌, Option, Some, None, Err, refl, sym, ap, ◌∙◌, arith, ◌⊎◌, ⊎_elim, inl, inr}
use denote.Hole.Carrier.{hidden}
use Rattle.csl_tree.specs.declared.program.Program.{Program}
use Rattle.csl_tree.specs.declared.name.Name.{Name}
use Rattle.cal_terms.specs.declared.types.Ty.{Ty}
use Rattle.csl_tree.specs.declared.program.Expr.{Expr}
use Rattle.csl_tree.specs.declared.program.Place.{Place}
use Rattle.csl_tree.specs.declared.program.Call.{Call}
use Rattle.csl_tree.specs.declared.program.Stmt.{Stmt}
use Rattle.csl_tree.specs.declared.program.RoutineBlock.{RoutineBlock}
use Rattle.csl_tree.specs.declared.program.Form.{Form}
use Rattle.csl_tree.specs.declared.program.Form.TheVariants as form
use Rattle.csl_tree.specs.declared.program.Form.TheBlock.{shape-the_row-Stmt-1, hidden-the_row-Stmt-1, shape-the_row-Stmt-2, hidden-the_row-Stmt-2, shape-the_row-Arm-0, hidden-the_row-Arm-0}
use Rattle.csl_tree.specs.declared.program.Form.TheBlock.{shape-the_row-RoutineBlock-3, hidden-the_row-RoutineBlock-3, back-Form-If-1}
use Rattle.cal_base.specs.declared.ends.Cause.{Cause as CauseMet}
use Rattle.cal_base.specs.declared.ends.Cause.TheVariants.{FuelSpent}
use Rattle.cal_base.specs.declared.value.Val.{Val}
use Rattle.csl_meaning.specs.declared.state.World.{World}
use Rattle.csl_meaning.specs.declared.state.Ending.{Ending}
use Rattle.csl_meaning.specs.declared.state.Ending.TheVariants as ending
use Rattle.csl_meaning.specs.Operators.{truth_in}
use Rattle.csl_meaning.specs.Locals.{Locals}
use Rattle.csl_meaning.specs.Runs.{Outcome, Gives, Stops, Run, and_then, ◌>>=◌, ◌>>◌, pure, stop, spend, take_unit}
use Rattle.csl_meaning.specs.Value.{Calls, value_of}
use Rattle.csl_meaning.specs.Effect.{Went, MainOnly, Stepping, nowhere, blocks_in, effect, in_order, statements, scoped, loop, turns, turn, after_body, go_on, choose, otherwise, leave, step_of}
use Rattle.statement_eval.specs.declared.halt.Halt.{Halt}
use Rattle.statement_eval.specs.declared.halt.Halt.TheVariants.{Cause, NoMemory}
use Rattle.csl_tree.specs.declared.program.Arm.{Arm, out-Arm, is-Arm'}
use Rattle.statement_eval.specs.Lists.{chosen, last_block}
use Rattle.statement_eval.specs.Follows.{Follows, Goes, Sets}

module _ (p : Program) (calls : Calls) (mains : MainOnly → Locals → Run Went) where
  -- the statements of a row are those of its list
  pub in_order_is : (body : List Stmt) → in_order p calls mains (hidden-the_row-Stmt-1 body) ≡ statements p calls mains body
  unfolding shape-the_row-Stmt-1 hidden-the_row-Stmt-1 hidden
  in_order_is [] = refl
  in_order_is (s ∷ rest) = ap (λ (next : Locals → Run Went). λ (locals : Locals). effect p calls mains s.form locals >>= (λ went. go_on went next)) (in_order_is rest)

  pub effect_while : (f : Form) (test : Expr) (body : List Stmt) (locals : Locals) (w : World) → f ≡ form.While test body
      → effect p calls mains f locals w ≡ loop (λ inner. value_of p calls inner test) (scoped (statements p calls mains body)) (step_of p calls mains None) locals w
  effect_while f test body locals w e =
      ap (λ g. effect p calls mains g locals w) e
      ∙ ap (λ (b : Locals → Run Went). loop (λ inner. value_of p calls inner test) (scoped b) pure locals w) (in_order_is body)

  pub effect_block : (f : Form) (body : List Stmt) (locals : Locals) (w : World) → f ≡ form.Block body → effect p calls mains f locals w ≡ scoped (statements p calls mains body) locals w
  effect_block f body locals w e =
      ap (λ g. effect p calls mains g locals w) e
      ∙ ap (λ (b : Locals → Run Went). scoped b locals w) (in_order_is body)

blocks_is : (blocks : List RoutineBlock) → blocks_in (hidden-the_row-RoutineBlock-3 blocks) ≡ blocks
unfolding shape-the_row-RoutineBlock-3 hidden-the_row-RoutineBlock-3 hidden
blocks_is [] = refl
blocks_is (b ∷ rest) = ap (λ r. b ∷ r) (blocks_is rest)

module _ (p : Program) (calls : Calls) (mains : MainOnly → Locals → Run Went) where
  -- a `parbegin` by its list of blocks
  pub effect_par : (f : Form) (blocks : List RoutineBlock) (locals : Locals) (w : World) → f ≡ form.Par blocks → effect p calls mains f locals w ≡ mains (Stepping blocks) locals w
  effect_par f blocks locals w e = ap (λ g. effect p calls mains g locals w) e ∙ ap (λ bs. mains (Stepping bs) locals w) (blocks_is blocks)

  arms_is : (arms : List Arm) (last : Locals → Run Went) → choose p calls mains (hidden-the_row-Arm-0 arms) last ≡ chosen p calls mains arms last
  unfolding shape-the_row-Arm-0 hidden-the_row-Arm-0 hidden
  arms_is [] last = refl
  arms_is (arm ∷ rest) last =
      ap (λ (x : Arm). choose p calls mains (hidden-the_row-Arm-0 (x ∷ rest)) last) (is-Arm' arm)
      ∙ ap (λ (b : Locals → Run Went). λ (locals : Locals). value_of p calls locals (out-Arm arm).test
      >>= (λ v. if truth_in v then scoped b locals else choose p calls mains (hidden-the_row-Arm-0 rest) last locals)) (in_order_is p calls mains (out-Arm arm).body)
      ∙ ap (λ (b : Locals → Run Went). λ (locals : Locals). value_of p calls locals (out-Arm arm).test
      >>= (λ v. if truth_in v then scoped (statements p calls mains (out-Arm arm).body) locals else b locals)) (arms_is rest last)

  -- an `if` by its list of arms
  pub effect_if : (f : Form) (arms : List Arm) (last : Option (List Stmt)) (locals : Locals) (w : World) → f ≡ form.If arms last
      → effect p calls mains f locals w ≡ chosen p calls mains arms (last_block p calls mains last) locals w
  effect_if f arms last locals w e =
      ap (λ g. effect p calls mains g locals w) e
      ∙ ap (λ (c : (Locals → Run Went) → Locals → Run Went). c (otherwise p calls mains (back-Form-If-1 last)) locals w) (ap (λ (c : (Locals → Run Went) → Locals → Run Went). c) (arms_are arms))
      ∙ ap (λ (b : Locals → Run Went). chosen p calls mains arms b locals w) (last_is last)
    where
      arms_are : (all : List Arm) → choose p calls mains (hidden-the_row-Arm-0 all) ≡ chosen p calls mains all
      arms_are all = λ i last'. arms_is all last' i

      last_is : (l : Option (List Stmt)) → otherwise p calls mains (back-Form-If-1 l) ≡ last_block p calls mains l
      last_is None = refl
      last_is (Some body) = ap (λ (b : Locals → Run Went). λ (locals' : Locals). scoped b locals') (in_order_is p calls mains body)

  -- an outcome of one statement, as that of a list of one
  abbrev pub after_one : Outcome Went → Outcome Locals
  after_one o = and_then (and_then o (λ went. go_on went (λ l. pure (ending.Normal, l)))) (λ went. pure went.1)

  pub effect_for : (f : Form) (first : Stmt) (test : Expr) (next : Stmt) (body : List Stmt) (locals : Locals) (w : World) → f ≡ form.For first test next body
      → effect p calls mains f locals w ≡ and_then (after_one (effect p calls mains first.form locals w))
      (λ inner. loop (λ l. value_of p calls l test) (scoped (statements p calls mains body)) (step_of p calls mains (Some next)) inner >>= (λ went. pure (leave (length locals) went)))
  unfolding shape-the_row-Stmt-2 hidden-the_row-Stmt-2 hidden
  effect_for f first test next body locals w e =
      ap (λ g. effect p calls mains g locals w) e
      ∙ ap (λ (b : Locals → Run Went). and_then (after_one (effect p calls mains first.form locals w))
      (λ inner. loop (λ l. value_of p calls l test) (scoped b) (step_of p calls mains (Some next)) inner >>= (λ went. pure (leave (length locals) went)))) (in_order_is p calls mains body)

  pub one_gave : (o : Outcome Went) (e : Ending) (l : Locals) (w : World) → o ≡ Gives (e, l) w → after_one o ≡ Gives l w
  one_gave o e l w is = ap after_one is ∙ by_ending e
    where
      by_ending : (x : Ending) → after_one (Gives (x, l) w) ≡ Gives l w
      by_ending ending.Normal = refl
      by_ending ending.Break = refl
      by_ending ending.Continue = refl
      by_ending (ending.Return v) = refl

  -- the step of a loop
  pub step_gave : (s : Stmt) (locals l : Locals) (e : Ending) (w w' : World) → effect p calls mains s.form locals w ≡ Gives (e, l) w' → step_of p calls mains (Some s) locals w ≡ Gives l w'
  step_gave s locals l e w w' is = one_gave (effect p calls mains s.form locals w) e l w' is

  pub step_stopped : (s : Stmt) (locals l l' : Locals) (h : Halt) (w w' : World) → Goes (effect p calls mains s.form locals w) (Err h) l w'
      → Sets (step_of p calls mains (Some s) locals w) (Err h) l' w'
  step_stopped s locals l l' NoMemory w w' is = tt
  step_stopped s locals l l' (Cause c) w w' is = ap after_one is

  module _ (k : Locals → Run Went) (n : ℕ) where
    abbrev pub whole_for : Outcome Went → Outcome Went
    whole_for o = and_then (after_one o) (λ inner. k inner >>= (λ went. pure (leave n went)))

    pub first_stops : (o : Outcome Went) (l l' : Locals) (w : World) (h : Halt) → Goes o (Err h) l w → Goes (whole_for o) (Err h) l' w
    first_stops o l l' w NoMemory g = tt
    first_stops o l l' w (Cause c) g = ap whole_for g

    pub loop_stops : (o : Outcome Went) (e : Ending) (l1 l2 l3 : Locals) (w1 w2 : World) (h : Halt) → o ≡ Gives (e, l1) w1 → Goes (k l1 w1) (Err h) l2 w2 → Goes (whole_for o) (Err h) l3 w2
    loop_stops o e l1 l2 l3 w1 w2 NoMemory is g = tt
    loop_stops o e l1 l2 l3 w1 w2 (Cause c) is g =
        ap (λ x. and_then x (λ inner. k inner >>= (λ went. pure (leave n went)))) (one_gave o e l1 w1 is)
        ∙ ap (λ x. and_then x (λ went. pure (leave n went))) g

    pub loop_gives : (o : Outcome Went) (e e2 : Ending) (l1 l2 l3 : Locals) (w1 w2 : World) → o ≡ Gives (e, l1) w1 → k l1 w1 ≡ Gives (e2, l2) w2 → l3 ≡ take n l2 → whole_for o ≡ Gives (e2, l3) w2
    loop_gives o e e2 l1 l2 l3 w1 w2 is g kept =
        ap (λ x. and_then x (λ inner. k inner >>= (λ went. pure (leave n went)))) (one_gave o e l1 w1 is)
        ∙ ap (λ x. and_then x (λ went. pure (leave n went))) g
        ∙ ap (λ l. Gives (e2, l) w2) (sym kept)

-- ---- a loop

abbrev unit_outcome : CauseMet → World → Outcome (Unit {0})
unit_outcome s w = Stops s w

abbrev went_outcome : CauseMet → World → Outcome Went
went_outcome s w = Stops s w

-- a stop is the same whatever would have been given
stops_as : (s t : CauseMet) (w w' : World) → unit_outcome s w ≡ unit_outcome t w' → went_outcome s w ≡ went_outcome t w'
stops_as s t w w' e = cc

module _ (test : Locals → Run Val) (body : Locals → Run Went) (next : Locals → Run Locals) where
  -- the return to the head, with this many more
  abbrev pub again : ℕ → Locals → Run Went
  again zero locals = stop FuelSpent
  again (suc n) locals = take_unit >> turns n test body next locals

  pub turns_is : (n : ℕ) → turns n test body next ≡ turn test body next (again n)
  turns_is zero = refl
  turns_is (suc n) = refl

  -- from the test on
  abbrev pub tested : ℕ → Locals → Val → Run Went
  tested n locals v = if truth_in v then (body locals >>= (λ went. after_body went (λ inner. next inner >>= again n))) else pure (ending.Normal, locals)

  pub test_stops : (n : ℕ) (l l' : Locals) (w w' : World) (h : Halt) → Follows (test l w) (Err h) w' → Goes (turns n test body next l w) (Err h) l' w'
  test_stops n l l' w w' NoMemory e = tt
  test_stops n l l' w w' (Cause c) e = ap (λ (t : Locals → Run Went). t l w) (turns_is n) ∙ ap (λ o. and_then o (tested n l)) e

  pub test_false : (n : ℕ) (l : Locals) (w w' : World) (v : Val) → test l w ≡ Gives v w' → truth_in v ≡ false → turns n test body next l w ≡ Gives (ending.Normal, l) w'
  test_false n l w w' v e f =
      ap (λ (t : Locals → Run Went). t l w) (turns_is n) ∙ ap (λ o. and_then o (tested n l)) e
      ∙ ap (λ (b : Bool). (if b then (body l >>= (λ went. after_body went (λ inner. next inner >>= again n))) else pure (ending.Normal, l)) w') f

  test_true : (n : ℕ) (l : Locals) (w w' : World) (v : Val) → test l w ≡ Gives v w' → truth_in v ≡ true
      → turns n test body next l w ≡ and_then (body l w') (λ went. after_body went (λ inner. next inner >>= again n))
  test_true n l w w' v e f =
      ap (λ (t : Locals → Run Went). t l w) (turns_is n) ∙ ap (λ o. and_then o (tested n l)) e
      ∙ ap (λ (b : Bool). (if b then (body l >>= (λ went. after_body went (λ inner. next inner >>= again n))) else pure (ending.Normal, l)) w') f

  pub turn_stops : (n : ℕ) (l l1 l2 : Locals) (w w1 w2 : World) (v : Val) (h : Halt) → test l w ≡ Gives v w1 → truth_in v ≡ true → Goes (body l w1) (Err h) l1 w2
      → Goes (turns n test body next l w) (Err h) l2 w2
  turn_stops n l l1 l2 w w1 w2 v NoMemory e t b = tt
  turn_stops n l l1 l2 w w1 w2 v (Cause c) e t b = test_true n l w w1 v e t ∙ ap (λ o. and_then o (λ went. after_body went (λ inner. next inner >>= again n))) b

  -- what follows a body that gave something
  pub turn_gives : (n : ℕ) (l : Locals) (w w1 w2 : World) (v : Val) (went : Went) → test l w ≡ Gives v w1 → truth_in v ≡ true → body l w1 ≡ Gives went w2
      → turns n test body next l w ≡ after_body went (λ inner. next inner >>= again n) w2
  turn_gives n l w w1 w2 v went e t b =
      test_true n l w w1 v e t ∙ ap (λ o. and_then o (λ x. after_body x (λ inner. next inner >>= again n))) b

  -- a body that ends normally or by `continue` leads to the step
  pub to_step : (n : ℕ) (l l1 : Locals) (w w1 w2 : World) (v : Val) (e : Ending) → test l w ≡ Gives v w1 → truth_in v ≡ true → body l w1 ≡ Gives (e, l1) w2
      → (e ≡ ending.Normal) ⊎ (e ≡ ending.Continue) → turns n test body next l w ≡ and_then (next l1 w2) (again n)
  to_step n l l1 w w1 w2 v e is t b ends =
      turn_gives n l w w1 w2 v (e, l1) is t b
      ∙ ⊎_elim (λ k. ap (λ x. after_body (x, l1) (λ inner. next inner >>= again n) w2) k) (λ k. ap (λ x. after_body (x, l1) (λ inner. next inner >>= again n) w2) k) ends

  pub step_stops : (n : ℕ) (l1 l2 l3 : Locals) (o : Outcome Went) (w2 w3 : World) (h : Halt) → o ≡ and_then (next l1 w2) (again n) → Sets (next l1 w2) (Err h) l2 w3 → Goes o (Err h) l3 w3
  step_stops n l1 l2 l3 o w2 w3 NoMemory is s = tt
  step_stops n l1 l2 l3 o w2 w3 (Cause c) is s = is ∙ ap (λ x. and_then x (again n)) s

  -- no unit is left
  pub unit_stops : (n : ℕ) (l l' : Locals) (w w' : World) (h : Halt) → w.fuel ≤ n → Follows (take_unit w) (Err h) w' → Goes (again n l w) (Err h) l' w'
  unit_stops n l l' w w' NoMemory le e = tt
  unit_stops zero l l' w w' (Cause c) le e = let none : w.fuel ≡ 0 = omega arith in stops_as (FuelSpent) c w w' (ap (λ f. spend f w) (sym none) ∙ e)
  unit_stops (suc n) l l' w w' (Cause c) le e = ap (λ o. and_then o (λ _. turns n test body next l)) e

  -- a unit is taken, and one return fewer is to come
  pub unit_taken : (n : ℕ) (l : Locals) (w w' : World) → w.fuel ≤ n → take_unit w ≡ Gives tt w' → w'.fuel + 1 ≡ w.fuel → (m : ℕ) × ((w'.fuel ≤ m) × (turns m test body next l w' ≡ again n l w))
  unit_taken zero l w w' le e f = absurd (omega arith)
  unit_taken (suc n) l w w' le e f = (n, (omega arith, ap (λ o. and_then o (λ _. turns n test body next l)) (sym e)))

-- ---- a statement that is the same in main and elsewhere

-- the form is one of those
abbrev pub IsPlain : Form → Type 0
IsPlain f =
    ((ty : Ty) × (name : Name) × (e : Expr) × (f ≡ form.Declare ty name e))
    ⊎ (((q : Place) × (e : Expr) × (f ≡ form.Set q e))
    ⊎ (((q : Place) × (e : Expr) × (f ≡ form.AddTo q e))
    ⊎ ((f ≡ form.Break)
    ⊎ ((f ≡ form.Continue)
    ⊎ (((given : Option Expr) × (f ≡ form.Return given))
    ⊎ (((call : Call) × (f ≡ form.CallOf call))
    ⊎ ((e : Expr) × (f ≡ form.Assert e))))))))

module _ (p : Program) (calls : Calls) (mains : MainOnly → Locals → Run Went) where
  same_at : (f g : Form) (locals : Locals) (w : World) → f ≡ g → effect p calls mains g locals w ≡ effect p calls nowhere g locals w
      → effect p calls mains f locals w ≡ effect p calls nowhere f locals w
  same_at f g locals w e same = ap (λ x. effect p calls mains x locals w) e ∙ same ∙ sym (ap (λ x. effect p calls nowhere x locals w) e)

  pub plain_is : (f : Form) (locals : Locals) (w : World) → IsPlain f → effect p calls mains f locals w ≡ effect p calls nowhere f locals w
  plain_is f locals w (inl d) = same_at f (form.Declare d.0 d.1 d.2) locals w d.3 refl
  plain_is f locals w (inr (inl d)) = same_at f (form.Set d.0 d.1) locals w d.2 refl
  plain_is f locals w (inr (inr (inl d))) = same_at f (form.AddTo d.0 d.1) locals w d.2 refl
  plain_is f locals w (inr (inr (inr (inl d)))) = same_at f form.Break locals w d refl
  plain_is f locals w (inr (inr (inr (inr (inl d))))) = same_at f form.Continue locals w d refl
  plain_is f locals w (inr (inr (inr (inr (inr (inl d)))))) = same_at f (form.Return d.0) locals w d.1 refl
  plain_is f locals w (inr (inr (inr (inr (inr (inr (inl d))))))) = same_at f (form.CallOf d.0) locals w d.1 refl
  plain_is f locals w (inr (inr (inr (inr (inr (inr (inr d))))))) = same_at f (form.Assert d.0) locals w d.1 refl
