-- What holds of each part of a run holds of every expression, statement and call.
use Rattle.std.proofs.Common.{◌≡◌, ℕ, zero, suc, ℤ, Bool, true, false, if◌then◌else◌, List, [], ◌∷◌, Option, Some, None, Result, Ok, Err, sum, ◌≤◌, nat_le, refl}
use Rattle.std.proofs.lemmas.Bool.{leb-true}
use Rattle.cal_base.specs.declared.ends.Cause.{Cause}
use Rattle.cal_base.specs.declared.ends.Cause.TheVariants.{Assertion, OutOfRange, TooDeep, FuelSpent, BadWidth}
use Rattle.cal_base.specs.declared.value.Val.{Val}
use Rattle.cal_base.specs.declared.value.Val.TheVariants as val
use Rattle.csl_tree.specs.declared.program.Program.{Program}
use Rattle.csl_tree.specs.declared.program.Function.{Function}
use Rattle.csl_tree.specs.declared.program.Expr.{Expr}
use Rattle.csl_tree.specs.declared.program.Node.{Node, Number, Truth, Read, Unary', Binary', Paren', Row_of-Expr, end_of-Expr, more_of-Expr}
use Rattle.csl_tree.specs.declared.program.Node as node
use Rattle.csl_tree.specs.declared.program.Place.{Place, Place', None', Some'}
use Rattle.csl_tree.specs.declared.program.Call.{Call, Call'}
use Rattle.csl_tree.specs.declared.program.Stmt.{Stmt}
use Rattle.csl_tree.specs.declared.program.Item.{Item}
use Rattle.csl_tree.specs.declared.program.Item.TheVariants as item
use Rattle.csl_tree.specs.declared.program.RoutineBlock.{RoutineBlock, RoutineBlock'}
use Rattle.csl_tree.specs.declared.program.Arm.{Arm'}
use Rattle.csl_tree.specs.declared.program.Form.{Form, Declare, Set, AddTo, If', While', For', Break, Continue, Return, CallOf, Assert, Block', Print, Par', Row_of-Arm, end_of-Arm, more_of-Arm}
use Rattle.csl_tree.specs.declared.program.Form.{Row_of-Stmt, end_of-Stmt, more_of-Stmt, Held-Form-If-1}
use Rattle.csl_tree.specs.declared.program.Form as form
use Rattle.csl_meaning.specs.declared.state.Area.{Area}
use Rattle.csl_meaning.specs.declared.state.Ending.TheVariants as ending
use Rattle.csl_meaning.specs.declared.state.World.{World}
use Rattle.csl_meaning.specs.Layout.{Text, area_of}
use Rattle.csl_meaning.specs.Locals.{Locals, local_value}
use Rattle.csl_meaning.specs.Operators.{number_in, truth_in, unary, binary, decided}
use Rattle.csl_meaning.specs.Runs.{Outcome, Run, ◌>>=◌, ◌>>◌, pure, stop, try, take_unit, word_at, put_word, raise_word}
use Rattle.csl_meaning.specs.Value.{Calls, value, read, result, boxed, values, value_of, item_at, in_range, declared, read_as_int, read_name, unless}
use Rattle.csl_meaning.specs.Effect.{Went, MainOnly, Printing, Stepping, go_on, after_body, scoped, locals_after, turn, turns, loop, assert, set_name, add_to_name, set, add_to, returned, blocks_in}
use Rattle.csl_meaning.specs.Effect.{effect, in_order, choose, otherwise, statements, step_of, nowhere, function_named, run_function, calls_to, most_levels}
use Rattle.csl_meaning.specs.Meaning.{show, pieces, widths_of, good_widths, open_step, in_main}
use Rattle.cal_base.specs.Printing.{line_of}
use Rattle.cal_base.specs.Widths.{most_routines, naturals, unless_too_many}

-- what is to hold of each run, from every world
abbrev pub Always : ((A : Type 0) → World → Outcome A → Type 0) → {A : Type 0} → Run A → Type 0
Always Holds run = (w : World) → Holds _ w (run w)

-- it holds of the parts that all runs are made of
pub record OfParts (Holds : (A : Type 0) → World → Outcome A → Type 0) : Type 1 where
  pub of_pure : (A : Type 0) (a : A) → Always Holds (pure a)
  pub of_stop : (A : Type 0) (cause : Cause) → Always Holds (stop {A = A} cause)
  pub of_then : (A B : Type 0) (run : Run A) (next : A → Run B) → Always Holds run → ((a : A) → Always Holds (next a)) → Always Holds (run >>= next)
  pub of_unit : Always Holds take_unit
  pub of_read : (address : ℕ) → Always Holds (word_at address)
  pub of_write : (address : ℕ) (number : ℤ) → Always Holds (put_word address number)
  pub of_add : (address : ℕ) (number : ℤ) → Always Holds (raise_word address number)

module _ (Holds : (A : Type 0) → World → Outcome A → Type 0) (parts : OfParts Holds) where
  gives : {A : Type 0} (a : A) → Always Holds (pure a)
  gives {A} a = parts.of_pure A a

  stops : {A : Type 0} (cause : Cause) → Always Holds (stop {A = A} cause)
  stops {A} cause = parts.of_stop A cause

  chain : {A B : Type 0} {run : Run A} {next : A → Run B} → Always Holds run → ((a : A) → Always Holds (next a)) → Always Holds (run >>= next)
  chain {A} {B} {run} {next} first rest = parts.of_then A B run next first rest

  of_result : {A : Type 0} (r : Result A Cause) → Always Holds (try r)
  of_result (Ok a) = gives a
  of_result (Err cause) = stops cause

  of_range : (address : Option ℕ) → Always Holds (in_range address)
  of_range None = stops OutOfRange
  of_range (Some address) = gives address

  of_int : (address : ℕ) → Always Holds (read_as_int address)
  of_int address = chain (parts.of_read address) (λ z. gives (val.Int z))

  of_name : (local : Option Val) (area : Area) → Always Holds (read_name local area)
  of_name (Some v) area = gives v
  of_name None area = of_int area.first

  of_unless : (decided_by : Option Val) (more : Run Val) → Always Holds more → Always Holds (unless decided_by more)
  of_unless None more h = h
  of_unless (Some v) more h = gives v

  -- the same holds of what calls do
  abbrev pub OfCalls : Calls → Type 0
  OfCalls calls = (name : Text) (given : List Val) → Always Holds (calls name given)

  module _ (p : Program) (calls : Calls) (of_calls : OfCalls calls) (locals : Locals) where
    mutual
      pub of_value : (n : Node) → Always Holds (value p calls locals n)
      of_value (Number z) = gives (val.Int z)
      of_value (Truth b) = gives (val.Truth b)
      of_value (Read place) = of_place place
      of_value (node.CallOf call) = chain (of_call call) (λ given. gives _)
      of_value (Unary' op shape a) = chain (of_box a) (λ x. of_result (unary op x))
      of_value (Binary' op shape a shape' b) =
          chain (of_box a) (λ x. of_unless (decided op x) _ (chain (of_box b) (λ y. of_result (binary op x y))))
      of_value (Paren' shape a) = of_box a

      of_place : (place : Place) → Always Holds (read p calls locals place)
      of_place (Place' name None') = of_name (local_value locals name.text) (declared (area_of p.shared name.text))
      of_place (Place' name (Some' shape i)) =
          chain (of_box i) (λ x. chain (of_range (item_at (declared (area_of p.shared name.text)) (number_in x))) of_int)

      pub of_call : (call : Call) → Always Holds (result p calls locals call)
      of_call (Call' name shape args) = chain (of_row args) (λ given. chain parts.of_unit (λ _. of_calls name.text given))

      pub of_box : {n : _} (row : Row_of-Expr n) → Always Holds (boxed p calls locals row)
      of_box end_of-Expr = gives _
      of_box (more_of-Expr at n rest) = of_value n

      of_row : {n : _} (row : Row_of-Expr n) → Always Holds (values p calls locals row)
      of_row end_of-Expr = gives []
      of_row (more_of-Expr at n rest) = chain (of_value n) (λ v. chain (of_row rest) (λ vs. gives (v ∷ vs)))

    pub of_expr : (e : Expr) → Always Holds (value_of p calls locals e)
    of_expr e = of_value e.node

  -- a test decides which of two goes on
  of_choice : {A : Type 0} (b : Bool) (first second : Run A) → Always Holds first → Always Holds second → Always Holds (if b then first else second)
  of_choice true first second h k = h
  of_choice false first second h k = k

  of_assert : (b : Bool) (locals : Locals) → Always Holds (assert b locals)
  of_assert true locals = gives (ending.Normal, locals)
  of_assert false locals = stops Assertion

  of_go_on : (went : Went) (next : Locals → Run Went) → ((l : Locals) → Always Holds (next l)) → Always Holds (go_on went next)
  of_go_on (ending.Normal, locals) next h = h locals
  of_go_on (ending.Break, locals) next h = gives _
  of_go_on (ending.Continue, locals) next h = gives _
  of_go_on (ending.Return v, locals) next h = gives _

  of_after_body : (went : Went) (again : Locals → Run Went) → ((l : Locals) → Always Holds (again l)) → Always Holds (after_body went again)
  of_after_body (ending.Normal, locals) again h = h locals
  of_after_body (ending.Continue, locals) again h = h locals
  of_after_body (ending.Break, locals) again h = gives _
  of_after_body (ending.Return v, locals) again h = gives _

  pub of_scoped : (body : Locals → Run Went) → ((l : Locals) → Always Holds (body l)) → (locals : Locals) → Always Holds (scoped body locals)
  of_scoped body h locals = chain (h locals) (λ went. gives _)

  of_locals : (run : Locals → Run Went) → ((l : Locals) → Always Holds (run l)) → (locals : Locals) → Always Holds (locals_after run locals)
  of_locals run h locals = chain (h locals) (λ went. gives _)

  module _ (test : Locals → Run Val) (body : Locals → Run Went) (next : Locals → Run Locals)
      (of_test : (l : Locals) → Always Holds (test l)) (of_body : (l : Locals) → Always Holds (body l)) (of_next : (l : Locals) → Always Holds (next l)) where
    of_turn : (again : Locals → Run Went) → ((l : Locals) → Always Holds (again l)) → (locals : Locals) → Always Holds (turn test body next again locals)
    of_turn again h locals =
        chain (of_test locals) (λ v. of_choice (truth_in v) _ _
        (chain (of_body locals) (λ went. of_after_body went (λ inner. next inner >>= again) (λ inner. chain (of_next inner) h)))
        (gives (ending.Normal, locals)))

    pub of_turns : (n : ℕ) (locals : Locals) → Always Holds (turns n test body next locals)
    of_turns zero locals = of_turn _ (λ l. stops FuelSpent) locals
    of_turns (suc n) locals = of_turn _ (λ l. chain parts.of_unit (λ _. of_turns n l)) locals

    pub of_loop : (locals : Locals) → Always Holds (loop test body next locals)
    of_loop locals w = of_turns w.fuel locals w

  of_set_name : (local : Option Val) (area : Area) (name : Text) (v : Val) (locals : Locals) → Always Holds (set_name local area name v locals)
  of_set_name (Some old) area name v locals = gives _
  of_set_name None area name v locals = chain (parts.of_write area.first (number_in v)) (λ _. gives locals)

  of_add_name : (local : Option Val) (area : Area) (name : Text) (v : Val) (locals : Locals) → Always Holds (add_to_name local area name v locals)
  of_add_name (Some old) area name v locals = chain (of_result _) (λ total. gives _)
  of_add_name None area name v locals = chain (parts.of_add area.first (number_in v)) (λ _. gives locals)

  module _ (p : Program) (calls : Calls) (of_calls : OfCalls calls) where
    of_set : (locals : Locals) (place : Place) (e : Expr) → Always Holds (set p calls locals place e)
    of_set locals (Place' name None') e = chain (of_expr p calls of_calls locals e) (λ v. of_set_name _ _ name.text v locals)
    of_set locals (Place' name (Some' shape i)) e =
        chain (of_box p calls of_calls locals i) (λ x. chain (of_expr p calls of_calls locals e) (λ v.
        chain (of_range (item_at (declared (area_of p.shared name.text)) (number_in x))) (λ address. chain (parts.of_write address (number_in v)) (λ _. gives locals))))

    of_add_to : (locals : Locals) (place : Place) (e : Expr) → Always Holds (add_to p calls locals place e)
    of_add_to locals (Place' name None') e = chain (of_expr p calls of_calls locals e) (λ v. of_add_name _ _ name.text v locals)
    of_add_to locals (Place' name (Some' shape i)) e =
        chain (of_box p calls of_calls locals i) (λ x. chain (of_expr p calls of_calls locals e) (λ v.
        chain (of_range (item_at (declared (area_of p.shared name.text)) (number_in x))) (λ address. chain (parts.of_add address (number_in v)) (λ _. gives locals))))

    of_returned : (locals : Locals) (given : Option Expr) → Always Holds (returned p calls locals given)
    of_returned locals None = gives _
    of_returned locals (Some e) = chain (of_expr p calls of_calls locals e) (λ v. gives _)

    module _ (in_main : MainOnly → Locals → Run Went) (of_main : (statement : MainOnly) (l : Locals) → Always Holds (in_main statement l)) where
      mutual
        pub of_effect : (f : Form) (locals : Locals) → Always Holds (effect p calls in_main f locals)
        of_effect (Declare ty name e) locals = chain (of_expr p calls of_calls locals e) (λ v. gives _)
        of_effect (Set place e) locals = chain (of_set locals place e) (λ after. gives _)
        of_effect (AddTo place e) locals = chain (of_add_to locals place e) (λ after. gives _)
        of_effect (If' shape arms last) locals = of_arms arms _ (of_last last) locals
        of_effect (While' test shape body) locals =
            of_loop _ _ _ (λ inner. of_expr p calls of_calls inner test) (of_scoped _ (of_in_order body)) gives locals
        of_effect (For' shape first test shape' next shape'' body) locals =
            chain (of_locals _ (of_in_order first) locals) (λ inner.
            chain (of_loop _ _ _ (λ l. of_expr p calls of_calls l test) (of_scoped _ (of_in_order body)) (of_locals _ (of_in_order next)) inner) (λ went. gives _))
        of_effect Break locals = gives _
        of_effect Continue locals = gives _
        of_effect (Return given) locals = of_returned locals given
        of_effect (form.CallOf call) locals = chain (of_call p calls of_calls locals call) (λ _. gives _)
        of_effect (Assert e) locals = chain (of_expr p calls of_calls locals e) (λ v. of_assert (truth_in v) locals)
        of_effect (Block' shape body) locals = of_scoped _ (of_in_order body) locals
        of_effect (Print items) locals = of_main (Printing items) locals
        of_effect (Par' shape blocks) locals = of_main (Stepping (blocks_in blocks)) locals

        pub of_in_order : {n : _} (row : Row_of-Stmt n) (locals : Locals) → Always Holds (in_order p calls in_main row locals)
        of_in_order end_of-Stmt locals = gives _
        of_in_order (more_of-Stmt at f rest) locals = chain (of_effect f locals) (λ went. of_go_on went _ (of_in_order rest))

        of_arms : {n : _} (row : Row_of-Arm n) (last : Locals → Run Went) → ((l : Locals) → Always Holds (last l)) → (locals : Locals) → Always Holds (choose p calls in_main row last locals)
        of_arms end_of-Arm last h locals = h locals
        of_arms (more_of-Arm (Arm' test shape body) rest) last h locals =
            chain (of_expr p calls of_calls locals test) (λ v. of_choice (truth_in v) _ _ (of_scoped _ (of_in_order body) locals) (of_arms rest last h locals))

        of_last : (last : Held-Form-If-1) (locals : Locals) → Always Holds (otherwise p calls in_main last locals)
        of_last form.None' locals = gives _
        of_last (form.Some' shape body) locals = of_scoped _ (of_in_order body) locals

      pub of_statements : (body : List Stmt) (locals : Locals) → Always Holds (statements p calls in_main body locals)
      of_statements [] locals = gives _
      of_statements (s ∷ rest) locals = chain (of_effect s.form locals) (λ went. of_go_on went _ (of_statements rest))

      pub of_step : (next : Option Stmt) (locals : Locals) → Always Holds (step_of p calls in_main next locals)
      of_step None locals = gives locals
      of_step (Some s) locals = of_locals _ (of_statements (s ∷ [])) locals

    pub of_nowhere : (statement : MainOnly) (l : Locals) → Always Holds (nowhere statement l)
    of_nowhere statement l = gives _

    of_function : (f : Option Function) (given : List Val) → Always Holds (run_function p calls f given)
    of_function None given = gives None
    of_function (Some f) given = chain (of_statements nowhere of_nowhere f.body _) (λ went. gives _)

  pub of_calls_to : (p : Program) (levels : ℕ) → OfCalls (calls_to p levels)
  unfolding calls_to
  of_calls_to p zero name given = stops TooDeep
  of_calls_to p (suc levels) name given = of_function p (calls_to p levels) (of_calls_to p levels) (function_named p.functions name) given

-- a statement that ended normally
abbrev pub ended : Locals → Run Went
ended locals = pure (ending.Normal, locals)

-- main's own parts
pub record OfMainParts (Holds : (A : Type 0) → World → Outcome A → Type 0) (p : Program) (fuel : ℕ) : Type 1 where
  pub of_show : (line : List ℕ) → Always Holds (show line)
  pub of_opening : (blocks : List RoutineBlock) (widths : List ℕ) (locals : Locals) → sum widths ≤ most_routines → Always Holds (take_unit >> (open_step p fuel blocks widths >> ended locals))

module _ (Holds : (A : Type 0) → World → Outcome A → Type 0) (parts : OfParts Holds) (p : Program) (fuel : ℕ) (main_parts : OfMainParts Holds p fuel) where
  module _ (locals : Locals) where
    of_width : (e : Expr) → Always Holds (value_of p (calls_to p most_levels) locals e)
    of_width e = of_expr Holds parts p (calls_to p most_levels) (of_calls_to Holds parts p most_levels) locals e

    of_pieces : (items : List Item) → Always Holds (pieces p (calls_to p most_levels) locals items)
    of_pieces [] = gives Holds parts []
    of_pieces (item.Text text ∷ rest) = chain Holds parts (of_pieces rest) (λ texts. gives Holds parts _)
    of_pieces (item.Value e ∷ rest) = chain Holds parts (of_width e) (λ v. chain Holds parts (of_pieces rest) (λ texts. gives Holds parts _))

    of_widths : (blocks : List RoutineBlock) → Always Holds (widths_of p (calls_to p most_levels) locals blocks)
    of_widths [] = gives Holds parts []
    of_widths (RoutineBlock' at width width_name id_name shape body ∷ rest) =
        chain Holds parts (of_width width) (λ v. chain Holds parts (of_widths rest) (λ widths. gives Holds parts _))

    of_test : (b : Bool) (blocks : List RoutineBlock) (widths : List ℕ) → nat_le (sum widths) most_routines ≡ b
        → Always Holds (good_widths (if b then Some widths else None) >>= (λ ns. take_unit >> (open_step p fuel blocks ns >> ended locals)))
    of_test true blocks widths e = main_parts.of_opening blocks widths locals (leb-true (sum widths) most_routines e)
    of_test false blocks widths e = parts.of_stop _ BadWidth

    of_good : (widths : Option (List ℕ)) (blocks : List RoutineBlock) → Always Holds (good_widths (unless_too_many widths) >>= (λ ns. take_unit >> (open_step p fuel blocks ns >> ended locals)))
    of_good None blocks = parts.of_stop _ BadWidth
    of_good (Some widths) blocks = of_test (nat_le (sum widths) most_routines) blocks widths refl

  pub of_in_main : (statement : MainOnly) (locals : Locals) → Always Holds (in_main p fuel statement locals)
  of_in_main (Printing items) locals = chain Holds parts (of_pieces locals items) (λ texts. chain Holds parts (main_parts.of_show (line_of texts)) (λ _. gives Holds parts (ending.Normal, locals)))
  of_in_main (Stepping blocks) locals = chain Holds parts (of_widths locals blocks) (λ numbers. of_good locals (naturals numbers) blocks)
