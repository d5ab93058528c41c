-- What a statement does, and what a call of a function does.
use Rattle.std.specs.Prelude.{ℕ, zero, suc, ◌+ℤ◌, Bool, true, false, if◌then◌else◌, List, [], ◌∷◌, Option, Some, None, length, map, take}
use Rattle.std.specs.Str.{bytes_eq}
use Rattle.cal_base.specs.declared.ends.Cause.TheVariants.{Assertion, TooDeep, FuelSpent}
use Rattle.cal_base.specs.declared.value.Val.{Val}
use Rattle.cal_base.specs.Arithmetic.{checked}
use Rattle.csl_tree.specs.declared.program.Program.{Program}
use Rattle.csl_tree.specs.declared.program.Function.{Function}
use Rattle.csl_tree.specs.declared.program.Expr.{Expr}
use Rattle.csl_tree.specs.declared.program.Place.{Place, Place', None', Some'}
use Rattle.csl_tree.specs.declared.program.Item.{Item}
use Rattle.csl_tree.specs.declared.program.Stmt.{Stmt}
use Rattle.csl_tree.specs.declared.program.Arm.{Arm'}
use Rattle.csl_tree.specs.declared.program.RoutineBlock.{RoutineBlock}
use Rattle.csl_tree.specs.declared.program.Form.{Form, Declare, Set, AddTo, If', While', For', Break, Continue, Return, CallOf, Assert}
use Rattle.csl_tree.specs.declared.program.Form.{Block', Print, Par', Row_of-Arm, end_of-Arm, more_of-Arm, Row_of-Stmt, end_of-Stmt}
use Rattle.csl_tree.specs.declared.program.Form.{more_of-Stmt, Held-Form-If-1, Row_of-RoutineBlock, end_of-RoutineBlock}
use Rattle.csl_tree.specs.declared.program.Form.{more_of-RoutineBlock}
use Rattle.csl_tree.specs.declared.program.Form as form
use Rattle.csl_meaning.specs.declared.state.Area.{Area}
use Rattle.csl_meaning.specs.declared.state.Ending.{Ending}
use Rattle.csl_meaning.specs.declared.state.Ending.TheVariants as ending
use Rattle.csl_meaning.specs.Layout.{Text, area_of}
use Rattle.csl_meaning.specs.Locals.{Locals, declare, local_value, set_local, bound}
use Rattle.csl_meaning.specs.Operators.{number_in, truth_in, as_int}
use Rattle.csl_meaning.specs.Runs.{Run, ◌>>=◌, ◌>>◌, pure, stop, try, take_unit, put_word, raise_word}
use Rattle.csl_meaning.specs.Value.{Calls, item_at, in_range, declared, value_of, boxed, result}

-- how a statement ended, and the locals after it
abbrev pub Went : Type 0
Went = Ending × Locals

-- the statements that stand in main alone
pub data MainOnly : Type 0 where
  Printing : List Item → MainOnly
  Stepping : List RoutineBlock → MainOnly

-- goes on after a statement that ended normally
abbrev pub go_on : Went → (Locals → Run Went) → Run Went
go_on (ending.Normal, locals) next = next locals
go_on (ending.Break, locals) next = pure (ending.Break, locals)
go_on (ending.Continue, locals) next = pure (ending.Continue, locals)
go_on (ending.Return v, locals) next = pure (ending.Return v, locals)

-- after a loop's body: back to the head, or out of the loop
abbrev pub after_body : Went → (Locals → Run Went) → Run Went
after_body (ending.Normal, locals) again = again locals
after_body (ending.Continue, locals) again = again locals
after_body (ending.Break, locals) again = pure (ending.Normal, locals)
after_body (ending.Return v, locals) again = pure (ending.Return v, locals)

-- the first locals, this many
abbrev pub leave : ℕ → Went → Went
leave n (e, locals) = (e, take n locals)

-- a block: the locals that were there before it are there after it, and no others
abbrev pub scoped : (Locals → Run Went) → Locals → Run Went
scoped body locals = do
  went ← body locals
  pure (leave (length locals) went)

-- the locals after a statement that ends normally, as the step statement of a `for`
abbrev pub locals_after : (Locals → Run Went) → Locals → Run Locals
locals_after run locals = do
  (_, after) ← run locals
  pure after

-- a loop from its test to its return to the head, where `next` is the step statement of a `for`
abbrev pub turn : (Locals → Run Val) → (Locals → Run Went) → (Locals → Run Locals) → (Locals → Run Went) → Locals → Run Went
turn test body next again locals = do
  v ← test locals
  if truth_in v
      then (do went ← body locals; after_body went (λ inner. next inner >>= again))
      else pure (ending.Normal, locals)

-- a loop with at most this many returns to its head; each takes one unit of fuel
abbrev pub turns : ℕ → (Locals → Run Val) → (Locals → Run Went) → (Locals → Run Locals) → Locals → Run Went
turns zero test body next = turn test body next (λ _. stop FuelSpent)
turns (suc n) test body next = turn test body next (λ locals. take_unit >> turns n test body next locals)

-- a loop: there are no more returns to its head than units of fuel as it begins
abbrev pub loop : (Locals → Run Val) → (Locals → Run Went) → (Locals → Run Locals) → Locals → Run Went
loop test body next locals = λ w. turns w.fuel test body next locals w

-- goes on where the value is true, and else traps
abbrev pub assert : Bool → Locals → Run Went
assert true locals = pure (ending.Normal, locals)
assert false locals = stop Assertion

-- the locals after a write to a name: it is a local, else a shared word
abbrev pub set_name : Option Val → Area → Text → Val → Locals → Run Locals
set_name (Some old) area name v locals = pure (set_local locals name v)
set_name None area name v locals = do
  put_word area.first (number_in v)
  pure locals

-- the locals after an adding to a name
abbrev pub add_to_name : Option Val → Area → Text → Val → Locals → Run Locals
add_to_name (Some old) area name v locals = do
  sum ← try (as_int (checked (number_in old +ℤ number_in v)))
  pure (set_local locals name sum)
add_to_name None area name v locals = do
  raise_word area.first (number_in v)
  pure locals

module _ (p : Program) (calls : Calls) where
  -- `x = e` evaluates e and writes; `a[i] = e` evaluates i, then e, tests the range, then writes
  abbrev pub set : Locals → Place → Expr → Run Locals
  set locals (Place' name None') e = do
    v ← value_of p calls locals e
    set_name (local_value locals name.text) (declared (area_of p.shared name.text)) name.text v locals
  set locals (Place' name (Some' shape i)) e = do
    x ← boxed p calls locals i
    v ← value_of p calls locals e
    address ← in_range (item_at (declared (area_of p.shared name.text)) (number_in x))
    put_word address (number_in v)
    pure locals

  -- `x += e` evaluates e, then reads, adds and writes; `a[i] += e` evaluates i, then e, tests the range, then does so
  abbrev pub add_to : Locals → Place → Expr → Run Locals
  add_to locals (Place' name None') e = do
    v ← value_of p calls locals e
    add_to_name (local_value locals name.text) (declared (area_of p.shared name.text)) name.text v locals
  add_to locals (Place' name (Some' shape i)) e = do
    x ← boxed p calls locals i
    v ← value_of p calls locals e
    address ← in_range (item_at (declared (area_of p.shared name.text)) (number_in x))
    raise_word address (number_in v)
    pure locals

  -- `return` with a value or with nothing
  abbrev pub returned : Locals → Option Expr → Run Went
  returned locals None = pure (ending.Return None, locals)
  returned locals (Some e) = do
    v ← value_of p calls locals e
    pure (ending.Return (Some v), locals)

-- the routine blocks of a step, as a list
abbrev pub blocks_in : {n : _} → Row_of-RoutineBlock n → List RoutineBlock
blocks_in end_of-RoutineBlock = []
blocks_in (more_of-RoutineBlock b rest) = b ∷ blocks_in rest

-- the statements, where `in_main` says what those of main alone do
module _ (p : Program) (calls : Calls) (in_main : MainOnly → Locals → Run Went) where
  abbrev mutual
    -- what a statement does
    pub effect : Form → Locals → Run Went
    effect (Declare ty name e) locals = do
      v ← value_of p calls locals e
      pure (ending.Normal, declare locals name.text v)
    effect (Set place e) locals = do
      after ← set p calls locals place e
      pure (ending.Normal, after)
    effect (AddTo place e) locals = do
      after ← add_to p calls locals place e
      pure (ending.Normal, after)
    effect (If' shape arms last) locals = choose arms (otherwise last) locals
    effect (While' test shape body) locals =
        loop (λ inner. value_of p calls inner test) (scoped (in_order body)) pure locals
    effect (For' shape first test shape' next shape'' body) locals = do
      inner ← locals_after (in_order first) locals
      went ← loop (λ l. value_of p calls l test) (scoped (in_order body)) (locals_after (in_order next)) inner
      pure (leave (length locals) went)
    effect Break locals = pure (ending.Break, locals)
    effect Continue locals = pure (ending.Continue, locals)
    effect (Return given) locals = returned p calls locals given
    effect (CallOf call) locals = do
      _ ← result p calls locals call
      pure (ending.Normal, locals)
    effect (Assert e) locals = do
      v ← value_of p calls locals e
      assert (truth_in v) locals
    effect (Block' shape body) locals = scoped (in_order body) locals
    effect (Print items) locals = in_main (Printing items) locals
    effect (Par' shape blocks) locals = in_main (Stepping (blocks_in blocks)) locals

    -- one statement after the other, until one does not end normally
    pub in_order : {n : _} → Row_of-Stmt n → Locals → Run Went
    in_order end_of-Stmt locals = pure (ending.Normal, locals)
    in_order (more_of-Stmt at form rest) locals = do
      went ← effect form locals
      go_on went (in_order rest)

    -- the first arm whose test is true, else the last block
    pub choose : {n : _} → Row_of-Arm n → (Locals → Run Went) → Locals → Run Went
    choose end_of-Arm last locals = last locals
    choose (more_of-Arm (Arm' test shape body) rest) last locals = do
      v ← value_of p calls locals test
      if truth_in v then scoped (in_order body) locals else choose rest last locals

    -- the last block of an `if`, if it has one
    pub otherwise : Held-Form-If-1 → Locals → Run Went
    otherwise form.None' locals = pure (ending.Normal, locals)
    otherwise (form.Some' shape body) locals = scoped (in_order body) locals

  -- a body's statements, one after the other
  abbrev pub statements : List Stmt → Locals → Run Went
  statements [] locals = pure (ending.Normal, locals)
  statements (s ∷ rest) locals = do
    went ← effect s.form locals
    go_on went (statements rest)

  -- the step statement of a loop: none in a `while`
  abbrev pub step_of : Option Stmt → Locals → Run Locals
  step_of None locals = pure locals
  step_of (Some s) locals = locals_after (statements (s ∷ [])) locals

-- in a function or a routine an accepted program has none of main's statements
abbrev pub nowhere : MainOnly → Locals → Run Went
nowhere statement locals = pure (ending.Normal, locals)

-- what a body gave back
abbrev pub given_back : Ending → Option Val
given_back (ending.Return v) = v
given_back ending.Normal = None
given_back ending.Break = None
given_back ending.Continue = None

-- the function with this name, if there is one
abbrev pub function_named : List Function → Text → Option Function
function_named [] name = None
function_named (f ∷ rest) name = if bytes_eq f.name.text name then Some f else function_named rest name

-- a function's body with its arguments, where its own calls go by `calls`
abbrev pub run_function : Program → Calls → Option Function → List Val → Run (Option Val)
run_function p calls None given = pure None
run_function p calls (Some f) given = do
  (end, _) ← statements p calls nowhere f.body (bound (map (λ q. q.name.text) f.params) given)
  pure (given_back end)

-- a call, where calls may nest this many levels deeper
unfoldable pub calls_to : Program → ℕ → Calls
calls_to p zero = λ name given. stop TooDeep
calls_to p (suc levels) = λ name given. run_function p (calls_to p levels) (function_named p.functions name) given

-- how deep calls nest: main and routines have depth 0, a call's body has one more than its caller, and a call at depth 64 is too deep
abbrev pub most_levels : ℕ
most_levels = 64
