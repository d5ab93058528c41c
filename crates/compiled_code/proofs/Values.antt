-- The code of an expression gives its value.
use Rattle.std.proofs.Common.{◌≡◌, ℕ, zero, suc, ◌+◌, Bool, true, false, not, if◌then◌else◌, List, [], ◌∷◌, ◌++◌, length, take, reverse, Option, Some, None, Result, Ok, Err, refl, sym, ap, ◌∙◌, subst}
use Rattle.std.proofs.Common.{arith}
use Rattle.std.specs.Prelude.{ℤ, ◌+ℤ◌, ◌-ℤ◌, ◌*ℤ◌, neg_ℤ, int_lt, int_le, nat_lt, slice_get, unwrap_or, ◌==◌}
use Rattle.std.proofs.lemmas.Bool.{ne_eqb, eq-eqb}
use Rattle.cal_base.specs.declared.ends.Cause.{Cause}
use Rattle.cal_base.specs.declared.ends.Cause.TheVariants as cause
use Rattle.cal_base.specs.declared.value.Val.{Val}
use Rattle.cal_base.specs.declared.value.Val.TheVariants as val
use Rattle.cal_base.specs.Arithmetic.{checked, quotient, remainder}
use Rattle.cal_base.specs.Stores.{memory_in, read_word}
use Rattle.csl_tree.specs.declared.program.Program.{Program}
use Rattle.csl_tree.specs.declared.program.Function.{Function}
use Rattle.cal_terms.specs.declared.types.Gives.{Gives as Result'}
use Rattle.cal_terms.specs.declared.types.Gives.TheVariants as gives
use Rattle.csl_tree.specs.declared.program.UnaryOp.{UnaryOp}
use Rattle.csl_tree.specs.declared.program.UnaryOp.TheVariants.{Neg, Not}
use Rattle.csl_tree.specs.declared.program.BinaryOp.{BinaryOp}
use Rattle.csl_tree.specs.declared.program.BinaryOp.TheVariants.{Add, Sub, Mul, Div, Rem, Eq, Ne, Lt, Le, Gt, Ge, And, Or}
use Rattle.csl_tree.specs.declared.program.Node.{Node, Number, Truth, Read, Unary', Binary', Paren', Row_of-Expr, end_of-Expr, more_of-Expr}
use Rattle.csl_tree.specs.declared.program.Node as node
use Rattle.csl_tree.specs.declared.program.Place.{Place, Place', None', Some'}
use Rattle.csl_tree.specs.declared.program.Call.{Call as Call', Call' as call_of}
use Rattle.csl_meaning.specs.declared.state.World.{World}
use Rattle.csl_meaning.specs.declared.state.Area.{Area}
use Rattle.csl_meaning.specs.Layout.{Text, area_of}
use Rattle.csl_meaning.specs.Locals.{Locals, local_value}
use Rattle.csl_meaning.specs.Operators.{number_in, same_value, as_int, unary, decided, binary}
use Rattle.csl_meaning.specs.Runs.{Outcome, Gives, Run, and_then, ◌>>=◌, ◌>>◌, pure, try, spend, take_unit}
use Rattle.csl_meaning.specs.Value.{no_value, item_at, in_range, declared, read_as_int, read_name, unless, value, read, result, boxed, values}
use Rattle.csl_meaning.specs.Effect.{function_named, calls_to}
use Rattle.bytecode.specs.declared.instr.Instr.{Instr}
use Rattle.bytecode.specs.declared.instr.Instr.TheVariants as i
use Rattle.bytecode.specs.declared.module.Code.{Code}
use Rattle.code_verify.specs.Rules.{IsVerified}
use Rattle.machine_meaning.specs.Machine as machine
use Rattle.machine_meaning.specs.Machine.{Call, State, Next, On, Traps, begun, on_with, at_target, may_use, using, at_item, number, numbers, equal, pushes, split, spends, enters, step, next}
use Rattle.compiled_code.specs.Slots.{Slot, Slots, slot_of}
use Rattle.compiled_code.specs.Sizes.{value_size, boxed_size, place_size, values_size, call_size, given_by}
use Rattle.compiled_code.specs.Values.{truth_instr, read_instr, item_instr, function_number, binary_instr, binary_code, value_code, read_code, call_code, boxed_code, values_code}
use Rattle.compiled_code.specs.Modules.{function_code, module_of}
use Rattle.compiled_code.specs.Shape.{count, HasCount, HasValue, ValueIs, PlaceIs, CallIs, BoxedIs, ValuesAre}
use Rattle.compiled_code.proofs.Does.{HasKinds, Sound, Does, then_does, step_does, trap_does, no_step}
use Rattle.machine_meaning.proofs.Composes.{here}
use Rattle.compiled_code.proofs.Pieces.{Holds, front, back}
use Rattle.compiled_code.proofs.Frames.{Agree, Named, no_local, a_local, named}
use Rattle.compiled_code.proofs.Lengths.{both, boxed_length, value_length, values_length}
use Rattle.compiled_code.proofs.Operands.{pushed, arguments_split, parameters_length, numbered, not_numbered, item_same}

-- what a call gave, as operands
abbrev pub listed : Option Val → List Val
listed None = []
listed (Some v) = v ∷ []

-- a function gives a value just where it has a result
abbrev pub IsGiven : Result' → Option Val → Type 0
IsGiven gives.Nothing None = Unit {0}
IsGiven gives.Nothing (Some v) = ⊥
IsGiven gives.Int None = ⊥
IsGiven gives.Int (Some v) = Unit {0}
IsGiven gives.Bool None = ⊥
IsGiven gives.Bool (Some v) = Unit {0}

module _ (p : Program) (ok : IsVerified (module_of p)) (r : Bool) (whole : ℕ) where
  -- a function's body begins, above a call that waits
  abbrev pub entered : Function → List Val → Call → List Call → World → State
  entered f given caller callers w = record { call = begun (function_code p f) given; callers = caller ∷ callers; store = w.store; fuel = w.fuel }

  -- where calls may nest this many levels deeper, the code of a function does what the function does
  abbrev pub CallsDo : ℕ → Type 0
  CallsDo zero = Unit {0}
  CallsDo (suc levels) =
      (name : Text) (f : Function) (given : List Val) (caller : Call) (callers : List Call) (w : World)
      → function_named p.functions name ≡ Some f → length given ≡ length f.params → length callers + suc levels ≡ 64 → Sound p ok r whole (entered f given caller callers w)
      → Does p ok r whole (λ back u s'. (s' ≡ record { call = record caller { operands = listed back ++ caller.operands }; callers = callers; store = u.store; fuel = u.fuel }) × IsGiven f.gives back)
      (calls_to p (suc levels) name given w) (entered f given caller callers w)

  -- an instruction at its place
  pub at_instr : (s : State) (instr : Instr) → slice_get s.call.code.instrs s.call.place ≡ Some instr → next (module_of p) s ≡ step (module_of p) instr s
  at_instr s instr h = ap (λ (o : Option Instr). machine.◌>>=◌ o (λ x. step (module_of p) x s)) h

  -- from a state that is known
  pub from : {A : Type 0} (Post : A → World → State → Type 0) (o : Outcome A) (s t : State) → s ≡ t → Sound p ok r whole s → (Sound p ok r whole t → Does p ok r whole Post o t)
      → Does p ok r whole Post o s
  from Post o s t e sound go = subst (λ (x : State). Does p ok r whole Post o x) (sym e) (go (subst (λ (x : State). Sound p ok r whole x) e sound))

  module _ (c : Code) (ml : List Val) (callers : List Call) where
    -- a state of the body at a place, with these operands
    abbrev pub mk : ℕ → List Val → World → State
    mk place ops w = record { call = record { code = c; place = place; locals = ml; operands = ops }; callers = callers; store = w.store; fuel = w.fuel }

    -- a value lies on top at this place
    abbrev pub Left : ℕ → List Val → Val → World → State → Type 0
    Left place ops v u s' = s' ≡ mk place (v ∷ ops) u

    -- one step that gives something
    pub gives_one : {A : Type 0} (Post : A → World → State → Type 0) (a : A) (s s' : State) (w : World) → Sound p ok r whole s → next (module_of p) s ≡ Some (On s') → HasKinds p (memory_in s'.store)
        → Post a w s' → Does p ok r whole Post (Gives a w) s
    gives_one Post a s s' w sound e kinds post = step_does p ok r whole Post (Gives a w) s s' sound e kinds (λ sound'. (s', here (module_of p) s', sound', post))

    at_place : (a b : ℕ) (ops : List Val) (o : Outcome Val) (s : State) → a ≡ b → Does p ok r whole (Left a ops) o s → Does p ok r whole (Left b ops) o s
    at_place a b ops o s e does = subst (λ (n : ℕ). Does p ok r whole (Left n ops) o s) e does

    -- ---- single instructions

    constant : (v : Val) (instr : Instr) (at : ℕ) (ops : List Val) (w : World) → Sound p ok r whole (mk at ops w) → slice_get c.instrs at ≡ Some instr
        → ((s : State) → step (module_of p) instr s ≡ Some (On (on_with s (v ∷ s.call.operands)))) → Does p ok r whole (Left (at + 1) ops) (Gives v w) (mk at ops w)
    constant v instr at ops w sound h is = gives_one (Left (at + 1) ops) v (mk at ops w) (mk (at + 1) (v ∷ ops) w) w sound (at_instr (mk at ops w) instr h ∙ is (mk at ops w)) sound.kinds refl

    truth_does : (b : Bool) (at : ℕ) (ops : List Val) (w : World) → Sound p ok r whole (mk at ops w) → slice_get c.instrs at ≡ Some (truth_instr b)
        → Does p ok r whole (Left (at + 1) ops) (Gives (val.Truth b) w) (mk at ops w)
    truth_does true at ops w sound h = constant (val.Truth true) i.True at ops w sound h (λ s. refl)
    truth_does false at ops w sound h = constant (val.Truth false) i.False at ops w sound h (λ s. refl)

    -- a word that may be read
    word_does : (a : ℕ) (under ops : List Val) (at : ℕ) (w : World) → Sound p ok r whole (mk at under w)
        → next (module_of p) (mk at under w) ≡ using (module_of p) (mk at under w) a (On (on_with (mk at under w) (val.Int (read_word w.store a) ∷ ops)))
        → Does p ok r whole (Left (at + 1) ops) (read_as_int a w) (mk at under w)
    word_does a under ops at w sound e = by (may_use (module_of p) w.store a) e
      where
        by : (b : Bool) → next (module_of p) (mk at under w) ≡ (if b then Some (On (on_with (mk at under w) (val.Int (read_word w.store a) ∷ ops))) else None)
            → Does p ok r whole (Left (at + 1) ops) (read_as_int a w) (mk at under w)
        by true e' = gives_one (Left (at + 1) ops) (val.Int (read_word w.store a)) (mk at under w) (mk (at + 1) (val.Int (read_word w.store a) ∷ ops) w) w sound e' sound.kinds refl
        by false e' = no_step p ok r whole (mk at under w) sound e'

    -- a name that is read
    name_does : (slot : Option Slot) (local : Option Val) → Named ml slot local → (area : Area) (at : ℕ) (ops : List Val) (w : World) → Sound p ok r whole (mk at ops w)
        → slice_get c.instrs at ≡ Some (read_instr slot area)
        → Does p ok r whole (Left (at + 1) ops) (read_name local area w) (mk at ops w)
    name_does slot local no_local area at ops w sound h = word_does area.first ops ops at w sound (at_instr (mk at ops w) (i.Word area.first) h)
    name_does slot local (a_local s v is) area at ops w sound h =
        gives_one (Left (at + 1) ops) v (mk at ops w) (mk (at + 1) (v ∷ ops) w) w sound
        (at_instr (mk at ops w) (i.Load s.number) h ∙ ap (λ (o : Option Val). machine.◌>>=◌ o (λ x. Some (On (on_with (mk at ops w) (x ∷ ops))))) is) sound.kinds refl

    -- an item of an array, whose index lies on top
    item_does : (area : Area) (x : Val) (at : ℕ) (ops : List Val) (w : World) → Sound p ok r whole (mk at (x ∷ ops) w) → slice_get c.instrs at ≡ Some (item_instr area)
        → Does p ok r whole (Left (at + 1) ops) ((in_range (item_at area (number_in x)) >>= read_as_int) w) (mk at (x ∷ ops) w)
    item_does area (val.Truth b) at ops w sound h = no_step p ok r whole (mk at (val.Truth b ∷ ops) w) sound (at_instr (mk at (val.Truth b ∷ ops) w) (item_instr area) h)
    item_does area (val.Int z) at ops w sound h =
        by (nat_lt (module_of p).words (area.first + unwrap_or area.items 0)) (item_at area z)
        (at_instr (mk at (val.Int z ∷ ops) w) (item_instr area) h
        ∙ ap (λ (o : Option ℕ). if nat_lt (module_of p).words (area.first + unwrap_or area.items 0) then None else at_item (module_of p) (mk at (val.Int z ∷ ops) w) o
        (λ a. On (on_with (mk at (val.Int z ∷ ops) w) (val.Int (read_word w.store a) ∷ ops)))) (item_same area z))
      where
        by : (b : Bool) (o : Option ℕ) → next (module_of p) (mk at (val.Int z ∷ ops) w) ≡ (if b then None else at_item (module_of p) (mk at (val.Int z ∷ ops) w) o
            (λ a. On (on_with (mk at (val.Int z ∷ ops) w) (val.Int (read_word w.store a) ∷ ops))))
            → Does p ok r whole (Left (at + 1) ops) ((in_range o >>= read_as_int) w) (mk at (val.Int z ∷ ops) w)
        by true o e = no_step p ok r whole (mk at (val.Int z ∷ ops) w) sound e
        by false None e = trap_does p ok r whole (Left (at + 1) ops) cause.OutOfRange w (mk at (val.Int z ∷ ops) w) e
        by false (Some a) e = word_does a (val.Int z ∷ ops) ops at w sound e

    -- a number, or a trap
    number_does : (res : Result ℤ Cause) (under ops : List Val) (at : ℕ) (w : World) → Sound p ok r whole (mk at under w) → next (module_of p) (mk at under w) ≡ Some (pushes (mk at under w) ops res)
        → Does p ok r whole (Left (at + 1) ops) (try (as_int res) w) (mk at under w)
    number_does (Ok z) under ops at w sound e = gives_one (Left (at + 1) ops) (val.Int z) (mk at under w) (mk (at + 1) (val.Int z ∷ ops) w) w sound e sound.kinds refl
    number_does (Err met) under ops at w sound e = trap_does p ok r whole (Left (at + 1) ops) met w (mk at under w) e

    unary_does : (op : UnaryOp) (x : Val) (at : ℕ) (ops : List Val) (w : World) → Sound p ok r whole (mk at (x ∷ ops) w)
        → slice_get c.instrs at ≡ Some (Rattle.compiled_code.specs.Values.unary_instr op)
        → Does p ok r whole (Left (at + 1) ops) (try (unary op x) w) (mk at (x ∷ ops) w)
    unary_does Neg (val.Int z) at ops w sound h = number_does (checked (neg_ℤ z)) (val.Int z ∷ ops) ops at w sound (at_instr (mk at (val.Int z ∷ ops) w) i.Neg h)
    unary_does Neg (val.Truth b) at ops w sound h = no_step p ok r whole (mk at (val.Truth b ∷ ops) w) sound (at_instr (mk at (val.Truth b ∷ ops) w) i.Neg h)
    unary_does Not (val.Int z) at ops w sound h = no_step p ok r whole (mk at (val.Int z ∷ ops) w) sound (at_instr (mk at (val.Int z ∷ ops) w) i.Not h)
    unary_does Not (val.Truth b) at ops w sound h =
        gives_one (Left (at + 1) ops) (val.Truth (not b)) (mk at (val.Truth b ∷ ops) w) (mk (at + 1) (val.Truth (not b) ∷ ops) w) w sound (at_instr (mk at (val.Truth b ∷ ops) w) i.Not h) sound.kinds
        refl

    -- two numbers and an operator that gives a number, or traps
    sums : (f : ℤ → ℤ → Result ℤ Cause) (x y : Val) (at : ℕ) (ops : List Val) (w : World) → Sound p ok r whole (mk at (y ∷ x ∷ ops) w)
        → next (module_of p) (mk at (y ∷ x ∷ ops) w) ≡ machine.◌>>=◌ (numbers (y ∷ x ∷ ops)) (λ t. Some (pushes (mk at (y ∷ x ∷ ops) w) t.2 (f t.0 t.1)))
        → Does p ok r whole (Left (at + 1) ops) (try (as_int (f (number_in x) (number_in y))) w) (mk at (y ∷ x ∷ ops) w)
    sums f (val.Int a) (val.Int b) at ops w sound e = number_does (f a b) (val.Int b ∷ val.Int a ∷ ops) ops at w sound e
    sums f (val.Truth a) (val.Int b) at ops w sound e = no_step p ok r whole (mk at (val.Int b ∷ val.Truth a ∷ ops) w) sound e
    sums f (val.Int a) (val.Truth b) at ops w sound e = no_step p ok r whole (mk at (val.Truth b ∷ val.Int a ∷ ops) w) sound e
    sums f (val.Truth a) (val.Truth b) at ops w sound e = no_step p ok r whole (mk at (val.Truth b ∷ val.Truth a ∷ ops) w) sound e

    -- two numbers that are compared
    compares : (f : ℤ → ℤ → Bool) (x y : Val) (at : ℕ) (ops : List Val) (w : World) → Sound p ok r whole (mk at (y ∷ x ∷ ops) w)
        → next (module_of p) (mk at (y ∷ x ∷ ops) w) ≡ machine.◌>>=◌ (numbers (y ∷ x ∷ ops)) (λ t. Some (On (on_with (mk at (y ∷ x ∷ ops) w) (val.Truth (f t.0 t.1) ∷ t.2))))
        → Does p ok r whole (Left (at + 1) ops) (Gives (val.Truth (f (number_in x) (number_in y))) w) (mk at (y ∷ x ∷ ops) w)
    compares f (val.Int a) (val.Int b) at ops w sound e =
        gives_one (Left (at + 1) ops) (val.Truth (f a b)) (mk at (val.Int b ∷ val.Int a ∷ ops) w) (mk (at + 1) (val.Truth (f a b) ∷ ops) w) w sound e sound.kinds refl
    compares f (val.Truth a) (val.Int b) at ops w sound e = no_step p ok r whole (mk at (val.Int b ∷ val.Truth a ∷ ops) w) sound e
    compares f (val.Int a) (val.Truth b) at ops w sound e = no_step p ok r whole (mk at (val.Truth b ∷ val.Int a ∷ ops) w) sound e
    compares f (val.Truth a) (val.Truth b) at ops w sound e = no_step p ok r whole (mk at (val.Truth b ∷ val.Truth a ∷ ops) w) sound e

    -- two values of one kind that are the same or not
    equals : (g : Bool → Bool) (x y : Val) (at : ℕ) (ops : List Val) (w : World) → Sound p ok r whole (mk at (y ∷ x ∷ ops) w)
        → next (module_of p) (mk at (y ∷ x ∷ ops) w) ≡ machine.◌>>=◌ (equal (y ∷ x ∷ ops)) (λ t. Some (On (on_with (mk at (y ∷ x ∷ ops) w) (val.Truth (g t.0) ∷ t.1))))
        → Does p ok r whole (Left (at + 1) ops) (Gives (val.Truth (g (same_value x y))) w) (mk at (y ∷ x ∷ ops) w)
    equals g (val.Int a) (val.Int b) at ops w sound e =
        gives_one (Left (at + 1) ops) (val.Truth (g (same_value (val.Int a) (val.Int b)))) (mk at (val.Int b ∷ val.Int a ∷ ops) w)
        (mk (at + 1) (val.Truth (g (same_value (val.Int a) (val.Int b))) ∷ ops) w) w sound e sound.kinds refl
    equals g (val.Truth true) (val.Truth b) at ops w sound e =
        gives_one (Left (at + 1) ops) (val.Truth (g b)) (mk at (val.Truth b ∷ val.Truth true ∷ ops) w) (mk (at + 1) (val.Truth (g b) ∷ ops) w) w sound e sound.kinds refl
    equals g (val.Truth false) (val.Truth b) at ops w sound e =
        gives_one (Left (at + 1) ops) (val.Truth (g (not b))) (mk at (val.Truth b ∷ val.Truth false ∷ ops) w) (mk (at + 1) (val.Truth (g (not b)) ∷ ops) w) w sound e sound.kinds refl
    equals g (val.Truth a) (val.Int b) at ops w sound e = no_step p ok r whole (mk at (val.Int b ∷ val.Truth a ∷ ops) w) sound e
    equals g (val.Int a) (val.Truth b) at ops w sound e = no_step p ok r whole (mk at (val.Truth b ∷ val.Int a ∷ ops) w) sound e

    -- an operator that takes both operands
    abbrev IsStrict : BinaryOp → Type 0
    IsStrict And = ⊥
    IsStrict Or = ⊥
    IsStrict _ = Unit {0}

    strict_does : (op : BinaryOp) → IsStrict op → (x y : Val) (at : ℕ) (ops : List Val) (w : World) → Sound p ok r whole (mk at (y ∷ x ∷ ops) w) → slice_get c.instrs at ≡ Some (binary_instr op)
        → Does p ok r whole (Left (at + 1) ops) (try (binary op x y) w) (mk at (y ∷ x ∷ ops) w)
    strict_does Add s x y at ops w sound h = sums (λ a b. checked (a +ℤ b)) x y at ops w sound (at_instr (mk at (y ∷ x ∷ ops) w) i.Add h)
    strict_does Sub s x y at ops w sound h = sums (λ a b. checked (a -ℤ b)) x y at ops w sound (at_instr (mk at (y ∷ x ∷ ops) w) i.Sub h)
    strict_does Mul s x y at ops w sound h = sums (λ a b. checked (a *ℤ b)) x y at ops w sound (at_instr (mk at (y ∷ x ∷ ops) w) i.Mul h)
    strict_does Div s x y at ops w sound h = sums quotient x y at ops w sound (at_instr (mk at (y ∷ x ∷ ops) w) i.Div h)
    strict_does Rem s x y at ops w sound h = sums remainder x y at ops w sound (at_instr (mk at (y ∷ x ∷ ops) w) i.Rem h)
    strict_does Eq s x y at ops w sound h = equals (λ b. b) x y at ops w sound (at_instr (mk at (y ∷ x ∷ ops) w) i.Eq h)
    strict_does Ne s x y at ops w sound h = equals not x y at ops w sound (at_instr (mk at (y ∷ x ∷ ops) w) i.Ne h)
    strict_does Lt s x y at ops w sound h = compares (λ a b. int_lt a b) x y at ops w sound (at_instr (mk at (y ∷ x ∷ ops) w) i.Lt h)
    strict_does Le s x y at ops w sound h = compares (λ a b. int_le a b) x y at ops w sound (at_instr (mk at (y ∷ x ∷ ops) w) i.Le h)
    strict_does Gt s x y at ops w sound h = compares (λ a b. int_lt b a) x y at ops w sound (at_instr (mk at (y ∷ x ∷ ops) w) i.Gt h)
    strict_does Ge s x y at ops w sound h = compares (λ a b. int_le b a) x y at ops w sound (at_instr (mk at (y ∷ x ∷ ops) w) i.Ge h)
    strict_does And s x y at ops w sound h = absurd s
    strict_does Or s x y at ops w sound h = absurd s

    -- ---- the operators behind the code of both operands

    module _ (at n k : ℕ) (left : List Instr) (right : ℕ → List Instr) (ops : List Val) (w : World) (a b : Run Val)
        (left_long : length left ≡ n) (right_long : (there : ℕ) → length (right there) ≡ k)
        (left_does : Holds c.instrs at left → Does p ok r whole (Left (at + n) ops) (a w) (mk at ops w))
        (right_does : (there : ℕ) (under : List Val) (u : World) → Sound p ok r whole (mk there under u) → Holds c.instrs there (right there)
        → Does p ok r whole (Left (there + k) under) (b u) (mk there under u)) where
      strict_code : (op : BinaryOp) → IsStrict op → Holds c.instrs at (left ++ right (at + n) ++ binary_instr op ∷ [])
          → Does p ok r whole (Left (at + n + k + 1) ops) ((a >>= (λ x. b >>= (λ y. try (binary op x y)))) w) (mk at ops w)
      strict_code op s has =
          let operands = front c.instrs at (left ++ right (at + n)) (binary_instr op ∷ []) has in
          let last = back c.instrs at (left ++ right (at + n)) (binary_instr op ∷ []) (n + k) (both left (right (at + n)) n k left_long (right_long (at + n))) has in
          let there : at + (n + k) ≡ at + n + k = omega arith in
          then_does p ok r whole (Left (at + n) ops) (Left (at + n + k + 1) ops) (a w) (λ x. b >>= (λ y. try (binary op x y))) (mk at ops w)
          (left_does (front c.instrs at left (right (at + n)) operands)) (λ x w1 s1 sound1 e1.
          from (Left (at + n + k + 1) ops) ((b >>= (λ y. try (binary op x y))) w1) s1 (mk (at + n) (x ∷ ops) w1) e1 sound1 (λ sound2.
          then_does p ok r whole (Left (at + n + k) (x ∷ ops)) (Left (at + n + k + 1) ops) (b w1) (λ y. try (binary op x y)) (mk (at + n) (x ∷ ops) w1)
          (right_does (at + n) (x ∷ ops) w1 sound2 (back c.instrs at left (right (at + n)) n left_long operands)) (λ y w2 s2 sound3 e2.
          from (Left (at + n + k + 1) ops) (try (binary op x y) w2) s2 (mk (at + n + k) (y ∷ x ∷ ops) w2) e2 sound3 (λ sound4.
          strict_does op s x y (at + n + k) ops w2 sound4 (subst (λ (q : ℕ). slice_get c.instrs q ≡ Some (binary_instr op)) there last.0)))))

      -- a jump on with a value
      jumps : (v : Val) (t place : ℕ) (u : World) → Sound p ok r whole (mk place (v ∷ ops) u) → slice_get c.instrs place ≡ Some (i.Jump t)
          → Does p ok r whole (Left t ops) (Gives v u) (mk place (v ∷ ops) u)
      jumps v t place u sound h = gives_one (Left t ops) v (mk place (v ∷ ops) u) (mk t (v ∷ ops) u) u sound (at_instr (mk place (v ∷ ops) u) (i.Jump t) h) sound.kinds refl

      and_code : Holds c.instrs at (left ++ i.Branch (at + n + 1 + k + 1) ∷ right (at + n + 1) ++ i.Jump (at + n + 1 + k + 2) ∷ i.False ∷ [])
          → Does p ok r whole (Left (at + n + 1 + k + 2) ops) ((a >>= (λ x. unless (decided And x) (b >>= (λ y. try (binary And x y))))) w) (mk at ops w)
      and_code has =
          let head = front c.instrs at (left ++ i.Branch (at + n + 1 + k + 1) ∷ right (at + n + 1)) (i.Jump (at + n + 1 + k + 2) ∷ i.False ∷ []) has in
          let size : length (i.Branch (at + n + 1 + k + 1) ∷ right (at + n + 1)) ≡ k + 1 = let e = right_long (at + n + 1) in omega (arith, e) in
          let tail = back c.instrs at (left ++ i.Branch (at + n + 1 + k + 1) ∷ right (at + n + 1)) (i.Jump (at + n + 1 + k + 2) ∷ i.False ∷ []) (n + (k + 1))
          (both left (i.Branch (at + n + 1 + k + 1) ∷ right (at + n + 1)) n (k + 1) left_long size) has in
          let branch = back c.instrs at left (i.Branch (at + n + 1 + k + 1) ∷ right (at + n + 1)) n left_long head in
          let here' : at + (n + (k + 1)) ≡ at + n + 1 + k = omega arith in
          let tail' = subst (λ (q : ℕ). Holds c.instrs q (i.Jump (at + n + 1 + k + 2) ∷ i.False ∷ [])) here' tail in
          then_does p ok r whole (Left (at + n) ops) (Left (at + n + 1 + k + 2) ops) (a w) (λ x. unless (decided And x) (b >>= (λ y. try (binary And x y)))) (mk at ops w)
          (left_does (front c.instrs at left (i.Branch (at + n + 1 + k + 1) ∷ right (at + n + 1)) head)) (λ x w1 s1 sound1 e1.
          from (Left (at + n + 1 + k + 2) ops) (unless (decided And x) (b >>= (λ y. try (binary And x y))) w1) s1 (mk (at + n) (x ∷ ops) w1) e1 sound1
          (λ sound2. by x w1 sound2 branch.0 branch.1 tail'.0 tail'.1.0))
        where
          by : (x : Val) (w1 : World) → Sound p ok r whole (mk (at + n) (x ∷ ops) w1) → slice_get c.instrs (at + n) ≡ Some (i.Branch (at + n + 1 + k + 1))
              → Holds c.instrs (at + n + 1) (right (at + n + 1))
              → slice_get c.instrs (at + n + 1 + k) ≡ Some (i.Jump (at + n + 1 + k + 2)) → slice_get c.instrs (at + n + 1 + k + 1) ≡ Some i.False
              → Does p ok r whole (Left (at + n + 1 + k + 2) ops) (unless (decided And x) (b >>= (λ y. try (binary And x y))) w1) (mk (at + n) (x ∷ ops) w1)
          by (val.Int z) w1 sound1 h right_has jump_has false_has = no_step p ok r whole (mk (at + n) (val.Int z ∷ ops) w1) sound1
              (at_instr (mk (at + n) (val.Int z ∷ ops) w1) (i.Branch (at + n + 1 + k + 1)) h)
          by (val.Truth true) w1 sound1 h right_has jump_has false_has =
              step_does p ok r whole (Left (at + n + 1 + k + 2) ops) ((b >>= (λ y. try (binary And (val.Truth true) y))) w1) (mk (at + n) (val.Truth true ∷ ops) w1) (mk (at + n + 1) ops w1) sound1
              (at_instr (mk (at + n) (val.Truth true ∷ ops) w1) (i.Branch (at + n + 1 + k + 1)) h) sound1.kinds (λ sound2.
              then_does p ok r whole (Left (at + n + 1 + k) ops) (Left (at + n + 1 + k + 2) ops) (b w1) (λ y. try (binary And (val.Truth true) y)) (mk (at + n + 1) ops w1)
              (right_does (at + n + 1) ops w1 sound2 right_has) (λ y w2 s2 sound3 e2.
              from (Left (at + n + 1 + k + 2) ops) (Gives y w2) s2 (mk (at + n + 1 + k) (y ∷ ops) w2) e2 sound3 (λ sound4. jumps y (at + n + 1 + k + 2) (at + n + 1 + k) w2 sound4 jump_has)))
          by (val.Truth false) w1 sound1 h right_has jump_has false_has =
              step_does p ok r whole (Left (at + n + 1 + k + 2) ops) (Gives (val.Truth false) w1) (mk (at + n) (val.Truth false ∷ ops) w1) (mk (at + n + 1 + k + 1) ops w1) sound1
              (at_instr (mk (at + n) (val.Truth false ∷ ops) w1) (i.Branch (at + n + 1 + k + 1)) h) sound1.kinds (λ sound2.
              let next_place : at + n + 1 + k + 1 + 1 ≡ at + n + 1 + k + 2 = omega arith in
              at_place (at + n + 1 + k + 1 + 1) (at + n + 1 + k + 2) ops (Gives (val.Truth false) w1) (mk (at + n + 1 + k + 1) ops w1) next_place
              (constant (val.Truth false) i.False (at + n + 1 + k + 1) ops w1 sound2 false_has (λ s. refl)))

      or_code : Holds c.instrs at (left ++ i.Branch (at + n + 3) ∷ i.True ∷ i.Jump (at + n + 3 + k) ∷ right (at + n + 3))
          → Does p ok r whole (Left (at + n + 3 + k) ops) ((a >>= (λ x. unless (decided Or x) (b >>= (λ y. try (binary Or x y))))) w) (mk at ops w)
      or_code has =
          let branch = back c.instrs at left (i.Branch (at + n + 3) ∷ i.True ∷ i.Jump (at + n + 3 + k) ∷ right (at + n + 3)) n left_long has in
          let three : at + n + 1 + 1 + 1 ≡ at + n + 3 = omega arith in
          then_does p ok r whole (Left (at + n) ops) (Left (at + n + 3 + k) ops) (a w) (λ x. unless (decided Or x) (b >>= (λ y. try (binary Or x y)))) (mk at ops w)
          (left_does (front c.instrs at left (i.Branch (at + n + 3) ∷ i.True ∷ i.Jump (at + n + 3 + k) ∷ right (at + n + 3)) has)) (λ x w1 s1 sound1 e1.
          from (Left (at + n + 3 + k) ops) (unless (decided Or x) (b >>= (λ y. try (binary Or x y))) w1) s1 (mk (at + n) (x ∷ ops) w1) e1 sound1
          (λ sound2. by x w1 sound2 branch.0 branch.1.0 branch.1.1.0 (subst (λ (q : ℕ). Holds c.instrs q (right (at + n + 3))) three branch.1.1.1)))
        where
          by : (x : Val) (w1 : World) → Sound p ok r whole (mk (at + n) (x ∷ ops) w1) → slice_get c.instrs (at + n) ≡ Some (i.Branch (at + n + 3)) → slice_get c.instrs (at + n + 1) ≡ Some i.True
              → slice_get c.instrs (at + n + 1 + 1) ≡ Some (i.Jump (at + n + 3 + k)) → Holds c.instrs (at + n + 3) (right (at + n + 3))
              → Does p ok r whole (Left (at + n + 3 + k) ops) (unless (decided Or x) (b >>= (λ y. try (binary Or x y))) w1) (mk (at + n) (x ∷ ops) w1)
          by (val.Int z) w1 sound1 h true_has jump_has right_has = no_step p ok r whole (mk (at + n) (val.Int z ∷ ops) w1) sound1
              (at_instr (mk (at + n) (val.Int z ∷ ops) w1) (i.Branch (at + n + 3)) h)
          by (val.Truth true) w1 sound1 h true_has jump_has right_has =
              step_does p ok r whole (Left (at + n + 3 + k) ops) (Gives (val.Truth true) w1) (mk (at + n) (val.Truth true ∷ ops) w1) (mk (at + n + 1) ops w1) sound1
              (at_instr (mk (at + n) (val.Truth true ∷ ops) w1) (i.Branch (at + n + 3)) h) sound1.kinds (λ sound2.
              step_does p ok r whole (Left (at + n + 3 + k) ops) (Gives (val.Truth true) w1) (mk (at + n + 1) ops w1) (mk (at + n + 1 + 1) (val.Truth true ∷ ops) w1) sound2
              (at_instr (mk (at + n + 1) ops w1) i.True true_has) sound2.kinds (λ sound3.
              jumps (val.Truth true) (at + n + 3 + k) (at + n + 1 + 1) w1 sound3 jump_has))
          by (val.Truth false) w1 sound1 h true_has jump_has right_has =
              step_does p ok r whole (Left (at + n + 3 + k) ops) ((b >>= (λ y. try (binary Or (val.Truth false) y))) w1) (mk (at + n) (val.Truth false ∷ ops) w1) (mk (at + n + 3) ops w1) sound1
              (at_instr (mk (at + n) (val.Truth false ∷ ops) w1) (i.Branch (at + n + 3)) h) sound1.kinds (λ sound2.
              then_does p ok r whole (Left (at + n + 3 + k) ops) (Left (at + n + 3 + k) ops) (b w1) (λ y. try (binary Or (val.Truth false) y)) (mk (at + n + 3) ops w1)
              (right_does (at + n + 3) ops w1 sound2 right_has) (λ y w2 s2 sound3 e2. (s2, here (module_of p) s2, sound3, e2)))

    -- ---- calls

    module _ (name : Text) (given ops : List Val) (at : ℕ) (w : World) where
      -- the state at a call, with its arguments on top
      abbrev calling : State
      calling = mk at (pushed given ops) w

      -- a call gives this, behind its place
      abbrev Called : Option Function → Option Val → World → State → Type 0
      Called o back' u s' = (s' ≡ mk (at + 1) (listed back' ++ ops) u) × IsGiven (given_by o) back'

      -- a unit was taken: the function is entered, or the call is too deep
      entering : (levels : ℕ) → CallsDo levels → length callers + levels ≡ 64 → (f : Function) (left : ℕ) → function_named p.functions name ≡ Some f → length given ≡ length f.params
          → Sound p ok r whole calling
          → next (module_of p) calling ≡ Some (enters (function_code p f) given (record (on_with calling ops) { fuel = left }))
          → Does p ok r whole (Called (Some f)) (calls_to p levels name given (record w { fuel = left })) calling
      unfolding calls_to
      entering zero calls deep f left named_is long sound e =
          let full : (length callers == 64) ≡ true = eq-eqb (length callers) 64 (omega (arith, deep)) in
          trap_does p ok r whole (Called (Some f)) cause.TooDeep (record w { fuel = left }) calling
          (e ∙ ap (λ (b : Bool). Some (if b then Traps cause.TooDeep w.store left else On (entered f given (mk (at + 1) ops w).call callers (record w { fuel = left })))) full)
      entering (suc levels) calls deep f left named_is long sound e =
          let room : (length callers == 64) ≡ false = ne_eqb (length callers) 64 (λ same. omega (arith, same, deep)) in
          step_does p ok r whole (Called (Some f)) (calls_to p (suc levels) name given (record w { fuel = left })) calling (entered f given (mk (at + 1) ops w).call callers (record w { fuel = left }))
          sound
          (e ∙ ap (λ (b : Bool). Some (if b then Traps cause.TooDeep w.store left else On (entered f given (mk (at + 1) ops w).call callers (record w { fuel = left })))) room) sound.kinds (λ sound'.
          calls name f given (mk (at + 1) ops w).call callers (record w { fuel = left }) named_is long deep sound')

      -- a call behind its arguments
      call_does : (levels : ℕ) → CallsDo levels → length callers + levels ≡ 64 → HasCount (function_named p.functions name) (length given) → Sound p ok r whole calling
          → slice_get c.instrs at ≡ Some (i.Call (function_number p.functions name)) → Does p ok r whole (Called (function_named p.functions name)) ((take_unit >> calls_to p levels name given) w)
          calling
      call_does levels calls deep many sound h = by (function_named p.functions name) refl many
        where
          unit : (f : Function) (k : ℕ) → w.fuel ≡ k → function_named p.functions name ≡ Some f → length given ≡ length f.params
              → next (module_of p) calling ≡ Some (spends (on_with calling ops) k (enters (function_code p f) given))
              → Does p ok r whole (Called (Some f)) (and_then (spend k w) (λ _. calls_to p levels name given)) calling
          unit f zero is named_is long e = trap_does p ok r whole (Called (Some f)) cause.FuelSpent w calling e
          unit f (suc left) is named_is long e = entering levels calls deep f left named_is long sound e

          parted : (f : Function) (o : Option (List Val × List Val)) → split (reverse (take (function_code p f).params (function_code p f).locals)) (pushed given ops) ≡ o
              → function_named p.functions name ≡ Some f → length given ≡ length f.params
              → next (module_of p) calling ≡ machine.◌>>=◌ o (λ parts. Some (spends (on_with calling parts.1) w.fuel (enters (function_code p f) (reverse parts.0))))
              → Does p ok r whole (Called (Some f)) (and_then (spend w.fuel w) (λ _. calls_to p levels name given)) calling
          parted f None is named_is long e = no_step p ok r whole calling sound e
          parted f (Some parts) is named_is long e =
              let same = arguments_split (reverse (take (function_code p f).params (function_code p f).locals)) given ops parts is (long ∙ sym (parameters_length p f)) in
              unit f w.fuel refl named_is long
              (e ∙ ap (λ (vs : List Val). Some (spends (on_with calling parts.1) w.fuel (enters (function_code p f) vs))) same.0
              ∙ ap (λ (vs : List Val). Some (spends (on_with calling vs) w.fuel (enters (function_code p f) given))) same.1)

          by : (o : Option Function) → function_named p.functions name ≡ o → HasCount o (length given)
              → Does p ok r whole (Called o) (and_then (spend w.fuel w) (λ _. calls_to p levels name given)) calling
          by None is many' =
              no_step p ok r whole calling sound
              (at_instr calling (i.Call (function_number p.functions name)) h ∙ ap (λ (x : Option Code). machine.calls x calling) (not_numbered p p.functions name is))
          by (Some f) is many' =
              parted f (split (reverse (take (function_code p f).params (function_code p f).locals)) (pushed given ops)) refl is many'
              (at_instr calling (i.Call (function_number p.functions name)) h ∙ ap (λ (x : Option Code). machine.calls x calling) (numbered p p.functions name f is))

    -- ---- expressions

    module _ (slots : Slots) (locals : Locals) (agree : Agree slots locals ml) (levels : ℕ) (calls : CallsDo levels) (deep : length callers + levels ≡ 64) where
      -- the arguments lie on the operands
      abbrev pub Pushed : ℕ → List Val → ℕ → List Val → World → State → Type 0
      Pushed place ops n vs u s' = (s' ≡ mk place (pushed vs ops) u) × (length vs ≡ n)

      -- what a call leaves behind its place
      abbrev pub CallLeft : Call' → ℕ → List Val → Option Val → World → State → Type 0
      CallLeft (call_of name shape args) at ops back' u s' =
          (s' ≡ mk (at + call_size (call_of name shape args)) (listed back' ++ ops) u) × IsGiven (given_by (function_named p.functions name.text)) back'

      mutual
        pub value_does : (n : Node) (at : ℕ) (ops : List Val) (w : World) → ValueIs p n → Sound p ok r whole (mk at ops w) → Holds c.instrs at (value_code p slots n at)
            → Does p ok r whole (Left (at + value_size n) ops) (value p (calls_to p levels) locals n w) (mk at ops w)
        value_does (Number z) at ops w is sound has = constant (val.Int z) (i.Int z) at ops w sound has.0 (λ s. refl)
        value_does (Truth b) at ops w is sound has = truth_does b at ops w sound has.0
        value_does (Read place) at ops w is sound has =
            let same : at + place_size place + 1 ≡ at + (place_size place + 1) = omega arith in
            at_place (at + place_size place + 1) (at + (place_size place + 1)) ops (read p (calls_to p levels) locals place w) (mk at ops w) same (read_does place at ops w is sound has)
        value_does (node.CallOf (call_of name shape args)) at ops w is sound has =
            then_does p ok r whole (CallLeft (call_of name shape args) at ops) (Left (at + call_size (call_of name shape args)) ops)
            (result p (calls_to p levels) locals (call_of name shape args) w) (λ given. pure (unwrap_or given no_value)) (mk at ops w) (result_does (call_of name shape args) at ops w is.0 sound has)
            (λ back' u s' sound' q.
            used (given_by (function_named p.functions name.text)) back' u s' is.1 q.1 q.0 sound')
          where
            used : (g : Result') (back' : Option Val) (u : World) (s' : State) → HasValue g → IsGiven g back' → s' ≡ mk (at + call_size (call_of name shape args)) (listed back' ++ ops) u
                → Sound p ok r whole s'
                → Does p ok r whole (Left (at + call_size (call_of name shape args)) ops) (Gives (unwrap_or back' no_value) u) s'
            used gives.Nothing back' u s' has' given e sound' = absurd has'
            used gives.Int None u s' has' given e sound' = absurd given
            used gives.Int (Some v) u s' has' given e sound' = (s', here (module_of p) s', sound', e)
            used gives.Bool None u s' has' given e sound' = absurd given
            used gives.Bool (Some v) u s' has' given e sound' = (s', here (module_of p) s', sound', e)
        value_does (Unary' op shape a) at ops w is sound has =
            let same : at + boxed_size a + 1 ≡ at + (boxed_size a + 1) = omega arith in
            at_place (at + boxed_size a + 1) (at + (boxed_size a + 1)) ops ((boxed p (calls_to p levels) locals a >>= (λ x. try (unary op x))) w) (mk at ops w) same
            (then_does p ok r whole (Left (at + boxed_size a) ops) (Left (at + boxed_size a + 1) ops) (boxed p (calls_to p levels) locals a w) (λ x. try (unary op x)) (mk at ops w)
            (boxed_does a at ops w is sound (front c.instrs at (boxed_code p slots a at) (Rattle.compiled_code.specs.Values.unary_instr op ∷ []) has)) (λ x u s' sound' q.
            from (Left (at + boxed_size a + 1) ops) (try (unary op x) u) s' (mk (at + boxed_size a) (x ∷ ops) u) q sound' (λ sound1.
            unary_does op x (at + boxed_size a) ops u sound1 (back c.instrs at (boxed_code p slots a at) (Rattle.compiled_code.specs.Values.unary_instr op ∷ []) (boxed_size a)
            (boxed_length p slots a at) has).0)))
        value_does (Binary' And shape a shape' b) at ops w is sound has =
            let same : at + boxed_size a + 1 + boxed_size b + 2 ≡ at + (boxed_size a + boxed_size b + 3) = omega arith in
            at_place (at + boxed_size a + 1 + boxed_size b + 2) (at + (boxed_size a + boxed_size b + 3)) ops (value p (calls_to p levels) locals (Binary' And shape a shape' b) w) (mk at ops w) same
            (and_code at (boxed_size a) (boxed_size b) (boxed_code p slots a at) (λ there. boxed_code p slots b there) ops w (boxed p (calls_to p levels) locals a)
            (boxed p (calls_to p levels) locals b) (boxed_length p slots a at) (λ there. boxed_length p slots b there)
            (λ h. boxed_does a at ops w is.0 sound h) (λ there under u sound' h. boxed_does b there under u is.1 sound' h) has)
        value_does (Binary' Or shape a shape' b) at ops w is sound has =
            let same : at + boxed_size a + 3 + boxed_size b ≡ at + (boxed_size a + boxed_size b + 3) = omega arith in
            at_place (at + boxed_size a + 3 + boxed_size b) (at + (boxed_size a + boxed_size b + 3)) ops (value p (calls_to p levels) locals (Binary' Or shape a shape' b) w) (mk at ops w) same
            (or_code at (boxed_size a) (boxed_size b) (boxed_code p slots a at) (λ there. boxed_code p slots b there) ops w (boxed p (calls_to p levels) locals a)
            (boxed p (calls_to p levels) locals b) (boxed_length p slots a at) (λ there. boxed_length p slots b there)
            (λ h. boxed_does a at ops w is.0 sound h) (λ there under u sound' h. boxed_does b there under u is.1 sound' h) has)
        value_does (Binary' op shape a shape' b) at ops w is sound has =
            let same : at + boxed_size a + boxed_size b + 1 ≡ at + (boxed_size a + boxed_size b + 1) = omega arith in
            at_place (at + boxed_size a + boxed_size b + 1) (at + (boxed_size a + boxed_size b + 1)) ops (value p (calls_to p levels) locals (Binary' op shape a shape' b) w) (mk at ops w) same
            (strict_code at (boxed_size a) (boxed_size b) (boxed_code p slots a at) (λ there. boxed_code p slots b there) ops w (boxed p (calls_to p levels) locals a)
            (boxed p (calls_to p levels) locals b) (boxed_length p slots a at) (λ there. boxed_length p slots b there)
            (λ h. boxed_does a at ops w is.0 sound h) (λ there under u sound' h. boxed_does b there under u is.1 sound' h) op tt has)
        value_does (Paren' shape a) at ops w is sound has = boxed_does a at ops w is sound has

        read_does : (place : Place) (at : ℕ) (ops : List Val) (w : World) → PlaceIs p place → Sound p ok r whole (mk at ops w) → Holds c.instrs at (read_code p slots place at)
            → Does p ok r whole (Left (at + place_size place + 1) ops) (read p (calls_to p levels) locals place w) (mk at ops w)
        read_does (Place' name None') at ops w is sound has =
            let same : at + 1 ≡ at + 0 + 1 = omega arith in
            at_place (at + 1) (at + 0 + 1) ops (read_name (local_value locals name.text) (declared (area_of p.shared name.text)) w) (mk at ops w) same
            (name_does (slot_of slots name.text) (local_value locals name.text) (named slots locals ml name.text agree) (declared (area_of p.shared name.text)) at ops w sound has.0)
        read_does (Place' name (Some' shape index)) at ops w is sound has =
            then_does p ok r whole (Left (at + boxed_size index) ops) (Left (at + boxed_size index + 1) ops) (boxed p (calls_to p levels) locals index w)
            (λ x. in_range (item_at (declared (area_of p.shared name.text)) (number_in x)) >>= read_as_int) (mk at ops w)
            (boxed_does index at ops w is sound (front c.instrs at (boxed_code p slots index at) (item_instr (declared (area_of p.shared name.text)) ∷ []) has)) (λ x u s' sound' q.
            from (Left (at + boxed_size index + 1) ops) ((in_range (item_at (declared (area_of p.shared name.text)) (number_in x)) >>= read_as_int) u) s' (mk (at + boxed_size index) (x ∷ ops) u) q
            sound' (λ sound1.
            item_does (declared (area_of p.shared name.text)) x (at + boxed_size index) ops u sound1
            (back c.instrs at (boxed_code p slots index at) (item_instr (declared (area_of p.shared name.text)) ∷ []) (boxed_size index) (boxed_length p slots index at) has).0))

        -- a call gives what its function gives
        pub result_does : (call : Call') (at : ℕ) (ops : List Val) (w : World) → CallIs p call → Sound p ok r whole (mk at ops w) → Holds c.instrs at (call_code p slots call at)
            → Does p ok r whole (CallLeft call at ops) (result p (calls_to p levels) locals call w) (mk at ops w)
        result_does (call_of name shape args) at ops w is sound has =
            let same : at + values_size args + 1 ≡ at + (values_size args + 1) = omega arith in
            then_does p ok r whole (Pushed (at + values_size args) ops (count args)) (CallLeft (call_of name shape args) at ops) (values p (calls_to p levels) locals args w)
            (λ given. take_unit >> calls_to p levels name.text given) (mk at ops w)
            (values_does args at ops w is.1 sound (front c.instrs at (values_code p slots args at) (i.Call (function_number p.functions name.text) ∷ []) has)) (λ given u s' sound' q.
            from (CallLeft (call_of name shape args) at ops) ((take_unit >> calls_to p levels name.text given) u) s' (mk (at + values_size args) (pushed given ops) u) q.0 sound' (λ sound1.
            subst (λ (z : ℕ). Does p ok r whole (λ back' x s''. (s'' ≡ mk z (listed back' ++ ops) x) × IsGiven (given_by (function_named p.functions name.text)) back')
            ((take_unit >> calls_to p levels name.text given) u) (mk (at + values_size args) (pushed given ops) u)) same
            (call_does name.text given ops (at + values_size args) u levels calls deep (subst (λ (z : ℕ). HasCount (function_named p.functions name.text) z) (sym q.1) is.0) sound1
            (back c.instrs at (values_code p slots args at) (i.Call (function_number p.functions name.text) ∷ []) (values_size args) (values_length p slots args at) has).0)))

        pub boxed_does : {n : _} (row : Row_of-Expr n) (at : ℕ) (ops : List Val) (w : World) → BoxedIs p row → Sound p ok r whole (mk at ops w) → Holds c.instrs at (boxed_code p slots row at)
            → Does p ok r whole (Left (at + boxed_size row) ops) (boxed p (calls_to p levels) locals row w) (mk at ops w)
        boxed_does end_of-Expr at ops w is sound has = absurd is
        boxed_does (more_of-Expr where' n rest) at ops w is sound has = value_does n at ops w is sound has

        pub values_does : {n : _} (row : Row_of-Expr n) (at : ℕ) (ops : List Val) (w : World) → ValuesAre p row → Sound p ok r whole (mk at ops w) → Holds c.instrs at (values_code p slots row at)
            → Does p ok r whole (Pushed (at + values_size row) ops (count row)) (values p (calls_to p levels) locals row w) (mk at ops w)
        values_does end_of-Expr at ops w is sound has =
            let same : at ≡ at + 0 = omega arith in
            (mk at ops w, here (module_of p) (mk at ops w), sound, (ap (λ (q : ℕ). mk q ops w) same, refl))
        values_does (more_of-Expr where' n rest) at ops w is sound has =
            let same : at + value_size n + values_size rest ≡ at + (value_size n + values_size rest) = omega arith in
            then_does p ok r whole (Left (at + value_size n) ops) (Pushed (at + (value_size n + values_size rest)) ops (suc (count rest))) (value p (calls_to p levels) locals n w)
            (λ v. values p (calls_to p levels) locals rest >>= (λ vs. pure (v ∷ vs))) (mk at ops w)
            (value_does n at ops w is.0 sound (front c.instrs at (value_code p slots n at) (values_code p slots rest (at + value_size n)) has)) (λ v u s' sound' q.
            from (Pushed (at + (value_size n + values_size rest)) ops (suc (count rest))) ((values p (calls_to p levels) locals rest >>= (λ vs. pure (v ∷ vs))) u) s'
            (mk (at + value_size n) (v ∷ ops) u) q sound' (λ sound1.
            then_does p ok r whole (Pushed (at + value_size n + values_size rest) (v ∷ ops) (count rest)) (Pushed (at + (value_size n + values_size rest)) ops (suc (count rest)))
            (values p (calls_to p levels) locals rest u) (λ vs. pure (v ∷ vs)) (mk (at + value_size n) (v ∷ ops) u)
            (values_does rest (at + value_size n) (v ∷ ops) u is.1 sound1 (back c.instrs at (value_code p slots n at) (values_code p slots rest (at + value_size n)) (value_size n)
            (value_length p slots n at) has)) (λ vs x s'' sound'' q'.
            (s'', here (module_of p) s'', sound'', (q'.0 ∙ ap (λ (z : ℕ). mk z (pushed vs (v ∷ ops)) x) same, ap suc q'.1)))))
