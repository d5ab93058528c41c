-- The machine: its states, and the step from each to the next.
use Rattle.std.specs.Prelude.{ℕ, zero, suc, ◌+◌, ◌==◌, nat_lt, ℤ, pos, negsuc, ◌+ℤ◌, ◌-ℤ◌, ◌*ℤ◌, neg_ℤ, int_lt, int_le, Bool, true, false}
use Rattle.std.specs.Prelude.{not, ◌&&◌, if◌then◌else◌, List, [], ◌∷◌, ◌++◌, length, Option, Some, None, Result, Ok, Err, slice_get}
use Rattle.std.specs.Prelude.{slice_set, take, drop, map, reverse}
use Rattle.std.specs.Ordering.{int_eq}
use Rattle.std.specs.List.{list_any}
use Rattle.cal_base.specs.declared.ends.Cause.{Cause}
use Rattle.cal_base.specs.declared.ends.Cause.TheVariants as cause
use Rattle.cal_base.specs.declared.value.Val.{Val}
use Rattle.cal_base.specs.declared.value.Val.TheVariants.{Int, Truth}
use Rattle.cal_base.specs.Arithmetic.{checked, quotient, remainder}
use Rattle.cal_base.specs.declared.value.Store.{Store}
use Rattle.cal_base.specs.declared.value.Store.TheVariants.{Main, Routine}
use Rattle.cal_base.specs.Stores.{read_word, write_word, add_word}
use Rattle.cal_base.specs.Printing.{shown, line_of}
use Rattle.cal_base.specs.Widths.{step_widths}
use Rattle.bytecode.specs.declared.instr.PrintItem.{PrintItem}
use Rattle.bytecode.specs.declared.instr.PrintItem.TheVariants as item
use Rattle.bytecode.specs.declared.instr.Instr.{Instr}
use Rattle.bytecode.specs.declared.instr.Instr.TheVariants as i
use Rattle.cal_terms.specs.declared.types.Ty.{Ty}
use Rattle.cal_terms.specs.declared.types.Ty.TheVariants as ty
use Rattle.cal_terms.specs.declared.types.Gives.{Gives}
use Rattle.cal_terms.specs.declared.types.Gives.TheVariants as gives
use Rattle.bytecode.specs.declared.module.Code.{Code}
use Rattle.bytecode.specs.declared.module.Module.{Module}
use Rattle.code_verify.specs.Kinds.{same_kind}

infixl 10 ◌>>=◌
-- goes on with what is there
abbrev pub ◌>>=◌ : {A B : Type 0} → Option A → (A → Option B) → Option B
(Some x) >>= f = f x
None >>= f = None

-- ---- states

-- the kind of a value
abbrev pub kind_of : Val → Ty
kind_of (Int z) = ty.Int
kind_of (Truth b) = ty.Bool

-- what a local begins as
abbrev pub first_value : Ty → Val
first_value ty.Int = Int (pos 0)
first_value ty.Bool = Truth false

-- one call: the code that it runs, its place there, its locals, and its operands, that on top first
pub record Call : Type 0 where
  pub code : Code
  pub place : ℕ
  pub locals : List Val
  pub operands : List Val

-- the call that runs, the calls that wait for it, the last one first, the words, and the units of fuel that are left
pub record State : Type 0 where
  pub call : Call
  pub callers : List Call
  pub store : Store
  pub fuel : ℕ

-- where a step leads
pub data Next : Type 0 where
  -- to the next state
  On : State → Next
  -- to the next state, behind a printed line with its line feed
  Prints : List ℕ → State → Next
  -- to the next state, behind a parallel step of the blocks from this one on, with these widths
  Opens : (first : ℕ) → (widths : List ℕ) → State → Next
  -- to the end of main or of the routine, with the store and the fuel at it
  Ends : Store → (fuel : ℕ) → Next
  -- to a trap
  Traps : Cause → Store → (fuel : ℕ) → Next

-- ---- parts of a step; each has none where a test on operands, kinds, places or addresses fails

-- the last operand is a number; with those below it
abbrev pub number : List Val → Option (ℤ × List Val)
number (Int z ∷ vs) = Some (z, vs)
number (Truth b ∷ vs) = None
number [] = None

-- the last operand is a truth
abbrev pub truth : List Val → Option (Bool × List Val)
truth (Truth b ∷ vs) = Some (b, vs)
truth (Int z ∷ vs) = None
truth [] = None

-- the last two operands are numbers: the first, the second, and those below them
abbrev pub numbers : List Val → Option (ℤ × ℤ × List Val)
numbers vs = do
  second ← number vs
  first ← number second.1
  Some (first.0, second.0, first.1)

-- the last two operands are of one kind, and equal or not
abbrev pub equal : List Val → Option (Bool × List Val)
equal (Int y ∷ Int x ∷ vs) = Some (int_eq x y, vs)
equal (Truth y ∷ Truth x ∷ vs) = Some ((if x then y else not y), vs)
equal _ = None

-- the last operands have these kinds: they, that on top first, and those below them
abbrev pub split : List Ty → List Val → Option (List Val × List Val)
split [] vs = Some ([], vs)
split (k ∷ ks) [] = None
split (k ∷ ks) (v ∷ vs) = if same_kind k (kind_of v) then split ks vs >>= (λ parts. Some (v ∷ parts.0, parts.1)) else None

-- this many numbers, the first of them first
abbrev pub many_numbers : ℕ → List Val → Option (List ℤ × List Val)
many_numbers zero vs = Some ([], vs)
many_numbers (suc n) vs = do
  last ← number vs
  others ← many_numbers n last.1
  Some (others.0 ++ last.0 ∷ [], others.1)

-- the call goes on behind its instruction, with these operands
abbrev pub on_with : State → List Val → State
on_with s vs = record s { call = record s.call { place = s.call.place + 1; operands = vs } }

-- the call goes on at a target
abbrev pub at_target : State → ℕ → List Val → State
at_target s t vs = record s { call = record s.call { place = t; operands = vs } }

-- the step traps
abbrev pub traps : Cause → State → Next
traps cause s = Traps cause s.store s.fuel

-- the step pushes a number, or traps
abbrev pub pushes : State → List Val → Result ℤ Cause → Next
pushes s vs (Ok z) = On (on_with s (Int z ∷ vs))
pushes s vs (Err cause) = traps cause s

-- the step leaves another store, or traps
abbrev pub leaves_store : State → List Val → Result Store Cause → Next
leaves_store s vs (Ok store) = On (record (on_with s vs) { store = store })
leaves_store s vs (Err cause) = traps cause s

-- the store with this value in a word, or the trap that the value is
abbrev pub writes : Store → ℕ → Result ℤ Cause → Result Store Cause
writes store a (Ok z) = Ok (write_word store a z)
writes store a (Err cause) = Err cause

-- does a routine run?
abbrev pub in_routine : Store → Bool
in_routine (Main memory) = false
in_routine (Routine opening written) = true

-- is it a tally word of the module?
abbrev pub is_tally : Module → ℕ → Bool
is_tally m a = list_any (λ t. t == a) m.tallies

-- may the word be read and set here? A routine can only add to a tally word
abbrev pub may_use : Module → Store → ℕ → Bool
may_use m store a = nat_lt a m.words && not (in_routine store && is_tally m a)

-- the step, where the word may be read and set
abbrev pub using : Module → State → ℕ → Next → Option Next
using m s a next = if may_use m s.store a then Some next else None

-- the address of an array's item: none where the index is outside, which is no failed test but a trap
abbrev pub item_at : ℕ → ℕ → ℤ → Option ℕ
item_at b n (pos x) = if nat_lt x n then Some (b + x) else None
item_at b n (negsuc x) = None

-- goes on at an array's item, or traps
abbrev pub at_item : Module → State → Option ℕ → (ℕ → Next) → Option Next
at_item m s None next = Some (traps cause.OutOfRange s)
at_item m s (Some a) next = using m s a (next a)

-- takes one unit of fuel and goes on, or traps
abbrev pub spends : State → ℕ → (State → Next) → Next
spends s zero next = traps cause.FuelSpent s
spends s (suc left) next = next (record s { fuel = left })

-- the call of a function with these arguments
abbrev pub begun : Code → List Val → Call
begun f given = record { code = f; place = 0; locals = given ++ map first_value (drop f.params f.locals); operands = [] }

-- how deep calls may be
abbrev pub most_callers : ℕ
most_callers = 64

-- the call waits, and the function's runs; or it would be too deep
abbrev pub enters : Code → List Val → State → Next
enters f given s =
    if length s.callers == most_callers then traps cause.TooDeep s
    else On (record s { call = begun f given; callers = s.call ∷ s.callers })

-- a call of a function, with its arguments on top
abbrev pub calls : Option Code → State → Option Next
calls None s = None
calls (Some f) s = do
  parts ← split (reverse (take f.params f.locals)) s.call.operands
  Some (spends (on_with s parts.1) s.fuel (enters f (reverse parts.0)))

-- the value that a code gives back is all that is left
abbrev pub given_back : Gives → List Val → Option (List Val)
given_back gives.Nothing [] = Some []
given_back gives.Int (Int z ∷ []) = Some (Int z ∷ [])
given_back gives.Bool (Truth b ∷ []) = Some (Truth b ∷ [])
given_back _ vs = None

-- the caller goes on with the result; without a caller the run ends
abbrev pub leaves : List Call → List Val → State → Next
leaves [] given s = Ends s.store s.fuel
leaves (caller ∷ callers) given s = On (record s { call = record caller { operands = given ++ caller.operands }; callers = callers })

-- a local has a value of its kind; the others keep theirs
abbrev pub stores : State → ℕ → List Val → Option Val → Option Next
stores s l [] old = None
stores s l (v ∷ vs) None = None
stores s l (v ∷ vs) (Some old) =
    if same_kind (kind_of old) (kind_of v) then Some (On (on_with
    (record s { call = record s.call { locals = slice_set s.call.locals l v } }) vs)) else None

-- the last operand, of any kind, is dropped
abbrev pub drops : State → List Val → Option Next
drops s [] = None
drops s (v ∷ vs) = Some (On (on_with s vs))

-- the pieces of a line, and the operands below their values; the last item's value is on top
abbrev pub pieces : Module → List PrintItem → List Val → Option (List (List ℕ) × List Val)
pieces m [] vs = Some ([], vs)
pieces m (item.Text index ∷ items) vs = do
  others ← pieces m items vs
  text ← slice_get m.texts index
  Some (text ∷ others.0, others.1)
pieces m (item.Int ∷ items) vs = do
  others ← pieces m items vs
  z ← number others.1
  Some (shown (Int z.0) ∷ others.0, z.1)
pieces m (item.Truth ∷ items) vs = do
  others ← pieces m items vs
  b ← truth others.1
  Some (shown (Truth b.0) ∷ others.0, b.1)

-- a line, which a routine never prints
abbrev pub prints : Module → State → List PrintItem → Bool → Option Next
prints m s items true = None
prints m s items false = pieces m items s.call.operands >>= (λ x. Some (Prints (line_of x.0) (on_with s x.1)))

-- a step with these widths, or the trap that they are
abbrev pub opens : ℕ → State → Option (List ℕ) → Next
opens b s None = traps cause.BadWidth s
opens b s (Some widths) = spends s s.fuel (λ s'. Opens b widths s')

-- a step of blocks that are there, which a routine never opens
abbrev pub opens_blocks : Module → State → ℕ → ℕ → Bool → Option Next
opens_blocks m s b n true = None
opens_blocks m s b n false =
    if nat_lt (length m.blocks) (b + n) then None
    else (many_numbers n s.call.operands >>= (λ x. Some (opens b (on_with s x.1) (step_widths x.0))))

-- the items of an array within the words, at an index on top
abbrev pub reads_item : Module → State → ℕ → ℕ → ℤ × List Val → Option Next
reads_item m s b n x =
    if nat_lt m.words (b + n) then None
    else at_item m s (item_at b n x.0) (λ a. On (on_with s (Int (read_word s.store a) ∷ x.1)))

-- a value that is written to an item of an array within the words
abbrev pub writes_item : Module → State → ℕ → ℕ → (ℕ → Result ℤ Cause) → ℤ → List Val → Option Next
writes_item m s b n value index vs =
    if nat_lt m.words (b + n) then None
    else at_item m s (item_at b n index) (λ a. leaves_store s vs (writes s.store a (value a)))

-- ---- the step

-- what one instruction does in a state, or none where a test of it fails
abbrev pub step : Module → Instr → State → Option Next
step m (i.Int z) s = Some (On (on_with s (Int z ∷ s.call.operands)))
step m i.False s = Some (On (on_with s (Truth false ∷ s.call.operands)))
step m i.True s = Some (On (on_with s (Truth true ∷ s.call.operands)))
step m i.Add s = numbers s.call.operands >>= (λ x. Some (pushes s x.2 (checked (x.0 +ℤ x.1))))
step m i.Sub s = numbers s.call.operands >>= (λ x. Some (pushes s x.2 (checked (x.0 -ℤ x.1))))
step m i.Mul s = numbers s.call.operands >>= (λ x. Some (pushes s x.2 (checked (x.0 *ℤ x.1))))
step m i.Div s = numbers s.call.operands >>= (λ x. Some (pushes s x.2 (quotient x.0 x.1)))
step m i.Rem s = numbers s.call.operands >>= (λ x. Some (pushes s x.2 (remainder x.0 x.1)))
step m i.Neg s = number s.call.operands >>= (λ x. Some (pushes s x.1 (checked (neg_ℤ x.0))))
step m i.Not s = truth s.call.operands >>= (λ x. Some (On (on_with s (Truth (not x.0) ∷ x.1))))
step m i.Eq s = equal s.call.operands >>= (λ x. Some (On (on_with s (Truth x.0 ∷ x.1))))
step m i.Ne s = equal s.call.operands >>= (λ x. Some (On (on_with s (Truth (not x.0) ∷ x.1))))
step m i.Lt s = numbers s.call.operands >>= (λ x. Some (On (on_with s (Truth (int_lt x.0 x.1) ∷ x.2))))
step m i.Le s = numbers s.call.operands >>= (λ x. Some (On (on_with s (Truth (int_le x.0 x.1) ∷ x.2))))
step m i.Gt s = numbers s.call.operands >>= (λ x. Some (On (on_with s (Truth (int_lt x.1 x.0) ∷ x.2))))
step m i.Ge s = numbers s.call.operands >>= (λ x. Some (On (on_with s (Truth (int_le x.1 x.0) ∷ x.2))))
step m (i.Load l) s = slice_get s.call.locals l >>= (λ v. Some (On (on_with s (v ∷ s.call.operands))))
step m (i.Store l) s = stores s l s.call.operands (slice_get s.call.locals l)
step m (i.Word a) s = using m s a (On (on_with s (Int (read_word s.store a) ∷ s.call.operands)))
step m (i.Put a) s = number s.call.operands >>= (λ x. using m s a (On (record (on_with s x.1) { store = write_word s.store a x.0 })))
step m (i.AddWord a) s = number s.call.operands >>= (λ x. if nat_lt a m.words then Some (leaves_store s x.1 (add_word s.store a x.0)) else
    None)
step m (i.Item b n) s = number s.call.operands >>= (λ x. reads_item m s b n x)
step m (i.SetItem b n) s = numbers s.call.operands >>= (λ x. writes_item m s b n (λ a. Ok x.1) x.0 x.2)
step m (i.AddItem b n) s = numbers s.call.operands >>= (λ x. writes_item m s b n (λ a. checked (read_word s.store a +ℤ x.1)) x.0 x.2)
step m (i.Jump t) s = Some (On (at_target s t s.call.operands))
step m (i.Branch t) s = truth s.call.operands >>= (λ x. Some (On (if x.0 then on_with s x.1 else at_target s t x.1)))
step m (i.Loop t) s = Some (spends s s.fuel (λ s'. On (at_target s' t s.call.operands)))
step m (i.Call f) s = calls (slice_get m.functions f) s
step m i.Return s = given_back s.call.code.gives s.call.operands >>= (λ vs. Some (leaves s.callers vs s))
step m i.Pop s = drops s s.call.operands
step m i.Assert s = truth s.call.operands >>= (λ x. Some (if x.0 then On (on_with s x.1) else traps cause.Assertion s))
step m (i.Print items) s = prints m s items (in_routine s.store)
step m (i.Par b n) s = opens_blocks m s b n (in_routine s.store)

-- the next step: none where no instruction stands at the place, or where a test of it fails
abbrev pub next : Module → State → Option Next
next m s = slice_get s.call.code.instrs s.call.place >>= (λ instr. step m instr s)
