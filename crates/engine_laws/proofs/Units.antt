-- Main opens a step for a unit of fuel, and with few routines.
use Rattle.std.proofs.Common.{◌≡◌, ℕ, zero, suc, ◌+◌, ◌-◌, ◌<◌, ◌≤◌, Bool, true, false, cond, List, [], ◌∷◌, length, map, take, reverse, sum, Option, Some, None, Result, Ok, Err, refl, sym, subst}
use Rattle.std.proofs.Common.{arith, length-append}
use Rattle.std.specs.Prelude.{ℤ, ◌+ℤ◌, ◌-ℤ◌, ◌*ℤ◌, neg_ℤ, int_lt, int_le, ◌==◌, nat_lt, not, slice_get, slice_set}
use Rattle.std.specs.List.{range_with_len}
use Rattle.std.proofs.Math.Dec.{leb}
use Rattle.std.proofs.lemmas.Bool.{leb-true}
use Rattle.std.proofs.lemmas.List.Sums.{sum_by-cons}
use Rattle.std.proofs.lemmas.List.FromFn.{length-map-range_with_len}
use Rattle.cal_base.specs.declared.ends.Cause.{Cause}
use Rattle.cal_base.specs.declared.ends.Cause.TheVariants as cause
use Rattle.cal_base.specs.declared.value.Val.{Val}
use Rattle.cal_base.specs.declared.value.Val.TheVariants.{Int, Truth}
use Rattle.cal_base.specs.declared.value.Store.{Store}
use Rattle.cal_base.specs.declared.value.Store.TheVariants.{Main}
use Rattle.cal_base.specs.Widths.{naturals, unless_too_many, step_widths}
use Rattle.cal_base.specs.Memory.{Memory}
use Rattle.cal_base.specs.Stores.{memory_in, read_word, write_word, add_word}
use Rattle.cal_base.specs.Arithmetic.{checked, quotient, remainder}
use Rattle.cal_base.specs.Printing.{line_of}
use Rattle.code_verify.specs.Kinds.{same_kind}
use Rattle.cal_base.specs.Main as outline
use Rattle.cal_base.specs.Main.{IsNumbered}
use Rattle.bytecode.specs.declared.instr.Instr.{Instr}
use Rattle.bytecode.specs.declared.instr.Instr.TheVariants as i
use Rattle.bytecode.specs.declared.instr.PrintItem.{PrintItem}
use Rattle.bytecode.specs.declared.module.Code.{Code}
use Rattle.bytecode.specs.declared.module.Module.{Module}
use Rattle.machine_meaning.specs.Machine.{◌>>=◌, kind_of, Call, State, Next, On, Prints, Opens, Ends, Traps, number, truth, numbers, equal, split, many_numbers, on_with, at_target, traps, pushes}
use Rattle.machine_meaning.specs.Machine.{leaves_store, writes, in_routine, may_use, using, item_at, at_item, spends, begun, most_callers, enters, calls, given_back, leaves, stores, drops, pieces}
use Rattle.machine_meaning.specs.Machine.{prints, opens, opens_blocks, reads_item, writes_item, step, next}
use Rattle.machine_meaning.specs.Runs.{most_steps, main_beginning}
use Rattle.machine_meaning.specs.Meaning.{answers, answered, routine_outcome, blocks_of, module_memory, main_at, main_from}
use Rattle.engine_laws.specs.Steps.{TakesUnits, StepsAreNumbered, StepsTakeUnits}

-- a step of the machine leaves no more fuel than this, and less behind a parallel step, which has few routines
abbrev pub Tame : ℕ → Option Next → Type 0
Tame fuel None = Unit {0}
Tame fuel (Some (On s)) = s.fuel ≤ fuel
Tame fuel (Some (Prints line s)) = s.fuel ≤ fuel
Tame fuel (Some (Opens first widths s)) = (s.fuel < fuel) × (sum widths ≤ 65536)
Tame fuel (Some (Ends store left)) = Unit {0}
Tame fuel (Some (Traps cause store left)) = Unit {0}

same : (n : ℕ) → n ≤ n
same n = omega arith

bind_tame : {A : Type 0} (n : ℕ) (o : Option A) (f : A → Option Next) → ((x : A) → Tame n (f x)) → Tame n (o >>= f)
bind_tame n None f all = tt
bind_tame n (Some x) f all = all x

if_tame : (n : ℕ) (b : Bool) (x y : Option Next) → Tame n x → Tame n y → Tame n (cond b x y)
if_tame n true x y p q = p
if_tame n false x y p q = q

pushes_tame : (s : State) (vs : List Val) (r : Result ℤ Cause) → Tame s.fuel (Some (pushes s vs r))
pushes_tame s vs (Ok z) = same s.fuel
pushes_tame s vs (Err cause) = tt

store_tame : (s : State) (vs : List Val) (r : Result Store Cause) → Tame s.fuel (Some (leaves_store s vs r))
store_tame s vs (Ok store) = same s.fuel
store_tame s vs (Err cause) = tt

using_tame : (n : ℕ) (m : Module) (s : State) (a : ℕ) (x : Next) → Tame n (Some x) → Tame n (using m s a x)
using_tame n m s a x h = if_tame n (may_use m s.store a) (Some x) None h tt

item_tame : (m : Module) (s : State) (o : Option ℕ) (f : ℕ → Next) → ((a : ℕ) → Tame s.fuel (Some (f a))) → Tame s.fuel (at_item m s o f)
item_tame m s None f all = tt
item_tame m s (Some a) f all = using_tame s.fuel m s a (f a) (all a)

spends_tame : (s : State) (k : ℕ) (f : State → Next) → s.fuel ≡ k → ((left : ℕ) → suc left ≡ s.fuel → Tame s.fuel (Some (f (record s { fuel = left })))) → Tame s.fuel (Some (spends s k f))
spends_tame s zero f is all = tt
spends_tame s (suc left) f is all = all left (sym is)

next_if : (n : ℕ) (b : Bool) (x y : Next) → Tame n (Some x) → Tame n (Some y) → Tame n (Some (cond b x y))
next_if n true x y p q = p
next_if n false x y p q = q

enters_tame : (n : ℕ) (f : Code) (given : List Val) (s : State) → s.fuel ≤ n → Tame n (Some (enters f given s))
enters_tame n f given s le = next_if n (length s.callers == most_callers) (traps cause.TooDeep s) (On (record s { call = begun f given; callers = s.call ∷ s.callers })) tt le

calls_tame : (s : State) (o : Option Code) → Tame s.fuel (calls o s)
calls_tame s None = tt
calls_tame s (Some f) =
    bind_tame s.fuel (split (reverse (take f.params f.locals)) s.call.operands) (λ parts. Some (spends (on_with s parts.1) s.fuel (enters f (reverse parts.0))))
    (λ parts. spends_tame (on_with s parts.1) s.fuel (enters f (reverse parts.0)) refl (λ (left : ℕ) (e : suc left ≡ s.fuel). enters_tame s.fuel f (reverse parts.0)
    (record (on_with s parts.1) { fuel = left }) (omega arith)))

leaves_tame : (callers : List Call) (given : List Val) (s : State) → Tame s.fuel (Some (leaves callers given s))
leaves_tame [] given s = tt
leaves_tame (c ∷ callers) given s = same s.fuel

stores_tame : (s : State) (l : ℕ) (vs : List Val) (old : Option Val) → Tame s.fuel (stores s l vs old)
stores_tame s l [] old = tt
stores_tame s l (v ∷ vs) None = tt
stores_tame s l (v ∷ vs) (Some old) =
    if_tame s.fuel (same_kind (kind_of old) (kind_of v)) (Some (On (on_with (record s { call = record s.call { locals = slice_set s.call.locals l v } }) vs))) None (same s.fuel) tt

drops_tame : (s : State) (vs : List Val) → Tame s.fuel (drops s vs)
drops_tame s [] = tt
drops_tame s (v ∷ vs) = same s.fuel

few : (ns : List ℕ) (b : Bool) → leb (sum ns) 65536 ≡ b → (widths : List ℕ) → cond b (Some ns) None ≡ Some widths → sum widths ≤ 65536
few ns true is widths e = let at : ns ≡ widths = cc in subst (λ (ws : List ℕ). sum ws ≤ 65536) at (leb-true (sum ns) 65536 is)
few ns false is widths e = absurd cc

few_widths : (o : Option (List ℕ)) (widths : List ℕ) → unless_too_many o ≡ Some widths → sum widths ≤ 65536
few_widths None widths e = absurd cc
few_widths (Some ns) widths e = few ns (leb (sum ns) 65536) refl widths e

opens_tame : (b : ℕ) (s : State) (o : Option (List ℕ)) → ((widths : List ℕ) → o ≡ Some widths → sum widths ≤ 65536) → Tame s.fuel (Some (opens b s o))
opens_tame b s None small = tt
opens_tame b s (Some widths) small = spends_tame s s.fuel (λ s'. Opens b widths s') refl (λ left e. (omega arith, small widths refl))

prints_tame : (m : Module) (s : State) (items : List PrintItem) (routine : Bool) → Tame s.fuel (prints m s items routine)
prints_tame m s items true = tt
prints_tame m s items false = bind_tame s.fuel (pieces m items s.call.operands) (λ x. Some (Prints (line_of x.0) (on_with s x.1))) (λ x. same s.fuel)

blocks_tame : (m : Module) (s : State) (b n : ℕ) (routine : Bool) → Tame s.fuel (opens_blocks m s b n routine)
blocks_tame m s b n true = tt
blocks_tame m s b n false =
    if_tame s.fuel (nat_lt (length m.blocks) (b + n)) None (many_numbers n s.call.operands >>= (λ x. Some (opens b (on_with s x.1) (step_widths x.0)))) tt
    (bind_tame s.fuel (many_numbers n s.call.operands) (λ x. Some (opens b (on_with s x.1) (step_widths x.0))) (λ x. opens_tame b (on_with s x.1) (step_widths x.0) (few_widths (naturals x.0))))

branch_tame : (s : State) (t : ℕ) (b : Bool) (vs : List Val) → Tame s.fuel (Some (On (cond b (on_with s vs) (at_target s t vs))))
branch_tame s t true vs = same s.fuel
branch_tame s t false vs = same s.fuel

reads_tame : (m : Module) (s : State) (b n : ℕ) (x : ℤ × List Val) → Tame s.fuel (reads_item m s b n x)
reads_tame m s b n x =
    if_tame s.fuel (nat_lt m.words (b + n)) None (at_item m s (item_at b n x.0) (λ a. On (on_with s (Int (read_word s.store a) ∷ x.1)))) tt
    (item_tame m s (item_at b n x.0) (λ a. On (on_with s (Int (read_word s.store a) ∷ x.1))) (λ a. same s.fuel))

writes_tame : (m : Module) (s : State) (b n : ℕ) (value : ℕ → Result ℤ Cause) (index : ℤ) (vs : List Val) → Tame s.fuel (writes_item m s b n value index vs)
writes_tame m s b n value index vs =
    if_tame s.fuel (nat_lt m.words (b + n)) None (at_item m s (item_at b n index) (λ a. leaves_store s vs (writes s.store a (value a)))) tt
    (item_tame m s (item_at b n index) (λ a. leaves_store s vs (writes s.store a (value a))) (λ a. store_tame s vs (writes s.store a (value a))))

-- the step of an instruction
step_tame : (m : Module) (x : Instr) (s : State) → Tame s.fuel (step m x s)
step_tame m (i.Int z) s = same s.fuel
step_tame m i.False s = same s.fuel
step_tame m i.True s = same s.fuel
step_tame m i.Add s = bind_tame s.fuel (numbers s.call.operands) (λ x. Some (pushes s x.2 (checked (x.0 +ℤ x.1)))) (λ x. pushes_tame s x.2 (checked (x.0 +ℤ x.1)))
step_tame m i.Sub s = bind_tame s.fuel (numbers s.call.operands) (λ x. Some (pushes s x.2 (checked (x.0 -ℤ x.1)))) (λ x. pushes_tame s x.2 (checked (x.0 -ℤ x.1)))
step_tame m i.Mul s = bind_tame s.fuel (numbers s.call.operands) (λ x. Some (pushes s x.2 (checked (x.0 *ℤ x.1)))) (λ x. pushes_tame s x.2 (checked (x.0 *ℤ x.1)))
step_tame m i.Div s = bind_tame s.fuel (numbers s.call.operands) (λ x. Some (pushes s x.2 (quotient x.0 x.1))) (λ x. pushes_tame s x.2 (quotient x.0 x.1))
step_tame m i.Rem s = bind_tame s.fuel (numbers s.call.operands) (λ x. Some (pushes s x.2 (remainder x.0 x.1))) (λ x. pushes_tame s x.2 (remainder x.0 x.1))
step_tame m i.Neg s = bind_tame s.fuel (number s.call.operands) (λ x. Some (pushes s x.1 (checked (neg_ℤ x.0)))) (λ x. pushes_tame s x.1 (checked (neg_ℤ x.0)))
step_tame m i.Not s = bind_tame s.fuel (truth s.call.operands) (λ x. Some (On (on_with s (Truth (not x.0) ∷ x.1)))) (λ x. same s.fuel)
step_tame m i.Eq s = bind_tame s.fuel (equal s.call.operands) (λ x. Some (On (on_with s (Truth x.0 ∷ x.1)))) (λ x. same s.fuel)
step_tame m i.Ne s = bind_tame s.fuel (equal s.call.operands) (λ x. Some (On (on_with s (Truth (not x.0) ∷ x.1)))) (λ x. same s.fuel)
step_tame m i.Lt s = bind_tame s.fuel (numbers s.call.operands) (λ x. Some (On (on_with s (Truth (int_lt x.0 x.1) ∷ x.2)))) (λ x. same s.fuel)
step_tame m i.Le s = bind_tame s.fuel (numbers s.call.operands) (λ x. Some (On (on_with s (Truth (int_le x.0 x.1) ∷ x.2)))) (λ x. same s.fuel)
step_tame m i.Gt s = bind_tame s.fuel (numbers s.call.operands) (λ x. Some (On (on_with s (Truth (int_lt x.1 x.0) ∷ x.2)))) (λ x. same s.fuel)
step_tame m i.Ge s = bind_tame s.fuel (numbers s.call.operands) (λ x. Some (On (on_with s (Truth (int_le x.1 x.0) ∷ x.2)))) (λ x. same s.fuel)
step_tame m (i.Load l) s = bind_tame s.fuel (slice_get s.call.locals l) (λ v. Some (On (on_with s (v ∷ s.call.operands)))) (λ v. same s.fuel)
step_tame m (i.Store l) s = stores_tame s l s.call.operands (slice_get s.call.locals l)
step_tame m (i.Word a) s = using_tame s.fuel m s a (On (on_with s (Int (read_word s.store a) ∷ s.call.operands))) (same s.fuel)
step_tame m (i.Put a) s = bind_tame s.fuel (number s.call.operands) (λ x. using m s a (On (record (on_with s x.1) { store = write_word s.store a x.0 })))
    (λ x. using_tame s.fuel m s a (On (record (on_with s x.1) { store = write_word s.store a x.0 })) (same s.fuel))
step_tame m (i.AddWord a) s = bind_tame s.fuel (number s.call.operands) (λ x. cond (nat_lt a m.words) (Some (leaves_store s x.1 (add_word s.store a x.0))) None)
    (λ x. if_tame s.fuel (nat_lt a m.words) (Some (leaves_store s x.1 (add_word s.store a x.0))) None (store_tame s x.1 (add_word s.store a x.0)) tt)
step_tame m (i.Item b n) s = bind_tame s.fuel (number s.call.operands) (λ x. reads_item m s b n x) (λ x. reads_tame m s b n x)
step_tame m (i.SetItem b n) s = bind_tame s.fuel (numbers s.call.operands) (λ x. writes_item m s b n (λ a. Ok x.1) x.0 x.2) (λ x. writes_tame m s b n (λ a. Ok x.1) x.0 x.2)
step_tame m (i.AddItem b n) s = bind_tame s.fuel (numbers s.call.operands) (λ x. writes_item m s b n (λ a. checked (read_word s.store a +ℤ x.1)) x.0 x.2)
    (λ x. writes_tame m s b n (λ a. checked (read_word s.store a +ℤ x.1)) x.0 x.2)
step_tame m (i.Jump t) s = same s.fuel
step_tame m (i.Branch t) s = bind_tame s.fuel (truth s.call.operands) (λ x. Some (On (cond x.0 (on_with s x.1) (at_target s t x.1)))) (λ x. branch_tame s t x.0 x.1)
step_tame m (i.Loop t) s = spends_tame s s.fuel (λ s'. On (at_target s' t s.call.operands)) refl (λ left e. omega arith)
step_tame m (i.Call f) s = calls_tame s (slice_get m.functions f)
step_tame m i.Return s = bind_tame s.fuel (given_back s.call.code.gives s.call.operands) (λ vs. Some (leaves s.callers vs s)) (λ vs. leaves_tame s.callers vs s)
step_tame m i.Pop s = drops_tame s s.call.operands
step_tame m i.Assert s = bind_tame s.fuel (truth s.call.operands) (λ x. Some (cond x.0 (On (on_with s x.1)) (traps cause.Assertion s)))
    (λ x. next_if s.fuel x.0 (On (on_with s x.1)) (traps cause.Assertion s) (same s.fuel) tt)
step_tame m (i.Print items) s = prints_tame m s items (in_routine s.store)
step_tame m (i.Par b n) s = blocks_tame m s b n (in_routine s.store)

next_tame : (m : Module) (s : State) → Tame s.fuel (next m s)
next_tame m s = bind_tame s.fuel (slice_get s.call.code.instrs s.call.place) (λ instr. step m instr s) (λ x. step_tame m x s)

-- a step has no more routines than its widths say
pub length_answers : (m : Module) (fuel : ℕ) (opening : Memory) (blocks : List Code) (widths : List ℕ) → length (answers m fuel opening blocks widths) ≤ sum widths
length_answers m fuel opening [] widths = omega arith
length_answers m fuel opening (block ∷ blocks) [] = omega arith
length_answers m fuel opening (block ∷ blocks) (w ∷ widths) =
    let own : length (map (λ id. answered (routine_outcome m block w id opening fuel)) (range_with_len 0 w)) ≡ w = length-map-range_with_len
    (λ id. answered (routine_outcome m block w id opening fuel)) 0 w in
    let both : length (answers m fuel opening (block ∷ blocks) (w ∷ widths)) ≡ length (map (λ id. answered (routine_outcome m block w id opening fuel)) (range_with_len 0 w)) + length
    (answers m fuel opening blocks widths) = length-append (map (λ id. answered (routine_outcome m block w id opening fuel)) (range_with_len 0 w)) (answers m fuel opening blocks widths) in
    let together : sum (w ∷ widths) ≡ w + sum widths = sum_by-cons (λ x. x) w widths in
    let others : length (answers m fuel opening blocks widths) ≤ sum widths = length_answers m fuel opening blocks widths in
    omega arith

-- main goes on with numbered steps where it does behind each step of the machine
numbered_at : (m : Module) (whole steps n : ℕ) (more : ℕ → State → outline.Main) (o : Option Next) → Tame n o → ((k : ℕ) (s : State) → IsNumbered k (more k s))
    → IsNumbered steps (main_at m whole steps more o)
numbered_at m whole steps n more None h all = tt
numbered_at m whole steps n more (Some (On s)) h all = all steps s
numbered_at m whole steps n more (Some (Prints line s)) h all = all steps s
numbered_at m whole steps n more (Some (Opens first widths s)) h all =
    (refl, (let most = length_answers m whole (memory_in s.store) (blocks_of m first (length widths)) widths in omega (arith, most, h.1)), λ later. all (suc steps) (record s { store = Main later }))
numbered_at m whole steps n more (Some (Ends store left)) h all = tt
numbered_at m whole steps n more (Some (Traps c store left)) h all = tt

numbered_from : (m : Module) (whole bound steps : ℕ) (s : State) → IsNumbered steps (main_from m whole bound steps s)
numbered_from m whole zero steps s = tt
numbered_from m whole (suc bound) steps s = numbered_at m whole steps s.fuel (λ k later. main_from m whole bound k later) (next m s) (next_tame m s) (λ k later. numbered_from m whole bound k later)

-- and it takes units where it does
units_at : (m : Module) (whole steps n units : ℕ) (more : ℕ → State → outline.Main) (o : Option Next) → Tame n o → n ≤ units → ((k left : ℕ) (s : State) → s.fuel ≤ left → TakesUnits left (more k s))
    → TakesUnits units (main_at m whole steps more o)
units_at m whole steps n units more None h le all = tt
units_at m whole steps n units more (Some (On s)) h le all = all steps units s (omega arith)
units_at m whole steps n units more (Some (Prints line s)) h le all = all steps units s (omega arith)
units_at m whole steps n units more (Some (Opens first widths s)) h le all =
    (units - 1, omega (arith, h.0, le), λ later. all (suc steps) (units - 1) (record s { store = Main later }) (omega (arith, h.0, le)))
units_at m whole steps n units more (Some (Ends store left)) h le all = tt
units_at m whole steps n units more (Some (Traps c store left)) h le all = tt

units_from : (m : Module) (whole bound steps units : ℕ) (s : State) → s.fuel ≤ units → TakesUnits units (main_from m whole bound steps s)
units_from m whole zero steps units s le = tt
units_from m whole (suc bound) steps units s le = units_at m whole steps s.fuel units (λ k later. main_from m whole bound k later) (next m s) (next_tame m s) le
    (λ k left later more. units_from m whole bound k left later more)

pub steps_are_numbered : StepsAreNumbered
steps_are_numbered m fuel = numbered_from m fuel (most_steps m (main_beginning m (module_memory m) fuel) + 1) 0 (main_beginning m (module_memory m) fuel)

pub steps_take_units : StepsTakeUnits
steps_take_units m fuel = units_from m fuel (most_steps m (main_beginning m (module_memory m) fuel) + 1) 0 fuel (main_beginning m (module_memory m) fuel) (same fuel)
