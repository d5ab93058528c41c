-- A step from a state that fits leads to one that fits, and there always is one.
use Rattle.std.proofs.Common.{◌≡◌, ◌≢◌, ℕ, zero, suc, ◌+◌, ◌-◌, ◌*◌, ◌<◌, ◌≤◌, Bool, true, false, not, cond, ltb, List, [], ◌∷◌, ◌++◌, length, take, drop, Option, Some, None, Result, Ok, Err, refl}
use Rattle.std.proofs.Common.{sym, ap, subst, ◌∙◌, arith, map, reverse}
use Rattle.std.specs.Prelude.{ℤ, pos, negsuc, ◌+ℤ◌, ◌&&◌, ◌||◌, slice_get, slice_set, ◌==◌, IsTrue}
use Rattle.std.specs.Option.{option_map}
use Rattle.std.specs.List.{AllByRecursion, Contains, list_any}
use Rattle.std.proofs.lemmas.Bool.{lt-ltb, le-ltb, eq-eqb, ltb-true, eqb-true, eqb-false}
use Rattle.std.proofs.lemmas.Option.{slice_get_within}
use Rattle.std.proofs.lemmas.List.{map-append, reverse-reverse, reverse-append, take-append-drop}
use Rattle.cal_base.specs.declared.ends.Cause.{Cause}
use Rattle.cal_base.specs.declared.ends.Cause.TheVariants as cause
use Rattle.cal_base.specs.declared.value.Val.{Val}
use Rattle.cal_base.specs.declared.value.Val.TheVariants.{Int, Truth}
use Rattle.cal_base.specs.declared.value.Store.{Store}
use Rattle.cal_base.specs.declared.value.Store.TheVariants.{Main, Routine}
use Rattle.cal_base.specs.Arithmetic.{checked}
use Rattle.cal_base.specs.Stores.{read_word, write_word, add_word, with_sum, base_of}
use Rattle.cal_base.specs.Printing.{shown, line_of}
use Rattle.cal_base.specs.Widths.{step_widths}
use Rattle.bytecode.specs.declared.instr.PrintItem.{PrintItem}
use Rattle.bytecode.specs.declared.instr.PrintItem.TheVariants as item
use Rattle.bytecode.specs.declared.instr.Instr.{Instr}
use Rattle.bytecode.specs.declared.instr.Instr.TheVariants as i
use Rattle.cal_terms.specs.declared.types.Ty.{Ty}
use Rattle.cal_terms.specs.declared.types.Ty.TheVariants as ty
use Rattle.cal_terms.specs.declared.types.Gives.{Gives}
use Rattle.cal_terms.specs.declared.types.Gives.TheVariants as gives
use Rattle.bytecode.specs.declared.module.Code.{Code}
use Rattle.bytecode.specs.declared.module.Module.{Module}
use Rattle.code_verify.specs.Kinds as kinds
use Rattle.code_verify.specs.Kinds.{Kinds, after, below, swaps, compares, result, parameters, items_kinds, item_kinds, ints, same_kind}
use Rattle.code_verify.specs.Rules.{KindsAt, IsRight, leads, HasText, IsTally, HoldsNoTally, UsesTally}
use Rattle.machine_meaning.specs.Machine.{◌>>=◌, kind_of, first_value, Call, State, Next, On, Prints, Opens, Ends, Traps, number, truth, numbers, equal, split, many_numbers, on_with, at_target}
use Rattle.machine_meaning.specs.Machine.{pushes, leaves_store, writes, in_routine, is_tally, may_use, using, item_at, at_item, spends, begun, most_callers, enters, calls, given_back, leaves, stores}
use Rattle.machine_meaning.specs.Machine.{drops, pieces, prints, opens, opens_blocks, step}
use Rattle.machine_meaning.specs.Runs.{instructions, ahead, all_ahead, most_steps}
use Rattle.machine_meaning.specs.Fitting.{MayRun, Runs, IsCall, Wait, Fits}

-- there is a step, and where it leads fits; only main has events
abbrev pub Good : Bool → (State → Type 0) → Option Next → Type 0
Good r Q None = ⊥
Good r Q (Some (On s)) = Q s
Good r Q (Some (Prints line s)) = (r ≡ false) × Q s
Good r Q (Some (Opens first widths s)) = (r ≡ false) × Q s
Good r Q (Some (Ends store fuel)) = Unit {0}
Good r Q (Some (Traps c store fuel)) = Unit {0}

some_is : {A : Type 0} (x y : A) (o : Option A) → o ≡ Some x → o ≡ Some y → x ≡ y
some_is x y o p q = cc

-- ---- operands of known kinds

a_number : (r : Bool) (Q : State → Type 0) (pushed rest : Kinds) (f : ℤ × List Val → Option Next) (vs : List Val) → swaps (ty.Int ∷ []) pushed (map kind_of vs) ≡ Some rest
    → ((z : ℤ) (more : List Val) → rest ≡ pushed ++ map kind_of more → Good r Q (f (z, more))) → Good r Q (number vs >>= f)
a_number r Q pushed rest f [] h go = absurd cc
a_number r Q pushed rest f (Int z ∷ vs) h go = go z vs cc
a_number r Q pushed rest f (Truth b ∷ vs) h go = absurd cc

a_truth : (r : Bool) (Q : State → Type 0) (pushed rest : Kinds) (f : Bool × List Val → Option Next) (vs : List Val) → swaps (ty.Bool ∷ []) pushed (map kind_of vs) ≡ Some rest
    → ((b : Bool) (more : List Val) → rest ≡ pushed ++ map kind_of more → Good r Q (f (b, more))) → Good r Q (truth vs >>= f)
a_truth r Q pushed rest f [] h go = absurd cc
a_truth r Q pushed rest f (Truth b ∷ vs) h go = go b vs cc
a_truth r Q pushed rest f (Int z ∷ vs) h go = absurd cc

two_numbers : (r : Bool) (Q : State → Type 0) (pushed rest : Kinds) (f : ℤ × ℤ × List Val → Option Next) (vs : List Val) → swaps (ty.Int ∷ ty.Int ∷ []) pushed (map kind_of vs) ≡ Some rest
    → ((x y : ℤ) (more : List Val) → rest ≡ pushed ++ map kind_of more → Good r Q (f (x, y, more))) → Good r Q (numbers vs >>= f)
two_numbers r Q pushed rest f [] h go = absurd cc
two_numbers r Q pushed rest f (Truth b ∷ vs) h go = absurd cc
two_numbers r Q pushed rest f (Int y ∷ []) h go = absurd cc
two_numbers r Q pushed rest f (Int y ∷ Truth b ∷ vs) h go = absurd cc
two_numbers r Q pushed rest f (Int y ∷ Int x ∷ vs) h go = go x y vs cc

two_equal : (r : Bool) (Q : State → Type 0) (rest : Kinds) (f : Bool × List Val → Option Next) (vs : List Val) → compares (map kind_of vs) ≡ Some rest
    → ((b : Bool) (more : List Val) → rest ≡ ty.Bool ∷ map kind_of more → Good r Q (f (b, more))) → Good r Q (equal vs >>= f)
two_equal r Q rest f [] h go = absurd cc
two_equal r Q rest f (Truth b ∷ []) h go = absurd cc
two_equal r Q rest f (Int y ∷ []) h go = absurd cc
two_equal r Q rest f (Int y ∷ Truth b ∷ vs) h go = absurd cc
two_equal r Q rest f (Truth b ∷ Int x ∷ vs) h go = absurd cc
two_equal r Q rest f (Int y ∷ Int x ∷ vs) h go = go _ vs cc
two_equal r Q rest f (Truth y ∷ Truth x ∷ vs) h go = go _ vs cc

dropped : (r : Bool) (Q : State → Type 0) (s : State) (rest : Kinds) (vs : List Val) → kinds.drops (map kind_of vs) ≡ Some rest → ((more : List Val) → rest ≡ map kind_of more → Q (on_with s more))
    → Good r Q (drops s vs)
dropped r Q s rest [] h go = absurd cc
dropped r Q s rest (v ∷ vs) h go = go vs cc

some_numbers : (r : Bool) (Q : State → Type 0) (n : ℕ) (rest : Kinds) (f : List ℤ × List Val → Option Next) (vs : List Val) → below (ints n) (map kind_of vs) ≡ Some rest
    → ((zs : List ℤ) (more : List Val) → rest ≡ map kind_of more → Good r Q (f (zs, more))) → Good r Q (many_numbers n vs >>= f)
some_numbers r Q zero rest f vs h go = go [] vs cc
some_numbers r Q (suc n) rest f [] h go = absurd cc
some_numbers r Q (suc n) rest f (Truth b ∷ vs) h go = absurd cc
some_numbers r Q (suc n) rest f (Int z ∷ vs) h go = through (many_numbers n vs) (some_numbers r Q n rest (λ x. f (x.0 ++ z ∷ [], x.1)) vs h (λ zs more e. go (zs ++ z ∷ []) more e))
  where
    through : (o : Option (List ℤ × List Val)) → Good r Q (o >>= (λ x. f (x.0 ++ z ∷ [], x.1))) → Good r Q (o >>= (λ others. Some (others.0 ++ z ∷ [], others.1)) >>= f)
    through (Some x) h = h
    through None h = h

split_off : (r : Bool) (Q : State → Type 0) (ks rest : Kinds) (f : List Val × List Val → Option Next) (vs : List Val) → below ks (map kind_of vs) ≡ Some rest
    → ((front more : List Val) → map kind_of front ≡ ks → rest ≡ map kind_of more → Good r Q (f (front, more))) → Good r Q (split ks vs >>= f)
split_off r Q [] rest f vs h go = go [] vs refl cc
split_off r Q (k ∷ ks) rest f [] h go = absurd cc
split_off r Q (ty.Int ∷ ks) rest f (Truth b ∷ vs) h go = absurd cc
split_off r Q (ty.Bool ∷ ks) rest f (Int z ∷ vs) h go = absurd cc
split_off r Q (ty.Int ∷ ks) rest f (Int z ∷ vs) h go = through (split ks vs) (split_off r Q ks rest (λ x. f (Int z ∷ x.0, x.1)) vs h
    (λ front more e g. go (Int z ∷ front) more (ap (λ (l : Kinds). ty.Int ∷ l) e) g))
  where
    through : (o : Option (List Val × List Val)) → Good r Q (o >>= (λ x. f (Int z ∷ x.0, x.1))) → Good r Q (o >>= (λ parts. Some (Int z ∷ parts.0, parts.1)) >>= f)
    through (Some x) h = h
    through None h = h
split_off r Q (ty.Bool ∷ ks) rest f (Truth b ∷ vs) h go = through (split ks vs) (split_off r Q ks rest (λ x. f (Truth b ∷ x.0, x.1)) vs h
    (λ front more e g. go (Truth b ∷ front) more (ap (λ (l : Kinds). ty.Bool ∷ l) e) g))
  where
    through : (o : Option (List Val × List Val)) → Good r Q (o >>= (λ x. f (Truth b ∷ x.0, x.1))) → Good r Q (o >>= (λ parts. Some (Truth b ∷ parts.0, parts.1)) >>= f)
    through (Some x) h = h
    through None h = h

-- what swaps finds
pub swap_found : (popped pushed ks rest : Kinds) → swaps popped pushed ks ≡ Some rest → (more : Kinds) × (below popped ks ≡ Some more) × (rest ≡ pushed ++ more)
swap_found popped pushed ks rest h = cases (below popped ks) h
  where
    cases : (o : Option Kinds) → option_map (λ (r : Kinds). pushed ++ r) o ≡ Some rest → (more : Kinds) × (o ≡ Some more) × (rest ≡ pushed ++ more)
    cases None h = absurd cc
    cases (Some more) h = (more, refl, cc)

-- ---- words that may be used

tally_contained : (ts : List ℕ) (a : ℕ) → list_any (λ t. t == a) ts ≡ true → Contains ts a
tally_contained [] a e = absurd cc
tally_contained (t ∷ ts) a e = tested (t == a) refl e (λ later. tally_contained ts a later)
  where
    tested : (b : Bool) → (t == a) ≡ b → (b || list_any (λ t. t == a) ts) ≡ true → (list_any (λ t. t == a) ts ≡ true → Contains ts a) → Contains (t ∷ ts) a
    tested true p e rest = (0, omega arith, eqb-true t a p)
    tested false p e rest = let more = rest e in (suc more.0, (let lt = more.1 in omega (arith, lt)), more.2)

usable : (m : Module) (r : Bool) (store : Store) (a : ℕ) → in_routine store ≡ r → a < m.words → (IsTrue r → IsTally m a → ⊥) → may_use m store a ≡ true
usable m r store a owner lt barred = ap (λ (b : Bool). b && not (in_routine store && is_tally m a)) (lt-ltb a m.words lt) ∙ by_owner r owner barred
  where
    by_tally : (b : Bool) → is_tally m a ≡ b → (IsTally m a → ⊥) → not b ≡ true
    by_tally false e barred = refl
    by_tally true e barred = absurd (barred (tally_contained m.tallies a e))

    by_owner : (r : Bool) → in_routine store ≡ r → (IsTrue r → IsTally m a → ⊥) → not (in_routine store && is_tally m a) ≡ true
    by_owner false e barred = ap (λ (b : Bool). not (b && is_tally m a)) e
    by_owner true e barred = ap (λ (b : Bool). not (b && is_tally m a)) e ∙ by_tally (is_tally m a) refl (barred refl)

write_owner : (store : Store) (a : ℕ) (z : ℤ) → in_routine (write_word store a z) ≡ in_routine store
write_owner (Main memory) a z = refl
write_owner (Routine opening written) a z = refl

-- the store that is left has the owner of the one before
abbrev KeepsOwner : Store → Result Store Cause → Type 0
KeepsOwner before (Ok store) = in_routine store ≡ in_routine before
KeepsOwner before (Err c) = Unit {0}

writes_owner : (store : Store) (a : ℕ) (value : Result ℤ Cause) → KeepsOwner store (writes store a value)
writes_owner store a (Ok z) = write_owner store a z
writes_owner store a (Err c) = tt

sum_owner : (store : Store) (a : ℕ) (value : Result ℤ Cause) → KeepsOwner store (with_sum store a value)
sum_owner store a (Ok z) = write_owner store a z
sum_owner store a (Err c) = tt

item_within : (b n : ℕ) (z : ℤ) (a : ℕ) → item_at b n z ≡ Some a → (b ≤ a) × (a < b + n)
item_within b n (negsuc x) a e = absurd cc
item_within b n (pos x) a e = tested (ltb x n) refl e
  where
    tested : (t : Bool) → ltb x n ≡ t → cond t (Some (b + x)) None ≡ Some a → (b ≤ a) × (a < b + n)
    tested false p e = absurd cc
    tested true p e = let lt = ltb-true x n p in let same : b + x ≡ a = cc in (omega (arith, same), omega (arith, same, lt))

-- ---- one instruction, in a state that fits

module _ (m : Module) (r : Bool) (callee : (f : ℕ) (c : Code) → slice_get m.functions f ≡ Some c → (IsTrue r → UsesTally m f → ⊥) → Runs m r c) where
  -- the state fits, and fewer steps are ahead of it
  abbrev pub Follows : State → State → Type 0
  Follows s s' = Fits m r s' × (most_steps m s' < most_steps m s)

  within : (taken : List Kinds) (c : Code) (place : ℕ) (ks : Kinds) → length taken ≡ length c.instrs → KindsAt taken place ks → place < length c.instrs
  within taken c place ks e h = let lt = slice_get_within taken place ks h in omega (arith, lt, e)

  module _ (s : State) (fits : Fits m r s) (instr : Instr) (stands : slice_get s.call.code.instrs s.call.place ≡ Some instr) where
    abbrev taken : List Kinds
    taken = fits.call.runs.sound.taken

    -- where the instruction leads, the list is what it leaves
    goes : (to : ℕ) (rest : Kinds) → leads instr s.call.place to ≡ true → after m s.call.code instr (map kind_of s.call.operands) ≡ Some rest → KindsAt taken to rest
    goes to rest led left = fits.call.runs.sound.is_taken.comes to rest (record { place = s.call.place; instr = instr; here = map kind_of s.call.operands; stands = stands; taken_with = fits.call.operands; leads_on = led; leaves = left })

    here_within : s.call.place < length s.call.code.instrs
    here_within = within taken s.call.code s.call.place (map kind_of s.call.operands) fits.call.runs.sound.is_taken.each fits.call.operands

    -- the state behind the instruction, with this store
    store_fits : (store : Store) → in_routine store ≡ r → (rest : Kinds) → leads instr s.call.place (s.call.place + 1) ≡ true → after m s.call.code instr (map kind_of s.call.operands) ≡ Some rest
        → (vs : List Val) → rest ≡ map kind_of vs → Follows s (record (on_with s vs) { store = store })
    store_fits store owner rest led left vs e =
        let lt : s.call.place < length s.call.code.instrs = here_within in
        (record { owner = owner; call = record { runs = fits.call.runs; locals = fits.call.locals; operands = subst (λ (ks : Kinds). KindsAt taken (s.call.place + 1) ks) e (goes (s.call.place + 1) rest led left) }; waits = fits.waits; few = fits.few }, omega arith)

    -- the state behind the instruction
    on_fits : (rest : Kinds) → leads instr s.call.place (s.call.place + 1) ≡ true → after m s.call.code instr (map kind_of s.call.operands) ≡ Some rest → (vs : List Val) → rest ≡ map kind_of vs
        → Follows s (on_with s vs)
    on_fits rest led left vs e = store_fits s.store fits.owner rest led left vs e

    -- the state at the instruction's target
    at_fits : (t : ℕ) (rest : Kinds) → s.call.place < t → leads instr s.call.place t ≡ true → after m s.call.code instr (map kind_of s.call.operands) ≡ Some rest → (vs : List Val)
        → rest ≡ map kind_of vs → Follows s (at_target s t vs)
    at_fits t rest far led left vs e =
        let lt : s.call.place < length s.call.code.instrs = here_within in
        (record { owner = fits.owner; call = record { runs = fits.call.runs; locals = fits.call.locals; operands = subst (λ (ks : Kinds). KindsAt taken t ks) e (goes t rest led left) }; waits = fits.waits; few = fits.few }, omega arith)

  same_place : (n : ℕ) → (n == n) ≡ true
  same_place n = eq-eqb n n refl

  push_good : (Q : State → Type 0) (s : State) (vs : List Val) (value : Result ℤ Cause) → ((z : ℤ) → Q (on_with s (Int z ∷ vs))) → Good r Q (Some (pushes s vs value))
  push_good Q s vs (Ok z) h = h z
  push_good Q s vs (Err c) h = tt

  leave_store_good : (Q : State → Type 0) (s : State) (vs : List Val) (value : Result Store Cause) → KeepsOwner s.store value
      → ((store : Store) → in_routine store ≡ in_routine s.store → Q (record (on_with s vs) { store = store })) → Good r Q (Some (leaves_store s vs value))
  leave_store_good Q s vs (Ok store) keeps h = h store keeps
  leave_store_good Q s vs (Err c) keeps h = tt

  if_true : (Q : State → Type 0) (b : Bool) (n : Next) → b ≡ true → Good r Q (Some n) → Good r Q (cond b (Some n) None)
  if_true Q true n e h = h
  if_true Q false n e h = absurd cc

  unless : (Q : State → Type 0) (b : Bool) (o : Option Next) → b ≡ false → Good r Q o → Good r Q (cond b None o)
  unless Q false o e h = h
  unless Q true o e h = absurd cc

  use_good : (Q : State → Type 0) (s : State) (a : ℕ) (n : Next) → in_routine s.store ≡ r → a < m.words → (IsTrue r → IsTally m a → ⊥) → Good r Q (Some n) → Good r Q (using m s a n)
  use_good Q s a n owner lt barred h = if_true Q (may_use m s.store a) n (usable m r s.store a owner lt barred) h

  item_good : (Q : State → Type 0) (s : State) (o : Option ℕ) (f : ℕ → Next) → ((a : ℕ) → o ≡ Some a → Good r Q (using m s a (f a))) → Good r Q (at_item m s o f)
  item_good Q s None f h = tt
  item_good Q s (Some a) f h = h a refl

  -- an item of an array that holds no tally word
  array_good : (Q : State → Type 0) (s : State) (b n : ℕ) (z : ℤ) (f : ℕ → Next) → in_routine s.store ≡ r → b + n ≤ m.words → HoldsNoTally m b n → ((a : ℕ) → Good r Q (Some (f a)))
      → Good r Q (cond (ltb m.words (b + n)) None (at_item m s (item_at b n z) f))
  array_good Q s b n z f owner le plain h =
      unless Q (ltb m.words (b + n)) (at_item m s (item_at b n z) f) (le-ltb _ _ le)
      (item_good Q s (item_at b n z) f (λ a e. let inside = item_within b n z a e in use_good Q s a (f a) owner (omega (arith, inside.1, le)) (λ yes is. plain a inside.0 inside.1 is) (h a)))

  spend_good : (Q : State → Type 0) (s : State) (fuel : ℕ) (f : State → Next) → ((left : ℕ) → fuel ≡ suc left → Good r Q (Some (f (record s { fuel = left })))) → Good r Q (Some (spends s fuel f))
  spend_good Q s zero f h = tt
  spend_good Q s (suc left) f h = h left refl

  either : (Q : State → Type 0) (b : Bool) (s s' : State) → Q s → Q s' → Good r Q (Some (On (cond b s s')))
  either Q true s s' h h' = h
  either Q false s s' h h' = h'

  assert_good : (Q : State → Type 0) (b : Bool) (s s' : State) → Q s → Good r Q (Some (cond b (On s) (Traps cause.Assertion s'.store s'.fuel)))
  assert_good Q true s s' h = h
  assert_good Q false s s' h = tt

  open_good : (Q : State → Type 0) (s : State) (b : ℕ) (o : Option (List ℕ)) → r ≡ false → ((left : ℕ) → s.fuel ≡ suc left → Q (record s { fuel = left })) → Good r Q (Some (opens b s o))
  open_good Q s b None main h = tt
  open_good Q s b (Some widths) main h = spend_good Q s s.fuel (λ s'. Opens b widths s') (λ left unit. (main, h left unit))

  -- ---- locals

  local_found : (vs : List Val) (ks : List Ty) (l : ℕ) → map kind_of vs ≡ ks → l < length ks → (v : Val) × (slice_get vs l ≡ Some v) × (slice_get ks l ≡ Some (kind_of v))
  local_found [] [] l e lt = absurd (omega arith)
  local_found [] (k ∷ ks) l e lt = absurd cc
  local_found (v ∷ vs) [] l e lt = absurd cc
  local_found (v ∷ vs) (k ∷ ks) zero e lt = (v, refl, cc)
  local_found (v ∷ vs) (k ∷ ks) (suc l) e lt =
      let less : l < length ks = omega arith in
      let same : map kind_of vs ≡ ks = cc in
      local_found vs ks l same less

  set_kind : (vs : List Val) (l : ℕ) (v old : Val) → slice_get vs l ≡ Some old → kind_of v ≡ kind_of old → map kind_of (slice_set vs l v) ≡ map kind_of vs
  set_kind [] l v old e k = refl
  set_kind (x ∷ vs) zero v old e k = let g : kind_of v ≡ kind_of x = cc in ap (λ (t : Ty). t ∷ map kind_of vs) g
  set_kind (x ∷ vs) (suc l) v old e k = ap (λ (t : Kinds). kind_of x ∷ t) (set_kind vs l v old e k)

  -- ---- a call and a return

  first_kinds : (ks : List Ty) → map kind_of (map first_value ks) ≡ ks
  first_kinds [] = refl
  first_kinds (ty.Int ∷ ks) = ap (λ (l : Kinds). ty.Int ∷ l) (first_kinds ks)
  first_kinds (ty.Bool ∷ ks) = ap (λ (l : Kinds). ty.Bool ∷ l) (first_kinds ks)

  kinds_reverse : (vs : List Val) → map kind_of (reverse vs) ≡ reverse (map kind_of vs)
  kinds_reverse [] = refl
  kinds_reverse (v ∷ vs) =
      ap (λ (l : List Val). map kind_of l) (reverse-append (v ∷ []) vs) ∙ map-append kind_of (reverse vs) (v ∷ []) ∙ ap (λ (l : Kinds). l ++ kind_of v ∷ []) (kinds_reverse vs)
      ∙ sym (reverse-append (kind_of v ∷ []) (map kind_of vs))

  pub begun_fits : (f : Code) → Runs m r f → (args : List Val) → map kind_of args ≡ take f.params f.locals → IsCall m r [] (begun f args)
  begun_fits f ok args e = record {
    runs = ok;
    locals = map-append kind_of args (map first_value (drop f.params f.locals)) ∙ rw (e, first_kinds (drop f.params f.locals)) (take-append-drop f.params f.locals);
    operands = ok.sound.is_taken.first;
  }

  enter_good : (Q : State → Type 0) (f : Code) (args : List Val) (s : State) → (length s.callers ≢ most_callers → Q (record s { call = begun f args; callers = s.call ∷ s.callers }))
      → Good r Q (Some (enters f args s))
  enter_good Q f args s h = tested (length s.callers == most_callers) refl
    where
      tested : (t : Bool) → (length s.callers == most_callers) ≡ t → Good r Q (Some (cond t (Traps cause.TooDeep s.store s.fuel) (On (record s { call = begun f args; callers = s.call ∷ s.callers }))))
      tested true e = tt
      tested false e = h (eqb-false (length s.callers) most_callers e)

  leave_good : (Q : State → Type 0) (callers : List Call) (vs : List Val) (s : State) → ((c : Call) (rest : List Call) → callers ≡ c ∷ rest
      → Q (record s { call = record c { operands = vs ++ c.operands }; callers = rest })) → Good r Q (Some (leaves callers vs s))
  leave_good Q [] vs s h = tt
  leave_good Q (c ∷ callers) vs s h = h c callers refl

  return_good : (Q : State → Type 0) (g : Gives) (vs : List Val) (s : State) (callers : List Call) (rest : Kinds) → swaps (result g) [] (map kind_of vs) ≡ Some rest → rest ≡ []
      → ((back : List Val) → map kind_of back ≡ result g → (c : Call) (others : List Call) → callers ≡ c ∷ others
      → Q (record s { call = record c { operands = back ++ c.operands }; callers = others }))
      → Good r Q (given_back g vs >>= (λ given. Some (leaves callers given s)))
  return_good Q gives.Nothing [] s callers rest h e w = leave_good Q callers [] s (w [] refl)
  return_good Q gives.Nothing (v ∷ vs) s callers rest h e w = absurd cc
  return_good Q gives.Int [] s callers rest h e w = absurd cc
  return_good Q gives.Int (Truth b ∷ vs) s callers rest h e w = absurd cc
  return_good Q gives.Int (Int z ∷ []) s callers rest h e w = leave_good Q callers (Int z ∷ []) s (w (Int z ∷ []) refl)
  return_good Q gives.Int (Int z ∷ v ∷ vs) s callers rest h e w = absurd cc
  return_good Q gives.Bool [] s callers rest h e w = absurd cc
  return_good Q gives.Bool (Int z ∷ vs) s callers rest h e w = absurd cc
  return_good Q gives.Bool (Truth b ∷ []) s callers rest h e w = leave_good Q callers (Truth b ∷ []) s (w (Truth b ∷ []) refl)
  return_good Q gives.Bool (Truth b ∷ v ∷ vs) s callers rest h e w = absurd cc

  call_good : (Q : State → Type 0) (s : State) (o : Option Code) (rest : Kinds)
      → kinds.calls o (map kind_of s.call.operands) ≡ Some rest
      → ((f : Code) (args more : List Val) (left : ℕ) → o ≡ Some f → map kind_of args ≡ take f.params f.locals → rest ≡ result f.gives ++ map kind_of more → s.fuel ≡ suc left
      → length s.callers ≢ most_callers → Q (record s { call = begun f args; callers = (on_with s more).call ∷ s.callers; fuel = left }))
      → Good r Q (calls o s)
  call_good Q s None rest h go = absurd cc
  call_good Q s (Some f) rest h go =
      let found = swap_found (parameters f) (result f.gives) (map kind_of s.call.operands) rest h in
      split_off r Q (parameters f) found.0 (λ parts. Some (spends (on_with s parts.1) s.fuel (enters f (reverse parts.0)))) s.call.operands found.1
      (λ front more e g.
      let args : map kind_of (reverse front) ≡ take f.params f.locals = kinds_reverse front ∙ ap (λ (l : Kinds). reverse l) e ∙ reverse-reverse (take f.params f.locals) in
      let left : rest ≡ result f.gives ++ map kind_of more = found.2 ∙ ap (λ (l : Kinds). result f.gives ++ l) g in
      spend_good Q (on_with s more) s.fuel (enters f (reverse front)) (λ fuel unit. enter_good Q f (reverse front) (record (on_with s more) { fuel = fuel })
      (λ room. go f (reverse front) more fuel refl args left unit room)))

  -- ---- a printed line

  below_parts : (a b ks rest : Kinds) → below (a ++ b) ks ≡ Some rest → (mid : Kinds) × (below a ks ≡ Some mid) × (below b mid ≡ Some rest)
  below_parts [] b ks rest h = (ks, refl, h)
  below_parts (k ∷ a) b [] rest h = absurd cc
  below_parts (ty.Int ∷ a) b (ty.Int ∷ ks) rest h = below_parts a b ks rest h
  below_parts (ty.Bool ∷ a) b (ty.Bool ∷ ks) rest h = below_parts a b ks rest h
  below_parts (ty.Int ∷ a) b (ty.Bool ∷ ks) rest h = absurd cc
  below_parts (ty.Bool ∷ a) b (ty.Int ∷ ks) rest h = absurd cc

  number_below : (vs : List Val) (rest : Kinds) → below (ty.Int ∷ []) (map kind_of vs) ≡ Some rest → (x : ℤ × List Val) × (number vs ≡ Some x) × (rest ≡ map kind_of x.1)
  number_below [] rest h = absurd cc
  number_below (Int z ∷ vs) rest h = ((z, vs), refl, cc)
  number_below (Truth b ∷ vs) rest h = absurd cc

  truth_below : (vs : List Val) (rest : Kinds) → below (ty.Bool ∷ []) (map kind_of vs) ≡ Some rest → (x : Bool × List Val) × (truth vs ≡ Some x) × (rest ≡ map kind_of x.1)
  truth_below [] rest h = absurd cc
  truth_below (Truth b ∷ vs) rest h = ((b, vs), refl, cc)
  truth_below (Int z ∷ vs) rest h = absurd cc

  text_found : (index : ℕ) (texts : List (List ℕ)) → index < length texts → (t : List ℕ) × (slice_get texts index ≡ Some t)
  text_found index [] lt = absurd (omega arith)
  text_found zero (t ∷ texts) lt = (t, refl)
  text_found (suc index) (t ∷ texts) lt = let less : index < length texts = omega arith in text_found index texts less

  pieces_good : (items : List PrintItem) (rest : Kinds) (vs : List Val) → AllByRecursion (HasText m) items → below (items_kinds items) (map kind_of vs) ≡ Some rest
      → (x : List (List ℕ) × List Val) × (pieces m items vs ≡ Some x) × (rest ≡ map kind_of x.1)
  pieces_good [] rest vs texts h = (([], vs), refl, cc)
  pieces_good (item.Text index ∷ items) rest vs texts h =
      let parts = below_parts (items_kinds items) [] (map kind_of vs) rest h in
      let others = pieces_good items parts.0 vs texts.1 parts.1 in
      let text = text_found index m.texts texts.0 in
      let same : parts.0 ≡ rest = cc (parts.2) in
      ((text.0 ∷ others.0.0, others.0.1), rw (others.1, text.1) refl, sym same ∙ others.2)
  pieces_good (item.Int ∷ items) rest vs texts h =
      let parts = below_parts (items_kinds items) (ty.Int ∷ []) (map kind_of vs) rest h in
      let others = pieces_good items parts.0 vs texts.1 parts.1 in
      let last = number_below others.0.1 rest (subst (λ (ks : Kinds). below (ty.Int ∷ []) ks ≡ Some rest) others.2 parts.2) in
      ((shown (Int last.0.0) ∷ others.0.0, last.0.1), rw (others.1, last.1) refl, last.2)
  pieces_good (item.Truth ∷ items) rest vs texts h =
      let parts = below_parts (items_kinds items) (ty.Bool ∷ []) (map kind_of vs) rest h in
      let others = pieces_good items parts.0 vs texts.1 parts.1 in
      let last = truth_below others.0.1 rest (subst (λ (ks : Kinds). below (ty.Bool ∷ []) ks ≡ Some rest) others.2 parts.2) in
      ((shown (Truth last.0.0) ∷ others.0.0, last.0.1), rw (others.1, last.1) refl, last.2)

  pub bind_good : (Q : State → Type 0) {A : Type 0} (o : Option A) (f : A → Option Next) (x : A) → o ≡ Some x → Good r Q (f x) → Good r Q (o >>= f)
  bind_good Q o f x e h = subst (λ (q : Option _). Good r Q (q >>= f)) (sym e) h

  branch_on : (b : Bool) (n : ℕ) → cond b true (n == n) ≡ true
  branch_on true n = refl
  branch_on false n = same_place n

  one_below : (k k' : Ty) (ks rest : Kinds) → below (k ∷ []) (k' ∷ ks) ≡ Some rest → (k ≡ k') × (rest ≡ ks)
  one_below ty.Int ty.Int ks rest h = (refl, cc)
  one_below ty.Bool ty.Bool ks rest h = (refl, cc)
  one_below ty.Int ty.Bool ks rest h = absurd cc
  one_below ty.Bool ty.Int ks rest h = absurd cc

  same_kinds : (v old : Val) → kind_of v ≡ kind_of old → same_kind (kind_of old) (kind_of v) ≡ true
  same_kinds (Int x) (Int y) e = refl
  same_kinds (Truth x) (Truth y) e = refl
  same_kinds (Int x) (Truth y) e = absurd cc
  same_kinds (Truth x) (Int y) e = absurd cc

  nothing_below : (k : Ty) (rest : Kinds) → below (k ∷ []) [] ≡ Some rest → ⊥
  nothing_below k rest h = cc

  store_good : (Q : State → Type 0) (s : State) (l : ℕ) (rest : Kinds) (vs : List Val) (old : Val) → below (kind_of old ∷ []) (map kind_of vs) ≡ Some rest
      → ((v : Val) (more : List Val) → kind_of v ≡ kind_of old → rest ≡ map kind_of more → Q (on_with (record s { call = record s.call { locals = slice_set s.call.locals l v } }) more))
      → Good r Q (stores s l vs (Some old))
  store_good Q s l rest [] old h go = absurd (nothing_below (kind_of old) rest h)
  store_good Q s l rest (v ∷ vs) old h go =
      let found = one_below (kind_of old) (kind_of v) (map kind_of vs) rest h in
      if_true Q (same_kind (kind_of old) (kind_of v)) _ (same_kinds v old (sym found.0)) (go v vs (sym found.0) found.1)

  loop_falls : (left fuel all long t place more : ℕ) → fuel ≡ suc left → long ≤ all → left * (all + 1) + (long - t + more) < fuel * (all + 1) + (long - place + more)
  loop_falls left fuel all long t place more e h = rw e (omega arith)

  call_falls : (left fuel all new long place more : ℕ) → fuel ≡ suc left → new ≤ all → place < long
      → left * (all + 1) + (new - 0 + (long - (place + 1) + more)) < fuel * (all + 1) + (long - place + more)
  call_falls left fuel all new long place more e h lt = rw e (omega arith)

  returned : (s : State) → Fits m r s → s.call.place < length s.call.code.instrs → (back : List Val) → map kind_of back ≡ result s.call.code.gives → (c : Call) (others : List Call)
      → s.callers ≡ c ∷ others → Follows s (record s { call = record c { operands = back ++ c.operands }; callers = others })
  returned s fits lt back kinds_ok c others e =
      let w : Wait m r s.call.code.gives (c ∷ others) = subst (λ (l : List Call). Wait m r s.call.code.gives l) e fits.waits in
      let kinds_are : result s.call.code.gives ++ map kind_of c.operands ≡ map kind_of (back ++ c.operands) = sym
      (map-append kind_of back c.operands ∙ ap (λ (l : Kinds). l ++ map kind_of c.operands) kinds_ok) in
      let less : all_ahead s.callers ≡ ahead c + all_ahead others = ap all_ahead e in
      let fewer : length s.callers ≡ suc (length others) = ap length e in
      let few = fits.few in
      (record { owner = fits.owner; call = record { runs = w.0.runs; locals = w.0.locals; operands = subst (λ (ks : Kinds). KindsAt w.0.runs.sound.taken c.place ks) kinds_are w.0.operands }; waits = w.1; few = omega (arith, few, fewer) }, omega (arith, less, lt))

  open_follows : (s : State) (left : ℕ) → s.fuel ≡ suc left → (more : List Val) → Follows s (on_with s more) → Follows s (record (on_with s more) { fuel = left })
  open_follows s left e more h = (record { owner = h.0.owner; call = h.0.call; waits = h.0.waits; few = h.0.few }, falls s.fuel e h.1)
    where
      falls : (fuel : ℕ) → fuel ≡ suc left → fuel * (instructions m + 1) + (ahead (on_with s more).call + all_ahead s.callers) < fuel * (instructions m + 1) + (ahead s.call + all_ahead s.callers)
          → left * (instructions m + 1) + (ahead (on_with s more).call + all_ahead s.callers) < fuel * (instructions m + 1) + (ahead s.call + all_ahead s.callers)
      falls fuel e lt = rw e (omega arith)

  print_good : (Q : State → Type 0) (s : State) (items : List PrintItem) (rest : Kinds) → in_routine s.store ≡ r → r ≡ false → AllByRecursion (HasText m) items
      → below (items_kinds items) (map kind_of s.call.operands) ≡ Some rest → ((vs : List Val) → rest ≡ map kind_of vs → Q (on_with s vs)) → Good r Q (prints m s items (in_routine s.store))
  print_good Q s items rest owner main texts h go =
      let line = pieces_good items rest s.call.operands texts h in
      subst (λ (b : Bool). Good r Q (prints m s items b)) (sym (owner ∙ main)) (bind_good Q (pieces m items s.call.operands) (λ x. Some (Prints (line_of x.0) (on_with s x.1))) line.0 line.1
      (main, go line.0.1 line.2))

  par_good : (Q : State → Type 0) (s : State) (b n : ℕ) (rest : Kinds) → in_routine s.store ≡ r → r ≡ false → b + n ≤ length m.blocks → below (ints n) (map kind_of s.call.operands) ≡ Some rest
      → ((vs : List Val) (left : ℕ) → s.fuel ≡ suc left → rest ≡ map kind_of vs → Q (record (on_with s vs) { fuel = left })) → Good r Q (opens_blocks m s b n (in_routine s.store))
  par_good Q s b n rest owner main le h go =
      subst (λ (t : Bool). Good r Q (opens_blocks m s b n t)) (sym (owner ∙ main))
      (unless Q (ltb (length m.blocks) (b + n)) (many_numbers n s.call.operands >>= (λ x. Some (opens b (on_with s x.1) (step_widths x.0)))) (le-ltb _ _ le)
      (some_numbers r Q n rest (λ x. Some (opens b (on_with s x.1) (step_widths x.0))) s.call.operands h
      (λ zs more e. open_good Q (on_with s more) b (step_widths zs) main (λ left unit. go more left unit e))))

  -- there is a step, and where it leads fits
  pub step_good : (s : State) → Fits m r s → (instr : Instr) → slice_get s.call.code.instrs s.call.place ≡ Some instr → Good r (Follows s) (step m instr s)
  step_good s fits instr stands = by_instr instr stands (fits.call.runs.sound.right s.call.place instr (map kind_of s.call.operands) stands fits.call.operands)
      (fits.call.runs.may s.call.place instr stands)
    where
      by_instr : (x : Instr) → slice_get s.call.code.instrs s.call.place ≡ Some x → IsRight m s.call.code fits.call.runs.sound.taken s.call.place x (map kind_of s.call.operands) → MayRun m r x
          → Good r (Follows s) (step m x s)
      by_instr (i.Int z) st k may = on_fits s fits (i.Int z) st _ (same_place _) refl (Int z ∷ s.call.operands) refl
      by_instr i.False st k may = on_fits s fits i.False st _ (same_place _) refl (Truth false ∷ s.call.operands) refl
      by_instr i.True st k may = on_fits s fits i.True st _ (same_place _) refl (Truth true ∷ s.call.operands) refl
      by_instr i.Add st k may = two_numbers r (Follows s) (ty.Int ∷ []) k.finds.0 _ s.call.operands k.finds.1
          (λ x y more e. push_good (Follows s) s more _ (λ z. on_fits s fits i.Add st k.finds.0 (same_place _) k.finds.1 (Int z ∷ more) e))
      by_instr i.Sub st k may = two_numbers r (Follows s) (ty.Int ∷ []) k.finds.0 _ s.call.operands k.finds.1
          (λ x y more e. push_good (Follows s) s more _ (λ z. on_fits s fits i.Sub st k.finds.0 (same_place _) k.finds.1 (Int z ∷ more) e))
      by_instr i.Mul st k may = two_numbers r (Follows s) (ty.Int ∷ []) k.finds.0 _ s.call.operands k.finds.1
          (λ x y more e. push_good (Follows s) s more _ (λ z. on_fits s fits i.Mul st k.finds.0 (same_place _) k.finds.1 (Int z ∷ more) e))
      by_instr i.Div st k may = two_numbers r (Follows s) (ty.Int ∷ []) k.finds.0 _ s.call.operands k.finds.1
          (λ x y more e. push_good (Follows s) s more _ (λ z. on_fits s fits i.Div st k.finds.0 (same_place _) k.finds.1 (Int z ∷ more) e))
      by_instr i.Rem st k may = two_numbers r (Follows s) (ty.Int ∷ []) k.finds.0 _ s.call.operands k.finds.1
          (λ x y more e. push_good (Follows s) s more _ (λ z. on_fits s fits i.Rem st k.finds.0 (same_place _) k.finds.1 (Int z ∷ more) e))
      by_instr i.Neg st k may = a_number r (Follows s) (ty.Int ∷ []) k.finds.0 _ s.call.operands k.finds.1
          (λ x more e. push_good (Follows s) s more _ (λ z. on_fits s fits i.Neg st k.finds.0 (same_place _) k.finds.1 (Int z ∷ more) e))
      by_instr i.Not st k may = a_truth r (Follows s) (ty.Bool ∷ []) k.finds.0 _ s.call.operands k.finds.1 (λ b more e. on_fits s fits i.Not st k.finds.0 (same_place _) k.finds.1 (Truth _ ∷ more) e)
      by_instr i.Eq st k may = two_equal r (Follows s) k.finds.0 _ s.call.operands k.finds.1 (λ b more e. on_fits s fits i.Eq st k.finds.0 (same_place _) k.finds.1 (Truth _ ∷ more) e)
      by_instr i.Ne st k may = two_equal r (Follows s) k.finds.0 _ s.call.operands k.finds.1 (λ b more e. on_fits s fits i.Ne st k.finds.0 (same_place _) k.finds.1 (Truth _ ∷ more) e)
      by_instr i.Lt st k may = two_numbers r (Follows s) (ty.Bool ∷ []) k.finds.0 _ s.call.operands k.finds.1
          (λ x y more e. on_fits s fits i.Lt st k.finds.0 (same_place _) k.finds.1 (Truth _ ∷ more) e)
      by_instr i.Le st k may = two_numbers r (Follows s) (ty.Bool ∷ []) k.finds.0 _ s.call.operands k.finds.1
          (λ x y more e. on_fits s fits i.Le st k.finds.0 (same_place _) k.finds.1 (Truth _ ∷ more) e)
      by_instr i.Gt st k may = two_numbers r (Follows s) (ty.Bool ∷ []) k.finds.0 _ s.call.operands k.finds.1
          (λ x y more e. on_fits s fits i.Gt st k.finds.0 (same_place _) k.finds.1 (Truth _ ∷ more) e)
      by_instr i.Ge st k may = two_numbers r (Follows s) (ty.Bool ∷ []) k.finds.0 _ s.call.operands k.finds.1
          (λ x y more e. on_fits s fits i.Ge st k.finds.0 (same_place _) k.finds.1 (Truth _ ∷ more) e)
      by_instr (i.Load l) st k may =
          let found = local_found s.call.locals s.call.code.locals l fits.call.locals k.in_range in
          let left : after m s.call.code (i.Load l) (map kind_of s.call.operands) ≡ Some (kind_of found.0 ∷ map kind_of s.call.operands) = ap
          (λ (o : Option Ty). kinds.loads o (map kind_of s.call.operands)) found.2 in
          bind_good (Follows s) (slice_get s.call.locals l) _ found.0 found.1 (on_fits s fits (i.Load l) st (kind_of found.0 ∷ map kind_of s.call.operands) (same_place _) left
          (found.0 ∷ s.call.operands) refl)
      by_instr (i.Store l) st k may =
          let found = local_found s.call.locals s.call.code.locals l fits.call.locals k.in_range in
          let taken_off : below (kind_of found.0 ∷ []) (map kind_of s.call.operands) ≡ Some k.finds.0 = sym (ap (λ (o : Option Ty). kinds.stores o (map kind_of s.call.operands)) found.2)
          ∙ k.finds.1 in
          let old : slice_get s.call.locals l ≡ Some found.0 = found.1 in
          subst (λ (o : Option Val). Good r (Follows s) (stores s l s.call.operands o)) (sym old)
          (store_good (Follows s) s l k.finds.0 s.call.operands found.0 taken_off
          (λ v more same e.
          let on = on_fits s fits (i.Store l) st k.finds.0 (same_place (s.call.place + 1)) k.finds.1 more e in
          (record { owner = fits.owner; call = record { runs = fits.call.runs; locals = set_kind s.call.locals l v found.0 old same ∙ fits.call.locals; operands = subst (λ (ks : Kinds). KindsAt fits.call.runs.sound.taken (s.call.place + 1) ks) e (goes s fits (i.Store l) st (s.call.place + 1) k.finds.0 (same_place (s.call.place + 1)) k.finds.1) }; waits = fits.waits; few = fits.few }, on.1)))
      by_instr (i.Word a) st k may = use_good (Follows s) s a _ fits.owner k.in_range may (on_fits s fits (i.Word a) st _ (same_place _) refl (Int _ ∷ s.call.operands) refl)
      by_instr (i.Put a) st k may = a_number r (Follows s) [] k.finds.0 _ s.call.operands k.finds.1
          (λ x more e. use_good (Follows s) s a _ fits.owner k.in_range may (store_fits s fits (i.Put a) st (write_word s.store a x) (write_owner s.store a x ∙ fits.owner) k.finds.0 (same_place _)
          k.finds.1 more e))
      by_instr (i.AddWord a) st k may = a_number r (Follows s) [] k.finds.0 _ s.call.operands k.finds.1
          (λ x more e. if_true (Follows s) (ltb a m.words) _ (lt-ltb _ _ k.in_range) (leave_store_good (Follows s) s more (add_word s.store a x)
          (sum_owner s.store a (checked (base_of s.store a +ℤ x))) (λ store owner. store_fits s fits (i.AddWord a) st store (owner ∙ fits.owner) k.finds.0 (same_place _) k.finds.1 more e)))
      by_instr (i.Item b n) st k may = a_number r (Follows s) (ty.Int ∷ []) k.finds.0 _ s.call.operands k.finds.1
          (λ x more e. array_good (Follows s) s b n x (λ a. On (on_with s (Int (read_word s.store a) ∷ more))) fits.owner k.in_range.1 may
          (λ a. on_fits s fits (i.Item b n) st k.finds.0 (same_place _) k.finds.1 (Int (read_word s.store a) ∷ more) e))
      by_instr (i.SetItem b n) st k may = two_numbers r (Follows s) [] k.finds.0 _ s.call.operands k.finds.1
          (λ x y more e. array_good (Follows s) s b n x (λ a. leaves_store s more (writes s.store a (Ok y))) fits.owner k.in_range.1 may
          (λ a. leave_store_good (Follows s) s more (writes s.store a (Ok y)) (writes_owner s.store a (Ok y))
          (λ store owner. store_fits s fits (i.SetItem b n) st store (owner ∙ fits.owner) k.finds.0 (same_place _) k.finds.1 more e)))
      by_instr (i.AddItem b n) st k may = two_numbers r (Follows s) [] k.finds.0 _ s.call.operands k.finds.1
          (λ x y more e. array_good (Follows s) s b n x (λ a. leaves_store s more (writes s.store a (checked (read_word s.store a +ℤ y)))) fits.owner k.in_range.1 may
          (λ a. leave_store_good (Follows s) s more (writes s.store a (checked (read_word s.store a +ℤ y))) (writes_owner s.store a (checked (read_word s.store a +ℤ y)))
          (λ store owner. store_fits s fits (i.AddItem b n) st store (owner ∙ fits.owner) k.finds.0 (same_place _) k.finds.1 more e)))
      by_instr (i.Jump t) st k may = at_fits s fits (i.Jump t) st t _ k.ahead (same_place t) refl s.call.operands refl
      by_instr (i.Branch t) st k may =
          a_truth r (Follows s) [] k.finds.0 _ s.call.operands k.finds.1
          (λ b more e. either (Follows s) b (on_with s more) (at_target s t more) (on_fits s fits (i.Branch t) st k.finds.0 (branch_on (t == s.call.place + 1) (s.call.place + 1)) k.finds.1 more e)
          (at_fits s fits (i.Branch t) st t k.finds.0 k.ahead (rw (same_place t) refl) k.finds.1 more e))
      by_instr (i.Loop t) st k may =
          let small_code : length s.call.code.instrs ≤ instructions m = fits.call.runs.small in
          spend_good (Follows s) s s.fuel (λ s'. On (at_target s' t s.call.operands)) (λ left unit. (record { owner = fits.owner; call = record { runs = fits.call.runs; locals = fits.call.locals; operands = k.back }; waits = fits.waits; few = fits.few }, loop_falls left s.fuel (instructions m) (length s.call.code.instrs) t s.call.place (all_ahead s.callers) unit small_code))
      by_instr (i.Call f) st k may =
          call_good (Follows s) s (slice_get m.functions f) k.finds.0 k.finds.1
          (λ g args more left at_f kinds_ok e unit room.
          let runs_g = callee f g at_f may in
          let few = fits.few in
          let waits : IsCall m r (result g.gives) (on_with s more).call = record { runs = fits.call.runs; locals = fits.call.locals; operands = subst (λ (ks : Kinds). KindsAt fits.call.runs.sound.taken (s.call.place + 1) ks) e (goes s fits (i.Call f) st (s.call.place + 1) k.finds.0 (same_place (s.call.place + 1)) k.finds.1) } in
          (record { owner = fits.owner; call = begun_fits g runs_g args kinds_ok; waits = (waits, fits.waits); few = omega (arith, few, room) }, call_falls left s.fuel (instructions m) (length g.instrs) (length s.call.code.instrs) s.call.place (all_ahead s.callers) unit runs_g.small (here_within s fits (i.Call f) st)))
      by_instr i.Return st k may =
          return_good (Follows s) s.call.code.gives s.call.operands s s.callers k.finds.0 k.finds.1 k.finds.2
          (λ back kinds_ok c others e. returned s fits (here_within s fits i.Return st) back kinds_ok c others e)
      by_instr i.Pop st k may = dropped r (Follows s) s k.finds.0 s.call.operands k.finds.1 (λ more e. on_fits s fits i.Pop st k.finds.0 (same_place _) k.finds.1 more e)
      by_instr i.Assert st k may = a_truth r (Follows s) [] k.finds.0 _ s.call.operands k.finds.1
          (λ b more e. assert_good (Follows s) b (on_with s more) s (on_fits s fits i.Assert st k.finds.0 (same_place _) k.finds.1 more e))
      by_instr (i.Print items) st k may =
          let found = swap_found (items_kinds items) [] (map kind_of s.call.operands) k.finds.0 k.finds.1 in
          print_good (Follows s) s items found.0 fits.owner may k.in_range found.1 (λ vs e. on_fits s fits (i.Print items) st k.finds.0 (same_place _) k.finds.1 vs (found.2 ∙ e))
      by_instr (i.Par b n) st k may =
          let found = swap_found (ints n) [] (map kind_of s.call.operands) k.finds.0 k.finds.1 in
          par_good (Follows s) s b n found.0 fits.owner may.0 may.1 found.1 (λ vs left unit e. open_follows s left unit vs
          (on_fits s fits (i.Par b n) st k.finds.0 (same_place (s.call.place + 1)) k.finds.1 vs (found.2 ∙ e)))
