-- The locals of the language and the machine's.
use Rattle.std.proofs.Common.{◌≡◌, ◌≢◌, ℕ, zero, suc, ◌≤◌, ◌<◌, Bool, true, false, if◌then◌else◌, List, [], ◌∷◌, ◌++◌, length, take, Option, Some, None, refl, ap, ◌∙◌, subst, arith}
use Rattle.std.specs.Prelude.{slice_get, slice_set}
use Rattle.std.specs.Str.{bytes_eq}
use Rattle.cal_base.specs.declared.value.Val.{Val}
use Rattle.csl_meaning.specs.Layout.{Text}
use Rattle.csl_meaning.specs.Locals.{Locals, declare, local_value, set_local}
use Rattle.cal_terms.specs.declared.types.Ty.{Ty}
use Rattle.compiled_code.specs.Slots.{Slot, Slots, slot_of, with_slot}

-- each visible local has its value in its slot
abbrev pub Agree : Slots → Locals → List Val → Type 0
Agree [] [] values = Unit {0}
Agree [] (l ∷ ls) values = ⊥
Agree (s ∷ ss) [] values = ⊥
Agree (s ∷ ss) (l ∷ ls) values = (s.name ≡ l.name) × (slice_get values s.number ≡ Some l.value) × Agree ss ls values

-- the numbers of the slots ascend, from this one on and below that one
abbrev pub Ascend : ℕ → Slots → ℕ → Type 0
Ascend from [] to = from ≤ to
Ascend from (s ∷ ss) to = (from ≤ s.number) × Ascend (suc s.number) ss to

-- ---- lists with another value

pub set_length : {A : Type 0} (xs : List A) (n : ℕ) (x : A) → length (slice_set xs n x) ≡ length xs
set_length [] n x = refl
set_length (y ∷ xs) zero x = refl
set_length (y ∷ xs) (suc n) x = let e = set_length xs n x in omega (arith, e)

set_same : {A : Type 0} (xs : List A) (n : ℕ) (x y : A) → slice_get xs n ≡ Some y → slice_get (slice_set xs n x) n ≡ Some x
set_same [] n x y e = absurd cc
set_same (z ∷ xs) zero x y e = refl
set_same (z ∷ xs) (suc n) x y e = set_same xs n x y e

set_other : {A : Type 0} (xs : List A) (n k : ℕ) (x : A) → k ≢ n → slice_get (slice_set xs n x) k ≡ slice_get xs k
set_other [] n k x ne = refl
set_other (z ∷ xs) zero zero x ne = absurd (ne refl)
set_other (z ∷ xs) zero (suc k) x ne = refl
set_other (z ∷ xs) (suc n) zero x ne = refl
set_other (z ∷ xs) (suc n) (suc k) x ne = set_other xs n k x (λ e. ne (ap suc e))

-- ---- agreement

pub agree_length : (ss : Slots) (ls : Locals) (values : List Val) → Agree ss ls values → length ss ≡ length ls
agree_length [] [] values h = refl
agree_length [] (l ∷ ls) values h = absurd h
agree_length (s ∷ ss) [] values h = absurd h
agree_length (s ∷ ss) (l ∷ ls) values h = let e = agree_length ss ls values h.2 in omega (arith, e)

-- what a name is: no local on both sides, or a local with its value in its slot
pub data Named (values : List Val) : Option Slot → Option Val → Type 0 where
  no_local : Named values None None
  a_local : (s : Slot) (v : Val) → slice_get values s.number ≡ Some v → Named values (Some s) (Some v)

pub named : (ss : Slots) (ls : Locals) (values : List Val) (name : Text) → Agree ss ls values → Named values (slot_of ss name) (local_value ls name)
named [] [] values name h = no_local
named [] (l ∷ ls) values name h = absurd h
named (s ∷ ss) [] values name h = absurd h
named (s ∷ ss) (l ∷ ls) values name h =
    subst (λ (n : Text). Named values (if bytes_eq s.name name then Some s else slot_of ss name) (if bytes_eq n name then Some l.value else local_value ls name)) h.0
    (by (bytes_eq s.name name) (named ss ls values name h.2))
  where
    by : (b : Bool) → Named values (slot_of ss name) (local_value ls name) → Named values (if b then Some s else slot_of ss name) (if b then Some l.value else local_value ls name)
    by true rest = a_local s l.value h.1
    by false rest = rest

-- a write to a slot that none of these has
above : (from : ℕ) (ss : Slots) (to : ℕ) (ls : Locals) (values : List Val) (n : ℕ) (x : Val) → Ascend from ss to → n < from → Agree ss ls values → Agree ss ls (slice_set values n x)
above from [] to [] values n x up lt h = tt
above from [] to (l ∷ ls) values n x up lt h = absurd h
above from (s ∷ ss) to [] values n x up lt h = absurd h
above from (s ∷ ss) to (l ∷ ls) values n x up lt h =
    let le = up.0 in
    let far : s.number ≢ n = λ e. omega (arith, e, le, lt) in
    (h.0, set_other values n s.number x far ∙ h.1, above (suc s.number) ss to ls values n x up.1 (omega (arith, le, lt)) h.2)

below : (from : ℕ) (ss : Slots) (to : ℕ) (ls : Locals) (values : List Val) (n : ℕ) (x : Val) → Ascend from ss to → to ≤ n → Agree ss ls values → Agree ss ls (slice_set values n x)
below from [] to [] values n x up le h = tt
below from [] to (l ∷ ls) values n x up le h = absurd h
below from (s ∷ ss) to [] values n x up le h = absurd h
below from (s ∷ ss) to (l ∷ ls) values n x up le h =
    let lt = ascend_ends (suc s.number) ss to up.1 in
    let far : s.number ≢ n = λ e. omega (arith, e, le, lt) in
    (h.0, set_other values n s.number x far ∙ h.1, below (suc s.number) ss to ls values n x up.1 le h.2)
  where
    ascend_ends : (from' : ℕ) (ts : Slots) (to' : ℕ) → Ascend from' ts to' → from' ≤ to'
    ascend_ends from' [] to' h' = h'
    ascend_ends from' (t ∷ ts) to' h' = let more = ascend_ends (suc t.number) ts to' h'.1 in let le' = h'.0 in omega (arith, more, le')

-- another value for a local, in its slot
pub set_agrees : (from : ℕ) (ss : Slots) (to : ℕ) (ls : Locals) (values : List Val) (name : Text) (s : Slot) (x : Val) → Ascend from ss to → Agree ss ls values → slot_of ss name ≡ Some s
    → Agree ss (set_local ls name x) (slice_set values s.number x)
set_agrees from [] to [] values name s x up h e = tt
set_agrees from [] to (l ∷ ls) values name s x up h e = absurd h
set_agrees from (t ∷ ss) to [] values name s x up h e = absurd h
set_agrees from (t ∷ ss) to (l ∷ ls) values name s x up h e =
    subst (λ (n : Text). Agree (t ∷ ss) (if bytes_eq n name then record l { value = x } ∷ ls else l ∷ set_local ls name x) (slice_set values s.number x)) h.0
    (by (bytes_eq t.name name) e (λ e'. set_agrees (suc t.number) ss to ls values name s x up.1 h.2 e') (λ e'. later (suc t.number) ss to name s up.1 e'))
  where
    later : (from' : ℕ) (ts : Slots) (to' : ℕ) (name' : Text) (s' : Slot) → Ascend from' ts to' → slot_of ts name' ≡ Some s' → from' ≤ s'.number
    later from' [] to' name' s' h' e' = absurd cc
    later from' (u ∷ ts) to' name' s' h' e' = which (bytes_eq u.name name') e' (λ e''. later (suc u.number) ts to' name' s' h'.1 e'')
      where
        which : (b : Bool) → (if b then Some u else slot_of ts name') ≡ Some s' → (slot_of ts name' ≡ Some s' → suc u.number ≤ s'.number) → from' ≤ s'.number
        which true same more = let is : u ≡ s' = cc in subst (λ (z : Slot). from' ≤ z.number) is h'.0
        which false same more = let far = more same in let le' = h'.0 in omega (arith, far, le')

    by : (b : Bool) → (if b then Some t else slot_of ss name) ≡ Some s → (slot_of ss name ≡ Some s → Agree ss (set_local ls name x) (slice_set values s.number x))
        → (slot_of ss name ≡ Some s → suc t.number ≤ s.number) → Agree (t ∷ ss) (if b then record l { value = x } ∷ ls else l ∷ set_local ls name x) (slice_set values s.number x)
    by true same more far =
        let is : t ≡ s = cc in
        subst (λ (z : Slot). Agree (t ∷ ss) (record l { value = x } ∷ ls) (slice_set values z.number x)) is
        (h.0, set_same values t.number x l.value h.1, above (suc t.number) ss to ls values t.number x up.1 (omega arith) h.2)
    by false same more far =
        let lt = far same in
        let apart : t.number ≢ s.number = λ e'. omega (arith, e', lt) in
        (h.0, set_other values s.number t.number x apart ∙ h.1, more same)

-- one more local, in a slot behind all others
pub declare_agrees : (from : ℕ) (ss : Slots) (to : ℕ) (ls : Locals) (values : List Val) (name : Text) (kind : Ty) (x old : Val) → Ascend from ss to → Agree ss ls values
    → slice_get values to ≡ Some old
    → Agree (with_slot ss name to kind) (declare ls name x) (slice_set values to x)
declare_agrees from [] to [] values name kind x old up h e = (refl, set_same values to x old e, tt)
declare_agrees from [] to (l ∷ ls) values name kind x old up h e = absurd h
declare_agrees from (s ∷ ss) to [] values name kind x old up h e = absurd h
declare_agrees from (s ∷ ss) to (l ∷ ls) values name kind x old up h e =
    let lt = ends (suc s.number) ss to up.1 in
    let far : s.number ≢ to = λ e'. omega (arith, e', lt) in
    (h.0, set_other values to s.number x far ∙ h.1, declare_agrees (suc s.number) ss to ls values name kind x old up.1 h.2 e)
  where
    ends : (from' : ℕ) (ts : Slots) (to' : ℕ) → Ascend from' ts to' → from' ≤ to'
    ends from' [] to' h' = h'
    ends from' (t ∷ ts) to' h' = let more = ends (suc t.number) ts to' h'.1 in let le' = h'.0 in omega (arith, more, le')

pub declare_ascends : (from : ℕ) (ss : Slots) (to : ℕ) (name : Text) (kind : Ty) → Ascend from ss to → Ascend from (with_slot ss name to kind) (suc to)
declare_ascends from [] to name kind up = (up, omega arith)
declare_ascends from (s ∷ ss) to name kind up = (up.0, declare_ascends (suc s.number) ss to name kind up.1)

-- slots may be kept below a higher number
pub ascends_more : (from : ℕ) (ss : Slots) (to to' : ℕ) → to ≤ to' → Ascend from ss to → Ascend from ss to'
ascends_more from [] to to' le up = omega arith
ascends_more from (s ∷ ss) to to' le up = (up.0, ascends_more (suc s.number) ss to to' le up.1)

-- the first locals agree with the first slots
pub take_agrees : (ss more : Slots) (ls : Locals) (values : List Val) → Agree (ss ++ more) ls values → Agree ss (take (length ss) ls) values
take_agrees [] more ls values h = tt
take_agrees (s ∷ ss) more [] values h = absurd h
take_agrees (s ∷ ss) more (l ∷ ls) values h = (h.0, h.1, take_agrees ss more ls values h.2)
