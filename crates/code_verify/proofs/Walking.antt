-- A walk through a code comes to its end exactly where the code has kinds for each place.
use Rattle.std.proofs.Common.{◌≡◌, ◌≢◌, ℕ, zero, suc, ◌+◌, ◌<◌, ◌≤◌, Bool, true, false, cond, ltb, eqb, List, [], ◌∷◌, ◌++◌, length, drop, Option, Some, None, ◌⊎◌, inl, inr, refl, sym, ap, subst, ◌∙◌}
use Rattle.std.proofs.Common.{arith}
use Rattle.std.specs.Prelude.{slice_get, slice_set, IsTrue, IsSome, ◌==◌, ◌↔◌}
use Rattle.std.proofs.lemmas.Bool.{eqb-true, eqb-false, eq-eqb, ltb-false, cases_lt}
use Rattle.std.proofs.lemmas.Option.{slice_get_within}
use Rattle.bytecode.specs.declared.instr.Instr.{Instr}
use Rattle.bytecode.specs.declared.instr.Instr.TheVariants as i
use Rattle.cal_terms.specs.declared.types.Ty.TheVariants as ty
use Rattle.bytecode.specs.declared.module.Code.{Code}
use Rattle.bytecode.specs.declared.module.Module.{Module}
use Rattle.code_verify.specs.Kinds.{Kinds, after}
use Rattle.code_verify.specs.Rules.{Stands, leads, LeavesNothing}
use Rattle.code_verify.specs.Walk.{◌>>=◌, Changes, Table, same_kinds, agreed, expects, looped, ended, goes_on, kinds_in, opened, goes_with, walk_at, walk, unknown}

-- ---- places of a list

pub set_same : {A : Type 0} (xs : List A) (n : ℕ) (x : A) → n < length xs → slice_get (slice_set xs n x) n ≡ Some x
set_same [] n x lt = absurd (omega arith)
set_same (y ∷ xs) zero x lt = refl
set_same (y ∷ xs) (suc n) x lt = let less : n < length xs = omega arith in set_same xs n x less

pub set_other : {A : Type 0} (xs : List A) (n m : ℕ) (x : A) → m ≢ n → slice_get (slice_set xs n x) m ≡ slice_get xs m
set_other [] n m x ne = refl
set_other (y ∷ xs) zero zero x ne = absurd (ne refl)
set_other (y ∷ xs) zero (suc m) x ne = refl
set_other (y ∷ xs) (suc n) zero x ne = refl
set_other (y ∷ xs) (suc n) (suc m) x ne = set_other xs n m x (λ e. ne (ap suc e))

pub set_long : {A : Type 0} (xs : List A) (n : ℕ) (x : A) → length (slice_set xs n x) ≡ length xs
set_long [] n x = refl
set_long (y ∷ xs) zero x = refl
set_long (y ∷ xs) (suc n) x = ap suc (set_long xs n x)

pub not_past : {A : Type 0} (xs : List A) (n : ℕ) → n < length xs → slice_get xs n ≡ None → ⊥
not_past [] n lt e = omega arith
not_past (x ∷ xs) zero lt e = cc
not_past (x ∷ xs) (suc n) lt e = let less : n < length xs = omega arith in not_past xs n less e

pub either_place : (q to : ℕ) → (q ≡ to) ⊎ (q ≢ to)
either_place q to = tested (eqb q to) refl
  where
    tested : (b : Bool) → eqb q to ≡ b → (q ≡ to) ⊎ (q ≢ to)
    tested true e = inl (eqb-true q to e)
    tested false e = inr (eqb-false q to e)

pub some_is : {A : Type 0} (x y : A) (o : Option A) → o ≡ Some x → o ≡ Some y → x ≡ y
some_is x y o p q = cc

-- what a change says, by its answer
pub changed : {A : Type 0} (b : Bool) (later : A) (given : Option A) → Changes b later given → b ≡ true → given ≡ Some later
changed true later given h e = h
changed false later given h e = absurd cc

pub unchanged : {A : Type 0} (b : Bool) (later : A) (given : Option A) → Changes b later given → b ≡ false → given ≡ None
unchanged false later given h e = h
unchanged true later given h e = absurd cc

-- ---- kinds are compared

pub same_itself : (ks : Kinds) → same_kinds ks ks ≡ true
same_itself [] = refl
same_itself (ty.Int ∷ ks) = same_itself ks
same_itself (ty.Bool ∷ ks) = same_itself ks

same_true : (ks js : Kinds) → same_kinds ks js ≡ true → ks ≡ js
same_true [] [] e = refl
same_true [] (j ∷ js) e = absurd cc
same_true (k ∷ ks) [] e = absurd cc
same_true (ty.Int ∷ ks) (ty.Int ∷ js) e = ap (λ (l : Kinds). ty.Int ∷ l) (same_true ks js e)
same_true (ty.Bool ∷ ks) (ty.Bool ∷ js) e = ap (λ (l : Kinds). ty.Bool ∷ l) (same_true ks js e)
same_true (ty.Int ∷ ks) (ty.Bool ∷ js) e = absurd cc
same_true (ty.Bool ∷ ks) (ty.Int ∷ js) e = absurd cc

changes_by : (b : Bool) (table : Table) (known ks : Kinds) → IsTrue b ↔ (known ≡ ks) → Changes b table (cond (same_kinds known ks) (Some table) None)
changes_by true table known ks h = ap (λ (t : Bool). cond t (Some table) None) (ap (λ (l : Kinds). same_kinds l ks) (h.0 refl) ∙ same_itself ks)
changes_by false table known ks h = tested (same_kinds known ks) refl
  where
    tested : (t : Bool) → same_kinds known ks ≡ t → cond t (Some table) None ≡ None
    tested false e = refl
    tested true e = let no : false ≡ true = h.1 (same_true known ks e) in absurd cc

-- a place of which kinds are known, where they are compared
pub expects_by : (b : Bool) (table : Table) (to : ℕ) (known ks : Kinds) → slice_get table to ≡ Some (Some known) → IsTrue b ↔ (known ≡ ks) → Changes b table (expects table to ks)
expects_by b table to known ks e h = subst (λ (o : Option (Option Kinds)). Changes b table (agreed table to ks o)) (sym e) (changes_by b table known ks h)

pub looped_by : (b : Bool) (table : Table) (to : ℕ) (known ks : Kinds) → slice_get table to ≡ Some (Some known) → IsTrue b ↔ (known ≡ ks) → Changes b table (looped table ks (slice_get table to))
looped_by b table to known ks e h = subst (λ (o : Option (Option Kinds)). Changes b table (looped table ks o)) (sym e) (changes_by b table known ks h)

-- ---- what a table knows more than another

-- the table knows these kinds of the place
abbrev pub At : Table → ℕ → Kinds → Type 0
At table place ks = slice_get table place ≡ Some (Some ks)

pub at_one : (t : Table) (q : ℕ) (ks js : Kinds) → At t q ks → At t q js → ks ≡ js
at_one t q ks js p e = cc

-- the second table knows what the first does, these kinds of this place, and nothing else
pub record Told (t u : Table) (to : ℕ) (ks : Kinds) : Type 0 where
  pub long : length u ≡ length t
  pub keeps : (q : ℕ) (k : Kinds) → At t q k → At u q k
  pub there : At u to ks
  pub only : (q : ℕ) (k : Kinds) → At u q k → At t q k ⊎ ((q ≡ to) × (k ≡ ks))

pub put_told : (t : Table) (to : ℕ) (ks : Kinds) → slice_get t to ≡ Some None → Told t (slice_set t to (Some ks)) to ks
put_told t to ks e = record { long = set_long t to (Some ks); keeps = keeps; there = there; only = only }
  where
    there : At (slice_set t to (Some ks)) to ks
    there = set_same t to (Some ks) (slice_get_within t to None e)

    keeps : (q : ℕ) (k : Kinds) → At t q k → At (slice_set t to (Some ks)) q k
    keeps q k at = elim (either_place q to) [
      | inl same ↦ let here : At t to k = subst (λ (n : ℕ). At t n k) same at in absurd cc
      | inr other ↦ set_other t to q (Some ks) other ∙ at
    ]

    only : (q : ℕ) (k : Kinds) → At (slice_set t to (Some ks)) q k → At t q k ⊎ ((q ≡ to) × (k ≡ ks))
    only q k at = elim (either_place q to) [
      | inl same ↦ inr (same, at_one (slice_set t to (Some ks)) to k ks (subst (λ (n : ℕ). At (slice_set t to (Some ks)) n k) same at) there)
      | inr other ↦ inl (sym (set_other t to q (Some ks) other) ∙ at)
    ]

same_told : (t : Table) (to : ℕ) (ks : Kinds) → At t to ks → Told t t to ks
same_told t to ks at = record { long = refl; keeps = λ q k h. h; there = at; only = λ q k h. inl h }

pub expects_told : (t u : Table) (to : ℕ) (ks : Kinds) → expects t to ks ≡ Some u → Told t u to ks
expects_told t u to ks e = by_known (slice_get t to) refl e
  where
    tested : (known : Kinds) (b : Bool) → At t to known → same_kinds known ks ≡ b → cond b (Some t) None ≡ Some u → Told t u to ks
    tested known false at p e = absurd cc
    tested known true at p e = subst (λ (v : Table). Told t v to ks) (some_is t u (Some t) refl e) (same_told t to ks (at ∙ ap (λ (l : Kinds). Some (Some l)) (same_true known ks p)))

    by_known : (o : Option (Option Kinds)) → slice_get t to ≡ o → agreed t to ks o ≡ Some u → Told t u to ks
    by_known None p e = absurd cc
    by_known (Some None) p e = subst (λ (v : Table). Told t v to ks) (some_is (slice_set t to (Some ks)) u (Some (slice_set t to (Some ks))) refl e) (put_told t to ks p)
    by_known (Some (Some known)) p e = tested known (same_kinds known ks) p refl e

-- at a Loop just these kinds are known of its target
abbrev pub Back : Table → Instr → Kinds → Type 0
Back t (i.Loop to) ks = At t to ks
Back t _ ks = Unit {0}

back_keeps : (t u : Table) (x : Instr) (ks : Kinds) → ((q : ℕ) (k : Kinds) → At t q k → At u q k) → Back t x ks → Back u x ks
back_keeps t u (i.Loop to) ks keeps b = keeps to ks b
back_keeps t u _ ks keeps b = tt

-- the second table knows what the first does, these kinds wherever the instruction leads, and nothing else
record Led (x : Instr) (place : ℕ) (rest : Kinds) (t u : Table) : Type 0 where
  pub long : length u ≡ length t
  pub keeps : (q : ℕ) (k : Kinds) → At t q k → At u q k
  pub there : (to : ℕ) → IsTrue (leads x place to) → At u to rest
  pub only : (q : ℕ) (k : Kinds) → At u q k → At t q k ⊎ (IsTrue (leads x place q) × (k ≡ rest))
  pub leaves : LeavesNothing x rest
  pub back : Back t x rest

pub same_place : (n : ℕ) → (n == n) ≡ true
same_place n = eq-eqb n n refl

-- an instruction that leads to one place
one_led : (x : Instr) (place target : ℕ) (rest : Kinds) (t u : Table) → ((to : ℕ) → leads x place to ≡ (target == to)) → LeavesNothing x rest → Back t x rest → Told t u target rest
    → Led x place rest t u
one_led x place target rest t u on leaves back told = record {
  long = told.long;
  keeps = told.keeps;
  there = λ to led. subst (λ (n : ℕ). At u n rest) (eqb-true target to (sym (on to) ∙ led)) told.there;
  only = λ q k at. elim (told.only q k at) [
    | inl before ↦ inl before
    | inr new ↦ inr (on q ∙ eq-eqb target q (sym new.0), new.1)
  ];
  leaves = leaves;
  back = back;
}

branch_led : (target place : ℕ) (rest : Kinds) (t v u : Table) → Told t v target rest → Told v u (place + 1) rest → Led (i.Branch target) place rest t u
branch_led target place rest t v u first second = record {
  long = second.long ∙ first.long;
  keeps = λ q k at. second.keeps q k (first.keeps q k at);
  there = λ to led. to_either to (target == to) refl led;
  only = λ q k at. elim (second.only q k at) [
    | inl before ↦ elim (first.only q k before) [
      | inl early ↦ inl early
      | inr new ↦ inr (target_led q new.0, new.1)
    ]
    | inr new ↦ inr (next_led q (target == q) refl new.0, new.1)
  ];
  leaves = tt;
  back = tt;
}
  where
    to_either : (to : ℕ) (b : Bool) → (target == to) ≡ b → cond b true (place + 1 == to) ≡ true → At u to rest
    to_either to true e led = second.keeps to rest (subst (λ (n : ℕ). At v n rest) (eqb-true target to e) first.there)
    to_either to false e led = subst (λ (n : ℕ). At u n rest) (eqb-true (place + 1) to led) second.there

    target_led : (q : ℕ) → q ≡ target → cond (target == q) true (place + 1 == q) ≡ true
    target_led q e = ap (λ (b : Bool). cond b true (place + 1 == q)) (eq-eqb target q (sym e))

    next_led : (q : ℕ) (b : Bool) → (target == q) ≡ b → q ≡ place + 1 → cond (target == q) true (place + 1 == q) ≡ true
    next_led q true e same = ap (λ (b : Bool). cond b true (place + 1 == q)) e
    next_led q false e same = ap (λ (b : Bool). cond b true (place + 1 == q)) e ∙ eq-eqb (place + 1) q (sym same)

loop_led : (target place : ℕ) (rest : Kinds) (t u : Table) → looped t rest (slice_get t target) ≡ Some u → Led (i.Loop target) place rest t u
loop_led target place rest t u e = by_known (slice_get t target) refl e
  where
    still : At t target rest → Led (i.Loop target) place rest t t
    still at = record { long = refl; keeps = λ q k h. h; there = λ to led. absurd cc; only = λ q k h. inl h; leaves = tt; back = at }

    tested : (known : Kinds) (b : Bool) → At t target known → same_kinds known rest ≡ b → cond b (Some t) None ≡ Some u → Led (i.Loop target) place rest t u
    tested known false at p e = absurd cc
    tested known true at p e = subst (λ (v : Table). Led (i.Loop target) place rest t v) (some_is t u (Some t) refl e) (still (at ∙ ap (λ (l : Kinds). Some (Some l)) (same_true known rest p)))

    by_known : (o : Option (Option Kinds)) → slice_get t target ≡ o → looped t rest o ≡ Some u → Led (i.Loop target) place rest t u
    by_known None p e = absurd cc
    by_known (Some None) p e = absurd cc
    by_known (Some (Some known)) p e = tested known (same_kinds known rest) p refl e

return_led : (place : ℕ) (rest : Kinds) (t u : Table) → ended t rest ≡ Some u → Led i.Return place rest t u
return_led place [] t u e = subst (λ (v : Table). Led i.Return place [] t v) (some_is t u (Some t) refl e)
    (record { long = refl; keeps = λ q k h. h; there = λ to led. absurd cc; only = λ q k h. inl h; leaves = refl; back = tt })
return_led place (k ∷ rest) t u e = absurd cc

bind_some : {A B : Type 0} (r : Option A) (f : A → Option B) (y : B) → (r >>= f) ≡ Some y → (x : A) × (r ≡ Some x) × (f x ≡ Some y)
bind_some (Some x) f y e = (x, refl, e)
bind_some None f y e = absurd cc

goes_led : (x : Instr) (place : ℕ) (rest : Kinds) (t u : Table) → goes_on x place rest t ≡ Some u → Led x place rest t u
goes_led (i.Jump target) place rest t u e = one_led (i.Jump target) place target rest t u (λ to. refl) tt tt (expects_told t u target rest e)
goes_led (i.Branch target) place rest t u e =
    let v = bind_some (expects t target rest) (λ later. expects later (place + 1) rest) u e in
    branch_led target place rest t v.0 u (expects_told t v.0 target rest v.1) (expects_told v.0 u (place + 1) rest v.2)
goes_led (i.Loop target) place rest t u e = loop_led target place rest t u e
goes_led i.Return place rest t u e = return_led place rest t u e
goes_led _ place rest t u e = one_led _ place (place + 1) rest t u (λ to. refl) tt tt (expects_told t u (place + 1) rest e)

-- the place is taken
pub record Opened (t u : Table) (place : ℕ) (ks : Kinds) : Type 0 where
  pub long : length u ≡ length t
  pub keeps : (q : ℕ) (k : Kinds) → At t q k → At u q k
  pub there : At u place ks
  pub only : (q : ℕ) (k : Kinds) → At u q k → At t q k ⊎ ((q ≡ place) × (k ≡ []) × (slice_get t place ≡ Some None))

pub opens_at : (t : Table) (place : ℕ) (o : Option (Option Kinds)) → slice_get t place ≡ o → place < length t → Opened t (opened t place o) place (kinds_in o)
opens_at t place None e lt = absurd (not_past t place lt e)
opens_at t place (Some None) e lt =
    let told = put_told t place [] e in
    record { long = told.long; keeps = told.keeps; there = told.there; only = λ q k at. elim (told.only q k at) [ inl before ↦ inl before | inr new ↦ inr (new.0, new.1, e) ] }
opens_at t place (Some (Some ks)) e lt = record { long = refl; keeps = λ q k h. h; there = e; only = λ q k h. inl h }

-- the table behind an instruction, in parts
record Behind (m : Module) (c : Code) (place : ℕ) (x : Instr) (ks : Kinds) (t u : Table) : Type 0 where
  pub rest : Kinds
  pub short : length ks ≤ 1024
  pub finds : after m c x ks ≡ Some rest
  pub led : Led x place rest t u

goes_behind : (m : Module) (c : Code) (place : ℕ) (x : Instr) (ks : Kinds) (t u : Table) → goes_with m c place x ks t ≡ Some u → Behind m c place x ks t u
goes_behind m c place x ks t u e = tested (ltb 1024 (length ks)) refl e
  where
    tested : (b : Bool) → ltb 1024 (length ks) ≡ b → cond b None (after m c x ks >>= (λ rest. goes_on x place rest t)) ≡ Some u → Behind m c place x ks t u
    tested true p e = absurd cc
    tested false p e =
        let r = bind_some (after m c x ks) (λ rest. goes_on x place rest t) u e in
        record { rest = r.0; short = ltb-false 1024 (length ks) p; finds = r.1; led = goes_led x place r.0 t u r.2 }

-- no walk changes how many places the table has
pub walk_long : (m : Module) (c : Code) (place : ℕ) (x : Instr) (t u : Table) → place < length t → walk_at m c place x t ≡ Some u → length u ≡ length t
walk_long m c place x t u lt e =
    let o = opens_at t place (slice_get t place) refl lt in
    (goes_behind m c place x (kinds_in (slice_get t place)) (opened t place (slice_get t place)) u e).led.long ∙ o.long

pub unknown_long : (n : ℕ) → length (unknown n) ≡ n
unknown_long zero = refl
unknown_long (suc n) = ap suc (unknown_long n)

-- ---- what is known when the walk has come to a place

module _ (m : Module) (c : Code) where
  -- the instruction keeps the rules on kinds, as far as the table knows
  pub record Fine (t : Table) (place : ℕ) (x : Instr) (ks : Kinds) : Type 0 where
    pub rest : Kinds
    pub short : length ks ≤ 1024
    pub finds : after m c x ks ≡ Some rest
    pub leaves : LeavesNothing x rest
    pub there : (to : ℕ) → IsTrue (leads x place to) → At t to rest
    pub back : Back t x rest

  -- an instruction before leads to this place and leaves these kinds
  pub record From (t : Table) (bound to : ℕ) (ks : Kinds) : Type 0 where
    pub place : ℕ
    pub instr : Instr
    pub here : Kinds
    pub within : place < bound
    pub stands : Stands c place instr
    pub taken : At t place here
    pub leads_on : IsTrue (leads instr place to)
    pub leaves : after m c instr here ≡ Some ks

  pub record Known (bound : ℕ) (t : Table) : Type 0 where
    pub long : length t ≡ length c.instrs
    pub told : (q : ℕ) → q < bound → (ks : Kinds) × At t q ks
    pub right : (q : ℕ) (x : Instr) (ks : Kinds) → q < bound → Stands c q x → At t q ks → Fine t q x ks
    pub origin : (to : ℕ) (ks : Kinds) → At t to ks → ((ks ≡ []) × (to < bound)) ⊎ From t bound to ks

  fine_keeps : (t u : Table) (place : ℕ) (x : Instr) (ks : Kinds) → ((q : ℕ) (k : Kinds) → At t q k → At u q k) → Fine t place x ks → Fine u place x ks
  fine_keeps t u place x ks keeps f = record { rest = f.rest; short = f.short; finds = f.finds; leaves = f.leaves; there = λ to led. keeps to f.rest (f.there to led); back = back_keeps t u x f.rest keeps f.back }

  from_keeps : (t u : Table) (bound more to : ℕ) (ks : Kinds) → bound ≤ more → ((q : ℕ) (k : Kinds) → At t q k → At u q k) → From t bound to ks → From u more to ks
  from_keeps t u bound more to ks le keeps f = record { place = f.place; instr = f.instr; here = f.here; within = omega (arith, le, f.within); stands = f.stands; taken = keeps f.place f.here f.taken; leads_on = f.leads_on; leaves = f.leaves }

  pub walk_known : (p : ℕ) (x : Instr) (t u : Table) → Known p t → Stands c p x → walk_at m c p x t ≡ Some u → Known (p + 1) u
  walk_known p x t u known stands e = record { long = b.led.long ∙ o.long ∙ known.long; told = told; right = right; origin = origin }
    where
      lt : p < length t
      lt = let inside = slice_get_within c.instrs p x stands in let long = known.long in omega (arith, inside, long)

      ks : Kinds
      ks = kinds_in (slice_get t p)

      v : Table
      v = opened t p (slice_get t p)

      o : Opened t v p ks
      o = opens_at t p (slice_get t p) refl lt

      b : Behind m c p x ks v u
      b = goes_behind m c p x ks v u e

      keeps : (q : ℕ) (k : Kinds) → At t q k → At u q k
      keeps q k at = b.led.keeps q k (o.keeps q k at)

      here : At u p ks
      here = b.led.keeps p ks o.there

      told : (q : ℕ) → q < p + 1 → (k : Kinds) × At u q k
      told q less = elim (cases_lt q p) [
        | inl before ↦ let k = known.told q before in (k.0, keeps q k.0 k.1)
        | inr le ↦ let same : p ≡ q = omega (arith, less, le) in (ks, subst (λ (n : ℕ). At u n ks) same here)
      ]

      fine_here : Fine u p x ks
      fine_here = record { rest = b.rest; short = b.short; finds = b.finds; leaves = b.led.leaves; there = b.led.there; back = back_keeps v u x b.rest b.led.keeps b.led.back }

      right : (q : ℕ) (y : Instr) (k : Kinds) → q < p + 1 → Stands c q y → At u q k → Fine u q y k
      right q y k less st at = elim (cases_lt q p) [
        | inl before ↦
            let old = known.told q before in
            subst (λ (l : Kinds). Fine u q y l) (at_one u q old.0 k (keeps q old.0 old.1) at) (fine_keeps t u q y old.0 keeps (known.right q y old.0 before st old.1))
        | inr le ↦
            let same : p ≡ q = omega (arith, less, le) in
            let same_instr : x ≡ y = some_is x y (slice_get c.instrs p) stands (ap (slice_get c.instrs) same ∙ st) in
            let same_kinds : ks ≡ k = at_one u q ks k (subst (λ (n : ℕ). At u n ks) same here) at in
            subst (λ (n : ℕ). Fine u n y k) same (subst (λ (z : Instr). Fine u p z k) same_instr (subst (λ (l : Kinds). Fine u p x l) same_kinds fine_here))
      ]

      origin : (to : ℕ) (k : Kinds) → At u to k → ((k ≡ []) × (to < p + 1)) ⊎ From u (p + 1) to k
      origin to k at = elim (b.led.only to k at) [
        | inl opened ↦ elim (o.only to k opened) [
          | inl before ↦ elim (known.origin to k before) [
            | inl none ↦ inl (none.0, omega (arith, none.1))
            | inr from ↦ inr (from_keeps t u p (p + 1) to k (omega arith) keeps from)
          ]
          | inr new ↦ inl (new.1, (let same = new.0 in omega (arith, same)))
        ]
        | inr led ↦ inr (record { place = p; instr = x; here = ks; within = omega arith; stands = stands; taken = here; leads_on = led.0; leaves = b.finds ∙ ap (λ (l : Kinds). Some l) (sym led.1) })
      ]

  unknown_at : (n q : ℕ) (ks : Kinds) → At (unknown n) q ks → ⊥
  unknown_at zero q ks e = cc
  unknown_at (suc n) zero ks e = cc
  unknown_at (suc n) (suc q) ks e = unknown_at n q ks e

  pub first_known : Known 0 (unknown (length c.instrs))
  first_known = record {
    long = unknown_long (length c.instrs);
    told = λ q lt. absurd (omega arith);
    right = λ q x ks lt st at. absurd (omega arith);
    origin = λ to ks at. absurd (unknown_at (length c.instrs) to ks at);
  }

  -- these are the instructions from a place on
  abbrev pub AreFrom : ℕ → List Instr → Type 0
  AreFrom p xs = (k : ℕ) → slice_get c.instrs (p + k) ≡ slice_get xs k

  pub head_stands : (p : ℕ) (x : Instr) (xs : List Instr) → AreFrom p (x ∷ xs) → Stands c p x
  head_stands p x xs from = ap (slice_get c.instrs) (omega arith) ∙ from 0

  pub tail_from : (p : ℕ) (x : Instr) (xs : List Instr) → AreFrom p (x ∷ xs) → AreFrom (p + 1) xs
  tail_from p x xs from k = ap (slice_get c.instrs) (omega arith) ∙ from (suc k)

  pub all_known : (xs : List Instr) (p : ℕ) (t u : Table) → AreFrom p xs → Known p t → walk m c p xs t ≡ Some u → Known (p + length xs) u
  all_known [] p t u from known e = subst (λ (n : ℕ). Known n u) (omega arith) (subst (λ (v : Table). Known p v) (some_is t u (Some t) refl e) known)
  all_known (x ∷ xs) p t u from known e =
      let v = bind_some (walk_at m c p x t) (λ later. walk m c (p + 1) xs later) u e in
      subst (λ (n : ℕ). Known n u) (omega arith) (all_known xs (p + 1) v.0 u (tail_from p x xs from) (walk_known p x t v.0 known (head_stands p x xs from) v.1) v.2)

-- ---- as a loop walks

pub unknown_next : (n : ℕ) → unknown n ++ None ∷ [] ≡ unknown (n + 1)
unknown_next zero = refl
unknown_next (suc n) = let more : suc (n + 1) ≡ suc n + 1 = omega arith in ap (λ (t : Table). None ∷ t) (unknown_next n) ∙ ap unknown more

drop_there : {A : Type 0} (xs : List A) (p : ℕ) (x : A) → slice_get xs p ≡ Some x → drop p xs ≡ x ∷ drop (p + 1) xs
drop_there [] p x e = absurd cc
drop_there (y ∷ xs) zero x e = let same : y ≡ x = cc in ap (λ (z : _). z ∷ xs) same
drop_there (y ∷ xs) (suc p) x e = let more : suc (p + 1) ≡ suc p + 1 = omega arith in drop_there xs p x e ∙ ap (λ (n : ℕ). x ∷ drop n (y ∷ xs)) more

drop_past : {A : Type 0} (xs : List A) (p : ℕ) → slice_get xs p ≡ None → drop p xs ≡ []
drop_past [] zero e = refl
drop_past [] (suc p) e = refl
drop_past (y ∷ xs) zero e = absurd cc
drop_past (y ∷ xs) (suc p) e = drop_past xs p e

module _ (m : Module) (c : Code) (xs : List Instr) (total : Option Table) where
  pub walks_on : (p : ℕ) (x : Instr) (t u : Table) → slice_get xs p ≡ Some x → total ≡ walk m c p (drop p xs) t → walk_at m c p x t ≡ Some u → total ≡ walk m c (p + 1) (drop (p + 1) xs) u
  walks_on p x t u st so_far e = so_far ∙ ap (λ (l : List Instr). walk m c p l t) (drop_there xs p x st) ∙ ap (λ (o : Option Table). o >>= (λ later. walk m c (p + 1) (drop (p + 1) xs) later)) e

  pub walks_off : (p : ℕ) (x : Instr) (t : Table) → slice_get xs p ≡ Some x → total ≡ walk m c p (drop p xs) t → walk_at m c p x t ≡ None → IsSome total → ⊥
  walks_off p x t st so_far e some =
      let none : total ≡ None = so_far ∙ ap (λ (l : List Instr). walk m c p l t) (drop_there xs p x st) ∙ ap (λ (o : Option Table). o >>= (λ later. walk m c (p + 1) (drop (p + 1) xs) later)) e in
      cc (subst IsSome none some)

  pub walked : (p : ℕ) (t : Table) → slice_get xs p ≡ None → total ≡ walk m c p (drop p xs) t → IsSome total
  walked p t none so_far = subst IsSome (sym (so_far ∙ ap (λ (l : List Instr). walk m c p l t) (drop_past xs p none))) refl
