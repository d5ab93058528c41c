-- An instruction of a code that keeps the rules where it stands, and pieces of such code.
use Rattle.std.proofs.Common.{◌≡◌, ℕ, zero, suc, ◌+◌, ◌<◌, ◌≤◌, Bool, true, false, if◌then◌else◌, List, [], ◌∷◌, ◌++◌, length, Some, refl, sym, ap, subst, ◌∙◌, arith}
use Rattle.std.specs.Prelude.{slice_get, IsTrue, ◌==◌}
use Rattle.std.proofs.lemmas.Bool.{eqb-true}
use Rattle.bytecode.specs.declared.instr.Instr.{Instr}
use Rattle.bytecode.specs.declared.instr.Instr.TheVariants as i
use Rattle.cal_terms.specs.declared.types.Ty.TheVariants.{Bool as Truth'}
use Rattle.bytecode.specs.declared.module.Code.{Code}
use Rattle.bytecode.specs.declared.module.Module.{Module}
use Rattle.code_verify.specs.Kinds.{Kinds, after}
use Rattle.code_verify.specs.Rules.{Stands, Taken, KindsAt, Comes, IsInRange, IsAhead, IsPlace, LeavesNothing, GoesBack, leads, most_operands}
use Rattle.code_verify.proofs.Walking.{same_place}

-- ---- pieces of lists

-- the entries stand in the list from this place on
abbrev pub Held : {A : Type 0} → List A → ℕ → List A → Type 0
Held whole at [] = Unit {0}
Held whole at (x ∷ xs) = (slice_get whole at ≡ Some x) × Held whole (at + 1) xs

pub in_front : {A : Type 0} (whole : List A) (at : ℕ) (a b : List A) → Held whole at (a ++ b) → Held whole at a
in_front whole at [] b h = tt
in_front whole at (x ∷ a) b h = (h.0, in_front whole (at + 1) a b h.1)

-- behind a piece that ends at this place
pub behind : {A : Type 0} (whole : List A) (at to : ℕ) (a b : List A) → at + length a ≡ to → Held whole at (a ++ b) → Held whole to b
behind whole at to [] b e h = subst (λ (k : ℕ). Held whole k b) (omega (arith, e)) h
behind whole at to (x ∷ a) b e h = behind whole (at + 1) to a b (omega (arith, e)) h.1

pub moved : {A : Type 0} (whole : List A) (at to : ℕ) (a : List A) → at ≡ to → Held whole at a → Held whole to a
moved whole at to a e h = subst (λ (k : ℕ). Held whole k a) e h

-- a list stands in itself
pub whole_held : {A : Type 0} (whole : List A) → Held whole 0 whole
whole_held whole = tail_held whole 0 whole (λ k. let same : 0 + k ≡ k = omega arith in ap (slice_get whole) same)
  where
    tail_held : {A : Type 0} (whole : List A) (at : ℕ) (rest : List A) → ((k : ℕ) → slice_get whole (at + k) ≡ slice_get rest k) → Held whole at rest
    tail_held whole at [] same = tt
    tail_held whole at (x ∷ rest) same =
        let here : at + 0 ≡ at = omega arith in
        (subst (λ (n : ℕ). slice_get whole n ≡ Some x) here (same 0), tail_held whole (at + 1) rest (λ k. let on : at + suc k ≡ at + 1 + k = omega arith in subst (λ (n : ℕ). slice_get whole n ≡ slice_get rest k) on (same (suc k))))

-- ---- instructions

-- the instruction leads to the next place alone
abbrev pub Falls : Instr → Type 0
Falls (i.Jump t) = ⊥
Falls (i.Branch t) = ⊥
Falls (i.Loop t) = ⊥
Falls i.Return = ⊥
Falls _ = Unit {0}

falls_on : (x : Instr) (place to : ℕ) → Falls x → leads x place to ≡ (place + 1 == to)
falls_on (i.Jump t) place to h = absurd h
falls_on (i.Branch t) place to h = absurd h
falls_on (i.Loop t) place to h = absurd h
falls_on i.Return place to h = absurd h
falls_on _ place to h = refl

falls_ahead : (x : Instr) (place : ℕ) → Falls x → IsAhead place x
falls_ahead (i.Jump t) place h = absurd h
falls_ahead (i.Branch t) place h = absurd h
falls_ahead (i.Loop t) place h = absurd h
falls_ahead i.Return place h = absurd h
falls_ahead _ place h = tt

falls_nothing : (x : Instr) (rest : Kinds) → Falls x → LeavesNothing x rest
falls_nothing (i.Jump t) rest h = absurd h
falls_nothing (i.Branch t) rest h = absurd h
falls_nothing (i.Loop t) rest h = absurd h
falls_nothing i.Return rest h = absurd h
falls_nothing _ rest h = tt

falls_back : (taken : Taken) (x : Instr) (ks : Kinds) → Falls x → GoesBack taken x ks
falls_back taken (i.Jump t) ks h = absurd h
falls_back taken (i.Branch t) ks h = absurd h
falls_back taken (i.Loop t) ks h = absurd h
falls_back taken i.Return ks h = absurd h
falls_back taken _ ks h = tt

module _ (m : Module) (c : Code) (taken : Taken) (Ok : Instr → Type 0) where
  -- where nothing leads to the next place, it is taken with no operands
  abbrev pub NextAlone : ℕ → Type 0
  NextAlone place = place + 1 < length c.instrs → ((ks : Kinds) → Comes m c taken (place + 1) ks → ⊥) → KindsAt taken (place + 1) []

  -- the instruction keeps the rules at this place
  pub record Fine (place : ℕ) (instr : Instr) : Type 0 where
    pub here : Kinds
    pub rest : Kinds
    pub is_here : KindsAt taken place here
    pub in_range : IsInRange m c instr
    pub ahead : IsAhead place instr
    pub leaves : after m c instr here ≡ Some rest
    pub nothing : LeavesNothing instr rest
    pub back : GoesBack taken instr here
    pub short : length here ≤ most_operands
    pub allowed : Ok instr
    pub goes : (to : ℕ) → IsTrue (leads instr place to) → KindsAt taken to rest
    pub next : NextAlone place

  -- each instruction of a piece does
  abbrev pub Right : ℕ → List Instr → Type 0
  Right at [] = Unit {0}
  Right at (x ∷ xs) = Fine at x × Right (at + 1) xs

  -- two pieces
  pub join : (at to : ℕ) (a b : List Instr) → at + length a ≡ to → Right at a → Right to b → Right at (a ++ b)
  join at to [] b e one two = subst (λ (n : ℕ). Right n b) (omega (arith, e)) two
  join at to (x ∷ a) b e one two = (one.0, join (at + 1) to a b (omega (arith, e)) one.1 two)

  -- each one of a piece
  pub each : (at : ℕ) (xs : List Instr) → Right at xs → (k : ℕ) (x : Instr) → slice_get xs k ≡ Some x → Fine (at + k) x
  each at [] right k x e = absurd cc
  each at (y ∷ xs) right zero x e =
      let same : y ≡ x = cc in
      let here : at ≡ at + 0 = omega arith in
      subst (λ (n : ℕ). Fine n x) here (subst (λ (z : Instr). Fine at z) same right.0)
  each at (y ∷ xs) right (suc k) x e =
      let there : at + 1 + k ≡ at + suc k = omega arith in
      subst (λ (n : ℕ). Fine n x) there (each (at + 1) xs right.1 k x e)

  -- where an instruction leads to the next place, that is not alone
  not_alone : (place : ℕ) (x : Instr) (here rest : Kinds) → Stands c place x → KindsAt taken place here → after m c x here ≡ Some rest → IsTrue (leads x place (place + 1)) → NextAlone place
  not_alone place x here rest stands is_here leaves led inside none =
      absurd (none rest (record { place = place; instr = x; here = here; stands = stands; taken_with = is_here; leads_on = led; leaves = leaves }))

  -- an instruction that leads to the next place
  pub falls : (place : ℕ) (x : Instr) (here rest : Kinds) → Falls x → Stands c place x → KindsAt taken place here → IsInRange m c x → after m c x here ≡ Some rest → length here ≤ most_operands → Ok x
      → KindsAt taken (place + 1) rest → Fine place x
  falls place x here rest plain stands is_here in_range leaves short allowed next =
      record {
        here = here;
        rest = rest;
        is_here = is_here;
        in_range = in_range;
        ahead = falls_ahead x place plain;
        leaves = leaves;
        nothing = falls_nothing x rest plain;
        back = falls_back taken x here plain;
        short = short;
        allowed = allowed;
        goes = λ to led. subst (λ (n : ℕ). KindsAt taken n rest) (eqb-true (place + 1) to (sym (falls_on x place to plain) ∙ led)) next;
        next = not_alone place x here rest stands is_here leaves (falls_on x place (place + 1) plain ∙ same_place (place + 1));
      }

  -- a jump on
  pub jumps : (place t : ℕ) (here : Kinds) → KindsAt taken place here → IsPlace c t → place < t → length here ≤ most_operands → Ok (i.Jump t) → KindsAt taken t here → NextAlone place
      → Fine place (i.Jump t)
  jumps place t here is_here inside ahead short allowed there next =
      record {
        here = here;
        rest = here;
        is_here = is_here;
        in_range = inside;
        ahead = ahead;
        leaves = refl;
        nothing = tt;
        back = tt;
        short = short;
        allowed = allowed;
        goes = λ to led. subst (λ (n : ℕ). KindsAt taken n here) (eqb-true t to led) there;
        next = next;
      }

  branch_goes : (place t : ℕ) (rest : Kinds) → KindsAt taken t rest → KindsAt taken (place + 1) rest → (to : ℕ) (b : Bool) → (t == to) ≡ b → IsTrue (if b then true else place + 1 == to)
      → KindsAt taken to rest
  branch_goes place t rest there next to true e led = subst (λ (n : ℕ). KindsAt taken n rest) (eqb-true t to e) there
  branch_goes place t rest there next to false e led = subst (λ (n : ℕ). KindsAt taken n rest) (eqb-true (place + 1) to led) next

  branch_next : (b : Bool) (place : ℕ) → IsTrue (if b then true else place + 1 == place + 1)
  branch_next true place = refl
  branch_next false place = same_place (place + 1)

  -- a branch on
  pub branches : (place t : ℕ) (rest : Kinds) → Stands c place (i.Branch t) → KindsAt taken place (Truth' ∷ rest) → IsPlace c t → place < t → length rest + 1 ≤ most_operands → Ok (i.Branch t)
      → KindsAt taken t rest → KindsAt taken (place + 1) rest → Fine place (i.Branch t)
  branches place t rest stands is_here inside ahead short allowed there next =
      record {
        here = Truth' ∷ rest;
        rest = rest;
        is_here = is_here;
        in_range = inside;
        ahead = ahead;
        leaves = refl;
        nothing = tt;
        back = tt;
        short = omega (arith, short);
        allowed = allowed;
        goes = λ to led. branch_goes place t rest there next to (t == to) refl led;
        next = not_alone place (i.Branch t) (Truth' ∷ rest) rest stands is_here refl (branch_next (t == place + 1) place);
      }

  -- to its target comes the branch
  pub branch_comes : (place t next : ℕ) (rest : Kinds) → Stands c place (i.Branch t) → KindsAt taken place (Truth' ∷ rest) → t ≡ next → ((ks : Kinds) → Comes m c taken next ks → ⊥) → ⊥
  branch_comes place t next rest stands is_here e none = none rest (record { place = place; instr = i.Branch t; here = Truth' ∷ rest; stands = stands; taken_with = is_here; leads_on = led; leaves = refl })
    where
      at_once : (b : Bool) → (t == next) ≡ true → b ≡ (t == next) → IsTrue (if b then true else place + 1 == next)
      at_once true is same = refl
      at_once false is same = absurd cc

      led : IsTrue (leads (i.Branch t) place next)
      led = at_once (t == next) (subst (λ (n : ℕ). (t == n) ≡ true) e (same_place t)) refl

  -- a way back, where nothing is on the operands
  pub loops : (place t : ℕ) → KindsAt taken place [] → IsPlace c t → t ≤ place → Ok (i.Loop t) → KindsAt taken t [] → NextAlone place → Fine place (i.Loop t)
  loops place t is_here inside back allowed there next =
      record {
        here = [];
        rest = [];
        is_here = is_here;
        in_range = inside;
        ahead = back;
        leaves = refl;
        nothing = tt;
        back = there;
        short = omega arith;
        allowed = allowed;
        goes = λ to led. absurd cc;
        next = next;
      }

  -- a return with just the result
  pub returns : (place : ℕ) (here : Kinds) → KindsAt taken place here → after m c i.Return here ≡ Some [] → length here ≤ most_operands → Ok i.Return → NextAlone place → Fine place i.Return
  returns place here is_here leaves short allowed next =
      record {
        here = here;
        rest = [];
        is_here = is_here;
        in_range = tt;
        ahead = tt;
        leaves = leaves;
        nothing = refl;
        back = tt;
        short = short;
        allowed = allowed;
        goes = λ to led. absurd cc;
        next = next;
      }
