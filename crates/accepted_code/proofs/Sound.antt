-- A code whose piece before the last instructions keeps the rules is sound.
use Rattle.std.proofs.Common.{◌≡◌, ℕ, zero, suc, ◌+◌, ◌<◌, ◌≤◌, Bool, List, [], ◌∷◌, ◌++◌, length, Some, refl, sym, ap, subst, ◌∙◌, arith, append_assoc, length-append}
use Rattle.std.specs.Prelude.{slice_get, pos}
use Rattle.std.specs.List.{AllByRecursion}
use Rattle.std.specs.Option.{option_map}
use Rattle.cal_terms.specs.declared.types.Gives.{Gives as Result}
use Rattle.cal_terms.specs.declared.types.Gives.TheVariants as result'
use Rattle.bytecode.specs.declared.instr.Instr.{Instr}
use Rattle.bytecode.specs.declared.instr.Instr.TheVariants as i
use Rattle.cal_terms.specs.declared.types.Ty.TheVariants as ty
use Rattle.bytecode.specs.declared.module.Code.{Code}
use Rattle.bytecode.specs.declared.module.Module.{Module}
use Rattle.code_verify.specs.Kinds.{Kinds, result, below, after}
use Rattle.code_verify.specs.Rules.{Stands, Taken, KindsAt, Comes, IsRight, IsSound, HasShape}
use Rattle.compiled_code.specs.Modules.{closing, gives_of}
use Rattle.accepted_code.proofs.Permits.{Permits}
use Rattle.accepted_code.proofs.Fine.{Held, in_front, behind, whole_held, Right, Fine, NextAlone, join, each, falls, returns}
use Rattle.accepted_code.proofs.Pieces.{at_end}

-- the kinds at the end of a body
abbrev pub closing_taken : Result → Taken
closing_taken result'.Nothing = [] ∷ []
closing_taken result'.Int = [] ∷ (ty.Int ∷ []) ∷ []
closing_taken result'.Bool = [] ∷ (ty.Bool ∷ []) ∷ []

as_many : (g : Result) → length (closing g) ≡ length (closing_taken g)
as_many result'.Nothing = refl
as_many result'.Int = refl
as_many result'.Bool = refl

closing_starts : (g : Result) (taken : Taken) (at : ℕ) → Held taken at (closing_taken g) → KindsAt taken at []
closing_starts result'.Nothing taken at t = t.0
closing_starts result'.Int taken at t = t.0
closing_starts result'.Bool taken at t = t.0

-- the last instruction is a return
record Closing (g : Result) : Type 0 where
  before : List Instr
  last : closing g ≡ before ++ i.Return ∷ []

closed : (g : Result) → Closing g
closed result'.Nothing = record { before = []; last = refl }
closed result'.Int = record { before = i.Int (pos 0) ∷ []; last = refl }
closed result'.Bool = record { before = i.False ∷ []; last = refl }

last_stands : (a : List Instr) (x : Instr) → slice_get (a ++ x ∷ []) (length a) ≡ Some x
last_stands [] x = refl
last_stands (y ∷ a) x = last_stands a x

module _ (m : Module) (c : Code) (taken : Taken) (Ok : Instr → Type 0) (visible : ℕ) (main : Bool) (permits : Permits m c visible main Ok) where
  -- nothing follows the last place
  no_next : (place : ℕ) → length c.instrs ≡ place + 1 → NextAlone m c taken Ok place
  no_next place e within none = absurd (omega (arith, e, within))

  closing_right : (g : Result) (at : ℕ) → c.gives ≡ gives_of g → length c.instrs ≡ at + length (closing g) → Held c.instrs at (closing g) → Held taken at (closing_taken g)
      → Right m c taken Ok at (closing g)
  closing_right result'.Nothing at same e h t =
      (returns m c taken Ok at [] t.0 (ap (λ (g : Result). option_map (λ rest. rest) (below (result g) [])) same) (omega arith) (permits.plain i.Return tt) (no_next at (omega (arith, e))), tt)
  closing_right result'.Int at same e h t = (
    falls m c taken Ok at (i.Int (pos 0)) [] (ty.Int ∷ []) tt h.0 t.0 tt refl (omega arith) (permits.ints (pos 0) (omega arith)) t.1.0,
    (returns m c taken Ok (at + 1) (ty.Int ∷ []) t.1.0 (ap (λ (g : Result). option_map (λ rest. rest) (below (result g) (ty.Int ∷ []))) same) (omega arith) (permits.plain i.Return tt) (no_next (at + 1) (omega (arith, e))), tt),
  )
  closing_right result'.Bool at same e h t = (
    falls m c taken Ok at i.False [] (ty.Bool ∷ []) tt h.0 t.0 tt refl (omega arith) (permits.plain i.False tt) t.1.0,
    (returns m c taken Ok (at + 1) (ty.Bool ∷ []) t.1.0 (ap (λ (g : Result). option_map (λ rest. rest) (below (result g) (ty.Bool ∷ []))) same) (omega arith) (permits.plain i.Return tt) (no_next (at + 1) (omega (arith, e))), tt),
  )

  -- each instruction of a right piece is allowed
  pub all_allowed : (at : ℕ) (xs : List Instr) → Right m c taken Ok at xs → AllByRecursion Ok xs
  all_allowed at [] right = tt
  all_allowed at (x ∷ xs) right = (right.0.allowed, all_allowed (at + 1) xs right.1)

  module _ (right : Right m c taken Ok 0 c.instrs) (long : length taken ≡ length c.instrs) (first : KindsAt taken 0 []) where
    fine_at : (place : ℕ) (x : Instr) → Stands c place x → Fine m c taken Ok place x
    fine_at place x stands =
        let same : 0 + place ≡ place = omega arith in
        subst (λ (n : ℕ). Fine m c taken Ok n x) same (each m c taken Ok 0 c.instrs right place x stands)

    same_kinds : (place : ℕ) (one two : Kinds) → KindsAt taken place one → KindsAt taken place two → one ≡ two
    same_kinds place one two a b = cc

    leaves_same : (x : Instr) (one two left other : Kinds) → one ≡ two → after m c x one ≡ Some left → after m c x two ≡ Some other → left ≡ other
    leaves_same x one two left other e a b = cc

    comes : (to : ℕ) (ks : Kinds) → Comes m c taken to ks → KindsAt taken to ks
    comes to ks y =
        let fine = fine_at y.place y.instr y.stands in
        let same = leaves_same y.instr fine.here y.here fine.rest ks (same_kinds y.place fine.here y.here fine.is_here y.taken_with) fine.leaves y.leaves in
        subst (λ (l : Kinds). KindsAt taken to l) same (fine.goes to y.leads_on)

    there : (xs : List Instr) (n : ℕ) → n < length xs → (x : Instr) × (slice_get xs n ≡ Some x)
    there [] n lt = absurd (omega arith)
    there (x ∷ xs) zero lt = (x, refl)
    there (x ∷ xs) (suc n) lt = there xs n (omega (arith, lt))

    alone : (to : ℕ) → to < length c.instrs → ((ks : Kinds) → Comes m c taken to ks → ⊥) → KindsAt taken to []
    alone zero lt none = first
    alone (suc k) lt none =
        let before = there c.instrs k (omega (arith, lt)) in
        let fine = fine_at k before.0 before.1 in
        let same : k + 1 ≡ suc k = omega arith in
        at_end taken [] (k + 1) (suc k) same (fine.next (omega (arith, lt)) (λ ks y. none ks (subst (λ (n : ℕ). Comes m c taken n ks) same y)))

    is_right : (place : ℕ) (x : Instr) (ks : Kinds) → Stands c place x → KindsAt taken place ks → IsRight m c taken place x ks
    is_right place x ks stands at =
        let fine = fine_at place x stands in
        subst (λ (l : Kinds). IsRight m c taken place x l) (same_kinds place fine.here ks fine.is_here at)
        (record { in_range = fine.in_range; ahead = fine.ahead; finds = (fine.rest, fine.leaves, fine.nothing); back = fine.back; short = fine.short })

    pub sound_of : HasShape c → IsSound m c
    sound_of shape = record { shape = shape; taken = taken; is_taken = record { each = long; first = first; comes = comes; alone = alone }; right = is_right }

-- what a whole code keeps
pub record Keeps (m : Module) (c : Code) (Ok : Instr → Type 0) : Type 0 where
  pub sound : IsSound m c
  pub allowed : AllByRecursion Ok c.instrs

-- a body of this many instructions and the return behind it
module _ (m : Module) (c : Code) (Ok : Instr → Type 0) (visible : ℕ) (main : Bool) (permits : Permits m c visible main Ok) (g : Result) (gives : c.gives ≡ gives_of g) (body : List Instr)
    (body_taken : Taken) (n : ℕ) where
  pub keeps : c.instrs ≡ body ++ closing g → length body ≡ n → length body_taken ≡ n
      → length c.locals ≤ 64 → c.params ≤ 8 → c.params ≤ length c.locals
      → (length (body_taken ++ closing_taken g) ≡ length c.instrs → Held (body_taken ++ closing_taken g) 0 body_taken → KindsAt (body_taken ++ closing_taken g) (0 + n) []
      → KindsAt (body_taken ++ closing_taken g) 0 [])
      → (length (body_taken ++ closing_taken g) ≡ length c.instrs → Held c.instrs 0 body → Held (body_taken ++ closing_taken g) 0 body_taken → KindsAt (body_taken ++ closing_taken g) (0 + n) []
      → Right m c (body_taken ++ closing_taken g) Ok 0 body)
      → Keeps m c Ok
  keeps same e f locals params has starts right =
      let l = length-append body (closing g) in
      let q = length-append body_taken (closing_taken g) in
      let r = as_many g in
      let whole : length c.instrs ≡ length (body ++ closing g) = ap length same in
      let long : length (body_taken ++ closing_taken g) ≡ length c.instrs = omega (arith, l, q, r, whole, e, f) in
      let h : Held c.instrs 0 (body ++ closing g) = subst (λ (l : List Instr). Held c.instrs 0 l) same (whole_held c.instrs) in
      let t : Held (body_taken ++ closing_taken g) 0 (body_taken ++ closing_taken g) = whole_held (body_taken ++ closing_taken g) in
      let hb = in_front c.instrs 0 body (closing g) h in
      let tb = in_front (body_taken ++ closing_taken g) 0 body_taken (closing_taken g) t in
      let hc = behind c.instrs 0 (0 + n) body (closing g) (omega (arith, e)) h in
      let tc = behind (body_taken ++ closing_taken g) 0 (0 + n) body_taken (closing_taken g) (omega (arith, f)) t in
      let end = closing_starts g (body_taken ++ closing_taken g) (0 + n) tc in
      let first = starts long tb end in
      let all : Right m c (body_taken ++ closing_taken g) Ok 0 (body ++ closing g) = join m c (body_taken ++ closing_taken g) Ok 0 (0 + n) body (closing g) (omega (arith, e)) (right long hb tb end)
      (closing_right m c (body_taken ++ closing_taken g) Ok visible main permits g (0 + n) gives (omega (arith, l, whole, e)) hc tc) in
      let all' : Right m c (body_taken ++ closing_taken g) Ok 0 c.instrs = subst (λ (l : List Instr). Right m c (body_taken ++ closing_taken g) Ok 0 l) (sym same) all in
      let end_is = closed g in
      let split : c.instrs ≡ (body ++ end_is.before) ++ i.Return ∷ [] = same ∙ ap (λ (l : List Instr). body ++ l) end_is.last ∙ sym (append_assoc body end_is.before (i.Return ∷ [])) in
      let many = ap length split in
      let s = length-append (body ++ end_is.before) (i.Return ∷ []) in
      record {
        sound = sound_of m c (body_taken ++ closing_taken g) Ok visible main permits all' long first
            (record {
              few_locals = locals;
              few_params = params;
              has_params = has;
              closes = (length (body ++ end_is.before), i.Return, (let last : length (body ++ end_is.before) + 1 ≡ length c.instrs = omega (arith, many, s) in last), ap (λ (l : List Instr). slice_get l (length (body ++ end_is.before))) split ∙ last_stands (body ++ end_is.before) i.Return, tt);
            });
        allowed = all_allowed m c (body_taken ++ closing_taken g) Ok visible main permits 0 c.instrs all';
      }
