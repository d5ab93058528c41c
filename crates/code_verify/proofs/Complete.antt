-- A sound code is walked through to its end.
use Rattle.std.proofs.Common.{◌≡◌, ℕ, zero, suc, ◌+◌, ◌<◌, ◌≤◌, Bool, true, false, cond, ltb, List, [], ◌∷◌, length, map, Option, Some, None, inl, inr, refl, sym, ap, subst, ◌∙◌, arith}
use Rattle.std.specs.Prelude.{slice_get, slice_set, IsTrue, IsSome, ◌==◌, unwrap_or}
use Rattle.std.specs.Option.{option_map}
use Rattle.std.proofs.lemmas.Bool.{le-ltb, cases_lt}
use Rattle.std.proofs.lemmas.Option.{slice_get_within, slice_get-map}
use Rattle.std.proofs.lemmas.List.{length-map}
use Rattle.bytecode.specs.declared.instr.Instr.{Instr}
use Rattle.bytecode.specs.declared.instr.Instr.TheVariants as i
use Rattle.bytecode.specs.declared.module.Code.{Code}
use Rattle.bytecode.specs.declared.module.Module.{Module}
use Rattle.code_verify.specs.Kinds.{Kinds, after}
use Rattle.code_verify.specs.Rules.{Stands, Taken, KindsAt, Comes, IsAhead, IsInRange, leads, LeavesNothing, GoesBack, IsRight, IsSound, HasShape}
use Rattle.code_verify.specs.Walk.{◌>>=◌, Table, same_kinds, agreed, expects, looped, ended, goes_on, kinds_in, opened, walk_at, walk, unknown}
use Rattle.code_verify.proofs.Walking.{At, Told, put_told, same_itself, same_place, not_past, some_is, Opened, opens_at, Known, first_known, walk_known, all_known, AreFrom, head_stands, tail_from}
use Rattle.code_verify.proofs.Walking.{Back}
use Rattle.code_verify.proofs.Unique.{leads_ahead}

-- the kinds that a table knows, and none where it knows none
abbrev pub known_of : Table → Taken
known_of t = map (λ o. unwrap_or o []) t

known_at : (t : Table) (q : ℕ) (ks : Kinds) → At t q ks → KindsAt (known_of t) q ks
known_at t q ks at = slice_get-map (λ (o : Option Kinds). unwrap_or o []) t q ∙ ap (option_map (λ (o : Option Kinds). unwrap_or o [])) at

-- ---- a walk that comes to its end finds the kinds of a sound code

module _ (m : Module) (c : Code) (rules : (place : ℕ) (x : Instr) → Stands c place x → IsInRange m c x × IsAhead place x) (shape : HasShape c) (t : Table) (known : Known m c (length c.instrs) t) where
  abbrev taken : Taken
  taken = known_of t

  inside : (q : ℕ) (ks : Kinds) → KindsAt taken q ks → q < length c.instrs
  inside q ks at =
      let lt = slice_get_within taken q ks at in
      let same = length-map t (λ (o : Option Kinds). unwrap_or o []) in
      let long = known.long in
      omega (arith, lt, same, long)

  at_of : (q : ℕ) (ks : Kinds) → KindsAt taken q ks → At t q ks
  at_of q ks at =
      let k = known.told q (inside q ks at) in
      subst (λ (l : Kinds). At t q l) (some_is k.0 ks (slice_get taken q) (known_at t q k.0 k.1) at) k.1

  ahead : (y : (to : ℕ) × (ks : Kinds) × Comes m c taken to ks) → y.2.place < y.0
  ahead y = leads_ahead y.2.instr y.2.place y.0 (rules y.2.place y.2.instr y.2.stands).1 y.2.leads_on

  comes : (to : ℕ) (ks : Kinds) → Comes m c taken to ks → KindsAt taken to ks
  comes to ks y =
      let here = at_of y.place y.here y.taken_with in
      let fine = known.right y.place y.instr y.here (inside y.place y.here y.taken_with) y.stands here in
      let same : fine.rest ≡ ks = some_is fine.rest ks (after m c y.instr y.here) fine.finds y.leaves in
      known_at t to ks (subst (λ (l : Kinds). At t to l) same (fine.there to y.leads_on))

  alone : (to : ℕ) → to < length c.instrs → ((ks : Kinds) → Comes m c taken to ks → ⊥) → KindsAt taken to []
  alone to lt none =
      let k = known.told to lt in
      elim (known.origin to k.0 k.1) [
        | inl none_before ↦ known_at t to [] (subst (λ (l : Kinds). At t to l) none_before.0 k.1)
        | inr from ↦ absurd (none k.0 (record { place = from.place; instr = from.instr; here = from.here; stands = from.stands; taken_with = known_at t from.place from.here from.taken; leads_on = from.leads_on; leaves = from.leaves }))
      ]

  some_instr : 0 < length c.instrs
  some_instr = let last = shape.closes.2 in omega (arith, last)

  first : KindsAt taken 0 []
  first = alone 0 some_instr (λ ks y. let less : y.place < 0 = ahead (0, ks, y) in omega (arith, less))

  goes_back : (x : Instr) (ks rest : Kinds) → after m c x ks ≡ Some rest → Back t x rest → GoesBack taken x ks
  goes_back (i.Loop to) ks rest e b = let same : rest ≡ ks = cc in known_at t to ks (subst (λ (l : Kinds). At t to l) same b)
  goes_back _ ks rest e b = tt

  right : (place : ℕ) (x : Instr) (ks : Kinds) → Stands c place x → KindsAt taken place ks → IsRight m c taken place x ks
  right place x ks st at =
      let fine = known.right place x ks (inside place ks at) st (at_of place ks at) in
      record { in_range = (rules place x st).0; ahead = (rules place x st).1; finds = (fine.rest, fine.finds, fine.leaves); back = goes_back x ks fine.rest fine.finds fine.back; short = fine.short }

  pub is_sound : IsSound m c
  is_sound = record {
    shape = shape;
    taken = taken;
    is_taken = record { each = length-map t (λ (o : Option Kinds). unwrap_or o []) ∙ known.long; first = first; comes = comes; alone = alone };
    right = right;
  }

from_the_start : (m : Module) (c : Code) → AreFrom m c 0 c.instrs
from_the_start m c k = ap (slice_get c.instrs) (omega arith)

some_of : {A : Type 0} (o : Option A) → IsSome o → (x : A) × (o ≡ Some x)
some_of (Some x) h = (x, refl)
some_of None h = absurd cc

-- where the other rules hold and the walk comes to its end, the code is sound
pub walked_sound : (m : Module) (c : Code) → ((place : ℕ) (x : Instr) → Stands c place x → IsInRange m c x × IsAhead place x) → HasShape c → IsSome (walk m c 0 c.instrs (unknown (length c.instrs)))
    → IsSound m c
walked_sound m c rules shape some =
    let t = some_of (walk m c 0 c.instrs (unknown (length c.instrs))) some in
    let known : Known m c (0 + length c.instrs) t.0 = all_known m c c.instrs 0 (unknown (length c.instrs)) t.0 (from_the_start m c) (first_known m c) t.1 in
    is_sound m c rules shape t.0 (subst (λ (n : ℕ). Known m c n t.0) (omega arith) known)

-- ---- the walk through a sound code comes to its end

module _ (m : Module) (c : Code) (sound : IsSound m c) where
  -- what the table knows are the kinds of the code
  abbrev Agrees : Table → Type 0
  Agrees t = (q : ℕ) (ks : Kinds) → At t q ks → KindsAt sound.taken q ks

  -- with these kinds the table knows more, and agrees
  record Goes (o : Option Table) (t : Table) : Type 0 where
    later : Table
    is : o ≡ Some later
    agrees : Agrees later
    long : length later ≡ length t

  told_agrees : (t u : Table) (to : ℕ) (ks : Kinds) → KindsAt sound.taken to ks → Agrees t → Told t u to ks → Agrees u
  told_agrees t u to ks at agrees told q k new = elim (told.only q k new) [
    | inl before ↦ agrees q k before
    | inr here ↦ subst (λ (n : ℕ). KindsAt sound.taken n k) (sym here.0) (subst (λ (l : Kinds). KindsAt sound.taken to l) (sym here.1) at)
  ]

  inside_table : (t : Table) (q : ℕ) (ks : Kinds) → length t ≡ length c.instrs → KindsAt sound.taken q ks → q < length t
  inside_table t q ks long at =
      let lt = slice_get_within sound.taken q ks at in
      let each = sound.is_taken.each in
      omega (arith, lt, each, long)

  expects_goes : (t : Table) (to : ℕ) (ks : Kinds) → length t ≡ length c.instrs → Agrees t → KindsAt sound.taken to ks → Goes (expects t to ks) t
  expects_goes t to ks long agrees at = by_known (slice_get t to) refl
    where
      by_known : (o : Option (Option Kinds)) → slice_get t to ≡ o → Goes (agreed t to ks o) t
      by_known None e = absurd (not_past t to (inside_table t to ks long at) e)
      by_known (Some None) e =
          let told = put_told t to ks e in
          record { later = slice_set t to (Some ks); is = refl; agrees = told_agrees t (slice_set t to (Some ks)) to ks at agrees told; long = told.long }
      by_known (Some (Some known)) e =
          let same : known ≡ ks = some_is known ks (slice_get sound.taken to) (agrees to known e) at in
          let yes : same_kinds known ks ≡ true = ap (λ (l : Kinds). same_kinds l ks) same ∙ same_itself ks in
          record { later = t; is = ap (λ (b : Bool). cond b (Some t) None) yes; agrees = agrees; long = refl }

  loops : (t : Table) (to : ℕ) (rest known : Kinds) → Agrees t → At t to known → KindsAt sound.taken to rest → Goes (looped t rest (slice_get t to)) t
  loops t to rest known agrees e at =
      let same : known ≡ rest = some_is known rest (slice_get sound.taken to) (agrees to known e) at in
      let yes : same_kinds known rest ≡ true = ap (λ (l : Kinds). same_kinds l rest) same ∙ same_itself rest in
      record { later = t; is = ap (looped t rest) e ∙ ap (λ (b : Bool). cond b (Some t) None) yes; agrees = agrees; long = refl }

  ends : (t : Table) (rest : Kinds) → Agrees t → rest ≡ [] → Goes (ended t rest) t
  ends t rest agrees e = record { later = t; is = ap (ended t) e; agrees = agrees; long = refl }

  then_goes : (t : Table) (o : Option Table) (f : Table → Option Table) → Goes o t → ((u : Table) → Agrees u → length u ≡ length t → Goes (f u) u) → Goes (o >>= f) t
  then_goes t o f g more =
      let second = more g.later g.agrees g.long in
      record { later = second.later; is = ap (λ (p : Option Table). p >>= f) g.is ∙ second.is; agrees = second.agrees; long = second.long ∙ g.long }

  -- wherever the instruction leads, the code has these kinds; they go on
  goes : (x : Instr) (place : ℕ) (ks rest : Kinds) (t : Table) → length t ≡ length c.instrs → Agrees t → after m c x ks ≡ Some rest → LeavesNothing x rest
      → ((to : ℕ) → IsTrue (leads x place to) → KindsAt sound.taken to rest) → GoesBack sound.taken x ks → IsAhead place x → ((q : ℕ) → q ≤ place → (k : Kinds) × At t q k)
      → Goes (goes_on x place rest t) t
  goes (i.Jump to) place ks rest t long agrees e leaves comes back ahead told = expects_goes t to rest long agrees (comes to (same_place to))
  goes (i.Branch to) place ks rest t long agrees e leaves comes back ahead told =
      then_goes t (expects t to rest) (λ later. expects later (place + 1) rest) (expects_goes t to rest long agrees (comes to (ap (λ (b : Bool). cond b true (place + 1 == to)) (same_place to))))
      (λ u agrees more. expects_goes u (place + 1) rest (more ∙ long) agrees (comes (place + 1) (next_led (to == place + 1))))
    where
      next_led : (b : Bool) → cond b true (place + 1 == place + 1) ≡ true
      next_led true = refl
      next_led false = same_place (place + 1)
  goes (i.Loop to) place ks rest t long agrees e leaves comes back ahead told =
      let known = told to ahead in
      let same : ks ≡ rest = cc in
      loops t to rest known.0 agrees known.1 (subst (λ (l : Kinds). KindsAt sound.taken to l) same back)
  goes i.Return place ks rest t long agrees e leaves comes back ahead told = ends t rest agrees leaves
  goes _ place ks rest t long agrees e leaves comes back ahead told = expects_goes t (place + 1) rest long agrees (comes (place + 1) (same_place (place + 1)))

  step_goes : (p : ℕ) (x : Instr) (t : Table) → Known m c p t → Agrees t → Stands c p x → Goes (walk_at m c p x t) t
  step_goes p x t known agrees st = with_kinds (sound.right p x ks st here)
    where
      lt : p < length t
      lt = let inside = slice_get_within c.instrs p x st in let long = known.long in omega (arith, inside, long)

      ks : Kinds
      ks = kinds_in (slice_get t p)

      v : Table
      v = opened t p (slice_get t p)

      o : Opened t v p ks
      o = opens_at t p (slice_get t p) refl lt

      -- a place of which nothing is known is one to which no instruction leads
      none_comes : slice_get t p ≡ Some None → (k : Kinds) → Comes m c sound.taken p k → ⊥
      none_comes e k y =
          let less = leads_ahead y.instr y.place p (sound.right y.place y.instr y.here y.stands y.taken_with).ahead y.leads_on in
          let old = known.told y.place less in
          let there = (known.right y.place y.instr old.0 less y.stands old.1).there p y.leads_on in
          cc

      opened_agrees : Agrees v
      opened_agrees q k at = elim (o.only q k at) [
        | inl before ↦ agrees q k before
        | inr new ↦ subst (λ (n : ℕ). KindsAt sound.taken n k) (sym new.0) (subst (λ (l : Kinds). KindsAt sound.taken p l) (sym new.1)
            (sound.is_taken.alone p (slice_get_within c.instrs p x st) (none_comes new.2)))
      ]

      here : KindsAt sound.taken p ks
      here = opened_agrees p ks o.there

      told : (q : ℕ) → q ≤ p → (k : Kinds) × At v q k
      told q le = elim (cases_lt q p) [
        | inl less ↦ let old = known.told q less in (old.0, o.keeps q old.0 old.1)
        | inr ge ↦ let same : p ≡ q = omega (arith, le, ge) in (ks, subst (λ (n : ℕ). At v n ks) same o.there)
      ]

      with_kinds : IsRight m c sound.taken p x ks → Goes (walk_at m c p x t) t
      with_kinds r =
          let comes : (to : ℕ) → IsTrue (leads x p to) → KindsAt sound.taken to r.finds.0 = λ to led. sound.is_taken.comes to r.finds.0
          (record { place = p; instr = x; here = ks; stands = st; taken_with = here; leads_on = led; leaves = r.finds.1 }) in
          let g = goes x p ks r.finds.0 v (o.long ∙ known.long) opened_agrees r.finds.1 r.finds.2 comes r.back r.ahead told in
          let short : ltb 1024 (length ks) ≡ false = le-ltb 1024 (length ks) r.short in
          record {
            later = g.later;
            is = ap (λ (b : Bool). cond b None (after m c x ks >>= (λ rest. goes_on x p rest v))) short ∙ ap (λ (a : Option Kinds). a >>= (λ rest. goes_on x p rest v)) r.finds.1 ∙ g.is;
            agrees = g.agrees;
            long = g.long ∙ o.long;
          }

  all_goes : (xs : List Instr) (p : ℕ) (t : Table) → AreFrom m c p xs → Known m c p t → Agrees t → IsSome (walk m c p xs t)
  all_goes [] p t from known agrees = refl
  all_goes (x ∷ xs) p t from known agrees =
      let g = step_goes p x t known agrees (head_stands m c p x xs from) in
      let more = all_goes xs (p + 1) g.later (tail_from m c p x xs from) (walk_known m c p x t g.later known (head_stands m c p x xs from) g.is) g.agrees in
      subst (λ (o : Option Table). IsSome (o >>= (λ later. walk m c (p + 1) xs later))) (sym g.is) more

  pub sound_walked : IsSome (walk m c 0 c.instrs (unknown (length c.instrs)))
  sound_walked = all_goes c.instrs 0 (unknown (length c.instrs)) (from_the_start m c) (first_known m c) (λ q ks at. absurd (nothing_known (length c.instrs) q ks at))
    where
      nothing_known : (n q : ℕ) (ks : Kinds) → At (unknown n) q ks → ⊥
      nothing_known zero q ks e = cc
      nothing_known (suc n) zero ks e = cc
      nothing_known (suc n) (suc q) ks e = nothing_known n q ks e
