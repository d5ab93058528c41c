-- The machine of a verified module is never stuck, and comes to its end in time.
use Rattle.std.proofs.Common.{◌≡◌, ◌≢◌, ℕ, zero, suc, ◌+◌, ◌<◌, ◌≤◌, Bool, true, false, List, [], ◌∷◌, length, Option, Some, None, inl, inr, refl, sym, subst, arith, map}
use Rattle.std.specs.Prelude.{pos, slice_get, IsSome, IsTrue}
use Rattle.std.specs.List.{AllByRecursion}
use Rattle.cal_base.specs.declared.value.Val.TheVariants.{Int}
use Rattle.cal_base.specs.Memory.{Memory}
use Rattle.bytecode.specs.declared.instr.Instr.{Instr}
use Rattle.bytecode.specs.declared.instr.Instr.TheVariants as i
use Rattle.bytecode.specs.declared.module.Code.{Code}
use Rattle.bytecode.specs.declared.module.Module.{Module}
use Rattle.bytecode.specs.Spelling.{FitsBlock}
use Rattle.code_verify.specs.Rules.{Stands, IsVerified, IsPlainArray, IsNotMains, MayStandInMain, UsesNoTally, UsesTally, Itself, Through}
use Rattle.machine_meaning.specs.Machine.{◌>>=◌, kind_of, State, Next, On, Prints, Opens, Ends, Traps, step, next}
use Rattle.machine_meaning.specs.Runs.{main_beginning, LeadsTo, Reached, Start, Then, Begins, Mains, Routines, routine_beginning, Comes, Goes, runs, goes_on, instructions_in, most_steps, NeverStuck}
use Rattle.machine_meaning.specs.Runs.{EndsInTime, IsEnd, RoutinesEnd}
use Rattle.machine_meaning.specs.Fitting.{MayRun, Runs, Fits}
use Rattle.machine_meaning.proofs.Steps.{Good, Follows, begun_fits, step_good}

-- an instruction stands at each place that has kinds
stands_at : {A B : Type 0} (xs : List A) (ys : List B) (n : ℕ) (x : A) → length xs ≡ length ys → slice_get xs n ≡ Some x → (y : B) × (slice_get ys n ≡ Some y)
stands_at [] ys n x e h = absurd cc
stands_at (a ∷ xs) [] n x e h = absurd (omega arith)
stands_at (a ∷ xs) (b ∷ ys) zero x e h = (b, refl)
stands_at (a ∷ xs) (b ∷ ys) (suc n) x e h = let same : length xs ≡ length ys = omega arith in stands_at xs ys n x same h

all_at : {A : Type 0} (P : A → Type 0) (xs : List A) (n : ℕ) (x : A) → AllByRecursion P xs → slice_get xs n ≡ Some x → P x
all_at P [] n x all h = absurd cc
all_at P (a ∷ xs) zero x all h = let same : a ≡ x = cc in subst P same all.0
all_at P (a ∷ xs) (suc n) x all h = all_at P xs n x all.1 h

in_list : (cs : List Code) (n : ℕ) (c : Code) → slice_get cs n ≡ Some c → length c.instrs ≤ instructions_in cs
in_list [] n c h = absurd cc
in_list (a ∷ cs) zero c h = let same : a ≡ c = cc in subst (λ (x : Code). length x.instrs ≤ length a.instrs + instructions_in cs) same (omega arith)
in_list (a ∷ cs) (suc n) c h = let more = in_list cs n c h in omega (arith, more)

good_some : (r : Bool) (Q : State → Type 0) (o : Option Next) → Good r Q o → IsSome o
good_some r Q None h = absurd h
good_some r Q (Some n) h = refl

-- where a good step leads fits
led : (m : Module) (r : Bool) (Q : State → Type 0) (fit : (s : State) → Q s → Fits m r s) (n : Next) (s' : State) → Good r Q (Some n) → LeadsTo n s' → Fits m r s'
led m r Q fit (On s) s' h l = subst (λ (t : State). Fits m r t) (sym l) (fit s h)
led m r Q fit (Prints line s) s' h l = subst (λ (t : State). Fits m r t) (sym l) (fit s h.1)
led m r Q fit (Opens first widths s) s' h l =
    let f = fit s h.1 in
    subst (λ (t : State). Fits m r t) (sym l.1) (record { owner = sym h.0; call = f.call; waits = f.waits; few = f.few })
led m r Q fit (Ends store fuel) s' h l = absurd l
led m r Q fit (Traps c store fuel) s' h l = absurd l

-- ---- the codes of a verified module

main_may : (m : Module) (x : Instr) → IsPlainArray m x × MayStandInMain m x → MayRun m false x
main_may m (i.Print items) h = refl
main_may m (i.Par b n) h = (refl, h.1.2)
main_may m (i.Word a) h = λ yes is. absurd cc
main_may m (i.Put a) h = λ yes is. absurd cc
main_may m (i.Call f) h = λ yes is. absurd cc
main_may m (i.Item b n) h = h.0
main_may m (i.SetItem b n) h = h.0
main_may m (i.AddItem b n) h = h.0
main_may m _ h = tt

block_may : (m : Module) (x : Instr) → IsPlainArray m x → IsNotMains x → UsesNoTally m x → MayRun m true x
block_may m (i.Print items) plain not_mains quiet = absurd not_mains
block_may m (i.Par b n) plain not_mains quiet = absurd not_mains
block_may m (i.Word a) plain not_mains quiet = λ yes is. quiet is
block_may m (i.Put a) plain not_mains quiet = λ yes is. quiet is
block_may m (i.Call f) plain not_mains quiet = λ yes u. quiet u
block_may m (i.Item b n) plain not_mains quiet = plain
block_may m (i.SetItem b n) plain not_mains quiet = plain
block_may m (i.AddItem b n) plain not_mains quiet = plain
block_may m _ plain not_mains quiet = tt

module _ (m : Module) (r : Bool) (f : ℕ) (c : Code) (at : slice_get m.functions f ≡ Some c) (barred : IsTrue r → UsesTally m f → ⊥) where
  function_may : (place : ℕ) (x : Instr) → Stands c place x → IsPlainArray m x → IsNotMains x → MayRun m r x
  function_may place (i.Print items) st plain not_mains = absurd not_mains
  function_may place (i.Par b n) st plain not_mains = absurd not_mains
  function_may place (i.Word a) st plain not_mains = λ yes is. barred yes (Itself f c place (i.Word a) at st is)
  function_may place (i.Put a) st plain not_mains = λ yes is. barred yes (Itself f c place (i.Put a) at st is)
  function_may place (i.Call g) st plain not_mains = λ yes u. barred yes (Through f g c place at st u)
  function_may place (i.Item b n) st plain not_mains = plain
  function_may place (i.SetItem b n) st plain not_mains = plain
  function_may place (i.AddItem b n) st plain not_mains = plain
  function_may place _ st plain not_mains = tt

module _ (m : Module) (ok : IsVerified m) where
  main_runs : Runs m false m.main
  main_runs = record { of = inl refl; sound = ok.main.sound; small = omega arith; may = λ place x st. main_may m x (ok.main.each place x st) }

  block_runs : (b : ℕ) (c : Code) → slice_get m.blocks b ≡ Some c → Runs m true c
  block_runs b c at =
      let is = ok.blocks b c at in
      let more = in_list m.blocks b c at in
      record { of = inr (inl (b, at)); sound = is.sound; small = omega (arith, more); may = λ place x st. let h = is.each place x st in block_may m x h.0 h.1 h.2 }

  pub function_runs : (r : Bool) (f : ℕ) (c : Code) → slice_get m.functions f ≡ Some c → (IsTrue r → UsesTally m f → ⊥) → Runs m r c
  function_runs r f c at barred =
      let is = ok.functions f c at in
      let more = in_list m.functions f c at in
      record { of = inr (inr (f, at)); sound = is.sound; small = omega (arith, more); may = λ place x st. let h = is.each place x st in function_may m r f c at barred place x st h.0 h.1 }

  -- a state that fits has a good step
  pub next_good : (r : Bool) (s : State) → Fits m r s → Good r (Follows m r (function_runs r) s) (next m s)
  next_good r s fits =
      let there = stands_at fits.call.runs.sound.taken s.call.code.instrs s.call.place (map kind_of s.call.operands) fits.call.runs.sound.is_taken.each fits.call.operands in
      subst (λ (o : Option Instr). Good r (Follows m r (function_runs r) s) (o >>= (λ instr. step m instr s))) (sym there.1) (step_good m r (function_runs r) s fits there.0 there.1)

  -- a routine's beginning fits
  pub routine_fits : (b : ℕ) (block : Code) (width id : ℕ) (opening : Memory) (fuel : ℕ) → slice_get m.blocks b ≡ Some block → Fits m true (routine_beginning block width id opening fuel)
  routine_fits b block width id opening fuel h = record {
    owner = refl;
    call = begun_fits m true (function_runs true) block (block_runs b block h) (Int (pos width) ∷ Int (pos id) ∷ [])
        (rw ((all_at FitsBlock m.blocks b block ok.spelled.blocks.1 h).params, (ok.blocks b block h).params.1) refl);
    waits = tt;
    few = omega arith;
  }

  pub main_fits : (memory : Memory) (fuel : ℕ) → Fits m false (main_beginning m memory fuel)
  main_fits memory fuel = record { owner = refl; call = begun_fits m false (function_runs false) m.main main_runs [] (rw ok.spelled.main.params refl); waits = tt; few = omega arith }

  -- a beginning fits
  begins_fit : (s : State) → Begins m s → (r : Bool) × Fits m r s
  begins_fit s (Mains memory fuel) = (false, main_fits memory fuel)
  begins_fit s (Routines b block width id opening fuel h) = (true, routine_fits b block width id opening fuel h)

  -- what is reached from a state that fits does
  pub reached_from : (r : Bool) (first s : State) → Fits m r first → Reached m first s → Fits m r s
  reached_from r first s fits Start = fits
  reached_from r first s fits (Then s1 s2 n reached e l) =
      led m r (Follows m r (function_runs r) s1) (λ t h. h.0) n s2 (subst (λ (o : Option Next). Good r (Follows m r (function_runs r) s1) o) e (next_good r s1 (reached_from r first s1 fits reached)))
      l

  reached_fits : (first s : State) → Begins m first → Reached m first s → (r : Bool) × Fits m r s
  reached_fits first s b reached = let f = begins_fit first b in (f.0, reached_from f.0 first s f.1 reached)

  pub never_stuck : NeverStuck m
  never_stuck first s b reached = let f = reached_fits first s b reached in good_some f.0 (Follows m f.0 (function_runs f.0) s) (next m s) (next_good f.0 s f.1)

  no_more : (r : Bool) (n : ℕ) (s last : State) → Fits m r s → most_steps m s < n → runs m n s ≢ Goes last
  no_more r zero s last fits lt e = omega arith
  no_more r (suc n) s last fits lt e = cases (next m s) (next_good r s fits) (λ s' h. no_more r n s' last h.0 (omega (arith, h.1, lt))) e
    where
      cases : (o : Option Next) → Good r (Follows m r (function_runs r) s) o → ((s' : State) → Follows m r (function_runs r) s s' → runs m n s' ≢ Goes last) → goes_on (runs m n) s o ≡ Goes last → ⊥
      cases None g ih e = g
      cases (Some (On s')) g ih e = ih s' g e
      cases (Some (Prints line s')) g ih e = cc
      cases (Some (Opens first widths s')) g ih e = cc
      cases (Some (Ends store fuel)) g ih e = cc
      cases (Some (Traps c store fuel)) g ih e = cc

  pub ends_in_time : EndsInTime m
  ends_in_time first s last b reached = let f = reached_fits first s b reached in no_more f.0 (most_steps m s + 1) s last f.1 (omega arith)

  -- a routine's run comes to its end or to a trap
  comes_to_end : (n : ℕ) (s : State) → Fits m true s → most_steps m s < n → (x : Next) × (runs m n s ≡ Comes x) × IsEnd x
  comes_to_end zero s fits lt = absurd (omega arith)
  comes_to_end (suc n) s fits lt = cases (next m s) (next_good true s fits) (λ s' h. comes_to_end n s' h.0 (omega (arith, h.1, lt)))
    where
      cases : (o : Option Next) → Good true (Follows m true (function_runs true) s) o → ((s' : State) → Follows m true (function_runs true) s s' → (x : Next) × (runs m n s' ≡ Comes x) × IsEnd x)
          → (x : Next) × (goes_on (runs m n) s o ≡ Comes x) × IsEnd x
      cases None g ih = absurd g
      cases (Some (On s')) g ih = ih s' g
      cases (Some (Prints line s')) g ih = let clash = g.0 in absurd cc
      cases (Some (Opens first widths s')) g ih = let clash = g.0 in absurd cc
      cases (Some (Ends store fuel)) g ih = (Ends store fuel, refl, tt)
      cases (Some (Traps c store fuel)) g ih = (Traps c store fuel, refl, tt)

  pub routines_end : RoutinesEnd m
  routines_end b block width id opening fuel at = comes_to_end (most_steps m (routine_beginning block width id opening fuel) + 1) (routine_beginning block width id opening fuel)
      (routine_fits b block width id opening fuel at) (omega arith)
