-- Runs of small steps are composed: a call in a code does what the function's body does.
use Rattle.std.proofs.Common.{◌≡◌, ℕ, zero, suc, false, List, length, Option, Some, None, refl, ap, ◌∙◌, arith, reverse}
use Rattle.std.specs.Prelude.{◌==◌}
use Rattle.std.proofs.lemmas.Bool.{ne_eqb}
use Rattle.cal_base.specs.declared.ends.Cause.{Cause}
use Rattle.cal_base.specs.declared.value.Store.{Store}
use Rattle.cal_base.specs.declared.value.Val.{Val}
use Rattle.bytecode.specs.declared.module.Code.{Code}
use Rattle.bytecode.specs.declared.module.Module.{Module}
use Rattle.machine_meaning.specs.Machine.{State, Next, On, Prints, Opens, Ends, Traps, most_callers, on_with, next}
use Rattle.machine_meaning.specs.Runs.{Comes, Goes, runs, goes_on}
use Rattle.machine_meaning.specs.Reaching.{ComesTo, TrapsAt, CanCall, CallComposes, CallTraps, body}

module _ (m : Module) where
  -- from where a run goes it goes on as from there
  runs_more : (j k : ℕ) (a b : State) → runs m j a ≡ Goes b → (i : ℕ) × (runs m i a ≡ runs m k b)
  runs_more zero k a b e = let same : a ≡ b = cc in (k, ap (λ (s : State). runs m k s) same)
  runs_more (suc j) k a b e = told (next m a) refl e (λ a' e'. runs_more j k a' b e')
    where
      told : (o : Option Next) → next m a ≡ o → goes_on (runs m j) a o ≡ Goes b → ((a' : State) → runs m j a' ≡ Goes b → (i : ℕ) × (runs m i a' ≡ runs m k b)) → (i : ℕ) × (runs m i a ≡ runs m k b)
      told None is e more = absurd cc
      told (Some (On a')) is e more = let x = more a' e in (suc x.0, ap (λ (o : Option Next). goes_on (runs m x.0) a o) is ∙ x.1)
      told (Some (Prints line a')) is e more = absurd cc
      told (Some (Opens first widths a')) is e more = absurd cc
      told (Some (Ends store fuel)) is e more = absurd cc
      told (Some (Traps cause store fuel)) is e more = absurd cc

  -- a state comes to itself
  pub here : (s : State) → ComesTo m s s
  here s = (zero, refl)

  -- one step
  pub one : (s s' : State) → next m s ≡ Some (On s') → ComesTo m s s'
  one s s' e = (suc zero, ap (λ (o : Option Next). goes_on (runs m zero) s o) e)

  -- a state traps whose step does
  pub one_traps : (s : State) (cause : Cause) (store : Store) (fuel : ℕ) → next m s ≡ Some (Traps cause store fuel) → TrapsAt m s cause store fuel
  one_traps s cause store fuel e = (suc zero, ap (λ (o : Option Next). goes_on (runs m zero) s o) e)

  -- on from where a state comes to
  pub then_to : (a b c : State) → ComesTo m a b → ComesTo m b c → ComesTo m a c
  then_to a b c p q = let x = runs_more p.0 q.0 a b p.1 in (x.0, x.1 ∙ q.1)

  -- to what does not lead on from where a state comes to
  pub then_comes : (a b : State) (n : Next) → ComesTo m a b → (j : ℕ) × (runs m j b ≡ Comes n) → (j : ℕ) × (runs m j a ≡ Comes n)
  then_comes a b n p q = let x = runs_more p.0 q.0 a b p.1 in (x.0, x.1 ∙ q.1)

  -- a state traps that comes to one that does
  pub then_traps : (a b : State) (cause : Cause) (store : Store) (fuel : ℕ) → ComesTo m a b → TrapsAt m b cause store fuel → TrapsAt m a cause store fuel
  then_traps a b cause store fuel p q = then_comes a b (Traps cause store fuel) p q

  -- the call takes one unit, and is not too deep
  called : (s : State) (n : ℕ) (f : Code) (parts : List Val × List Val) (left : ℕ) → CanCall m s n f parts left
      → next m s ≡ Some (On (body m f (reverse parts.0) (on_with s parts.1).call s.callers s.store left))
  called s n f parts left can =
      let room = can.room in
      let shallow : (length s.callers == most_callers) ≡ false = ne_eqb (length s.callers) most_callers (λ e. omega (arith, e, room)) in
      rw (can.stands, can.function, can.arguments, can.unit, shallow) refl

  -- so the instruction Call does what the body does
  pub call_composes : CallComposes m
  call_composes s n f parts left back store' fuel' can does =
      let first = one s _ (called s n f parts left can) in
      then_to s _ _ first (does (on_with s parts.1).call s.callers refl)

  -- and it traps where the body does
  pub call_traps : CallTraps m
  call_traps s n f parts left cause store' fuel' can does =
      let first = one s _ (called s n f parts left can) in
      then_traps s _ cause store' fuel' first (does (on_with s parts.1).call s.callers refl)
