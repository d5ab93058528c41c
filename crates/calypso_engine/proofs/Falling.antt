-- Fewer steps of the machine are ahead behind each event of main.
use Rattle.std.proofs.Common.{◌≡◌, ℕ, zero, suc, ◌+◌, ◌<◌, ◌≤◌, false, [], Option, Some, None, refl, sym, subst, arith}
use Rattle.bytecode.specs.declared.module.Module.{Module}
use Rattle.code_verify.specs.Rules.{IsVerified}
use Rattle.machine_meaning.specs.Machine.{State, Next, On, Prints, Opens, Ends, Traps, next}
use Rattle.machine_meaning.specs.Runs.{Comes, runs, goes_on, most_steps}
use Rattle.machine_meaning.specs.Fitting.{Fits}
use Rattle.cal_base.specs.Memory.{Memory}
use Rattle.routine_vm.specs.Held.{Held, main_state, MayGoOn}
use Rattle.routine_vm.specs.States.{outcome_from}
use Rattle.machine_meaning.proofs.Steps.{Good, Follows}
use Rattle.machine_meaning.proofs.Never.{next_good, function_runs}

-- behind an event that leads on, fewer steps than these are ahead
abbrev pub Falls : Module → ℕ → Next → Type 0
Falls m n (On s) = Unit {0}
Falls m n (Prints line s) = most_steps m s < n
Falls m n (Opens first widths s) = most_steps m s < n
Falls m n (Ends store fuel) = Unit {0}
Falls m n (Traps cause store fuel) = Unit {0}

falls_more : (m : Module) (a b : ℕ) (x : Next) → a ≤ b → Falls m a x → Falls m b x
falls_more m a b (On s) le h = tt
falls_more m a b (Prints line s) le h = omega arith
falls_more m a b (Opens first widths s) le h = omega arith
falls_more m a b (Ends store fuel) le h = tt
falls_more m a b (Traps cause store fuel) le h = tt

module _ (m : Module) (ok : IsVerified m) where
  falls_at : (n : ℕ) (s : State) (o : Option Next) (x : Next) → Good false (Follows m false (function_runs m ok false) s) o → goes_on (runs m n) s o ≡ Comes x
      → ((s' : State) → Follows m false (function_runs m ok false) s s' → runs m n s' ≡ Comes x → Falls m (most_steps m s') x) → Falls m (most_steps m s) x
  falls_at n s None x g e more = absurd g
  falls_at n s (Some (On s')) x g e more = falls_more m (most_steps m s') (most_steps m s) x (omega (arith, g.1)) (more s' g e)
  falls_at n s (Some (Prints line s')) x g e more = let same : Prints line s' ≡ x = cc in subst (λ (y : Next). Falls m (most_steps m s) y) same g.1.1
  falls_at n s (Some (Opens first widths s')) x g e more = let same : Opens first widths s' ≡ x = cc in subst (λ (y : Next). Falls m (most_steps m s) y) same g.1.1
  falls_at n s (Some (Ends store fuel)) x g e more = let same : Ends store fuel ≡ x = cc in subst (λ (y : Next). Falls m (most_steps m s) y) same tt
  falls_at n s (Some (Traps cause store fuel)) x g e more = let same : Traps cause store fuel ≡ x = cc in subst (λ (y : Next). Falls m (most_steps m s) y) same tt

  pub comes_falls : (n : ℕ) (s : State) (x : Next) → Fits m false s → runs m n s ≡ Comes x → Falls m (most_steps m s) x
  comes_falls zero s x fits e = absurd cc
  comes_falls (suc n) s x fits e = falls_at n s (next m s) x (next_good m ok false s fits) e (λ s' h e'. comes_falls n s' x h.0 e')

-- main, which may go on, has fewer steps ahead behind its next event
pub main_falls : (m : Module) (ok : IsVerified m) (h : Held) (memory : Memory) (x : Next) → MayGoOn m h → outcome_from m (main_state m h memory) ≡ Comes x
    → Falls m (most_steps m (main_state m h [])) x
main_falls m ok h memory x may e =
    comes_falls m ok (most_steps m (main_state m h memory) + 1) (main_state m h memory) x (record { owner = refl; call = may.fits.call; waits = may.fits.waits; few = may.fits.few }) e

-- the same behind a step, which keeps the machine
pub step_falls : (m : Module) (before mid after : Held) → after ≡ mid → most_steps m (main_state m mid []) < most_steps m (main_state m before [])
    → most_steps m (main_state m after []) < most_steps m (main_state m before [])
step_falls m before mid after same lt = subst (λ (h : Held). most_steps m (main_state m h []) < most_steps m (main_state m before [])) (sym same) lt
