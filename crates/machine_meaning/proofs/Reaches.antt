-- What comes of a state that comes to another.
use Rattle.std.proofs.Common.{◌≡◌, ℕ, zero, suc, ◌+◌, ◌≤◌, false, Option, Some, None, refl, subst, ap, ◌∙◌, arith}
use Rattle.bytecode.specs.declared.module.Module.{Module}
use Rattle.code_verify.specs.Rules.{IsVerified}
use Rattle.machine_meaning.specs.Machine.{State, Next, On, Prints, Opens, Ends, Traps, next}
use Rattle.machine_meaning.specs.Runs.{Comes, Goes, runs, goes_on, most_steps, Reached, Then, main_beginning, routine_beginning}
use Rattle.machine_meaning.specs.Fitting.{Fits}
use Rattle.machine_meaning.specs.Meaning.{main_at, main_of, outcome_of}
use Rattle.machine_meaning.specs.Reaching.{MainFollows, MainTraps, RoutineEnds, RoutineTraps}
use Rattle.machine_meaning.proofs.Steps.{Good, Follows}
use Rattle.machine_meaning.proofs.Never.{next_good, function_runs, main_fits, reached_from, routines_end}
use Rattle.machine_meaning.proofs.Composes.{then_comes}
use Rattle.machine_meaning.proofs.Goes as main

module _ (m : Module) where
  -- a run that comes to its end in some steps comes to it in more
  in_more : (j i : ℕ) (s : State) (n : Next) → j ≤ i → runs m j s ≡ Comes n → runs m i s ≡ Comes n
  in_more zero i s n le e = absurd cc
  in_more (suc j) zero s n le e = absurd (omega arith)
  in_more (suc j) (suc i) s n le e = told (next m s) e (λ s' e'. in_more j i s' n (omega arith) e')
    where
      told : (o : Option Next) → goes_on (runs m j) s o ≡ Comes n → ((s' : State) → runs m j s' ≡ Comes n → runs m i s' ≡ Comes n) → goes_on (runs m i) s o ≡ Comes n
      told None e more = absurd cc
      told (Some (On s')) e more = more s' e
      told (Some (Prints line s')) e more = e
      told (Some (Opens first widths s')) e more = e
      told (Some (Ends store fuel)) e more = e
      told (Some (Traps cause store fuel)) e more = e

  -- all runs from a state that come to an end come to the same
  one_end : (j i : ℕ) (s : State) (n other : Next) → runs m j s ≡ Comes n → runs m i s ≡ Comes other → n ≡ other
  one_end j i s n other e e' =
      let first = in_more j (j + i) s n (omega arith) e in
      let second = in_more i (j + i) s other (omega arith) e' in
      cc

  -- what a reached state comes to is reached
  reaches : (j : ℕ) (first s s' : State) → Reached m first s → runs m j s ≡ Goes s' → Reached m first s'
  reaches zero first s s' reached e = let same : s ≡ s' = cc in subst (λ (t : State). Reached m first t) same reached
  reaches (suc j) first s s' reached e = told (next m s) refl e (λ t on e'. reaches j first t s' on e')
    where
      told : (o : Option Next) → next m s ≡ o → goes_on (runs m j) s o ≡ Goes s' → ((t : State) → Reached m first t → runs m j t ≡ Goes s' → Reached m first s') → Reached m first s'
      told None is e more = absurd cc
      told (Some (On t)) is e more = more t (Then s t (On t) reached is refl) e
      told (Some (Prints line t)) is e more = absurd cc
      told (Some (Opens first widths t)) is e more = absurd cc
      told (Some (Ends store fuel)) is e more = absurd cc
      told (Some (Traps cause store fuel)) is e more = absurd cc

module _ (m : Module) (ok : IsVerified m) where
  follows : (whole steps j : ℕ) (s s' : State) → Fits m false s → runs m j s ≡ Goes s' → main_of m whole steps s ≡ main_of m whole steps s'
  follows whole steps zero s s' fits e = let same : s ≡ s' = cc in ap (λ (t : State). main_of m whole steps t) same
  follows whole steps (suc j) s s' fits e =
      main.goes_on m ok whole steps s fits ∙ told (next m s) (next_good m ok false s fits) e (λ t h e'. follows whole steps j t s' h.0 e')
    where
      told : (o : Option Next) → Good false (Follows m false (function_runs m ok false) s) o → goes_on (runs m j) s o ≡ Goes s'
          → ((t : State) → Follows m false (function_runs m ok false) s t → runs m j t ≡ Goes s' → main_of m whole steps t ≡ main_of m whole steps s')
          → main_at m whole steps (λ more later. main_of m whole more later) o ≡ main_of m whole steps s'
      told None g e more = absurd g
      told (Some (On t)) g e more = more t g e
      told (Some (Prints line t)) g e more = absurd cc
      told (Some (Opens first widths t)) g e more = absurd cc
      told (Some (Ends store fuel)) g e more = absurd cc
      told (Some (Traps cause store fuel)) g e more = absurd cc

  pub main_follows : MainFollows m
  main_follows memory fuel whole steps s s' reached to =
      (follows whole steps to.0 s s' (reached_from m ok false (main_beginning m memory fuel) s (main_fits m ok memory fuel) reached) to.1, reaches m to.0 (main_beginning m memory fuel) s s' reached to.1)

  pub main_traps : MainTraps m
  main_traps memory fuel whole steps s cause store left reached to =
      main.comes m ok whole steps (suc (most_steps m s) + to.0) s (Traps cause store left) (reached_from m ok false (main_beginning m memory fuel) s (main_fits m ok memory fuel) reached) (omega arith)
      (in_more m to.0 (suc (most_steps m s) + to.0) s (Traps cause store left) (omega arith) to.1)

  pub routine_ends : RoutineEnds m
  routine_ends b block width id opening fuel s store left at to ends =
      let there = then_comes m (routine_beginning block width id opening fuel) s (Ends store left) to (suc zero, ap (λ (o : Option Next). goes_on (runs m zero) s o) ends) in
      let ended = routines_end m ok b block width id opening fuel at in
      ap outcome_of (ended.1 ∙ ap (λ (n : Next). Comes n) (one_end m (most_steps m (routine_beginning block width id opening fuel) + 1) there.0 (routine_beginning block width id opening fuel) ended.0
      (Ends store left) ended.1 there.1))

  pub routine_traps : RoutineTraps m
  routine_traps b block width id opening fuel cause store left at there =
      let ended = routines_end m ok b block width id opening fuel at in
      ap outcome_of (ended.1 ∙ ap (λ (n : Next). Comes n) (one_end m (most_steps m (routine_beginning block width id opening fuel) + 1) there.0 (routine_beginning block width id opening fuel) ended.0
      (Traps cause store left) ended.1 there.1))
