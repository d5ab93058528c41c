-- Main of a verified module goes on just where its steps lead.
use Rattle.std.proofs.Common.{◌≡◌, ℕ, zero, suc, ◌+◌, ◌<◌, false, Option, Some, None, refl, ap, ◌∙◌, arith, length}
use Rattle.cal_base.specs.declared.value.Store.TheVariants.{Main}
use Rattle.cal_base.specs.Stores.{memory_in}
use Rattle.cal_base.specs.Main as outline
use Rattle.bytecode.specs.declared.module.Module.{Module}
use Rattle.code_verify.specs.Rules.{IsVerified}
use Rattle.machine_meaning.specs.Machine.{State, Next, On, Prints, Opens, Ends, Traps, next}
use Rattle.machine_meaning.specs.Runs as run
use Rattle.machine_meaning.specs.Runs.{Comes, runs, most_steps, main_beginning}
use Rattle.machine_meaning.specs.Fitting.{Fits}
use Rattle.machine_meaning.specs.Meaning.{answers, blocks_of, main_at, main_from, main_of, MainGoesOn, MainComes}
use Rattle.machine_meaning.proofs.Steps.{Good, Follows}
use Rattle.machine_meaning.proofs.Never.{next_good, function_runs, main_fits, reached_from}

module _ (m : Module) (ok : IsVerified m) (whole : ℕ) where
  -- two ways to go on that agree wherever a step leads
  agree : (steps : ℕ) (s : State) (more others : ℕ → State → outline.Main) (o : Option Next) → Good false (Follows m false (function_runs m ok false) s) o
      → ((k : ℕ) (later : State) → Follows m false (function_runs m ok false) s later → more k later ≡ others k later) → main_at m whole steps more o ≡ main_at m whole steps others o
  agree steps s more others None g same = absurd g
  agree steps s more others (Some (On later)) g same = same steps later g
  agree steps s more others (Some (Prints line later)) g same = ap (λ (x : outline.Main). outline.Shows line x) (same steps later g.1)
  agree steps s more others (Some (Opens first widths later)) g same =
      λ i. outline.Opens (record { number = suc steps; opening = memory_in later.store; answers = answers m whole (memory_in later.store) (blocks_of m first (length widths)) widths })
      (λ memory. same (suc steps) (record later { store = Main memory }) (record { owner = refl; call = g.1.0.call; waits = g.1.0.waits; few = g.1.0.few }, g.1.1) i)
  agree steps s more others (Some (Ends store fuel)) g same = refl
  agree steps s more others (Some (Traps c store fuel)) g same = refl

  -- any bound above the steps that are ahead is enough
  enough : (bound other steps : ℕ) (s : State) → Fits m false s → most_steps m s < bound → most_steps m s < other → main_from m whole bound steps s ≡ main_from m whole other steps s
  enough zero other steps s fits lt less = absurd (omega arith)
  enough (suc bound) zero steps s fits lt less = absurd (omega arith)
  enough (suc bound) (suc other) steps s fits lt less =
      agree steps s (λ k later. main_from m whole bound k later) (λ k later. main_from m whole other k later) (next m s) (next_good m ok false s fits)
      (λ k later h. enough bound other k later h.0 (omega (arith, h.1, lt)) (omega (arith, h.1, less)))

  -- from a state that fits main goes on just where its step leads
  pub goes_on : (steps : ℕ) (s : State) → Fits m false s → main_of m whole steps s ≡ main_at m whole steps (λ k later. main_of m whole k later) (next m s)
  goes_on steps s fits =
      let one_more : most_steps m s + 1 ≡ suc (most_steps m s) = omega arith in
      ap (λ (n : ℕ). main_from m whole n steps s) one_more
      ∙ agree steps s (λ k later. main_from m whole (most_steps m s) k later) (λ k later. main_of m whole k later) (next m s) (next_good m ok false s fits)
      (λ k later h. enough (most_steps m s) (most_steps m later + 1) k later h.0 h.1 (omega arith))

  -- main goes on where its run comes to
  pub comes : (steps k : ℕ) (s : State) (n : Next) → Fits m false s → most_steps m s < k → runs m k s ≡ Comes n
      → main_of m whole steps s ≡ main_at m whole steps (λ more later. main_of m whole more later) (Some n)
  comes steps zero s n fits lt e = absurd (omega arith)
  comes steps (suc k) s n fits lt e =
      goes_on steps s fits ∙ told (next m s) (next_good m ok false s fits) e (λ s' h e'. comes steps k s' n h.0 (omega (arith, h.1, lt)) e')
    where
      told : (o : Option Next) → Good false (Follows m false (function_runs m ok false) s) o → run.goes_on (runs m k) s o ≡ Comes n
          → ((s' : State) → Follows m false (function_runs m ok false) s s' → runs m k s' ≡ Comes n
          → main_of m whole steps s' ≡ main_at m whole steps (λ more later. main_of m whole more later) (Some n))
          → main_at m whole steps (λ more later. main_of m whole more later) o ≡ main_at m whole steps (λ more later. main_of m whole more later) (Some n)
      told None g e more = absurd g
      told (Some (On s')) g e more = more s' g e
      told (Some (Prints line s')) g e more = let same : Prints line s' ≡ n = cc in ap (λ (x : Next). main_at m whole steps (λ more later. main_of m whole more later) (Some x)) same
      told (Some (Opens first widths s')) g e more = let same : Opens first widths s' ≡ n = cc in ap (λ (x : Next). main_at m whole steps (λ more later. main_of m whole more later) (Some x)) same
      told (Some (Ends store fuel)) g e more = let same : Ends store fuel ≡ n = cc in ap (λ (x : Next). main_at m whole steps (λ more later. main_of m whole more later) (Some x)) same
      told (Some (Traps c store fuel)) g e more = let same : Traps c store fuel ≡ n = cc in ap (λ (x : Next). main_at m whole steps (λ more later. main_of m whole more later) (Some x)) same

pub main_goes_on : (m : Module) → IsVerified m → MainGoesOn m
main_goes_on m ok memory fuel whole steps s reached = goes_on m ok whole steps s (reached_from m ok false (main_beginning m memory fuel) s (main_fits m ok memory fuel) reached)

pub main_comes : (m : Module) → IsVerified m → MainComes m
main_comes m ok memory fuel whole steps s n reached e = comes m ok whole steps (most_steps m s + 1) s n (reached_from m ok false (main_beginning m memory fuel) s (main_fits m ok memory fuel) reached)
    (omega arith) e
