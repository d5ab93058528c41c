-- What a machine does from a state, told by an outcome of the language's meaning.
use Rattle.std.proofs.Common.{◌≡◌, ℕ, suc, ◌-◌, ◌≤◌, Bool, List, length, Option, Some, None, subst, arith}
use Rattle.cal_base.specs.declared.ends.Cause.{Cause}
use Rattle.cal_base.specs.declared.value.Store.TheVariants.{Main}
use Rattle.cal_base.specs.Memory.{Memory, kinds_of}
use Rattle.cal_base.specs.Stores.{memory_in}
use Rattle.cal_base.specs.Claims.{StepJob}
use Rattle.csl_tree.specs.declared.program.Program.{Program}
use Rattle.csl_meaning.specs.declared.state.World.{World}
use Rattle.csl_meaning.specs.Layout.{first_memory}
use Rattle.csl_meaning.specs.Runs.{Outcome, Gives, Stops, ShowsLine, OpensStep, Run, and_then}
use Rattle.csl_meaning.proofs.Counts.{Counted}
use Rattle.bytecode.specs.declared.module.Module.{Module}
use Rattle.code_verify.specs.Rules.{IsVerified}
use Rattle.machine_meaning.specs.Machine.{State, Next, On, Prints, Opens, Traps, next}
use Rattle.machine_meaning.specs.Fitting.{Fits}
use Rattle.machine_meaning.specs.Reaching.{ComesTo, TrapsAt}
use Rattle.machine_meaning.specs.Meaning.{answers, blocks_of}
use Rattle.machine_meaning.proofs.Composes.{one, one_traps, then_to, then_traps}
use Rattle.machine_meaning.proofs.Steps.{Good, Follows}
use Rattle.machine_meaning.proofs.Never.{next_good, function_runs}
use Rattle.compiled_code.specs.Modules.{module_of}

-- the words of the memory have the kinds of the program's
abbrev pub HasKinds : Program → Memory → Type 0
HasKinds p memory = kinds_of memory ≡ kinds_of (first_memory p.shared)

-- ---- the machine's runs, composed

module _ (m : Module) where
  -- from a state the machine shows a line, and goes on from another
  abbrev pub ShowsAt : State → List ℕ → State → Type 0
  ShowsAt s line s' = (s0 : State) × ComesTo m s s0 × (next m s0 ≡ Some (Prints line s'))

  -- from a state the machine opens a step, and goes on from another
  abbrev pub OpensAt : State → ℕ → List ℕ → State → Type 0
  OpensAt s first widths s' = (s0 : State) × ComesTo m s s0 × (next m s0 ≡ Some (Opens first widths s'))

-- ---- what the machine does

module _ (p : Program) (ok : IsVerified (module_of p)) (r : Bool) (whole : ℕ) where
  abbrev m : Module
  m = module_of p

  -- what holds of each state on the way
  pub record Sound (s : State) : Type 0 where
    pub fits : Fits (module_of p) r s
    pub kinds : HasKinds p (memory_in s.store)

  -- a step leads to a sound state, if the kinds of the words stay
  pub one_sound : (s s' : State) → Sound s → next (module_of p) s ≡ Some (On s') → HasKinds p (memory_in s'.store) → Sound s'
  one_sound s s' sound e kinds =
      record { fits = (subst (λ (o : Option Next). Good r (Follows (module_of p) r (function_runs (module_of p) ok r) s) o) e (next_good (module_of p) ok r s sound.fits)).0; kinds = kinds }

  -- the job is the step that the machine opens in this state with these blocks and widths
  pub record IsJob (job : StepJob) (s : State) (first : ℕ) (widths : List ℕ) : Type 0 where
    pub opening : job.opening ≡ memory_in s.store
    pub answers : job.answers ≡ answers (module_of p) whole (memory_in s.store) (blocks_of (module_of p) first (length widths)) widths

  -- the machine does what the outcome says; where it gives something, `Post` holds of it, of the world and of the state that is reached
  abbrev pub Does : {A : Type 0} → (A → World → State → Type 0) → Outcome A → State → Type 0
  Does Post (Gives a w) s = (s' : State) × ComesTo (module_of p) s s' × Sound s' × Post a w s'
  Does Post (Stops cause w) s = TrapsAt (module_of p) s cause w.store w.fuel
  Does Post (ShowsLine line rest) s = (s' : State) × ShowsAt (module_of p) s line s' × Sound s' × Does Post rest s'
  Does Post (OpensStep job rest) s =
      (s' : State) × (first : ℕ) × (widths : List ℕ) × OpensAt (module_of p) s first widths s' × Sound s' × IsJob job s' first widths
      × ((later : Memory) → HasKinds p later → Does Post (rest later) (record s' { store = Main later }))

  -- a run up to a state comes before what the machine does from there
  pub after_run : {A : Type 0} (Post : A → World → State → Type 0) (o : Outcome A) (s s' : State) → ComesTo (module_of p) s s' → Does Post o s' → Does Post o s
  after_run Post (Gives a w) s s' run does = (does.0, then_to (module_of p) s s' does.0 run does.1, does.2, does.3)
  after_run Post (Stops cause w) s s' run does = then_traps (module_of p) s s' cause w.store w.fuel run does
  after_run Post (ShowsLine line rest) s s' run does = (does.0, (does.1.0, then_to (module_of p) s s' does.1.0 run does.1.1, does.1.2), does.2, does.3)
  after_run Post (OpensStep job rest) s s' run does = (does.0, does.1, does.2, (does.3.0, then_to (module_of p) s s' does.3.0 run does.3.1, does.3.2), does.4, does.5, does.6)

  -- one after the other, where no fuel is made
  pub then_within : {A B : Type 0} (Q : A → World → State → Type 0) (Post : B → World → State → Type 0) (o : Outcome A) (next : A → Run B) (s : State) (n steps : ℕ)
      → Counted n steps o → Does Q o s → ((a : A) (w : World) (s' : State) → w.fuel ≤ n → Sound s' → Q a w s' → Does Post (next a w) s') → Does Post (and_then o next) s
  then_within Q Post (Gives a w) next s n steps counted does go = after_run Post (next a w) s does.0 does.1 (go a w does.0 counted.0 does.2 does.3)
  then_within Q Post (Stops cause w) next s n steps counted does go = does
  then_within Q Post (ShowsLine line rest) next s n steps counted does go = (does.0, does.1, does.2, then_within Q Post rest next does.0 n steps counted does.3 go)
  then_within Q Post (OpensStep job rest) next s n steps counted does go =
      (does.0, does.1, does.2, does.3, does.4, does.5, λ later kinds. then_within Q Post (rest later) next (record does.0 { store = Main later }) (n - 1) (suc steps) (counted.3 later) (does.6 later kinds) (λ a w s' le sound q. go a w s' (omega arith) sound q))

  -- one after the other
  pub then_does : {A B : Type 0} (Q : A → World → State → Type 0) (Post : B → World → State → Type 0) (o : Outcome A) (next : A → Run B) (s : State)
      → Does Q o s → ((a : A) (w : World) (s' : State) → Sound s' → Q a w s' → Does Post (next a w) s') → Does Post (and_then o next) s
  then_does Q Post (Gives a w) next s does go = after_run Post (next a w) s does.0 does.1 (go a w does.0 does.2 does.3)
  then_does Q Post (Stops cause w) next s does go = does
  then_does Q Post (ShowsLine line rest) next s does go = (does.0, does.1, does.2, then_does Q Post rest next does.0 does.3 go)
  then_does Q Post (OpensStep job rest) next s does go =
      (does.0, does.1, does.2, does.3, does.4, does.5, λ later kinds. then_does Q Post (rest later) next (record does.0 { store = Main later }) (does.6 later kinds) go)

  -- one step, and what the machine does behind it
  pub step_does : {A : Type 0} (Post : A → World → State → Type 0) (o : Outcome A) (s s' : State) → Sound s → next (module_of p) s ≡ Some (On s') → HasKinds p (memory_in s'.store)
      → (Sound s' → Does Post o s') → Does Post o s
  step_does Post o s s' sound e kinds go = after_run Post o s s' (one (module_of p) s s' e) (go (one_sound s s' sound e kinds))

  -- a step that traps
  pub trap_does : {A : Type 0} (Post : A → World → State → Type 0) (cause : Cause) (w : World) (s : State) → next (module_of p) s ≡ Some (Traps cause w.store w.fuel)
      → Does {A = A} Post (Stops cause w) s
  trap_does Post cause w s e = one_traps (module_of p) s cause w.store w.fuel e

  -- there is a step
  pub no_step : {B : Type 0} (s : State) → Sound s → next (module_of p) s ≡ None → B
  no_step s sound e = absurd (subst (λ (o : Option Next). Good r (Follows (module_of p) r (function_runs (module_of p) ok r) s) o) e (next_good (module_of p) ok r s sound.fits))

  -- something weaker holds, too
  pub weaken : {A : Type 0} (Q Post : A → World → State → Type 0) (o : Outcome A) (s : State) → Does Q o s → ((a : A) (w : World) (s' : State) → Q a w s' → Post a w s') → Does Post o s
  weaken Q Post (Gives a w) s does go = (does.0, does.1, does.2, go a w does.0 does.3)
  weaken Q Post (Stops cause w) s does go = does
  weaken Q Post (ShowsLine line rest) s does go = (does.0, does.1, does.2, weaken Q Post rest does.0 does.3 go)
  weaken Q Post (OpensStep job rest) s does go = (does.0, does.1, does.2, does.3, does.4, does.5, λ later kinds. weaken Q Post (rest later) (record does.0 { store = Main later }) (does.6 later kinds) go)
