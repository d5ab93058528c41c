-- What workers are at, from event to event.
use Rattle.std.proofs.Common.{◌≡◌, ℕ, zero, suc, ◌+◌, ◌-◌, ◌<◌, ◌≤◌, Bool, true, false, cond, eqb, List, [], ◌∷◌, ◌++◌, length, get_or, replicate, map, refl, sym, ap, subst, ◌∙◌, arith, append_assoc}
use Rattle.std.proofs.Common.{⊎_elim, Option, Some, None, IfSome}
use Rattle.std.specs.Prelude.{slice_set, slice_index_or}
use Rattle.std.specs.List.{AllByRecursion}
use Rattle.std.proofs.lemmas.Bool.{cases_eq, eq-eqb, ne_eqb}
use Rattle.std.proofs.lemmas.List.{get_or-set_same, get_or-set_other}
use Rattle.bytecode.specs.declared.module.Module.{Module}
use Rattle.cal_base.specs.declared.step.TheConstants.{CALLER}
use Rattle.cal_base.specs.declared.step.WorkerTally.{WorkerTally}
use Rattle.cal_base.specs.History.{History}
use Rattle.cal_base.specs.Claims.{StepJob}
use Rattle.cal_base.specs.Pages.{Paged}
use Rattle.event_world.specs.declared.event.Event.TheVariants as event
use Rattle.event_world.specs.World as world
use Rattle.fault_script.specs.Rows.{Row, row_of, IsTallyOf}
use Rattle.worker_gate.specs.Working.{WorkerState, MayWork, Executes}
use Rattle.event_engine.specs.Scenes.{mode_of, modes_in, turn_at, IsAtBelow, AreAtBelow, Work}
use Rattle.calypso_engine.specs.Teams.{IsMember}
use Rattle.event_engine.specs.declared.scene.Mode.{Mode}
use Rattle.event_engine.specs.declared.scene.Mode.TheVariants as mode

-- ---- modes

pub set_mode : (modes : List Mode) (who : ℕ) (one : Mode) → who < length modes → modes_in (slice_set modes who one) ≡ world.with_mode (modes_in modes) who (mode_of one)
set_mode modes who one within = λ i w. at w i
  where
    at : (w : ℕ) → modes_in (slice_set modes who one) w ≡ world.with_mode (modes_in modes) who (mode_of one) w
    at w =
        ⊎_elim
        (λ (e : w ≡ who).
        ap (λ (n : ℕ). mode_of (slice_index_or (slice_set modes who one) n mode.Idle)) e
        ∙ ap mode_of (get_or-set_same modes who one mode.Idle within)
        ∙ ap (λ (b : Bool). cond b (mode_of one) (modes_in modes w)) (sym (eq-eqb w who e)))
        (λ (apart : w ≡ who → ⊥).
        ap mode_of (get_or-set_other modes who w one mode.Idle apart)
        ∙ ap (λ (b : Bool). cond b (mode_of one) (modes_in modes w)) (sym (ne_eqb w who apart)))
        (cases_eq w who)

below_with : (n : ℕ) (modes : ℕ → world.Mode) (who : ℕ) (one : world.Mode) → ((w : ℕ) → IsAtBelow n (modes w)) → IsAtBelow n one → (w : ℕ) → IsAtBelow n (world.with_mode modes who one w)
below_with n modes who one all here w = elim (eqb w who) as (λ b. IsAtBelow n (cond b one (modes w))) [ true ↦ here | false ↦ all w ]

pub below_set : (n : ℕ) (modes : List Mode) (who : ℕ) (one : Mode) → who < length modes → AreAtBelow n modes → IsAtBelow n (mode_of one) → AreAtBelow n (slice_set modes who one)
below_set n modes who one within all here =
    subst (λ (ms : ℕ → world.Mode). (w : ℕ) → IsAtBelow n (ms w)) (sym (set_mode modes who one within)) (below_with n (modes_in modes) who (mode_of one) all here)

below_free : (n : ℕ) (m : world.Mode) → world.freed m ≡ m → IsAtBelow n m
below_free n world.Idle e = tt
below_free n (world.Busy k) e = absurd (cc)
below_free n world.Stopped e = tt

pub freed_twice : (m : world.Mode) → world.freed (world.freed m) ≡ world.freed m
freed_twice world.Idle = refl
freed_twice (world.Busy k) = refl
freed_twice world.Stopped = refl

-- no busy worker is at any number
pub below_of_free : (n : ℕ) (modes : List Mode) → ((w : ℕ) → world.freed (modes_in modes w) ≡ modes_in modes w) → AreAtBelow n modes
below_of_free n modes free = λ w. below_free n (modes_in modes w) (free w)

-- ---- reads

same_read : (xs : List Mode) (i : ℕ) (a b : Mode) → i < length xs → get_or xs i a ≡ get_or xs i b
same_read [] i a b within = absurd (omega (arith, within))
same_read (x ∷ xs) zero a b within = refl
same_read (x ∷ xs) (suc i) a b within = same_read xs i a b (omega (arith, within))

-- ---- a busy worker finishes

pub finished_turn : (job : StepJob) (modes : List Mode) (place who k j : ℕ) (d : Mode) (items later : List world.Delivery) (one : world.Delivery) → place ≡ who → place < length modes
    → get_or modes place d ≡ mode.Busy k
    → later ≡ items ++ one ∷ [] → one ≡ record { who = who; step = job.number; k = j } → j ≡ k
    → (h : History) (ds : List world.Delivery) → turn_at h (slice_set modes place mode.Idle) (ds ++ later) ≡ world.finish_by job who (modes_in modes who) (turn_at h modes (ds ++ items))
finished_turn job modes place who k j d items later one here within is pushed made same h ds =
    (λ i. record {
      history = h;
      modes = (set_mode modes place mode.Idle within ∙ ap (λ (n : ℕ). world.with_mode (modes_in modes) n world.Idle) here) i;
      deliveries =
          (ap (λ (l : List world.Delivery). ds ++ l) (pushed ∙ ap (λ (x : world.Delivery). items ++ x ∷ []) (made ∙ (λ n. record { who = who; step = job.number; k = same n })))
          ∙ sym (append_assoc ds items (record { who = who; step = job.number; k = k } ∷ []))) i;
    })
    ∙ ap (λ (m : world.Mode). world.finish_by job who m (turn_at h modes (ds ++ items)))
    (sym (ap (modes_in modes) (sym here) ∙ ap mode_of (same_read modes place mode.Idle d within ∙ is)))

-- ---- workers

module _ (image : Paged) (m : Module) where
  pub work_none : (ws : List WorkerState) → AllByRecursion (λ (w : WorkerState). MayWork w image m) ws → Work image m ws ws
  work_none [] may = tt
  work_none (w ∷ ws) may = (record { row = refl; tally = refl; holds = refl; size = refl; may = may.0 }, work_none ws may.1)

  executes_then : (a b c : WorkerState) → Executes a b image m → Executes b c image m → Executes a c image m
  executes_then a b c first second = record {
    row = second.row ∙ first.row;
    tally = second.tally ∙ ap (λ (t : WorkerTally). record t { pages = c.tally.pages }) first.tally;
    holds = second.holds ∙ first.holds;
    size = second.size ∙ first.size;
    may = second.may;
  }

  pub work_then : (firsts bs cs : List WorkerState) → Work image m firsts bs → Work image m bs cs → Work image m firsts cs
  work_then [] [] [] first second = tt
  work_then [] [] (c ∷ cs) first second = absurd second
  work_then [] (b ∷ bs) cs first second = absurd first
  work_then (a ∷ firsts) [] cs first second = absurd first
  work_then (a ∷ firsts) (b ∷ bs) [] first second = absurd second
  work_then (a ∷ firsts) (b ∷ bs) (c ∷ cs) first second = (executes_then a b c first.0 second.0, work_then firsts bs cs first.1 second.1)

  pub work_may : (firsts bs : List WorkerState) → Work image m firsts bs → AllByRecursion (λ (w : WorkerState). MayWork w image m) bs
  work_may [] [] work = tt
  work_may [] (b ∷ bs) work = absurd work
  work_may (a ∷ firsts) [] work = absurd work
  work_may (a ∷ firsts) (b ∷ bs) work = (work.0.may, work_may firsts bs work.1)

  pub work_length : (firsts bs : List WorkerState) → Work image m firsts bs → length bs ≡ length firsts
  work_length [] [] work = refl
  work_length [] (b ∷ bs) work = absurd work
  work_length (a ∷ firsts) [] work = absurd work
  work_length (a ∷ firsts) (b ∷ bs) work = ap suc (work_length firsts bs work.1)

  pub work_one : (ws : List WorkerState) (place : ℕ) (d v : WorkerState) → place < length ws → AllByRecursion (λ (w : WorkerState). MayWork w image m) ws → Executes (get_or ws place d) v image m
      → Work image m ws (slice_set ws place v)
  work_one [] place d v within may one = absurd (omega (arith, within))
  work_one (w ∷ ws) zero d v within may one = (one, work_none ws may.1)
  work_one (w ∷ ws) (suc place) d v within may one = (record { row = refl; tally = refl; holds = refl; size = refl; may = may.0 }, work_one ws place d v (omega (arith, within)) may.1 one)

  pub may_at : (ws : List WorkerState) (place : ℕ) (d : WorkerState) → place < length ws → AllByRecursion (λ (w : WorkerState). MayWork w image m) ws → MayWork (get_or ws place d) image m
  may_at [] place d within may = absurd (omega (arith, within))
  may_at (w ∷ ws) zero d within may = may.0
  may_at (w ∷ ws) (suc place) d within may = may_at ws place d (omega (arith, within)) may.1

module _ (rows : List Row) (m : Module) (image : Paged) (steps : ℕ) where
  pub members_may : (ws : List WorkerState) → AllByRecursion (IsMember rows steps image m) ws → AllByRecursion (λ (w : WorkerState). MayWork w image m) ws
  members_may [] all = tt
  members_may (w ∷ ws) all = (all.0.may, members_may ws all.1)

  pub member_worked : (w v : WorkerState) → IsMember rows steps image m w → Executes w v image m → IsMember rows steps image m v
  member_worked w v is worked =
      let who : v.tally.who ≡ w.tally.who = ap (λ (t : WorkerTally). t.who) worked.tally in
      record {
        number = subst (λ (n : ℕ). n < CALLER) (sym who) is.number;
        row = worked.row ∙ is.row ∙ ap (λ (n : ℕ). row_of rows n) (sym who);
        follows = follows_so;
        holds = subst (λ (o : Option ℕ). IfSome o (λ s. s ≤ steps)) (sym worked.holds) is.holds;
        may = worked.may;
      }
    where
      with_pages_of : WorkerTally
      with_pages_of = record w.tally { pages = v.tally.pages }

      follows_with : IsTallyOf w.row with_pages_of
      follows_with = record { stopped = is.follows.stopped; executed = is.follows.executed; lost = is.follows.lost; repeated = is.follows.repeated; held = is.follows.held }

      follows_so : IsTallyOf v.row v.tally
      follows_so = subst (λ (r : Row). IsTallyOf r v.tally) (sym worked.row) (subst (λ (t : WorkerTally). IsTallyOf w.row t) (sym worked.tally) follows_with)

  pub members_worked : (firsts bs : List WorkerState) → AllByRecursion (IsMember rows steps image m) firsts → Work image m firsts bs → AllByRecursion (IsMember rows steps image m) bs
  members_worked [] [] all work = tt
  members_worked [] (b ∷ bs) all work = absurd work
  members_worked (a ∷ firsts) [] all work = absurd work
  members_worked (a ∷ firsts) (b ∷ bs) all work = (member_worked a b all.0 work.0, members_worked firsts bs all.1 work.1)

  pub numbers_worked : (firsts bs : List WorkerState) → Work image m firsts bs → map (λ (w : WorkerState). w.tally.who) bs ≡ map (λ (w : WorkerState). w.tally.who) firsts
  numbers_worked [] [] work = refl
  numbers_worked [] (b ∷ bs) work = absurd work
  numbers_worked (a ∷ firsts) [] work = absurd work
  numbers_worked (a ∷ firsts) (b ∷ bs) work = let one = ap (λ (t : WorkerTally). t.who) work.0.tally in let rest = numbers_worked firsts bs work.1 in λ i. one i ∷ rest i

  pub members_next : (next : ℕ) → steps ≤ next → (ws : List WorkerState) → AllByRecursion (IsMember rows steps image m) ws → AllByRecursion (IsMember rows next image m) ws
  members_next next le [] all = tt
  members_next next le (w ∷ ws) all = (record { number = all.0.number; row = all.0.row; follows = all.0.follows; holds = holds_more w.holds all.0.holds; may = all.0.may }, members_next next le ws all.1)
    where
      holds_more : (o : Option ℕ) → IfSome o (λ s. s ≤ steps) → IfSome o (λ s. s ≤ next)
      holds_more None h = tt
      holds_more (Some s) h = omega (arith, h, le)

-- deliveries of steps up to this one are up to a later one
pub older_more : (a b : ℕ) → a ≤ b → (ds : List world.Delivery) → AllByRecursion (λ (d : world.Delivery). d.step ≤ a) ds → AllByRecursion (λ (d : world.Delivery). d.step ≤ b) ds
older_more a b le [] all = tt
older_more a b le (d ∷ ds) all = (omega (arith, le, all.0), older_more a b le ds all.1)

pub older_below : (a b : ℕ) → b ≡ a + 1 → (ds : List world.Delivery) → AllByRecursion (λ (d : world.Delivery). d.step ≤ a) ds → AllByRecursion (λ (d : world.Delivery). d.step < b) ds
older_below a b e [] all = tt
older_below a b e (d ∷ ds) all = (omega (arith, e, all.0), older_below a b e ds all.1)

-- at first all workers are idle
pub first_modes : (w : ℕ) → modes_in (replicate 32 mode.Idle) w ≡ world.Idle
first_modes w = ap mode_of (idle_at 32 w)
  where
    idle_at : (n w : ℕ) → get_or (replicate n mode.Idle) w mode.Idle ≡ mode.Idle
    idle_at zero w = refl
    idle_at (suc n) zero = refl
    idle_at (suc n) (suc w) = idle_at n w
