-- Main between its events.
use Rattle.std.proofs.Common.{◌≡◌, ℕ, ◌+◌, ◌≤◌, Bool, false, cond, List, [], ◌∷◌, length, map, Option, Some, None, ⊎_elim, refl, sym, ap, ◌∙◌, subst, arith}
use Rattle.std.specs.Prelude.{IsSome, slice_get, ℤ, pos}
use Rattle.std.proofs.lemmas.Bool.{le-ltb}
use Rattle.std.proofs.lemmas.Option.{slice_get-get_or}
use Rattle.cal_base.specs.Memory.{Memory, kinds_of}
use Rattle.cal_base.specs.Printing.{line_of}
use Rattle.cal_base.specs.Widths.{step_widths}
use Rattle.cal_base.specs.declared.ends.Cause.{Cause}
use Rattle.cal_base.specs.declared.ends.Cause.TheVariants.{BadWidth, FuelSpent}
use Rattle.cal_base.specs.declared.value.Val.{Val}
use Rattle.cal_base.specs.declared.value.Store.{Store}
use Rattle.cal_base.specs.declared.value.Store.TheVariants.{Main}
use Rattle.bytecode.specs.declared.instr.PrintItem.{PrintItem}
use Rattle.bytecode.specs.declared.instr.Instr.{Instr}
use Rattle.bytecode.specs.declared.instr.Instr.TheVariants as i
use Rattle.bytecode.specs.declared.module.Code.{Code}
use Rattle.bytecode.specs.declared.module.Module.{Module}
use Rattle.code_verify.specs.Rules.{Stands, IsVerified, IsNotMains}
use Rattle.machine_meaning.specs.Machine.{◌>>=◌, State, Next, On, Prints, Opens, Traps, on_with, opens, spends, pieces, many_numbers, step, next}
use Rattle.machine_meaning.specs.Runs.{Comes, most_steps}
use Rattle.machine_meaning.specs.Fitting.{Fits}
use Rattle.machine_meaning.specs.Meaning.{module_memory, main_of, main_at}
use Rattle.machine_meaning.proofs.Steps.{Good, Follows}
use Rattle.machine_meaning.proofs.Never.{next_good, function_runs}
use Rattle.machine_meaning.proofs.Goes as goes
use Rattle.routine_vm.specs.declared.event.MainEvent.{MainEvent}
use Rattle.routine_vm.specs.declared.event.MainEvent.TheVariants.{Print, Par, Halt, Fault}
use Rattle.routine_vm.specs.declared.frame.Body.{Body}
use Rattle.routine_vm.specs.declared.frame.Body.TheVariants as body
use Rattle.routine_vm.specs.declared.frame.Frame.{Frame}
use Rattle.routine_vm.specs.declared.run.Run.{Run}
use Rattle.routine_vm.specs.Frames.{behind}
use Rattle.routine_vm.specs.States.{RunsAbove, Stacked, bodies_of, code_of, call_of, state_of, outcome_from}
use Rattle.routine_vm.specs.Steps.{IsEvent}
use Rattle.routine_vm.specs.Ready.{IsReady, IsAtEvent}
use Rattle.routine_vm.specs.Events.{piece_of}
use Rattle.routine_vm.specs.Held.{Held, main_state, MayGoOn, event_at, IsTold, OpensBlocks}
use Rattle.routine_vm.proofs.There.{bind_there}
use Rattle.routine_vm.proofs.Taken.{some_of, few_routines}
use Rattle.routine_vm.proofs.Ready.{outcome_at}

module _ (m : Module) (ok : IsVerified m) where
  no_event : (x : Instr) → IsNotMains x → IsEvent x → ⊥
  no_event (i.Print items) not_mains event = not_mains
  no_event (i.Par b n) not_mains event = not_mains
  no_event _ not_mains event = event

  -- no call waits where main is at an event
  alone : (r : Run) (store : Store) (waiting : List Frame) → Stacked m body.Main r.call.body (bodies_of waiting) → IsAtEvent (state_of m r store) → waiting ≡ []
  alone r store [] above at = refl
  alone r store (c ∷ waiting) above at =
      let f = above.0.0 in
      let code = code_of m (body.Function f) in
      let stands = subst (λ (b : Body). Stands (code_of m b) r.call.place at.instr) above.0.1 at.stands in
      absurd (no_event at.instr ((ok.functions f code (slice_get-get_or m.functions f m.main above.0.2)).each r.call.place at.instr stands).1 at.event)

  pub alone_at_event : (r : Run) (store : Store) → RunsAbove m body.Main r → IsAtEvent (state_of m r store) → r.waiting ≡ []
  alone_at_event r store above at = alone r store r.waiting above at

  pub main_at_event : (r : Run) (store : Store) → RunsAbove m body.Main r → IsAtEvent (state_of m r store) → r.call.body ≡ body.Main
  main_at_event r store above at = subst (λ (waiting : List Frame). Stacked m body.Main r.call.body (bodies_of waiting)) (alone_at_event r store above at) above

  module _ (h : Held) (may : MayGoOn m h) where
    fits_at : (memory : Memory) → Fits m false (main_state m h memory)
    fits_at memory = record { owner = refl; call = may.fits.call; waits = may.fits.waits; few = may.fits.few }

    code_main : code_of m h.call.body ≡ m.main
    code_main = ap (λ (b : Body). code_of m b) may.main

    -- a run that is main's
    pub main_ready : (r : Run) (memory : Memory) → r.call ≡ h.call → r.fuel ≡ h.fuel → r.waiting ≡ [] → kinds_of memory ≡ kinds_of (module_memory m) → IsReady m r (Main memory)
    main_ready r memory call fuel none kinds = record {
      fits = rw (call, fuel, none) (fits_at memory);
      bottom = body.Main;
      has_bottom = tt;
      above = rw (call, none) may.main;
      words = kinds;
    }

    standing : (x : Instr) → slice_get m.main.instrs h.call.place ≡ Some x → slice_get (code_of m h.call.body).instrs h.call.place ≡ Some x
    standing x e = subst (λ (code : Code). slice_get code.instrs h.call.place ≡ Some x) (sym code_main) e

    good_some : (o : Option Next) → Good false (Follows m false (function_runs m ok false) (main_state m h (module_memory m))) o → IsSome o
    good_some None g = absurd g
    good_some (Some n) g = refl

    step_there : (x : Instr) → slice_get m.main.instrs h.call.place ≡ Some x → IsSome (step m x (main_state m h (module_memory m)))
    step_there x e =
        subst (λ (o : Option Instr). IsSome (o >>= (λ instr. step m instr (main_state m h (module_memory m))))) (standing x e)
        (good_some (next m (main_state m h (module_memory m))) (next_good m ok false (main_state m h (module_memory m)) (fits_at (module_memory m))))

    -- the items of a line are there
    pub line_there : (line : List PrintItem) → slice_get m.main.instrs h.call.place ≡ Some (i.Print line) → IsSome (pieces m line h.call.operands)
    line_there line e = bind_there (pieces m line h.call.operands) (λ x. Some (Prints (line_of x.0) (on_with (main_state m h (module_memory m)) x.1))) (step_there (i.Print line) e)

    pub line_short : (line : List PrintItem) → slice_get m.main.instrs h.call.place ≡ Some (i.Print line) → length line ≤ 64
    line_short line e = (ok.main.each h.call.place (i.Print line) e).1

    pub blocks_few : (b n : ℕ) → slice_get m.main.instrs h.call.place ≡ Some (i.Par b n) → n ≤ 64
    blocks_few b n e = (ok.main.each h.call.place (i.Par b n) e).1.1

    -- the widths of a step are there
    pub widths_there : (b n : ℕ) → slice_get m.main.instrs h.call.place ≡ Some (i.Par b n) → IsSome (many_numbers n h.call.operands)
    widths_there b n e =
        let within = (ok.main.each h.call.place (i.Par b n) e).1.2 in
        let there = rw (le-ltb _ _ within) at (step_there (i.Par b n) e) in
        bind_there (many_numbers n h.call.operands) (λ x. Some (opens b (on_with (main_state m h (module_memory m)) x.1) (step_widths x.0))) there

    next_is : (x : Instr) (memory : Memory) → slice_get m.main.instrs h.call.place ≡ Some x → next m (main_state m h memory) ≡ step m x (main_state m h memory)
    next_is x memory e = ap (λ (o : Option Instr). o >>= (λ instr. step m instr (main_state m h memory))) (standing x e)

    abbrev state_with : Frame → ℕ → Memory → State
    state_with call fuel memory = record { call = call_of m call; callers = []; store = Main memory; fuel = fuel }

    -- main shows a line
    pub shown_next : (line : List PrintItem) (later : Held) (memory : Memory) → slice_get m.main.instrs h.call.place ≡ Some (i.Print line)
        → pieces m line h.call.operands ≡ Some (map (piece_of m) later.items, later.call.operands) → later.call ≡ behind h.call later.call.operands → later.fuel ≡ h.fuel
        → next m (main_state m h memory) ≡ Some (event_at m (Print (length later.items)) later memory)
    shown_next line later memory e parts call fuel =
        next_is (i.Print line) memory e
        ∙ ap (λ (o : Option (List (List ℕ) × List Val)). o >>= (λ x. Some (Prints (line_of x.0) (on_with (main_state m h memory) x.1)))) parts
        ∙ ap (λ (f : Frame). Some (Prints (line_of (map (piece_of m) later.items)) (state_with f h.fuel memory))) (sym call)
        ∙ ap (λ (k : ℕ). Some (Prints (line_of (map (piece_of m) later.items)) (state_with later.call k memory))) (sym fuel)

    abbrev rest : ℕ → Memory → List ℤ × List Val → Option Next
    rest b memory x = Some (opens b (on_with (main_state m h memory) x.1) (step_widths x.0))

    widths_next : (b n : ℕ) (memory : Memory) (x : List ℤ × List Val) → slice_get m.main.instrs h.call.place ≡ Some (i.Par b n) → many_numbers n h.call.operands ≡ Some x
        → next m (main_state m h memory) ≡ rest b memory x
    widths_next b n memory x e numbers =
        next_is (i.Par b n) memory e
        ∙ ap (λ (t : Bool). cond t None (many_numbers n h.call.operands >>= rest b memory)) (le-ltb _ _ (ok.main.each h.call.place (i.Par b n) e).1.2)
        ∙ ap (λ (o : Option (List ℤ × List Val)). o >>= rest b memory) numbers

    -- main opens a step, or stops
    pub opened_next : (b n : ℕ) (event : MainEvent) (later : Held) (memory : Memory) → slice_get m.main.instrs h.call.place ≡ Some (i.Par b n) → OpensBlocks b n h event later
        → next m (main_state m h memory) ≡ Some (event_at m event later memory)
    opened_next b n (Print items) later memory e opened = absurd opened
    opened_next b n Halt later memory e opened = absurd opened
    opened_next b n (Par block blocks total) later memory e (first, count, few, all, numbers, widths, fuel, call) =
        widths_next b n memory (map pos later.widths, later.call.operands) e numbers
        ∙ ap (λ (o : Option (List ℕ)). Some (opens b (on_with (main_state m h memory) later.call.operands) o)) widths
        ∙ ap (λ (k : ℕ). Some (spends (on_with (main_state m h memory) later.call.operands) k (λ s. Opens b later.widths s))) fuel
        ∙ ap (λ (f : Frame). Some (Opens b later.widths (state_with f later.fuel memory))) (sym call)
        ∙ ap (λ (k : ℕ). Some (Opens k later.widths (main_state m later memory))) (sym first)
    opened_next b n (Fault cause) later memory e (fuel, x, numbers, why) =
        widths_next b n memory x e numbers
        ∙ ⊎_elim
        (λ (bad : (cause ≡ BadWidth) × (step_widths x.0 ≡ None)).
        ap (λ (o : Option (List ℕ)). Some (opens b (on_with (main_state m h memory) x.1) o)) bad.1
        ∙ ap (λ (k : ℕ). Some (Traps BadWidth (Main memory) k)) (sym fuel)
        ∙ ap (λ (c : Cause). Some (Traps c (Main memory) later.fuel)) (sym bad.0))
        (λ (spent : (cause ≡ FuelSpent) × (h.fuel ≡ 0) × IsSome (step_widths x.0)).
        let ws = some_of (step_widths x.0) spent.2 in
        ap (λ (o : Option (List ℕ)). Some (opens b (on_with (main_state m h memory) x.1) o)) ws.1
        ∙ ap (λ (k : ℕ). Some (spends (on_with (main_state m h memory) x.1) k (λ s. Opens b ws.0 s))) spent.1
        ∙ ap (λ (k : ℕ). Some (Traps FuelSpent (Main memory) k)) (sym fuel)
        ∙ ap (λ (c : Cause). Some (Traps c (Main memory) later.fuel)) (sym spent.0))
        why

    good_next : (n : Next) → next m (main_state m h (module_memory m)) ≡ Some n → Good false (Follows m false (function_runs m ok false) (main_state m h (module_memory m))) (Some n)
    good_next n e =
        subst (λ (o : Option Next). Good false (Follows m false (function_runs m ok false) (main_state m h (module_memory m))) o) e
        (next_good m ok false (main_state m h (module_memory m)) (fits_at (module_memory m)))

    -- main may go on behind a line
    pub behind_line : (line : List ℕ) (later : Held) → later.call.body ≡ body.Main → next m (main_state m h (module_memory m)) ≡ Some (Prints line (main_state m later (module_memory m)))
        → MayGoOn m later
    behind_line line later main e = record { main = main; fits = (good_next (Prints line (main_state m later (module_memory m))) e).1.0 }

    -- main may go on behind a step
    pub behind_step : (first : ℕ) (widths : List ℕ) (later : Held) → later.call.body ≡ body.Main
        → next m (main_state m h (module_memory m)) ≡ Some (Opens first widths (main_state m later (module_memory m))) → MayGoOn m later
    behind_step first widths later main e = record { main = main; fits = (good_next (Opens first widths (main_state m later (module_memory m))) e).1.0 }

    -- a step that is opened tells its blocks and its routines
    pub told_of_step : (b n : ℕ) (event : MainEvent) (later : Held) → slice_get m.main.instrs h.call.place ≡ Some (i.Par b n) → OpensBlocks b n h event later → IsTold m event later
    told_of_step b n (Print items) later e opened = absurd opened
    told_of_step b n Halt later e opened = tt
    told_of_step b n (Fault cause) later e opened = tt
    told_of_step b n (Par block blocks total) later e opened =
        let within = (ok.main.each h.call.place (i.Par b n) e).1.2 in
        record {
          count = opened.2;
          all = opened.3;
          few = (let bound = few_routines later.widths opened.5 in omega (arith, opened.3, bound));
          there = omega (arith, within, opened.0, opened.1);
          may = behind_step block later.widths later (ap (λ (f : Frame). f.body) opened.7 ∙ may.main) (opened_next b n (Par block blocks total) later (module_memory m) e opened);
        }

    -- what main's run comes to is what main means
    pub meaning_of_outcome : (memory : Memory) (n : Next) → outcome_from m (main_state m h memory) ≡ Comes n
        → (whole steps : ℕ) → main_of m whole steps (main_state m h memory) ≡ main_at m whole steps (λ more later. main_of m whole more later) (Some n)
    meaning_of_outcome memory n e whole steps =
        goes.comes m ok whole steps (most_steps m (main_state m h memory) + 1) (main_state m h memory) n (fits_at memory) (omega arith) e

  -- main may go on from where it came to an event
  pub may_from : (r : Run) (memory : Memory) (later : Held) → IsReady m r (Main memory) → RunsAbove m body.Main r → IsAtEvent (state_of m r (Main memory)) → later.call ≡ r.call → MayGoOn m later
  may_from r memory later ready above at call = record {
    main = ap (λ (f : Frame). f.body) call ∙ main_at_event r (Main memory) above at;
    fits = rw call (record { owner = refl; call = ready.fits.call; waits = tt; few = omega arith });
  }

  not_on : (event : MainEvent) (later : Held) (memory : Memory) (s : State) → event_at m event later memory ≡ On s → ⊥
  not_on (Print items) later memory s e = cc
  not_on (Par first blocks total) later memory s e = cc
  not_on Halt later memory s e = cc
  not_on (Fault cause) later memory s e = cc

  -- what main's run comes to at an event
  pub event_outcome : (s : State) (r : Run) (memory : Memory) (event : MainEvent) (later : Held) → IsReady m r (Main memory) → r.waiting ≡ []
      → outcome_from m s ≡ outcome_from m (state_of m r (Main memory))
      → next m (record { call = call_of m r.call; callers = []; store = Main memory; fuel = r.fuel }) ≡ Some (event_at m event later memory)
      → outcome_from m s ≡ Comes (event_at m event later memory)
  event_outcome s r memory event later ready none same e =
      same
      ∙ outcome_at m ok r (Main memory) ready (event_at m event later memory)
      (ap (λ (waiting : List Frame). next m (record { call = call_of m r.call; callers = map (call_of m) waiting; store = Main memory; fuel = r.fuel })) none ∙ e)
      (λ s' is. not_on event later memory s' is)
