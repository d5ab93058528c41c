-- What holds of a run that is in a state of a verified module's machine.
use Rattle.std.proofs.Common.{◌≡◌, ℕ, zero, suc, ◌+◌, ◌<◌, ◌≤◌, ◌^◌, Bool, List, [], ◌∷◌, ◌++◌, length, map, Option, Some, None, ⊎_elim, refl, sym, ap, ◌∙◌, subst, arith, length-append}
use Rattle.std.specs.Prelude.{IsSome, slice_get, ◌⊎◌}
use Rattle.std.specs.List.{AllByRecursion}
use Rattle.std.proofs.lemmas.List.{length-map}
use Rattle.std.proofs.lemmas.Option.{slice_get_within}
use Rattle.cal_base.specs.Memory.{kinds_of}
use Rattle.cal_base.specs.declared.value.Store.{Store}
use Rattle.cal_base.specs.Stores.{memory_in}
use Rattle.bytecode.specs.Spelling.{FitsBlock, FitsFunction}
use Rattle.bytecode.specs.declared.instr.Instr.{Instr}
use Rattle.bytecode.specs.declared.module.Code.{Code}
use Rattle.cal_terms.specs.declared.types.Gives.{Gives}
use Rattle.bytecode.specs.declared.module.Module.{Module}
use Rattle.code_verify.specs.Kinds.{Kinds, result}
use Rattle.code_verify.specs.Rules.{IsVerified}
use Rattle.machine_meaning.specs.Machine.{◌>>=◌, kind_of, in_routine, Call, State, Next, On, Prints, Opens, Ends, Traps, step, next}
use Rattle.machine_meaning.specs.Runs.{Comes, goes_on, runs, most_steps}
use Rattle.machine_meaning.specs.Fitting.{IsOf, IsCall, Wait, Fits}
use Rattle.machine_meaning.proofs.Steps.{Good, Follows}
use Rattle.machine_meaning.proofs.Never.{next_good, function_runs}
use Rattle.routine_vm.specs.declared.frame.Body.{Body}
use Rattle.routine_vm.specs.declared.frame.Frame.{Frame}
use Rattle.routine_vm.specs.declared.run.Run.{Run}
use Rattle.routine_vm.specs.States.{HasBody, RunsAbove, Stacked, bodies_of, call_of, state_of, outcome_from}
use Rattle.routine_vm.specs.Steps.{HaveRoom}
use Rattle.routine_vm.specs.Ready.{IsReady}

all_at : {A : Type 0} (P : A → Type 0) (xs : List A) (n : ℕ) (x : A) → AllByRecursion P xs → slice_get xs n ≡ Some x → P x
all_at P [] n x all h = absurd cc
all_at P (a ∷ xs) zero x all h = let same : a ≡ x = cc in subst P same all.0
all_at P (a ∷ xs) (suc n) x all h = all_at P xs n x all.1 h

-- an instruction stands at each place that has kinds
there_at : {A B : Type 0} (xs : List A) (ys : List B) (n : ℕ) (x : A) → length xs ≡ length ys → slice_get xs n ≡ Some x → (y : B) × (slice_get ys n ≡ Some y)
there_at [] ys n x e h = absurd cc
there_at (a ∷ xs) [] n x e h = absurd (omega arith)
there_at (a ∷ xs) (b ∷ ys) zero x e h = (b, refl)
there_at (a ∷ xs) (b ∷ ys) (suc n) x e h = let same : length xs ≡ length ys = omega arith in there_at xs ys n x same h

module _ (m : Module) (routine : Bool) (above : Kinds) (c : Call) (is : IsCall m routine above c) where
  call_instr : (x : Instr) × (slice_get c.code.instrs c.place ≡ Some x)
  call_instr = there_at is.runs.sound.taken c.code.instrs c.place (above ++ map kind_of c.operands) is.runs.sound.is_taken.each is.operands

  call_within : c.place < length c.code.instrs
  call_within = slice_get_within c.code.instrs c.place call_instr.0 call_instr.1

  -- a call has at most so many operands
  call_short : length c.operands ≤ 1024
  call_short =
      let short = (is.runs.sound.right c.place call_instr.0 (above ++ map kind_of c.operands) call_instr.1 is.operands).short in
      let long = length-append above (map kind_of c.operands) in
      let same = length-map c.operands kind_of in
      omega (arith, short, long, same)

module _ (m : Module) (ok : IsVerified m) where
  code_short : (c : Code) → IsOf m c → length c.instrs < 2 ^ 32
  code_short c of =
      ⊎_elim
      (λ (e : c ≡ m.main). subst (λ (x : Code). length x.instrs < 2 ^ 32) (sym e) ok.spelled.main.instrs.0)
      (λ (more : ((b : ℕ) × (slice_get m.blocks b ≡ Some c)) ⊎ ((f : ℕ) × (slice_get m.functions f ≡ Some c))).
      ⊎_elim
      (λ (at : (b : ℕ) × (slice_get m.blocks b ≡ Some c)). (all_at FitsBlock m.blocks at.0 c ok.spelled.blocks.1 at.1).instrs.0)
      (λ (at : (f : ℕ) × (slice_get m.functions f ≡ Some c)). (all_at FitsFunction m.functions at.0 c ok.spelled.functions.1 at.1).1.instrs.0)
      more)
      of

  body_there : (running bottom : Body) (waiting : List Body) → HasBody m bottom → Stacked m bottom running waiting → HasBody m running
  body_there running bottom [] has above = subst (λ (b : Body). HasBody m b) (sym above) has
  body_there running bottom (caller ∷ waiting) has above = subst (λ (b : Body). HasBody m b) (sym above.0.1) above.0.2

  callers_room : (routine : Bool) (gives : Gives) (waiting : List Frame) → Wait m routine gives (map (call_of m) waiting) → HaveRoom waiting
  callers_room routine gives [] w = tt
  callers_room routine gives (c ∷ waiting) w = (call_short m routine (result gives) (call_of m c) w.0, callers_room routine (call_of m c).code.gives waiting w.1)

  good_some : (r : Bool) (Q : State → Type 0) (o : Option Next) → Good r Q o → IsSome o
  good_some r Q None h = absurd h
  good_some r Q (Some n) h = refl

  same_outcome : (routine : Bool) (a b : ℕ) (s : State) (o : Option Next) → Good routine (Follows m routine (function_runs m ok routine) s) o
      → ((s' : State) → Follows m routine (function_runs m ok routine) s s' → runs m a s' ≡ runs m b s') → goes_on (runs m a) s o ≡ goes_on (runs m b) s o
  same_outcome routine a b s None g same = refl
  same_outcome routine a b s (Some (On s')) g same = same s' g
  same_outcome routine a b s (Some (Prints line s')) g same = refl
  same_outcome routine a b s (Some (Opens first widths s')) g same = refl
  same_outcome routine a b s (Some (Ends last fuel)) g same = refl
  same_outcome routine a b s (Some (Traps c last fuel)) g same = refl

  -- any bound above the steps that are ahead is enough
  enough : (routine : Bool) (a b : ℕ) (s : State) → Fits m routine s → most_steps m s < a → most_steps m s < b → runs m a s ≡ runs m b s
  enough routine zero b s fits lt less = absurd (omega arith)
  enough routine (suc a) zero s fits lt less = absurd (omega arith)
  enough routine (suc a) (suc b) s fits lt less =
      same_outcome routine a b s (next m s) (next_good m ok routine s fits) (λ s' h. enough routine a b s' h.0 (omega (arith, h.1, lt)) (omega (arith, h.1, less)))

  module _ (r : Run) (store : Store) (ready : IsReady m r store) where
    pub has_body : HasBody m r.call.body
    has_body = body_there r.call.body ready.bottom (bodies_of r.waiting) ready.has_bottom ready.above

    -- an instruction stands at the place of the call that runs
    pub instr_there : (x : Instr) × (slice_get (call_of m r.call).code.instrs r.call.place ≡ Some x)
    instr_there = call_instr m (in_routine store) [] (call_of m r.call) ready.fits.call

    place_within : r.call.place < length (call_of m r.call).code.instrs
    place_within = call_within m (in_routine store) [] (call_of m r.call) ready.fits.call

    pub place_fits : r.call.place + 1 < 2 ^ 32
    place_fits = let lt = place_within in let short = code_short (call_of m r.call).code ready.fits.call.runs.of in omega (arith, lt, short)

    pub has_room : length r.call.operands ≤ 1024
    has_room = call_short m (in_routine store) [] (call_of m r.call) ready.fits.call

    pub have_room : HaveRoom r.waiting
    have_room = callers_room (in_routine store) (call_of m r.call).code.gives r.waiting ready.fits.waits

    pub next_there : (x : Instr) → slice_get (call_of m r.call).code.instrs r.call.place ≡ Some x → IsSome (step m x (state_of m r store))
    next_there x e =
        subst (λ (o : Option Instr). IsSome (o >>= (λ instr. step m instr (state_of m r store)))) e
        (good_some (in_routine store) (Follows m (in_routine store) (function_runs m ok (in_routine store)) (state_of m r store)) (next m (state_of m r store))
        (next_good m ok (in_routine store) (state_of m r store) ready.fits))

    -- what good steps lead to: where they lead on, the state fits and fewer steps are ahead
    abbrev pub GoodStep : Type 0
    GoodStep = Good (in_routine store) (Follows m (in_routine store) (function_runs m ok (in_routine store)) (state_of m r store)) (next m (state_of m r store))

    pub good_step : GoodStep
    good_step = next_good m ok (in_routine store) (state_of m r store) ready.fits

    followed : (s' : State) → next m (state_of m r store) ≡ Some (On s') → Follows m (in_routine store) (function_runs m ok (in_routine store)) (state_of m r store) s'
    followed s' e = subst (λ (o : Option Next). Good (in_routine store) (Follows m (in_routine store) (function_runs m ok (in_routine store)) (state_of m r store)) o) e good_step

    -- a step that leads on leaves fewer ahead
    pub fewer : (s' : State) → next m (state_of m r store) ≡ Some (On s') → most_steps m s' < most_steps m (state_of m r store)
    fewer s' e = (followed s' e).1

    -- what runs is ready where a step leads on
    pub ready_on : (r' : Run) (store' : Store) → next m (state_of m r store) ≡ Some (On (state_of m r' store'))
        → ((bottom : Body) → RunsAbove m bottom r → RunsAbove m bottom r') → kinds_of (memory_in store') ≡ kinds_of (memory_in store) → IsReady m r' store'
    ready_on r' store' e bodies kinds =
        let fits = (followed (state_of m r' store') e).0 in
        record {
          fits = subst (λ (b : Bool). Fits m b (state_of m r' store')) (sym fits.owner) fits;
          bottom = ready.bottom;
          has_bottom = ready.has_bottom;
          above = bodies ready.bottom ready.above;
          words = kinds ∙ ready.words;
        }

    -- what runs is ready where the state is the same
    pub ready_still : (r' : Run) (store' : Store) → state_of m r' store' ≡ state_of m r store
        → ((bottom : Body) → RunsAbove m bottom r → RunsAbove m bottom r') → IsReady m r' store'
    ready_still r' store' e bodies =
        let same : store' ≡ store = ap (λ (s : State). s.store) e in
        record {
          fits = subst (λ (t : Store). Fits m (in_routine t) (state_of m r' store')) (sym same) (subst (λ (s : State). Fits m (in_routine store) s) (sym e) ready.fits);
          bottom = ready.bottom;
          has_bottom = ready.has_bottom;
          above = bodies ready.bottom ready.above;
          words = ap (λ (t : Store). kinds_of (memory_in t)) same ∙ ready.words;
        }

    one_more : outcome_from m (state_of m r store) ≡ goes_on (runs m (most_steps m (state_of m r store))) (state_of m r store) (next m (state_of m r store))
    one_more = let e : most_steps m (state_of m r store) + 1 ≡ suc (most_steps m (state_of m r store)) = omega arith in ap (λ (n : ℕ). runs m n (state_of m r store)) e

    -- a step that leads on leaves what the run comes to
    pub outcome_on : (s' : State) → next m (state_of m r store) ≡ Some (On s') → outcome_from m (state_of m r store) ≡ outcome_from m s'
    outcome_on s' e =
        let h = followed s' e in
        one_more
        ∙ ap (λ (o : Option Next). goes_on (runs m (most_steps m (state_of m r store))) (state_of m r store) o) e
        ∙ enough (in_routine store) (most_steps m (state_of m r store)) (most_steps m s' + 1) s' h.0 h.1 (omega arith)

    -- what the run comes to where a step leads nowhere on
    pub outcome_at : (n : Next) → next m (state_of m r store) ≡ Some n → ((s' : State) → n ≡ On s' → ⊥) → outcome_from m (state_of m r store) ≡ Comes n
    outcome_at n e not_on = one_more ∙ ap (λ (o : Option Next). goes_on (runs m (most_steps m (state_of m r store))) (state_of m r store) o) e ∙ stops n not_on
      where
        stops : (n : Next) → ((s' : State) → n ≡ On s' → ⊥) → goes_on (runs m (most_steps m (state_of m r store))) (state_of m r store) (Some n) ≡ Comes n
        stops (On s') not_on = absurd (not_on s' refl)
        stops (Prints line s') not_on = refl
        stops (Opens first widths s') not_on = refl
        stops (Ends last fuel) not_on = refl
        stops (Traps c last fuel) not_on = refl
