-- The module of a program means what the program does.
use Rattle.std.proofs.Common.{◌≡◌, ℕ, zero, suc, ◌+◌, ◌-◌, ◌≤◌, false, List, [], ◌∷◌, ◌++◌, length, map, Option, Some, None, Result, Ok, Err, refl, sym, ap, ◌∙◌, subst, arith}
use Rattle.std.specs.Prelude.{slice_get}
use Rattle.std.proofs.lemmas.List.{append-nil, length-map}
use Rattle.cal_base.specs.declared.ends.RunEnd.TheVariants.{Done, MainFault}
use Rattle.cal_base.specs.declared.ends.StepFault.{StepFault}
use Rattle.cal_base.specs.declared.value.Val.{Val}
use Rattle.cal_base.specs.declared.value.Store.TheVariants.{Main}
use Rattle.cal_base.specs.Memory.{Memory, kinds_of}
use Rattle.cal_base.specs.Claims.{StepJob, meant}
use Rattle.cal_base.specs.Main as outline
use Rattle.cal_base.specs.Main.{Meaning, meaning_of, going_on, steps_of, steps_behind}
use Rattle.csl_tree.specs.declared.program.Program.{Program}
use Rattle.csl_tree.specs.declared.program.Arm.{Arm'}
use Rattle.csl_tree.specs.declared.program.RoutineBlock.{RoutineBlock, RoutineBlock'}
use Rattle.csl_tree.specs.declared.program.Form.{Form, Declare, Set, AddTo, If', While', For', Break, Continue, Return, Assert, Block', Print, Par', Row_of-Arm, end_of-Arm, more_of-Arm, Row_of-Stmt}
use Rattle.csl_tree.specs.declared.program.Form.{end_of-Stmt, more_of-Stmt, Held-Form-If-1, Row_of-RoutineBlock, end_of-RoutineBlock, more_of-RoutineBlock}
use Rattle.csl_tree.specs.declared.program.Form as form
use Rattle.csl_tree.specs.declared.program.Form.TheVariants as variant
use Rattle.csl_tree.specs.declared.program.Form.TheBlock.{hidden-the_row-Stmt-1}
use Rattle.csl_meaning.specs.declared.state.World.{World}
use Rattle.csl_meaning.specs.declared.state.Ending.TheVariants as ending
use Rattle.csl_meaning.specs.Layout.{first_memory}
use Rattle.csl_meaning.specs.Locals.{Locals}
use Rattle.csl_meaning.specs.Runs.{Outcome, Gives, Stops, ShowsLine, OpensStep}
use Rattle.csl_meaning.specs.Effect.{Went, in_order, blocks_in, calls_to, most_levels}
use Rattle.csl_meaning.specs.Meaning as language
use Rattle.csl_meaning.specs.Meaning.{in_main, first_world, run_of, main_of}
use Rattle.csl_meaning.proofs.Parts.{of_in_main}
use Rattle.csl_meaning.proofs.Counts.{Counted, Counts, counts, main_counts, run_counted}
use Rattle.bytecode.specs.declared.instr.Instr.{Instr}
use Rattle.bytecode.specs.declared.instr.Instr.TheVariants as i
use Rattle.bytecode.specs.declared.module.Code.{Code}
use Rattle.bytecode.specs.declared.module.Module.{Module}
use Rattle.code_verify.specs.Rules.{IsVerified}
use Rattle.machine_meaning.specs.Machine as machine
use Rattle.machine_meaning.specs.Machine.{State, Next, Prints, Opens, Ends, leaves, next}
use Rattle.machine_meaning.specs.Runs.{Reached, Start, Then, main_beginning}
use Rattle.machine_meaning.specs.Meaning as machine_means
use Rattle.machine_meaning.specs.Meaning.{main_at, module_memory}
use Rattle.machine_meaning.proofs.Never.{main_fits}
use Rattle.machine_meaning.proofs.Goes.{main_goes_on}
use Rattle.machine_meaning.proofs.Reaches.{main_follows, main_traps}
use Rattle.compiled_code.specs.Sizes.{texts_in, steps_in, steps_in_row, steps_in_arms, steps_in_last, kinds_in}
use Rattle.compiled_code.specs.Places.{form_size, row_size}
use Rattle.compiled_code.specs.Statements.{form_code}
use Rattle.compiled_code.specs.Modules.{beginning, ends_at, block_code, main_code, module_of}
use Rattle.compiled_code.specs.Laws.{HasRoutines}
use Rattle.compiled_code.specs.Shape.{HasShape, RoutineIs, FormIs, RowIs, ArmsAre, LastIs, BlocksAre}
use Rattle.compiled_code.proofs.Does.{HasKinds, Sound, Does, no_step}
use Rattle.compiled_code.proofs.Pieces.{Holds, back, stands}
use Rattle.compiled_code.proofs.Lengths.{form_length}
use Rattle.compiled_code.proofs.Values.{listed, at_instr, mk}
use Rattle.compiled_code.proofs.Loops.{After}
use Rattle.compiled_code.proofs.Statements.{row_does}
use Rattle.compiled_code.proofs.Bodies.{in_order_is}
use Rattle.compiled_code.proofs.Routines.{routine_same}
use Rattle.compiled_code.proofs.Mains.{Listed, listed_front, listed_back, calls, deep, get_map, print_does, par_does}
use Rattle.compiled_code.proofs.Words.{first_same, meant_kinds}

-- ---- the routine blocks of main

-- each of these blocks has the shape of a routine
abbrev pub AllRoutines : Program → List RoutineBlock → Type 0
AllRoutines p bs = (b : RoutineBlock) (k : ℕ) → slice_get bs k ≡ Some b → RoutineIs p b

none : (p : Program) → AllRoutines p []
none p b k e = absurd cc

and_more : (p : Program) (xs ys : List RoutineBlock) → AllRoutines p xs → AllRoutines p ys → AllRoutines p (xs ++ ys)
and_more p [] ys h g b k e = g b k e
and_more p (x ∷ xs) ys h g b zero e = h b zero e
and_more p (x ∷ xs) ys h g b (suc k) e = and_more p xs ys (λ b' k' e'. h b' (suc k') e') g b k e

module _ (p : Program) where
  in_blocks : {n : _} (blocks : Row_of-RoutineBlock n) → BlocksAre p blocks → AllRoutines p (blocks_in blocks)
  in_blocks end_of-RoutineBlock h b k e = absurd cc
  in_blocks (more_of-RoutineBlock (RoutineBlock' at width width_name id_name shape body) rest) h b zero e =
      let same : RoutineBlock' at width width_name id_name shape body ≡ b = cc in subst (λ (x : RoutineBlock). RoutineIs p x) same h.1
  in_blocks (more_of-RoutineBlock (RoutineBlock' at width width_name id_name shape body) rest) h b (suc k) e = in_blocks rest h.2 b k e

  mutual
    pub in_form : (f : Form) → FormIs p f → AllRoutines p (steps_in f)
    in_form (Declare ty name e) h = none p
    in_form (Set place e) h = none p
    in_form (AddTo place e) h = none p
    in_form (If' shape arms last) h = and_more p (steps_in_arms arms) (steps_in_last last) (in_arms arms h.0) (in_last last h.1)
    in_form (While' test shape body) h = in_row body h.1
    in_form (For' shape first test shape' next' shape'' body) h = in_row body h.5
    in_form Break h = none p
    in_form Continue h = none p
    in_form (Return given) h = none p
    in_form (form.CallOf call) h = none p
    in_form (Assert e) h = none p
    in_form (Block' shape body) h = in_row body h
    in_form (Print items) h = none p
    in_form (Par' shape blocks) h = in_blocks blocks h

    in_row : {n : _} (row : Row_of-Stmt n) → RowIs p row → AllRoutines p (steps_in_row row)
    in_row end_of-Stmt h = none p
    in_row (more_of-Stmt at f rest) h = and_more p (steps_in f) (steps_in_row rest) (in_form f h.0) (in_row rest h.1)

    in_arms : {n : _} (arms : Row_of-Arm n) → ArmsAre p arms → AllRoutines p (steps_in_arms arms)
    in_arms end_of-Arm h = none p
    in_arms (more_of-Arm (Arm' test shape body) rest) h = and_more p (steps_in_row body) (steps_in_arms rest) (in_row body h.1) (in_arms rest h.2)

    in_last : (last : Held-Form-If-1) → LastIs p last → AllRoutines p (steps_in_last last)
    in_last form.None' h = none p
    in_last (form.Some' shape body) h = in_row body h

-- ---- main as it runs

module _ (p : Program) (ok : IsVerified (module_of p)) (shape : HasShape p) (fuel : ℕ) where
  abbrev m : Module
  m = module_of p

  abbrev c : Code
  c = main_code p

  abbrev size : ℕ
  size = form_size p (variant.Block p.main) [] 0

  abbrev begin : State
  begin = main_beginning m (first_memory p.shared) fuel

  -- where main's code comes to
  abbrev Body : Went → World → State → Type 0
  Body = After p ok false fuel c [] 64 (calls p ok shape fuel) (deep p ok shape fuel) (0 + size) (ends_at size) []
      (Rattle.compiled_code.specs.Places.slots_after_row [] 0 (hidden-the_row-Stmt-1 p.main)) (length (map machine.first_value (kinds_in (variant.Block p.main))))

  whole_main : Listed p 0 0 (texts_in (variant.Block p.main)) (steps_in (variant.Block p.main))
  whole_main = record {
    more_texts = [];
    texts_are = sym (append-nil (texts_in (variant.Block p.main)));
    more_steps = [];
    steps_are = sym (append-nil (steps_in (variant.Block p.main)));
  }

  sound : Sound p ok false fuel begin
  sound = record { fits = main_fits m ok (first_memory p.shared) fuel; kinds = refl }

  body_does : Does p ok false fuel Body (in_order p (calls_to p most_levels) (in_main p fuel) (hidden-the_row-Stmt-1 p.main) [] (first_world p fuel)) begin
  body_does =
      let l = length-map (kinds_in (variant.Block p.main)) machine.first_value in
      let room : 0 + length (kinds_in (variant.Block p.main)) ≤ length (map machine.first_value (kinds_in (variant.Block p.main))) = omega (arith, l) in
      row_does p ok false fuel c [] 64 (calls p ok shape fuel) (deep p ok shape fuel) (Listed p) (listed_front p) (listed_back p) (in_main p fuel)
      (of_in_main Counts counts p fuel (main_counts p fuel)) (print_does p ok shape fuel c) (par_does p ok shape fuel c (in_form p (variant.Block p.main) shape.main))
      (hidden-the_row-Stmt-1 p.main) [] [] (map machine.first_value (kinds_in (variant.Block p.main))) (beginning 0) (ends_at size) (first_world p fuel) shape.main whole_main tt (omega arith) room
      sound
      (stands (form_code p (variant.Block p.main) [] (beginning 0) (ends_at size)) [] (i.Return ∷ []))

  -- the Return at the end
  last : slice_get c.instrs size ≡ Some i.Return
  last =
      let written = form_code p (variant.Block p.main) [] (beginning 0) (ends_at size) in
      let all = subst (λ (l : List Instr). Holds l 0 (written ++ i.Return ∷ [])) (append-nil (written ++ i.Return ∷ [])) (stands (written ++ i.Return ∷ []) [] []) in
      let at : 0 + size ≡ size = omega arith in
      subst (λ (k : ℕ). slice_get c.instrs k ≡ Some i.Return) at (back c.instrs 0 written (i.Return ∷ []) size (form_length p (variant.Block p.main) [] (beginning 0) (ends_at size)) all).0

  -- a Return ends main
  returns : (v : Option Val) (ml : List Val) (place : ℕ) (u : World) → Sound p ok false fuel (mk p ok false fuel c ml [] place (listed v) u) → slice_get c.instrs place ≡ Some i.Return
      → next m (mk p ok false fuel c ml [] place (listed v) u) ≡ Some (Ends u.store u.fuel)
  returns None ml place u sound' h = at_instr p ok false fuel (mk p ok false fuel c ml [] place [] u) i.Return h
  returns (Some v) ml place u sound' h = no_step p ok false fuel (mk p ok false fuel c ml [] place (v ∷ []) u) sound'
      (at_instr p ok false fuel (mk p ok false fuel c ml [] place (v ∷ []) u) i.Return h)

  -- what main shows and how it ends, beside the steps that it opens
  abbrev Told : Type 0
  Told = Meaning × List StepJob

  abbrev told : outline.Main → Told
  told main = (meaning_of main, steps_of main)

  -- a step is opened, and main goes on with what it leaves
  abbrev told_behind : StepJob → Result Memory StepFault → (Memory → Told) → Told
  told_behind job result next' = (going_on job result (λ later. (next' later).0), job ∷ steps_behind result (λ later. (next' later).1))

  -- from a reached state the machine goes on with the same events, the same steps and the same end
  abbrev From : ℕ → State → outline.Main
  From steps s = machine_means.main_of m fuel steps s

  goes : (steps : ℕ) (s : State) (n : Next) → Reached m begin s → next m s ≡ Some n → From steps s ≡ main_at m fuel steps (λ more later. From more later) (Some n)
  goes steps s n reached e = main_goes_on m ok (first_memory p.shared) fuel fuel steps s reached ∙ ap (λ (o : Option Next). main_at m fuel steps (λ more later. From more later) o) e

  done : (v : Option Val) (ml : List Val) (place : ℕ) (u : World) (steps : ℕ) (s' : State) → u.steps ≡ steps → Reached m begin s' → Sound p ok false fuel s'
      → s' ≡ mk p ok false fuel c ml [] place (listed v) u → slice_get c.instrs place ≡ Some i.Return
      → told (outline.Ends (Done u.steps)) ≡ told (From steps s')
  done v ml place u steps s' e reached sound' is h =
      let t = mk p ok false fuel c ml [] place (listed v) u in
      let at = goes steps t (Ends u.store u.fuel) (subst (λ (x : State). Reached m begin x) is reached) (returns v ml place u (subst (λ (x : State). Sound p ok false fuel x) is sound') h) in
      ap (λ (k : ℕ). told (outline.Ends (Done k))) e ∙ ap told (sym at) ∙ ap (λ (x : State). told (From steps x)) (sym is)

  -- a step that leaves the same goes on the same
  same_step : (job other : StepJob) (next' : Memory → Told) (next'' : Memory → Told) → job ≡ other → ((later : Memory) → meant job ≡ Ok later → next' later ≡ next'' later)
      → told_behind job (meant job) next' ≡ told_behind other (meant other) next''
  same_step job other next' next'' e h = by (meant job) refl ∙ ap (λ (j : StepJob). told_behind j (meant j) next'') e
    where
      by : (r : Result Memory StepFault) → meant job ≡ r → told_behind job r next' ≡ told_behind job r next''
      by (Ok later) is = ap (λ (x : Told). (outline.showing (outline.step_event job later) x.0, job ∷ x.1)) (h later is)
      by (Err fault) is = refl

  means : (o : Outcome Went) (n steps : ℕ) (s : State) → Counted n steps o → Reached m begin s → Does p ok false fuel Body o s → told (main_of o) ≡ told (From steps s)
  means (Gives (ending.Normal, ls) u) n steps s counted reached d =
      let to = main_follows m ok (first_memory p.shared) fuel fuel steps s d.0 reached d.1 in
      let at : 0 + size ≡ size = omega arith in
      done None d.3.0 size u steps d.0 counted.1 to.1 d.2 (d.3.1 ∙ ap (λ (k : ℕ). mk p ok false fuel c d.3.0 [] k [] u) at) last ∙ ap told (sym to.0)
  means (Gives (ending.Break, ls) u) n steps s counted reached d =
      let to = main_follows m ok (first_memory p.shared) fuel fuel steps s d.0 reached d.1 in
      done None d.3.0 size u steps d.0 counted.1 to.1 d.2 d.3.2 last ∙ ap told (sym to.0)
  means (Gives (ending.Continue, ls) u) n steps s counted reached d =
      let to = main_follows m ok (first_memory p.shared) fuel fuel steps s d.0 reached d.1 in
      done None d.3.0 size u steps d.0 counted.1 to.1 d.2 d.3.2 last ∙ ap told (sym to.0)
  means (Gives (ending.Return v, ls) u) n steps s counted reached d =
      let to = main_follows m ok (first_memory p.shared) fuel fuel steps s d.0 reached d.1 in
      done v d.3.0 d.3.1 u steps d.0 counted.1 to.1 d.2 d.3.3 d.3.2 ∙ ap told (sym to.0)
  means (Stops cause u) n steps s counted reached d =
      ap (λ (k : ℕ). told (outline.Ends (MainFault k cause))) counted.1 ∙ ap told (sym (main_traps m ok (first_memory p.shared) fuel fuel steps s cause u.store u.fuel reached d))
  means (ShowsLine line rest) n steps s counted reached d =
      let to = main_follows m ok (first_memory p.shared) fuel fuel steps s d.1.0 reached d.1.1 in
      let reached' : Reached m begin d.0 = Then d.1.0 d.0 (Prints line d.0) to.1 d.1.2 refl in
      ap (λ (x : Told). (outline.showing (outline.Line line) x.0, x.1)) (means rest n steps d.0 counted reached' d.3)
      ∙ ap told (sym (to.0 ∙ goes steps d.1.0 (Prints line d.0) to.1 d.1.2))
  means (OpensStep job rest) n steps s counted reached d =
      let to = main_follows m ok (first_memory p.shared) fuel fuel steps s d.3.0 reached d.3.1 in
      let opened : StepJob = record { number = suc steps; opening = Rattle.cal_base.specs.Stores.memory_in d.0.store; answers = machine_means.answers m fuel (Rattle.cal_base.specs.Stores.memory_in d.0.store) (machine_means.blocks_of m d.1 (length d.2)) d.2 } in
      let same : job ≡ opened = λ j. record { number = counted.1 j; opening = d.5.opening j; answers = d.5.answers j } in
      same_step job opened (λ later. told (main_of (rest later))) (λ later. told (From (suc steps) (record d.0 { store = Main later }))) same (λ later is.
      let kinds : HasKinds p later = meant_kinds job later is ∙ ap (λ (x : Memory). kinds_of x) d.5.opening ∙ d.4.kinds in
      means (rest later) (n - 1) (suc steps) (record d.0 { store = Main later }) (counted.3 later) (Then d.3.0 (record d.0 { store = Main later }) (Opens d.1 d.2 d.0) to.1 d.3.2 (later, refl))
      (d.6 later kinds))
      ∙ ap told (sym (to.0 ∙ goes steps d.3.0 (Opens d.1 d.2 d.0) to.1 d.3.2))

  -- main of the module and main of the program tell the same
  tells_the_same : told (machine_means.machine_main m fuel) ≡ told (main_of (run_of p fuel))
  tells_the_same =
      let first = first_same p in
      let rows = in_order_is p (calls_to p most_levels) (in_main p fuel) p.main in
      ap (λ (memory : Memory). told (From 0 (main_beginning m memory fuel))) first
      ∙ sym (means (in_order p (calls_to p most_levels) (in_main p fuel) (hidden-the_row-Stmt-1 p.main) [] (first_world p fuel)) fuel 0 begin
      (subst (λ (run : Locals → Rattle.csl_meaning.specs.Runs.Run Went). Counted fuel 0 (run [] (first_world p fuel))) (sym rows) (run_counted p fuel)) Start body_does)
      ∙ ap (λ (run : Locals → Rattle.csl_meaning.specs.Runs.Run Went). told (main_of (run [] (first_world p fuel)))) rows

  -- the module means what the program means
  pub means_the_same : machine_means.machine_meaning m fuel ≡ language.meaning p fuel
  means_the_same = ap (λ (x : Told). x.0) tells_the_same

  -- and opens the same steps: their numbers, opening memories and answers
  pub opens_the_same : steps_of (machine_means.machine_main m fuel) ≡ steps_of (main_of (run_of p fuel))
  opens_the_same = ap (λ (x : Told). x.1) tells_the_same

-- each routine block of main has its code among the module's blocks, and that does the same
pub has_routines : (p : Program) → IsVerified (module_of p) → HasShape p → HasRoutines p (module_of p)
has_routines p ok shape n b at =
    let there : slice_get (module_of p).blocks n ≡ Some (block_code p b) = get_map (λ (x : RoutineBlock). block_code p x) (steps_in (variant.Block p.main)) n b at in
    (block_code p b, there, λ width id memory fuel kinds. routine_same p ok shape fuel b n width id memory fuel there (in_form p (variant.Block p.main) shape.main b n at) kinds)
