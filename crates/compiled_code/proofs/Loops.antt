-- Blocks and the turns of a loop.
use Rattle.std.proofs.Common.{◌≡◌, ℕ, zero, suc, ◌+◌, ◌≤◌, Bool, true, false, if◌then◌else◌, List, [], ◌∷◌, ◌++◌, length, take, Option, Some, refl, sym, subst, arith}
use Rattle.std.specs.Prelude.{slice_get}
use Rattle.std.proofs.lemmas.List.{append-nil}
use Rattle.cal_base.specs.declared.ends.Cause.TheVariants.{FuelSpent}
use Rattle.cal_base.specs.declared.value.Val.{Val}
use Rattle.cal_base.specs.declared.value.Val.TheVariants as val
use Rattle.csl_tree.specs.declared.program.Program.{Program}
use Rattle.csl_meaning.specs.declared.state.World.{World}
use Rattle.csl_meaning.specs.declared.state.Ending.TheVariants as ending
use Rattle.csl_meaning.specs.Locals.{Locals}
use Rattle.csl_meaning.specs.Operators.{truth_in}
use Rattle.csl_meaning.specs.Runs.{Gives, Stops, Run, and_then, ◌>>=◌, ◌>>◌, pure, stop, spend, take_unit}
use Rattle.csl_meaning.specs.Effect.{Went, leave, scoped, after_body, turn, turns, loop}
use Rattle.csl_meaning.proofs.Parts.{Always}
use Rattle.csl_meaning.proofs.Counts.{Counts}
use Rattle.bytecode.specs.declared.instr.Instr.TheVariants as i
use Rattle.bytecode.specs.declared.module.Code.{Code}
use Rattle.code_verify.specs.Rules.{IsVerified}
use Rattle.machine_meaning.specs.Machine.{Call, State, On, spends, at_target, next}
use Rattle.compiled_code.specs.Slots.{Slots}
use Rattle.compiled_code.specs.Statements.{Exits}
use Rattle.compiled_code.specs.Modules.{module_of}
use Rattle.compiled_code.proofs.Does.{Sound, Does, then_does, then_within, step_does, trap_does, no_step}
use Rattle.machine_meaning.proofs.Composes.{here}
use Rattle.compiled_code.proofs.Frames.{Agree, take_agrees}
use Rattle.compiled_code.proofs.Values.{CallsDo, listed, at_instr, from, mk, Left, gives_one}
use Rattle.compiled_code.proofs.Changes.{Settled}

module _ (p : Program) (ok : IsVerified (module_of p)) (r : Bool) (whole : ℕ) (c : Code) (callers : List Call) (levels : ℕ) (calls : CallsDo p ok r whole levels) (deep : length callers + levels ≡ 64)
  where
    -- the locals agree with these slots and others behind them, at a place without operands
    abbrev pub Gone : ℕ → Slots → ℕ → Locals → World → State → Type 0
    Gone place slots count ls u s' = (ml : List Val) × (more : Slots) × (s' ≡ mk p ok r whole c ml callers place [] u) × Agree (slots ++ more) ls ml × (length ml ≡ count)

    -- a Return stands there, and what is returned is all that is left
    abbrev pub Returned : Option Val → World → State → Type 0
    Returned v u s' = (ml : List Val) × (there : ℕ) × (slice_get c.instrs there ≡ Some i.Return) × (s' ≡ mk p ok r whole c ml callers there (listed v) u)

    -- where a statement with these locals in view comes to
    abbrev pub After : ℕ → Exits → Slots → Slots → ℕ → Went → World → State → Type 0
    After place exits slots after count (ending.Normal, ls) u s' = Settled p ok r whole c callers levels calls deep place after count ls u s'
    After place exits slots after count (ending.Break, ls) u s' = Gone exits.on_break slots count ls u s'
    After place exits slots after count (ending.Continue, ls) u s' = Gone exits.on_continue slots count ls u s'
    After place exits slots after count (ending.Return v, ls) u s' = Returned v u s'

    -- where a block comes to
    abbrev pub Behind : ℕ → Exits → Slots → ℕ → Went → World → State → Type 0
    Behind place exits slots count (ending.Normal, ls) u s' = Settled p ok r whole c callers levels calls deep place slots count ls u s'
    Behind place exits slots count (ending.Break, ls) u s' = Settled p ok r whole c callers levels calls deep exits.on_break slots count ls u s'
    Behind place exits slots count (ending.Continue, ls) u s' = Settled p ok r whole c callers levels calls deep exits.on_continue slots count ls u s'
    Behind place exits slots count (ending.Return v, ls) u s' = Returned v u s'

    gone : (place : ℕ) (slots : Slots) (count : ℕ) (ls : Locals) (u : World) (s' : State) → Settled p ok r whole c callers levels calls deep place slots count ls u s' → Gone place slots count ls u s'
    gone place slots count ls u s' h = (h.0, [], h.1, subst (λ (ss : Slots). Agree ss ls h.0) (sym (append-nil slots)) h.2, h.3)

    -- a block is a statement
    pub behind_after : (place : ℕ) (exits : Exits) (slots : Slots) (count : ℕ) (went : Went) (u : World) (s' : State) → Behind place exits slots count went u s'
        → After place exits slots slots count went u s'
    behind_after place exits slots count (ending.Normal, ls) u s' h = h
    behind_after place exits slots count (ending.Break, ls) u s' h = gone exits.on_break slots count ls u s' h
    behind_after place exits slots count (ending.Continue, ls) u s' h = gone exits.on_continue slots count ls u s' h
    behind_after place exits slots count (ending.Return v, ls) u s' h = h

    settle : (place : ℕ) (slots more : Slots) (count : ℕ) (ls : Locals) (n : ℕ) (u : World) (s' : State) → length slots ≡ n → (ml : List Val) → s' ≡ mk p ok r whole c ml callers place [] u
        → Agree (slots ++ more) ls ml → length ml ≡ count
        → Settled p ok r whole c callers levels calls deep place slots count (take n ls) u s'
    settle place slots more count ls n u s' e ml is agree long = (ml, is, subst (λ (k : ℕ). Agree slots (take k ls) ml) e (take_agrees slots more ls ml agree), long)

    -- the locals of a block are gone behind it
    pub scoped_does : (place : ℕ) (exits : Exits) (slots added : Slots) (count : ℕ) (body : Locals → Run Went) (ls : Locals) (w : World) (s : State) → length slots ≡ length ls
        → Does p ok r whole (After place exits slots (slots ++ added) count) (body ls w) s → Does p ok r whole (Behind place exits slots count) (scoped body ls w) s
    scoped_does place exits slots added count body ls w s e does =
        then_does p ok r whole (After place exits slots (slots ++ added) count) (Behind place exits slots count) (body ls w) (λ went. pure (leave (length ls) went)) s does
        (λ went u s' sound q. by went u s' sound q)
      where
        by : (went : Went) (u : World) (s' : State) → Sound p ok r whole s' → After place exits slots (slots ++ added) count went u s'
            → Does p ok r whole (Behind place exits slots count) (Gives (leave (length ls) went) u) s'
        by (ending.Normal, ls') u s' sound q = (s', here (module_of p) s', sound, settle place slots added count ls' (length ls) u s' e q.0 q.1 q.2 q.3)
        by (ending.Break, ls') u s' sound q = (s', here (module_of p) s', sound, settle exits.on_break slots q.1 count ls' (length ls) u s' e q.0 q.2 q.3 q.4)
        by (ending.Continue, ls') u s' sound q = (s', here (module_of p) s', sound, settle exits.on_continue slots q.1 count ls' (length ls) u s' e q.0 q.2 q.3 q.4)
        by (ending.Return v, ls') u s' sound q = (s', here (module_of p) s', sound, q)

    -- ---- loops

    module _ (slots : Slots) (count head n step back exit : ℕ) (exits : Exits) (test : Locals → Run Val) (body : Locals → Run Went) (next' : Locals → Run Locals)
        (of_test : (l : Locals) → Always Counts (test l)) (of_body : (l : Locals) → Always Counts (body l)) (of_next : (l : Locals) → Always Counts (next' l))
        (test_does : (ls : Locals) (ml : List Val) (w : World) → Agree slots ls ml → length ml ≡ count → Sound p ok r whole (mk p ok r whole c ml callers head [] w)
        → Does p ok r whole (Left p ok r whole c ml callers (head + n) []) (test ls w) (mk p ok r whole c ml callers head [] w))
        (branch_at : slice_get c.instrs (head + n) ≡ Some (i.Branch exit))
        (body_does : (ls : Locals) (ml : List Val) (w : World) → Agree slots ls ml → length ml ≡ count → Sound p ok r whole (mk p ok r whole c ml callers (head + n + 1) [] w)
        → Does p ok r whole (Behind step (record { on_break = exit; on_continue = step }) slots count) (body ls w) (mk p ok r whole c ml callers (head + n + 1) [] w))
        (next_does : (ls : Locals) (ml : List Val) (w : World) → Agree slots ls ml → length ml ≡ count → Sound p ok r whole (mk p ok r whole c ml callers step [] w)
        → Does p ok r whole (Settled p ok r whole c callers levels calls deep back slots count) (next' ls w) (mk p ok r whole c ml callers step [] w))
        (loop_at : slice_get c.instrs back ≡ Some (i.Loop head)) where
      abbrev Post : Went → World → State → Type 0
      Post = Behind exit exits slots count

      -- what a return to the head does, with at most this much fuel
      abbrev AgainDoes : ℕ → (Locals → Run Went) → Type 0
      AgainDoes k again = (ls : Locals) (ml : List Val) (u : World) → u.fuel ≤ k → Agree slots ls ml → length ml ≡ count → Sound p ok r whole (mk p ok r whole c ml callers back [] u)
          → Does p ok r whole Post (again ls u) (mk p ok r whole c ml callers back [] u)

      module _ (k : ℕ) (again : Locals → Run Went) (again_does : AgainDoes k again) where
        returning : (ls : Locals) (u : World) (s' : State) → u.fuel ≤ k → Sound p ok r whole s' → Settled p ok r whole c callers levels calls deep step slots count ls u s'
            → Does p ok r whole Post ((next' ls >>= again) u) s'
        returning ls u s' le sound q =
            from p ok r whole Post ((next' ls >>= again) u) s' (mk p ok r whole c q.0 callers step [] u) q.1 sound (λ sound1.
            then_within p ok r whole (Settled p ok r whole c callers levels calls deep back slots count) Post (next' ls u) again (mk p ok r whole c q.0 callers step [] u) u.fuel u.steps (of_next ls u)
            (next_does ls q.0 u q.2 q.3 sound1) (λ ls' u' s'' le' sound' q'.
            from p ok r whole Post (again ls' u') s'' (mk p ok r whole c q'.0 callers back [] u') q'.1 sound' (λ sound2. again_does ls' q'.0 u' (omega (arith, le, le')) q'.2 q'.3 sound2)))

        behind_body : (went : Went) (u : World) (s' : State) → u.fuel ≤ k → Sound p ok r whole s' → Behind step (record { on_break = exit; on_continue = step }) slots count went u s'
            → Does p ok r whole Post (after_body went (λ inner. next' inner >>= again) u) s'
        behind_body (ending.Normal, ls) u s' le sound q = returning ls u s' le sound q
        behind_body (ending.Continue, ls) u s' le sound q = returning ls u s' le sound q
        behind_body (ending.Break, ls) u s' le sound q = (s', here (module_of p) s', sound, q)
        behind_body (ending.Return v, ls) u s' le sound q = (s', here (module_of p) s', sound, q)

        tested : (v : Val) (ls : Locals) (ml : List Val) (u : World) → u.fuel ≤ k → Agree slots ls ml → length ml ≡ count → Sound p ok r whole (mk p ok r whole c ml callers (head + n) (v ∷ []) u)
            → Does p ok r whole Post ((if truth_in v then (body ls >>= (λ went. after_body went (λ inner. next' inner >>= again))) else pure (ending.Normal, ls)) u)
            (mk p ok r whole c ml callers (head + n) (v ∷ []) u)
        tested (val.Int z) ls ml u le agree long sound = no_step p ok r whole (mk p ok r whole c ml callers (head + n) (val.Int z ∷ []) u) sound
            (at_instr p ok r whole (mk p ok r whole c ml callers (head + n) (val.Int z ∷ []) u) (i.Branch exit) branch_at)
        tested (val.Truth false) ls ml u le agree long sound =
            gives_one p ok r whole c ml callers Post (ending.Normal, ls) (mk p ok r whole c ml callers (head + n) (val.Truth false ∷ []) u) (mk p ok r whole c ml callers exit [] u) u sound
            (at_instr p ok r whole (mk p ok r whole c ml callers (head + n) (val.Truth false ∷ []) u) (i.Branch exit) branch_at) sound.kinds (ml, refl, agree, long)
        tested (val.Truth true) ls ml u le agree long sound =
            step_does p ok r whole Post ((body ls >>= (λ went. after_body went (λ inner. next' inner >>= again))) u) (mk p ok r whole c ml callers (head + n) (val.Truth true ∷ []) u)
            (mk p ok r whole c ml callers (head + n + 1) [] u) sound
            (at_instr p ok r whole (mk p ok r whole c ml callers (head + n) (val.Truth true ∷ []) u) (i.Branch exit) branch_at) sound.kinds (λ sound1.
            then_within p ok r whole (Behind step (record { on_break = exit; on_continue = step }) slots count) Post (body ls u) (λ went. after_body went (λ inner. next' inner >>= again))
            (mk p ok r whole c ml callers (head + n + 1) [] u) u.fuel u.steps (of_body ls u)
            (body_does ls ml u agree long sound1) (λ went u' s' le' sound' q. behind_body went u' s' (omega (arith, le, le')) sound' q))

        turn_does : (ls : Locals) (ml : List Val) (w : World) → w.fuel ≤ k → Agree slots ls ml → length ml ≡ count → Sound p ok r whole (mk p ok r whole c ml callers head [] w)
            → Does p ok r whole Post (turn test body next' again ls w) (mk p ok r whole c ml callers head [] w)
        turn_does ls ml w le agree long sound =
            then_within p ok r whole (Left p ok r whole c ml callers (head + n) []) Post (test ls w)
            (λ v. if truth_in v then (body ls >>= (λ went. after_body went (λ inner. next' inner >>= again))) else pure (ending.Normal, ls)) (mk p ok r whole c ml callers head [] w) w.fuel w.steps
            (of_test ls w)
            (test_does ls ml w agree long sound) (λ v u s' le' sound' q.
            from p ok r whole Post ((if truth_in v then (body ls >>= (λ went. after_body went (λ inner. next' inner >>= again))) else pure (ending.Normal, ls)) u) s'
            (mk p ok r whole c ml callers (head + n) (v ∷ []) u) q sound' (λ sound1.
            tested v ls ml u (omega (arith, le, le')) agree long sound1))

      -- a unit is wanted at the Loop: there is none
      none_left : (ml : List Val) (u : World) (k : ℕ) → u.fuel ≡ k → k ≤ 0 → Sound p ok r whole (mk p ok r whole c ml callers back [] u)
          → next (module_of p) (mk p ok r whole c ml callers back [] u) ≡ Some (spends (mk p ok r whole c ml callers back [] u) k (λ s'. On (at_target s' head [])))
          → Does p ok r whole Post (Stops FuelSpent u) (mk p ok r whole c ml callers back [] u)
      none_left ml u zero is le sound e = trap_does p ok r whole Post FuelSpent u (mk p ok r whole c ml callers back [] u) e
      none_left ml u (suc k) is le sound e = absurd (omega arith)

      -- or it is taken
      unit_taken : (k : ℕ) (ls : Locals) (ml : List Val) (u : World) (j : ℕ) → u.fuel ≡ j → j ≤ suc k → Sound p ok r whole (mk p ok r whole c ml callers back [] u)
          → next (module_of p) (mk p ok r whole c ml callers back [] u) ≡ Some (spends (mk p ok r whole c ml callers back [] u) j (λ s'. On (at_target s' head [])))
          → ((left : ℕ) → left ≤ k → Sound p ok r whole (mk p ok r whole c ml callers head [] (record u { fuel = left }))
          → Does p ok r whole Post (turns k test body next' ls (record u { fuel = left })) (mk p ok r whole c ml callers head [] (record u { fuel = left })))
          → Does p ok r whole Post (and_then (spend j u) (λ _. turns k test body next' ls)) (mk p ok r whole c ml callers back [] u)
      unit_taken k ls ml u zero is le sound e go = trap_does p ok r whole Post FuelSpent u (mk p ok r whole c ml callers back [] u) e
      unit_taken k ls ml u (suc left) is le sound e go =
          step_does p ok r whole Post (turns k test body next' ls (record u { fuel = left })) (mk p ok r whole c ml callers back [] u) (mk p ok r whole c ml callers head [] (record u { fuel = left }))
          sound e sound.kinds (λ sound1. go left (omega (arith, le)) sound1)

      turns_do : (k : ℕ) (ls : Locals) (ml : List Val) (w : World) → w.fuel ≤ k → Agree slots ls ml → length ml ≡ count → Sound p ok r whole (mk p ok r whole c ml callers head [] w)
          → Does p ok r whole Post (turns k test body next' ls w) (mk p ok r whole c ml callers head [] w)
      turns_do zero ls ml w le agree long sound =
          turn_does 0 (λ _. stop FuelSpent) (λ ls' ml' u le' agree' long' sound'. none_left ml' u u.fuel refl le' sound'
          (at_instr p ok r whole (mk p ok r whole c ml' callers back [] u) (i.Loop head) loop_at)) ls ml w le agree long sound
      turns_do (suc k) ls ml w le agree long sound =
          turn_does (suc k) (λ l. take_unit >> turns k test body next' l) (λ ls' ml' u le' agree' long' sound'.
          unit_taken k ls' ml' u u.fuel refl le' sound' (at_instr p ok r whole (mk p ok r whole c ml' callers back [] u) (i.Loop head) loop_at)
          (λ left lt sound1. turns_do k ls' ml' (record u { fuel = left }) lt agree' long' sound1)) ls ml w le agree long sound

      -- a loop does what its code does
      pub loop_does : (ls : Locals) (ml : List Val) (w : World) → Agree slots ls ml → length ml ≡ count → Sound p ok r whole (mk p ok r whole c ml callers head [] w)
          → Does p ok r whole Post (loop test body next' ls w) (mk p ok r whole c ml callers head [] w)
      loop_does ls ml w agree long sound = turns_do w.fuel ls ml w (omega arith) agree long sound
