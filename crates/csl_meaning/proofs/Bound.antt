-- The bound on a loop's turns does not matter, as long as it is at least the fuel.
use Rattle.std.proofs.Common.{◌≡◌, ℕ, zero, suc, ◌-◌, ◌<◌, ◌≤◌, Bool, true, false, if◌then◌else◌, refl, sym, ap, ◌∙◌, arith}
use Rattle.cal_base.specs.declared.ends.Cause.TheVariants.{FuelSpent}
use Rattle.cal_base.specs.declared.value.Val.{Val}
use Rattle.csl_tree.specs.declared.program.Program.{Program}
use Rattle.csl_meaning.specs.declared.state.World.{World}
use Rattle.csl_meaning.specs.declared.state.Ending.TheVariants as ending
use Rattle.csl_meaning.specs.Locals.{Locals}
use Rattle.csl_meaning.specs.Operators.{truth_in}
use Rattle.csl_meaning.specs.Runs.{Outcome, Gives, Stops, ShowsLine, OpensStep, Run, and_then, ◌>>=◌, ◌>>◌, pure, stop, spend, take_unit}
use Rattle.csl_meaning.specs.Value.{Calls, value_of}
use Rattle.csl_meaning.specs.Effect.{Went, MainOnly, turn, turns, after_body, scoped, statements, step_of, nowhere, calls_to, most_levels}
use Rattle.csl_meaning.specs.Meaning.{in_main}
use Rattle.csl_meaning.specs.Laws.{BoundIsEnough, BoundIsEnoughInMain, BoundIsEnoughElsewhere}
use Rattle.csl_meaning.proofs.Parts.{Always, OfCalls, of_expr, of_statements, of_step, of_scoped, of_calls_to, of_nowhere, of_in_main}
use Rattle.csl_meaning.proofs.Counts.{Counted, Counts, counts, main_counts}

-- two runs that agree wherever there is no more fuel than before
same_after : {A B : Type 0} (n steps : ℕ) (o : Outcome A) (f g : A → Run B) → Counted n steps o → ((a : A) (w : World) → w.fuel ≤ n → f a w ≡ g a w) → and_then o f ≡ and_then o g
same_after n steps (Gives a w) f g h same = same a w h.0
same_after n steps (Stops cause w) f g h same = refl
same_after n steps (ShowsLine line o) f g h same = ap (ShowsLine line) (same_after n steps o f g h same)
same_after n steps (OpensStep job rest) f g h same =
    ap (OpensStep job) (λ i later. same_after (n - 1) (suc steps) (rest later) f g (h.3 later) (λ a w le. same a w (omega arith)) i)

module _ (test : Locals → Run Val) (body : Locals → Run Went) (next : Locals → Run Locals)
    (of_test : (l : Locals) → Always Counts (test l)) (of_body : (l : Locals) → Always Counts (body l)) (of_next : (l : Locals) → Always Counts (next l)) where
  -- the return to the head
  abbrev again : ℕ → Locals → Run Went
  again zero l = stop FuelSpent
  again (suc n) l = take_unit >> turns n test body next l

  turns_is : (n : ℕ) → turns n test body next ≡ turn test body next (again n)
  turns_is zero = refl
  turns_is (suc n) = refl

  back : (went : Went) (w : World) (k : ℕ) (f g : Locals → Run Went) → w.fuel ≤ k → ((l : Locals) (u : World) → u.fuel ≤ k → f l u ≡ g l u)
      → after_body went (λ inner. next inner >>= f) w ≡ after_body went (λ inner. next inner >>= g) w
  back (ending.Normal, l) w k f g le h = same_after w.fuel w.steps (next l w) f g (of_next l w) (λ m u lt. h m u (omega arith))
  back (ending.Continue, l) w k f g le h = same_after w.fuel w.steps (next l w) f g (of_next l w) (λ m u lt. h m u (omega arith))
  back (ending.Break, l) w k f g le h = refl
  back (ending.Return v, l) w k f g le h = refl

  turn_same : (k : ℕ) (f g : Locals → Run Went) (l : Locals) (w : World) → w.fuel ≤ k → ((m : Locals) (u : World) → u.fuel ≤ k → f m u ≡ g m u) → turn test body next f l w ≡ turn test body next g l w
  turn_same k f g l w le h = same_after w.fuel w.steps (test l w) _ _ (of_test l w) (λ v u lt. by_truth (truth_in v) u (omega arith))
    where
      by_truth : (b : Bool) (u : World) → u.fuel ≤ k
          → (if b then (body l >>= (λ went. after_body went (λ inner. next inner >>= f))) else pure (ending.Normal, l)) u
          ≡ (if b then (body l >>= (λ went. after_body went (λ inner. next inner >>= g))) else pure (ending.Normal, l)) u
      by_truth true u lt = same_after u.fuel u.steps (body l u) _ _ (of_body l u) (λ went x lx. back went x k f g (omega arith) h)
      by_truth false u lt = refl

  -- no unit is left
  none : (k : ℕ) (u : World) (f : Run Went) → k ≤ 0 → stop FuelSpent u ≡ and_then (spend k u) (λ _. f)
  none zero u f le = refl
  none (suc k) u f le = absurd (omega arith)

  -- a unit is taken on both sides
  taken : (k : ℕ) (u : World) (f g : Run Went) → ((j : ℕ) → j < k → f (record u { fuel = j }) ≡ g (record u { fuel = j })) → and_then (spend k u) (λ _. f) ≡ and_then (spend k u) (λ _. g)
  taken zero u f g h = refl
  taken (suc k) u f g h = h k (omega arith)

  from_heads : (m n : ℕ) (l : Locals) (w : World) → ((q : Locals) (u : World) → u.fuel ≤ w.fuel → again m q u ≡ again n q u) → turns m test body next l w ≡ turns n test body next l w
  from_heads m n l w h =
      ap (λ (t : Locals → Run Went). t l w) (turns_is m)
      ∙ turn_same w.fuel (again m) (again n) l w (omega arith) h
      ∙ ap (λ (t : Locals → Run Went). t l w) (sym (turns_is n))

  heads : (m n : ℕ) (q : Locals) (u : World) → u.fuel ≤ m → u.fuel ≤ n → again m q u ≡ again n q u
  heads zero zero q u lm ln = refl
  heads zero (suc n) q u lm ln = none u.fuel u (turns n test body next q) lm
  heads (suc m) zero q u lm ln = sym (none u.fuel u (turns m test body next q) ln)
  heads (suc m) (suc n) q u lm ln =
      taken u.fuel u (turns m test body next q) (turns n test body next q)
      (λ j lt. from_heads m n q (record u { fuel = j }) (λ r v lv. heads m n r v (omega arith) (omega arith)))

  pub same_turns : (m n : ℕ) (l : Locals) (w : World) → w.fuel ≤ m → w.fuel ≤ n → turns m test body next l w ≡ turns n test body next l w
  same_turns m n l w lm ln = from_heads m n l w (λ q u lu. heads m n q u (omega arith) (omega arith))

enough : (p : Program) (calls : Calls) (of_calls : OfCalls Counts counts calls) (main_only : MainOnly → Locals → Run Went)
    → ((statement : MainOnly) (l : Locals) → Always Counts (main_only statement l)) → BoundIsEnough p calls main_only
enough p calls of_calls main_only of_main test body next n locals w le =
    same_turns (λ l. value_of p calls l test) (scoped (statements p calls main_only body)) (step_of p calls main_only next)
    (λ l. of_expr Counts counts p calls of_calls l test)
    (of_scoped Counts counts (statements p calls main_only body) (of_statements Counts counts p calls of_calls main_only of_main body))
    (of_step Counts counts p calls of_calls main_only of_main next)
    n w.fuel locals w le (omega arith)

pub bound_is_enough_in_main : BoundIsEnoughInMain
bound_is_enough_in_main p fuel = enough p (calls_to p most_levels) (of_calls_to Counts counts p most_levels) (in_main p fuel) (of_in_main Counts counts p fuel (main_counts p fuel))

pub bound_is_enough_elsewhere : BoundIsEnoughElsewhere
bound_is_enough_elsewhere p levels = enough p (calls_to p levels) (of_calls_to Counts counts p levels) nowhere (of_nowhere Counts counts p (calls_to p levels) (of_calls_to Counts counts p levels))
