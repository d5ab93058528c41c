-- Runs, one after the other.
use Rattle.std.proofs.Common.{◌≡◌, ◌+◌, List, [], ◌∷◌, ◌++◌, refl, sym, subst, arith, append_assoc, append-nil}
use Rattle.std.proofs.lemmas.List.Sums.{sum_by-append}
use Rattle.cal_base.specs.declared.ends.RunEnd.{RunEnd}
use Rattle.cal_base.specs.declared.ends.RunEnd.TheVariants.{StepFailed}
use Rattle.cal_base.specs.History.{claims_by, is_caller}
use Rattle.cal_base.specs.Main.{Main, Ends, Shows, Opens, Event, Line, step_event}
use Rattle.step_laws.specs.Closed.{ClosedStep}
use Rattle.engine_laws.specs.Ran.{RunsTo, Here, Shown, Closed, RunsThrough, Ended, Failed, callers_claims}

module _ (main mid : Main) (shown : List Event) (closed : List ClosedStep) (first : RunsTo main mid shown closed) where
  pub runs_then : (rest : Main) (more : List Event) (steps : List ClosedStep) → RunsTo mid rest more steps → RunsTo main rest (shown ++ more) (closed ++ steps)
  runs_then _ _ _ Here = subst (λ (l : List Event). RunsTo main mid l (closed ++ [])) (sym (append-nil shown))
      (subst (λ (l : List ClosedStep). RunsTo main mid shown l) (sym (append-nil closed)) first)
  runs_then _ _ _ (Shown line rest more steps runs) =
      subst (λ (l : List Event). RunsTo main rest l (closed ++ steps)) (append_assoc shown more (Line line ∷ []))
      (Shown line rest (shown ++ more) (closed ++ steps) (runs_then (Shows line rest) more steps runs))
  runs_then _ _ _ (Closed job next more steps history later runs whole left) =
      subst (λ (l : List Event). RunsTo main (next later) l (closed ++ (steps ++ record { job = job; history = history } ∷ []))) (append_assoc shown more (step_event job later ∷ []))
      (subst (λ (l : List ClosedStep). RunsTo main (next later) ((shown ++ more) ++ step_event job later ∷ []) l) (append_assoc closed steps (record { job = job; history = history } ∷ []))
      (Closed job next (shown ++ more) (closed ++ steps) history later (runs_then (Opens job next) more steps runs) whole left))

  pub through_then : (more : List Event) (steps : List ClosedStep) (ending : RunEnd) → RunsThrough mid more steps ending → RunsThrough main (shown ++ more) (closed ++ steps) ending
  through_then _ _ _ (Ended ending more steps runs) = Ended ending (shown ++ more) (closed ++ steps) (runs_then (Ends ending) more steps runs)
  through_then _ _ _ (Failed job next more steps history fault runs whole left) =
      subst (λ (l : List ClosedStep). RunsThrough main (shown ++ more) l (StepFailed job.number fault)) (append_assoc closed steps (record { job = job; history = history } ∷ []))
      (Failed job next (shown ++ more) (closed ++ steps) history fault (runs_then (Opens job next) more steps runs) whole left)

-- ---- the caller's claims

pub claims_then : (closed more : List ClosedStep) → callers_claims (closed ++ more) ≡ callers_claims closed + callers_claims more
unfolding callers_claims
claims_then closed more = sum_by-append (λ (step : ClosedStep). claims_by is_caller step.history) closed more

pub claims_none : callers_claims [] ≡ 0
unfolding callers_claims
claims_none = refl

pub claims_one : (step : ClosedStep) → callers_claims (step ∷ []) ≡ claims_by is_caller step.history
unfolding callers_claims
claims_one step = omega arith
