-- What a run shows and closes.
use Rattle.std.proofs.Common.{◌≡◌, suc, ◌+◌, List, [], ◌∷◌, ◌++◌, length, Result, Ok, Err, refl, sym, ap, subst, ◌∙◌, arith, append_assoc, append-nil}
use Rattle.std.proofs.lemmas.List.{length_push}
use Rattle.cal_base.specs.declared.ends.StepFault.{StepFault}
use Rattle.cal_base.specs.Memory.{Memory}
use Rattle.cal_base.specs.History.{History}
use Rattle.cal_base.specs.Claims.{StepJob, merged, meant}
use Rattle.cal_base.specs.Main.{Main, Ends, Shows, Opens, Line, step_event, going_on, meaning_of, steps_behind, steps_of, IsNumbered}
use Rattle.step_laws.proofs.StepLaws.{merged_is_meant}
use Rattle.step_laws.specs.Closed.{ClosedStep}
use Rattle.step_laws.proofs.Closed.{each_push}
use Rattle.step_laws.specs.Closed.{Each, IsWhole, jobs_in}
use Rattle.engine_laws.specs.Ran.{Here, Shown, Closed, Ended, Failed, RunsAreMeant, PartsAreMeant, ClosedStepsAreCounted}

jobs_push : (closed : List ClosedStep) (step : ClosedStep) → jobs_in (closed ++ step ∷ []) ≡ jobs_in closed ++ step.job ∷ []
jobs_push [] step = refl
jobs_push (x ∷ closed) step = ap (λ more. x.job ∷ more) (jobs_push closed step)

-- what a whole step leaves is what it means
pub left_is_meant : (job : StepJob) (history : History) (r : Result Memory StepFault) → IsWhole (record { job = job; history = history }) → merged job history ≡ r → meant job ≡ r
left_is_meant job history r whole e = sym (merged_is_meant job history whole.legal whole.complete) ∙ e

-- the step that is closed stands behind those before it
steps_push : (main : Main) (closed : List ClosedStep) (step : ClosedStep) (more : List StepJob) → jobs_in closed ++ step.job ∷ more ≡ steps_of main
    → jobs_in (closed ++ step ∷ []) ++ more ≡ steps_of main
steps_push main closed step more e = ap (λ (l : List StepJob). l ++ more) (jobs_push closed step) ∙ append_assoc (jobs_in closed) (step.job ∷ []) more ∙ e

pub parts_are_meant : PartsAreMeant
parts_are_meant main _ _ _ Here = record { events = refl; ending = refl; steps = refl; whole = tt }
parts_are_meant main _ _ _ (Shown line rest shown closed runs) =
    let part = parts_are_meant main (Shows line rest) shown closed runs in
    record {
      events = append_assoc shown (Line line ∷ []) (meaning_of rest).events ∙ part.events;
      ending = part.ending;
      steps = part.steps;
      whole = part.whole;
    }
parts_are_meant main _ _ _ (Closed job next shown closed history later runs whole left) =
    let part = parts_are_meant main (Opens job next) shown closed runs in
    let meant_so : meant job ≡ Ok later = left_is_meant job history (Ok later) whole left in
    record {
      events = append_assoc shown (step_event job later ∷ []) (meaning_of (next later)).events ∙ ap (λ r. shown ++ (going_on job r (λ later. meaning_of (next later))).events) (sym meant_so)
          ∙ part.events;
      ending = ap (λ r. (going_on job r (λ later. meaning_of (next later))).ending) (sym meant_so) ∙ part.ending;
      steps = steps_push main closed (record { job = job; history = history }) (steps_of (next later))
          (ap (λ r. jobs_in closed ++ job ∷ steps_behind r (λ later. steps_of (next later))) (sym meant_so) ∙ part.steps);
      whole = each_push IsWhole closed (record { job = job; history = history }) part.whole whole;
    }

pub runs_are_meant : RunsAreMeant
runs_are_meant main _ _ _ (Ended ending shown closed runs) =
    let part = parts_are_meant main (Ends ending) shown closed runs in
    record {
      events = sym (append-nil shown) ∙ part.events;
      ending = part.ending;
      steps = sym (append-nil (jobs_in closed)) ∙ part.steps;
      whole = part.whole;
    }
runs_are_meant main _ _ _ (Failed job next shown closed history fault runs whole left) =
    let part = parts_are_meant main (Opens job next) shown closed runs in
    let meant_so : meant job ≡ Err fault = left_is_meant job history (Err fault) whole left in
    record {
      events = sym (append-nil shown) ∙ ap (λ r. shown ++ (going_on job r (λ later. meaning_of (next later))).events) (sym meant_so) ∙ part.events;
      ending = ap (λ r. (going_on job r (λ later. meaning_of (next later))).ending) (sym meant_so) ∙ part.ending;
      steps = jobs_push closed (record { job = job; history = history }) ∙ ap (λ r. jobs_in closed ++ job ∷ steps_behind r (λ later. steps_of (next later))) (sym meant_so) ∙ part.steps;
      whole = each_push IsWhole closed (record { job = job; history = history }) part.whole whole;
    }

pub closed_steps_are_counted : ClosedStepsAreCounted
closed_steps_are_counted main _ _ _ before units Here numbered takes =
    let none : before ≡ before + 0 = omega arith in
    (subst (λ n. IsNumbered n main) none numbered, units, omega arith, takes)
closed_steps_are_counted main _ _ _ before units (Shown line rest shown closed runs) numbered takes =
    closed_steps_are_counted main (Shows line rest) shown closed before units runs numbered takes
closed_steps_are_counted main _ _ _ before units (Closed job next shown closed history later runs whole left) numbered takes =
    let so_far = closed_steps_are_counted main (Opens job next) shown closed before units runs numbered takes in
    let one : length (closed ++ record { job = job; history = history } ∷ []) ≡ length closed + 1 = length_push closed (record { job = job; history = history }) in
    let behind : suc (before + length closed) ≡ before + length (closed ++ record { job = job; history = history } ∷ []) = omega arith in
    (subst (λ n. IsNumbered n (next later)) behind (so_far.0.2 later), so_far.3.0, omega (arith, so_far.2, so_far.3.1), so_far.3.2 later)
