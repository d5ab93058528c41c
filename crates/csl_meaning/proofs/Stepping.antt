-- The meaning of a main, by what its steps leave.
use Rattle.std.proofs.Common.{◌≡◌, List, [], ◌∷◌, Result, Ok, refl, ap, ◌∙◌}
use Rattle.cal_base.specs.declared.ends.StepFault.{StepFault}
use Rattle.cal_base.specs.Memory.{Memory}
use Rattle.cal_base.specs.Claims.{StepJob, meant}
use Rattle.cal_base.specs.Main.{Main, Ends, Shows, Opens, Meaning, Line, showing, going_on, meaning_of, step_event}

-- the first step that is opened, if there is one
abbrev pub first_step : Main → StepJob
first_step (Ends ending) = record { number = 0; opening = []; answers = [] }
first_step (Shows line main) = first_step main
first_step (Opens job next) = job

-- what main does after its first step, where that leaves this memory
abbrev pub after_first : Memory → Main → Main
after_first later (Ends ending) = Ends ending
after_first later (Shows line main) = after_first later main
after_first later (Opens job next) = next later

-- the meaning, where the first steps leave these
abbrev pub meaning_with : List (Result Memory StepFault) → Main → Meaning
meaning_with [] main = meaning_of main
meaning_with (left ∷ others) (Ends ending) = meaning_of (Ends ending)
meaning_with (left ∷ others) (Shows line main) = showing (Line line) (meaning_with (left ∷ others) main)
meaning_with (left ∷ others) (Opens job next) = going_on job left (λ later. meaning_with others (next later))

-- the first step leaves this
pub step_leaves : (main : Main) (left : Result Memory StepFault) → meant (first_step main) ≡ left → meaning_of main ≡ meaning_with (left ∷ []) main
step_leaves (Ends ending) left is = refl
step_leaves (Shows line main) left is = ap (showing (Line line)) (step_leaves main left is)
step_leaves (Opens job next) left is = ap (λ r. going_on job r (λ later. meaning_of (next later))) is

-- the first two steps leave these
pub steps_leave : (main : Main) (first : Memory) (second : Result Memory StepFault) → meant (first_step main) ≡ Ok first → meant (first_step (after_first first main)) ≡ second
    → meaning_of main ≡ meaning_with (Ok first ∷ second ∷ []) main
steps_leave (Ends ending) first second is next_is = refl
steps_leave (Shows line main) first second is next_is = ap (showing (Line line)) (steps_leave main first second is next_is)
steps_leave (Opens job next) first second is next_is =
    ap (λ r. going_on job r (λ later. meaning_of (next later))) is ∙ ap (showing (step_event job first)) (step_leaves (next first) second next_is)
