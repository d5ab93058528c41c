-- Fuel and steps along a run.
use Rattle.std.proofs.Common.{◌≡◌, ℕ, zero, suc, ◌+◌, ◌-◌, ◌≤◌, List, [], ◌∷◌, Result, Ok, Err, refl, subst, arith, length, map, sum}
use Rattle.std.proofs.lemmas.List.{length-append}
use Rattle.std.proofs.lemmas.List.Sums.{sum_by-cons}
use Rattle.std.proofs.lemmas.List.FromFn.{length-map-range_with_len}
use Rattle.std.specs.List.{range_with_len}
use Rattle.cal_base.specs.declared.ends.Cause.{Cause}
use Rattle.cal_base.specs.declared.ends.StepFault.{StepFault}
use Rattle.cal_base.specs.declared.value.Store.{Store}
use Rattle.cal_base.specs.Memory.{Memory}
use Rattle.cal_base.specs.Stores.{memory_in, add_word}
use Rattle.cal_base.specs.Claims.{StepJob, size_of, meant}
use Rattle.cal_base.specs.Main.{steps_of, steps_behind, IsNumbered}
use Rattle.csl_tree.specs.declared.program.Program.{Program}
use Rattle.csl_tree.specs.declared.program.RoutineBlock.{RoutineBlock}
use Rattle.csl_meaning.specs.declared.state.World.{World}
use Rattle.csl_meaning.specs.Locals.{Locals}
use Rattle.csl_meaning.specs.Runs.{Outcome, Gives, Stops, ShowsLine, OpensStep, Run, and_then, ◌>>◌, spend, with_store}
use Rattle.csl_meaning.specs.Effect.{calls_to, most_levels}
use Rattle.csl_meaning.specs.Routines.{answer, answers}
use Rattle.csl_meaning.specs.Meaning.{open_step, in_main, first_world, run_of, main_of}
use Rattle.cal_base.specs.Widths.{most_routines}
use Rattle.csl_meaning.specs.Laws.{StepsAreNumbered, StepsAreBounded}
use Rattle.csl_meaning.proofs.Parts.{Always, OfParts, OfMainParts, ended, of_calls_to, of_statements, of_in_main}

-- from this much fuel and this many steps on: no fuel is made, each step takes a unit and has the next number, and none is too large
abbrev pub Counted : {A : Type 0} → ℕ → ℕ → Outcome A → Type 0
Counted fuel steps (Gives a w) = (w.fuel ≤ fuel) × (w.steps ≡ steps)
Counted fuel steps (Stops cause w) = (w.fuel ≤ fuel) × (w.steps ≡ steps)
Counted fuel steps (ShowsLine line rest) = Counted fuel steps rest
Counted fuel steps (OpensStep job rest) =
    (1 ≤ fuel) × (job.number ≡ suc steps) × (size_of job ≤ 65536) × ((later : Memory) → Counted (fuel - 1) (suc steps) (rest later))

abbrev pub Counts : (A : Type 0) → World → Outcome A → Type 0
Counts A w o = Counted w.fuel w.steps o

-- more fuel may have been there
pub more : {A : Type 0} (o : Outcome A) (m n steps : ℕ) → m ≤ n → Counted m steps o → Counted n steps o
more (Gives a w) m n steps le h = (omega arith, h.1)
more (Stops cause w) m n steps le h = (omega arith, h.1)
more (ShowsLine line rest) m n steps le h = more rest m n steps le h
more (OpensStep job rest) m n steps le h = (omega arith, h.1, h.2, λ later. more (rest later) (m - 1) (n - 1) (suc steps) (omega arith) (h.3 later))

pub then_counted : {A B : Type 0} (o : Outcome A) (next : A → Run B) (fuel steps : ℕ) → Counted fuel steps o → ((a : A) → Always Counts (next a)) → Counted fuel steps (and_then o next)
then_counted (Gives a w) next fuel steps h rest =
    subst (λ s. Counted fuel s (next a w)) h.1 (more (next a w) w.fuel fuel w.steps h.0 (rest a w))
then_counted (Stops cause w) next fuel steps h rest = h
then_counted (ShowsLine line o) next fuel steps h rest = then_counted o next fuel steps h rest
then_counted (OpensStep job o) next fuel steps h rest =
    (h.0, h.1, h.2, λ later. then_counted (o later) next (fuel - 1) (suc steps) (h.3 later) rest)

spend_counted : (k : ℕ) (w : World) → w.fuel ≡ k → Counted w.fuel w.steps (spend k w)
spend_counted zero w e = (omega arith, refl)
spend_counted (suc k) w e = (omega arith, refl)

store_counted : (r : Result Store Cause) (w : World) → Counted w.fuel w.steps (with_store r w)
store_counted (Ok s) w = (omega arith, refl)
store_counted (Err cause) w = (omega arith, refl)

pub counts : OfParts Counts
counts = record {
  of_pure = λ A a w. (omega arith, refl);
  of_stop = λ A cause w. (omega arith, refl);
  of_then = λ A B run next first rest w. then_counted (run w) next w.fuel w.steps (first w) rest;
  of_unit = λ w. spend_counted w.fuel w refl;
  of_read = λ address w. (omega arith, refl);
  of_write = λ address number w. (omega arith, refl);
  of_add = λ address number w. store_counted (add_word w.store address number) w;
}

-- ---- main's own statements

-- a step has as many routines as its widths say, or fewer where a block has no width
length_answers : (p : Program) (memory : Memory) (fuel : ℕ) (blocks : List RoutineBlock) (widths : List ℕ) → length (answers p memory fuel blocks widths) ≤ sum widths
length_answers p memory fuel [] [] = omega arith
length_answers p memory fuel [] (w ∷ widths) = omega arith
length_answers p memory fuel (block ∷ blocks) [] = omega arith
length_answers p memory fuel (block ∷ blocks) (w ∷ widths) =
    let own : length (map (λ id. answer p memory fuel block w id) (range_with_len 0 w)) ≡ w = length-map-range_with_len (λ id. answer p memory fuel block w id) 0 w in
    let both : length (answers p memory fuel (block ∷ blocks) (w ∷ widths)) ≡ length (map (λ id. answer p memory fuel block w id) (range_with_len 0 w)) + length
    (answers p memory fuel blocks widths) = length-append (map (λ id. answer p memory fuel block w id) (range_with_len 0 w)) (answers p memory fuel blocks widths) in
    let together : sum (w ∷ widths) ≡ w + sum widths = sum_by-cons (λ x. x) w widths in
    let others : length (answers p memory fuel blocks widths) ≤ sum widths = length_answers p memory fuel blocks widths in
    omega arith

opened_counted : (p : Program) (fuel : ℕ) (blocks : List RoutineBlock) (widths : List ℕ) (locals : Locals) → sum widths ≤ most_routines
    → (k : ℕ) (w : World) → w.fuel ≡ k → Counted w.fuel w.steps (and_then (spend k w) (λ _. open_step p fuel blocks widths >> ended locals))
opened_counted p fuel blocks widths locals few zero w e = (omega arith, refl)
opened_counted p fuel blocks widths locals few (suc k) w e =
    let many : length (answers p (memory_in w.store) fuel blocks widths) ≤ sum widths = length_answers p (memory_in w.store) fuel blocks widths in
    (omega arith, refl, omega arith, λ later. (omega arith, refl))

pub main_counts : (p : Program) (fuel : ℕ) → OfMainParts Counts p fuel
main_counts p fuel = record {
  of_show = λ line w. (omega arith, refl);
  of_opening = λ blocks widths locals few w. opened_counted p fuel blocks widths locals few w.fuel w refl;
}

-- ---- the whole run

pub run_counted : (p : Program) (fuel : ℕ) → Counted fuel 0 (run_of p fuel)
run_counted p fuel =
    of_statements Counts counts p (calls_to p most_levels) (of_calls_to Counts counts p most_levels) (in_main p fuel) (of_in_main Counts counts p fuel (main_counts p fuel)) p.main []
    (first_world p fuel)

numbered : {A : Type 0} (o : Outcome A) (fuel steps : ℕ) → Counted fuel steps o → IsNumbered steps (main_of o)
numbered (Gives a w) fuel steps h = tt
numbered (Stops cause w) fuel steps h = tt
numbered (ShowsLine line rest) fuel steps h = numbered rest fuel steps h
numbered (OpensStep job rest) fuel steps h = (h.1, h.2, λ later. numbered (rest later) (fuel - 1) (suc steps) (h.3 later))

length_behind : (r : Result Memory StepFault) (next : Memory → List StepJob) (n : ℕ) → ((later : Memory) → length (next later) ≤ n) → length (steps_behind r next) ≤ n
length_behind (Ok later) next n h = h later
length_behind (Err fault) next n h = omega arith

bounded : {A : Type 0} (o : Outcome A) (fuel steps : ℕ) → Counted fuel steps o → length (steps_of (main_of o)) ≤ fuel
bounded (Gives a w) fuel steps h = omega arith
bounded (Stops cause w) fuel steps h = omega arith
bounded (ShowsLine line rest) fuel steps h = bounded rest fuel steps h
bounded (OpensStep job rest) fuel steps h =
    let behind : length (steps_behind (meant job) (λ later. steps_of (main_of (rest later)))) ≤ fuel - 1 =
    length_behind (meant job) (λ later. steps_of (main_of (rest later))) (fuel - 1) (λ later. bounded (rest later) (fuel - 1) (suc steps) (h.3 later)) in
    let some : 1 ≤ fuel = h.0 in
    omega arith

pub steps_are_numbered : StepsAreNumbered
steps_are_numbered p fuel = numbered (run_of p fuel) fuel 0 (run_counted p fuel)

pub steps_are_bounded : StepsAreBounded
steps_are_bounded p fuel = bounded (run_of p fuel) fuel 0 (run_counted p fuel)
