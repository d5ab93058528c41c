-- The routines of a job, by their numbers.
use Rattle.std.proofs.Common.{◌≡◌, ℕ, ◌+◌, ◌<◌, ◌≤◌, List, length, drop, sum, Some, sym, ap, subst, ◌∙◌, arith, length-drop}
use Rattle.std.specs.Prelude.{slice_get, slice_index_or}
use Rattle.std.proofs.lemmas.List.{length-take-le, get_or-take, get_or-drop}
use Rattle.std.proofs.lemmas.Option.{slice_get-get_or, slice_get_within}
use Rattle.cal_base.specs.declared.ends.RoutineEnd.{RoutineEnd}
use Rattle.cal_base.specs.Answers.{answer_by}
use Rattle.cal_base.specs.Memory.{Memory}
use Rattle.cal_base.specs.Updates.{Written}
use Rattle.cal_base.specs.Claims.{StepJob, size_of}
use Rattle.bytecode.specs.declared.module.Code.{Code}
use Rattle.bytecode.specs.declared.module.Module.{Module}
use Rattle.machine_meaning.specs.Meaning.{blocks_of, answered, routine_outcome}
use Rattle.routine_vm.specs.Held.{IsOutcome}
use Rattle.engine_laws.specs.Steps.{step_job}
use Rattle.engine_laws.proofs.Answers.{answers_are_all, answers_go_by_blocks}
use Rattle.routine_executor.specs.declared.place.Place.{Place}
use Rattle.routine_executor.specs.Places.{IsPlace}

-- as many blocks as there are widths
length_blocks : (m : Module) (first n : ℕ) → first + n ≤ length m.blocks → length (blocks_of m first n) ≡ n
length_blocks m first n there = length-take-le n (drop first m.blocks) (omega (arith, length-drop first m.blocks))

module _ (m : Module) (fuel number : ℕ) (opening : Memory) (first : ℕ) (widths : List ℕ) (there : first + length widths ≤ length m.blocks) where
  -- a job has as many routines as its widths sum to
  pub size_is : size_of (step_job m fuel number opening first widths) ≡ sum widths
  size_is = answers_are_all m fuel opening (blocks_of m first (length widths)) widths (length_blocks m first (length widths) there)

  block_at : (i : ℕ) → i < length widths → slice_get (blocks_of m first (length widths)) i ≡ Some (slice_index_or m.blocks (first + i) m.main)
  block_at i lt =
      slice_get-get_or (blocks_of m first (length widths)) i m.main (omega (arith, length_blocks m first (length widths) there))
      ∙ ap (λ (c : Code). Some c) (get_or-take (length widths) (drop first m.blocks) i m.main lt ∙ get_or-drop first m.blocks i m.main)

  -- the answer of a number is that of the routine at its place
  answer_at : (k : ℕ) (place : Place) → IsPlace widths k place
      → slice_get (step_job m fuel number opening first widths).answers k ≡ Some (answered (routine_outcome m (slice_index_or m.blocks (first + place.block) m.main) place.width place.id opening fuel))
  answer_at k place is =
      ap (λ (j : ℕ). slice_get (step_job m fuel number opening first widths).answers j) is.number
      ∙ answers_go_by_blocks m fuel opening (blocks_of m first (length widths)) widths place.block place.id place.width (slice_index_or m.blocks (first + place.block) m.main)
      (block_at place.block (slice_get_within widths place.block place.width is.block)) is.block is.within

-- a number of the job is a number of its widths
pub number_there : (job : StepJob) (m : Module) (fuel number : ℕ) (opening : Memory) (first : ℕ) (widths : List ℕ) (k : ℕ) → job ≡ step_job m fuel number opening first widths
    → first + length widths ≤ length m.blocks
    → k < size_of job → k < sum widths
number_there job m fuel number opening first widths k named there lt = omega (arith, lt, ap size_of named, size_is m fuel number opening first widths there)

-- the block of a number is there
pub block_there : (m : Module) (first : ℕ) (widths : List ℕ) (k : ℕ) (place : Place) → first + length widths ≤ length m.blocks → IsPlace widths k place → first + place.block < length m.blocks
block_there m first widths k place there is = omega (arith, slice_get_within widths place.block place.width is.block)

-- what the machine makes of a routine of the job is its answer
pub routine_answers : (job : StepJob) (m : Module) (fuel number : ℕ) (opening opened : Memory) (first : ℕ) (widths : List ℕ) (k : ℕ) (place : Place) → job ≡ step_job m fuel number opening first widths
    → first + length widths ≤ length m.blocks → IsPlace widths k place → opened ≡ opening → (ended : RoutineEnd) (written held : Written)
    → IsOutcome (routine_outcome m (slice_index_or m.blocks (first + place.block) m.main) place.width place.id opened fuel) ended written → held ≡ written
    → slice_get job.answers k ≡ Some (answer_by ended held)
routine_answers job m fuel number opening opened first widths k place named there is same ended written held outcome kept =
    let so : IsOutcome (routine_outcome m (slice_index_or m.blocks (first + place.block) m.main) place.width place.id opening fuel) ended written =
    subst (λ (o : Memory). IsOutcome (routine_outcome m (slice_index_or m.blocks (first + place.block) m.main) place.width place.id o fuel) ended written) same outcome
    in
    ap (λ (j : StepJob). slice_get j.answers k) named
    ∙ answer_at m fuel number opening first widths there k place is
    ∙ (λ i. Some (answer_by (so.ended i) (so.wrote i)))
    ∙ ap (λ (w : Written). Some (answer_by ended w)) (sym kept)
