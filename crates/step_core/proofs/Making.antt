-- A step begins with nothing.
use Rattle.std.proofs.Common.{◌≡◌, ℕ, zero, suc, ◌+◌, ◌≤◌, Bool, false, cond, List, [], ◌∷◌, length, replicate, get_or, refl, sym, ap, ◌∙◌, subst, arith, Some, None}
use Rattle.std.specs.List.{sum}
use Rattle.std.proofs.lemmas.List.{length-replicate, get_or-replicate}
use Rattle.cal_base.specs.declared.answer.Answer.{Answer}
use Rattle.cal_base.specs.Memory.{kinds_of}
use Rattle.cal_base.specs.Answers.{restricted_to}
use Rattle.cal_base.specs.After.{least_faulty}
use Rattle.cal_base.specs.History.{is_delivered}
use Rattle.cal_base.specs.Claims.{StepJob, size_of, claim_bound, arrival_bound, delivered}
use Rattle.step_laws.proofs.Agreement.{least_faulty_at, not_faulty_without, answer_of-restricted_to, length-restricted_to}
use Rattle.progress_table.specs.Progress.{Progress}
use Rattle.step_merge.specs.Staged.{Staged, StandsFor}
use Rattle.step_core.specs.Kept.{IsKept}

sum-replicate : (n : ℕ) → sum (replicate n 0) ≡ 0
sum-replicate zero = refl
sum-replicate (suc n) = omega (arith, sum-replicate n)

none_delivered : (test : ℕ → Bool) (answers : List Answer) → ((k : ℕ) → test k ≡ false) → replicate (length answers) None ≡ restricted_to test answers
none_delivered test [] none = refl
none_delivered test (answer ∷ answers) none =
    let here = none zero in
    let rest = none_delivered (λ k. test (suc k)) answers (λ k. none (suc k)) in
    λ i. cond (sym here i) (Some answer) None ∷ rest i

none_faulty_yet : (job : StepJob) → size_of job ≡ least_faulty (kinds_of job.opening) (delivered job [])
none_faulty_yet job =
    let size = length-restricted_to (is_delivered []) job.answers in
    sym
    (least_faulty_at (kinds_of job.opening) (delivered job []) (size_of job) (omega arith)
    (λ k h. not_faulty_without (kinds_of job.opening) (delivered job []) k (answer_of-restricted_to (is_delivered []) job.answers k))
    (λ h. absurd (omega arith)))

pub made_keeps : (job : StepJob) (table : Progress) (stage : Staged) (n number room : ℕ) → (◌≡◌ {A = Progress} table (record { claims = replicate n 0; done = replicate n false; bound = n }))
    → stage.kinds ≡ kinds_of job.opening → StandsFor stage (replicate n None) → n ≡ size_of job → n ≤ 65536 → number ≡ job.number
    → (claim_bound (size_of job) + size_of job) + (arrival_bound (size_of job) + size_of job) ≤ room → IsKept job table stage number 0 0 room []
made_keeps job table stage n number room is kinds stands size small numbered fits =
    let claims = ap (λ t. t.claims) is in
    let done = ap (λ t. t.done) is in
    record {
      size = ap (λ c. length c) claims ∙ (length-replicate n 0 ∙ size);
      flags = ap (λ d. length d) done ∙ (length-replicate n false ∙ size);
      small = omega arith;
      numbered = numbered;
      kinds_so = kinds;
      claimed_so = λ k l. ap (λ c. get_or c k 0) claims ∙ get_or-replicate n k 0 0 (omega arith);
      claimed_in_all = ap (λ c. sum c) claims ∙ sum-replicate n;
      done_so = λ k l. ap (λ d. get_or d k false) done ∙ get_or-replicate n k false false (omega arith);
      bounded = ap (λ t. t.bound) is ∙ (size ∙ none_faulty_yet job);
      laid_so = subst (StandsFor stage) (ap (λ m. replicate m None) size ∙ none_delivered (is_delivered []) job.answers (λ k. refl)) stands;
      claims_by_workers = refl;
      arrivals_by_workers = refl;
      has_room = fits;
      legal = tt;
    }
