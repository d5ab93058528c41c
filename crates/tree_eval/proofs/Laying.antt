-- The answers that are laid so far.
use Rattle.std.proofs.Common.{◌≡◌, ℕ, zero, suc, ◌+◌, ◌<◌, [], ◌∷◌, length, get_or, replicate, Option, None, Some, refl, ap, ◌∙◌, subst, arith, add-one}
use Rattle.std.specs.Prelude.{is_some, slice_set}
use Rattle.cal_base.specs.declared.answer.Answer.{Answer}
use Rattle.cal_base.specs.Answers.{Answers, answer_of}
use Rattle.step_merge.specs.Staged.{Staged, StandsFor, LaysAt, IsFree, size_of}
use Rattle.tree_eval.specs.Merged.{LaysOne}

-- the answers of the numbers below this one; the others have none yet
abbrev pub first_answers : ℕ → Answers → Answers
first_answers zero [] = []
first_answers zero (answer ∷ answers) = None ∷ first_answers zero answers
first_answers (suc k) [] = []
first_answers (suc k) (answer ∷ answers) = answer ∷ first_answers k answers

pub none_laid : (answers : Answers) → replicate (length answers) None ≡ first_answers 0 answers
none_laid [] = refl
none_laid (answer ∷ answers) = let rest = none_laid answers in λ i. None ∷ rest i

pub all_laid : (k : ℕ) (answers : Answers) → k ≡ length answers → first_answers k answers ≡ answers
all_laid zero [] e = refl
all_laid zero (answer ∷ answers) e = absurd (omega arith)
all_laid (suc k) [] e = absurd (omega arith)
all_laid (suc k) (answer ∷ answers) e = let rest = all_laid k answers (omega arith) in λ i. answer ∷ rest i

pub as_many : (k : ℕ) (answers : Answers) → length (first_answers k answers) ≡ length answers
as_many zero [] = refl
as_many zero (answer ∷ answers) = ap suc (as_many zero answers)
as_many (suc k) [] = refl
as_many (suc k) (answer ∷ answers) = ap suc (as_many k answers)

pub next_is_free : (k : ℕ) (answers : Answers) → answer_of (first_answers k answers) k ≡ None
next_is_free zero [] = refl
next_is_free zero (answer ∷ answers) = refl
next_is_free (suc k) [] = refl
next_is_free (suc k) (answer ∷ answers) = next_is_free k answers

one_further : (k : ℕ) (answers : Answers) (answer : Option Answer) → k < length answers → answer ≡ get_or answers k answer
    → slice_set (first_answers k answers) k answer ≡ first_answers (suc k) answers
one_further k [] answer within is = absurd (omega arith)
one_further zero (a ∷ answers) answer within is = λ i. is i ∷ first_answers zero answers
one_further (suc k) (a ∷ answers) answer within is = let rest = one_further k answers answer (omega arith) is in λ i. a ∷ rest i

pub one_more : (k : ℕ) (answers : Answers) (answer : Option Answer) → k < length answers → answer ≡ get_or answers k answer
    → slice_set (first_answers k answers) k answer ≡ first_answers (k + 1) answers
one_more k answers answer within is = rw add-one (one_further k answers answer within is)

-- to lay nothing changes nothing
pub none_laid_there : (k : ℕ) (answers : Answers) → answer_of answers k ≡ None → answers ≡ slice_set answers k None
none_laid_there k [] e = refl
none_laid_there zero (a ∷ answers) e = λ i. e i ∷ answers
none_laid_there (suc k) (a ∷ answers) e = let rest = none_laid_there k answers e in λ i. a ∷ rest i

pub lays_none : (stage : Staged) (k : ℕ) → LaysOne stage stage k None
lays_none stage k answers free stands = subst (StandsFor stage) (none_laid_there k answers free) stands

pub lays_some : (before later : Staged) (k : ℕ) (answer : Answer) (given : Option Answer) → Some answer ≡ given → LaysAt before later k answer → LaysOne before later k given
lays_some before later k answer given is lays answers free stands = subst (λ (o : Option Answer). StandsFor later (slice_set answers k o)) is (lays.lays answers stands)

module _ (stage : Staged) (answers : Answers) (k : ℕ) (stands : StandsFor stage (first_answers k answers)) where
  pub has_size : size_of stage ≡ length answers
  has_size = stands.size ∙ as_many k answers

  pub is_free : IsFree stage k
  is_free = stands.flags k ∙ ap is_some (next_is_free k answers)
