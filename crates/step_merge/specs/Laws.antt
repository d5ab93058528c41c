-- Why a stage needs to keep no update.
use Rattle.std.specs.Prelude.{◌≡◌, ℕ, ◌<◌, Bool, ◌&&◌, ◌||◌, ◌==◌, nat_lt, if◌then◌else◌, min, max, IsTrue, IsFalse, length, is_some, ℤ}
use Rattle.std.specs.Prelude.{◌+ℤ◌, Option, Some, None}
use Rattle.cal_terms.specs.declared.kinds.WordKind.TheVariants.{Ordinary, Tally}
use Rattle.cal_base.specs.declared.ends.Cause.{Cause}
use Rattle.cal_base.specs.Numbers.{least_below}
use Rattle.cal_base.specs.Memory.{is_ordinary}
use Rattle.cal_base.specs.Answers.{Answers, answer_of, entry_in}
use Rattle.cal_base.specs.After.{first_writer, least_faulty, value_after}
use Rattle.step_merge.specs.Staged.{Staged, StandsFor, IsLeastPair, value_in}

-- the lesser of what was found, and the number of routines where nothing was
abbrev pub least_found : ℕ → Option (ℕ × ℕ) → Option (ℕ × Cause) → ℕ
least_found n None None = n
least_found n (Some pair) None = pair.0
least_found n None (Some failed) = failed.0
least_found n (Some pair) (Some failed) = min pair.0 failed.0

-- the least faulty number is the lesser of the candidate and of what failed
abbrev pub LeastIsKept : Type 0
LeastIsKept =
    (stage : Staged) (answers : Answers) → StandsFor stage answers
    → least_faulty stage.kinds answers ≡ least_found (length answers) stage.candidate stage.failed

-- and each word's value after the step is kept too: its owner's, or its own and the sum
abbrev pub ValueIsKept : Type 0
ValueIsKept =
    (stage : Staged) (answers : Answers) → StandsFor stage answers → (a : ℕ) (value : ℤ)
    → (IsTrue (is_ordinary stage.kinds a) → IsTrue (is_some (entry_in (answer_of answers (first_writer answers (length answers) a)) a))
    → value_after Ordinary answers a value ≡ value_in stage a)
    × (a < length stage.kinds → IsFalse (is_ordinary stage.kinds a) → value_after Tally answers a value ≡ value +ℤ value_in stage a)

-- ---- one writer more

-- number k and one below it both wrote
abbrev pub is_second : (ℕ → Bool) → ℕ → Bool
is_second wrote k = wrote k && nat_lt (least_below k wrote) k

-- x wrote now and not before; nobody else changed
pub record WritesToo (before now : ℕ → Bool) (x : ℕ) : Type 0 where
  pub was : IsFalse (before x)
  pub is : IsTrue (now x)
  pub others : (j : ℕ) → (j ≡ x → ⊥) → now j ≡ before j

-- the smaller of the new writer and the owner is the owner
abbrev pub OwnerRule : Type 0
OwnerRule =
    (n x : ℕ) (before now : ℕ → Bool) → x < n → WritesToo before now x
    → least_below n now ≡ min x (least_below n before)

-- and the larger is the one that is second now and was not before
abbrev pub CandidateRule : Type 0
CandidateRule =
    (n x : ℕ) (before now : ℕ → Bool) → x < n → WritesToo before now x
    → (k : ℕ) → k < n
    → is_second now k ≡ (is_second before k || (nat_lt (least_below n before) n && (k == max x (least_below n before))))

-- is the first pair less, by its first part and then by its second?
abbrev pub is_lesser : ℕ × ℕ → ℕ × ℕ → Bool
is_lesser p q = nat_lt p.0 q.0 || ((p.0 == q.0) && nat_lt p.1 q.1)

-- the lesser of the pair that was found, if one was, and another
abbrev pub lesser_pair : Option (ℕ × ℕ) → ℕ × ℕ → ℕ × ℕ
lesser_pair None pair = pair
lesser_pair (Some found) pair = if is_lesser pair found then pair else found

-- where one pair more passes, the least is the lesser of it and of the least before
abbrev pub CandidateKept : Type 0
CandidateKept =
    (n words : ℕ) (before now : ℕ → ℕ → Bool) (found : Option (ℕ × ℕ)) (pair : ℕ × ℕ)
    → pair.0 < n → pair.1 < words → IsLeastPair before n words found
    → ((k a : ℕ) → now k a ≡ (before k a || ((k == pair.0) && (a == pair.1))))
    → IsLeastPair now n words (Some (lesser_pair found pair))
