-- A stage begins with nothing.
use Rattle.std.proofs.Common.{◌≡◌, ℕ, zero, suc, ◌^◌, ◌<◌, ◌≤◌, pos, true, false, ◌&&◌, ltb, length, replicate, get_or, List, refl, sym, ap, ◌∙◌, arith, Option, None}
use Rattle.std.specs.Prelude.{is_some}
use Rattle.std.proofs.lemmas.Int.{ints}
use Rattle.std.proofs.lemmas.List.{length-replicate, get_or-replicate}
use Rattle.cal_terms.specs.declared.kinds.WordKind.{WordKind}
use Rattle.cal_base.specs.Arithmetic.{fits_word}
use Rattle.cal_base.specs.Memory.{is_ordinary}
use Rattle.cal_base.specs.declared.answer.Answer.{Answer}
use Rattle.cal_base.specs.Answers.{answer_of, entry_in, is_fault}
use Rattle.cal_base.specs.After.{first_writer, is_shared}
use Rattle.step_laws.proofs.Searches.{least_at}
use Rattle.step_merge.specs.Staged.{Staged, StandsFor, addend}
use Rattle.step_merge.specs.Steps.{IsSound}
use Rattle.step_laws.proofs.Totals.{nothing_added}

no_flag : (n k : ℕ) → get_or (replicate n false) k false ≡ false
no_flag zero k = refl
no_flag (suc n) zero = refl
no_flag (suc n) (suc k) = no_flag n k

no_answer : (n k : ℕ) → answer_of (replicate n None) k ≡ None
no_answer zero k = refl
no_answer (suc n) zero = refl
no_answer (suc n) (suc k) = no_answer n k

no_value : (n k : ℕ) → get_or (replicate n (pos 0)) k (pos 0) ≡ pos 0
no_value zero k = refl
no_value (suc n) zero = refl
no_value (suc n) (suc k) = no_value n k

abbrev first_stage : List WordKind → ℕ → ℕ → Staged
first_stage kinds words n = record { kinds = kinds; laid = replicate n false; owners = replicate words n; values = replicate words (pos 0); candidate = None; failed = None }

module _ (kinds : List WordKind) (words n : ℕ) (size : length kinds ≡ words) where
  none_writes : (j a : ℕ) → entry_in (answer_of (replicate n None) j) a ≡ None
  none_writes j a = ap (λ o. entry_in o a) (no_answer n j)

  pub made_empty : StandsFor (first_stage kinds words n) (replicate n None)
  made_empty = record {
    size = length-replicate n false ∙ sym (length-replicate {A = Option Answer} n None);
    flags = λ k. no_flag n k ∙ sym (ap (λ o. is_some o) (no_answer n k));
    owner = λ a h.
        get_or-replicate words a n (length (replicate n false)) (omega arith)
        ∙ (sym (length-replicate {A = Option Answer} n None)
        ∙ sym (least_at (length (replicate {A = Option Answer} n None)) (λ j. is_some (entry_in (answer_of (replicate n None) j) a)) (length (replicate {A = Option Answer} n None)) (omega arith)
        (λ j _. ap (λ o. is_some o) (none_writes j a)) (λ h. absurd (omega arith))));
    value = λ a _. no_value words a ∙ sym (ap (λ o. addend a o) (no_answer n (first_writer (replicate n None) (length (replicate {A = Option Answer} n None)) a)));
    sum = λ a _ _. no_value words a ∙ sym (nothing_added (replicate n None) a (λ j. none_writes j a) (pos 0));
    candidate = λ k a _ _. unshared k a;
    failed = λ k. ap is_fault (no_answer n k);
  }
    where
      unshared : (k a : ℕ) → is_shared kinds (replicate n None) k a ≡ false
      unshared k a =
          ap (λ o. is_ordinary kinds a && (is_some o && ltb (first_writer (replicate n None) k a) k)) (none_writes k a)
          ∙ (elim (is_ordinary kinds a) as (λ b. (b && false) ≡ false) [ true ↦ refl | false ↦ refl ])

  pub made_sound : words ≤ 262144 → n < 2 ^ 32 → IsSound (first_stage kinds words n)
  made_sound few small = record {
    words = omega arith;
    numbers = omega (arith, length-replicate n false);
    owners = length-replicate words n ∙ sym size;
    values = length-replicate words (pos 0) ∙ sym size;
    candidate = λ p is. absurd (cc);
    failed = λ f is. absurd (cc);
    one = λ a _. fits a;
    bounded = λ a. record { high = omega (arith, ints, no_value words a); low = omega (arith, ints, no_value words a) };
  }
    where
      fits : (a : ℕ) → fits_word (get_or (replicate words (pos 0)) a (pos 0)) ≡ true
      fits a = ap fits_word (no_value words a)
