-- The steps of many routines.
use Rattle.std.proofs.Common.{◌≡◌, [], ◌∷◌, ℕ, ◌+◌, ◌<◌, ◌≤◌, length, pos, map, refl, sym, ap, ◌∙◌, arith, Some}
use Rattle.std.specs.Prelude.{slice_get}
use Rattle.std.specs.List.{range_with_len}
use Rattle.std.proofs.lemmas.List.FromFn.{get_or-map-range_with_len, length-map-range_with_len}
use Rattle.std.proofs.lemmas.Option.{slice_get-get_or}
use Rattle.cal_base.specs.declared.answer.Answer.{Answer}
use Rattle.cal_base.specs.Pages.{first_memory}
use Rattle.cal_base.specs.Claims.{size_of}
use Rattle.step_laws.specs.Rows.{one}
use Rattle.step_rows.specs.Steps.{many, each_its_own, all_to_one}

by_number : (f : ℕ → Answer) (n k : ℕ) → k < n → slice_get (map f (range_with_len 0 n)) k ≡ Some (f k)
by_number f n k within =
    slice_get-get_or (map f (range_with_len 0 n)) k (f k) (omega (arith, length-map-range_with_len f 0 n, within))
    ∙ ap (λ a. Some a) (get_or-map-range_with_len f 0 n k k (f k) within (omega arith))

pub many_is : 65536 ≡ many
unfolding many
many_is = refl

pub apart_answer : (n k : ℕ) → k < n → slice_get (each_its_own n).answers k ≡ Some (one k (pos 1))
unfolding each_its_own
apart_answer n k within = by_number (λ j. one j (pos 1)) n k within

pub apart_number : (n : ℕ) → 1 ≡ (each_its_own n).number
unfolding each_its_own
apart_number n = refl

pub apart_opening : (n : ℕ) → first_memory n [] [] ≡ (each_its_own n).opening
unfolding each_its_own
apart_opening n = refl

pub apart_size : (n : ℕ) → n ≡ size_of (each_its_own n)
unfolding each_its_own
apart_size n = sym (length-map-range_with_len (λ j. one j (pos 1)) 0 n)

pub together_answer : (n k : ℕ) → k < n → slice_get (all_to_one n).answers k ≡ Some (one 0 (pos 1))
unfolding all_to_one
together_answer n k within = by_number (λ j. one 0 (pos 1)) n k within

pub together_number : (n : ℕ) → 1 ≡ (all_to_one n).number
unfolding all_to_one
together_number n = refl

pub together_opening : (n : ℕ) → first_memory 1 (0 ∷ []) [] ≡ (all_to_one n).opening
unfolding all_to_one
together_opening n = refl

pub together_size : (n : ℕ) → n ≡ size_of (all_to_one n)
unfolding all_to_one
together_size n = sym (length-map-range_with_len (λ j. one 0 (pos 1)) 0 n)
