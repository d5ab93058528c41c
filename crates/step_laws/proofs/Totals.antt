-- The totals of a tally word.
use Rattle.std.proofs.Common.{◌≡◌, ℕ, zero, suc, ◌<◌, ◌≤◌, ℤ, pos, ◌+ℤ◌, [], ◌∷◌, length, set, replicate, refl, sym, ap, ◌∙◌, arith, Option, Some, None}
use Rattle.std.specs.Option.{unwrap_or}
use Rattle.std.specs.List.{fold}
use Rattle.std.proofs.lemmas.Int.{ints}
use Rattle.cal_terms.specs.declared.kinds.WordKind.TheVariants.{Tally}
use Rattle.cal_base.specs.declared.answer.Answer.{Answer}
use Rattle.cal_base.specs.Answers.{Answers, answer_of, entry_in}
use Rattle.cal_base.specs.After.{value_after}
use Rattle.step_laws.specs.Leaves.{addend, IsTotal, TotalsAreLaid}

abbrev pub add_from : ℕ → ℤ → Answers → ℤ
add_from a = fold (λ total answer. total +ℤ addend a answer)

shift_from : (answers : Answers) (a : ℕ) (x y : ℤ) → add_from a (x +ℤ y) answers ≡ x +ℤ add_from a y answers
shift_from [] a x y = refl
shift_from (answer ∷ answers) a x y =
    let e = addend a answer in
    let same : (x +ℤ y) +ℤ e ≡ x +ℤ (y +ℤ e) = omega (arith, ints) in
    ap (λ z. add_from a z answers) same ∙ shift_from answers a x (y +ℤ e)

-- a sum that begins at x is x more than one that begins at 0
pub shifted : (answers : Answers) (a : ℕ) (x : ℤ) → add_from a x answers ≡ x +ℤ add_from a (pos 0) answers
shifted answers a x =
    let same : x ≡ x +ℤ pos 0 = omega (arith, ints) in
    ap (λ z. add_from a z answers) same ∙ shift_from answers a x (pos 0)

-- one answer in place of one that adds nothing
pub sum_more : (xs : Answers) (k a : ℕ) (answer : Option Answer) (v : ℤ) → k < length xs → addend a (answer_of xs k) ≡ pos 0 → addend a answer ≡ v → (z : ℤ)
    → add_from a z (set xs k answer) ≡ add_from a z xs +ℤ v
sum_more [] k a answer v within was is z = absurd (omega arith)
sum_more (x ∷ xs) zero a answer v within was is z =
    let one = shifted xs a (z +ℤ addend a answer) in
    let two = shifted xs a (z +ℤ addend a x) in
    omega (arith, ints, one, two, was, is)
sum_more (x ∷ xs) (suc k) a answer v within was is z = sum_more xs k a answer v (omega arith) was is (z +ℤ addend a x)

-- where nobody has an entry, nothing is added
pub nothing_added : (answers : Answers) (a : ℕ) → ((j : ℕ) → entry_in (answer_of answers j) a ≡ None) → (z : ℤ) → add_from a z answers ≡ z
nothing_added [] a none z = refl
nothing_added (answer ∷ answers) a none z =
    let here : z +ℤ addend a answer ≡ z = omega (arith, ints, ap (λ o. unwrap_or o (pos 0)) (none 0)) in
    ap (λ x. add_from a x answers) here ∙ nothing_added answers a (λ j. none (suc j)) z

-- ---- answers, one after another

-- the first answers alone
upto : ℕ → Answers → Answers
upto zero [] = []
upto zero (x ∷ xs) = None ∷ upto zero xs
upto (suc m) [] = []
upto (suc m) (x ∷ xs) = x ∷ upto m xs

upto_none : (xs : Answers) → upto zero xs ≡ replicate (length xs) None
unfolding upto
upto_none [] = refl
upto_none (x ∷ xs) = let rest = upto_none xs in λ i. None ∷ rest i

upto_all : (m : ℕ) (xs : Answers) → length xs ≤ m → upto m xs ≡ xs
unfolding upto
upto_all zero [] le = refl
upto_all zero (x ∷ xs) le = absurd (omega arith)
upto_all (suc m) [] le = refl
upto_all (suc m) (x ∷ xs) le = let rest = upto_all m xs (omega arith) in λ i. x ∷ rest i

length-upto : (m : ℕ) (xs : Answers) → length (upto m xs) ≡ length xs
unfolding upto
length-upto zero [] = refl
length-upto zero (x ∷ xs) = ap suc (length-upto zero xs)
length-upto (suc m) [] = refl
length-upto (suc m) (x ∷ xs) = ap suc (length-upto m xs)

upto_next : (m : ℕ) (xs : Answers) → answer_of (upto m xs) m ≡ None
unfolding upto
upto_next zero [] = refl
upto_next zero (x ∷ xs) = refl
upto_next (suc m) [] = refl
upto_next (suc m) (x ∷ xs) = upto_next m xs

upto_more : (m : ℕ) (xs : Answers) (answer : Option Answer) → m < length xs → answer_of xs m ≡ answer → upto (suc m) xs ≡ set (upto m xs) m answer
unfolding upto
upto_more zero [] answer within is = absurd (omega arith)
upto_more zero (x ∷ xs) answer within is = λ i. is i ∷ upto zero xs
upto_more (suc m) [] answer within is = absurd (omega arith)
upto_more (suc m) (x ∷ xs) answer within is = let rest = upto_more m xs answer (omega arith) is in λ i. x ∷ rest i

upto_same : (m : ℕ) (xs : Answers) → answer_of xs m ≡ None → upto (suc m) xs ≡ upto m xs
unfolding upto
upto_same zero [] is = refl
upto_same zero (x ∷ xs) is = λ i. is i ∷ upto zero xs
upto_same (suc m) [] is = refl
upto_same (suc m) (x ∷ xs) is = let rest = upto_same m xs is in λ i. x ∷ rest i

no_answer : (n j : ℕ) → answer_of (replicate n None) j ≡ None
no_answer zero j = refl
no_answer (suc n) zero = refl
no_answer (suc n) (suc j) = no_answer n j

folds : (address : ℕ) (value : ℤ) → IsTotal address value (λ answers. value_after Tally answers address value)
folds address value = record {
  none = λ n. nothing_added (replicate n None) address (λ j. ap (λ o. entry_in o address) (no_answer n j)) value;
  more = λ answers k answer within free. sum_more answers k address (Some answer) (addend address (Some answer)) within (ap (λ o. addend address o) free) refl value;
}

-- two totals are one
module _ (address : ℕ) (value : ℤ) (f g : Answers → ℤ) (one : IsTotal address value f) (two : IsTotal address value g) (xs : Answers) where
  so_far : (m : ℕ) → m ≤ length xs → f (upto m xs) ≡ g (upto m xs)
  so_far zero le = ap f (upto_none xs) ∙ (one.none (length xs) ∙ (sym (two.none (length xs)) ∙ ap g (sym (upto_none xs))))
  so_far (suc m) le = by (so_far m (omega arith)) (answer_of xs m) refl
    where
      by : f (upto m xs) ≡ g (upto m xs) → (o : Option Answer) → answer_of xs m ≡ o → f (upto (suc m) xs) ≡ g (upto (suc m) xs)
      by before None is = ap f (upto_same m xs is) ∙ (before ∙ ap g (sym (upto_same m xs is)))
      by before (Some answer) is =
          let within : m < length (upto m xs) = omega (arith, length-upto m xs) in
          ap f (upto_more m xs (Some answer) (omega arith) is)
          ∙ (one.more (upto m xs) m answer within (upto_next m xs)
          ∙ (ap (λ z. z +ℤ addend address (Some answer)) before
          ∙ (sym (two.more (upto m xs) m answer within (upto_next m xs)) ∙ ap g (sym (upto_more m xs (Some answer) (omega arith) is)))))

  one_total : f xs ≡ g xs
  one_total = ap f (sym (upto_all (length xs) xs (omega arith))) ∙ (so_far (length xs) (omega arith) ∙ ap g (upto_all (length xs) xs (omega arith)))

pub totals_are_laid : TotalsAreLaid
totals_are_laid address value = (folds address value, λ total is answers. one_total address value total (λ xs. value_after Tally xs address value) is (folds address value) answers)
