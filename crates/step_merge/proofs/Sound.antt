-- What a stage holds still fits together after a word got another value.
use Rattle.std.proofs.Common.{◌≡◌, ℕ, ◌*◌, ◌^◌, ◌<◌, ◌≤◌, ℤ, pos, ◌+ℤ◌, ◌≤ℤ◌, true, length, set, sym, ap, ◌∙◌, subst, ⊎_elim, arith}
use Rattle.std.proofs.lemmas.Bool.{cases_eq}
use Rattle.std.proofs.lemmas.List.{length-set, get_or-set_same, get_or-set_other}
use Rattle.cal_base.specs.Arithmetic.{fits_word}
use Rattle.cal_base.specs.Memory.{is_ordinary}
use Rattle.std.proofs.lemmas.Int.{ints}
use Rattle.std.proofs.lemmas.List.Sums.{count_by-le-length}
use Rattle.step_merge.specs.Staged.{Staged, value_in}
use Rattle.step_merge.specs.Steps.{IsSound, IsBounded, laid_count}

-- the values need no more than 96 bits
pub high_bound : (stage : Staged) (a : ℕ) → IsSound stage → value_in stage a ≤ℤ pos (2 ^ 95)
high_bound stage a sound =
    let most = count_by-le-length (λ b. b) stage.laid in
    let few : 2 ^ 63 * laid_count stage.laid ≤ 2 ^ 95 = omega (arith, most, sound.numbers) in
    omega (arith, ints, (sound.bounded a).high, few)

pub low_bound : (stage : Staged) (a : ℕ) → IsSound stage → pos 0 ≤ℤ (value_in stage a +ℤ pos (2 ^ 95))
low_bound stage a sound =
    let most = count_by-le-length (λ b. b) stage.laid in
    let few : 2 ^ 63 * laid_count stage.laid ≤ 2 ^ 95 = omega (arith, most, sound.numbers) in
    omega (arith, ints, (sound.bounded a).low, few)

module _ (stage : Staged) (a : ℕ) (v : ℤ) (sound : IsSound stage) (word : a < length stage.kinds)
    (ordinary : is_ordinary stage.kinds a ≡ true → fits_word v ≡ true) (high : v ≤ℤ pos (2 ^ 63 * laid_count stage.laid)) (low : pos 0 ≤ℤ (v +ℤ pos (2 ^ 63 * laid_count stage.laid))) where
  abbrev next : Staged
  next = record stage { values = set stage.values a v }

  here : value_in next a ≡ v
  here = get_or-set_same stage.values a v (pos 0) (subst (λ n. a < n) (sym sound.values) word)

  there : (b : ℕ) → (b ≡ a → ⊥) → value_in next b ≡ value_in stage b
  there b apart = get_or-set_other stage.values a b v (pos 0) apart

  fits_now : (b : ℕ) → is_ordinary stage.kinds b ≡ true → fits_word (value_in next b) ≡ true
  fits_now b is =
      ⊎_elim
      (λ (same : b ≡ a). ap (λ i. fits_word (value_in next i)) same ∙ (ap fits_word here ∙ ordinary (ap (λ i. is_ordinary stage.kinds i) (sym same) ∙ is)))
      (λ (apart : b ≡ a → ⊥). ap fits_word (there b apart) ∙ sound.one b is)
      (cases_eq b a)

  bounded_now : (b : ℕ) → IsBounded next b
  bounded_now b =
      ⊎_elim
      (λ (same : b ≡ a).
      let is : v ≡ value_in next b = sym here ∙ ap (λ i. value_in next i) (sym same) in
      record { high = subst (λ z. z ≤ℤ pos (2 ^ 63 * laid_count stage.laid)) is high; low = subst (λ z. pos 0 ≤ℤ (z +ℤ pos (2 ^ 63 * laid_count stage.laid))) is low })
      (λ (apart : b ≡ a → ⊥).
      let is : value_in stage b ≡ value_in next b = sym (there b apart) in
      record { high = subst (λ z. z ≤ℤ pos (2 ^ 63 * laid_count stage.laid)) is (sound.bounded b).high; low = subst (λ z. pos 0 ≤ℤ (z +ℤ pos (2 ^ 63 * laid_count stage.laid))) is (sound.bounded b).low })
      (cases_eq b a)

  pub sound_value : IsSound (record stage { values = set stage.values a v })
  sound_value = record {
    words = sound.words;
    numbers = sound.numbers;
    owners = sound.owners;
    values = length-set stage.values a v ∙ sound.values;
    candidate = sound.candidate;
    failed = sound.failed;
    one = fits_now;
    bounded = bounded_now;
  }
