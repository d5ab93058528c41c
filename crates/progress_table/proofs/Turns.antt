-- The cursor after a claim, and what it says.
use Rattle.std.proofs.Common.{◌≡◌, ℕ, ◌+◌, ◌<◌, ◌≤◌, Bool, true, false, cond, List, length, set, get_or, inl, inr, refl, sym, ap, ◌∙◌, subst, ⊎_elim, arith, Some, None, MatchOption}
use Rattle.std.proofs.lemmas.Bool.{cases_lt, cases_eq, both_ways, lt-ltb, le-ltb}
use Rattle.std.proofs.lemmas.List.{get_or-set_same, get_or-set_other}
use Rattle.cal_base.specs.Numbers.{lightest_below, IsLightest}
use Rattle.step_laws.proofs.Searches.{lightest_below-is}
use Rattle.progress_table.specs.Ring.{IsSeat, IsRing, IsCursor, turned_to}

module _ (n : ℕ) (wanted : ℕ → Bool) (claims next prev : List ℕ) (cursor : ℕ) (ring : IsRing n wanted next prev) (at : IsCursor n wanted claims cursor) where
  wanted_cursor : cursor < n → wanted cursor ≡ true
  wanted_cursor l = ⊎_elim (λ (e : cursor ≡ n). absurd (omega arith)) (λ (w : wanted cursor ≡ true). w) at.seat

  cursor_most : cursor ≤ n
  cursor_most = ⊎_elim (λ (e : cursor ≡ n). omega arith) (λ (w : wanted cursor ≡ true). omega (arith, ring.below cursor w)) at.seat

  -- the number at the cursor has the least pair of claims and number
  pub lightest_at : cursor < n → IsLightest n wanted (λ k. get_or claims k 0) cursor
  lightest_at l = record {
    within = l;
    passes = wanted_cursor l;
    least = λ j h w. omega (arith, at.turn j w);
    lowest = λ j h w light.
        ⊎_elim
        (λ (low : j < cursor).
        let more : get_or claims j 0 ≡ get_or claims cursor 0 + 1 = at.turn j w ∙ ap (λ b. get_or claims cursor 0 + cond b 1 0) (lt-ltb j cursor low) in
        absurd (omega (arith, more)))
        (λ (g : cursor ≤ j). g)
        (cases_lt j cursor);
  }

  pub least_at_cursor : cursor < n → lightest_below n wanted (λ k. get_or claims k 0) ≡ Some cursor
  least_at_cursor l =
      elim (lightest_below n wanted (λ k. get_or claims k 0)) as (λ o. MatchOption o ((j : ℕ) → j < n → wanted j ≡ false) (IsLightest n wanted (λ k. get_or claims k 0)) → o ≡ Some cursor) [
        | None ↦ λ none. absurd (both_ways (wanted cursor) (none cursor l) (wanted_cursor l))
        | Some k ↦ λ is.
            let light = lightest_at l in
            let one : cursor ≤ k = light.lowest k is.within is.passes (is.least cursor l (wanted_cursor l)) in
            let two : k ≤ cursor = is.lowest cursor l (wanted_cursor l) (light.least k is.within is.passes) in
            let same : k ≡ cursor = omega arith in
            ap (λ x. Some x) same
      ] (lightest_below-is n wanted (λ k. get_or claims k 0))

  pub none_at_end : n ≤ cursor → (j : ℕ) → wanted j ≡ false
  none_at_end g = at.none (omega (arith, cursor_most))

  pub least_at_end : n ≤ cursor → lightest_below n wanted (λ k. get_or claims k 0) ≡ None
  least_at_end g =
      elim (lightest_below n wanted (λ k. get_or claims k 0)) as (λ o. MatchOption o ((j : ℕ) → j < n → wanted j ≡ false) (IsLightest n wanted (λ k. get_or claims k 0)) → o ≡ None) [
        | None ↦ λ _. refl
        | Some k ↦ λ is. absurd (both_ways (wanted k) (none_at_end g k) is.passes)
      ] (lightest_below-is n wanted (λ k. get_or claims k 0))

  -- what is least wanted stands at the cursor
  pub at_cursor : (k : ℕ) → lightest_below n wanted (λ k. get_or claims k 0) ≡ Some k → cursor ≡ k
  at_cursor k is =
      ⊎_elim
      (λ (l : cursor < n). let both : Some cursor ≡ Some k = sym (least_at_cursor l) ∙ is in (cc both))
      (λ (g : n ≤ cursor). absurd (cc (least_at_end g, is)))
      (cases_lt cursor n)

  -- ---- a claim

  module _ (k : ℕ) (is : cursor ≡ k) (here : wanted k ≡ true) (size : length claims ≡ n) where
    after : ℕ
    after = get_or next k 0

    first_of : ℕ
    first_of = get_or next n 0

    within : k < n
    within = ring.below k here

    above : k < after
    unfolding after
    above = ring.ascends k here

    after_seat : IsSeat n wanted after
    unfolding after
    after_seat = ring.seat_next k (inr here)

    gap_k : (j : ℕ) → wanted j ≡ true → k < j → after ≤ j
    unfolding after
    gap_k j w l = ring.gap k j here w l

    first_seat : IsSeat n wanted first_of
    unfolding first_of
    first_seat = ring.seat_next n (inl refl)

    first_least : (j : ℕ) → wanted j ≡ true → first_of ≤ j
    unfolding first_of
    first_least j w = ring.first j w

    now : List ℕ
    now = set claims k (get_or claims k 0 + 1)

    now_at : get_or now k 0 ≡ get_or claims k 0 + 1
    unfolding now
    now_at = get_or-set_same claims k (get_or claims k 0 + 1) 0 (omega (arith, within))

    now_other : (j : ℕ) → (j ≡ k → ⊥) → get_or now j 0 ≡ get_or claims j 0
    unfolding now
    now_other j apart = get_or-set_other claims k j (get_or claims k 0 + 1) 0 apart

    at_k : get_or claims cursor 0 ≡ get_or claims k 0
    at_k = ap (λ i. get_or claims i 0) is

    -- up to k all have one more
    low_now : (j : ℕ) → wanted j ≡ true → j ≤ k → get_or now j 0 ≡ get_or claims k 0 + 1
    low_now j w le =
        ⊎_elim
        (λ (e : j ≡ k). ap (λ i. get_or now i 0) e ∙ now_at)
        (λ (apart : j ≡ k → ⊥).
        let turn : get_or claims j 0 ≡ get_or claims cursor 0 + 1 = at.turn j w ∙ ap (λ b. get_or claims cursor 0 + cond b 1 0) (lt-ltb j cursor (strictly apart)) in
        omega (arith, now_other j apart, turn, at_k))
        (cases_eq j k)
      where
        strictly : (j ≡ k → ⊥) → j < cursor
        strictly apart = ⊎_elim (λ (h : j < cursor). h) (λ (g : cursor ≤ j). absurd (apart (omega arith))) (cases_lt j cursor)

    -- above k they stay
    high_now : (j : ℕ) → wanted j ≡ true → k < j → get_or now j 0 ≡ get_or claims k 0
    high_now j w l =
        let turn : get_or claims j 0 ≡ get_or claims cursor 0 + 0 = at.turn j w ∙ ap (λ b. get_or claims cursor 0 + cond b 1 0) (le-ltb j cursor (omega arith)) in
        omega (arith, now_other j (λ e. omega arith), turn, at_k)

    moved_on : after < n → IsCursor n wanted now after
    moved_on l =
        let wanted_after : wanted after ≡ true = ⊎_elim (λ (e : after ≡ n). absurd (omega arith)) (λ (w : wanted after ≡ true). w) after_seat in
        let at_after = high_now after wanted_after above in
        record {
          seat = after_seat;
          none = λ e. absurd (omega arith);
          turn = λ j w.
              ⊎_elim
              (λ (h : k < j). omega (arith, high_now j w h, at_after, ap {B = ℕ} (λ b. cond b 1 0) (le-ltb j after (gap_k j w h))))
              (λ (g : j ≤ k). omega (arith, low_now j w g, at_after, ap {B = ℕ} (λ b. cond b 1 0) (lt-ltb j after (omega (arith, above)))))
              (cases_lt k j);
        }

    all_low : n ≤ after → (j : ℕ) → wanted j ≡ true → j ≤ k
    all_low last j w =
        ⊎_elim (λ (h : k < j). absurd (omega (arith, gap_k j w h, ring.below j w))) (λ (g : j ≤ k). g) (cases_lt k j)

    moved_round : n ≤ after → IsCursor n wanted now first_of
    moved_round last =
        let least : first_of ≤ k = first_least k here in
        let there : wanted first_of ≡ true = ⊎_elim (λ (e : first_of ≡ n). absurd (omega (arith, within))) (λ (w : wanted first_of ≡ true). w) first_seat in
        record {
          seat = first_seat;
          none = λ e. absurd (omega (arith, within));
          turn = λ j w. omega (arith, low_now j w (all_low last j w), low_now first_of there least, ap {B = ℕ} (λ b. cond b 1 0) (le-ltb j first_of (first_least j w)));
        }

    moved : IsCursor n wanted now (turned_to n after first_of)
    moved =
        ⊎_elim
        (λ (l : after < n). subst (λ c. IsCursor n wanted now c) (ap (λ b. cond b after first_of) (sym (lt-ltb after n l))) (moved_on l))
        (λ (g : n ≤ after). subst (λ c. IsCursor n wanted now c) (ap (λ b. cond b after first_of) (sym (le-ltb after n g))) (moved_round g))
        (cases_lt after n)

    pub claimed : IsCursor n wanted (set claims k (get_or claims k 0 + 1)) (turned_to n (get_or next k 0) (get_or next n 0))
    unfolding now after first_of
    claimed = moved
