-- A ring after a number left it.
use Rattle.std.proofs.Common.{◌≡◌, ℕ, ◌+◌, ◌<◌, ◌≤◌, Bool, true, false, cond, ltb, eqb, List, set, get_or, inl, inr, refl, sym, ap, ◌∙◌, subst, ⊎_elim, arith}
use Rattle.std.proofs.lemmas.Bool.{cases_lt, cases_eq, both_ways, lt-ltb, le-ltb, eq-eqb, ne_eqb}
use Rattle.std.proofs.lemmas.List.{length-set, get_or-set_same, get_or-set_other}
use Rattle.progress_table.specs.Ring.{IsSeat, IsRing, IsCursor, turned_to, cursor_without}

-- a seat is no further than the end
pub seat_most : (n : ℕ) (wanted : ℕ → Bool) (next prev : List ℕ) → IsRing n wanted next prev → (i : ℕ) → IsSeat n wanted i → i ≤ n
seat_most n wanted next prev ring i seat = ⊎_elim (λ (e : i ≡ n). omega arith) (λ (w : wanted i ≡ true). omega (arith, ring.below i w)) seat

module _ (n : ℕ) (wanted : ℕ → Bool) (claims next prev : List ℕ) (cursor : ℕ) (ring : IsRing n wanted next prev) (at : IsCursor n wanted claims cursor) (k : ℕ) (here : wanted k ≡ true) where
  before : ℕ
  before = get_or prev k 0

  after : ℕ
  after = get_or next k 0

  seat_k : IsSeat n wanted k
  seat_k = inr here

  within : k < n
  within = ring.below k here

  after_seat : IsSeat n wanted after
  unfolding after
  after_seat = ring.seat_next k seat_k

  before_seat : IsSeat n wanted before
  unfolding before
  before_seat = ring.seat_prev k seat_k

  above : k < after
  unfolding after
  above = ring.ascends k here

  after_most : after ≤ n
  after_most = seat_most n wanted next prev ring after after_seat

  before_most : before ≤ n
  before_most = seat_most n wanted next prev ring before before_seat

  to_k : get_or next before 0 ≡ k
  unfolding before
  to_k = ring.forth k seat_k

  from_k : get_or prev after 0 ≡ k
  unfolding after
  from_k = ring.back k seat_k

  after_is : get_or next k 0 ≡ after
  unfolding after
  after_is = refl

  before_other : before ≡ k → ⊥
  before_other e = let same : k ≡ after = sym to_k ∙ (ap (λ i. get_or next i 0) e ∙ after_is) in omega (arith, above)

  -- a number below k has at most k behind it
  below_before : before < n → before < k
  below_before l = ⊎_elim (λ (e : before ≡ n). absurd (omega arith)) (λ (w : wanted before ≡ true). let up = ring.ascends before w in omega (arith, to_k)) before_seat

  gap_k : (j : ℕ) → wanted j ≡ true → k < j → after ≤ j
  unfolding after
  gap_k j w l = ring.gap k j here w l

  -- ---- the ring without k

  next_now : List ℕ
  next_now = set next before after

  prev_now : List ℕ
  prev_now = set prev after before

  next_at : get_or next_now before 0 ≡ after
  unfolding next_now
  next_at = get_or-set_same next before after 0 (omega (arith, ring.nexts, before_most))

  next_other : (i : ℕ) → (i ≡ before → ⊥) → get_or next_now i 0 ≡ get_or next i 0
  unfolding next_now
  next_other i apart = get_or-set_other next before i after 0 apart

  prev_at : get_or prev_now after 0 ≡ before
  unfolding prev_now
  prev_at = get_or-set_same prev after before 0 (omega (arith, ring.prevs, after_most))

  prev_other : (i : ℕ) → (i ≡ after → ⊥) → get_or prev_now i 0 ≡ get_or prev i 0
  unfolding prev_now
  prev_other i apart = get_or-set_other prev after i before 0 apart

  module _ (less : ℕ → Bool) (off : less k ≡ false) (others : (j : ℕ) → (j ≡ k → ⊥) → less j ≡ wanted j) where
    was : (j : ℕ) → less j ≡ true → wanted j ≡ true
    was j w =
        ⊎_elim
        (λ (e : j ≡ k). absurd (both_ways (less k) off (ap less (sym e) ∙ w)))
        (λ (apart : j ≡ k → ⊥). sym (others j apart) ∙ w)
        (cases_eq j k)

    not_k : (j : ℕ) → less j ≡ true → j ≡ k → ⊥
    not_k j w e = both_ways (less k) off (ap less (sym e) ∙ w)

    seat_was : (i : ℕ) → IsSeat n less i → IsSeat n wanted i
    seat_was i seat = ⊎_elim (λ (e : i ≡ n). inl e) (λ (w : less i ≡ true). inr (was i w)) seat

    seat_not_k : (i : ℕ) → IsSeat n less i → i ≡ k → ⊥
    seat_not_k i seat e = ⊎_elim (λ (end : i ≡ n). omega (arith, within)) (λ (w : less i ≡ true). not_k i w e) seat

    seat_still : (i : ℕ) → IsSeat n wanted i → (i ≡ k → ⊥) → IsSeat n less i
    seat_still i seat apart = ⊎_elim (λ (e : i ≡ n). inl e) (λ (w : wanted i ≡ true). inr (others i apart ∙ w)) seat

    -- who has k behind it is the one before k
    only_before : (i : ℕ) → IsSeat n wanted i → get_or next i 0 ≡ k → i ≡ before
    unfolding before
    only_before i seat e = sym (ring.back i seat) ∙ ap (λ x. get_or prev x 0) e

    -- who has k before it is the one after k
    only_after : (i : ℕ) → IsSeat n wanted i → get_or prev i 0 ≡ k → i ≡ after
    unfolding after
    only_after i seat e = sym (ring.forth i seat) ∙ ap (λ x. get_or next x 0) e

    -- what has the seat behind k behind it is k
    only_k : (i : ℕ) → IsSeat n wanted i → get_or next i 0 ≡ after → i ≡ k
    only_k i seat e = sym (ring.back i seat) ∙ (ap (λ x. get_or prev x 0) e ∙ from_k)

    -- and before it too
    only_k_back : (i : ℕ) → IsSeat n wanted i → get_or prev i 0 ≡ before → i ≡ k
    only_k_back i seat e = sym (ring.forth i seat) ∙ (ap (λ x. get_or next x 0) e ∙ to_k)

    seat_next_now : (i : ℕ) → IsSeat n less i → IsSeat n less (get_or next_now i 0)
    seat_next_now i seat =
        ⊎_elim
        (λ (e : i ≡ before).
        let is : get_or next_now i 0 ≡ after = ap (λ x. get_or next_now x 0) e ∙ next_at in
        subst (λ x. IsSeat n less x) (sym is) (seat_still after after_seat (λ e. omega (arith, above))))
        (λ (apart : i ≡ before → ⊥).
        subst (λ x. IsSeat n less x) (sym (next_other i apart))
        (seat_still (get_or next i 0) (ring.seat_next i (seat_was i seat)) (λ e. apart (only_before i (seat_was i seat) e))))
        (cases_eq i before)

    seat_prev_now : (i : ℕ) → IsSeat n less i → IsSeat n less (get_or prev_now i 0)
    seat_prev_now i seat =
        ⊎_elim
        (λ (e : i ≡ after).
        let is : get_or prev_now i 0 ≡ before = ap (λ x. get_or prev_now x 0) e ∙ prev_at in
        subst (λ x. IsSeat n less x) (sym is) (seat_still before before_seat before_other))
        (λ (apart : i ≡ after → ⊥).
        subst (λ x. IsSeat n less x) (sym (prev_other i apart))
        (seat_still (get_or prev i 0) (ring.seat_prev i (seat_was i seat)) (λ e. apart (only_after i (seat_was i seat) e))))
        (cases_eq i after)

    back_now : (i : ℕ) → IsSeat n less i → get_or prev_now (get_or next_now i 0) 0 ≡ i
    back_now i seat =
        ⊎_elim
        (λ (e : i ≡ before). ap (λ x. get_or prev_now x 0) (ap (λ x. get_or next_now x 0) e ∙ next_at) ∙ (prev_at ∙ sym e))
        (λ (apart : i ≡ before → ⊥).
        ap (λ x. get_or prev_now x 0) (next_other i apart)
        ∙ (prev_other (get_or next i 0) (λ e. seat_not_k i seat (only_k i (seat_was i seat) e)) ∙ ring.back i (seat_was i seat)))
        (cases_eq i before)

    forth_now : (i : ℕ) → IsSeat n less i → get_or next_now (get_or prev_now i 0) 0 ≡ i
    forth_now i seat =
        ⊎_elim
        (λ (e : i ≡ after). ap (λ x. get_or next_now x 0) (ap (λ x. get_or prev_now x 0) e ∙ prev_at) ∙ (next_at ∙ sym e))
        (λ (apart : i ≡ after → ⊥).
        ap (λ x. get_or next_now x 0) (prev_other i apart)
        ∙ (next_other (get_or prev i 0) (λ e. seat_not_k i seat (only_k_back i (seat_was i seat) e)) ∙ ring.forth i (seat_was i seat)))
        (cases_eq i after)

    ascends_now : (i : ℕ) → less i ≡ true → i < get_or next_now i 0
    ascends_now i w =
        ⊎_elim
        (λ (e : i ≡ before).
        let is : get_or next_now i 0 ≡ after = ap (λ x. get_or next_now x 0) e ∙ next_at in
        omega (arith, is, e, above, below_before (omega (arith, e, ring.below i (was i w)))))
        (λ (apart : i ≡ before → ⊥). omega (arith, next_other i apart, ring.ascends i (was i w)))
        (cases_eq i before)

    gap_now : (i j : ℕ) → less i ≡ true → less j ≡ true → i < j → get_or next_now i 0 ≤ j
    gap_now i j wi wj l =
        ⊎_elim
        (λ (e : i ≡ before).
        let is : get_or next_now i 0 ≡ after = ap (λ x. get_or next_now x 0) e ∙ next_at in
        let over : get_or next i 0 ≡ k = ap (λ x. get_or next x 0) e ∙ to_k in
        let low : get_or next i 0 ≤ j = ring.gap i j (was i wi) (was j wj) l in
        let apart : j ≡ k → ⊥ = not_k j wj in
        omega (arith, is, gap_k j (was j wj) (strictly over low apart)))
        (λ (apart : i ≡ before → ⊥). omega (arith, next_other i apart, ring.gap i j (was i wi) (was j wj) l))
        (cases_eq i before)
      where
        strictly : get_or next i 0 ≡ k → get_or next i 0 ≤ j → (j ≡ k → ⊥) → k < j
        strictly over low apart = ⊎_elim (λ (h : k < j). h) (λ (g : j ≤ k). absurd (apart (omega arith))) (cases_lt k j)

    first_now : (j : ℕ) → less j ≡ true → get_or next_now n 0 ≤ j
    first_now j w =
        ⊎_elim
        (λ (e : n ≡ before).
        let is : get_or next_now n 0 ≡ after = ap (λ x. get_or next_now x 0) e ∙ next_at in
        let over : get_or next n 0 ≡ k = ap (λ x. get_or next x 0) e ∙ to_k in
        let low : get_or next n 0 ≤ j = ring.first j (was j w) in
        omega (arith, is, gap_k j (was j w) (strictly over low (not_k j w))))
        (λ (apart : n ≡ before → ⊥). omega (arith, next_other n apart, ring.first j (was j w)))
        (cases_eq n before)
      where
        strictly : get_or next n 0 ≡ k → get_or next n 0 ≤ j → (j ≡ k → ⊥) → k < j
        strictly over low apart = ⊎_elim (λ (h : k < j). h) (λ (g : j ≤ k). absurd (apart (omega arith))) (cases_lt k j)

    ring_now : IsRing n less next_now prev_now
    unfolding next_now prev_now
    ring_now = record {
      nexts = length-set next before after ∙ ring.nexts;
      prevs = length-set prev after before ∙ ring.prevs;
      below = λ j w. ring.below j (was j w);
      seat_next = seat_next_now;
      seat_prev = seat_prev_now;
      back = back_now;
      forth = forth_now;
      ascends = ascends_now;
      gap = gap_now;
      first = first_now;
    }

    -- ---- the cursor without k

    first_of : ℕ
    first_of = get_or next_now n 0

    first_seat : IsSeat n less first_of
    unfolding first_of
    first_seat = seat_next_now n (inl refl)

    first_least : (j : ℕ) → less j ≡ true → first_of ≤ j
    unfolding first_of
    first_least j w = first_now j w

    turn_of : (j : ℕ) → less j ≡ true → get_or claims j 0 ≡ get_or claims cursor 0 + cond (ltb j cursor) 1 0
    turn_of j w = at.turn j (was j w)

    -- the cursor stood at k, and there is a wanted number behind
    moved_on : cursor ≡ k → after < n → IsCursor n less claims after
    moved_on is l =
        let wanted_after : wanted after ≡ true = ⊎_elim (λ (e : after ≡ n). absurd (omega arith)) (λ (w : wanted after ≡ true). w) after_seat in
        let at_after : get_or claims after 0 ≡ get_or claims cursor 0 = at.turn after wanted_after
        ∙ (ap (λ b. get_or claims cursor 0 + cond b 1 0) (le-ltb after cursor (omega (arith, above))) ∙ omega arith) in
        record {
          seat = seat_still after after_seat (λ e. omega (arith, above));
          none = λ e. absurd (omega arith);
          turn = λ j w.
              ⊎_elim
              (λ (h : j < k).
              turn_of j w ∙ ((λ i. sym at_after i + cond (lt-ltb j cursor (omega arith) i) 1 0) ∙ ap (λ b. get_or claims after 0 + cond b 1 0) (sym (lt-ltb j after (omega (arith, above))))))
              (λ (g : k ≤ j).
              let behind : after ≤ j = gap_k j (was j w) (⊎_elim (λ (h : k < j). h) (λ (x : j ≤ k). absurd (not_k j w (omega arith))) (cases_lt k j)) in
              turn_of j w ∙ ((λ i. sym at_after i + cond (le-ltb j cursor (omega arith) i) 1 0) ∙ ap (λ b. get_or claims after 0 + cond b 1 0) (sym (le-ltb j after behind))))
              (cases_lt j k);
        }

    -- all that is wanted stands before k
    all_before : n ≤ after → (j : ℕ) → less j ≡ true → j < k
    all_before last j w =
        ⊎_elim (λ (h : j < k). h)
        (λ (g : k ≤ j).
        let behind : after ≤ j = gap_k j (was j w) (⊎_elim (λ (h : k < j). h) (λ (x : j ≤ k). absurd (not_k j w (omega arith))) (cases_lt k j)) in
        absurd (omega (arith, ring.below j (was j w))))
        (cases_lt j k)

    -- the cursor stood at k, which was the last
    moved_round : cursor ≡ k → n ≤ after → IsCursor n less claims first_of
    moved_round is last =
        let one : (j : ℕ) → less j ≡ true → get_or claims j 0 ≡ get_or claims cursor 0 + 1 =
        λ j w. turn_of j w ∙ ap (λ b. get_or claims cursor 0 + cond b 1 0) (lt-ltb j cursor (omega (arith, is, all_before last j w)))
        in
        record {
          seat = first_seat;
          none = λ e j. none_at e j;
          turn = λ j w.
              let there : less first_of ≡ true = ⊎_elim (λ (e : first_of ≡ n). absurd (omega (arith, first_least j w, ring.below j (was j w)))) (λ (x : less first_of ≡ true). x) first_seat in
              one j w ∙ (sym (one first_of there) ∙ (omega arith ∙ ap (λ b. get_or claims first_of 0 + cond b 1 0) (sym (le-ltb j first_of (first_least j w)))));
        }
      where
        none_at : first_of ≡ n → (j : ℕ) → less j ≡ false
        none_at e j =
            elim (less j) as (λ b. less j ≡ b → b ≡ false) [
              | true ↦ λ w. absurd (omega (arith, first_least j w, ring.below j (was j w)))
              | false ↦ λ _. refl
            ] refl

    -- the cursor stood elsewhere
    stayed : (cursor ≡ k → ⊥) → IsCursor n less claims cursor
    stayed apart = record {
      seat = seat_still cursor at.seat apart;
      none = λ e. absurd (both_ways (wanted k) (at.none e k) here);
      turn = turn_of;
    }

    cursor_now : IsCursor n less claims (cursor_without n cursor k after first_of)
    cursor_now =
        ⊎_elim
        (λ (is : cursor ≡ k).
        let on : eqb cursor k ≡ true = eq-eqb cursor k is in
        ⊎_elim
        (λ (l : after < n).
        subst (λ c. IsCursor n less claims c) (λ i. cond (sym on i) (cond (sym (lt-ltb after n l) i) after first_of) cursor) (moved_on is l))
        (λ (g : n ≤ after).
        subst (λ c. IsCursor n less claims c) (λ i. cond (sym on i) (cond (sym (le-ltb after n g) i) after first_of) cursor) (moved_round is g))
        (cases_lt after n))
        (λ (apart : cursor ≡ k → ⊥).
        subst (λ c. IsCursor n less claims c) (λ i. cond (sym (ne_eqb cursor k apart) i) (turned_to n after first_of) cursor) (stayed apart))
        (cases_eq cursor k)

    pub ring_without : IsRing n less (set next (get_or prev k 0) (get_or next k 0)) (set prev (get_or next k 0) (get_or prev k 0))
    unfolding before after next_now prev_now
    ring_without = ring_now

    pub cursor_stands : IsCursor n less claims (cursor_without n cursor k (get_or next k 0) (get_or (set next (get_or prev k 0) (get_or next k 0)) n 0))
    unfolding before after next_now first_of
    cursor_stands = cursor_now
