-- Each call keeps what a table holds.
use Rattle.std.proofs.Common.{◌≡◌, ℕ, zero, suc, ◌+◌, ◌<◌, ◌≤◌, Bool, true, false, not, ◌&&◌, cond, ltb, min, List, [], ◌∷◌, Option, Some, None, MatchOption, length, set, get_or, replicate, inl, inr}
use Rattle.std.proofs.Common.{◌⊎◌, refl, sym, ap, ◌∙◌, subst, ⊎_elim, arith}
use Rattle.std.proofs.lemmas.Bool.{cases_lt, cases_eq, lt-ltb, le-ltb, ltb-true, and_parts, and_right, not-true}
use Rattle.std.proofs.lemmas.List.{length-set, length-replicate, get_or-set_same, get_or-set_other}
use Rattle.cal_base.specs.Numbers.{lightest_below, IsLightest}
use Rattle.step_laws.proofs.Searches.{lightest_below-is, lightest_within}
use Rattle.progress_table.specs.Progress.{Progress, is_wanted_in, least_wanted_in, with_claim, with_done, cut_at}
use Rattle.progress_table.specs.Ring.{IsSeat, IsRing, IsCursor, IsTable, IsLast, turned_to, cursor_without}
use Rattle.progress_table.proofs.Ring.{seat_most, ring_without, cursor_stands}
use Rattle.progress_table.proofs.Turns.{claimed, at_cursor, least_at_cursor, least_at_end}

-- what is wanted is a number below the bound that is not done
wanted_parts : (table : Progress) (j : ℕ) → is_wanted_in table j ≡ true → (get_or table.done j false ≡ false) × (j < table.bound)
wanted_parts table j w = let parts = and_parts (not (get_or table.done j false)) (ltb j table.bound) w in (not-true _ parts.0, ltb-true _ _ parts.1)

-- a table with other tests for what is wanted, which come to the same
wanted_same : (n : ℕ) (p q : ℕ → Bool) (claims next prev : List ℕ) (cursor : ℕ) → ((j : ℕ) → q j ≡ p j) → IsRing n p next prev → IsCursor n p claims cursor
    → IsRing n q next prev × IsCursor n q claims cursor
wanted_same n p q claims next prev cursor same ring at =
    let path : p ≡ q = λ i j. sym (same j) i in
    (subst (λ w. IsRing n w next prev) path ring, subst (λ w. IsCursor n w claims cursor) path at)

-- ---- a claim

pub claim_table : (table : Progress) (next prev : List ℕ) (cursor k : ℕ) → IsTable table next prev cursor → cursor ≡ k → is_wanted_in table k ≡ true
    → IsTable (with_claim table k) next prev (turned_to (length table.claims) (get_or next k 0) (get_or next (length table.claims) 0))
claim_table table next prev cursor k is at here =
    let size : length (set table.claims k (get_or table.claims k 0 + 1)) ≡ length table.claims = length-set table.claims k (get_or table.claims k 0 + 1) in
    let turned = claimed (length table.claims) (is_wanted_in table) table.claims next prev cursor is.ring is.stands k at here refl in
    record {
      flags = size ∙ is.flags;
      limit = omega (arith, size, is.limit);
      bound = omega (arith, size, is.bound);
      ring = subst (λ n. IsRing n (is_wanted_in table) next prev) (sym size) is.ring;
      stands = subst (λ n. IsCursor n (is_wanted_in table) (set table.claims k (get_or table.claims k 0 + 1)) (turned_to (length table.claims) (get_or next k 0) (get_or next (length table.claims) 0)))
          (sym size) turned;
    }

-- ---- a wanted number that is done

pub done_table : (table : Progress) (next prev : List ℕ) (cursor k : ℕ) → IsTable table next prev cursor → is_wanted_in table k ≡ true
    → IsTable (with_done table k) (set next (get_or prev k 0) (get_or next k 0)) (set prev (get_or next k 0) (get_or prev k 0))
    (cursor_without (length table.claims) cursor k (get_or next k 0) (get_or (set next (get_or prev k 0) (get_or next k 0)) (length table.claims) 0))
done_table table next prev cursor k is here =
    let within : k < length table.claims = is.ring.below k here in
    let off : is_wanted_in (with_done table k) k ≡ false = ap (λ b. not b && ltb k table.bound) (get_or-set_same table.done k true false (omega (arith, within, is.flags))) in
    let others : (j : ℕ) → (j ≡ k → ⊥) → is_wanted_in (with_done table k) j ≡ is_wanted_in table j = λ j apart. ap (λ b. not b && ltb j table.bound)
    (get_or-set_other table.done k j true false apart) in
    record {
      flags = is.flags ∙ sym (length-set table.done k true);
      limit = is.limit;
      bound = is.bound;
      ring = ring_without (length table.claims) (is_wanted_in table) table.claims next prev cursor is.ring is.stands k here (is_wanted_in (with_done table k)) off others;
      stands = cursor_stands (length table.claims) (is_wanted_in table) table.claims next prev cursor is.ring is.stands k here (is_wanted_in (with_done table k)) off others;
    }

-- ---- a number that is not wanted, and is done

pub mark_table : (table : Progress) (next prev : List ℕ) (cursor k : ℕ) → IsTable table next prev cursor → is_wanted_in table k ≡ false → k < length table.claims
    → IsTable (with_done table k) next prev cursor
mark_table table next prev cursor k is off within =
    let same : (j : ℕ) → is_wanted_in (with_done table k) j ≡ is_wanted_in table j =
    λ j.
    ⊎_elim
    (λ (e : j ≡ k).
    let marked : get_or (set table.done k true) j false ≡ true = ap (λ i. get_or (set table.done k true) i false) e ∙ get_or-set_same table.done k true false (omega (arith, within, is.flags)) in
    ap (λ b. not b && ltb j table.bound) marked ∙ sym (ap (λ i. is_wanted_in table i) e ∙ off))
    (λ (apart : j ≡ k → ⊥). ap (λ b. not b && ltb j table.bound) (get_or-set_other table.done k j true false apart))
    (cases_eq j k)
    in
    let both = wanted_same (length table.claims) (is_wanted_in table) (is_wanted_in (with_done table k)) table.claims next prev cursor same is.ring is.stands in
    record {
      flags = is.flags ∙ sym (length-set table.done k true);
      limit = is.limit;
      bound = is.bound;
      ring = both.0;
      stands = both.1;
    }

-- ---- the last wanted number, and the bound at it

pub last_is : (table : Progress) (next prev : List ℕ) (cursor : ℕ) → IsTable table next prev cursor → IsLast table (get_or prev (length table.claims) 0)
last_is table next prev cursor is =
    let n = length table.claims in
    let last = get_or prev n 0 in
    let seat : IsSeat n (is_wanted_in table) last = is.ring.seat_prev n (inl refl) in
    let forth : get_or next last 0 ≡ n = is.ring.forth n (inl refl) in
    record {
      most = seat_most n (is_wanted_in table) next prev is.ring last seat;
      wanted = λ l. ⊎_elim (λ (e : last ≡ n). absurd (omega arith)) (λ (w : is_wanted_in table last ≡ true). w) seat;
      none_above = λ j w.
          let below : j < n = is.ring.below j w in
          ⊎_elim
          (λ (e : last ≡ n).
          let first : get_or next n 0 ≤ j = is.ring.first j w in
          absurd (omega (arith, ap (λ i. get_or next i 0) e, forth)))
          (λ (there : is_wanted_in table last ≡ true).
          let within : last < n = is.ring.below last there in
          (within, ⊎_elim (λ (l : last < j). absurd (omega (arith, is.ring.gap last j there w l, forth))) (λ (g : j ≤ last). g) (cases_lt last j)))
          seat;
    }

pub drop_table : (table : Progress) (next prev : List ℕ) (cursor k : ℕ) → IsTable table next prev cursor → is_wanted_in table k ≡ true → IsLast table k
    → IsTable (record table { bound = k }) (set next (get_or prev k 0) (get_or next k 0)) (set prev (get_or next k 0) (get_or prev k 0))
    (cursor_without (length table.claims) cursor k (get_or next k 0) (get_or (set next (get_or prev k 0) (get_or next k 0)) (length table.claims) 0))
drop_table table next prev cursor k is here last =
    let less : (ℕ → Bool) = is_wanted_in (record table { bound = k }) in
    let within : k < length table.claims = is.ring.below k here in
    let below : k < table.bound = (wanted_parts table k here).1 in
    let off : less k ≡ false = and_right (not (get_or table.done k false)) _ (le-ltb k k (omega arith)) in
    let others : (j : ℕ) → (j ≡ k → ⊥) → less j ≡ is_wanted_in table j =
    λ j apart.
    ⊎_elim
    (λ (l : j < k). (λ i. not (get_or table.done j false) && (lt-ltb j k l ∙ sym (lt-ltb j table.bound (omega arith))) i))
    (λ (g : k ≤ j).
    and_right (not (get_or table.done j false)) _ (le-ltb j k g)
    ∙ sym (elim (is_wanted_in table j) as (λ b. is_wanted_in table j ≡ b → b ≡ false) [
      | true ↦ λ w. absurd (apart (omega (arith, (last.none_above j w).1)))
      | false ↦ λ _. refl
    ] refl))
    (cases_lt j k)
    in
    record {
      flags = is.flags;
      limit = is.limit;
      bound = omega arith;
      ring = ring_without (length table.claims) (is_wanted_in table) table.claims next prev cursor is.ring is.stands k here less off others;
      stands = cursor_stands (length table.claims) (is_wanted_in table) table.claims next prev cursor is.ring is.stands k here less off others;
    }

-- and its bound is the lesser of the two
pub dropped : (table : Progress) (k : ℕ) → is_wanted_in table k ≡ true → k ≡ min table.bound k
dropped table k here = omega (arith, (wanted_parts table k here).1)

-- ---- a lower bound, above which nothing is wanted

pub lower_table : (table : Progress) (next prev : List ℕ) (cursor k : ℕ) → IsTable table next prev cursor → ((j : ℕ) → is_wanted_in table j ≡ true → j < k) → IsTable (cut_at table k) next prev cursor
lower_table table next prev cursor k is none =
    let same : (j : ℕ) → is_wanted_in (cut_at table k) j ≡ is_wanted_in table j =
    λ j.
    ⊎_elim
    (λ (l : j < k).
    ⊎_elim
    (λ (h : j < table.bound). (λ i. not (get_or table.done j false) && (lt-ltb j (min table.bound k) (omega arith) ∙ sym (lt-ltb j table.bound h)) i))
    (λ (g : table.bound ≤ j). (λ i. not (get_or table.done j false) && (le-ltb j (min table.bound k) (omega arith) ∙ sym (le-ltb j table.bound g)) i))
    (cases_lt j table.bound))
    (λ (g : k ≤ j).
    and_right (not (get_or table.done j false)) _ (le-ltb j (min table.bound k) (omega arith))
    ∙ sym (elim (is_wanted_in table j) as (λ b. is_wanted_in table j ≡ b → b ≡ false) [
      | true ↦ λ w. absurd (omega (arith, none j w))
      | false ↦ λ _. refl
    ] refl))
    (cases_lt j k)
    in
    let both = wanted_same (length table.claims) (is_wanted_in table) (is_wanted_in (cut_at table k)) table.claims next prev cursor same is.ring is.stands in
    record {
      flags = is.flags;
      limit = is.limit;
      bound = omega (arith, is.bound);
      ring = both.0;
      stands = both.1;
    }

-- ---- a step begins

module _ (n : ℕ) (next prev : List ℕ) (small : n ≤ 65536) (nexts : length next ≡ n + 1) (prevs : length prev ≡ n + 1)
    (forwards : (i : ℕ) → i < n → get_or next i 0 ≡ i + 1) (end : get_or next n 0 ≡ 0)
    (first : get_or prev 0 0 ≡ n) (backwards : (i : ℕ) → i < n → get_or prev (i + 1) 0 ≡ i) where
  abbrev first_table : Progress
  first_table = record { claims = replicate n 0; done = replicate n false; bound = n }

  size : length {A = ℕ} (replicate n 0) ≡ n
  size = length-replicate n 0

  no_flag : (m j : ℕ) → get_or (replicate m false) j false ≡ false
  no_flag zero j = refl
  no_flag (suc m) zero = refl
  no_flag (suc m) (suc j) = no_flag m j

  wanted_is : (j : ℕ) → is_wanted_in first_table j ≡ ltb j n
  wanted_is j = ap (λ b. not b && ltb j n) (no_flag n j)

  in_range : (j : ℕ) → is_wanted_in first_table j ≡ true → j < n
  in_range j w = ltb-true j n (sym (wanted_is j) ∙ w)

  wanted_at : (j : ℕ) → j < n → is_wanted_in first_table j ≡ true
  wanted_at j l = wanted_is j ∙ lt-ltb j n l

  seat_at : (j : ℕ) → j ≤ n → IsSeat n (is_wanted_in first_table) j
  seat_at j le = ⊎_elim (λ (l : j < n). inr (wanted_at j l)) (λ (g : n ≤ j). inl (omega arith)) (cases_lt j n)

  seat_within : (j : ℕ) → IsSeat n (is_wanted_in first_table) j → j ≤ n
  seat_within j seat = ⊎_elim (λ (e : j ≡ n). omega arith) (λ (w : is_wanted_in first_table j ≡ true). omega (arith, in_range j w)) seat

  next_by : (i : ℕ) → i ≤ n → ((i < n) × (get_or next i 0 ≡ i + 1)) ⊎ ((i ≡ n) × (get_or next i 0 ≡ 0))
  next_by i le = ⊎_elim (λ (l : i < n). inl (l, forwards i l)) (λ (g : n ≤ i). let e : i ≡ n = omega arith in inr (e, ap (λ x. get_or next x 0) e ∙ end)) (cases_lt i n)

  prev_by : (i : ℕ) → i ≤ n → ((i ≡ 0) × (get_or prev i 0 ≡ n)) ⊎ ((get_or prev i 0 + 1) ≡ i)
  prev_by zero le = inl (refl, first)
  prev_by (suc i) le = let place : suc i ≡ i + 1 = omega arith in inr (omega (arith, ap (λ x. get_or prev x 0) place, backwards i (omega arith)))

  ring_first : IsRing n (is_wanted_in first_table) next prev
  ring_first = record {
    nexts = nexts;
    prevs = prevs;
    below = in_range;
    seat_next = λ i seat.
        ⊎_elim
        (λ (h : (i < n) × (get_or next i 0 ≡ i + 1)). seat_at _ (omega (arith, h.0, h.1)))
        (λ (h : (i ≡ n) × (get_or next i 0 ≡ 0)). seat_at _ (omega (arith, h.1)))
        (next_by i (seat_within i seat));
    seat_prev = λ i seat.
        ⊎_elim
        (λ (h : (i ≡ 0) × (get_or prev i 0 ≡ n)). seat_at _ (omega (arith, h.1)))
        (λ (h : (get_or prev i 0 + 1) ≡ i). seat_at _ (omega (arith, h, seat_within i seat)))
        (prev_by i (seat_within i seat));
    back = λ i seat.
        ⊎_elim
        (λ (h : (i < n) × (get_or next i 0 ≡ i + 1)). ap (λ x. get_or prev x 0) h.1 ∙ backwards i h.0)
        (λ (h : (i ≡ n) × (get_or next i 0 ≡ 0)). ap (λ x. get_or prev x 0) h.1 ∙ (first ∙ sym h.0))
        (next_by i (seat_within i seat));
    forth = λ i seat.
        ⊎_elim
        (λ (h : (i ≡ 0) × (get_or prev i 0 ≡ n)). ap (λ x. get_or next x 0) h.1 ∙ (end ∙ sym h.0))
        (λ (h : (get_or prev i 0 + 1) ≡ i). forwards (get_or prev i 0) (omega (arith, h, seat_within i seat)) ∙ h)
        (prev_by i (seat_within i seat));
    ascends = λ i w. omega (arith, forwards i (in_range i w));
    gap = λ i j wi wj l. omega (arith, forwards i (in_range i wi));
    first = λ j w. omega (arith, end);
  }

  no_claim : (m j : ℕ) → ◌≡◌ {A = ℕ} (get_or (replicate m 0) j 0) 0
  no_claim zero j = refl
  no_claim (suc m) zero = refl
  no_claim (suc m) (suc j) = no_claim m j

  cursor_first : IsCursor n (is_wanted_in first_table) (replicate n 0) 0
  cursor_first = record {
    seat = seat_at 0 (omega arith);
    none = λ e j. wanted_is j ∙ le-ltb j n (omega arith);
    turn = λ j w. omega (arith, no_claim n j, no_claim n 0, ap {B = ℕ} (λ b. cond b 1 0) (le-ltb j 0 (omega arith)));
  }

  pub made_table : IsTable first_table next prev 0
  made_table = record {
    flags = size ∙ sym (length-replicate n false);
    limit = omega (arith, size);
    bound = omega (arith, size);
    ring = subst (λ m. IsRing m (is_wanted_in first_table) next prev) (sym size) ring_first;
    stands = subst (λ m. IsCursor m (is_wanted_in first_table) (replicate n 0) 0) (sym size) cursor_first;
  }

-- ---- as the code meets them: an item that was read is named by itself

get_or_any : {A : Type 0} (xs : List A) (i : ℕ) (d e : A) → i < length xs → get_or xs i d ≡ get_or xs i e
get_or_any [] i d e within = absurd (omega arith)
get_or_any (x ∷ xs) zero d e within = refl
get_or_any (x ∷ xs) (suc i) d e within = get_or_any xs i d e (omega arith)

module _ (table seen : Progress) (next prev : List ℕ) (cursor : ℕ) (same : table ≡ seen) (is : IsTable table next prev cursor) where
  -- where a number is wanted, the seats beside it are there
  module _ (k b a : ℕ) (wanted : is_wanted_in seen k ≡ true) (before : b ≡ get_or prev k b) (after : a ≡ get_or next k a) where
    here : is_wanted_in table k ≡ true
    here = ap (λ t. is_wanted_in t k) same ∙ wanted

    within : k < length table.claims
    within = is.ring.below k here

    before_is : b ≡ get_or prev k 0
    before_is = before ∙ get_or_any prev k b 0 (omega (arith, within, is.ring.prevs))

    after_is : a ≡ get_or next k 0
    after_is = after ∙ get_or_any next k a 0 (omega (arith, within, is.ring.nexts))

    pub before_there : b < length next
    before_there = omega (arith, before_is, is.ring.nexts, seat_most (length table.claims) (is_wanted_in table) next prev is.ring (get_or prev k 0) (is.ring.seat_prev k (inr here)))

    pub after_there : a < length prev
    after_there = omega (arith, after_is, is.ring.prevs, seat_most (length table.claims) (is_wanted_in table) next prev is.ring (get_or next k 0) (is.ring.seat_next k (inr here)))

    module _ (n f cur : ℕ) (size : n ≡ length table.claims) (first : f ≡ get_or (set next b a) n f) (moved : cur ≡ cursor_without n cursor k a f) where
      first_is : f ≡ get_or (set next b a) n 0
      first_is = first ∙ get_or_any (set next b a) n f 0 (omega (arith, size, length-set next b a, is.ring.nexts))

      pub done_at : IsTable (with_done table k) (set next b a) (set prev a b) cur
      done_at = rw (moved, first_is, size, before_is, after_is) (done_table table next prev cursor k is here)

      pub drop_at : IsLast seen k → IsTable (record table { bound = k }) (set next b a) (set prev a b) cur
      drop_at last = rw (moved, first_is, size, before_is, after_is) (drop_table table next prev cursor k is here (subst (λ t. IsLast t k) (sym same) last))

  pub last_at : (n last : ℕ) → n ≡ length table.claims → last ≡ get_or prev n last → IsLast seen last
  last_at n last size at =
      let is_last : last ≡ get_or prev (length table.claims) 0 = at ∙ (get_or_any prev n last 0 (omega (arith, size, is.ring.prevs)) ∙ ap (λ i. get_or prev i 0) size) in
      subst (λ t. IsLast t last) same (rw is_last (last_is table next prev cursor is))

  -- the number that is least wanted stands at the cursor
  module _ (k : ℕ) (least : least_wanted_in seen ≡ Some k) where
    least_here : least_wanted_in table ≡ Some k
    least_here = ap (λ t. least_wanted_in t) same ∙ least

    pub cursor_is : cursor ≡ k
    cursor_is = at_cursor (length table.claims) (is_wanted_in table) table.claims next prev cursor is.ring is.stands k least_here

    pub least_within : k < length table.claims
    least_within = lightest_within (length table.claims) (is_wanted_in table) (λ j. get_or table.claims j 0) k least_here

    least_is_wanted : is_wanted_in table k ≡ true
    least_is_wanted = by (lightest_below (length table.claims) (is_wanted_in table) (λ j. get_or table.claims j 0)) least_here
        (lightest_below-is (length table.claims) (is_wanted_in table) (λ j. get_or table.claims j 0))
      where
        by : (o : Option ℕ) → o ≡ Some k → MatchOption o ((j : ℕ) → j < length table.claims → is_wanted_in table j ≡ false)
            (IsLightest (length table.claims) (is_wanted_in table) (λ j. get_or table.claims j 0)) → is_wanted_in table k ≡ true
        by None e none = absurd (cc)
        by (Some j) e light = let at : j ≡ k = cc in ap (λ i. is_wanted_in table i) (sym at) ∙ light.passes

    module _ (n a f c cur : ℕ) (size : n ≡ length table.claims) (after : a ≡ get_or next k a) (first : f ≡ get_or next n f) (count : c ≡ get_or table.claims k c) (moved : cur ≡ turned_to n a f) where
      next_is : a ≡ get_or next k 0
      next_is = after ∙ get_or_any next k a 0 (omega (arith, least_within, is.ring.nexts))

      start_is : f ≡ get_or next n 0
      start_is = first ∙ get_or_any next n f 0 (omega (arith, size, is.ring.nexts))

      count_is : c ≡ get_or table.claims k 0
      count_is = count ∙ get_or_any table.claims k c 0 least_within

      pub claim_at : IsTable (record table { claims = set table.claims k (c + 1) }) next prev cur
      claim_at = rw (moved, start_is, size, next_is, count_is) (claim_table table next prev cursor k is cursor_is least_is_wanted)

  pub least_there : cursor < length table.claims → Some cursor ≡ least_wanted_in seen
  least_there l = sym (least_at_cursor (length table.claims) (is_wanted_in table) table.claims next prev cursor is.ring is.stands l) ∙ ap (λ t. least_wanted_in t) same

  pub none_there : length table.claims ≤ cursor → None ≡ least_wanted_in seen
  none_there g = sym (least_at_end (length table.claims) (is_wanted_in table) table.claims next prev cursor is.ring is.stands g) ∙ ap (λ t. least_wanted_in t) same
