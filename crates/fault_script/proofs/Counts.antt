-- How one execution more counts in the lists of a row.
use Rattle.std.proofs.Common.{◌≡◌, ℕ, zero, suc, ◌+◌, ◌-◌, ◌<◌, ◌≤◌, Bool, true, false, cond, leb, eqb, List, [], ◌∷◌, refl, sym, ap, ◌∙◌, arith, Option, Some, None}
use Rattle.std.specs.Prelude.{◌||◌}
use Rattle.std.proofs.lemmas.Bool.Decides.{leb_tells, eqb_tells}
use Rattle.std.specs.Prelude.{IfSome, ◌^◌}
use Rattle.std.specs.Option.{option_map_or}
use Rattle.cal_base.specs.Causes.{LAST}
use Rattle.std.proofs.lemmas.Bool.{lt-leb, ne_eqb}
use Rattle.std.proofs.lemmas.List.Sums.{sum_by-cons, count_by-le-length}
use Rattle.cal_base.specs.declared.step.WorkerTally.{WorkerTally}
use Rattle.fault_script.specs.Rows.{Row, has, AscendAbove, IsList, IsRow, has_stopped, among_first, IsTallyOf}
use Rattle.fault_script.specs.Acts.{act_of, first_tally, counted_as}
use Rattle.fault_script.specs.declared.act.Act.TheVariants.{Deliver, Lose, Repeat, Hold}

-- a number up to that above which a list ascends is not in it
pub absent : (numbers : List ℕ) (low i : ℕ) → AscendAbove low numbers → i ≤ low → has numbers i ≡ false
absent [] low i up under = refl
absent (n ∷ numbers) low i up under =
    ap (λ b. b || has numbers i) (ne_eqb n i (λ same. omega (arith, up.0))) ∙ absent numbers n i up.1 (omega (arith, up.0))

-- one number at the front
front : (n : ℕ) (numbers : List ℕ) (e : ℕ) → among_first e (n ∷ numbers) ≡ cond (leb n e) 1 0 + among_first e numbers
front n numbers e = sum_by-cons (λ i. cond (leb i e) 1 0) n numbers

-- one execution more is one of the list's more where the list has it
pub more : (numbers : List ℕ) (low e : ℕ) → AscendAbove low numbers → among_first (e + 1) numbers ≡ among_first e numbers + cond (has numbers (e + 1)) 1 0
more [] low e up = refl
more (n ∷ numbers) low e up = grind (arith, front n numbers (e + 1), front n numbers e, more numbers n e up.1, absent numbers n (e + 1) up.1, eqb_tells n (e + 1), leb_tells n (e + 1), leb_tells n e)

-- at most as many as the list is long
pub few : (numbers : List ℕ) (e : ℕ) → IsList numbers → among_first e numbers + 1 < 2 ^ 64
few numbers e is = omega (arith, count_by-le-length (λ i. leb i e) numbers, is.short)

-- the tally stays the row's where the worker executes and does what the row says
module _ (row : Row) (tally : WorkerTally) (is : IsRow row) (follows : IsTallyOf row tally) (goes_on : tally.stopped ≡ false) (goes : has_stopped row (tally.claims + 1) ≡ false) where
  went : has_stopped row tally.claims ≡ false
  went = sym follows.stopped ∙ goes_on

  executed : tally.executed ≡ tally.claims
  executed = let e : tally.executed ≡ tally.claims - 0 = follows.executed ∙ ap (λ b. tally.claims - cond b 1 0) went in omega (arith, e)

  again : tally.executed + 1 ≡ tally.claims + 1 - (cond (has_stopped row (tally.claims + 1)) 1 0)
  again = let e : tally.claims + 1 - 0 ≡ tally.claims + 1 - (cond (has_stopped row (tally.claims + 1)) 1 0) = sym (ap (λ b. tally.claims + 1 - cond b 1 0) goes) in omega (arith, e, executed)

  found_at : (numbers : List ℕ) (b : Bool) → has numbers (tally.claims + 1) ≡ b → IsList numbers → among_first (tally.executed + 1) numbers ≡ among_first tally.executed numbers + cond b 1 0
  found_at numbers b found list =
      more numbers 0 tally.executed list.ascending ∙ ap (λ t. among_first tally.executed numbers + cond t 1 0) (ap (λ k. has numbers (k + 1)) executed ∙ found)

  one_more : (numbers : List ℕ) (n : ℕ) → has numbers (tally.claims + 1) ≡ true → IsList numbers → n ≡ among_first tally.executed numbers → n + 1 ≡ among_first (tally.executed + 1) numbers
  one_more numbers n found list counted = omega (arith, found_at numbers true found list, counted)

  no_more : (numbers : List ℕ) (n : ℕ) → has numbers (tally.claims + 1) ≡ false → IsList numbers → n ≡ among_first tally.executed numbers → n ≡ among_first (tally.executed + 1) numbers
  no_more numbers n found list counted = omega (arith, found_at numbers false found list, counted)

  counts : (lost repeated held : ℕ) → lost ≡ among_first (tally.executed + 1) row.lose → repeated ≡ among_first (tally.executed + 1) row.repeat → held ≡ among_first (tally.executed + 1) row.hold
      → IsTallyOf row (record tally { claims = tally.claims + 1; executed = tally.executed + 1; lost = lost; repeated = repeated; held = held })
  counts lost repeated held l r h = record {
    stopped = goes_on ∙ sym goes;
    executed = again;
    lost = l;
    repeated = r;
    held = h;
  }

  by_lists : (lost repeated held : Bool) → has row.lose (tally.claims + 1) ≡ lost → has row.repeat (tally.claims + 1) ≡ repeated → has row.hold (tally.claims + 1) ≡ held
      → IsTallyOf row (counted_as tally (Some (cond lost Lose (cond repeated Repeat (cond held Hold Deliver)))))
  by_lists true repeated held l r h = counts _ _ _
      (one_more _ _ l is.lose follows.lost) (no_more _ _ (is.lose_repeat _ l) is.repeat follows.repeated) (no_more _ _ (is.lose_hold _ l) is.hold follows.held)
  by_lists false true held l r h = counts _ _ _
      (no_more _ _ l is.lose follows.lost) (one_more _ _ r is.repeat follows.repeated) (no_more _ _ (is.repeat_hold _ r) is.hold follows.held)
  by_lists false false true l r h = counts _ _ _
      (no_more _ _ l is.lose follows.lost) (no_more _ _ r is.repeat follows.repeated) (one_more _ _ h is.hold follows.held)
  by_lists false false false l r h = counts _ _ _
      (no_more _ _ l is.lose follows.lost) (no_more _ _ r is.repeat follows.repeated) (no_more _ _ h is.hold follows.held)

  pub goes_by : IsTallyOf row (counted_as tally (Some (act_of row (tally.claims + 1))))
  goes_by = by_lists (has row.lose (tally.claims + 1)) (has row.repeat (tally.claims + 1)) (has row.hold (tally.claims + 1)) refl refl refl

-- before the first claim the tally of a worker is its row's
pub first_follows : (row : Row) → IsRow row → IsTallyOf row (first_tally row.number)
first_follows row is = record {
  stopped = never row.stop_at is.stop_at;
  executed = omega arith;
  lost = none row.lose 0 is.lose.ascending;
  repeated = none row.repeat 0 is.repeat.ascending;
  held = none row.hold 0 is.hold.ascending;
}
  where
    never : (at : Option ℕ) → IfSome at (λ n. 1 ≤ n) → false ≡ (option_map_or (λ n. leb n 0) at false || eqb 0 LAST)
    never None _ = refl
    never (Some zero) low = absurd (omega (arith, low))
    never (Some (suc n)) low = sym (ap (λ b. b || eqb 0 LAST) (lt-leb (suc n) 0 (omega arith)))

    none : (numbers : List ℕ) (low : ℕ) → AscendAbove low numbers → 0 ≡ among_first 0 numbers
    none [] low up = refl
    none (n ∷ numbers) low up =
        let e : among_first 0 (n ∷ numbers) ≡ 0 + among_first 0 numbers = front n numbers 0 ∙ ap (λ b. cond b 1 0 + among_first 0 numbers) (lt-leb n 0 (omega (arith, up.0))) in
        omega (arith, e, none numbers n up.1)
