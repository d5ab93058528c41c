-- The members of a team, from step to step.
use Rattle.std.proofs.Common.{◌≡◌, ℕ, ◌+◌, ◌<◌, ◌≤◌, ◌&&◌, not, Bool, true, false, List, [], ◌∷◌, map, length, sum_by, IfSome, Option, None, Some, is_some, refl, sym, ap, subst, ◌∙◌, arith}
use Rattle.std.specs.Prelude.{if◌then◌else◌}
use Rattle.std.specs.List.{AllByRecursion, AllZip, range_with_len}
use Rattle.std.proofs.lemmas.List.{length-map}
use Rattle.std.proofs.lemmas.List.FromFn.{length-range_with_len}
use Rattle.std.proofs.lemmas.List.Sums.{sum_by-cons}
use Rattle.bytecode.specs.declared.module.Module.{Module}
use Rattle.cal_base.specs.Pages.{Paged, IsLater}
use Rattle.fault_script.specs.Rows.{Row, row_of, IsTallyOf}
use Rattle.worker_gate.specs.Working.{WorkerState}
use Rattle.worker_gate.specs.Worked.{IsLeft, ends, late}
use Rattle.worker_gate.specs.Worked as worked
use Rattle.worker_gate.proofs.Later.{may_work_later}
use Rattle.calypso_engine.specs.Teams.{IsMember, IsTeam, HasTallies}
use Rattle.calypso_engine.specs.declared.team.Team.{Team}

some_le : (o : Option ℕ) (a b : ℕ) → a ≤ b → IfSome o (λ s. s ≤ a) → IfSome o (λ s. s ≤ b)
some_le None a b le h = tt
some_le (Some s) a b le h = omega (arith, le, h)

some_below : (o : Option ℕ) (a b : ℕ) → b ≡ a + 1 → IfSome o (λ s. s ≤ a) → IfSome o (λ s. s < b)
some_below None a b e h = tt
some_below (Some s) a b e h = omega (arith, e, h)

module _ (rows : List Row) (m : Module) where
  -- on a later image
  pub members_later : (steps : ℕ) (image later : Paged) → IsLater image later → (ws : List WorkerState) → AllByRecursion (IsMember rows steps image m) ws
      → AllByRecursion (IsMember rows steps later m) ws
  members_later steps image later is [] all = tt
  members_later steps image later is (w ∷ ws) all = (
    record { number = all.0.number; row = all.0.row; follows = all.0.follows; holds = all.0.holds; may = may_work_later w image later m all.0.may is },
    members_later steps image later is ws all.1,
  )

  -- ready for the next step
  pub members_ready : (steps number : ℕ) (image : Paged) → number ≡ steps + 1 → (ws : List WorkerState) → AllByRecursion (IsMember rows steps image m) ws
      → AllByRecursion (worked.IsReady number image m) ws
  members_ready steps number image e [] all = tt
  members_ready steps number image e (w ∷ ws) all = (
    record { number = all.0.number; holds = some_below w.holds steps number e all.0.holds; may = all.0.may },
    members_ready steps number image e ws all.1,
  )

  -- behind the step
  pub members_after : (steps number : ℕ) (image : Paged) → number ≡ steps + 1 → (before after : List WorkerState) → AllByRecursion (IsMember rows steps image m) before
      → AllZip (IsLeft number image m) before after
      → AllByRecursion (IsMember rows (steps + 1) image m) after
  members_after steps number image e [] [] all left = tt
  members_after steps number image e [] (v ∷ vs) all left = absurd left
  members_after steps number image e (w ∷ ws) [] all left = absurd left
  members_after steps number image e (w ∷ ws) (v ∷ vs) all left = (
    record {
      number = subst (λ (who : ℕ). who < 32) (sym left.0.who) all.0.number;
      row = left.0.row ∙ all.0.row ∙ ap (λ (who : ℕ). row_of rows who) (sym left.0.who);
      follows = left.0.follows;
      holds = some_le v.holds number (steps + 1) (omega (arith, e)) left.0.holds;
      may = left.0.may;
    },
    members_after steps number image e ws vs all.1 left.1,
  )

  -- where no worker worked
  pub members_left : (steps number : ℕ) (image : Paged) → number ≡ steps + 1 → (ws : List WorkerState) → AllByRecursion (IsMember rows steps image m) ws → AllZip (IsLeft number image m) ws ws
  members_left steps number image e [] all = tt
  members_left steps number image e (w ∷ ws) all = (
    record { who = refl; row = refl; follows = all.0.follows; holds = some_le w.holds steps number (omega (arith, e)) all.0.holds; size = refl; may = all.0.may; goes_on = λ on. on },
    members_left steps number image e ws all.1,
  )

module _ (number : ℕ) (image : Paged) (m : Module) where
  pub numbers_after : (before after : List WorkerState) → AllZip (IsLeft number image m) before after → map (λ (w : WorkerState). w.tally.who) after ≡ map (λ (w : WorkerState). w.tally.who) before
  numbers_after [] [] left = refl
  numbers_after [] (v ∷ vs) left = absurd left
  numbers_after (w ∷ ws) [] left = absurd left
  numbers_after (w ∷ ws) (v ∷ vs) left = let rest = numbers_after ws vs left.1 in let one = left.0.who in λ i. one i ∷ rest i

  end_one : (a b : Bool) → (b ≡ false → a ≡ false) → (if b then 0 else 1) ≤ (if a then 0 else 1)
  end_one true true h = omega arith
  end_one false true h = omega arith
  end_one false false h = omega arith
  end_one true false h = let e : true ≡ false = h refl in absurd (cc)

  ends_one : (w v : WorkerState) → IsLeft number image m w v → ends v ≤ ends w
  unfolding ends
  ends_one w v left = end_one w.tally.stopped v.tally.stopped left.goes_on

  pub ends_fall : (before after : List WorkerState) → AllZip (IsLeft number image m) before after → sum_by ends after ≤ sum_by ends before
  ends_fall [] [] left = omega arith
  ends_fall [] (v ∷ vs) left = absurd left
  ends_fall (w ∷ ws) [] left = absurd left
  ends_fall (w ∷ ws) (v ∷ vs) left = omega (arith, sum_by-cons ends w ws, sum_by-cons ends v vs, ends_one w v left.0, ends_fall ws vs left.1)

-- each worker holds one answer back at most
late_one : (w : WorkerState) → late w ≤ 1
unfolding late
late_one w = bit_le (is_some w.holds && not w.tally.stopped)
  where
    bit_le : (b : Bool) → (if b then 1 else 0) ≤ 1
    bit_le true = omega arith
    bit_le false = omega arith

pub late_few : (ws : List WorkerState) → sum_by late ws ≤ length ws
late_few [] = omega arith
late_few (w ∷ ws) = omega (arith, sum_by-cons late w ws, late_one w, late_few ws)

-- there are as many workers as were asked for
pub team_few : (count : ℕ) (ws : List WorkerState) → map (λ (w : WorkerState). w.tally.who) ws ≡ range_with_len 0 count → count ≤ 32 → length ws ≤ 32
team_few count ws numbers few = omega (arith, few, sym (length-map ws (λ (w : WorkerState). w.tally.who)) ∙ ap length numbers ∙ length-range_with_len 0 count)

-- the tallies of a team that may work
members_follow : (rows : List Row) (steps : ℕ) (image : Paged) (m : Module) (ws : List WorkerState) → AllByRecursion (IsMember rows steps image m) ws
    → AllByRecursion (λ (w : WorkerState). IsTallyOf (row_of rows w.tally.who) w.tally) ws
members_follow rows steps image m [] all = tt
members_follow rows steps image m (w ∷ ws) all = (subst (λ (row : Row). IsTallyOf row w.tally) all.0.row all.0.follows, members_follow rows steps image m ws all.1)

pub team_tallies : (rows : List Row) (workers steps : ℕ) (image : Paged) (m : Module) (team : Team) → IsTeam rows workers steps image m team → HasTallies rows workers team
team_tallies rows workers steps image m team working = record { numbers = working.numbers; follow = members_follow rows steps image m team.workers.items working.members }

pub team_count : (count : ℕ) (ws : List WorkerState) → map (λ (w : WorkerState). w.tally.who) ws ≡ range_with_len 0 count → length ws ≡ count
team_count count ws numbers = sym (length-map ws (λ (w : WorkerState). w.tally.who)) ∙ ap length numbers ∙ length-range_with_len 0 count
