-- What the team did, one step after the other.
use Rattle.std.proofs.Common.{◌≡◌, ℕ, ◌+◌, ◌<◌, ◌≤◌, [], ◌++◌, List, sym, ap, subst, ◌∙◌, arith}
use Rattle.std.specs.List.{count_by}
use Rattle.std.proofs.lemmas.List.Sums.{sum_by-append}
use Rattle.cal_base.specs.declared.step.WorkerTally.{WorkerTally}
use Rattle.cal_base.specs.History.{claims_by, is_worker}
use Rattle.step_board.specs.Counted.{is_current}
use Rattle.step_laws.specs.Closed.{ClosedStep}
use Rattle.step_laws.proofs.Closed.{each_append}
use Rattle.engine_laws.specs.Ran.{callers_claims}
use Rattle.worker_gate.specs.Working.{with_claims}
use Rattle.worker_gate.specs.Worked.{total}
use Rattle.calypso_engine.specs.Running.{Counted}
use Rattle.calypso_engine.specs.Traces.{traced, WaitsForWorkers}
use Rattle.calypso_engine.specs.Teams.{ClaimedMore}
use Rattle.calypso_engine.specs.declared.team.Team.{Team}
use Rattle.calypso_engine.proofs.Runs.{claims_then, claims_none}

none_more : (n : ℕ) → n + 0 ≡ n
none_more n = omega arith

in_turn : (n a b : ℕ) → n + a + b ≡ n + (a + b)
in_turn n a b = omega arith

pub claimed_none : (tally : WorkerTally) → ClaimedMore tally 0 tally
claimed_none tally = λ i. record tally { claims = sym (none_more tally.claims) i; executed = sym (none_more tally.executed) i }

pub claimed_then : (old mid new : WorkerTally) (a b : ℕ) → ClaimedMore old a mid → ClaimedMore mid b new → ClaimedMore old (a + b) new
claimed_then old mid new a b first second =
    second
    ∙ ap (λ (t : WorkerTally). record (with_claims t b) { pages = new.pages }) first
    ∙ (λ i. record old { claims = in_turn old.claims a b i; executed = in_turn old.executed a b i; pages = new.pages })

-- ---- numbers

claims_on : (both one two before mid after : ℕ) → both ≡ one + two → one + before ≡ mid → two + mid ≡ after → both + before ≡ after
claims_on both one two before mid after p q r = omega arith

arrivals_on : (both one two kept0 kept1 kept2 done0 done1 done2 : ℕ) → both ≡ one + two → one + kept1 + done0 ≡ done1 + kept0 → two + kept2 + done1 ≡ done2 + kept1
    → both + kept2 + done0 ≡ done2 + kept0
arrivals_on both one two k0 k1 k2 d0 d1 d2 p q r = omega arith

falls_on : (a b c : ℕ) → b ≤ a → c ≤ b → c ≤ a
falls_on a b c p q = omega arith

still_on : (a b : ℕ) → 0 < b → b ≤ a → 0 < a
still_on a b p q = omega arith

kept_same : (l e : ℕ) → 0 + l + e ≡ e + l
kept_same l e = omega arith

-- ---- steps

pub counted_none : (team : Team) → Counted [] team team
counted_none team = record {
  claims = omega arith;
  arrivals =
      kept_same (total (λ t. t.lost) team.workers.items + total (λ t. t.held) team.workers.items) (total (λ t. t.executed) team.workers.items + total (λ t. t.repeated) team.workers.items);
  caller = subst (λ (n : ℕ). ClaimedMore team.caller.tally n team.caller.tally) (sym claims_none) (claimed_none team.caller.tally);
  goes_on = omega arith;
  waits = λ on. tt;
}

pub counted_then : (closed more : List ClosedStep) (old mid new : Team) → Counted closed old mid → Counted more mid new → Counted (closed ++ more) old new
counted_then closed more old mid new first second = record {
  claims = claims_on _ _ _ _ _ _ (sum_by-append (λ (step : ClosedStep). claims_by is_worker step.history) closed more) first.claims second.claims;
  arrivals =
      arrivals_on _ _ _ (total (λ t. t.lost) old.workers.items + total (λ t. t.held) old.workers.items) (total (λ t. t.lost) mid.workers.items + total (λ t. t.held) mid.workers.items)
      (total (λ t. t.lost) new.workers.items + total (λ t. t.held) new.workers.items) (total (λ t. t.executed) old.workers.items + total (λ t. t.repeated) old.workers.items)
      (total (λ t. t.executed) mid.workers.items + total (λ t. t.repeated) mid.workers.items) (total (λ t. t.executed) new.workers.items + total (λ t. t.repeated) new.workers.items)
      (sum_by-append (λ (step : ClosedStep). count_by is_current step.history) closed more) first.arrivals second.arrivals;
  caller =
      subst (λ (n : ℕ). ClaimedMore old.caller.tally n new.caller.tally) (sym (claims_then closed more))
      (claimed_then old.caller.tally mid.caller.tally new.caller.tally (callers_claims closed) (callers_claims more) first.caller second.caller);
  goes_on = falls_on _ _ _ first.goes_on second.goes_on;
  waits = λ on. each_append (λ (step : ClosedStep). WaitsForWorkers (traced step)) closed more (first.waits (still_on _ _ on second.goes_on)) (second.waits on);
}
