-- Each event in an open step keeps the history legal.
use Rattle.std.proofs.Common.{◌≡◌, ◌≢◌, ℕ, ◌-◌, ◌<◌, ◌≤◌, true, false, cond, eqb, [], ◌∷◌, ◌++◌, refl, subst, arith, Option, Some, None}
use Rattle.std.specs.Prelude.{slice_get, nat_lt}
use Rattle.cal_base.specs.declared.step.TheConstants.{CALLER}
use Rattle.cal_base.specs.declared.step.Verdict.{Verdict}
use Rattle.cal_base.specs.declared.step.Verdict.TheVariants.{First, Again, Stale, Unasked, Full}
use Rattle.cal_base.specs.declared.step.Claimed.{Claimed}
use Rattle.cal_base.specs.declared.step.Claimed.TheVariants.{Work, AllDone, Spent}
use Rattle.cal_base.specs.declared.step.Entry.TheVariants.{Claim, Arrive}
use Rattle.cal_base.specs.Claims.{StepJob, size_of, claimed, verdict_on, IsLegal, MayClaim, MayArrive}
use Rattle.step_laws.specs.Laws.{IsRightClaim}
use Rattle.step_laws.proofs.Histories.{legal_push}
use Rattle.step_laws.proofs.StepLaws.{claims_are_right}
use Rattle.event_world.specs.declared.event.Event.{Event}
use Rattle.event_world.specs.declared.event.Event.TheVariants as event
use Rattle.event_world.specs.World.{Mode, Idle, Busy, Stopped, Delivery, Turn, with_mode, claim_turn, claim_by, finish_by, arrive_turn, arrive_of, delivery_at, turn_of}
use Rattle.step_laws.specs.Caller.{NoCaller}
use Rattle.step_laws.specs.Closed.{Each}
use Rattle.step_laws.proofs.Caller.{alone_claim, alone_arrive}
use Rattle.step_laws.proofs.Closed.{each_push, each_get}
use Rattle.event_world.specs.Law.{IsOfWorker}

-- what a busy worker is at is a number of the step
abbrev pub IsBusyBelow : ℕ → Mode → Type 0
IsBusyBelow n Idle = Unit {0}
IsBusyBelow n (Busy k) = k < n
IsBusyBelow n Stopped = Unit {0}

pub record DeliveryFits (job : StepJob) (d : Delivery) : Type 0 where
  pub worker : d.who < CALLER
  pub step : d.step ≤ job.number
  pub small : d.k < 65536
  pub current : d.step ≡ job.number → d.k < size_of job

pub record TurnFits (job : StepJob) (turn : Turn) : Type 0 where
  pub legal : IsLegal job turn.history
  pub alone : NoCaller turn.history
  pub modes : (w : ℕ) → IsBusyBelow (size_of job) (turn.modes w)
  pub deliveries : Each (DeliveryFits job) turn.deliveries

mode_fits : (n : ℕ) (modes : ℕ → Mode) (who : ℕ) (mode : Mode) → ((w : ℕ) → IsBusyBelow n (modes w)) → IsBusyBelow n mode → (w : ℕ) → IsBusyBelow n (with_mode modes who mode w)
mode_fits n modes who mode all here w = elim (eqb w who) as (λ b. IsBusyBelow n (cond b mode (modes w))) [ true ↦ here | false ↦ all w ]

module _ (job : StepJob) (small : size_of job ≤ 65536) (turn : Turn) (fits : TurnFits job turn) where
  claimed_fits : (who : ℕ) → who < CALLER → (c : Claimed) → claimed job turn.history who ≡ c → TurnFits job (claim_turn who c turn)
  claimed_fits who worker (Work k) e =
      let right = subst (IsRightClaim job turn.history who) e (claims_are_right job turn.history who) in
      let may : MayClaim job turn.history who k = record { known = omega arith; answered = e; caller_has_left = λ is. absurd (omega arith) } in
      record {
        legal = legal_push job turn.history (Claim who k) fits.legal may;
        alone = alone_claim turn.history who k worker fits.alone;
        modes = mode_fits (size_of job) turn.modes who (Busy k) fits.modes right.1.within;
        deliveries = fits.deliveries;
      }
  claimed_fits who worker AllDone e = fits
  claimed_fits who worker Spent e = fits

  claim_fits : (who : ℕ) → who < CALLER → (mode : Mode) → TurnFits job (claim_by job who mode turn)
  claim_fits who worker Idle = claimed_fits who worker (claimed job turn.history who) refl
  claim_fits who worker (Busy k) = fits
  claim_fits who worker Stopped = fits

  finish_fits : (who : ℕ) → who < CALLER → (mode : Mode) → turn.modes who ≡ mode → TurnFits job (finish_by job who mode turn)
  finish_fits who worker Idle e = fits
  finish_fits who worker (Busy k) e =
      let within : k < size_of job = subst (IsBusyBelow (size_of job)) e (fits.modes who) in
      record {
        legal = fits.legal;
        alone = fits.alone;
        modes = mode_fits (size_of job) turn.modes who Idle fits.modes tt;
        deliveries = each_push (DeliveryFits job) turn.deliveries _ fits.deliveries (record { worker = worker; step = omega arith; small = omega arith; current = λ _. within });
      }
  finish_fits who worker Stopped e = fits

  entered : (d : Delivery) → DeliveryFits job d → (verdict : Verdict) → verdict_on job turn.history d.who d.step d.k ≡ verdict → verdict ≢ Full
      → TurnFits job (record turn { history = turn.history ++ Arrive d.who d.step d.k verdict ∷ [] })
  entered d fit verdict judged other =
      let may : MayArrive job turn.history d.who d.step d.k verdict =
      record {
        known = omega (arith, fit.worker);
        not_later = fit.step;
        small = omega (arith, fit.small);
        in_range = fit.current;
        judged = judged;
        entered = other;
        caller_is_current = λ is. absurd (omega (arith, fit.worker));
        caller_has_left = λ is. absurd (omega (arith, fit.worker));
      }
      in
      record {
        legal = legal_push job turn.history (Arrive d.who d.step d.k verdict) fits.legal may;
        alone = alone_arrive turn.history d.who d.step d.k verdict fit.worker fits.alone;
        modes = fits.modes;
        deliveries = fits.deliveries;
      }

  arrived_fits : (d : Delivery) → DeliveryFits job d → (verdict : Verdict) → verdict_on job turn.history d.who d.step d.k ≡ verdict → TurnFits job (arrive_turn d verdict turn)
  arrived_fits d fit First e = entered d fit First e (λ is. cc)
  arrived_fits d fit Again e = entered d fit Again e (λ is. cc)
  arrived_fits d fit Stale e = entered d fit Stale e (λ is. cc)
  arrived_fits d fit Unasked e = entered d fit Unasked e (λ is. cc)
  arrived_fits d fit Full e = fits

  arrive_fits : (o : Option Delivery) → ((d : Delivery) → o ≡ Some d → DeliveryFits job d) → TurnFits job (arrive_of job o turn)
  arrive_fits None each = fits
  arrive_fits (Some d) each = arrived_fits d (each d refl) (verdict_on job turn.history d.who d.step d.k) refl

  found_fits : (number : ℕ) (d : Delivery) → delivery_at turn.deliveries number ≡ Some d → DeliveryFits job d
  found_fits number d at =
      elim (nat_lt 0 number) as (λ b. cond b (slice_get turn.deliveries (number - 1)) None ≡ Some d → DeliveryFits job d) [
        | true ↦ λ e. each_get (DeliveryFits job) turn.deliveries (number - 1) d fits.deliveries e
        | false ↦ λ e. absurd (cc)
      ] at

  pub turn_fits : (e : Event) → IsOfWorker e → TurnFits job (turn_of job e turn)
  turn_fits (event.Claim who) worker = claim_fits who worker (turn.modes who)
  turn_fits (event.Fetch who page) worker = fits
  turn_fits (event.Finish who) worker = finish_fits who worker (turn.modes who) refl
  turn_fits (event.Arrive number) worker = arrive_fits (delivery_at turn.deliveries number) (found_fits number)
  turn_fits (event.Stop who) worker = record { legal = fits.legal; alone = fits.alone; modes = mode_fits (size_of job) turn.modes who Stopped fits.modes tt; deliveries = fits.deliveries }
