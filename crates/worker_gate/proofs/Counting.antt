-- What the shares of a worker say after its turns.
use Rattle.std.proofs.Common.{◌≡◌, ℕ, ◌+◌, ◌<◌, ◌≤◌, Bool, true, false, refl, sym, ◌∙◌, ap, subst, arith, Option, Some, None}
use Rattle.std.specs.Prelude.{IfSome, is_some, not, ◌&&◌, if◌then◌else◌}
use Rattle.cal_base.specs.declared.step.WorkerTally.{WorkerTally}
use Rattle.cal_base.specs.declared.step.Claimed.{Claimed}
use Rattle.cal_base.specs.declared.step.Claimed.TheVariants.{Work, AllDone, Spent}
use Rattle.cal_base.specs.Pages.{Paged}
use Rattle.bytecode.specs.declared.module.Module.{Module}
use Rattle.fault_script.specs.declared.act.Act.{Act}
use Rattle.fault_script.specs.declared.act.Act.TheVariants.{Deliver, Lose, Repeat, Hold}
use Rattle.fault_script.specs.Acts.{counted_as}
use Rattle.fault_script.specs.Rows.{Row, IsTallyOf}
use Rattle.step_board.specs.Amounts.{Amounts, with_claim}
use Rattle.worker_gate.specs.Acting.{times_delivered, held_after}
use Rattle.worker_gate.specs.Working.{WorkerState, MayWork, Executes}
use Rattle.worker_gate.specs.Worked.{Counts, IsLeft, late, ends}

-- ---- counts

pub counts_refl : (t : WorkerTally) (a : Amounts) → Counts t t a a
counts_refl t a = record { claims = refl; arrivals = omega arith; few = omega arith; parts = refl }

pub counts_trans : {t t1 t2 : WorkerTally} {a a1 a2 : Amounts} → Counts t t1 a a1 → Counts t1 t2 a1 a2 → Counts t t2 a a2
counts_trans one two = record {
  claims = omega (arith, one.claims, two.claims);
  arrivals = omega (arith, one.arrivals, two.arrivals);
  few = omega (arith, one.few, two.few);
  parts = two.parts ∙ one.parts;
}

-- under other names
pub counts_as : {t t1 t2 t3 : WorkerTally} {a a1 a2 a3 : Amounts} → Counts t t1 a a1 → t2 ≡ t → t3 ≡ t1 → a2 ≡ a → a3 ≡ a1 → Counts t2 t3 a2 a3
counts_as {t} {t1} {t2} {t3} {a} {a1} {a2} {a3} counts p q r s =
    subst (λ (x : WorkerTally). Counts x t3 a2 a3) (sym p)
    (subst (λ (x : WorkerTally). Counts t x a2 a3) (sym q)
    (subst (λ (x : Amounts). Counts t t1 x a3) (sym r)
    (subst (λ (x : Amounts). Counts t t1 a x) (sym s) counts)))

-- a claim that gives no work
pub other_claim : (a : Amounts) (r : Claimed) → ((k : ℕ) → r ≡ Work k → ⊥) → with_claim a r ≡ record a { ends = a.ends + 1 }
other_claim a (Work k) other = absurd (other k refl)
other_claim a AllDone other = refl
other_claim a Spent other = refl

pub counts_end : (t : WorkerTally) (a a' : Amounts) → a' ≡ record a { ends = a.ends + 1 } → Counts t t a a'
counts_end t a a' is =
    let c : a'.claims ≡ a.claims = ap (λ (x : Amounts). x.claims) is in
    let n : a'.arrivals ≡ a.arrivals = ap (λ (x : Amounts). x.arrivals) is in
    record { claims = omega (arith, c); arrivals = omega (arith, n); few = omega (arith, n); parts = ap (λ (x : Amounts). x.parts) is }

-- a claim with which the worker stopped
pub counts_stop : (t t' : WorkerTally) (a a' : Amounts) (k : ℕ) → t' ≡ counted_as t None → a' ≡ with_claim a (Work k) → Counts t t' a a'
counts_stop t t' a a' k counted is =
    let c : a'.claims ≡ a.claims + 1 = ap (λ (x : Amounts). x.claims) is in
    let n : a'.arrivals ≡ a.arrivals = ap (λ (x : Amounts). x.arrivals) is in
    let tc : t'.claims ≡ t.claims + 1 = ap (λ (x : WorkerTally). x.claims) counted in
    let te : t'.executed ≡ t.executed = ap (λ (x : WorkerTally). x.executed) counted in
    let tl : t'.lost ≡ t.lost = ap (λ (x : WorkerTally). x.lost) counted in
    let tr : t'.repeated ≡ t.repeated = ap (λ (x : WorkerTally). x.repeated) counted in
    let th : t'.held ≡ t.held = ap (λ (x : WorkerTally). x.held) counted in
    record { claims = omega (arith, c, tc); arrivals = omega (arith, n, te, tl, tr, th); few = omega (arith, n, tc); parts = ap (λ (x : Amounts). x.parts) is }

-- what an act adds to the tally and to the arrivals
record Adds (act : Act) (lost repeated held : ℕ) : Type 0 where
  pub balanced : times_delivered act + (lost + held) ≡ 1 + repeated
  pub few : times_delivered act ≤ 2
  pub lost_is : (t : WorkerTally) → (counted_as t (Some act)).lost ≡ t.lost + lost
  pub repeated_is : (t : WorkerTally) → (counted_as t (Some act)).repeated ≡ t.repeated + repeated
  pub held_is : (t : WorkerTally) → (counted_as t (Some act)).held ≡ t.held + held
  pub claims_is : (t : WorkerTally) → (counted_as t (Some act)).claims ≡ t.claims + 1
  pub executed_is : (t : WorkerTally) → (counted_as t (Some act)).executed ≡ t.executed + 1

same : (n : ℕ) → n ≡ n + 0
same n = omega arith

adds : (act : Act) → (lost repeated held : ℕ) × Adds act lost repeated held
adds Deliver = (0, 0, 0, record { balanced = refl; few = omega arith; lost_is = λ t. same t.lost; repeated_is = λ t. same t.repeated; held_is = λ t. same t.held; claims_is = λ t. refl; executed_is = λ t. refl })
adds Lose = (1, 0, 0, record { balanced = refl; few = omega arith; lost_is = λ t. refl; repeated_is = λ t. same t.repeated; held_is = λ t. same t.held; claims_is = λ t. refl; executed_is = λ t. refl })
adds Repeat = (0, 1, 0, record { balanced = refl; few = omega arith; lost_is = λ t. same t.lost; repeated_is = λ t. refl; held_is = λ t. same t.held; claims_is = λ t. refl; executed_is = λ t. refl })
adds Hold = (0, 0, 1, record { balanced = refl; few = omega arith; lost_is = λ t. same t.lost; repeated_is = λ t. same t.repeated; held_is = λ t. refl; claims_is = λ t. refl; executed_is = λ t. refl })

-- a claim whose answer was executed and delivered as the act says
pub counts_act : (t t1 t2 : WorkerTally) (a a1 a2 : Amounts) (k p : ℕ) (act : Act) → t1 ≡ counted_as t (Some act) → t2 ≡ record t1 { pages = p } → a1 ≡ with_claim a (Work k)
    → a2 ≡ record a1 { arrivals = a1.arrivals + times_delivered act } → Counts t t2 a a2
counts_act t t1 t2 a a1 a2 k p act counted ran claimed arrived =
    let (lost, repeated, held, x) = adds act in
    let c : a2.claims ≡ a.claims + 1 = ap (λ (x : Amounts). x.claims) arrived ∙ ap (λ (x : Amounts). x.claims) claimed in
    let n1 : a1.arrivals ≡ a.arrivals = ap (λ (x : Amounts). x.arrivals) claimed in
    let n : a2.arrivals ≡ a1.arrivals + times_delivered act = ap (λ (x : Amounts). x.arrivals) arrived in
    let tc : t2.claims ≡ t.claims + 1 = ap (λ (x : WorkerTally). x.claims) ran ∙ ap (λ (x : WorkerTally). x.claims) counted ∙ x.claims_is t in
    let te : t2.executed ≡ t.executed + 1 = ap (λ (x : WorkerTally). x.executed) ran ∙ ap (λ (x : WorkerTally). x.executed) counted ∙ x.executed_is t in
    let tl : t2.lost ≡ t.lost + lost = ap (λ (x : WorkerTally). x.lost) ran ∙ ap (λ (x : WorkerTally). x.lost) counted ∙ x.lost_is t in
    let tr : t2.repeated ≡ t.repeated + repeated = ap (λ (x : WorkerTally). x.repeated) ran ∙ ap (λ (x : WorkerTally). x.repeated) counted ∙ x.repeated_is t in
    let th : t2.held ≡ t.held + held = ap (λ (x : WorkerTally). x.held) ran ∙ ap (λ (x : WorkerTally). x.held) counted ∙ x.held_is t in
    record {
      claims = omega (arith, c, tc);
      arrivals = omega (arith, n, n1, te, tl, tr, th, x.balanced);
      few = omega (arith, n, n1, tc, x.few);
      parts = ap (λ (x : Amounts). x.parts) arrived ∙ ap (λ (x : Amounts). x.parts) claimed;
    }

-- ---- stops and ends

pub goes_on : (t : WorkerTally) (act : Act) → (counted_as t (Some act)).stopped ≡ t.stopped
goes_on t Deliver = refl
goes_on t Lose = refl
goes_on t Repeat = refl
goes_on t Hold = refl

pub who_stays : (t : WorkerTally) (act : Option Act) → (counted_as t act).who ≡ t.who
who_stays t None = refl
who_stays t (Some Deliver) = refl
who_stays t (Some Lose) = refl
who_stays t (Some Repeat) = refl
who_stays t (Some Hold) = refl

none_late : (b : Bool) → ◌≡◌ {A = ℕ} (if b && false then 1 else 0) 0
none_late true = refl
none_late false = refl

-- a stopped worker lets nothing arrive
pub late_stopped : (w : WorkerState) → w.tally.stopped ≡ true → late w ≡ 0
unfolding late
late_stopped w stopped = ap (λ (b : Bool). if is_some w.holds && not b then 1 else 0) stopped ∙ none_late (is_some w.holds)

-- one that goes on and holds an answer back lets it arrive
pub late_some : (w : WorkerState) (s : ℕ) → w.tally.stopped ≡ false → w.holds ≡ Some s → late w ≡ 1
unfolding late
late_some w s going holds = λ i. if is_some (holds i) && not (going i) then 1 else 0

pub late_none : (w : WorkerState) → w.holds ≡ None → late w ≡ 0
unfolding late
late_none w holds = λ i. if is_some (holds i) && not w.tally.stopped then 1 else 0

pub ends_stopped : (w : WorkerState) → w.tally.stopped ≡ true → ends w ≡ 0
unfolding ends
ends_stopped w stopped = ap (λ (b : Bool). if b then 0 else 1) stopped

pub ends_going : (w : WorkerState) → w.tally.stopped ≡ false → ends w ≡ 1
unfolding ends
ends_going w going = ap (λ (b : Bool). if b then 0 else 1) going

pub plus_none : (a e : ℕ) → e ≡ 0 → a ≡ a + e
plus_none a e none = omega (arith, none)

pub plus : (a b e n : ℕ) → b ≡ a + n → e ≡ n → b ≡ a + e
plus a b e n more is = omega (arith, more, is)

pub plus_same : (a b e : ℕ) → b ≡ a → e ≡ 0 → b ≡ a + e
plus_same a b e more is = omega (arith, more, is)

-- ---- what a worker is left as

pub holds_older : (o : Option ℕ) (step : ℕ) → IfSome o (λ s. s < step) → IfSome o (λ s. s ≤ step)
holds_older None step holds = holds
holds_older (Some s) step holds = omega (arith, holds)

holds_on : (step : ℕ) (act : Act) (now : ℕ) (before : Option ℕ) → now ≤ step → IfSome before (λ s. s ≤ step) → IfSome (held_after act now before) (λ s. s ≤ step)
holds_on step Deliver now before le holds = holds
holds_on step Lose now before le holds = holds
holds_on step Repeat now before le holds = holds
holds_on step Hold now before le holds = le

-- what an execution needs does not depend on tally and held answer
pub still_may : (image : Paged) (m : Module) (w w' : WorkerState) (t : WorkerTally) (o : Option ℕ) → w' ≡ record w { tally = t; holds = o } → MayWork w image m → MayWork w' image m
still_may image m w w' t o is may = subst (λ (x : WorkerState). MayWork x image m) (sym is) (record { kinds = may.kinds; room = may.room; fits = may.fits })

module _ {step : ℕ} {image : Paged} {m : Module} where
  pub left_trans : {w w1 w2 : WorkerState} → IsLeft step image m w w1 → IsLeft step image m w1 w2 → IsLeft step image m w w2
  left_trans one two = record {
    who = two.who ∙ one.who;
    row = two.row ∙ one.row;
    follows = two.follows;
    holds = two.holds;
    size = two.size ∙ one.size;
    may = two.may;
    goes_on = λ going. one.goes_on (two.goes_on going);
  }

  -- a worker that did nothing
  pub left_same : (w : WorkerState) → IsTallyOf w.row w.tally → IfSome w.holds (λ s. s ≤ step) → MayWork w image m → IsLeft step image m w w
  left_same w follows holds may = record { who = refl; row = refl; follows = follows; holds = holds; size = refl; may = may; goes_on = λ going. going }

  -- a worker that let arrive what it held back
  pub left_begun : (w w' : WorkerState) → w' ≡ record w { holds = None } → IsTallyOf w.row w.tally → MayWork w image m → IsLeft step image m w w'
  left_begun w w' is follows may =
      subst (λ (x : WorkerState). IsLeft step image m w x) (sym is)
      (record { who = refl; row = refl; follows = follows; holds = tt; size = refl; may = record { kinds = may.kinds; room = may.room; fits = may.fits }; goes_on = λ going. going })

  -- a worker that stopped
  pub left_stopped : (w w' : WorkerState) → w' ≡ record w { tally = counted_as w.tally None } → IsTallyOf w'.row w'.tally → IfSome w.holds (λ s. s ≤ step) → MayWork w image m → w.tally.stopped ≡ false
      → IsLeft step image m w w'
  left_stopped w w' is follows holds may going = record {
    who = ap (λ (x : WorkerState). x.tally.who) is;
    row = ap (λ (x : WorkerState). x.row) is;
    follows = follows;
    holds = subst (λ (o : Option ℕ). IfSome o (λ s. s ≤ step)) (sym (ap (λ (x : WorkerState). x.holds) is)) holds;
    size = ap (λ (x : WorkerState). x.kept.size) is;
    may = still_may image m w w' (counted_as w.tally None) w.holds is may;
    goes_on = λ _. going;
  }

  -- a worker that claimed, executed, and held back as the act says
  pub left_acted : (w w1 w2 w3 : WorkerState) (act : Act) (now : ℕ) → w1 ≡ record w { tally = counted_as w.tally (Some act) } → IsTallyOf w1.row w1.tally → Executes w1 w2 image m
      → w3 ≡ record w2 { holds = held_after act now w2.holds } → now ≤ step → IfSome w.holds (λ s. s ≤ step) → w.tally.stopped ≡ false → IsLeft step image m w w3
  left_acted w w1 w2 w3 act now noted follows ran held le holds going =
      let row1 = ap (λ (x : WorkerState). x.row) noted in
      let row3 : w3.row ≡ w1.row = ap (λ (x : WorkerState). x.row) held ∙ ran.row in
      let tally3 : w3.tally ≡ record w1.tally { pages = w2.tally.pages } = ap (λ (x : WorkerState). x.tally) held ∙ ran.tally in
      let holds2 : w2.holds ≡ w.holds = ran.holds ∙ ap (λ (x : WorkerState). x.holds) noted in
      let ran_so : IsTallyOf w1.row (record w1.tally { pages = w2.tally.pages }) =
      record { stopped = follows.stopped; executed = follows.executed; lost = follows.lost; repeated = follows.repeated; held = follows.held } in
      record {
        who = ap (λ (x : WorkerTally). x.who) tally3 ∙ ap (λ (x : WorkerState). x.tally.who) noted ∙ who_stays w.tally (Some act);
        row = row3 ∙ row1;
        follows = subst (λ (x : WorkerTally). IsTallyOf w3.row x) (sym tally3) (subst (λ (x : Row). IsTallyOf x (record w1.tally { pages = w2.tally.pages })) (sym row3) ran_so);
        holds = subst (λ (o : Option ℕ). IfSome o (λ s. s ≤ step)) (sym (ap (λ (x : WorkerState). x.holds) held))
            (holds_on step act now w2.holds le (subst (λ (o : Option ℕ). IfSome o (λ s. s ≤ step)) (sym holds2) holds));
        size = ap (λ (x : WorkerState). x.kept.size) held ∙ ran.size ∙ ap (λ (x : WorkerState). x.kept.size) noted;
        may = still_may image m w2 w3 w2.tally (held_after act now w2.holds) held ran.may;
        goes_on = λ _. going;
      }
