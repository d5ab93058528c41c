use Rattle.std.proofs.Common.{◌≡◌, ◌+◌, ◌-◌, ℕ, Bool, cond, sym, ap, ◌∙◌, refl, arith}
use Rattle.cal_base.specs.declared.step.WorkerTally.{WorkerTally}
use Rattle.cal_base.specs.History.{History, claims_by, is_caller}
use Rattle.cal_base.specs.Claims.{size_of}
use Rattle.step_laws.specs.Caller.{with_pairs, completed}
use Rattle.worker_gate.specs.Working.{with_claims, with_pages}
use Rattle.routine_executor.proofs.Numbers.{size_is}
use Rattle.worker_gate.proofs.Turns.{turned, ended, whole_complete}
use Rattle.worker_gate.proofs.caller.take_turns.Goals as goal

none_more : (n : ℕ) → n ≡ n + 0
none_more n = omega arith

none_less : (n k : ℕ) → n ≡ k → n - 0 ≡ k
none_less n k e = omega arith

one_more : (n i : ℕ) → n + i + 1 ≡ n + (i + 1)
one_more n i = omega arith

pub loop-taken-init : goal.loop-taken-init
loop-taken-init g c =
    let job = c.args.job.now in
    let size : job.n ≡ size_of g.N.JobName.job = sym job.all ∙ sym (ap size_of job.named ∙ size_is job.code.now job.fuel job.step job.image.now.memory job.first_block job.widths.now job.there) in
    record {
      left = ap (λ (k : ℕ). with_pairs k g.N.JobName.job c.args.core.now) (none_less job.n (size_of g.N.JobName.job) size);
      claims = c.requires.alone.claims;
      arrivals = c.requires.alone.arrivals;
      tally = λ i. record c.args.worker.now.tally { claims = none_more c.args.worker.now.tally.claims i; executed = none_more c.args.worker.now.tally.executed i };
      row = refl;
      size = refl;
      may = c.requires.may;
    }

pub turn-requires-clause-claims : goal.turn-requires-clause-claims
turn-requires-clause-claims g c =
    let job = c.args.job.now in
    omega (arith, c.loop-taken.invariant.claims, c.loop-taken-test.true, job.all, ap size_of job.named, size_is job.code.now job.fuel job.step job.image.now.memory job.first_block job.widths.now job.there)

pub turn-requires-clause-arrivals : goal.turn-requires-clause-arrivals
turn-requires-clause-arrivals g c =
    let job = c.args.job.now in
    omega (arith, c.loop-taken.invariant.arrivals, c.loop-taken-test.true, job.all, ap size_of job.named, size_is job.code.now job.fuel job.step job.image.now.memory job.first_block job.widths.now job.there)

pub loop-taken-preserved : goal.loop-taken-preserved
loop-taken-preserved g c =
    let job = c.args.job.now in
    let t = turned g.N.JobName.job c.loop-taken.core c.turn.new.core (completed g.N.JobName.job c.args.core.now) c.turn.result job.n c.loop-taken.taken c.if-not-turn.false c.turn.ensures.took
    c.loop-taken-test.true c.loop-taken.invariant.left in
    let tally = c.args.worker.now.tally in
    let pages : ℕ = c.turn.new.worker.tally.pages in
    record {
      left = t.left;
      claims = omega (arith, t.claims, c.loop-taken.invariant.claims);
      arrivals = omega (arith, t.arrivals, c.loop-taken.invariant.arrivals);
      tally =
          c.turn.ensures.tally
          ∙ ap (λ (b : Bool). with_pages (with_claims c.loop-taken.worker.tally (cond b 1 0)) pages) c.if-not-turn.false
          ∙ ap (λ (t : WorkerTally). with_pages (with_claims t 1) pages) c.loop-taken.invariant.tally
          ∙ (λ i. record tally { claims = one_more tally.claims c.loop-taken.taken i; executed = one_more tally.executed c.loop-taken.taken i; pages = pages });
      row = c.turn.ensures.row ∙ c.loop-taken.invariant.row;
      size = c.turn.ensures.size ∙ c.loop-taken.invariant.size;
      may = c.turn.ensures.may;
    }

pub returns-then-not-turn-clause-complete : goal.returns-then-not-turn-clause-complete
returns-then-not-turn-clause-complete g c =
    let job = c.args.job.now in
    let e = ended g.N.JobName.job c.loop-taken.core c.turn.new.core (completed g.N.JobName.job c.args.core.now) c.turn.result job.n c.loop-taken.taken c.if-not-turn.true c.turn.ensures.took
    c.loop-taken-test.true c.loop-taken.invariant.left in
    whole_complete g.N.JobName.job c.args.core.now c.turn.new.core c.history-legal.ensures.legal c.requires.alone
    (omega (arith, job.few, job.all, ap size_of job.named, size_is job.code.now job.fuel job.step job.image.now.memory job.first_block job.widths.now job.there)) e.1

pub returns-then-not-turn-clause-few : goal.returns-then-not-turn-clause-few
returns-then-not-turn-clause-few g c =
    let job = c.args.job.now in
    let e = ended g.N.JobName.job c.loop-taken.core c.turn.new.core (completed g.N.JobName.job c.args.core.now) c.turn.result job.n c.loop-taken.taken c.if-not-turn.true c.turn.ensures.took
    c.loop-taken-test.true c.loop-taken.invariant.left in
    omega (arith, ap (λ (h : History). claims_by is_caller h) e.0, c.loop-taken.invariant.claims, c.loop-taken-test.true, job.all, ap size_of job.named, size_is job.code.now job.fuel job.step job.image.now.memory job.first_block job.widths.now job.there)

pub returns-clause-complete : goal.returns-clause-complete
returns-clause-complete g c =
    let job = c.args.job.now in
    let past : job.n - c.loop-taken.taken ≡ 0 = omega (arith, c.loop-taken-test.false) in
    whole_complete g.N.JobName.job c.args.core.now c.loop-taken.core c.history-legal.ensures.legal c.requires.alone
    (omega (arith, job.few, job.all, ap size_of job.named, size_is job.code.now job.fuel job.step job.image.now.memory job.first_block job.widths.now job.there))
    (ap (λ (k : ℕ). with_pairs k g.N.JobName.job c.loop-taken.core) (sym past) ∙ c.loop-taken.invariant.left)

pub returns-clause-few : goal.returns-clause-few
returns-clause-few g c =
    let job = c.args.job.now in
    omega (arith, c.loop-taken.invariant.claims, c.loop-taken.auto.taken-end, job.all, ap size_of job.named, size_is job.code.now job.fuel job.step job.image.now.memory job.first_block job.widths.now job.there)
