use Rattle.std.proofs.Common.{◌≡◌, ◌≤◌, ◌<◌, false, IfSome}
use Rattle.cal_base.specs.declared.step.TheConstants.{CALLER}
use Rattle.worker_gate.specs.Working.{MayWork}
use Rattle.worker_gate.specs.Worked.{Counts, IsLeft}
use Rattle.worker_gate.proofs.working.turns.Given as goal

-- the worker goes on, and the shares say what it did so far
abbrev pub invariant-loop : goal.invariant-loop
invariant-loop g l = record {
  can_next : (goal.iterator-loop g).can_next l.iterator';
  is_finite : (goal.iterator-loop g).is_finite l.iterator';
  who : l.worker.tally.who < CALLER;
  going : l.worker.tally.stopped ≡ false;
  may : MayWork l.worker l.job.image.now l.job.code.now;
  holds : IfSome l.worker.holds (λ s. s ≤ g.N.JobName.job.number);
  counts : Counts l.initial.worker.tally l.worker.tally l.initial.shares l.shares;
  held : l.shares.held ≡ l.initial.shares.held;
  ends : l.shares.ends ≡ l.initial.shares.ends;
  left : IsLeft g.N.JobName.job.number l.job.image.now l.job.code.now l.initial.worker l.worker;
}
