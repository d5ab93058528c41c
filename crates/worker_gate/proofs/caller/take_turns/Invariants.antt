use Rattle.std.proofs.Common.{◌≡◌, ◌-◌}
use Rattle.cal_base.specs.History.{claims_by, arrivals_by, is_caller}
use Rattle.step_laws.specs.Caller.{with_pairs, completed}
use Rattle.worker_gate.specs.Working.{MayWork, with_claims, with_pages}
use Rattle.worker_gate.proofs.caller.take_turns.Given as goal

-- so many turns were taken, and those that are left complete the step
abbrev pub invariant-loop-taken : goal.invariant-loop-taken
invariant-loop-taken g l = record {
  left : with_pairs (l.job.n - l.taken) g.N.JobName.job l.core ≡ completed g.N.JobName.job l.initial.core;
  claims : claims_by is_caller l.core ≡ l.taken;
  arrivals : arrivals_by is_caller l.core ≡ l.taken;
  row : l.worker.row ≡ l.initial.worker.row;
  tally : l.worker.tally ≡ with_pages (with_claims l.initial.worker.tally l.taken) l.worker.tally.pages;
  size : l.worker.kept.size ≡ l.initial.worker.kept.size;
  may : MayWork l.worker l.job.image.now l.job.code.now;
}
