use Rattle.std.proofs.Common.{ℕ, ap, ◌∙◌}
use Rattle.cal_base.specs.declared.step.TheConstants.{CALLER}
use Rattle.cal_base.specs.Claims.{verdict_on}
use Rattle.worker_gate.proofs.caller.deliver.Goals as goal

pub returns-clause-verdict : goal.returns-clause-verdict
returns-clause-verdict g c = c.arrive.ensures.verdict ∙ ap (λ (k : ℕ). verdict_on g.N.JobName.job c.args.core.now CALLER g.N.JobName.job.number k) c.execute.ensures.k
