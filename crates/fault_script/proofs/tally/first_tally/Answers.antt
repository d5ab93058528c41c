use Rattle.std.proofs.Common.{subst}
use Rattle.fault_script.specs.Rows.{IsTallyOf}
use Rattle.fault_script.specs.Acts.{first_tally}
use Rattle.fault_script.proofs.Counts.{first_follows}
use Rattle.fault_script.proofs.tally.first_tally.Goals as goal

pub returns-clause-follows : goal.returns-clause-follows
returns-clause-follows c = subst (λ row. IsTallyOf row (first_tally c.row.inside.number)) c.row.view_is (first_follows _ c.row.invariant)
