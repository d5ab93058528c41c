use Rattle.std.proofs.Common.{◌≡◌, ◌≤◌, arith}
use Rattle.step_rows.proofs.ManyRoutines.{many_is}
use Rattle.step_rows.proofs.steps.most_routines.Goals as goal

pub returns-clause-value : goal.returns-clause-value
returns-clause-value c = many_is

pub returns-clause-limit : goal.returns-clause-limit
returns-clause-limit c = omega (arith, many_is)
