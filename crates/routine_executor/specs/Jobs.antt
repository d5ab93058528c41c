-- Two jobs are equal in one way at most.
use Rattle.std.specs.Prelude.{ℤ}
use Rattle.std.specs.FinMap.{FinMap, code}
use Rattle.std.specs.Coded.{coded_ℕ, coded_ℤ, Coded-set}
use Rattle.std.specs.Ordering.{nat_cmp}
use Rattle.std.proofs.Props.{props}
use Rattle.cal_base.specs.Claims.{StepJob}

-- two updates are equal in one way at most
updates_are-set : IsSet (FinMap nat_cmp ℤ)
updates_are-set = Coded-set (code coded_ℕ coded_ℤ)

-- two jobs are equal in one way at most
pub jobs_are-set : IsSet StepJob
jobs_are-set = hlevel (props, updates_are-set)
