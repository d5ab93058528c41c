use Rattle.std.proofs.Common.{sym, subst, List, ℕ, ℤ, ◌^◌}
use Rattle.std.specs.FinMap.{from_entries}
use Rattle.std.specs.Ordering.{nat_cmp}
use Rattle.cal_base.specs.Updates.{IsBelow}
use Rattle.cal_base.proofs.Updates.{empty_below}
use Rattle.cal_base.proofs.update.KeptUpdate.empty.Goals as goal

pub invariant_of-result : goal.invariant_of-result
invariant_of-result c =
    subst (λ (entries : List (ℕ × ℤ)). IsBelow (2 ^ 32) (from_entries {R = nat_cmp} entries)) (sym c.new.ensures.empty) (empty_below (2 ^ 32))
