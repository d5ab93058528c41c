use Rattle.std.proofs.Common.{map, sym, subst}
use Rattle.std.specs.List.Sorted.{IsStrictlyIncreasing}
use Rattle.code_verify.specs.Rules.{IsVerified}
use Rattle.routine_vm.proofs.Ascending.{ascending}
use Rattle.routine_vm.proofs.image.first_image.Goals as goal

pub make-requires-clause-tallies_ascend : goal.make-requires-clause-tallies_ascend
make-requires-clause-tallies_ascend c =
    let m = c.module-m.result.now in
    let ok = subst IsVerified (sym c.module-m.ensures.same) c.module-m.ensures.verified in
    subst IsStrictlyIncreasing (sym c.as_slice.ensures) (ascending 0 m.tallies ok.spelled.tallies.1)

pub make-requires-clause-stated_ascend : goal.make-requires-clause-stated_ascend
make-requires-clause-stated_ascend c =
    let m = c.module-m.result.now in
    let ok = subst IsVerified (sym c.module-m.ensures.same) c.module-m.ensures.verified in
    rw c.as_slice-2.ensures (ascending 0 (map (λ entry. entry.0) m.initial) ok.spelled.initial.1)
