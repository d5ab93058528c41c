use Rattle.std.proofs.Common.{◌≡◌, ◌∙◌, List, length, refl, ap, sym, subst, Some, ◌≤◌}
use Rattle.std.specs.Prelude.{slice_get}
use Rattle.bytecode.specs.declared.instr.Instr.{Instr}
use Rattle.code_verify.specs.Tests.{KeepsRules}
use Rattle.code_verify.proofs.Lists.{each_next, each_whole, entry_there}
use Rattle.code_verify.proofs.standing.instructions_fit.Goals as goal

pub loop-place-preserved : goal.loop-place-preserved
loop-place-preserved c =
    let at : slice_get c.args.c.now.instrs c.loop-place.place ≡ Some c.instr-item.result = ap (λ (l : List Instr). slice_get l c.loop-place.place) (sym c.as_slice-instr-items.ensures)
    ∙ entry_there c.as_slice-instr-items.result.now c.loop-place.place c.instr-item.result c.loop-place-test.true c.instr-item.is in
    each_next (KeepsRules c.args.m.now c.args.owner c.args.c.now) c.args.c.now.instrs c.loop-place.place c.instr-item.result c.loop-place.invariant at (c.if-not-keeps_rules.ensures.0 refl)

pub returns : goal.returns
returns c =
    let whole : length c.args.c.now.instrs ≤ c.loop-place.place = subst (λ (l : List Instr). length l ≤ c.loop-place.place) c.as_slice-instr-items.ensures c.loop-place-test.false in
    (λ yes. each_whole (KeepsRules c.args.m.now c.args.owner c.args.c.now) c.args.c.now.instrs c.loop-place.place c.loop-place.invariant whole, λ all. refl)
