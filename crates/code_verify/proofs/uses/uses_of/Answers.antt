use Rattle.std.proofs.Common.{◌≡◌, ◌∙◌, sym, subst, arith, length, ◌∷◌, [], List, Bool, ap}
use Rattle.std.proofs.lemmas.List.{length-append}
use Rattle.std.specs.Prelude.{slice_get, Some}
use Rattle.code_verify.specs.Tests.{TellsUses}
use Rattle.code_verify.proofs.Using.{tells_next, all_told}
use Rattle.code_verify.proofs.uses.uses_of.Goals as goal

pub loop-function-preserved : goal.loop-function-preserved
loop-function-preserved c =
    let at : slice_get c.args.m.now.functions (length c.loop-function.uses) ≡ Some c.in-Some.function.now = ap (slice_get c.args.m.now.functions) (sym c.len.ensures) ∙ sym c.in-Some.ensures.value in
    let next = tells_next c.args.m.now c.requires.backwards c.loop-function.uses c.loop-function.invariant.tells c.in-Some.function.now at c.some_uses-used.result c.some_uses-used.ensures in
    let long = ap length c.in_ok-push.ensures.ok in
    record {
      tells = subst (λ (l : List Bool). TellsUses c.args.m.now l (length l)) (sym c.in_ok-push.ensures.ok) next;
      within = omega (arith, long, length-append c.loop-function.uses (c.some_uses-used.result ∷ []), c.in-Some.ensures.within, c.len.ensures);
    }

pub returns : goal.returns
returns c = all_told c.args.m.now c.loop-function.uses c.loop-function.invariant.within (ap (slice_get c.args.m.now.functions) (sym c.len.ensures) ∙ sym c.in_default.ensures.value)
    c.loop-function.invariant.tells
