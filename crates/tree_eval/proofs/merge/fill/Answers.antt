use Rattle.std.proofs.Common.{◌+◌, ◌<◌, ℤ, SFits, length, sym, ap, subst, ◌∙◌, arith, rules, w64}
use Rattle.std.proofs.lemmas.Int.{to_z-of_z}
use Rattle.cal_base.specs.Memory.{Memory, kinds_of, with_value}
use Rattle.cal_base.proofs.Images.{kinds-with_value}
use Rattle.tree_eval.proofs.Copying.{as_long, same_memory, IsCopied, copied_more}
use Rattle.tree_eval.proofs.merge.fill.Goals as goal

pub loop-a-preserved : goal.loop-a-preserved
loop-a-preserved c =
    let to = c.loop-a.image.memory in
    let from = c.args.memory.now in
    let fits : SFits w64 c.value_at.result = search rules in
    let is = c.set.ensures.memory ∙ ap (λ (v : ℤ). with_value to c.loop-a.a v) (to_z-of_z w64 c.value_at.result fits ∙ c.value_at.ensures) in
    let within : c.loop-a.a < length to = omega (arith, c.loop-a-test.true, c.len-a-end.ensures.words, as_long to from c.loop-a.invariant.kinds, as_long c.args.image.now.memory from c.requires) in
    record {
      kinds = ap kinds_of c.set.ensures.memory ∙ kinds-with_value to c.loop-a.a _ ∙ c.loop-a.invariant.kinds;
      copied = subst (λ (memory : Memory). IsCopied (c.loop-a.a + 1) memory from) (sym is) (copied_more to from c.loop-a.a within c.loop-a.invariant.copied);
    }

pub returns : goal.returns
returns c =
    let size = as_long c.args.image.now.memory c.args.memory.now c.requires in
    same_memory c.loop-a.image.memory c.args.memory.now c.loop-a.invariant.kinds
    (λ i h. c.loop-a.invariant.copied i (omega (arith, h, c.loop-a-test.false, c.len-a-end.ensures.words, size)))
