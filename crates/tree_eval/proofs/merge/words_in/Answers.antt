use Rattle.std.proofs.Common.{◌++◌, ◌∷◌, [], SFits, ◌∙◌, arith, rules, w64}
use Rattle.std.proofs.lemmas.Int.{to_z-of_z}
use Rattle.tree_eval.proofs.Copying.{words_more}
use Rattle.tree_eval.proofs.merge.words_in.Goals as goal

pub loop-a-preserved : goal.loop-a-preserved
loop-a-preserved c =
    let fits : SFits w64 c.word-value.result = search rules in
    c.in_ok-push.ensures.ok
    ∙ (λ i. c.loop-a.invariant i ++ record { kind = c.kind-kind.result; value = to_z-of_z w64 c.word-value.result fits i } ∷ [])
    ∙ words_more c.args.image.now.memory c.loop-a.a c.kind-kind.result c.word-value.result (omega (arith, c.loop-a-test.true, c.len-a-end.ensures.words)) c.kind-kind.ensures c.word-value.ensures
