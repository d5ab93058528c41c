use Rattle.std.proofs.Common.{◌∙◌, ◌++◌, ap, arith, rules, SFits, w64}
use Rattle.std.proofs.lemmas.Int.{to_z-of_z}
use Rattle.std.proofs.lemmas.Result.{IfOk-at_ok}
use Rattle.csl_meaning.specs.Layout.{words_in, word_count}
use Rattle.tree_eval.specs.Initial.{stated_value}
use Rattle.tree_eval.proofs.Starting.{words_from, words_whole, word_more, sub_zero, word_of}
use Rattle.tree_eval.proofs.first_memory.add_words.Goals as goal

pub loop-at-init : goal.loop-at-init
loop-at-init c =
    ap (λ n. c.args.memory.now ++ words_from c.args.shared.now.kind c.args.shared.now.values 0 n) (sub_zero (words_in c.args.shared.now))
    ∙ ap (λ m. c.args.memory.now ++ m) (words_whole c.args.shared.now)

pub loop-at-preserved : goal.loop-at-preserved
loop-at-preserved c =
    let count_is = c.word_count-count.ensures ∙ ap word_count c.items_in.ensures in
    let fits : SFits w64 c.stated-value.result = search rules in
    rw (IfOk-at_ok _ c.in_ok-push.was c.push.ensures.ok)
    (word_more c.args.shared.now.kind c.args.shared.now.values c.loop-at.memory c.loop-at.at (words_in c.args.shared.now) _ (omega (arith, count_is))
    (ap (λ v. word_of c.args.shared.now.kind v) (to_z-of_z w64 c.stated-value.result fits ∙ c.stated-value.ensures ∙ ap (λ l. stated_value l c.loop-at.at) c.as_slice.ensures))
    ∙ c.loop-at.invariant)
