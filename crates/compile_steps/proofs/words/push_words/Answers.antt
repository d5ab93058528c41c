use Rattle.std.proofs.Common.{◌≡◌, ◌+◌, ◌∷◌, ap, ◌∙◌, sym, drop, arith}
use Rattle.std.specs.Prelude.{unwrap_or}
use Rattle.csl_meaning.specs.Layout.{items_in, words_in}
use Rattle.expression_code.proofs.ListLemmas.{step}
use Rattle.cal_terms.proofs.Lists.{next_item}
use Rattle.expression_code.proofs.AreaLemmas.{count_of}
use Rattle.compile_steps.proofs.SharedLemmas.{tallies_more, initial_more, length_more, words_left}
use Rattle.compile_steps.proofs.words.push_words.Goals as goal

pub items_in-requires : goal.items_in-requires
items_in-requires c =
    omega (arith, c.requires, c.loop-shared.invariant.count, words_left c.args.all.now c.loop-shared.shared-index c.shared-item.result (omega arith) c.shared-item.is)

pub push_tallies-requires-clause-small : goal.push_tallies-requires-clause-small
push_tallies-requires-clause-small c =
    let words : c.unwrap_or-count.result ≡ words_in c.shared-item.result = c.unwrap_or-count.ensures ∙ ap (λ o. unwrap_or o 1) c.items_in.ensures ∙ count_of (items_in c.shared-item.result.size) in
    omega (arith, words, c.requires, c.loop-shared.invariant.count, words_left c.args.all.now c.loop-shared.shared-index c.shared-item.result (omega arith) c.shared-item.is)

pub push_initial-requires-clause-small : goal.push_initial-requires-clause-small
push_initial-requires-clause-small c =
    let words : c.unwrap_or-count.result ≡ words_in c.shared-item.result = c.unwrap_or-count.ensures ∙ ap (λ o. unwrap_or o 1) c.items_in.ensures ∙ count_of (items_in c.shared-item.result.size) in
    omega (arith, words, c.requires, c.loop-shared.invariant.count, words_left c.args.all.now c.loop-shared.shared-index c.shared-item.result (omega arith) c.shared-item.is)

pub sum-first-requires : goal.sum-first-requires
sum-first-requires c =
    let words : c.unwrap_or-count.result ≡ words_in c.shared-item.result = c.unwrap_or-count.ensures ∙ ap (λ o. unwrap_or o 1) c.items_in.ensures ∙ count_of (items_in c.shared-item.result.size) in
    omega (arith, words, c.requires, c.loop-shared.invariant.count, words_left c.args.all.now c.loop-shared.shared-index c.shared-item.result (omega arith) c.shared-item.is)

pub loop-shared-preserved : goal.loop-shared-preserved
loop-shared-preserved c =
    let s = c.shared-item.result in
    let at = c.loop-shared.first in
    let next = c.sum-first.result in
    let left = drop c.loop-shared.shared-index c.args.all.now in
    let rest = drop (c.loop-shared.shared-index + 1) c.args.all.now in
    let words : c.unwrap_or-count.result ≡ words_in s = c.unwrap_or-count.ensures ∙ ap (λ o. unwrap_or o 1) c.items_in.ensures ∙ count_of (items_in s.size) in
    let here : next ≡ at + words_in s = c.sum-first.ensures ∙ ap (λ n. at + n) words in
    let split : left ≡ s ∷ rest = next_item c.args.all.now c.loop-shared.shared-index s (omega arith) c.shared-item.is in
    record {
      tallies = step c.loop-shared.tallies _ _ _ _ _ c.in_ok-push_tallies.ensures (tallies_more at next left s rest split here) c.loop-shared.invariant.tallies;
      initial = step c.loop-shared.initial' _ _ _ _ _ c.in_ok-push_initial.ensures (initial_more at next left s rest split here) c.loop-shared.invariant.initial;
      count = sym (length_more at next left s rest split here) ∙ c.loop-shared.invariant.count;
    }
