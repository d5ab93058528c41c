use Rattle.std.proofs.Common.{rules, ◌≡◌, ◌+◌, ◌++◌, ◌<◌, get_or, length, pos}
use Rattle.std.proofs.lemmas.Int.{to_z-of_z}
use Rattle.csl_meaning.specs.Layout.{words_in}
use Rattle.csl_tree.specs.declared.program.Valued.{Valued}
use Rattle.expression_code.proofs.ListLemmas.{step}
use Rattle.compile_steps.proofs.SharedLemmas.{listed, initial_all, initial_word, initial_none, initial_rest}
use Rattle.compile_steps.proofs.words.push_initial.Goals as goal

pub returns-then-i-count : goal.returns-then-i-count
returns-then-i-count c = rw (← initial_all c.args.first c.args.shared.now) (search (rules, initial_none))

pub loop-i-preserved : goal.loop-i-preserved
loop-i-preserved c =
    let s = c.args.shared.now in
    let i = c.loop-i.i in
    let d : Valued = record { at = 0; number = pos 0 } in
    let lt : i < words_in s = search rules in
    let within : i < length s.values = search rules in
    let address : c.sum.result ≡ c.args.first + i = search rules in
    let pushed : c.push_word.new.initial ≡ c.loop-i.initial' ++ listed (c.args.first + i) (get_or s.values i d).number = search (rules, to_z-of_z) in
    step c.loop-i.initial' _ _ _ _ _ pushed (initial_word c.args.first s i d lt within) c.loop-i.invariant

pub returns : goal.returns
returns c = rw (← initial_all c.args.first c.args.shared.now) (search (rules, initial_rest))
