use Rattle.std.proofs.Common.{◌≡◌, ◌++◌, ◌-◌}
use Rattle.csl_meaning.specs.Layout as layout
use Rattle.tree_eval.proofs.Starting.{words_from}
use Rattle.tree_eval.proofs.first_memory.add_words.Given as goal

-- the words so far, and the rest of them
abbrev pub invariant-loop-at : goal.invariant-loop-at
invariant-loop-at l =
    l.memory ++ words_from l.shared.kind l.shared.values l.at (layout.words_in l.shared - l.at) ≡ l.fn.memory ++ layout.first_words l.fn.shared
