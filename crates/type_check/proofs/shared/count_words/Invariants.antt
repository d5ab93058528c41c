use Rattle.std.proofs.Common.{◌≡◌, ◌+◌, ◌≤◌, drop}
use Rattle.type_check.specs.Faults.{most_words}
use Rattle.type_check.specs.Words.{AreSized, total_words}
use Rattle.type_check.proofs.shared.count_words.Given as goal

-- the words so far and those of the rest
abbrev pub invariant-loop-s : goal.invariant-loop-s
invariant-loop-s l =
    (l.total + total_words (drop l.s-index l.shared) ≡ total_words l.fn.shared)
    × (total_words l.fn.shared ≤ most_words)
    × AreSized (drop l.s-index l.shared)
