use Rattle.std.proofs.Common.{◌≡◌, ◌++◌}
use Rattle.compile_steps.proofs.SharedLemmas.{initial_past}
use Rattle.compile_steps.proofs.words.push_initial.Given as goal

-- what is appended so far, and what is listed of the words from here on
abbrev pub invariant-loop-i : goal.invariant-loop-i
invariant-loop-i l = l.initial' ++ initial_past l.first l.shared l.i ≡ l.fn.initial ++ initial_past l.fn.first l.fn.shared 0
