use Rattle.std.proofs.Common.{◌≡◌, ◌++◌}
use Rattle.compile_steps.proofs.SharedLemmas.{addresses}
use Rattle.compile_steps.proofs.words.push_tallies.Given as goal

-- the addresses that are appended so far
abbrev pub invariant-loop-i : goal.invariant-loop-i
invariant-loop-i l = l.tallies ≡ l.fn.tallies ++ addresses l.first l.i
