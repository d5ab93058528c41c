use Rattle.std.proofs.Common.{◌≡◌, ◌≤◌, ◌++◌, drop}
use Rattle.csl_meaning.specs.Layout as layout
use Rattle.statement_eval.specs.Fits.{words_of}
use Rattle.tree_eval.proofs.first_memory.first_memory.Given as goal

-- the words so far, and those of the declarations that are left
abbrev pub invariant-loop-one : goal.invariant-loop-one
invariant-loop-one l = record {
  rest : l.memory ++ layout.first_memory (drop l.one-index l.shared) ≡ layout.first_memory l.fn.shared;
  room : words_of (drop l.one-index l.shared) ≤ 262144;
}
