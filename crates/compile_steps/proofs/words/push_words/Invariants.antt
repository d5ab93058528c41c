use Rattle.std.proofs.Common.{◌≡◌, ◌+◌, ◌++◌, drop, length}
use Rattle.csl_meaning.specs.Layout.{first_memory}
use Rattle.compiled_code.specs.Modules.{tallies_from, initial_from}
use Rattle.compile_steps.proofs.words.push_words.Given as goal

-- what is appended so far, and what belongs to the other declarations
abbrev pub invariant-loop-shared : goal.invariant-loop-shared
invariant-loop-shared l = record {
  tallies : l.tallies ++ tallies_from l.first (first_memory (drop l.shared-index l.all)) ≡ l.fn.tallies ++ tallies_from 0 (first_memory l.fn.all);
  initial : l.initial' ++ initial_from l.first (first_memory (drop l.shared-index l.all)) ≡ l.fn.initial ++ initial_from 0 (first_memory l.fn.all);
  count : l.first + length (first_memory (drop l.shared-index l.all)) ≡ length (first_memory l.fn.all);
}
