use Rattle.std.proofs.Common.{◌↔◌, length}
use Rattle.std.specs.List.{AllByRecursion}
use Rattle.code_verify.specs.Rules.{IsWord}
use Rattle.code_verify.proofs.whole.are_of_words.Given as goal

abbrev pub invariant-loop-entry : goal.invariant-loop-entry
invariant-loop-entry l = AllByRecursion (λ e. IsWord l.m e.0) l.rest ↔ AllByRecursion (λ e. IsWord l.m e.0) l.entries

abbrev pub decreases-loop-entry : goal.decreases-loop-entry
decreases-loop-entry l = length l.rest
