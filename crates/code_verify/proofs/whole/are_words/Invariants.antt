use Rattle.std.proofs.Common.{◌↔◌, length}
use Rattle.std.specs.List.{AllByRecursion}
use Rattle.code_verify.specs.Rules.{IsWord}
use Rattle.code_verify.proofs.whole.are_words.Given as goal

abbrev pub invariant-loop-word : goal.invariant-loop-word
invariant-loop-word l = AllByRecursion (λ a. IsWord l.m a) l.rest ↔ AllByRecursion (λ a. IsWord l.m a) l.words

abbrev pub decreases-loop-word : goal.decreases-loop-word
decreases-loop-word l = length l.rest
