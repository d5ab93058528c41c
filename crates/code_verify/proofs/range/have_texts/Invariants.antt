use Rattle.std.proofs.Common.{◌↔◌, length}
use Rattle.std.specs.List.{AllByRecursion}
use Rattle.code_verify.specs.Rules.{HasText}
use Rattle.code_verify.proofs.range.have_texts.Given as goal

abbrev pub invariant-loop-item : goal.invariant-loop-item
invariant-loop-item l = AllByRecursion (HasText l.m) l.rest ↔ AllByRecursion (HasText l.m) l.items

abbrev pub decreases-loop-item : goal.decreases-loop-item
decreases-loop-item l = length l.rest
