use Rattle.std.proofs.Common.{◌≡◌, ◌++◌, ◌-◌}
use Rattle.csl_meaning.specs.Routines.{answer}
use Rattle.tree_eval.specs.Asked.{has_failed, until_fault}
use Rattle.tree_eval.proofs.Routines.{block_from}
use Rattle.tree_eval.proofs.routine.block_answers.Given as goal

-- the answers so far, and those of the rest
abbrev pub invariant-loop-id : goal.invariant-loop-id
invariant-loop-id l = record {
  same : l.memory ≡ l.fn.opening;
  flag : has_failed l.failed (block_from (λ id. answer l.p l.fn.opening l.fuel l.block l.width id) l.id (l.width - l.id))
      ≡ has_failed l.fn.failed (block_from (λ id. answer l.p l.fn.opening l.fuel l.block l.width id) 0 l.width);
  rest : l.answers ++ until_fault l.failed (block_from (λ id. answer l.p l.fn.opening l.fuel l.block l.width id) l.id (l.width - l.id))
      ≡ l.fn.answers ++ until_fault l.fn.failed (block_from (λ id. answer l.p l.fn.opening l.fuel l.block l.width id) 0 l.width);
}
