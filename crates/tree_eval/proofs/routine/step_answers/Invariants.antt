use Rattle.std.proofs.Common.{◌≡◌, ◌++◌, drop, false}
use Rattle.csl_meaning.specs.Routines.{answers}
use Rattle.tree_eval.specs.Asked.{until_fault}
use Rattle.tree_eval.proofs.routine.step_answers.Given as goal

-- the answers so far, and those of the rest
abbrev pub invariant-loop-i : goal.invariant-loop-i
invariant-loop-i l = record {
  same : l.memory ≡ l.fn.opening;
  rest : l.answers ++ until_fault l.failed (answers l.p l.fn.opening l.fuel (drop l.i l.blocks) (drop l.i l.widths))
      ≡ until_fault false (answers l.p l.fn.opening l.fuel l.blocks l.widths);
}
