use Rattle.std.proofs.Common.{◌≡◌, take, length}
use Rattle.statement_eval.proofs.stmt.keep.Given as goal

abbrev pub invariant-loop-locals : goal.invariant-loop-locals
invariant-loop-locals l = take l.n l.locals ≡ take l.n l.fn.locals

abbrev pub decreases-loop-locals : goal.decreases-loop-locals
decreases-loop-locals l = length l.locals
