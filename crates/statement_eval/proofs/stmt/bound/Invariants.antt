use Rattle.std.proofs.Common.{◌≡◌, map, ◌++◌, drop}
use Rattle.csl_meaning.specs.Locals as locals_of
use Rattle.statement_eval.proofs.stmt.bound.Given as goal

-- what is bound already, and then the rest
abbrev pub invariant-loop-i : goal.invariant-loop-i
invariant-loop-i l =
    l.locals ++ locals_of.bound (map (λ q. q.name.text) (drop l.i l.params)) (drop l.i l.given)
    ≡ locals_of.bound (map (λ q. q.name.text) l.fn.params) l.fn.given
