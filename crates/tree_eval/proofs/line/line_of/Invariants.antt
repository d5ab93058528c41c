use Rattle.std.proofs.Common.{◌≡◌, ◌++◌, drop}
use Rattle.cal_base.specs.Printing.{line_of}
use Rattle.tree_eval.proofs.line.line_of.Given as goal

-- the line so far, and the rest of it
abbrev pub invariant-loop-i : goal.invariant-loop-i
invariant-loop-i l = l.line.items ++ line_of (drop l.i l.texts) ≡ line_of l.texts
