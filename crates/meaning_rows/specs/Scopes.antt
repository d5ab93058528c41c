-- What locals hold, and how long they last.
use Rattle.std.specs.Prelude.{[], ◌∷◌, ◌++◌, codes}
use Rattle.cal_base.specs.Text.{line}
use Rattle.cal_terms.specs.declared.types.Gives.TheVariants as gives
use Rattle.cal_terms.specs.declared.types.Ty.TheVariants as ty
use Rattle.csl_tree.specs.declared.program.Program.{Program}
use Rattle.csl_tree.specs.declared.program.Expr.{Expr}
use Rattle.csl_tree.specs.declared.program.BinaryOp.TheVariants.{Add, Sub, Eq, Lt, Gt}
use Rattle.csl_tree.specs.declared.program.Form.TheVariants as form
use Rattle.csl_meaning.specs.Rows.{number, Writes}
use Rattle.meaning_rows.specs.Trees.{named, greatest, two, at_name, var, call, s, declare, set, add_to, give, when, count_to, print}
use Rattle.meaning_rows.specs.Trees.{function, program, Prints, Faults}

-- x
abbrev x : Expr
x = var (codes "x")

-- y
abbrev y : Expr
y = var (codes "y")

-- n
abbrev n : Expr
n = var (codes "n")

-- shared { } main { int x = 1; { x += 1; int y = 5; x += y; } int y = 9; print(x, y); }
abbrev pub block_ends : Program
block_ends = program [] []
    (declare (codes "x") (number 1)
    ∷ s (form.Block (add_to (at_name (codes "x")) (number 1) ∷ declare (codes "y") (number 5) ∷ add_to (at_name (codes "x")) y ∷ []))
    ∷ declare (codes "y") (number 9)
    ∷ print (x ∷ y ∷ [])
    ∷ [])

-- a block's own locals end with it, and what it writes to others lasts
abbrev pub BlockEnds : Type 0
BlockEnds = Prints block_ends (codes "7 9")

-- shared { } main { int x = 0; for (int y = 0; y < 3; y += 1) { int n = y; x += n; } int y = 8; int n = 9; print(x, y, n); }
abbrev pub loop_ends : Program
loop_ends = program [] []
    (declare (codes "x") (number 0)
    ∷ count_to (codes "y") 3 (declare (codes "n") y ∷ add_to (at_name (codes "x")) n ∷ [])
    ∷ declare (codes "y") (number 8)
    ∷ declare (codes "n") (number 9)
    ∷ print (x ∷ y ∷ n ∷ [])
    ∷ [])

-- the locals of a loop's body end with each turn, and that of its head with the loop
abbrev pub LoopEnds : Type 0
LoopEnds = Prints loop_ends (codes "3 8 9")

-- shared { } int f(int n) { int x = 0; if (n > 0) { x = f(n - 1); } return x + n; } main { int x = 4; print(f(3), x); }
abbrev pub own_locals : Program
own_locals = program []
    (function gives.Int (codes "f") (codes "n" ∷ [])
    (declare (codes "x") (number 0)
    ∷ when (two n Gt (number 0)) (set (at_name (codes "x")) (call (codes "f") (two n Sub (number 1) ∷ [])) ∷ [])
    ∷ give (two x Add n)
    ∷ [])
    ∷ [])
    (declare (codes "x") (number 4) ∷ print (call (codes "f") (number 3 ∷ []) ∷ x ∷ []) ∷ [])

-- each call has parameters and locals of its own
abbrev pub OwnLocals : Type 0
OwnLocals = Prints own_locals (codes "6 4")

-- shared { } main { int x = 9223372036854775807; x += 1; }
abbrev pub local_too_large : Program
local_too_large = program [] [] (declare (codes "x") greatest ∷ add_to (at_name (codes "x")) (number 1) ∷ [])

-- where a local is added to, the sum must fit
abbrev pub LocalOverflows : Type 0
LocalOverflows = Faults local_too_large (codes "after step 0: overflow")

-- shared { } bool f(int n) { return n == 2; } main { bool x = 1 < 2; print(x); x = f(3); print(x, f(2)); }
abbrev pub truths_in_locals : Program
truths_in_locals = program [] (function gives.Bool (codes "f") (codes "n" ∷ []) (give (two n Eq (number 2)) ∷ []) ∷ [])
    (s (form.Declare ty.Bool (named (codes "x")) (two (number 1) Lt (number 2)))
    ∷ print (x ∷ [])
    ∷ set (at_name (codes "x")) (call (codes "f") (number 3 ∷ []))
    ∷ print (x ∷ call (codes "f") (number 2 ∷ []) ∷ [])
    ∷ [])

-- a local holds a truth, and a function gives one
abbrev pub TruthsInLocals : Type 0
TruthsInLocals = Writes truths_in_locals 1000000 (line (codes "true") ++ line (codes "false true")) []
