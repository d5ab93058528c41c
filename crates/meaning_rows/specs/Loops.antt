-- Turns of loops, and what leaves a loop.
use Rattle.std.specs.Prelude.{ℕ, [], ◌∷◌, true, codes}
use Rattle.cal_base.specs.Text.{line}
use Rattle.cal_terms.specs.declared.types.Gives.TheVariants as gives
use Rattle.csl_tree.specs.declared.program.Program.{Program}
use Rattle.csl_tree.specs.declared.program.Expr.{Expr}
use Rattle.csl_tree.specs.declared.program.BinaryOp.TheVariants.{Add, Sub, Mul, Div, Eq, Lt, Gt}
use Rattle.csl_tree.specs.declared.program.Stmt.{Stmt}
use Rattle.csl_tree.specs.declared.program.Form.TheVariants as form
use Rattle.csl_meaning.specs.Rows.{number, minus, id, Writes}
use Rattle.meaning_rows.specs.Trees.{array, truth, two, paren, at_name, at_item, var, item_of, call, s, declare, set, add_to, give, leave}
use Rattle.meaning_rows.specs.Trees.{when, while, count_by, count_to, say, print, step, function, program}
use Rattle.meaning_rows.specs.Charges.{Spent}

-- i
abbrev i : Expr
i = var (codes "i")

-- k
abbrev k : Expr
k = var (codes "k")

-- total += value;
abbrev add_total : Expr → Stmt
add_total value = add_to (at_name (codes "total")) value

-- print(total);
abbrev print_total : Stmt
print_total = print (var (codes "total") ∷ [])

-- shared { } main { for (int i = 0; i < N; i += 1) { } print("done"); }
abbrev pub turns : ℕ → Program
turns n = program [] [] (count_to (codes "i") n [] ∷ say (codes "done") ∷ [])

-- three turns take three units
abbrev pub UnitForEachTurn : Type 0
UnitForEachTurn = Writes (turns 3) 3 (line (codes "done")) []

-- and with one unit less the fuel is spent
abbrev pub NoUnitForLastTurn : Type 0
NoUnitForLastTurn = Spent (turns 3) 2 []

-- the first test takes none
abbrev pub NoUnitForTest : Type 0
NoUnitForTest = Writes (turns 0) 0 (line (codes "done")) []

-- 1 / (1 - i)
abbrev one_by_rest : Expr
one_by_rest = two (number 1) Div (paren (two (number 1) Sub i))

-- shared { } main { for (int i = 0; i < 9; i = 1 / (1 - i)) { } }
abbrev pub step_traps : Program
step_traps = program [] [] (count_by (codes "i") 9 (set (at_name (codes "i")) one_by_rest) [] ∷ [])

-- the step statement comes before the unit: the first turn takes the one unit, and the second step statement traps
abbrev pub StepBeforeUnit : Type 0
StepBeforeUnit = Writes step_traps 1 [] (line (codes "fault: after step 0: division by zero"))

-- and the unit comes before the next turn
abbrev pub UnitBeforeTurn : Type 0
UnitBeforeTurn = Spent step_traps 0 []

-- shared { } main { int i = 0; while (1 / (1 - i) > 0) { i += 1; } }
abbrev pub test_traps : Program
test_traps = program [] []
    (declare (codes "i") (number 0)
    ∷ while (two one_by_rest Gt (number 0)) (add_to (at_name (codes "i")) (number 1) ∷ [])
    ∷ [])

-- a loop returns to its test, which traps
abbrev pub TestTraps : Type 0
TestTraps = Writes test_traps 1 [] (line (codes "fault: after step 0: division by zero"))

-- the unit comes before the test
abbrev pub UnitBeforeTest : Type 0
UnitBeforeTest = Spent test_traps 0 []

-- shared { } main { int total = 0; for (int i = 0; i < 4; i += 1) { if (i == 1) { continue; } total += i; } print(total); }
abbrev pub continue_in_for : Program
continue_in_for = program [] []
    (declare (codes "total") (number 0)
    ∷ count_to (codes "i") 4 (when (two i Eq (number 1)) (s form.Continue ∷ []) ∷ add_total i ∷ [])
    ∷ print_total
    ∷ [])

-- `continue` in a `for` goes on with the step statement, and the turn takes its unit
abbrev pub ContinueGoesToStep : Type 0
ContinueGoesToStep = Writes continue_in_for 4 (line (codes "5")) []

-- which is missing here
abbrev pub NoUnitInFor : Type 0
NoUnitInFor = Spent continue_in_for 3 []

-- shared { } main { int total = 0; int i = 0; while (i < 4) { i += 1; if (i == 2) { continue; } total += i; } print(total); }
abbrev pub continue_in_while : Program
continue_in_while = program [] []
    (declare (codes "total") (number 0)
    ∷ declare (codes "i") (number 0)
    ∷ while (two i Lt (number 4)) (add_to (at_name (codes "i")) (number 1) ∷ when (two i Eq (number 2)) (s form.Continue ∷ []) ∷ add_total i
    ∷ [])
    ∷ print_total
    ∷ [])

-- `continue` in a `while` goes on with the test, and the turn takes its unit
abbrev pub ContinueGoesToTest : Type 0
ContinueGoesToTest = Writes continue_in_while 4 (line (codes "8")) []

-- which is missing here
abbrev pub NoUnitInWhile : Type 0
NoUnitInWhile = Spent continue_in_while 3 []

-- shared { } main {
--   int total = 0; for (int i = 0; i < 2; i += 1) { for (int k = 0; k < 9; k += 1) { if (k == 1) { break; } total += 1; } total += 10; } print(total);
-- }
abbrev pub broken : Program
broken = program [] []
    (declare (codes "total") (number 0)
    ∷ count_to (codes "i") 2
    (count_to (codes "k") 9 (when (two k Eq (number 1)) (s form.Break ∷ []) ∷ add_total (number 1) ∷ [])
    ∷ add_total (number 10)
    ∷ [])
    ∷ print_total
    ∷ [])

-- `break` leaves the innermost loop alone, and takes no unit: two turns of the outer loop and one of each inner loop take four
abbrev pub BreakLeavesInner : Type 0
BreakLeavesInner = Writes broken 4 (line (codes "22")) []

-- with one unit less the last turn has none
abbrev pub NoUnitAfterBreak : Type 0
NoUnitAfterBreak = Spent broken 3 []

-- shared { } int f(int n) { for (int i = 0; i < 3; i += 1) { for (int k = 0; k < 3; k += 1) { if (i * 10 + k == n) { return i + k; } } } return -1; } main { print(f(N)); }
abbrev pub searching : ℕ → Program
searching n = program []
    (function gives.Int (codes "f") (codes "n" ∷ [])
    (count_to (codes "i") 3
    (count_to (codes "k") 3 (when (two (two (two i Mul (number 10)) Add k) Eq (var (codes "n"))) (give (two i Add k) ∷ []) ∷ []) ∷ [])
    ∷ give (minus (number 1))
    ∷ [])
    ∷ [])
    (print (call (codes "f") (number n ∷ []) ∷ []) ∷ [])

-- `return` leaves all loops of its function: the call, three inner turns, one outer turn and one more inner turn take six units
abbrev pub ReturnLeavesLoops : Type 0
ReturnLeavesLoops = Writes (searching 11) 6 (line (codes "2")) []

-- with one unit less the last of these turns has none
abbrev pub NoUnitBeforeReturn : Type 0
NoUnitBeforeReturn = Spent (searching 11) 5 []

-- a function whose loops end goes on behind them: the call, nine inner and three outer turns take thirteen units
abbrev pub LoopsEnd : Type 0
LoopsEnd = Writes (searching 9) 13 (line (codes "-1")) []

-- shared { } main { while (true) { while (true) { print("in"); return; } } print("never"); }
abbrev pub return_in_main : Program
return_in_main = program [] [] (while (truth true) (while (truth true) (say (codes "in") ∷ leave ∷ []) ∷ []) ∷ say (codes "never") ∷ [])

-- `return;` in main ends the run, which takes no unit here
abbrev pub ReturnEndsMain : Type 0
ReturnEndsMain = Writes return_in_main 0 (line (codes "in")) []

-- shared { int a[2]; } main {
--   parbegin routine[2](int w, int id) { a[id] = 7; int k = 0; while (true) { while (true) { if (k == id) { return; } k += 1; a[id] = k; } } } parend; print(a[0], a[1]);
-- }
abbrev pub return_in_routine : Program
return_in_routine = program (array (codes "a") 2 ∷ []) []
    (step 2
    (set (at_item (codes "a") id) (number 7)
    ∷ declare (codes "k") (number 0)
    ∷ while (truth true)
    (while (truth true) (when (two k Eq id) (leave ∷ []) ∷ add_to (at_name (codes "k")) (number 1) ∷ set (at_item (codes "a") id) k ∷ [])
    ∷ [])
    ∷ [])
    ∷ print (item_of (codes "a") (number 0) ∷ item_of (codes "a") (number 1) ∷ [])
    ∷ [])

-- `return;` ends a routine, which keeps what it wrote; the second one takes the one unit that each has
abbrev pub ReturnEndsRoutine : Type 0
ReturnEndsRoutine = Writes return_in_routine 1 (line (codes "7 1")) []
