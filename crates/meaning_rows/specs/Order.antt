-- What is evaluated before what.
use Rattle.std.specs.Prelude.{ℕ, List, [], ◌∷◌, ◌++◌, None, true, false, codes}
use Rattle.cal_base.specs.Text.{line}
use Rattle.cal_terms.specs.declared.types.Gives.TheVariants as gives
use Rattle.csl_tree.specs.declared.program.Program.{Program}
use Rattle.csl_tree.specs.declared.program.Function.{Function}
use Rattle.csl_tree.specs.declared.program.Expr.{Expr}
use Rattle.csl_tree.specs.declared.program.Place.{Place}
use Rattle.csl_tree.specs.declared.program.BinaryOp.TheVariants.{Add, Mul, Gt, And, Or}
use Rattle.csl_tree.specs.declared.program.Item.TheVariants as item
use Rattle.csl_tree.specs.declared.program.Stmt.{Stmt}
use Rattle.csl_tree.specs.declared.program.Form.TheVariants as form
use Rattle.csl_tree.specs.declared.program.Arm.{roll-Arm}
use Rattle.csl_meaning.specs.Rows.{number, minus, of_widths, Writes}
use Rattle.meaning_rows.specs.Trees.{named, scalar, array, truth, two, too_large, by_zero, at_name, at_item, var, item_of, call, s, set}
use Rattle.meaning_rows.specs.Trees.{add_to, give, say, print, function, program, Prints, Faults}

-- main traps before any step, with these words
abbrev pub Traps : Program → List ℕ → Type 0
Traps p cause = Faults p (codes "after step 0: " ++ cause)

-- shared { int a[2]; } main { CHANGE }
abbrev pub on_array : Stmt → Program
on_array change = program (array (codes "a") 2 ∷ []) [] (change ∷ [])

-- an index is evaluated before the value: `a[1 / 0] = 9223372036854775807 * 2;`, or by `+=`
abbrev pub IndexBeforeValue : (Place → Expr → Stmt) → Type 0
IndexBeforeValue change = Traps (on_array (change (at_item (codes "a") by_zero) too_large)) (codes "division by zero")

-- the value is evaluated before the index is tested: `a[9] = 1 / 0;`, or by `+=`
abbrev pub ValueBeforeTest : (Place → Expr → Stmt) → Type 0
ValueBeforeTest change = Traps (on_array (change (at_item (codes "a") (number 9)) by_zero)) (codes "division by zero")

-- an index that is read from an array is tested as it is read: `a[a[9]] = 1 / 0;`, or by `+=`
abbrev pub InnerIndexIsTested : (Place → Expr → Stmt) → Type 0
InnerIndexIsTested change = Traps (on_array (change (at_item (codes "a") (item_of (codes "a") (number 9))) by_zero))
    (codes "index out of range")

-- int f(int n) { x = 1; return n; }
abbrev setting : Function
setting = function gives.Int (codes "f") (codes "n" ∷ []) (set (at_name (codes "x")) (number 1) ∷ give (var (codes "n")) ∷ [])

-- f(n)
abbrev f : ℕ → Expr
f n = call (codes "f") (number n ∷ [])

-- x
abbrev x : Expr
x = var (codes "x")

-- shared { int a[2]; int x; } int f(int n) { x = 1; return n; } main { a[x] = f(7); print(a[0], a[1], x); }
abbrev pub index_is_kept : Program
index_is_kept = program (array (codes "a") 2 ∷ scalar (codes "x") ∷ []) (setting ∷ [])
    (set (at_item (codes "a") x) (f 7)
    ∷ print (item_of (codes "a") (number 0) ∷ item_of (codes "a") (number 1) ∷ x ∷ [])
    ∷ [])

-- the word of an index is the one that the index named before the value was evaluated
abbrev pub IndexIsKept : Type 0
IndexIsKept = Prints index_is_kept (codes "7 0 1")

-- shared { int a[2]; } int f(int n) { a[0] = 5; return n; } main { a[0] += f(1); print(a[0]); }
abbrev pub item_is_read_last : Program
item_is_read_last = program (array (codes "a") 2 ∷ [])
    (function gives.Int (codes "f") (codes "n" ∷ []) (set (at_item (codes "a") (number 0)) (number 5) ∷ give (var (codes "n")) ∷ []) ∷ [])
    (add_to (at_item (codes "a") (number 0)) (f 1) ∷ print (item_of (codes "a") (number 0) ∷ []) ∷ [])

-- `a[i] += e` reads the item after e was evaluated
abbrev pub ItemIsReadLast : Type 0
ItemIsReadLast = Prints item_is_read_last (codes "6")

-- shared { int x; } int f(int n) { x = 1; return n; } int pair(int a, int b) { return a * 10 + b; } main { print(VALUES); }
abbrev pub printing : List Expr → Program
printing values = program (scalar (codes "x") ∷ [])
    (setting
    ∷ function gives.Int (codes "pair") (codes "a" ∷ codes "b" ∷ [])
    (give (two (two (var (codes "a")) Mul (number 10)) Add (var (codes "b"))) ∷ [])
    ∷ [])
    (print values ∷ [])

-- `print(x + f(2), f(2) + x);`: the left operand is evaluated before the right one changes the word that it reads
abbrev pub OperandsInOrder : Type 0
OperandsInOrder = Prints (printing (two x Add (f 2) ∷ two (f 2) Add x ∷ [])) (codes "2 3")

-- `print(pair(x, f(2)), pair(f(2), x));`: so are arguments
abbrev pub ArgumentsInOrder : Type 0
ArgumentsInOrder = Prints (printing (call (codes "pair") (x ∷ f 2 ∷ []) ∷ call (codes "pair") (f 2 ∷ x ∷ []) ∷ [])) (codes "2 21")

-- `print(x, f(2), x);`: so are items of a `print`
abbrev pub ItemsInOrder : Type 0
ItemsInOrder = Prints (printing (x ∷ f 2 ∷ x ∷ [])) (codes "0 2 1")

-- `print(1 / 0 + 9223372036854775807 * 2);`: where both operands trap, the left one is the cause
abbrev pub LeftTrapsFirst : Type 0
LeftTrapsFirst = Traps (printing (two by_zero Add too_large ∷ [])) (codes "division by zero")

-- `print(9223372036854775807 * 2 + 1 / 0);`: the same the other way round
abbrev pub LeftOverflowsFirst : Type 0
LeftOverflowsFirst = Traps (printing (two too_large Add by_zero ∷ [])) (codes "overflow")

-- `print(1 / 0, 9223372036854775807 * 2);`: where two items trap, the first one is the cause
abbrev pub FirstItemTraps : Type 0
FirstItemTraps = Traps (printing (by_zero ∷ too_large ∷ [])) (codes "division by zero")

-- shared { } main { print("begin"); print("a", 1, 1 / 0); }
abbrev pub last_item_traps : Program
last_item_traps = program [] []
    (say (codes "begin")
    ∷ s (form.Print (item.Text (named (codes "a")) ∷ item.Value (number 1) ∷ item.Value by_zero ∷ []))
    ∷ [])

-- all items are evaluated before anything of the line is shown; the line before it is there
abbrev pub NothingOfTheLine : Type 0
NothingOfTheLine = Writes last_item_traps 1000000 (line (codes "begin")) (line (codes "fault: after step 0: division by zero"))

-- 1 / 0 > 0
abbrev trapping : Expr
trapping = two by_zero Gt (number 0)

-- `print(true || 1 / 0 > 0, false && 1 / 0 > 0);`: the right operand is skipped where the left one decides
abbrev pub RightOperandSkipped : Type 0
RightOperandSkipped = Prints (printing (two (truth true) Or trapping ∷ two (truth false) And trapping ∷ [])) (codes "true false")

-- `print(false || 1 / 0 > 0);`: it is evaluated where the left one does not decide
abbrev pub RightOfOr : Type 0
RightOfOr = Traps (printing (two (truth false) Or trapping ∷ [])) (codes "division by zero")

-- `print(true && 1 / 0 > 0);`: and so for `&&`
abbrev pub RightOfAnd : Type 0
RightOfAnd = Traps (printing (two (truth true) And trapping ∷ [])) (codes "division by zero")

-- shared { } main { if (true) { print("first"); } else if (1 / 0 > 0) { } }
abbrev pub two_arms : Program
two_arms = program [] []
    (s (form.If (roll-Arm (record { test = truth true; body = say (codes "first") ∷ [] }) ∷ roll-Arm (record { test = trapping; body = [] })
    ∷ []) None) ∷ [])

-- the test of a later arm is skipped where an earlier arm is taken
abbrev pub LaterArmSkipped : Type 0
LaterArmSkipped = Prints two_arms (codes "first")

-- shared { } main { assert(TEST); print("holds"); }
abbrev pub asserting : Expr → Program
asserting test = program [] [] (s (form.Assert test) ∷ say (codes "holds") ∷ [])

-- main goes on behind an assertion that holds
abbrev pub AssertionHolds : Type 0
AssertionHolds = Prints (asserting (truth true)) (codes "holds")

-- and traps at one that doesn't
abbrev pub AssertionFails : Type 0
AssertionFails = Traps (asserting (truth false)) (codes "assertion failed")

-- where the asserted value traps, that is the cause
abbrev pub AssertedValueTraps : Type 0
AssertedValueTraps = Traps (asserting trapping) (codes "division by zero")

-- parbegin routine[-1](int w, int id) { } routine[1 / 0](int w, int id) { } parend; all widths are evaluated before one is found to be bad
abbrev pub LaterWidthBeforeBadWidth : Type 0
LaterWidthBeforeBadWidth = Traps (of_widths (minus (number 1) ∷ by_zero ∷ [])) (codes "division by zero")

-- parbegin routine[1 / 0](int w, int id) { } routine[9223372036854775807 * 2](int w, int id) { } parend; widths are evaluated from left to right
abbrev pub FirstWidthTraps : Type 0
FirstWidthTraps = Traps (of_widths (by_zero ∷ too_large ∷ [])) (codes "division by zero")

-- the same the other way round
abbrev pub FirstWidthOverflows : Type 0
FirstWidthOverflows = Traps (of_widths (too_large ∷ by_zero ∷ [])) (codes "overflow")
