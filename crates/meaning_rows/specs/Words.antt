-- What routines read, write and add to.
use Rattle.std.specs.Prelude.{ℕ, pos, negsuc, List, [], ◌∷◌, ◌++◌, codes}
use Rattle.cal_base.specs.Text.{line}
use Rattle.cal_terms.specs.declared.types.Gives.TheVariants as gives
use Rattle.csl_tree.specs.declared.program.Program.{Program}
use Rattle.csl_tree.specs.declared.program.Expr.{Expr}
use Rattle.csl_tree.specs.declared.program.BinaryOp.{BinaryOp}
use Rattle.csl_tree.specs.declared.program.BinaryOp.TheVariants.{Add, Sub, Mul, Rem, Lt}
use Rattle.csl_tree.specs.declared.program.Stmt.{Stmt}
use Rattle.csl_tree.specs.declared.program.Form.TheVariants as form
use Rattle.csl_meaning.specs.Rows.{number, minus, id, Writes}
use Rattle.meaning_rows.specs.Trees.{scalar, tally, array, array_of, two, paren, greatest, least, at_name, at_item, var, item_of, call, s}
use Rattle.meaning_rows.specs.Trees.{set, add_to, run, give, print, step, function, program, Prints, Faults}

-- t
abbrev t : Expr
t = var (codes "t")

-- t = value;
abbrev set_t : Expr → Stmt
set_t value = set (at_name (codes "t")) value

-- t += value;
abbrev add_t : Expr → Stmt
add_t value = add_to (at_name (codes "t")) value

-- shared { tally int t; } main { t = FIRST; parbegin routine[WIDTH](int w, int id) { BODY } parend; print(t); }
abbrev pub adding : Expr → ℕ → List Stmt → Program
adding first width body = program (tally (codes "t") ∷ []) [] (set_t first ∷ step width body ∷ print (t ∷ []) ∷ [])

-- t += 9223372036854775807; t += 1;
abbrev pub own_sum : Program
own_sum = adding (number 0) 1 (add_t greatest ∷ add_t (number 1) ∷ [])

-- a routine's own sum outside 64 bits is the routine's overflow
abbrev pub OwnSumOverflows : Type 0
OwnSumOverflows = Faults own_sum (codes "step 1, routine 0: overflow")

-- t += 9223372036854775807; t += 1; t += -1;
abbrev pub running_sum : Program
running_sum = adding (number 0) 1 (add_t greatest ∷ add_t (number 1) ∷ add_t (minus (number 1)) ∷ [])

-- it is so at each adding, though all of them together would fit
abbrev pub RunningSumOverflows : Type 0
RunningSumOverflows = Faults running_sum (codes "step 1, routine 0: overflow")

-- t = 9223372036854775807; t += 1; t += -1;
abbrev pub sum_from_zero : Program
sum_from_zero = adding greatest 1 (add_t (number 1) ∷ add_t (minus (number 1)) ∷ [])

-- a routine's sum begins at 0, whatever the word holds
abbrev pub SumBeginsAtZero : Type 0
SumBeginsAtZero = Prints sum_from_zero (codes "9223372036854775807")

-- t = 9223372036854775807; t += 1 - id * 2;
abbrev pub sums_of_two : Program
sums_of_two = adding greatest 2 (add_t (two (number 1) Sub (two id Mul (number 2))) ∷ [])

-- sums are added without bound: 1 and then -1 are a total that fits
abbrev pub TotalIsExact : Type 0
TotalIsExact = Prints sums_of_two (codes "9223372036854775807")

-- shared { int x; tally int s; tally int t; } main { s = 9223372036854775807; t = 9223372036854775807; parbegin routine[1](int w, int id) { t += 1; s += 1; } parend; }
abbrev pub two_totals : Program
two_totals = program (scalar (codes "x") ∷ tally (codes "s") ∷ tally (codes "t") ∷ []) []
    (set (at_name (codes "s")) greatest
    ∷ set_t greatest
    ∷ step 1 (add_t (number 1) ∷ add_to (at_name (codes "s")) (number 1) ∷ [])
    ∷ [])

-- of two totals that don't fit, the least word is named
abbrev pub LeastTotalIsNamed : Type 0
LeastTotalIsNamed = Faults two_totals (codes "step 1: total at word 1")

-- shared { tally int t; } main { t = 5; t += t; print(t); parbegin routine[2](int w, int id) { t += 3; } parend; print(t); t = 1; print(t + 1); }
abbrev pub tally_in_main : Program
tally_in_main = program (tally (codes "t") ∷ []) []
    (set_t (number 5)
    ∷ add_t t
    ∷ print (t ∷ [])
    ∷ step 2 (add_t (number 3) ∷ [])
    ∷ print (t ∷ [])
    ∷ set_t (number 1)
    ∷ print (two t Add (number 1) ∷ [])
    ∷ [])

-- in main a tally word is an ordinary word: it is set, added to and read
abbrev pub TallyInMain : Type 0
TallyInMain = Writes tally_in_main 1000000 (line (codes "10") ++ line (codes "16") ++ line (codes "2")) []

-- shared { tally int t; } main { t = 9223372036854775807; t += 1; }
abbrev pub tally_too_large : Program
tally_too_large = program (tally (codes "t") ∷ []) [] (set_t greatest ∷ add_t (number 1) ∷ [])

-- and where main adds to it, the sum of the word and the value must fit
abbrev pub TallyOverflowsInMain : Type 0
TallyOverflowsInMain = Faults tally_too_large (codes "after step 0: overflow")

-- shared { tally int t; } void add(int n) { t += n; } main { add(7); parbegin routine[4](int w, int id) { add(id); add(1); } parend; print(t); }
abbrev pub adds_by_calls : Program
adds_by_calls = program (tally (codes "t") ∷ []) (function gives.Nothing (codes "add") (codes "n" ∷ []) (add_t (var (codes "n")) ∷ []) ∷ [])
    (run (codes "add") (number 7 ∷ [])
    ∷ step 4 (run (codes "add") (id ∷ []) ∷ run (codes "add") (number 1 ∷ []) ∷ [])
    ∷ print (t ∷ [])
    ∷ [])

-- a function adds to main's word where main calls it, and to the routine's sum where a routine does
abbrev pub AddsByCalls : Type 0
AddsByCalls = Prints adds_by_calls (codes "17")

-- shared { int a[3]; } main { parbegin routine[WIDTH](int w, int id) { BODY } parend; }
abbrev pub on_three : ℕ → List Stmt → Program
on_three width body = program (array (codes "a") 3 ∷ []) [] (step width body ∷ [])

-- a[2] = id; a[1] = id;
abbrev pub two_conflicts : Program
two_conflicts = on_three 2 (set (at_item (codes "a") (number 2)) id ∷ set (at_item (codes "a") (number 1)) id ∷ [])

-- of two words that two routines write, the least is named, whichever they write first
abbrev pub LeastWordIsNamed : Type 0
LeastWordIsNamed = Faults two_conflicts (codes "step 1, routine 1: word 1 also written by routine 0")

-- a[0] = id; assert(id < LIMIT);
abbrev pub conflict_and_trap : ℕ → Program
conflict_and_trap limit = on_three 3 (set (at_item (codes "a") (number 0)) id ∷ s (form.Assert (two id Lt (number limit))) ∷ [])

-- a conflict of routine 1 is named before a trap of routine 2
abbrev pub ConflictBeforeTrap : Type 0
ConflictBeforeTrap = Faults (conflict_and_trap 2) (codes "step 1, routine 1: word 0 also written by routine 0")

-- a routine that trapped wrote nothing: its own cause is named
abbrev pub TrapIsOwnCause : Type 0
TrapIsOwnCause = Faults (conflict_and_trap 1) (codes "step 1, routine 1: assertion failed")

-- a[0] += 0;
abbrev pub adding_nothing : Program
adding_nothing = on_three 2 (add_to (at_item (codes "a") (number 0)) (number 0) ∷ [])

-- adding to an ordinary word counts as writing it, also where 0 is added
abbrev pub AddingIsWriting : Type 0
AddingIsWriting = Faults adding_nothing (codes "step 1, routine 1: word 0 also written by routine 0")

-- shared { int x; int a[3] = {5, -6}; } main { print(x, a[0], a[1], a[2]); }
abbrev pub first_values : Program
first_values = program (scalar (codes "x") ∷ array_of (codes "a") 3 (pos 5 ∷ negsuc 5 ∷ []) ∷ []) []
    (print (var (codes "x") ∷ item_of (codes "a") (number 0) ∷ item_of (codes "a") (number 1) ∷ item_of (codes "a") (number 2) ∷ []) ∷ [])

-- a word begins with its stated value, and else with 0
abbrev pub FirstValues : Type 0
FirstValues = Prints first_values (codes "0 5 -6 0")

-- shared { int a[3] = {7, 8, 9}; int b[3]; } main { parbegin routine[3](int w, int id) { a[id] = id + 1; b[id] = a[id] * 10 + a[(id + 1) % 3]; } parend; print(b[0], b[1], b[2]); }
abbrev pub own_and_others : Program
own_and_others = program (array_of (codes "a") 3 (pos 7 ∷ pos 8 ∷ pos 9 ∷ []) ∷ array (codes "b") 3 ∷ []) []
    (step 3
    (set (at_item (codes "a") id) (two id Add (number 1))
    ∷ set (at_item (codes "b") id) (two (two (item_of (codes "a") id) Mul (number 10)) Add
    (item_of (codes "a") (two (paren (two id Add (number 1))) Rem (number 3))))
    ∷ [])
    ∷ print (item_of (codes "b") (number 0) ∷ item_of (codes "b") (number 1) ∷ item_of (codes "b") (number 2) ∷ [])
    ∷ [])

-- a routine reads its own write, and of what others write the opening memory
abbrev pub OwnWritesAlone : Type 0
OwnWritesAlone = Prints own_and_others (codes "18 29 37")

-- shared { int x; } int f(int n) { return x + n; } main { parbegin routine[1](int w, int id) { x = 1; x = f(1); x += 3; } parend; print(x); }
abbrev pub last_write : Program
last_write = program (scalar (codes "x") ∷ [])
    (function gives.Int (codes "f") (codes "n" ∷ []) (give (two (var (codes "x")) Add (var (codes "n"))) ∷ []) ∷ [])
    (step 1
    (set (at_name (codes "x")) (number 1)
    ∷ set (at_name (codes "x")) (call (codes "f") (number 1 ∷ []))
    ∷ add_to (at_name (codes "x")) (number 3)
    ∷ [])
    ∷ print (var (codes "x") ∷ [])
    ∷ [])

-- it reads its last write, also in a function that it calls, and the last one counts
abbrev pub LastWriteCounts : Type 0
LastWriteCounts = Prints last_write (codes "5")

-- shared { int x; } main { parbegin routine[1](int w, int id) { x = (-9223372036854775807 - 1) OP -1; } parend; }
abbrev pub least_in_routine : BinaryOp → Program
least_in_routine op = program (scalar (codes "x") ∷ []) [] (step 1
    (set (at_name (codes "x")) (two (paren least) op (minus (number 1))) ∷ []) ∷ [])

-- the least number by -1 overflows in a routine too
abbrev pub OverflowInRoutine : BinaryOp → Type 0
OverflowInRoutine op = Faults (least_in_routine op) (codes "step 1, routine 0: overflow")
