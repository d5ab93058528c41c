-- Worked examples: small programs as trees, and what they write.
use Rattle.std.specs.Prelude.{◌≡◌, ℕ, Bool, ℤ, pos, List, [], ◌∷◌, ◌++◌, Option, Some, None, true, false, map, codes}
use Rattle.cal_base.specs.declared.ends.RunEnd.TheVariants.{Done}
use Rattle.cal_terms.specs.declared.kinds.WordKind.TheVariants.{Ordinary, Tally}
use Rattle.cal_base.specs.Main.{Meaning}
use Rattle.cal_base.specs.Text.{text_of, fault_line, line}
use Rattle.csl_tree.specs.declared.name.Name.{Name}
use Rattle.csl_tree.specs.declared.program.Program.{Program}
use Rattle.csl_tree.specs.declared.program.Function.{Function}
use Rattle.cal_terms.specs.declared.types.Gives.TheVariants as gives
use Rattle.cal_terms.specs.declared.types.Ty.TheVariants as ty
use Rattle.csl_tree.specs.declared.program.Expr.{Expr}
use Rattle.csl_tree.specs.declared.program.Node.{Node}
use Rattle.csl_tree.specs.declared.program.Node.TheVariants as node
use Rattle.csl_tree.specs.declared.program.Place.{Place, roll-Place}
use Rattle.csl_tree.specs.declared.program.Call.{roll-Call}
use Rattle.csl_tree.specs.declared.program.UnaryOp.TheVariants.{Neg}
use Rattle.csl_tree.specs.declared.program.BinaryOp.{BinaryOp}
use Rattle.csl_tree.specs.declared.program.BinaryOp.TheVariants.{Add, Sub, Mul, Div, Rem, Eq, Ne, Lt, Gt, And}
use Rattle.csl_tree.specs.declared.program.Item.{Item}
use Rattle.csl_tree.specs.declared.program.Item.TheVariants as item
use Rattle.csl_tree.specs.declared.program.Stmt.{Stmt}
use Rattle.csl_tree.specs.declared.program.Form.{Form}
use Rattle.csl_tree.specs.declared.program.Form.TheVariants as form
use Rattle.csl_tree.specs.declared.program.RoutineBlock.{RoutineBlock, roll-RoutineBlock}
use Rattle.csl_tree.specs.declared.program.Arm.{roll-Arm}
use Rattle.csl_tree.specs.declared.program.Shared.{Shared}
use Rattle.csl_meaning.specs.Meaning.{meaning}

-- ---- parts of trees; their positions don't matter

-- a name
abbrev named : List ℕ → Name
named text = record { text = text; at = 0 }

-- int x;
abbrev scalar : List ℕ → Shared
scalar x = record { name = named x; kind = Ordinary; size = None; values = []; listed = false }

-- tally int x;
abbrev tally : List ℕ → Shared
tally x = record { name = named x; kind = Tally; size = None; values = []; listed = false }

-- int x[n];
abbrev array : List ℕ → ℕ → Shared
array x n = record { name = named x; kind = Ordinary; size = Some (record { at = 0; number = pos n }); values = []; listed = false }

-- int x[n] = {values};
abbrev array_of : List ℕ → ℕ → List ℤ → Shared
array_of x n values = record (array x n) { values = map (λ z. record { at = 0; number = z }) values; listed = true }

-- an expression
abbrev e : Node → Expr
e n = record { at = 0; node = n }

-- n
abbrev pub number : ℕ → Expr
number n = e (node.Number (pos n))

-- -x
abbrev pub minus : Expr → Expr
minus x = e (node.Unary Neg x)

-- x OP y
abbrev two : Expr → BinaryOp → Expr → Expr
two x op y = e (node.Binary op x y)

-- the place x
abbrev at_name : List ℕ → Place
at_name x = roll-Place (record { name = named x; index = None })

-- the place a[i]
abbrev at_item : List ℕ → Expr → Place
at_item a i = roll-Place (record { name = named a; index = Some i })

-- what a place reads as
abbrev read : Place → Expr
read place = e (node.Read place)

-- x
abbrev var : List ℕ → Expr
var x = read (at_name x)

-- f(arguments)
abbrev call : List ℕ → List Expr → Expr
call f arguments = e (node.CallOf (roll-Call (record { name = named f; args = arguments })))

-- a statement
abbrev s : Form → Stmt
s f = record { at = 0; form = f }

-- int x = value;
abbrev declare : List ℕ → Expr → Stmt
declare x value = s (form.Declare ty.Int (named x) value)

-- place = value;
abbrev set : Place → Expr → Stmt
set place value = s (form.Set place value)

-- place += value;
abbrev add_to : Place → Expr → Stmt
add_to place value = s (form.AddTo place value)

-- if (test) { body }, and else the last block, if there is one
abbrev when : Expr → List Stmt → Option (List Stmt) → Stmt
when test body last = s (form.If (roll-Arm (record { test = test; body = body }) ∷ []) last)

-- for (int x = 0; x < n; x += 1) { body }
abbrev count_to : List ℕ → ℕ → List Stmt → Stmt
count_to x n body = s (form.For (declare x (number 0)) (two (var x) Lt (number n)) (add_to (at_name x) (number 1)) body)

-- print(items);
abbrev print : List Item → Stmt
print items = s (form.Print items)

-- routine[n](int w, int id) { body }
abbrev pub routine : Expr → List Stmt → RoutineBlock
routine width body = roll-RoutineBlock (record { at = 0; width = width; width_name = named (codes "w"); id_name = named (codes "id"); body = body })

-- parbegin blocks parend;
abbrev parallel : List RoutineBlock → Stmt
parallel blocks = s (form.Par blocks)

-- id
abbrev pub id : Expr
id = var (codes "id")

-- print(a[0], a[1]);
abbrev print_pair : Stmt
print_pair = print (item.Value (read (at_item (codes "a") (number 0))) ∷ item.Value (read (at_item (codes "a") (number 1))) ∷ [])

-- a program without functions
abbrev main_alone : List Shared → List Stmt → Program
main_alone shared main = record { shared = shared; functions = []; main = main }

-- ---- what they write

-- what the run writes to its output, where the flag says whether steps are shown, and the line of its fault
abbrev pub written : Bool → Meaning → List ℕ × List ℕ
written steps m = (text_of steps m.events, fault_line m.ending)

-- with this much fuel the program prints this, and then has this fault, or none
abbrev pub Writes : Program → ℕ → List ℕ → List ℕ → Type 0
Writes p fuel out fault = written false (meaning p fuel) ≡ (out, fault)

-- shared { } main { }
abbrev pub nothing : Program
nothing = main_alone [] []

-- nothing is printed, and the run is done after no step
abbrev pub NothingIsDone : Type 0
NothingIsDone = meaning nothing 1000000 ≡ record { events = []; ending = Done 0 }

-- shared { } main { print(); print("a", -5, true); }
abbrev pub lines : Program
lines = main_alone []
    (print []
    ∷ print (item.Text (named (codes "a")) ∷ item.Value (minus (number 5)) ∷ item.Value (e (node.Truth true)) ∷ [])
    ∷ [])

-- one blank stands between two items, and no items give an empty line
abbrev pub LinesOfItems : Type 0
LinesOfItems = Writes lines 1000000 (line [] ++ line (codes "a -5 true")) []

-- shared { int a[4]; int s; } main { parbegin routine[4](int w, int id) { a[id] = id * id; } parend; for (int i = 0; i < 4; i += 1) { s += a[i]; } print("sum", s); }
abbrev pub squares : Program
squares = main_alone (array (codes "a") 4 ∷ scalar (codes "s") ∷ [])
    (parallel (routine (number 4) (set (at_item (codes "a") id) (two id Mul id) ∷ []) ∷ [])
    ∷ count_to (codes "i") 4 (add_to (at_name (codes "s")) (read (at_item (codes "a") (var (codes "i")))) ∷ [])
    ∷ print (item.Text (named (codes "sum")) ∷ item.Value (var (codes "s")) ∷ [])
    ∷ [])

-- a step's lines show each word that changed
abbrev pub SumOfSquares : Type 0
SumOfSquares = written true (meaning squares 1000000) ≡
    (line (codes "step 1") ++ line (codes "word 1 = 1") ++ line (codes "word 2 = 4") ++ line (codes "word 3 = 9") ++ line (codes "sum 14"), [])

-- the run is done after one step
abbrev pub OneStepIsDone : Type 0
OneStepIsDone = (meaning squares 1000000).ending ≡ Done 1

-- one unit for the step and one for each turn; the routines have fuel of their own
abbrev pub FuelForSquares : Type 0
FuelForSquares = Writes squares 5 (line (codes "sum 14")) []

-- one unit fewer is spent at the last turn
abbrev pub NoFuelForSquares : Type 0
NoFuelForSquares = Writes squares 4 [] (line (codes "fault: after step 1: fuel spent"))

-- shared { int a[2] = {1, 2}; } main { parbegin routine[2](int w, int id) { a[id] = a[1 - id]; } parend; print(a[0], a[1]); }
abbrev pub swapped : Program
swapped = main_alone (array_of (codes "a") 2 (pos 1 ∷ pos 2 ∷ []) ∷ [])
    (parallel (routine (number 2) (set (at_item (codes "a") id) (read (at_item (codes "a") (two (number 1) Sub id))) ∷ []) ∷ [])
    ∷ print_pair
    ∷ [])

-- each routine reads the memory on which the step opened
abbrev pub SwappedPair : Type 0
SwappedPair = Writes swapped 1000000 (line (codes "2 1")) []

-- shared { int x; } main { for (int i = 0; i < 2; i += 1) { parbegin routine[1](int w, int id) { x = x + 1; } parend; } print(x); }
abbrev pub raised_twice : Program
raised_twice = main_alone (scalar (codes "x") ∷ [])
    (count_to (codes "i") 2 (parallel (routine (number 1) (set (at_name (codes "x")) (two (var (codes "x")) Add (number 1)) ∷ []) ∷ [])
    ∷ [])
    ∷ print (item.Value (var (codes "x")) ∷ [])
    ∷ [])

-- the second step opens on what the first one leaves
abbrev pub RaisedTwice : Type 0
RaisedTwice = Writes raised_twice 1000000 (line (codes "2")) []

-- shared { int a[2]; } main { parbegin routine[WIDTH](int w, int id) { FIRST } routine[2](int w, int id) { SECOND } parend; print(a[0], a[1]); }
abbrev two_blocks : ℕ → Stmt → Stmt → Program
two_blocks width first second = main_alone (array (codes "a") 2 ∷ [])
    (parallel (routine (number width) (first ∷ []) ∷ routine (number 2) (second ∷ []) ∷ [])
    ∷ print_pair
    ∷ [])

-- assert(false);
abbrev fail : Stmt
fail = s (form.Assert (e (node.Truth false)))

-- a[id] = w + id;
abbrev set_sum : Stmt
set_sum = set (at_item (codes "a") id) (two (var (codes "w")) Add id)

-- the first block has no routine
abbrev pub empty_block : Program
empty_block = two_blocks 0 fail set_sum

-- both blocks have two, and those of the first fail
abbrev pub first_fails : Program
first_fails = two_blocks 2 fail set_sum

-- both blocks have two, and those of the second fail
abbrev pub second_fails : Program
second_fails = two_blocks 2 set_sum fail

-- numbers and widths are those of the block
abbrev pub BlockOfWidthZero : Type 0
BlockOfWidthZero = Writes empty_block 1000000 (line (codes "2 3")) []

-- the least number that failed is named
abbrev pub FirstBlockFails : Type 0
FirstBlockFails = Writes first_fails 1000000 [] (line (codes "fault: step 1, routine 0: assertion failed"))

-- numbers go on from one block to the next
abbrev pub SecondBlockFails : Type 0
SecondBlockFails = Writes second_fails 1000000 [] (line (codes "fault: step 1, routine 2: assertion failed"))

-- shared { int s; } main { parbegin routine[2](int w, int id) { s = VALUE; } parend; }
abbrev pub both_write : Expr → Program
both_write value = main_alone (scalar (codes "s") ∷ []) (parallel (routine (number 2) (set (at_name (codes "s")) value ∷ []) ∷ []) ∷ [])

-- the second writer of a word is in conflict with the first, also where the value is the word's own
abbrev pub WritersInConflict : Expr → Type 0
WritersInConflict value = Writes (both_write value) 1000000 [] (line (codes "fault: step 1, routine 1: word 0 also written by routine 0"))

-- shared { int s; } main { parbegin routine[4](int w, int id) { if (id > 0) { s = id; } } parend; }
abbrev pub three_write : Program
three_write = main_alone (scalar (codes "s") ∷ [])
    (parallel (routine (number 4) (when (two id Gt (number 0)) (set (at_name (codes "s")) id ∷ []) None ∷ []) ∷ []) ∷ [])

-- the least number in conflict is named, and the writer below it
abbrev pub LeastPairInConflict : Type 0
LeastPairInConflict = Writes three_write 1000000 [] (line (codes "fault: step 1, routine 2: word 0 also written by routine 1"))

-- shared { int a[6]; } main { parbegin routine[2](int w, int id) { a[5] = 1; assert(id == 1); } parend; }
abbrev pub fails_after_write : Program
fails_after_write = main_alone (array (codes "a") 6 ∷ [])
    (parallel (routine (number 2) (set (at_item (codes "a") (number 5)) (number 1) ∷ s (form.Assert (two id Eq (number 1))) ∷ []) ∷ [])
    ∷ [])

-- a routine that fails has written nothing, so that the other has no conflict
abbrev pub TrappedWritesNothing : Type 0
TrappedWritesNothing = Writes fails_after_write 1000000 [] (line (codes "fault: step 1, routine 0: assertion failed"))

-- shared { int a[4]; int z; } main { parbegin routine[4](int w, int id) { if (id == 3) { a[0] = 1 / z; } if (id == 1) { a[4 + id] = 1; } a[id] = id; } parend; }
abbrev pub two_trap : Program
two_trap = main_alone (array (codes "a") 4 ∷ scalar (codes "z") ∷ [])
    (parallel (routine (number 4)
    (when (two id Eq (number 3)) (set (at_item (codes "a") (number 0)) (two (number 1) Div (var (codes "z"))) ∷ []) None
    ∷ when (two id Eq (number 1)) (set (at_item (codes "a") (two (number 4) Add id)) (number 1) ∷ []) None
    ∷ set (at_item (codes "a") id) id
    ∷ []) ∷ [])
    ∷ [])

-- of two that fail, the least number is named
abbrev pub LeastFaultyIsNamed : Type 0
LeastFaultyIsNamed = Writes two_trap 1000000 [] (line (codes "fault: step 1, routine 1: index out of range"))

-- shared { tally int t; } main { parbegin routine[8](int w, int id) { t += id; } parend; print(t); }
abbrev pub tallied : Program
tallied = main_alone (tally (codes "t") ∷ [])
    (parallel (routine (number 8) (add_to (at_name (codes "t")) id ∷ []) ∷ [])
    ∷ print (item.Value (var (codes "t")) ∷ [])
    ∷ [])

-- all sums of a tally word are added
abbrev pub SumOfTallies : Type 0
SumOfTallies = Writes tallied 1000000 (line (codes "28")) []

-- shared { tally int t; } main { parbegin routine[2](int w, int id) { if (id == 0) { t += 9223372036854775807; } else { t += 1; } } parend; }
abbrev pub total_too_large : Program
total_too_large = main_alone (tally (codes "t") ∷ [])
    (parallel (routine (number 2)
    (when (two id Eq (number 0)) (add_to (at_name (codes "t")) (number 9223372036854775807) ∷ [])
    (Some (add_to (at_name (codes "t")) (number 1) ∷ []))
    ∷ []) ∷ [])
    ∷ [])

-- a total that does not fit 64 bits has no routine's name
abbrev pub TotalOutOfRange : Type 0
TotalOutOfRange = Writes total_too_large 1000000 [] (line (codes "fault: step 1: total at word 0"))

-- shared { } main { parbegin WIDTHS parend; }, where each routine block is empty
abbrev pub of_widths : List Expr → Program
of_widths widths = main_alone [] (parallel (map (λ width. routine width []) widths) ∷ [])

-- these widths are no step's
abbrev pub BadWidths : List Expr → Type 0
BadWidths widths = Writes (of_widths widths) 1000000 [] (line (codes "fault: after step 0: bad width"))

-- shared { } main { int m = -9223372036854775807 - 1; print(-7 / 2, -7 % 2); print(m OP -1); }
abbrev pub least_by_minus_one : BinaryOp → Program
least_by_minus_one op = main_alone []
    (declare (codes "m") (two (minus (number 9223372036854775807)) Sub (number 1))
    ∷ print (item.Value (two (minus (number 7)) Div (number 2)) ∷ item.Value (two (minus (number 7)) Rem (number 2)) ∷ [])
    ∷ print (item.Value (two (var (codes "m")) op (minus (number 1))) ∷ [])
    ∷ [])

-- a quotient is cut towards zero, a remainder has the dividend's sign, and the least number by -1 overflows
abbrev pub OverflowInMain : BinaryOp → Type 0
OverflowInMain op = Writes (least_by_minus_one op) 1000000 (line (codes "-3 -1")) (line (codes "fault: after step 0: overflow"))

-- shared { } main { int i = 0; while (i < LIMIT) { i += 1; } print(i); }
abbrev pub counting : ℕ → Program
counting limit = main_alone []
    (declare (codes "i") (number 0)
    ∷ s (form.While (two (var (codes "i")) Lt (number limit)) (add_to (at_name (codes "i")) (number 1) ∷ []))
    ∷ print (item.Value (var (codes "i")) ∷ [])
    ∷ [])

-- three turns take three units
abbrev pub FuelForThreeTurns : Type 0
FuelForThreeTurns = Writes (counting 3) 3 (line (codes "3")) []

-- and four turns take one more
abbrev pub NoFuelForFourTurns : Type 0
NoFuelForFourTurns = Writes (counting 4) 3 [] (line (codes "fault: after step 0: fuel spent"))

-- shared { } int f(int n) { return f(n + 1); } main { print(f(0)); }
abbrev pub endless : Program
endless = record {
  shared = [];
  functions = record {
    name = named (codes "f");
    gives = gives.Int;
    params = record { name = named (codes "n"); ty = ty.Int } ∷ [];
    body = s (form.Return (Some (call (codes "f") (two (var (codes "n")) Add (number 1) ∷ [])))) ∷ [];
  } ∷ [];
  main = print (item.Value (call (codes "f") (number 0 ∷ [])) ∷ []) ∷ [];
}

-- a call without end is too deep
abbrev pub CallsTooDeep : Type 0
CallsTooDeep = Writes endless 1000000 [] (line (codes "fault: after step 0: too deep"))

-- shared { int z; } main { print(z != 0 && 1 / z > 0); }
abbrev pub guarded : Program
guarded = main_alone (scalar (codes "z") ∷ [])
    (print (item.Value (two (two (var (codes "z")) Ne (number 0)) And (two (two (number 1) Div (var (codes "z"))) Gt (number 0))) ∷ [])
    ∷ [])

-- the right operand is not evaluated where the left one decides
abbrev pub RightIsSkipped : Type 0
RightIsSkipped = Writes guarded 1000000 (line (codes "false")) []

-- shared { } main { int i = 0; while (i < 1) { i += 1; } parbegin routine[-1](int w, int id) { } parend; }
abbrev pub bad_width_without_fuel : Program
bad_width_without_fuel = main_alone []
    (declare (codes "i") (number 0)
    ∷ s (form.While (two (var (codes "i")) Lt (number 1)) (add_to (at_name (codes "i")) (number 1) ∷ []))
    ∷ parallel (routine (minus (number 1)) [] ∷ [])
    ∷ [])

-- the widths are tested before the unit is taken
abbrev pub BadWidthComesFirst : Type 0
BadWidthComesFirst = Writes bad_width_without_fuel 1 [] (line (codes "fault: after step 0: bad width"))

-- shared { int a[2]; } main { parbegin routine[2](int w, int id) { for (int k = 0; k < 3; k += 1) { a[id] += k; } } parend; print(a[0], a[1]); }
abbrev pub own_loops : Program
own_loops = main_alone (array (codes "a") 2 ∷ [])
    (parallel (routine (number 2) (count_to (codes "k") 3 (add_to (at_item (codes "a") id) (var (codes "k")) ∷ []) ∷ []) ∷ [])
    ∷ print_pair
    ∷ [])

-- each routine has the whole fuel, and reads what it wrote itself
abbrev pub FuelOfTheirOwn : Type 0
FuelOfTheirOwn = Writes own_loops 3 (line (codes "3 3")) []

-- a routine that spends its fuel is faulty
abbrev pub RoutineSpendsItsFuel : Type 0
RoutineSpendsItsFuel = Writes own_loops 2 [] (line (codes "fault: step 1, routine 0: fuel spent"))

-- shared { } int f(int n) { if (n == 0) { return 7; } return f(n - 1); } main { print(f(N)); }
abbrev pub descending : ℕ → Program
descending n = record {
  shared = [];
  functions = record {
    name = named (codes "f");
    gives = gives.Int;
    params = record { name = named (codes "n"); ty = ty.Int } ∷ [];
    body =
        when (two (var (codes "n")) Eq (number 0)) (s (form.Return (Some (number 7))) ∷ []) None
        ∷ s (form.Return (Some (call (codes "f") (two (var (codes "n")) Sub (number 1) ∷ []))))
        ∷ [];
  } ∷ [];
  main = print (item.Value (call (codes "f") (number n ∷ [])) ∷ []) ∷ [];
}

-- 64 calls nest, and no more
abbrev pub CallsNest : Type 0
CallsNest = Writes (descending 63) 1000000 (line (codes "7")) []

-- the 65th call is too deep
abbrev pub CallsNestTooDeep : Type 0
CallsNestTooDeep = Writes (descending 64) 1000000 [] (line (codes "fault: after step 0: too deep"))

-- shared { int a[2]; int z; } main { a[2] = 1 / z; }
abbrev pub value_first : Program
value_first = main_alone (array (codes "a") 2 ∷ scalar (codes "z") ∷ [])
    (set (at_item (codes "a") (number 2)) (two (number 1) Div (var (codes "z"))) ∷ [])

-- the value is evaluated before the index is tested
abbrev pub ValueBeforeRange : Type 0
ValueBeforeRange = Writes value_first 1000000 [] (line (codes "fault: after step 0: division by zero"))

-- shared { int a[2]; } main { a[2] = 1; }
abbrev pub sets_behind : Program
sets_behind = main_alone (array (codes "a") 2 ∷ []) (set (at_item (codes "a") (number 2)) (number 1) ∷ [])

-- shared { int a[2]; } main { print(a[-1]); }
abbrev pub reads_before : Program
reads_before = main_alone (array (codes "a") 2 ∷ []) (print (item.Value (read (at_item (codes "a") (minus (number 1)))) ∷ []) ∷ [])

-- the index is outside the array
abbrev pub OutsideArray : Program → Type 0
OutsideArray p = Writes p 1000000 [] (line (codes "fault: after step 0: index out of range"))

-- shared { int x; } int f(int n) { x = 5; return n; } main { x += f(1); print(x); }
abbrev pub adds_after : Program
adds_after = record {
  shared = scalar (codes "x") ∷ [];
  functions = record {
    name = named (codes "f");
    gives = gives.Int;
    params = record { name = named (codes "n"); ty = ty.Int } ∷ [];
    body = set (at_name (codes "x")) (number 5) ∷ s (form.Return (Some (var (codes "n")))) ∷ [];
  } ∷ [];
  main =
      add_to (at_name (codes "x")) (call (codes "f") (number 1 ∷ []))
      ∷ print (item.Value (var (codes "x")) ∷ [])
      ∷ [];
}

-- the value is evaluated before the word is read
abbrev pub ValueBeforeReading : Type 0
ValueBeforeReading = Writes adds_after 1000000 (line (codes "6")) []

-- shared { } main {
--   int s = 0; for (int i = 0; i < 9; i += 1) { if (i == 1) { continue; } if (i == 3) { break; } s += i; } print(s); return; print(s);
-- }
abbrev pub leaving : Program
leaving = main_alone []
    (declare (codes "s") (number 0)
    ∷ count_to (codes "i") 9
    (when (two (var (codes "i")) Eq (number 1)) (s form.Continue ∷ []) None
    ∷ when (two (var (codes "i")) Eq (number 3)) (s form.Break ∷ []) None
    ∷ add_to (at_name (codes "s")) (var (codes "i"))
    ∷ [])
    ∷ print (item.Value (var (codes "s")) ∷ [])
    ∷ s (form.Return None)
    ∷ print (item.Value (var (codes "s")) ∷ [])
    ∷ [])

-- `continue` goes to the step statement and takes a unit, `break` takes none, and `return` ends main
abbrev pub LeavingLoops : Type 0
LeavingLoops = Writes leaving 3 (line (codes "2")) []

-- k < 8
abbrev pub below_eight : Expr
below_eight = two (var (codes "k")) Lt (number 8)

-- k += 1
abbrev pub next_k : Stmt
next_k = add_to (at_name (codes "k")) (number 1)

-- v += a[r * 8 + k] * b[k * 8 + q];
abbrev pub add_product : Stmt
add_product =
    add_to (at_name (codes "v"))
    (two (read (at_item (codes "a") (two (two (var (codes "r")) Mul (number 8)) Add (var (codes "k"))))) Mul
    (read (at_item (codes "b") (two (two (var (codes "k")) Mul (number 8)) Add (var (codes "q"))))))

-- return v;
abbrev pub return_v : Stmt
return_v = s (form.Return (Some (var (codes "v"))))

-- int cell(int r, int q) { int v = 0; for (int k = 0; k < 8; k += 1) { v += a[r * 8 + k] * b[k * 8 + q]; } return v; }
abbrev cell : Function
cell = record {
  name = named (codes "cell");
  gives = gives.Int;
  params = record { name = named (codes "r"); ty = ty.Int } ∷ record { name = named (codes "q"); ty = ty.Int } ∷ [];
  body =
      declare (codes "v") (number 0)
      ∷ s (form.For (declare (codes "k") (number 0)) below_eight next_k (add_product ∷ []))
      ∷ return_v
      ∷ [];
}

-- id / 8
abbrev row : Expr
row = two id Div (number 8)

-- id % 8
abbrev column : Expr
column = two id Rem (number 8)

-- routine[64](int w, int id) { a[id] = id / 8 + id % 8; if (id / 8 == id % 8) { b[id] = 2; } }
abbrev filling : RoutineBlock
filling = routine (number 64)
    (set (at_item (codes "a") id) (two row Add column)
    ∷ when (two row Eq column) (set (at_item (codes "b") id) (number 2) ∷ []) None
    ∷ [])

-- routine[64](int w, int id) { c[id] = cell(id / 8, id % 8); }
abbrev pub multiplying : RoutineBlock
multiplying = routine (number 64) (set (at_item (codes "c") id) (call (codes "cell") (row ∷ column ∷ [])) ∷ [])

-- shared { int a[64]; int b[64]; int c[64]; } CELL main {
--   parbegin FILLING parend; parbegin MULTIPLYING parend;
--   int s = 0; for (int i = 0; i < 64; i += 1) { s += c[i]; } print("sum", s, "last", c[63]);
-- }
abbrev pub products : Program
products = record {
  shared = array (codes "a") 64 ∷ array (codes "b") 64 ∷ array (codes "c") 64 ∷ [];
  functions = cell ∷ [];
  main =
      parallel (filling ∷ [])
      ∷ parallel (multiplying ∷ [])
      ∷ declare (codes "s") (number 0)
      ∷ count_to (codes "i") 64 (add_to (at_name (codes "s")) (read (at_item (codes "c") (var (codes "i")))) ∷ [])
      ∷ print (item.Text (named (codes "sum")) ∷ item.Value (var (codes "s")) ∷ item.Text (named (codes "last")) ∷ item.Value
      (read (at_item (codes "c") (number 63))) ∷ [])
      ∷ [];
}

-- two steps and 64 turns of main take 66 units; the calls and turns of the routines take none of these
abbrev pub FuelForProducts : Type 0
FuelForProducts = Writes products 66 (line (codes "sum 896 last 28")) []

-- one unit fewer is spent at the last turn
abbrev pub NoFuelForProducts : Type 0
NoFuelForProducts = Writes products 65 [] (line (codes "fault: after step 2: fuel spent"))
