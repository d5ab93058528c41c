-- Parts of trees; their positions don't matter.
use Rattle.std.specs.Prelude.{ℕ, Bool, ℤ, pos, List, [], ◌∷◌, ◌++◌, Some, None, true, false, map, codes}
use Rattle.cal_base.specs.Text.{line}
use Rattle.cal_terms.specs.declared.kinds.WordKind.TheVariants.{Ordinary, Tally}
use Rattle.cal_terms.specs.declared.types.Gives.{Gives}
use Rattle.cal_terms.specs.declared.types.Ty.TheVariants as ty
use Rattle.csl_tree.specs.declared.name.Name.{Name}
use Rattle.csl_tree.specs.declared.program.Program.{Program}
use Rattle.csl_tree.specs.declared.program.Function.{Function}
use Rattle.csl_tree.specs.declared.program.Expr.{Expr}
use Rattle.csl_tree.specs.declared.program.Node.{Node}
use Rattle.csl_tree.specs.declared.program.Node.TheVariants as node
use Rattle.csl_tree.specs.declared.program.Place.{Place, roll-Place}
use Rattle.csl_tree.specs.declared.program.Call.{Call, roll-Call}
use Rattle.csl_tree.specs.declared.program.BinaryOp.{BinaryOp}
use Rattle.csl_tree.specs.declared.program.BinaryOp.TheVariants.{Sub, Mul, Div, Lt}
use Rattle.csl_tree.specs.declared.program.Item.TheVariants as item
use Rattle.csl_tree.specs.declared.program.Stmt.{Stmt}
use Rattle.csl_tree.specs.declared.program.Form.{Form}
use Rattle.csl_tree.specs.declared.program.Form.TheVariants as form
use Rattle.csl_tree.specs.declared.program.RoutineBlock.{RoutineBlock}
use Rattle.csl_tree.specs.declared.program.Arm.{roll-Arm}
use Rattle.csl_tree.specs.declared.program.Shared.{Shared}
use Rattle.csl_meaning.specs.Rows.{number, minus, routine, Writes}

-- a name
abbrev pub named : List ℕ → Name
named text = record { text = text; at = 0 }

-- int x;
abbrev pub scalar : List ℕ → Shared
scalar x = record { name = named x; kind = Ordinary; size = None; values = []; listed = false }

-- tally int x;
abbrev pub tally : List ℕ → Shared
tally x = record { name = named x; kind = Tally; size = None; values = []; listed = false }

-- int x[n];
abbrev pub array : List ℕ → ℕ → Shared
array x n = record { name = named x; kind = Ordinary; size = Some (record { at = 0; number = pos n }); values = []; listed = false }

-- int x[n] = {values};
abbrev pub array_of : List ℕ → ℕ → List ℤ → Shared
array_of x n values = record (array x n) { values = map (λ z. record { at = 0; number = z }) values; listed = true }

-- an expression
abbrev pub e : Node → Expr
e n = record { at = 0; node = n }

-- true or false
abbrev pub truth : Bool → Expr
truth b = e (node.Truth b)

-- x OP y
abbrev pub two : Expr → BinaryOp → Expr → Expr
two x op y = e (node.Binary op x y)

-- (x)
abbrev pub paren : Expr → Expr
paren x = e (node.Paren x)

-- 9223372036854775807, the greatest number
abbrev pub greatest : Expr
greatest = number 9223372036854775807

-- -9223372036854775807 - 1, the least number
abbrev pub least : Expr
least = two (minus greatest) Sub (number 1)

-- 9223372036854775807 * 2, which overflows
abbrev pub too_large : Expr
too_large = two greatest Mul (number 2)

-- 1 / 0, which has a zero divisor
abbrev pub by_zero : Expr
by_zero = two (number 1) Div (number 0)

-- the place x
abbrev pub at_name : List ℕ → Place
at_name x = roll-Place (record { name = named x; index = None })

-- the place a[i]
abbrev pub at_item : List ℕ → Expr → Place
at_item a i = roll-Place (record { name = named a; index = Some i })

-- x
abbrev pub var : List ℕ → Expr
var x = e (node.Read (at_name x))

-- a[i]
abbrev pub item_of : List ℕ → Expr → Expr
item_of a i = e (node.Read (at_item a i))

-- f(arguments)
abbrev pub calling : List ℕ → List Expr → Call
calling f arguments = roll-Call (record { name = named f; args = arguments })

-- the value of f(arguments)
abbrev pub call : List ℕ → List Expr → Expr
call f arguments = e (node.CallOf (calling f arguments))

-- a statement
abbrev pub s : Form → Stmt
s f = record { at = 0; form = f }

-- int x = value;
abbrev pub declare : List ℕ → Expr → Stmt
declare x value = s (form.Declare ty.Int (named x) value)

-- place = value;
abbrev pub set : Place → Expr → Stmt
set place value = s (form.Set place value)

-- place += value;
abbrev pub add_to : Place → Expr → Stmt
add_to place value = s (form.AddTo place value)

-- f(arguments);
abbrev pub run : List ℕ → List Expr → Stmt
run f arguments = s (form.CallOf (calling f arguments))

-- return value;
abbrev pub give : Expr → Stmt
give value = s (form.Return (Some value))

-- return;
abbrev pub leave : Stmt
leave = s (form.Return None)

-- if (test) { body }
abbrev pub when : Expr → List Stmt → Stmt
when test body = s (form.If (roll-Arm (record { test = test; body = body }) ∷ []) None)

-- while (test) { body }
abbrev pub while : Expr → List Stmt → Stmt
while test body = s (form.While test body)

-- for (int x = 0; x < n; next) { body }
abbrev pub count_by : List ℕ → ℕ → Stmt → List Stmt → Stmt
count_by x n next body = s (form.For (declare x (number 0)) (two (var x) Lt (number n)) next body)

-- for (int x = 0; x < n; x += 1) { body }
abbrev pub count_to : List ℕ → ℕ → List Stmt → Stmt
count_to x n body = count_by x n (add_to (at_name x) (number 1)) body

-- print("text");
abbrev pub say : List ℕ → Stmt
say text = s (form.Print (item.Text (named text) ∷ []))

-- print(values);
abbrev pub print : List Expr → Stmt
print values = s (form.Print (map item.Value values))

-- parbegin blocks parend;
abbrev pub parallel : List RoutineBlock → Stmt
parallel blocks = s (form.Par blocks)

-- parbegin routine[n](int w, int id) { body } parend;
abbrev pub step : ℕ → List Stmt → Stmt
step n body = parallel (routine (number n) body ∷ [])

-- a function f with int parameters of these names
abbrev pub function : Gives → List ℕ → List (List ℕ) → List Stmt → Function
function given f names body = record {
  name = named f;
  gives = given;
  params = map (λ x. record { name = named x; ty = ty.Int }) names;
  body = body;
}

-- a program
abbrev pub program : List Shared → List Function → List Stmt → Program
program shared functions main = record { shared = shared; functions = functions; main = main }

-- ---- what they write

-- the program prints this, and is done
abbrev pub Prints : Program → List ℕ → Type 0
Prints p out = Writes p 1000000 (line out) []

-- the program prints nothing, and has this fault
abbrev pub Faults : Program → List ℕ → Type 0
Faults p fault = Writes p 1000000 [] (line (codes "fault: " ++ fault))
