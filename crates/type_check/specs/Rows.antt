-- Worked examples: small programs as trees, with the place of each part, and all their faults.
use Rattle.std.specs.Prelude.{◌≡◌, ℕ, zero, suc, Bool, true, false, pos, List, [], ◌∷◌, ◌++◌, Some, None, replicate, codes}
use Rattle.cal_terms.specs.declared.kinds.WordKind.TheVariants.{Ordinary, Tally}
use Rattle.csl_tree.specs.declared.name.Name.{Name}
use Rattle.csl_tree.specs.declared.program.Program.{Program}
use Rattle.csl_tree.specs.declared.program.Shared.{Shared}
use Rattle.csl_tree.specs.declared.program.Valued.{Valued}
use Rattle.csl_tree.specs.declared.program.Function.{Function}
use Rattle.csl_tree.specs.declared.program.Param.{Param}
use Rattle.cal_terms.specs.declared.types.Gives.{Gives}
use Rattle.cal_terms.specs.declared.types.Gives.TheVariants as gives
use Rattle.cal_terms.specs.declared.types.Ty.{Ty}
use Rattle.cal_terms.specs.declared.types.Ty.TheVariants as ty
use Rattle.csl_tree.specs.declared.program.Expr.{Expr}
use Rattle.csl_tree.specs.declared.program.Node.{Node}
use Rattle.csl_tree.specs.declared.program.Node.TheVariants as node
use Rattle.csl_tree.specs.declared.program.Place.{Place, roll-Place}
use Rattle.csl_tree.specs.declared.program.Call.{Call, roll-Call}
use Rattle.csl_tree.specs.declared.program.UnaryOp.TheVariants.{Neg, Not}
use Rattle.csl_tree.specs.declared.program.BinaryOp.TheVariants.{Add, Mul, Eq, Lt}
use Rattle.csl_tree.specs.declared.program.Item.TheVariants as item
use Rattle.csl_tree.specs.declared.program.Stmt.{Stmt}
use Rattle.csl_tree.specs.declared.program.Form.{Form}
use Rattle.csl_tree.specs.declared.program.Form.TheVariants as form
use Rattle.csl_tree.specs.declared.program.RoutineBlock.{RoutineBlock, roll-RoutineBlock}
use Rattle.csl_tree.specs.declared.program.Arm.{Arm, roll-Arm}
use Rattle.type_check.specs.declared.fault.Fault.{Fault}
use Rattle.type_check.specs.declared.fault.CheckKind.{CheckKind}
use Rattle.type_check.specs.declared.fault.CheckKind.TheVariants.{UnknownName, NameTaken, WrongUse, WrongType, WrongCount, NoReturn}
use Rattle.type_check.specs.declared.fault.CheckKind.TheVariants.{WrongReturn, NotInLoop, OnlyInMain, TallyUsed, Limit}
use Rattle.type_check.specs.Faults.{fault_list}

-- ---- parts of trees; a place comes before what stands there, but for names

abbrev named : List ℕ → ℕ → Name
named text position = record { text = text; at = position }

abbrev program : List Shared → List Function → List Stmt → Program
program shared functions main = record { shared = shared; functions = functions; main = main }

-- int x;
abbrev scalar : Name → Shared
scalar x = record { name = x; kind = Ordinary; size = None; values = []; listed = false }

-- tally int x;
abbrev tally : Name → Shared
tally x = record { name = x; kind = Tally; size = None; values = []; listed = false }

-- int x[n] = {values};
abbrev array : Name → ℕ → ℕ → List Valued → Shared
array x position n values = record { name = x; kind = Ordinary; size = Some (record { at = position; number = pos n }); values = values; listed = true }

abbrev valued : ℕ → ℕ → Valued
valued position n = record { at = position; number = pos n }

abbrev function : Gives → Name → List Param → List Stmt → Function
function g f params body = record { name = f; gives = g; params = params; body = body }

abbrev param : Ty → Name → Param
param t x = record { name = x; ty = t }

abbrev expr : ℕ → Node → Expr
expr position n = record { at = position; node = n }

abbrev number : ℕ → ℕ → Expr
number position n = expr position (node.Number (pos n))

abbrev truth : ℕ → Bool → Expr
truth position b = expr position (node.Truth b)

-- the place x
abbrev place : Name → Place
place x = roll-Place (record { name = x; index = None })

-- the place a[i]
abbrev item_of : Name → Expr → Place
item_of a i = roll-Place (record { name = a; index = Some i })

-- x
abbrev var : Name → Expr
var x = expr x.at (node.Read (place x))

-- f(arguments)
abbrev call : Name → List Expr → Call
call f arguments = roll-Call (record { name = f; args = arguments })

abbrev stmt : ℕ → Form → Stmt
stmt position f = record { at = position; form = f }

abbrev arm : Expr → List Stmt → Arm
arm test body = roll-Arm (record { test = test; body = body })

-- routine[width](int w, int i) { body }
abbrev routine : ℕ → Expr → Name → Name → List Stmt → RoutineBlock
routine position width w i body = roll-RoutineBlock (record { at = position; width = width; width_name = w; id_name = i; body = body })

-- a fault
abbrev at : ℕ → CheckKind → Fault
at position k = record { at = position; kind = k }

-- ---- programs

-- shared { int x; int x; } main { y = 1; }
abbrev pub twice : Program
twice = program
    (scalar (named (codes "x") 13) ∷ scalar (named (codes "x") 20) ∷ [])
    []
    (stmt 32 (form.Set (place (named (codes "y") 32)) (number 36 1)) ∷ [])

-- a second declaration of a name, and a name that is declared nowhere
abbrev pub DeclaredTwice : Type 0
DeclaredTwice = fault_list twice ≡ at 20 NameTaken ∷ at 32 UnknownName ∷ []

-- shared { tally int t; } main { parbegin routine[1](int w, int id) { int x = t; } parend; }
abbrev pub tally_read : Program
tally_read = program
    (tally (named (codes "t") 19) ∷ [])
    []
    (stmt 31 (form.Par (routine 40 (number 48 1) (named (codes "w") 55) (named (codes "id") 62)
    (stmt 68 (form.Declare ty.Int (named (codes "x") 72) (var (named (codes "t") 76))) ∷ []) ∷ [])) ∷ [])

-- in a routine a tally word is not read
abbrev pub ReadInARoutine : Type 0
ReadInARoutine = fault_list tally_read ≡ at 76 TallyUsed ∷ []

-- shared { tally int t; } void f() { t = 1; } main { parbegin routine[1](int w, int id) { f(); } parend; }
abbrev pub tally_by_call : Program
tally_by_call = program
    (tally (named (codes "t") 19) ∷ [])
    (function gives.Nothing (named (codes "f") 29) [] (stmt 35 (form.Set (place (named (codes "t") 35)) (number 39 1)) ∷ []) ∷ [])
    (stmt 51 (form.Par (routine 60 (number 68 1) (named (codes "w") 75) (named (codes "id") 82)
    (stmt 88 (form.CallOf (call (named (codes "f") 88) [])) ∷ []) ∷ [])) ∷ [])

-- nor is a function called that sets one
abbrev pub SetByACall : Type 0
SetByACall = fault_list tally_by_call ≡ at 88 TallyUsed ∷ []

-- shared { int a[4]; } int f(int n) { if (n < 1) { return 0; } else { return a[n]; } } main { parbegin routine[4](int w, int id) { a[id] = id; } parend; for (int i = 0; i < 4; i += 1) { print(f(i)); } }
abbrev pub accepted : Program
accepted = program
    (array (named (codes "a") 13) 15 4 [] ∷ [])
    (function gives.Int (named (codes "f") 25) (param ty.Int (named (codes "n") 31) ∷ [])
    (stmt 36 (form.If (arm (expr 40 (node.Binary Lt (var (named (codes "n") 40)) (number 44 1)))
    (stmt 49 (form.Return (Some (number 56 0))) ∷ []) ∷ []) (Some
    (stmt 68 (form.Return (Some (expr 75 (node.Read (item_of (named (codes "a") 75) (var (named (codes "n") 77))))))) ∷ []))) ∷ [])
    ∷ [])
    (stmt 92 (form.Par (routine 101 (number 109 4) (named (codes "w") 116) (named (codes "id") 123)
    (stmt 129 (form.Set (item_of (named (codes "a") 129) (var (named (codes "id") 131))) (var (named (codes "id") 137))) ∷ []) ∷ [])) ∷
    stmt 151 (form.For (stmt 156 (form.Declare ty.Int (named (codes "i") 160) (number 164 0)))
    (expr 167 (node.Binary Lt (var (named (codes "i") 167)) (number 171 4)))
    (stmt 174 (form.AddTo (place (named (codes "i") 174)) (number 179 1)))
    (stmt 184 (form.Print (item.Value (expr 190 (node.CallOf (call (named (codes "f") 190) ((var (named (codes "i") 192)) ∷ []))))
    ∷ [])) ∷ [])) ∷ [])

-- no fault at all
abbrev pub NoFaults : Type 0
NoFaults = fault_list accepted ≡ []

-- shared { } main { int x = x; { int x = 1; } }
abbrev pub own_value : Program
own_value = program
    []
    []
    (stmt 18 (form.Declare ty.Int (named (codes "x") 22) (var (named (codes "x") 26))) ∷ stmt 29
    (form.Block (stmt 31 (form.Declare ty.Int (named (codes "x") 35) (number 39 1)) ∷ [])) ∷ [])

-- a local is not visible in its own value, but in the blocks inside its own
abbrev pub OwnValue : Type 0
OwnValue = fault_list own_value ≡ at 26 UnknownName ∷ at 35 NameTaken ∷ []

-- shared { } main { { int x = 1; x = 2; } x = 3; int x = 4; print(x); }
abbrev pub block_ends : Program
block_ends = program
    []
    []
    (stmt 18 (form.Block (stmt 20 (form.Declare ty.Int (named (codes "x") 24) (number 28 1)) ∷ stmt 31
    (form.Set (place (named (codes "x") 31)) (number 35 2)) ∷ [])) ∷ stmt 40 (form.Set (place (named (codes "x") 40)) (number 44 3)) ∷
    stmt 47 (form.Declare ty.Int (named (codes "x") 51) (number 55 4)) ∷ stmt 58
    (form.Print (item.Value (var (named (codes "x") 64)) ∷ [])) ∷ [])

-- a local ends with its block
abbrev pub EndOfABlock : Type 0
EndOfABlock = fault_list block_ends ≡ at 40 UnknownName ∷ []

-- shared { } main { for (int i = 0; i < 2; i += 1) { int j = i; } for (int i = 0; i < 2; i += 1) { int j = i; } i = 1; }
abbrev pub for_ends : Program
for_ends = program
    []
    []
    (stmt 18 (form.For (stmt 23 (form.Declare ty.Int (named (codes "i") 27) (number 31 0)))
    (expr 34 (node.Binary Lt (var (named (codes "i") 34)) (number 38 2)))
    (stmt 41 (form.AddTo (place (named (codes "i") 41)) (number 46 1)))
    (stmt 51 (form.Declare ty.Int (named (codes "j") 55) (var (named (codes "i") 59))) ∷ [])) ∷ stmt 64
    (form.For (stmt 69 (form.Declare ty.Int (named (codes "i") 73) (number 77 0)))
    (expr 80 (node.Binary Lt (var (named (codes "i") 80)) (number 84 2)))
    (stmt 87 (form.AddTo (place (named (codes "i") 87)) (number 92 1)))
    (stmt 97 (form.Declare ty.Int (named (codes "j") 101) (var (named (codes "i") 105))) ∷ [])) ∷ stmt 110
    (form.Set (place (named (codes "i") 110)) (number 114 1)) ∷ [])

-- the local of a `for` ends with it
abbrev pub EndOfAFor : Type 0
EndOfAFor = fault_list for_ends ≡ at 110 UnknownName ∷ []

-- shared { int s; } main { int x = 1; parbegin routine[x](int w, int id) { s = x; int x = w + id; } routine[1](int w, int w) { } parend; }
abbrev pub main_local_unseen : Program
main_local_unseen = program
    (scalar (named (codes "s") 13) ∷ [])
    []
    (stmt 25 (form.Declare ty.Int (named (codes "x") 29) (number 33 1)) ∷ stmt 36
    (form.Par (routine 45 (var (named (codes "x") 53)) (named (codes "w") 60) (named (codes "id") 67)
    (stmt 73 (form.Set (place (named (codes "s") 73)) (var (named (codes "x") 77))) ∷ stmt 80
    (form.Declare ty.Int (named (codes "x") 84) (expr 88 (node.Binary Add (var (named (codes "w") 88)) (var (named (codes "id") 92)))))
    ∷ []) ∷ routine 98 (number 106 1) (named (codes "w") 113) (named (codes "w") 120) [] ∷ [])) ∷ [])

-- a routine does not see the locals of main, but its width does
abbrev pub LocalsOfMain : Type 0
LocalsOfMain = fault_list main_local_unseen ≡ at 77 UnknownName ∷ at 120 NameTaken ∷ []

-- shared { } int f() { return g(); } int g() { return g() + f(); } main { }
abbrev pub called_early : Program
called_early = program
    []
    (function gives.Int (named (codes "f") 15) [] (stmt 21 (form.Return (Some (expr 28 (node.CallOf (call (named (codes "g") 28) [])))))
    ∷ []) ∷ function gives.Int (named (codes "g") 39) [] (stmt 45
    (form.Return (Some (expr 52 (node.Binary Add (expr 52 (node.CallOf (call (named (codes "g") 52) [])))
    (expr 58 (node.CallOf (call (named (codes "f") 58) []))))))) ∷ []) ∷ [])
    []

-- a function is visible in itself and behind, not before
abbrev pub CalledTooEarly : Type 0
CalledTooEarly = fault_list called_early ≡ at 28 UnknownName ∷ []

-- shared { int a[2]; int x; tally int t; } void f() { } main { a = 1; x[0] = 1; t[0] += 1; f = 1; x(); int y = a + f; y[0] += 1; }
abbrev pub wrong_uses : Program
wrong_uses = program
    (array (named (codes "a") 13) 15 2 [] ∷ scalar (named (codes "x") 23) ∷ tally (named (codes "t") 36) ∷ [])
    (function gives.Nothing (named (codes "f") 46) [] [] ∷ [])
    (stmt 61 (form.Set (place (named (codes "a") 61)) (number 65 1)) ∷ stmt 68
    (form.Set (item_of (named (codes "x") 68) (number 70 0)) (number 75 1)) ∷ stmt 78
    (form.AddTo (item_of (named (codes "t") 78) (number 80 0)) (number 86 1)) ∷ stmt 89
    (form.Set (place (named (codes "f") 89)) (number 93 1)) ∷ stmt 96 (form.CallOf (call (named (codes "x") 96) [])) ∷ stmt 101
    (form.Declare ty.Int (named (codes "y") 105) (expr 109 (node.Binary Add (var (named (codes "a") 109))
    (var (named (codes "f") 113))))) ∷ stmt 116 (form.AddTo (item_of (named (codes "y") 116) (number 118 0)) (number 124 1)) ∷ [])

-- each wrong use of a name
abbrev pub WrongUses : Type 0
WrongUses = fault_list wrong_uses ≡ at 61 WrongUse ∷ at 68 WrongUse ∷ at 78 WrongUse ∷ at 89 WrongUse ∷ at 96 WrongUse ∷ at 109 WrongUse ∷
    at 113 WrongUse ∷ at 116 WrongUse ∷ []

-- shared { int a[2]; } void f() { } main { int x = true; bool b = 1 < false; x = -b; b = !1; a[b] = 1; b = f() == 1; b = 1 == b; if (x) { } print(f(), x, b); b += true; assert((1)); }
abbrev pub wrong_types : Program
wrong_types = program
    (array (named (codes "a") 13) 15 2 [] ∷ [])
    (function gives.Nothing (named (codes "f") 26) [] [] ∷ [])
    (stmt 41 (form.Declare ty.Int (named (codes "x") 45) (truth 49 true)) ∷ stmt 55
    (form.Declare ty.Bool (named (codes "b") 60) (expr 64 (node.Binary Lt (number 64 1) (truth 68 false)))) ∷ stmt 75
    (form.Set (place (named (codes "x") 75)) (expr 79 (node.Unary Neg (var (named (codes "b") 80))))) ∷ stmt 83
    (form.Set (place (named (codes "b") 83)) (expr 87 (node.Unary Not (number 88 1)))) ∷ stmt 91
    (form.Set (item_of (named (codes "a") 91) (var (named (codes "b") 93))) (number 98 1)) ∷ stmt 101
    (form.Set (place (named (codes "b") 101)) (expr 105 (node.Binary Eq (expr 105 (node.CallOf (call (named (codes "f") 105) [])))
    (number 112 1)))) ∷ stmt 115 (form.Set (place (named (codes "b") 115))
    (expr 119 (node.Binary Eq (number 119 1) (var (named (codes "b") 124))))) ∷ stmt 127
    (form.If (arm (var (named (codes "x") 131)) [] ∷ []) None) ∷ stmt 138
    (form.Print (item.Value (expr 144 (node.CallOf (call (named (codes "f") 144) []))) ∷ item.Value (var (named (codes "x") 149)) ∷
    item.Value (var (named (codes "b") 152)) ∷ [])) ∷ stmt 156 (form.AddTo (place (named (codes "b") 156)) (truth 161 true)) ∷ stmt 167
    (form.Assert (expr 174 (node.Paren (number 175 1)))) ∷ [])

-- each wrong type
abbrev pub WrongTypes : Type 0
WrongTypes = fault_list wrong_types ≡ at 49 WrongType ∷ at 68 WrongType ∷ at 80 WrongType ∷ at 88 WrongType ∷ at 93 WrongType ∷ at 105
    WrongType ∷ at 112 WrongType ∷ at 124 WrongType ∷ at 131 WrongType ∷ at 144 WrongType ∷ at 156 WrongType ∷ at 174 WrongType ∷ []

-- shared { } main { int x = 1; bool b = y + 1; x = (1 + true) * 2; b = 2 < 1 + b; }
abbrev pub bad_rests : Program
bad_rests = program
    []
    []
    (stmt 18 (form.Declare ty.Int (named (codes "x") 22) (number 26 1)) ∷ stmt 29
    (form.Declare ty.Bool (named (codes "b") 34) (expr 38 (node.Binary Add (var (named (codes "y") 38)) (number 42 1)))) ∷ stmt 45
    (form.Set (place (named (codes "x") 45)) (expr 49 (node.Binary Mul
    (expr 49 (node.Paren (expr 50 (node.Binary Add (number 50 1) (truth 54 true))))) (number 62 2)))) ∷ stmt 65
    (form.Set (place (named (codes "b") 65)) (expr 69 (node.Binary Lt (number 69 2)
    (expr 73 (node.Binary Add (number 73 1) (var (named (codes "b") 77))))))) ∷ [])

-- no fault rests on a part that is bad
abbrev pub BadParts : Type 0
BadParts = fault_list bad_rests ≡ at 38 UnknownName ∷ at 54 WrongType ∷ at 77 WrongType ∷ []

-- shared { } int f(int n, bool b) { return n; } main { f(1); f(1, true, 2); f(true, 1); g(z); }
abbrev pub calls : Program
calls = program
    []
    (function gives.Int (named (codes "f") 15) (param ty.Int (named (codes "n") 21) ∷ param ty.Bool (named (codes "b") 29) ∷ [])
    (stmt 34 (form.Return (Some (var (named (codes "n") 41)))) ∷ []) ∷ [])
    (stmt 53 (form.CallOf (call (named (codes "f") 53) ((number 55 1) ∷ []))) ∷ stmt 59
    (form.CallOf (call (named (codes "f") 59) ((number 61 1) ∷ (truth 64 true) ∷ (number 70 2) ∷ []))) ∷ stmt 74
    (form.CallOf (call (named (codes "f") 74) ((truth 76 true) ∷ (number 82 1) ∷ []))) ∷ stmt 86
    (form.CallOf (call (named (codes "g") 86) ((var (named (codes "z") 88)) ∷ []))) ∷ [])

-- arguments that are too few, too many, or not of the parameters' types
abbrev pub WrongArguments : Type 0
WrongArguments = fault_list calls ≡ at 53 WrongCount ∷ at 59 WrongCount ∷ at 76 WrongType ∷ at 82 WrongType ∷ at 86 UnknownName ∷ at 88
    UnknownName ∷ []

-- shared { } int f() { while (true) { return 1; } } int g() { if (true) { return 1; } else if (true) { { return 2; } } else { return 3; } } int h() { if (true) { return 1; } } void v() { return 1; } int k() { return; } bool m() { return 1; } main { return 1; parbegin routine[1](int w, int id) { return w; } parend; return; }
abbrev pub returns : Program
returns = program
    []
    (function gives.Int (named (codes "f") 15) [] (stmt 21 (form.While (truth 28 true) (stmt 36 (form.Return (Some (number 43 1))) ∷ []))
    ∷ []) ∷ function gives.Int (named (codes "g") 54) [] (stmt 60
    (form.If (arm (truth 64 true) (stmt 72 (form.Return (Some (number 79 1))) ∷ []) ∷ arm (truth 93 true)
    (stmt 101 (form.Block (stmt 103 (form.Return (Some (number 110 2))) ∷ [])) ∷ []) ∷ [])
    (Some (stmt 124 (form.Return (Some (number 131 3))) ∷ []))) ∷ []) ∷ function gives.Int (named (codes "h") 142) []
    (stmt 148 (form.If (arm (truth 152 true) (stmt 160 (form.Return (Some (number 167 1))) ∷ []) ∷ []) None) ∷ []) ∷ function
    gives.Nothing (named (codes "v") 179) [] (stmt 185 (form.Return (Some (number 192 1))) ∷ []) ∷ function gives.Int
    (named (codes "k") 201) [] (stmt 207 (form.Return None) ∷ []) ∷ function gives.Bool (named (codes "m") 222) []
    (stmt 228 (form.Return (Some (number 235 1))) ∷ []) ∷ [])
    (stmt 247 (form.Return (Some (number 254 1))) ∷ stmt 257 (form.Par
    (routine 266 (number 274 1) (named (codes "w") 281) (named (codes "id") 288)
    (stmt 294 (form.Return (Some (var (named (codes "w") 301)))) ∷ []) ∷ [])) ∷ stmt 314 (form.Return None) ∷ [])

-- bodies that end and that do not, and values that are given back wrongly
abbrev pub WrongReturns : Type 0
WrongReturns = fault_list returns ≡ at 15 NoReturn ∷ at 142 NoReturn ∷ at 185 WrongReturn ∷ at 207 WrongReturn ∷ at 235 WrongType ∷ at 247
    WrongReturn ∷ at 294 WrongReturn ∷ []

-- shared { } main { break; while (true) { if (true) { break; } parbegin routine[1](int w, int id) { continue; } parend; } continue; }
abbrev pub loops : Program
loops = program
    []
    []
    (stmt 18 form.Break ∷ stmt 25 (form.While (truth 32 true) (stmt 40 (form.If (arm (truth 44 true) (stmt 52 form.Break ∷ []) ∷ []) None) ∷
    stmt 61 (form.Par (routine 70 (number 78 1) (named (codes "w") 85) (named (codes "id") 92) (stmt 98 form.Continue ∷ []) ∷ []))
    ∷ [])) ∷ stmt 120 form.Continue ∷ [])

-- `break` and `continue` without a loop in the same body
abbrev pub NotInLoops : Type 0
NotInLoops = fault_list loops ≡ at 18 NotInLoop ∷ at 98 NotInLoop ∷ at 120 NotInLoop ∷ []

-- shared { } void f() { print(x); parbegin routine[true](int f, int f) { break; } parend; } main { parbegin routine[1](int w, int id) { print(); } parend; }
abbrev pub main_only : Program
main_only = program
    []
    (function gives.Nothing (named (codes "f") 16) [] (stmt 22 (form.Print (item.Value (var (named (codes "x") 28)) ∷ [])) ∷ stmt 32
    (form.Par (routine 41 (truth 49 true) (named (codes "f") 59) (named (codes "f") 66) (stmt 71 form.Break ∷ []) ∷ [])) ∷ []) ∷ [])
    (stmt 97 (form.Par (routine 106 (number 114 1) (named (codes "w") 121) (named (codes "id") 128) (stmt 134 (form.Print []) ∷ []) ∷ []))
    ∷ [])

-- `print` and `parbegin` in a function or routine; nothing else is counted in such a step
abbrev pub ShownElsewhere : Type 0
ShownElsewhere = fault_list main_only ≡ at 22 OnlyInMain ∷ at 28 UnknownName ∷ at 32 OnlyInMain ∷ at 134 OnlyInMain ∷ []

-- shared { tally int t; } void add() { t += 1; } void both() { add(); } int get() { return t; } int far() { return get(); } main { t = t + 1; parbegin routine[t](int w, int id) { t += 1; both(); t = 1; t += far(); } parend; }
abbrev pub tally_added : Program
tally_added = program
    (tally (named (codes "t") 19) ∷ [])
    (function gives.Nothing (named (codes "add") 29) [] (stmt 37 (form.AddTo (place (named (codes "t") 37)) (number 42 1)) ∷ []) ∷ function
    gives.Nothing (named (codes "both") 52) [] (stmt 61 (form.CallOf (call (named (codes "add") 61) [])) ∷ []) ∷ function gives.Int
    (named (codes "get") 74) [] (stmt 82 (form.Return (Some (var (named (codes "t") 89)))) ∷ []) ∷ function gives.Int
    (named (codes "far") 98) [] (stmt 106 (form.Return (Some (expr 113 (node.CallOf (call (named (codes "get") 113) []))))) ∷ []) ∷ [])
    (stmt 129 (form.Set (place (named (codes "t") 129)) (expr 133 (node.Binary Add (var (named (codes "t") 133)) (number 137 1)))) ∷ stmt
    140 (form.Par (routine 149 (var (named (codes "t") 157)) (named (codes "w") 164) (named (codes "id") 171)
    (stmt 177 (form.AddTo (place (named (codes "t") 177)) (number 182 1)) ∷ stmt 185 (form.CallOf (call (named (codes "both") 185) []))
    ∷ stmt 193 (form.Set (place (named (codes "t") 193)) (number 197 1)) ∷ stmt 200
    (form.AddTo (place (named (codes "t") 200)) (expr 205 (node.CallOf (call (named (codes "far") 205) [])))) ∷ []) ∷ [])) ∷ [])

-- a routine may add to a tally word, itself and by calls; one who reads it through two calls is found
abbrev pub TallyThroughCalls : Type 0
TallyThroughCalls = fault_list tally_added ≡ at 193 TallyUsed ∷ at 205 TallyUsed ∷ []

-- shared { int a[0]; int b[262145]; int c[2] = {1, 2, 3, 4}; int d[262142]; int e; int f; } main { }
abbrev pub sizes : Program
sizes = program
    (array (named (codes "a") 13) 15 0 [] ∷ array (named (codes "b") 23) 25 262145 [] ∷ array (named (codes "c") 38) 40 2
    (valued 46 1 ∷ valued 49 2 ∷ valued 52 3 ∷ valued 55 4 ∷ []) ∷ array (named (codes "d") 63) 65 262142 [] ∷ scalar
    (named (codes "e") 78) ∷ scalar (named (codes "f") 85) ∷ [])
    []
    []

-- sizes of 0 and too large, a value past the size, and the first declaration with too many words
abbrev pub WrongSizes : Type 0
WrongSizes = fault_list sizes ≡ at 15 Limit ∷ at 25 Limit ∷ at 52 Limit ∷ at 78 Limit ∷ []

-- shared { } void f(int a, int b, int f, int a, int e, int g, int h, int i, int j, int k) { int e = 1; } main { }
abbrev pub params : Program
params = program
    []
    (function gives.Nothing (named (codes "f") 16) (param ty.Int (named (codes "a") 22) ∷ param ty.Int (named (codes "b") 29) ∷ param ty.Int
    (named (codes "f") 36) ∷ param ty.Int (named (codes "a") 43) ∷ param ty.Int (named (codes "e") 50) ∷ param ty.Int
    (named (codes "g") 57) ∷ param ty.Int (named (codes "h") 64) ∷ param ty.Int (named (codes "i") 71) ∷ param ty.Int
    (named (codes "j") 78) ∷ param ty.Int (named (codes "k") 85) ∷ [])
    (stmt 90 (form.Declare ty.Int (named (codes "e") 94) (number 98 1)) ∷ []) ∷ [])
    []

-- the ninth parameter, and names of parameters that are visible already
abbrev pub WrongParams : Type 0
WrongParams = fault_list params ≡ at 36 NameTaken ∷ at 43 NameTaken ∷ at 78 Limit ∷ at 94 NameTaken ∷ []

-- shared { tally int t; } main { parbegin routine[1](int w, int id) { bool b = t; } parend; }
abbrev pub same_place : Program
same_place = program
    (tally (named (codes "t") 19) ∷ [])
    []
    (stmt 31 (form.Par (routine 40 (number 48 1) (named (codes "w") 55) (named (codes "id") 62)
    (stmt 68 (form.Declare ty.Bool (named (codes "b") 73) (var (named (codes "t") 77))) ∷ []) ∷ [])) ∷ [])

-- at one place the fault with the lower number comes first
abbrev pub SamePlace : Type 0
SamePlace = fault_list same_place ≡ at 77 WrongType ∷ at 77 TallyUsed ∷ []

-- shared { int a[0] = {1}; int b[262144]; int c; } main { }
abbrev pub past_nothing : Program
past_nothing = program
    (array (named (codes "a") 13) 15 0 (valued 21 1 ∷ []) ∷ array (named (codes "b") 29) 31 262144 [] ∷ scalar (named (codes "c") 44) ∷ [])
    []
    []

-- a bad size counts no words; the first value is past a size of 0
abbrev pub PastNothing : Type 0
PastNothing = fault_list past_nothing ≡ at 15 Limit ∷ at 21 Limit ∷ at 44 Limit ∷ []

-- shared { int a[262144]; } main { a[262143] = 1; }
abbrev pub largest : Program
largest = program
    (array (named (codes "a") 13) 15 262144 [] ∷ [])
    []
    (stmt 33 (form.Set (item_of (named (codes "a") 33) (number 35 262143)) (number 45 1)) ∷ [])

-- an array may take all 262,144 words
abbrev pub LargestArray : Type 0
LargestArray = fault_list largest ≡ []

-- shared { int a[262144]; int b; } int f() { break; } main { }
abbrev pub out_of_order : Program
out_of_order = program
    (array (named (codes "a") 13) 15 262144 [] ∷ scalar (named (codes "b") 28) ∷ [])
    (function gives.Int (named (codes "f") 37) [] (stmt 43 form.Break ∷ []) ∷ [])
    []

-- faults come in the order of their places, however they are found
abbrev pub OutOfOrder : Type 0
OutOfOrder = fault_list out_of_order ≡ at 28 Limit ∷ at 37 NoReturn ∷ at 43 NotInLoop ∷ []

-- shared { } void f() { } main { bool b = f() == 1; b += c; }
abbrev pub void_value : Program
void_value = program
    []
    (function gives.Nothing (named (codes "f") 16) [] [] ∷ [])
    (stmt 31 (form.Declare ty.Bool (named (codes "b") 36) (expr 40
    (node.Binary Eq (expr 40 (node.CallOf (call (named (codes "f") 40) []))) (number 47 1)))) ∷ stmt 50
    (form.AddTo (place (named (codes "b") 50)) (var (named (codes "c") 55))) ∷ [])

-- a part that is nothing, and its neighbour; a name of type bool, and a bad value behind it
abbrev pub NothingAndBool : Type 0
NothingAndBool = fault_list void_value ≡ at 40 WrongType ∷ at 47 WrongType ∷ at 50 WrongType ∷ at 55 UnknownName ∷ []

-- ---- limits on counts, where the last place alone is not 0

-- int x = 1;
abbrev local : ℕ → Stmt
local position = stmt 0 (form.Declare ty.Int (named (codes "x") position) (number 0 1))

-- { int x = 1; }
abbrev inner : ℕ → Stmt
inner position = stmt 0 (form.Block (local position ∷ []))

-- for (int x = 1; true; x += 1) { }
abbrev turning : Stmt
turning = stmt 0 (form.For (local 0) (truth 0 true) (stmt 0 (form.AddTo (place (named (codes "x") 0)) (number 0 1))) [])

-- the locals of blocks that have ended count, and so does the first declaration of a `for`: the 65th is one too many
abbrev pub ManyLocals : Type 0
ManyLocals = fault_list (program [] [] (replicate 63 (inner 0) ++ turning ∷ inner 100 ∷ [])) ≡ at 100 Limit ∷ []

-- 64 locals are not too many
abbrev pub EnoughLocals : Type 0
EnoughLocals = fault_list (program [] [] (replicate 63 (inner 0) ++ turning ∷ [])) ≡ []

-- main { parbegin routine[1](int w, int id) { body } parend; }
abbrev one_routine : List Stmt → Program
one_routine body = program [] [] (stmt 0 (form.Par (routine 0 (number 0 1) (named (codes "w") 0) (named (codes "id") 0) body ∷ [])) ∷ [])

-- the two parameters of a routine count towards its 64 locals
abbrev pub ManyRoutineLocals : Type 0
ManyRoutineLocals = fault_list (one_routine (replicate 62 (inner 0) ++ inner 100 ∷ [])) ≡ at 100 Limit ∷ []

-- the 65th item of a `print`
abbrev pub ManyItems : Type 0
ManyItems = fault_list (program [] [] (stmt 0 (form.Print (replicate 64 (item.Value (number 0 1)) ++ item.Value (number 100 1) ∷ [])) ∷ []))
    ≡ at 100 Limit ∷ []

-- routine[1](int w, int id) { }
abbrev idle : ℕ → RoutineBlock
idle position = routine position (number 0 1) (named (codes "w") 0) (named (codes "id") 0) []

-- the 65th routine block of a step
abbrev pub ManyBlocks : Type 0
ManyBlocks = fault_list (program [] [] (stmt 0 (form.Par (replicate 64 (idle 0) ++ idle 100 ∷ [])) ∷ [])) ≡ at 100 Limit ∷ []

-- n functions, each with a name and a place of its own: the first has the greatest
abbrev functions : ℕ → List Function
functions zero = []
functions (suc n) = function gives.Nothing (named (suc n ∷ []) (suc n)) [] [] ∷ functions n

-- the 257th function
abbrev pub ManyFunctions : Type 0
ManyFunctions = fault_list (program [] (functions 257) []) ≡ at 1 Limit ∷ []
