-- Worked examples: small programs as trees, and the lines of their canonical texts.
use Rattle.std.specs.Prelude.{◌≡◌, ℕ, pos, negsuc, true, false, List, [], ◌∷◌, ◌++◌, Some, None, codes}
use Rattle.cal_terms.specs.declared.kinds.WordKind.TheVariants.{Ordinary}
use Rattle.csl_tree.specs.declared.name.Name.{Name}
use Rattle.csl_tree.specs.declared.program.Program.{Program}
use Rattle.csl_tree.specs.declared.program.Shared.{Shared}
use Rattle.cal_terms.specs.declared.types.Ty.TheVariants as ty
use Rattle.csl_tree.specs.declared.program.Expr.{Expr}
use Rattle.csl_tree.specs.declared.program.Node.{Node}
use Rattle.csl_tree.specs.declared.program.Node.TheVariants as node
use Rattle.csl_tree.specs.declared.program.Place.{Place, roll-Place}
use Rattle.csl_tree.specs.declared.program.BinaryOp.TheVariants.{Lt}
use Rattle.csl_tree.specs.declared.program.Item.TheVariants as item
use Rattle.csl_tree.specs.declared.program.Stmt.{Stmt}
use Rattle.csl_tree.specs.declared.program.Form.{Form}
use Rattle.csl_tree.specs.declared.program.Form.TheVariants as form
use Rattle.csl_tree.specs.declared.program.RoutineBlock.{roll-RoutineBlock}
use Rattle.csl_tree.specs.declared.program.Arm.{Arm, roll-Arm}
use Rattle.csl_print.specs.Canonical.{canonical}

-- ---- parts of trees; their positions don't matter

abbrev named : List ℕ → Name
named text = record { text = text; at = 0 }

-- int x;
abbrev scalar : List ℕ → Shared
scalar x = record { name = named x; kind = Ordinary; size = None; values = []; listed = false }

abbrev program : List Shared → List Stmt → Program
program shared main = record { shared = shared; functions = []; main = main }

abbrev expr : Node → Expr
expr n = record { at = 0; node = n }

abbrev whole : ℕ → Expr
whole n = expr (node.Number (pos n))

abbrev place : List ℕ → Place
place x = roll-Place (record { name = named x; index = None })

abbrev var : List ℕ → Expr
var x = expr (node.Read (place x))

abbrev stmt : Form → Stmt
stmt f = record { at = 0; form = f }

abbrev arm : Expr → List Stmt → Arm
arm test body = roll-Arm (record { test = test; body = body })

-- lines, each with LF behind it
abbrev lines : List (List ℕ) → List ℕ
lines [] = []
lines (line ∷ rest) = line ++ 10 ∷ lines rest

-- ---- rows

-- shared{int x;}main{x=1;print(x,"a b");}
abbrev pub SevenLines : Type 0
SevenLines =
    canonical (program (scalar (codes "x") ∷ []) (stmt (form.Set (place (codes "x")) (whole 1)) ∷ stmt
    (form.Print (item.Value (var (codes "x")) ∷ item.Text (named (codes "a b")) ∷ [])) ∷ []))
    ≡ lines (codes "shared {" ∷ codes "  int x ;" ∷ codes "}" ∷ codes "main {" ∷ codes "  x = 1 ;" ∷ codes "  print ( x , \"a b\" ) ;" ∷
    codes "}" ∷ [])

-- shared{}main{if(true){}else if(false){}else{}}
abbrev pub TenLines : Type 0
TenLines =
    canonical (program [] (stmt (form.If (arm (expr (node.Truth true)) [] ∷ arm (expr (node.Truth false)) [] ∷ []) (Some [])) ∷ []))
    ≡ lines (codes "shared {" ∷ codes "}" ∷ codes "main {" ∷ codes "  if ( true ) {" ∷ codes "  }" ∷ codes "  else if ( false ) {" ∷ codes
    "  }" ∷ codes "  else {" ∷ codes "  }" ∷ codes "}" ∷ [])

-- shared{int a[2]={1,-5};int b[9]={};}main{}
abbrev pub Listed : Type 0
Listed =
    canonical (program (record (scalar (codes "a")) { size = Some (record { at = 0; number = pos 2 }); values = record { at = 0; number = pos 1 } ∷ record { at = 0; number = negsuc 4 } ∷ []; listed = true } ∷ record (scalar (codes "b")) { size = Some (record { at = 0; number = pos 9 }); listed = true } ∷ []) [])
    ≡ lines (codes "shared {" ∷ codes "  int a [ 2 ] = {" ∷ codes "    1 , - 5 }" ∷ codes "  ;" ∷ codes "  int b [ 9 ] = {" ∷ codes "  }" ∷
    codes "  ;" ∷ codes "}" ∷ codes "main {" ∷ codes "}" ∷ [])

-- shared{int x;}main{for(int i=0;i<2;i+=1){parbegin routine[2](int w,int id){x=(1);}parend;}}
abbrev pub OneStep : Type 0
OneStep =
    canonical (program (scalar (codes "x") ∷ []) (stmt (form.For
    (stmt (form.Declare ty.Int (named (codes "i")) (whole 0)))
    (expr (node.Binary Lt (var (codes "i")) (whole 2)))
    (stmt (form.AddTo (place (codes "i")) (whole 1)))
    (stmt (form.Par (roll-RoutineBlock (record { at = 0; width = whole 2; width_name = named (codes "w"); id_name = named (codes "id"); body = stmt (form.Set (place (codes "x")) (expr (node.Paren (whole 1)))) ∷ [] }) ∷ [])) ∷ [])) ∷ []))
    ≡ lines (codes "shared {" ∷ codes "  int x ;" ∷ codes "}" ∷ codes "main {" ∷ codes "  for ( int i = 0 ; i < 2 ; i += 1 ) {" ∷ codes
    "    parbegin" ∷ codes "      routine [ 2 ] ( int w , int id ) {" ∷ codes "        x = ( 1 ) ;" ∷ codes "      }" ∷ codes
    "    parend ;" ∷ codes "  }" ∷ codes "}" ∷ [])
