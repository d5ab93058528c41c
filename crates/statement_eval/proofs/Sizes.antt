-- How far the evaluator descends: a number for each part of a program, greater than those of the parts within it.
use Rattle.std.proofs.Common.{◌≡◌, ℕ, zero, suc, ◌+◌, ◌*◌, ◌-◌, ◌<◌, ◌≤◌, refl, sym, ap, ◌∙◌, arith, List, [], ◌∷◌, Option, Some, None, Bool, true, false, if◌then◌else◌, length, get_or}
use Rattle.std.specs.Str.{bytes_eq}
use denote.Hole.Carrier.{hidden}
use Rattle.csl_tree.specs.declared.program.Program.{Program}
use Rattle.csl_tree.specs.declared.program.Function.{Function}
use Rattle.csl_tree.specs.declared.program.Expr.{Expr}
use Rattle.csl_tree.specs.declared.program.Place.{Place}
use Rattle.csl_tree.specs.declared.program.Call.{Call}
use Rattle.csl_tree.specs.declared.program.Stmt.{Stmt}
use Rattle.csl_tree.specs.declared.program.Arm.{Arm, Arm', out-Arm, is-Arm'}
use Rattle.csl_tree.specs.declared.program.Form.{Form, Declare, Set, AddTo, If', While', For', Break, Continue, Return, CallOf, Assert, Block', Print, Par', Row_of-Arm, end_of-Arm, more_of-Arm}
use Rattle.csl_tree.specs.declared.program.Form.{Row_of-Stmt, end_of-Stmt, more_of-Stmt, Held-Form-If-1}
use Rattle.csl_tree.specs.declared.program.Form.TheVariants as form
use Rattle.csl_tree.specs.declared.program.Form as parts
use Rattle.cal_terms.specs.declared.types.Ty.{Ty}
use Rattle.csl_tree.specs.declared.name.Name.{Name}
use Rattle.csl_tree.specs.declared.program.Form.TheBlock.{shape-the_row-Stmt-1, hidden-the_row-Stmt-1, shape-the_row-Stmt-2, hidden-the_row-Stmt-2, shape-the_row-Arm-0, hidden-the_row-Arm-0}
use Rattle.csl_tree.specs.declared.program.Form.TheBlock.{back-Form-If-1}
use Rattle.csl_tree.specs.declared.program.UnaryOp.{UnaryOp}
use Rattle.csl_tree.specs.declared.program.BinaryOp.{BinaryOp}
use Rattle.csl_tree.specs.declared.program.Node.{Node, Number, Truth, Read, Unary', Binary', Paren', Row_of-Expr, end_of-Expr, more_of-Expr}
use Rattle.csl_tree.specs.declared.program.Node as whole
use Rattle.csl_tree.specs.declared.program.Node.TheVariants as node
use Rattle.csl_tree.specs.declared.program.Node.TheBlock.{shape-the_row-Expr-0, hidden-the_row-Expr-0, shape-the_row-Expr-1, hidden-the_row-Expr-1, back-Place-index}
use Rattle.csl_tree.specs.declared.program.Place.{Place, Place', None', Some', out-Place, is-Place'}
use Rattle.csl_tree.specs.declared.program.Call.{Call', out-Call, is-Call'}
use Rattle.csl_meaning.specs.Effect.{function_named}

abbrev mutual
  pub node_weight : Node → ℕ
  node_weight (Number z) = 0
  node_weight (Truth b) = 0
  node_weight (Read place) = suc (place_weight place)
  node_weight (whole.CallOf call) = suc (call_weight call)
  node_weight (Unary' op shape a) = suc (exprs_weight a)
  node_weight (Binary' op shape a shape' b) = suc (exprs_weight a + exprs_weight b)
  node_weight (Paren' shape a) = suc (exprs_weight a)

  pub place_weight : Place → ℕ
  place_weight (Place' name None') = 0
  place_weight (Place' name (Some' shape i)) = suc (exprs_weight i)

  pub call_weight : Call → ℕ
  call_weight (Call' name shape args) = suc (exprs_weight args)

  pub exprs_weight : {n : _} → Row_of-Expr n → ℕ
  exprs_weight end_of-Expr = 0
  exprs_weight (more_of-Expr at n rest) = suc (node_weight n + exprs_weight rest)

-- of an expression
abbrev pub expr_weight : Expr → ℕ
expr_weight e = suc (node_weight e.node)

-- of several expressions
abbrev pub values_weight : List Expr → ℕ
values_weight [] = 0
values_weight (e ∷ rest) = suc (node_weight e.node + values_weight rest)

abbrev mutual
  pub form_weight : Form → ℕ
  form_weight (Declare ty name e) = suc (expr_weight e)
  form_weight (Set place e) = suc (suc (place_weight place + expr_weight e))
  form_weight (AddTo place e) = suc (suc (place_weight place + expr_weight e))
  form_weight (If' shape arms last) = suc (suc (arms_weight arms + last_weight last))
  form_weight (While' test shape body) = suc (suc (suc (expr_weight test + row_weight body)))
  form_weight (For' shape first test shape' next shape'' body) =
      suc (suc (suc (row_weight first + expr_weight test + row_weight next + row_weight body)))
  form_weight Break = 0
  form_weight Continue = 0
  form_weight (Return None) = 0
  form_weight (Return (Some e)) = suc (expr_weight e)
  form_weight (CallOf call) = suc (call_weight call)
  form_weight (Assert e) = suc (expr_weight e)
  form_weight (Block' shape body) = suc (suc (row_weight body))
  form_weight (Print items) = 0
  form_weight (Par' shape blocks) = 0

  pub row_weight : {n : _} → Row_of-Stmt n → ℕ
  row_weight end_of-Stmt = 0
  row_weight (more_of-Stmt at f rest) = suc (form_weight f + row_weight rest)

  pub arms_weight : {n : _} → Row_of-Arm n → ℕ
  arms_weight end_of-Arm = 0
  arms_weight (more_of-Arm (Arm' test shape body) rest) = suc (suc (expr_weight test + row_weight body) + arms_weight rest)

  pub last_weight : Held-Form-If-1 → ℕ
  last_weight parts.None' = 0
  last_weight (parts.Some' shape body) = suc (row_weight body)

-- of several statements
abbrev pub body_weight : List Stmt → ℕ
body_weight [] = 0
body_weight (s ∷ rest) = suc (form_weight s.form + body_weight rest)

-- of several arms
abbrev pub arms_list_weight : List Arm → ℕ
arms_list_weight [] = 0
arms_list_weight (arm ∷ rest) = suc (suc (expr_weight (out-Arm arm).test + body_weight (out-Arm arm).body) + arms_list_weight rest)

abbrev pub last_body_weight : Option (List Stmt) → ℕ
last_body_weight None = 0
last_body_weight (Some body) = suc (body_weight body)

abbrev pub step_weight : Option Stmt → ℕ
step_weight None = 0
step_weight (Some s) = form_weight s.form

-- of the bodies of all functions
abbrev pub bodies_weight : List Function → ℕ
bodies_weight [] = 0
bodies_weight (f ∷ rest) = body_weight f.body + bodies_weight rest

-- what one level of calls has room for
abbrev pub level_weight : Program → ℕ
level_weight p = suc (suc (bodies_weight p.functions))

-- the measure: first by levels, then by weight
abbrev pub measure : Program → ℕ → ℕ → ℕ
measure p levels weight = levels * level_weight p + weight

-- ---- the parts weigh less

pub in_unary : (n : Node) (op : UnaryOp) (a : Expr) → n ≡ node.Unary op a → node_weight a.node < node_weight n
unfolding shape-the_row-Expr-0 hidden-the_row-Expr-0 hidden
in_unary n op a e = let w : node_weight n ≡ suc (suc (node_weight a.node + 0)) = ap node_weight e in omega arith

pub in_left : (n : Node) (op : BinaryOp) (a b : Expr) → n ≡ node.Binary op a b → node_weight a.node < node_weight n
unfolding shape-the_row-Expr-0 hidden-the_row-Expr-0 hidden
in_left n op a b e = let w : node_weight n ≡ suc (suc (node_weight a.node + 0) + suc (node_weight b.node + 0)) = ap node_weight e in omega arith

pub in_right : (n : Node) (op : BinaryOp) (a b : Expr) → n ≡ node.Binary op a b → node_weight b.node < node_weight n
unfolding shape-the_row-Expr-0 hidden-the_row-Expr-0 hidden
in_right n op a b e = let w : node_weight n ≡ suc (suc (node_weight a.node + 0) + suc (node_weight b.node + 0)) = ap node_weight e in omega arith

pub in_paren : (n : Node) (a : Expr) → n ≡ node.Paren a → node_weight a.node < node_weight n
unfolding shape-the_row-Expr-0 hidden-the_row-Expr-0 hidden
in_paren n a e = let w : node_weight n ≡ suc (suc (node_weight a.node + 0)) = ap node_weight e in omega arith

pub in_read : (n : Node) (q : Place) → n ≡ node.Read q → place_weight q < node_weight n
in_read n q e = let w : node_weight n ≡ suc (place_weight q) = ap node_weight e in omega arith

pub in_call_of : (n : Node) (q : Call) → n ≡ node.CallOf q → call_weight q < node_weight n
in_call_of n q e = let w : node_weight n ≡ suc (call_weight q) = ap node_weight e in omega arith

pub in_place : (q : Place) (i : Expr) → (out-Place q).index ≡ Some i → node_weight i.node < place_weight q
unfolding shape-the_row-Expr-0 hidden-the_row-Expr-0 hidden
in_place q i e =
    let w : place_weight q ≡ suc (suc (node_weight i.node + 0)) = ap place_weight (is-Place' q) ∙ ap (λ j. place_weight (Place' (out-Place q).name (back-Place-index j))) e in
    omega arith

exprs_is : (args : List Expr) → exprs_weight (hidden-the_row-Expr-1 args) ≡ values_weight args
unfolding shape-the_row-Expr-1 hidden-the_row-Expr-1 hidden
exprs_is [] = refl
exprs_is (e ∷ rest) = ap (λ n. suc (node_weight e.node + n)) (exprs_is rest)

pub in_call : (q : Call) → values_weight (out-Call q).args < call_weight q
in_call q =
    let w : call_weight q ≡ suc (values_weight (out-Call q).args) = ap call_weight (is-Call' q) ∙ ap suc (exprs_is (out-Call q).args) in
    omega arith

-- an expression weighs less than those among which it stands
pub one_value : (all : List Expr) (i : ℕ) (e : Expr) → i < length all → e ≡ get_or all i e → node_weight e.node < values_weight all
one_value [] i e lt is = absurd (omega arith)
one_value (e' ∷ rest) zero e lt is = let w : node_weight e.node ≡ node_weight e'.node = ap (λ (x : Expr). node_weight x.node) is in omega arith
one_value (e' ∷ rest) (suc i) e lt is = let below : node_weight e.node < values_weight rest = one_value rest i e (omega arith) is in omega arith

row_is : (body : List Stmt) → row_weight (hidden-the_row-Stmt-1 body) ≡ body_weight body
unfolding shape-the_row-Stmt-1 hidden-the_row-Stmt-1 hidden
row_is [] = refl
row_is (s ∷ rest) = ap (λ n. suc (form_weight s.form + n)) (row_is rest)

-- a statement weighs less than those among which it stands
pub one_of : (all : List Stmt) (i : ℕ) (s : Stmt) → i < length all → s ≡ get_or all i s → form_weight s.form < body_weight all
one_of [] i s lt is = absurd (omega arith)
one_of (s' ∷ rest) zero s lt is = let e : form_weight s.form ≡ form_weight s'.form = ap (λ (x : Stmt). form_weight x.form) is in omega arith
one_of (s' ∷ rest) (suc i) s lt is = let below : form_weight s.form < body_weight rest = one_of rest i s (omega arith) is in omega arith

-- a function's body is one of the bodies
pub body_of : (all : List Function) (name : List ℕ) (f : Function) → function_named all name ≡ Some f → body_weight f.body ≤ bodies_weight all
body_of [] name f e = cc
body_of (g ∷ rest) name f e = by_name (λ i. body_of rest name f i) (bytes_eq g.name.text name) e
  where
    by_name : (function_named rest name ≡ Some f → body_weight f.body ≤ bodies_weight rest) → (b : Bool) → (if b then Some g else function_named rest name) ≡ Some f
        → body_weight f.body ≤ bodies_weight (g ∷ rest)
    by_name later true e =
        let same : g ≡ f = cc in
        let weight : body_weight g.body ≡ body_weight f.body = ap (λ (x : Function). body_weight x.body) same in
        omega arith
    by_name later false e = let below : body_weight f.body ≤ bodies_weight rest = later e in omega arith

suc_times : (n w : ℕ) → suc n * w ≡ w + n * w
suc_times n w = grind arith

-- a call goes one level down
pub level_down : (p : Program) (levels weight : ℕ) → 0 < levels → weight < level_weight p → measure p (levels - 1) weight < measure p levels 0
level_down p zero weight some small = absurd (omega arith)
level_down p (suc n) weight some small =
    let one : suc n - 1 ≡ n = omega arith in
    rw one (omega (arith, suc_times n (level_weight p), small))

pub in_return : (f : Form) (given : Option Expr) (e : Expr) → f ≡ Return given → given ≡ Some e → suc (node_weight e.node) < form_weight f
in_return f given e is some = let w : form_weight f ≡ suc (suc (node_weight e.node)) = ap form_weight is ∙ ap (λ g. form_weight (Return g)) some in omega arith

pub in_call_statement : (f : Form) (q : Call) → f ≡ CallOf q → call_weight q < form_weight f
in_call_statement f q is = let w : form_weight f ≡ suc (call_weight q) = ap form_weight is in omega arith

-- a function's body, one level down
pub in_function : (p : Program) (levels : ℕ) (name : List ℕ) (f : Function) → 0 < levels → Some f ≡ function_named p.functions name
    → measure p (levels - 1) (suc (body_weight f.body)) < measure p levels 0
in_function p levels name f some e =
    let small : body_weight f.body ≤ bodies_weight p.functions = body_of p.functions name f (sym e) in
    level_down p levels (suc (body_weight f.body)) some (omega arith)

-- ---- the parts of a statement weigh less

arms_are : (arms : List Arm) → arms_weight (hidden-the_row-Arm-0 arms) ≡ arms_list_weight arms
unfolding shape-the_row-Arm-0 hidden-the_row-Arm-0 hidden
arms_are [] = refl
arms_are (arm ∷ rest) =
    ap (λ (x : Arm). arms_weight (hidden-the_row-Arm-0 (x ∷ rest))) (is-Arm' arm)
    ∙ ap (λ n. suc (suc (expr_weight (out-Arm arm).test + n) + arms_weight (hidden-the_row-Arm-0 rest))) (row_is (out-Arm arm).body)
    ∙ ap (λ n. suc (suc (expr_weight (out-Arm arm).test + body_weight (out-Arm arm).body) + n)) (arms_are rest)

last_is : (last : Option (List Stmt)) → last_weight (back-Form-If-1 last) ≡ last_body_weight last
last_is None = refl
last_is (Some body) = ap suc (row_is body)

pub in_if : (f : Form) (arms : List Arm) (last : Option (List Stmt)) → f ≡ form.If arms last → suc (arms_list_weight arms + last_body_weight last) < form_weight f
in_if f arms last is =
    let w : form_weight f ≡ suc (suc (arms_list_weight arms + last_body_weight last)) =
    ap form_weight is ∙ ap (λ n. suc (suc (n + last_weight (back-Form-If-1 last)))) (arms_are arms) ∙ ap (λ n. suc (suc (arms_list_weight arms + n))) (last_is last) in
    omega arith

pub in_while : (f : Form) (test : Expr) (body : List Stmt) → f ≡ form.While test body → suc (suc (expr_weight test + (body_weight body + 0))) < form_weight f
in_while f test body is =
    let w : form_weight f ≡ suc (suc (suc (expr_weight test + body_weight body))) = ap form_weight is ∙ ap (λ n. suc (suc (suc (expr_weight test + n)))) (row_is body) in
    omega arith

for_is : (f : Form) (first : Stmt) (test : Expr) (next : Stmt) (body : List Stmt) → f ≡ form.For first test next body
    → form_weight f ≡ suc (suc (suc (suc (form_weight first.form + 0) + expr_weight test + suc (form_weight next.form + 0) + body_weight body)))
unfolding shape-the_row-Stmt-2 hidden-the_row-Stmt-2 hidden
for_is f first test next body is = ap form_weight is ∙ ap (λ n. suc (suc (suc (suc (form_weight first.form + 0) + expr_weight test + suc (form_weight next.form + 0) + n)))) (row_is body)

pub in_for : (f : Form) (first : Stmt) (test : Expr) (next : Stmt) (body : List Stmt) → f ≡ form.For first test next body
    → suc (suc (expr_weight test + (body_weight body + form_weight next.form))) < form_weight f
in_for f first test next body is = omega (arith, for_is f first test next body is)

pub in_first : (f : Form) (first : Stmt) (test : Expr) (next : Stmt) (body : List Stmt) → f ≡ form.For first test next body → form_weight first.form < form_weight f
in_first f first test next body is = omega (arith, for_is f first test next body is)

pub in_assert : (f : Form) (e : Expr) → f ≡ Assert e → suc (node_weight e.node) < form_weight f
in_assert f e is = let w : form_weight f ≡ suc (suc (node_weight e.node)) = ap form_weight is in omega arith

pub in_declare : (f : Form) (ty : Ty) (name : Name) (e : Expr) → f ≡ Declare ty name e → suc (node_weight e.node) < form_weight f
in_declare f ty name e is = let w : form_weight f ≡ suc (suc (node_weight e.node)) = ap form_weight is in omega arith

pub in_block : (f : Form) (body : List Stmt) → f ≡ form.Block body → suc (body_weight body) < form_weight f
in_block f body is = let w : form_weight f ≡ suc (suc (body_weight body)) = ap form_weight is ∙ ap (λ n. suc (suc n)) (row_is body) in omega arith

-- an arm weighs less than those among which it stands
pub one_arm : (all : List Arm) (i : ℕ) (arm : Arm) → i < length all → arm ≡ get_or all i arm → suc (expr_weight (out-Arm arm).test + body_weight (out-Arm arm).body) < arms_list_weight all
one_arm [] i arm lt is = absurd (omega arith)
one_arm (a ∷ rest) zero arm lt is =
    let w : suc (expr_weight (out-Arm arm).test + body_weight (out-Arm arm).body) ≡ suc (expr_weight (out-Arm a).test + body_weight (out-Arm a).body) = ap
    (λ (x : Arm). suc (expr_weight (out-Arm x).test + body_weight (out-Arm x).body)) is in
    omega arith
one_arm (a ∷ rest) (suc i) arm lt is =
    let below : suc (expr_weight (out-Arm arm).test + body_weight (out-Arm arm).body) < arms_list_weight rest = one_arm rest i arm (omega arith) is in
    omega arith

pub in_last : (last : Option (List Stmt)) (body : List Stmt) → last ≡ Some body → body_weight body < last_body_weight last
in_last last body is = let w : last_body_weight last ≡ suc (body_weight body) = ap last_body_weight is in omega arith

pub in_change_index : (q : Place) (i e : Expr) → (out-Place q).index ≡ Some i → node_weight i.node < suc (place_weight q + expr_weight e)
in_change_index q i e is = omega (arith, in_place q i is)

pub in_change_value : (q : Place) (e : Expr) → suc (node_weight e.node) < suc (suc (place_weight q + expr_weight e))
in_change_value q e = omega arith
