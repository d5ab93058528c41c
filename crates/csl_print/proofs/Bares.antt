-- Trees without positions, at the tree's own constructors.
use Rattle.std.proofs.Common.{◌≡◌, ℕ, List, [], ◌∷◌, Option, Some, None, refl, sym, ap, ◌∙◌}
use Rattle.std.specs.Prelude.{map, option_map}
use denote.Hole.Carrier.{hidden, roll}
use Rattle.csl_tree.specs.declared.name.Name.{Name}
use Rattle.csl_tree.specs.declared.program.Expr.{Expr}
use Rattle.csl_tree.specs.declared.program.UnaryOp.{UnaryOp}
use Rattle.csl_tree.specs.declared.program.BinaryOp.{BinaryOp}
use Rattle.csl_tree.specs.declared.program.Node.TheVariants as node
use Rattle.csl_tree.specs.declared.program.Node.TheBlock.{shape-the_row-Expr-0, hidden-the_row-Expr-0, shape-the_row-Expr-1, hidden-the_row-Expr-1}
use Rattle.csl_tree.specs.declared.program.Place.{roll-Place}
use Rattle.csl_tree.specs.declared.program.Call.{roll-Call}
use Rattle.csl_tree.specs.declared.program.Stmt.{Stmt}
use Rattle.csl_tree.specs.declared.program.Arm.{Arm, out-Arm, out-roll-Arm, is-Arm'}
use Rattle.csl_tree.specs.declared.program.RoutineBlock.{RoutineBlock, roll-RoutineBlock, out-RoutineBlock, out-roll-RoutineBlock, is-RoutineBlock'}
use Rattle.csl_tree.specs.declared.program.Form.{more_of-Arm, more_of-RoutineBlock}
use Rattle.csl_tree.specs.declared.program.Form.TheVariants as form
use Rattle.csl_tree.specs.declared.program.Form.TheBlock.{shape-the_row-Stmt-1, hidden-the_row-Stmt-1, shape-the_row-Stmt-2, hidden-the_row-Stmt-2, shape-the_row-Arm-0, hidden-the_row-Arm-0}
use Rattle.csl_tree.specs.declared.program.Form.TheBlock.{shape-the_row-RoutineBlock-3, hidden-the_row-RoutineBlock-3}
use Rattle.csl_grammar.specs.Expressions.{expr, binary, place, call}
use Rattle.csl_grammar.specs.Programs.{arm}
use Rattle.csl_print.specs.Bare.{bare_name, bare_place, bare_call, bare_row, bare_expr, bare_form, bare_statements, bare_arms, bare_routines, bare_stmt}

-- ---- expressions

pub same_unary : (op : UnaryOp) (at at' : ℕ) (a b : Expr) → bare_expr a ≡ bare_expr b → bare_expr (expr at (node.Unary op a)) ≡ bare_expr (expr at' (node.Unary op b))
unfolding shape-the_row-Expr-0 hidden-the_row-Expr-0 hidden
same_unary op at at' a b e = ap (λ x. expr 0 (node.Unary op x)) e

pub same_paren : (at at' : ℕ) (a b : Expr) → bare_expr a ≡ bare_expr b → bare_expr (expr at (node.Paren a)) ≡ bare_expr (expr at' (node.Paren b))
unfolding shape-the_row-Expr-0 hidden-the_row-Expr-0 hidden
same_paren at at' a b e = ap (λ x. expr 0 (node.Paren x)) e

pub same_binary : (op : BinaryOp) (a b a' b' : Expr) → bare_expr a ≡ bare_expr a' → bare_expr b ≡ bare_expr b' → bare_expr (binary op a b) ≡ bare_expr (binary op a' b')
unfolding shape-the_row-Expr-0 hidden-the_row-Expr-0 hidden
same_binary op a b a' b' e e' = λ i. expr 0 (node.Binary op (e i) (e' i))

-- a name at another place
abbrev pub at_place : ℕ → Name → Name
at_place at name = record { text = name.text; at = at }

pub same_name : (name : Name) (at : ℕ) → bare_place (place (at_place at name) None) ≡ bare_place (place name None)
unfolding roll-Place hidden roll
same_name name at = refl

pub same_element : (name : Name) (at : ℕ) (i i' : Expr) → bare_expr i ≡ bare_expr i' → bare_place (place (at_place at name) (Some i)) ≡ bare_place (place name (Some i'))
unfolding shape-the_row-Expr-0 hidden-the_row-Expr-0 roll-Place hidden roll
same_element name at i i' e = ap (λ x. place (bare_name name) (Some x)) e

row_is : (args : List Expr) → bare_row (hidden-the_row-Expr-1 args) ≡ map bare_expr args
unfolding shape-the_row-Expr-1 hidden-the_row-Expr-1 hidden
row_is [] = refl
row_is (e ∷ rest) = ap (λ r. bare_expr e ∷ r) (row_is rest)

call_is : (name : Name) (args : List Expr) → bare_call (call name args) ≡ call (bare_name name) (map bare_expr args)
unfolding roll-Call hidden roll
call_is name args = ap (λ r. call (bare_name name) r) (row_is args)

pub same_call : (name : Name) (at : ℕ) (args args' : List Expr) → map bare_expr args ≡ map bare_expr args' → bare_call (call (at_place at name) args) ≡ bare_call (call name args')
same_call name at args args' e = call_is (at_place at name) args ∙ ap (λ r. call (bare_name name) r) e ∙ sym (call_is name args')

-- ---- statements

statements_is : (body : List Stmt) → bare_statements (hidden-the_row-Stmt-1 body) ≡ map bare_stmt body
unfolding shape-the_row-Stmt-1 hidden-the_row-Stmt-1 hidden
statements_is [] = refl
statements_is (s ∷ rest) = ap (λ r. bare_stmt s ∷ r) (statements_is rest)

pub block_is : (body : List Stmt) → bare_form (form.Block body) ≡ form.Block (map bare_stmt body)
block_is body = ap (λ r. form.Block r) (statements_is body)

pub while_is : (test : Expr) (body : List Stmt) → bare_form (form.While test body) ≡ form.While (bare_expr test) (map bare_stmt body)
while_is test body = ap (λ r. form.While (bare_expr test) r) (statements_is body)

pub for_is : (first : Stmt) (test : Expr) (next : Stmt) (body : List Stmt) → bare_form (form.For first test next body) ≡ form.For (bare_stmt first) (bare_expr test) (bare_stmt next)
    (map bare_stmt body)
unfolding shape-the_row-Stmt-2 hidden-the_row-Stmt-2 hidden
for_is first test next body = ap (λ r. form.For (bare_stmt first) (bare_expr test) (bare_stmt next) r) (statements_is body)

abbrev pub bare_arm : Arm → Arm
bare_arm a = arm (bare_expr (out-Arm a).test) (map bare_stmt (out-Arm a).body)

pub arm_is : (test : Expr) (body : List Stmt) → bare_arm (arm test body) ≡ arm (bare_expr test) (map bare_stmt body)
arm_is test body = ap (λ a. arm (bare_expr a.test) (map bare_stmt a.body)) (out-roll-Arm (record { test = test; body = body }))

arms_is : (arms : List Arm) → bare_arms (hidden-the_row-Arm-0 arms) ≡ map bare_arm arms
unfolding shape-the_row-Arm-0 hidden-the_row-Arm-0 hidden
arms_is [] = refl
arms_is (a ∷ rest) =
    ap (λ x. bare_arms (more_of-Arm x (hidden-the_row-Arm-0 rest))) (is-Arm' a)
    ∙ (λ i. arm (bare_expr (out-Arm a).test) (statements_is (out-Arm a).body i) ∷ arms_is rest i)

pub if_is : (arms : List Arm) (last : Option (List Stmt)) → bare_form (form.If arms last) ≡ form.If (map bare_arm arms) (option_map (map bare_stmt) last)
if_is arms None = ap (λ r. form.If r None) (arms_is arms)
if_is arms (Some body) = λ i. form.If (arms_is arms i) (Some (statements_is body i))

abbrev pub bare_routine : RoutineBlock → RoutineBlock
bare_routine r = roll-RoutineBlock (record { at = 0; width = bare_expr (out-RoutineBlock r).width; width_name = bare_name (out-RoutineBlock r).width_name; id_name = bare_name (out-RoutineBlock r).id_name; body = map bare_stmt (out-RoutineBlock r).body })

pub routine_is : (at : ℕ) (width : Expr) (w i : Name) (body : List Stmt) → bare_routine (roll-RoutineBlock (record { at = at; width = width; width_name = w; id_name = i; body = body })) ≡
    roll-RoutineBlock (record { at = 0; width = bare_expr width; width_name = bare_name w; id_name = bare_name i; body = map bare_stmt body })
routine_is at width w i body =
    ap (λ r. roll-RoutineBlock (record { at = 0; width = bare_expr r.width; width_name = bare_name r.width_name; id_name = bare_name r.id_name; body = map bare_stmt r.body }))
    (out-roll-RoutineBlock (record { at = at; width = width; width_name = w; id_name = i; body = body }))

routines_is : (blocks : List RoutineBlock) → bare_routines (hidden-the_row-RoutineBlock-3 blocks) ≡ map bare_routine blocks
unfolding shape-the_row-RoutineBlock-3 hidden-the_row-RoutineBlock-3 hidden
routines_is [] = refl
routines_is (r ∷ rest) =
    ap (λ x. bare_routines (more_of-RoutineBlock x (hidden-the_row-RoutineBlock-3 rest))) (is-RoutineBlock' r)
    ∙ (λ i. roll-RoutineBlock (record { at = 0; width = bare_expr (out-RoutineBlock r).width; width_name = bare_name (out-RoutineBlock r).width_name; id_name = bare_name (out-RoutineBlock r).id_name; body = statements_is (out-RoutineBlock r).body i }) ∷ routines_is rest i)

pub par_is : (blocks : List RoutineBlock) → bare_form (form.Par blocks) ≡ form.Par (map bare_routine blocks)
par_is blocks = ap (λ r. form.Par r) (routines_is blocks)
