-- The tokens of trees at the tree's own constructors.
use Rattle.std.proofs.Common.{◌≡◌, ℕ, List, [], ◌∷◌, ◌++◌, Option, Some, None, refl, ap, ◌∙◌}
use denote.Hole.Carrier.{hidden, roll}
use Rattle.csl_tree.specs.declared.token.TokenKind.{TokenKind}
use Rattle.csl_tree.specs.declared.token.Mark.TheVariants.{OpenBracket, CloseBracket, Comma, Semicolon}
use Rattle.csl_tree.specs.declared.program.Expr.{Expr}
use Rattle.csl_tree.specs.declared.program.UnaryOp.{UnaryOp}
use Rattle.csl_tree.specs.declared.program.BinaryOp.{BinaryOp}
use Rattle.csl_tree.specs.declared.program.Node.{Node}
use Rattle.csl_tree.specs.declared.program.Node.TheVariants as node
use Rattle.csl_tree.specs.declared.program.Node.TheBlock.{shape-the_row-Expr-0, hidden-the_row-Expr-0, shape-the_row-Expr-1, hidden-the_row-Expr-1, back-Place-index}
use Rattle.csl_tree.specs.declared.program.Place.{Place, roll-Place, Place', out-Place, is-Place'}
use Rattle.csl_tree.specs.declared.program.Call.{Call, roll-Call, out-Call, is-Call'}
use Rattle.csl_tree.specs.declared.program.Stmt.{Stmt}
use Rattle.csl_tree.specs.declared.program.Arm.{Arm, out-roll-Arm, out-Arm, is-Arm'}
use Rattle.csl_tree.specs.declared.program.RoutineBlock.{RoutineBlock, roll-RoutineBlock, out-roll-RoutineBlock, out-RoutineBlock, is-RoutineBlock'}
use Rattle.csl_tree.specs.declared.program.Form.{Form, more_of-Arm, more_of-RoutineBlock}
use Rattle.csl_tree.specs.declared.program.Form.TheVariants as form
use Rattle.csl_tree.specs.declared.program.Form.TheBlock.{shape-the_row-Stmt-1, hidden-the_row-Stmt-1, shape-the_row-Stmt-2, hidden-the_row-Stmt-2, shape-the_row-Arm-0, hidden-the_row-Arm-0}
use Rattle.csl_tree.specs.declared.program.Form.TheBlock.{shape-the_row-RoutineBlock-3, hidden-the_row-RoutineBlock-3}
use Rattle.csl_tree.specs.declared.token.Keyword.TheVariants as keyword
use Rattle.csl_tree.specs.declared.name.Name.{Name}
use Rattle.csl_grammar.specs.Expressions.{mark_of, prefix_mark, place, call}
use Rattle.csl_grammar.specs.Programs.{arm}
use Rattle.csl_print.specs.TreeTokens.{mark, named, in_parens, separated, further, node_tokens, expr_tokens, place_tokens, call_tokens, row_tokens, further_tokens, word, each, parted, in_braces}
use Rattle.csl_print.specs.TreeTokens.{form_tokens, statements_tokens, statement_tokens, body_tokens, arm_of, arm_tokens, arms_tokens, further_arms_tokens, routine_of, routine_tokens, routines_tokens}
pub use Rattle.cal_terms.proofs.Lists.{append_none}

pub tokens_unary : (n : Node) (op : UnaryOp) (a : Expr) → n ≡ node.Unary op a → node_tokens n ≡ mark (prefix_mark op) ++ expr_tokens a
unfolding shape-the_row-Expr-0 hidden-the_row-Expr-0 hidden
tokens_unary n op a e = ap node_tokens e

pub tokens_binary : (n : Node) (op : BinaryOp) (a b : Expr) → n ≡ node.Binary op a b → node_tokens n ≡ expr_tokens a ++ mark (mark_of op) ++ expr_tokens b
unfolding shape-the_row-Expr-0 hidden-the_row-Expr-0 hidden
tokens_binary n op a b e = ap node_tokens e

pub tokens_paren : (n : Node) (a : Expr) → n ≡ node.Paren a → node_tokens n ≡ in_parens (expr_tokens a)
unfolding shape-the_row-Expr-0 hidden-the_row-Expr-0 hidden
tokens_paren n a e = ap node_tokens e

pub tokens_element : (q : Place) (i : Expr) → (out-Place q).index ≡ Some i → place_tokens q ≡ named (out-Place q).name ++ mark OpenBracket ++ expr_tokens i ++ mark CloseBracket
unfolding shape-the_row-Expr-0 hidden-the_row-Expr-0 hidden
tokens_element q i e = ap place_tokens (is-Place' q) ∙ ap (λ j. place_tokens (Place' (out-Place q).name (back-Place-index j))) e

further_is : (args : List Expr) → further_tokens (hidden-the_row-Expr-1 args) ≡ further (mark Comma) expr_tokens args
unfolding shape-the_row-Expr-1 hidden-the_row-Expr-1 hidden
further_is [] = refl
further_is (e ∷ rest) = ap (λ r. mark Comma ++ expr_tokens e ++ r) (further_is rest)

arguments_is : (args : List Expr) → row_tokens (hidden-the_row-Expr-1 args) ≡ separated expr_tokens args
unfolding shape-the_row-Expr-1 hidden-the_row-Expr-1 hidden
arguments_is [] = refl
arguments_is (e ∷ rest) = ap (λ r. expr_tokens e ++ r) (further_is rest)

pub tokens_call : (q : Call) → call_tokens q ≡ named (out-Call q).name ++ in_parens (separated expr_tokens (out-Call q).args)
tokens_call q = ap call_tokens (is-Call' q) ∙ ap (λ r. named (out-Call q).name ++ in_parens r) (arguments_is (out-Call q).args)

-- ---- statements

-- the statements of a row are those of its list
pub statements_is : (body : List Stmt) → statements_tokens (hidden-the_row-Stmt-1 body) ≡ each statement_tokens body
unfolding shape-the_row-Stmt-1 hidden-the_row-Stmt-1 hidden
statements_is [] = refl
statements_is (s ∷ rest) = ap (λ r. statement_tokens s ++ r) (statements_is rest)

pub tokens_block : (f : Form) (body : List Stmt) → f ≡ form.Block body → form_tokens f ≡ body_tokens body
tokens_block f body e = ap form_tokens e ∙ ap in_braces (statements_is body)

pub tokens_while : (f : Form) (test : Expr) (body : List Stmt) → f ≡ form.While test body → form_tokens f ≡ word keyword.While ++ in_parens (expr_tokens test) ++ body_tokens body
tokens_while f test body e = ap form_tokens e ∙ ap (λ r. word keyword.While ++ in_parens (expr_tokens test) ++ in_braces r) (statements_is body)

pub tokens_for : (f : Form) (first : Stmt) (test : Expr) (next : Stmt) (body : List Stmt) → f ≡ form.For first test next body
    → form_tokens f ≡ word keyword.For ++ in_parens (form_tokens first.form ++ mark Semicolon ++ expr_tokens test ++ mark Semicolon ++ form_tokens next.form) ++ body_tokens body
unfolding shape-the_row-Stmt-2 hidden-the_row-Stmt-2 hidden
tokens_for f first test next body e =
    ap form_tokens e
    ∙ ap (λ r. word keyword.For ++ in_parens (form_tokens first.form ++ mark Semicolon ++ expr_tokens test ++ mark Semicolon ++ form_tokens next.form) ++ in_braces r) (statements_is body)

arm_is : (a : Arm) → arm_of (out-Arm a).test (statements_tokens (hidden-the_row-Stmt-1 (out-Arm a).body)) ≡ arm_tokens a
arm_is a = ap (λ r. arm_of (out-Arm a).test r) (statements_is (out-Arm a).body)

further_arms_is : (arms : List Arm) → further_arms_tokens (hidden-the_row-Arm-0 arms) ≡ further (word keyword.Else) arm_tokens arms
unfolding shape-the_row-Arm-0 hidden-the_row-Arm-0 hidden
further_arms_is [] = refl
further_arms_is (a ∷ rest) =
    ap (λ x. further_arms_tokens (more_of-Arm x (hidden-the_row-Arm-0 rest))) (is-Arm' a)
    ∙ (λ i. word keyword.Else ++ arm_is a i ++ further_arms_is rest i)

pub arms_is : (arms : List Arm) → arms_tokens (hidden-the_row-Arm-0 arms) ≡ parted (word keyword.Else) arm_tokens arms
unfolding shape-the_row-Arm-0 hidden-the_row-Arm-0 hidden
arms_is [] = refl
arms_is (a ∷ rest) =
    ap (λ x. arms_tokens (more_of-Arm x (hidden-the_row-Arm-0 rest))) (is-Arm' a)
    ∙ (λ i. arm_is a i ++ further_arms_is rest i)

pub tokens_if_none : (f : Form) (arms : List Arm) (last : Option (List Stmt)) → f ≡ form.If arms last → last ≡ None → form_tokens f ≡ parted (word keyword.Else) arm_tokens arms
tokens_if_none f arms last e none = ap form_tokens e ∙ ap (λ l. form_tokens (form.If arms l)) none ∙ append_none _ ∙ arms_is arms

pub tokens_if_some : (f : Form) (arms : List Arm) (last : Option (List Stmt)) (body : List Stmt) → f ≡ form.If arms last → last ≡ Some body
    → form_tokens f ≡ parted (word keyword.Else) arm_tokens arms ++ (word keyword.Else ++ body_tokens body)
tokens_if_some f arms last body e some =
    ap form_tokens e ∙ ap (λ l. form_tokens (form.If arms l)) some
    ∙ (λ i. arms_is arms i ++ (word keyword.Else ++ in_braces (statements_is body i)))

routine_is : (r : RoutineBlock) → routine_of (out-RoutineBlock r).width (out-RoutineBlock r).width_name (out-RoutineBlock r).id_name
    (statements_tokens (hidden-the_row-Stmt-1 (out-RoutineBlock r).body)) ≡ routine_tokens r
routine_is r = ap (λ x. routine_of (out-RoutineBlock r).width (out-RoutineBlock r).width_name (out-RoutineBlock r).id_name x) (statements_is (out-RoutineBlock r).body)

routines_is : (blocks : List RoutineBlock) → routines_tokens (hidden-the_row-RoutineBlock-3 blocks) ≡ each routine_tokens blocks
unfolding shape-the_row-RoutineBlock-3 hidden-the_row-RoutineBlock-3 hidden
routines_is [] = refl
routines_is (r ∷ rest) =
    ap (λ x. routines_tokens (more_of-RoutineBlock x (hidden-the_row-RoutineBlock-3 rest))) (is-RoutineBlock' r)
    ∙ (λ i. routine_is r i ++ routines_is rest i)

pub tokens_par : (f : Form) (blocks : List RoutineBlock) → f ≡ form.Par blocks → form_tokens f ≡ word keyword.Parbegin ++ each routine_tokens blocks ++ word keyword.Parend
tokens_par f blocks e = ap form_tokens e ∙ ap (λ r. word keyword.Parbegin ++ r ++ word keyword.Parend) (routines_is blocks)

-- ---- trees that are made

pub place_name : (name : Name) → place_tokens (place name None) ≡ named name
unfolding roll-Place hidden roll
place_name name = refl

pub place_element : (name : Name) (i : Expr) → place_tokens (place name (Some i)) ≡ named name ++ mark OpenBracket ++ expr_tokens i ++ mark CloseBracket
unfolding shape-the_row-Expr-0 hidden-the_row-Expr-0 roll-Place hidden roll
place_element name i = refl

pub call_is : (name : Name) (args : List Expr) → call_tokens (call name args) ≡ named name ++ in_parens (separated expr_tokens args)
unfolding roll-Call hidden roll
call_is name args = ap (λ r. named name ++ in_parens r) (arguments_is args)

pub arm_made : (test : Expr) (body : List Stmt) → arm_tokens (arm test body) ≡ arm_of test (each statement_tokens body)
arm_made test body = ap (λ a. arm_of a.test (each statement_tokens a.body)) (out-roll-Arm (record { test = test; body = body }))

pub routine_made : (at : ℕ) (width : Expr) (w i : Name) (body : List Stmt) → routine_tokens (roll-RoutineBlock (record { at = at; width = width; width_name = w; id_name = i; body = body })) ≡
    routine_of width w i (each statement_tokens body)
routine_made at width w i body = ap (λ r. routine_of r.width r.width_name r.id_name (each statement_tokens r.body))
    (out-roll-RoutineBlock (record { at = at; width = width; width_name = w; id_name = i; body = body }))

-- an `if` with all its arms
abbrev pub else_tokens : Option (List Stmt) → List TokenKind
else_tokens None = []
else_tokens (Some body) = word keyword.Else ++ body_tokens body

pub tokens_if : (arms : List Arm) (last : Option (List Stmt)) → form_tokens (form.If arms last) ≡ parted (word keyword.Else) arm_tokens arms ++ else_tokens last
tokens_if arms None = ap (λ r. r ++ []) (arms_is arms)
tokens_if arms (Some body) = λ i. arms_is arms i ++ (word keyword.Else ++ in_braces (statements_is body i))
