-- The texts that statements print, at the tree's own constructors.
use Rattle.std.proofs.Common.{◌≡◌, ◌⊎◌, inl, inr, List, [], ◌∷◌, ◌++◌, Option, Some, None, refl, ap, ◌∙◌, append-nil}
use denote.Hole.Carrier.{hidden}
use Rattle.csl_tree.specs.declared.program.Expr.{Expr}
use Rattle.csl_tree.specs.declared.program.Stmt.{Stmt}
use Rattle.csl_tree.specs.declared.program.Arm.{Arm, out-Arm, is-Arm'}
use Rattle.csl_tree.specs.declared.program.Form.{Form, more_of-Arm}
use Rattle.csl_tree.specs.declared.program.Form.TheVariants as form
use Rattle.csl_tree.specs.declared.program.Form.TheBlock.{shape-the_row-Stmt-1, hidden-the_row-Stmt-1, shape-the_row-Arm-0, hidden-the_row-Arm-0}
use Rattle.compiled_code.specs.Sizes.{texts_in, texts_in_row, texts_in_arms}
use Rattle.expression_code.specs.Lists.{texts_of, texts_of_arms}

texts_row : (body : List Stmt) → texts_in_row (hidden-the_row-Stmt-1 body) ≡ texts_of body
unfolding shape-the_row-Stmt-1 hidden-the_row-Stmt-1 hidden
texts_row [] = refl
texts_row (s ∷ rest) = ap (λ r. texts_in s.form ++ r) (texts_row rest)

texts_arms : (arms : List Arm) → texts_in_arms (hidden-the_row-Arm-0 arms) ≡ texts_of_arms arms
unfolding shape-the_row-Arm-0 hidden-the_row-Arm-0 hidden
texts_arms [] = refl
texts_arms (a ∷ rest) = ap (λ x. texts_in_arms (more_of-Arm x (hidden-the_row-Arm-0 rest))) (is-Arm' a) ∙ (λ i. texts_row (out-Arm a).body i ++ texts_arms rest i)

pub texts_block : (f : Form) (body : List Stmt) → f ≡ form.Block body → texts_in f ≡ texts_of body
texts_block f body e = ap texts_in e ∙ texts_row body

-- a `while` or a `for`: the first statement of a `for` and the one behind its block print nothing
pub texts_loop : (f : Form) (body : List Stmt) → ((test : Expr) × (f ≡ form.While test body)) ⊎ ((first : Stmt) × (test : Expr) × (next : Stmt) × (f ≡ form.For first test next body))
    → texts_in f ≡ texts_of body
texts_loop f body (inl h) = ap texts_in h.1 ∙ texts_row body
texts_loop f body (inr h) = ap texts_in h.3 ∙ texts_row body

pub texts_if_none : (f : Form) (arms : List Arm) (last : Option (List Stmt)) → f ≡ form.If arms last → last ≡ None → texts_in f ≡ texts_of_arms arms
texts_if_none f arms last e none = ap texts_in e ∙ ap (λ l. texts_in (form.If arms l)) none ∙ append-nil _ ∙ texts_arms arms

pub texts_if_some : (f : Form) (arms : List Arm) (last : Option (List Stmt)) (body : List Stmt) → f ≡ form.If arms last → last ≡ Some body → texts_in f ≡ texts_of_arms arms ++ texts_of body
texts_if_some f arms last body e some = ap texts_in e ∙ ap (λ l. texts_in (form.If arms l)) some ∙ (λ i. texts_arms arms i ++ texts_row body i)
