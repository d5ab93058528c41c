-- The routine blocks of the steps of statements at the tree's own constructors, and their shape.
use Rattle.std.proofs.Common.{◌≡◌, List, [], ◌∷◌, ◌++◌, map, Option, Some, None, sym, ap, subst, ◌∙◌, append_assoc}
use Rattle.std.proofs.lemmas.List.{map-append, append-nil}
use denote.Hole.Carrier.{hidden}
use Rattle.csl_tree.specs.declared.program.Program.{Program}
use Rattle.csl_tree.specs.declared.program.Expr.{Expr}
use Rattle.csl_tree.specs.declared.program.Stmt.{Stmt}
use Rattle.csl_tree.specs.declared.program.Arm.{Arm}
use Rattle.csl_tree.specs.declared.program.RoutineBlock.{RoutineBlock, out-RoutineBlock, is-RoutineBlock'}
use Rattle.csl_tree.specs.declared.program.Form.{Form, more_of-RoutineBlock}
use Rattle.csl_tree.specs.declared.program.Form.TheVariants as form
use Rattle.csl_tree.specs.declared.program.Form.TheBlock.{shape-the_row-RoutineBlock-3, hidden-the_row-RoutineBlock-3}
use Rattle.bytecode.specs.declared.module.Code.{Code}
use Rattle.compiled_code.specs.Sizes.{steps_in}
use Rattle.compiled_code.specs.Modules.{block_code}
use Rattle.compiled_code.specs.Shape.{FormIs, BlocksAre}
use Rattle.expression_code.specs.Lists.{steps_of, steps_of_arms, steps_of_last, RoutinesAre}
use Rattle.expression_code.proofs.RowLemmas.{blocks_is}
use Rattle.compile_steps.specs.Writing.{BlocksFit}
use Rattle.compile_steps.proofs.Bridges.{steps_row, steps_if, row_are}

pub steps_block : (f : Form) (body : List Stmt) → f ≡ form.Block body → steps_in f ≡ steps_of body
steps_block f body e = ap steps_in e ∙ steps_row body

pub steps_while : (f : Form) (test : Expr) (body : List Stmt) → f ≡ form.While test body → steps_in f ≡ steps_of body
steps_while f test body e = ap steps_in e ∙ steps_row body

pub steps_for : (f : Form) (first : Stmt) (test : Expr) (next : Stmt) (body : List Stmt) → f ≡ form.For first test next body → steps_in f ≡ steps_of body
steps_for f first test next body e = ap steps_in e ∙ steps_row body

pub steps_if_none : (f : Form) (arms : List Arm) (last : Option (List Stmt)) → f ≡ form.If arms last → last ≡ None → steps_in f ≡ steps_of_arms arms
steps_if_none f arms last e none = ap steps_in e ∙ steps_if arms last ∙ ap (λ l. steps_of_arms arms ++ steps_of_last l) none ∙ append-nil (steps_of_arms arms)

pub steps_if_some : (f : Form) (arms : List Arm) (last : Option (List Stmt)) (body : List Stmt) → f ≡ form.If arms last → last ≡ Some body → steps_in f ≡ steps_of_arms arms ++ steps_of body
steps_if_some f arms last body e some = ap steps_in e ∙ steps_if arms last ∙ ap (λ l. steps_of_arms arms ++ steps_of_last l) some

pub steps_par : (f : Form) (blocks : List RoutineBlock) → f ≡ form.Par blocks → steps_in f ≡ blocks
steps_par f blocks e = ap steps_in e ∙ blocks_is blocks

module _ (p : Program) where
  -- codes appended, and then others
  pub codes_appended : (l m n : List Code) (xs ys : List RoutineBlock) → m ≡ l ++ map (λ b. block_code p b) xs → n ≡ m ++ map (λ b. block_code p b) ys → n ≡ l ++ map (λ b. block_code p b) (xs ++ ys)
  codes_appended l m n xs ys first next =
      next ∙ ap (λ k. k ++ map (λ b. block_code p b) ys) first ∙ append_assoc l (map (λ b. block_code p b) xs) (map (λ b. block_code p b) ys)
      ∙ ap (λ k. l ++ k) (sym (map-append (λ b. block_code p b) xs ys))

  routines_are : (blocks : List RoutineBlock) → BlocksAre p (hidden-the_row-RoutineBlock-3 blocks) → RoutinesAre p blocks
  unfolding shape-the_row-RoutineBlock-3 hidden-the_row-RoutineBlock-3 hidden
  routines_are [] h = tt
  routines_are (b ∷ rest) h =
      let opened = subst (λ (x : RoutineBlock). BlocksAre p (more_of-RoutineBlock x (hidden-the_row-RoutineBlock-3 rest))) (is-RoutineBlock' b) h in
      (row_are p (out-RoutineBlock b).body opened.1, routines_are rest opened.2)

  pub is_par : (f : Form) (blocks shown : List RoutineBlock) → f ≡ form.Par blocks → shown ≡ blocks → FormIs p f → RoutinesAre p shown
  is_par f blocks shown e same h = subst (λ (l : List RoutineBlock). RoutinesAre p l) (sym same) (routines_are blocks (subst (λ (g : Form). FormIs p g) e h))

  -- what holds of blocks holds of both parts of their list
  pub first_fit : (xs ys : List RoutineBlock) → BlocksFit p (xs ++ ys) → BlocksFit p xs
  first_fit [] ys h = tt
  first_fit (x ∷ xs) ys h = (h.0, first_fit xs ys h.1)

  pub others_fit : (xs ys : List RoutineBlock) → BlocksFit p (xs ++ ys) → BlocksFit p ys
  others_fit [] ys h = h
  others_fit (x ∷ xs) ys h = others_fit xs ys h.1

  pub if_first_fit : (f : Form) (arms shown : List Arm) (last : Option (List Stmt)) → f ≡ form.If arms last → shown ≡ arms → BlocksFit p (steps_in f) → BlocksFit p (steps_of_arms shown)
  if_first_fit f arms shown last e same h =
      subst (λ (a : List Arm). BlocksFit p (steps_of_arms a)) (sym same) (first_fit (steps_of_arms arms) (steps_of_last last) (subst (BlocksFit p) (ap steps_in e ∙ steps_if arms last) h))

  pub if_last_fit : (f : Form) (arms : List Arm) (last : Option (List Stmt)) (body shown : List Stmt) → f ≡ form.If arms last → last ≡ Some body → shown ≡ body → BlocksFit p (steps_in f)
      → BlocksFit p (steps_of shown)
  if_last_fit f arms last body shown e some same h =
      subst (λ (b : List Stmt). BlocksFit p (steps_of b)) (sym same) (others_fit (steps_of_arms arms) (steps_of body) (subst (BlocksFit p) (steps_if_some f arms last body e some) h))

  pub as_fit : (f : Form) (body shown : List Stmt) → steps_in f ≡ steps_of body → shown ≡ body → BlocksFit p (steps_in f) → BlocksFit p (steps_of shown)
  as_fit f body shown e same h = subst (λ (b : List Stmt). BlocksFit p (steps_of b)) (sym same) (subst (BlocksFit p) e h)
