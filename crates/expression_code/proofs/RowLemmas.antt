-- What statements declare, at the tree's own constructors: rows as lists, the kinds of locals, and the locals that stay at the end of a block.
use Rattle.std.proofs.Common.{◌≡◌, ℕ, ◌+◌, length, take, List, [], ◌∷◌, ◌++◌, Option, Some, None, Result, Ok, Err, OnOk, refl, sym, ap, ◌∙◌, append_assoc, length-append}
use Rattle.std.proofs.Math.Seq.{take-append_seam}
use denote.Hole.Carrier.{hidden}
use Rattle.csl_tree.specs.declared.program.Expr.{Expr}
use Rattle.csl_tree.specs.declared.program.Stmt.{Stmt}
use Rattle.csl_tree.specs.declared.program.Arm.{Arm, out-Arm, is-Arm'}
use Rattle.csl_tree.specs.declared.program.RoutineBlock.{RoutineBlock}
use Rattle.csl_tree.specs.declared.program.Form.{Form, Declare, more_of-Arm}
use Rattle.csl_tree.specs.declared.program.Form.TheVariants as form
use Rattle.csl_tree.specs.declared.program.Form.TheBlock.{shape-the_row-Stmt-1, hidden-the_row-Stmt-1, shape-the_row-Stmt-2, hidden-the_row-Stmt-2, shape-the_row-Arm-0, hidden-the_row-Arm-0}
use Rattle.csl_tree.specs.declared.program.Form.TheBlock.{shape-the_row-RoutineBlock-3, hidden-the_row-RoutineBlock-3}
use Rattle.csl_meaning.specs.Effect.{blocks_in}
use Rattle.compiled_code.specs.Slots.{Slots}
use Rattle.compiled_code.specs.Sizes.{kinds_in, kinds_in_row, kinds_in_arms}
use Rattle.compiled_code.specs.Places.{slots_after}
use Rattle.expression_code.specs.Lists.{kinds_of, kinds_of_arms, kinds_of_last, slots_after_all}
pub use Rattle.cal_terms.proofs.Lists.{append_none}

-- what holds anyway
pub on_ok : {T E P : Type 0} (r : Result T E) → P → OnOk r P
on_ok (Ok x) h = h
on_ok (Err e) h = tt

-- ---- the locals that become visible

-- they stand behind the others
pub slots_grow : (slots : Slots) (slot : ℕ) (f : Form) → (more : Slots) × (slots_after slots slot f ≡ slots ++ more)
slots_grow slots slot (Declare ty name e) = (_, refl)
slots_grow slots slot _ = ([], sym (append_none slots))

pub slots_grow_all : (slots : Slots) (slot : ℕ) (body : List Stmt) → (more : Slots) × (slots_after_all slots slot body ≡ slots ++ more)
slots_grow_all slots slot [] = ([], sym (append_none slots))
slots_grow_all slots slot (s ∷ rest) =
    let one = slots_grow slots slot s.form in
    let others = slots_grow_all (slots_after slots slot s.form) (slot + length (kinds_in s.form)) rest in
    (one.0 ++ others.0, others.1 ∙ ap (λ (ss : Slots). ss ++ others.0) one.1 ∙ append_assoc slots one.0 others.0)

-- at the end of a block the locals in front of it are left
pub block_ends : (slots inner : Slots) (slot : ℕ) (body : List Stmt) → inner ≡ slots_after_all slots slot body → take (length slots) inner ≡ slots
block_ends slots inner slot body e =
    let grown = slots_grow_all slots slot body in
    ap (take (length slots)) (e ∙ grown.1) ∙ take-append_seam slots grown.0

-- ---- the kinds of locals

pub kinds_row : (body : List Stmt) → kinds_in_row (hidden-the_row-Stmt-1 body) ≡ kinds_of body
unfolding shape-the_row-Stmt-1 hidden-the_row-Stmt-1 hidden
kinds_row [] = refl
kinds_row (s ∷ rest) = ap (λ r. kinds_in s.form ++ r) (kinds_row rest)

pub kinds_arms : (arms : List Arm) → kinds_in_arms (hidden-the_row-Arm-0 arms) ≡ kinds_of_arms arms
unfolding shape-the_row-Arm-0 hidden-the_row-Arm-0 hidden
kinds_arms [] = refl
kinds_arms (a ∷ rest) = ap (λ x. kinds_in_arms (more_of-Arm x (hidden-the_row-Arm-0 rest))) (is-Arm' a) ∙ (λ i. kinds_row (out-Arm a).body i ++ kinds_arms rest i)

pub kinds_block : (f : Form) (body : List Stmt) → f ≡ form.Block body → kinds_in f ≡ kinds_of body
kinds_block f body e = ap kinds_in e ∙ kinds_row body

pub kinds_while : (f : Form) (test : Expr) (body : List Stmt) → f ≡ form.While test body → kinds_in f ≡ kinds_of body
kinds_while f test body e = ap kinds_in e ∙ kinds_row body

pub kinds_for : (f : Form) (first : Stmt) (test : Expr) (next : Stmt) (body : List Stmt) → f ≡ form.For first test next body → kinds_in f ≡ kinds_in first.form ++ kinds_of body
unfolding shape-the_row-Stmt-2 hidden-the_row-Stmt-2 hidden
kinds_for f first test next body e = ap kinds_in e ∙ (λ i. append_none (kinds_in first.form) i ++ kinds_row body i)

pub kinds_if : (f : Form) (arms : List Arm) (last : Option (List Stmt)) → f ≡ form.If arms last → kinds_in f ≡ kinds_of_arms arms ++ kinds_of_last last
kinds_if f arms None e = ap kinds_in e ∙ ap (λ k. k ++ []) (kinds_arms arms)
kinds_if f arms (Some body) e = ap kinds_in e ∙ (λ i. kinds_arms arms i ++ kinds_row body i)

pub kinds_if_none : (f : Form) (arms : List Arm) (last : Option (List Stmt)) → f ≡ form.If arms last → last ≡ None → kinds_in f ≡ kinds_of_arms arms
kinds_if_none f arms last e none = kinds_if f arms last e ∙ ap (λ l. kinds_of_arms arms ++ kinds_of_last l) none ∙ append_none _

pub kinds_if_some : (f : Form) (arms : List Arm) (last : Option (List Stmt)) (body : List Stmt) → f ≡ form.If arms last → last ≡ Some body → kinds_in f ≡ kinds_of_arms arms ++ kinds_of body
kinds_if_some f arms last body e some = kinds_if f arms last e ∙ ap (λ l. kinds_of_arms arms ++ kinds_of_last l) some

-- how many locals they are
pub count_for : (f : Form) (first : Stmt) (test : Expr) (next : Stmt) (body : List Stmt) → f ≡ form.For first test next body
    → length (kinds_in f) ≡ length (kinds_in first.form) + length (kinds_of body)
count_for f first test next body e = ap length (kinds_for f first test next body e) ∙ length-append (kinds_in first.form) (kinds_of body)

pub count_if : (f : Form) (arms : List Arm) (last : Option (List Stmt)) → f ≡ form.If arms last → length (kinds_in f) ≡ length (kinds_of_arms arms) + length (kinds_of_last last)
count_if f arms last e = ap length (kinds_if f arms last e) ∙ length-append (kinds_of_arms arms) (kinds_of_last last)

-- ---- routine blocks

pub blocks_is : (blocks : List RoutineBlock) → blocks_in (hidden-the_row-RoutineBlock-3 blocks) ≡ blocks
unfolding shape-the_row-RoutineBlock-3 hidden-the_row-RoutineBlock-3 hidden
blocks_is [] = refl
blocks_is (b ∷ rest) = ap (λ r. b ∷ r) (blocks_is rest)
