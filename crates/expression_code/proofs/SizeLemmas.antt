-- Sizes at the tree's own constructors.
use Rattle.std.proofs.Common.{◌≡◌, ◌<◌, ◌+◌, ℕ, List, [], ◌∷◌, Some, refl, ap, ◌∙◌, drop, get_or, length}
use Rattle.cal_terms.proofs.Lists.{next_item}
use Rattle.csl_tree.specs.declared.name.Name.{Name}
use Rattle.csl_tree.specs.declared.program.Item.{Item}
use Rattle.csl_tree.specs.declared.program.Item.TheVariants as item
use Rattle.csl_tree.specs.declared.program.RoutineBlock.{RoutineBlock, out-RoutineBlock, is-RoutineBlock'}
use denote.Hole.Carrier.{hidden}
use Rattle.csl_tree.specs.declared.program.Expr.{Expr}
use Rattle.csl_tree.specs.declared.program.UnaryOp.{UnaryOp}
use Rattle.csl_tree.specs.declared.program.BinaryOp.{BinaryOp}
use Rattle.csl_tree.specs.declared.program.Node.{Node}
use Rattle.csl_tree.specs.declared.program.Node.TheVariants as node
use Rattle.csl_tree.specs.declared.program.Node.TheBlock.{shape-the_row-Expr-0, hidden-the_row-Expr-0, shape-the_row-Expr-1, hidden-the_row-Expr-1, back-Place-index}
use Rattle.csl_tree.specs.declared.program.Place.{Place, Place', out-Place, is-Place'}
use Rattle.csl_tree.specs.declared.program.Call.{Call, out-Call, is-Call'}
use Rattle.compiled_code.specs.Slots.{Slots}
use Rattle.compiled_code.specs.Sizes.{operator_size, value_size, place_size, call_size, values_size, size_of, items_size, widths_size}
use Rattle.expression_code.specs.Lists.{sizes_of, adding_size}

-- ---- expressions

pub size_unary : (n : Node) (op : UnaryOp) (a : Expr) → n ≡ node.Unary op a → value_size n ≡ size_of a + 1
unfolding shape-the_row-Expr-0 hidden-the_row-Expr-0 hidden
size_unary n op a e = ap value_size e

pub size_binary : (n : Node) (op : BinaryOp) (a b : Expr) → n ≡ node.Binary op a b → value_size n ≡ size_of a + size_of b + operator_size op
unfolding shape-the_row-Expr-0 hidden-the_row-Expr-0 hidden
size_binary n op a b e = ap value_size e

pub size_paren : (n : Node) (a : Expr) → n ≡ node.Paren a → value_size n ≡ size_of a
unfolding shape-the_row-Expr-0 hidden-the_row-Expr-0 hidden
size_paren n a e = ap value_size e

pub size_element : (q : Place) (index : Expr) → (out-Place q).index ≡ Some index → place_size q ≡ size_of index
unfolding shape-the_row-Expr-0 hidden-the_row-Expr-0 hidden
size_element q index e = ap place_size (is-Place' q) ∙ ap (λ j. place_size (Place' (out-Place q).name (back-Place-index j))) e

-- the arguments of a row are those of its list
values_is : (args : List Expr) → values_size (hidden-the_row-Expr-1 args) ≡ sizes_of args
unfolding shape-the_row-Expr-1 hidden-the_row-Expr-1 hidden
values_is [] = refl
values_is (e ∷ rest) = ap (λ n. size_of e + n) (values_is rest)

pub size_call : (q : Call) → call_size q ≡ sizes_of (out-Call q).args + 1
size_call q = ap call_size (is-Call' q) ∙ ap (λ n. n + 1) (values_is (out-Call q).args)

-- ---- an adding

pub size_add_element : (slots : Slots) (q : Place) (e index : Expr) → (out-Place q).index ≡ Some index → adding_size slots q e ≡ size_of index + size_of e + 1
unfolding shape-the_row-Expr-0 hidden-the_row-Expr-0 hidden
size_add_element slots q e index is = ap (λ p. adding_size slots p e) (is-Place' q) ∙ ap (λ j. adding_size slots (Place' (out-Place q).name (back-Place-index j)) e) is

-- ---- the next of several

pub sizes_next : (args : List Expr) (k : ℕ) (e : Expr) → k < length args → e ≡ get_or args k e → sizes_of (drop k args) ≡ size_of e + sizes_of (drop (k + 1) args)
sizes_next args k e within at = ap sizes_of (next_item args k e within at)

pub items_next_text : (items : List Item) (k : ℕ) (it : Item) (name : Name) → k < length items → it ≡ get_or items k it → it ≡ item.Text name
    → items_size (drop k items) ≡ items_size (drop (k + 1) items)
items_next_text items k it name within at is = ap items_size (next_item items k it within at) ∙ ap (λ x. items_size (x ∷ drop (k + 1) items)) is

pub items_next_value : (items : List Item) (k : ℕ) (it : Item) (e : Expr) → k < length items → it ≡ get_or items k it → it ≡ item.Value e
    → items_size (drop k items) ≡ size_of e + items_size (drop (k + 1) items)
items_next_value items k it e within at is = ap items_size (next_item items k it within at) ∙ ap (λ x. items_size (x ∷ drop (k + 1) items)) is

pub widths_size_next : (blocks : List RoutineBlock) (k : ℕ) (b : RoutineBlock) → k < length blocks → b ≡ get_or blocks k b
    → widths_size (drop k blocks) ≡ size_of (out-RoutineBlock b).width + widths_size (drop (k + 1) blocks)
widths_size_next blocks k b within at = ap widths_size (next_item blocks k b within at) ∙ ap (λ x. widths_size (x ∷ drop (k + 1) blocks)) (is-RoutineBlock' b)
