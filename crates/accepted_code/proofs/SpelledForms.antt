-- The statements that the grammar gives: their expressions nest no deeper than the levels of their tokens, and the texts that they print are bytes, no more than the whole text has.
use Rattle.std.proofs.Common.{◌+◌, ℕ, List, [], ◌∷◌, ◌++◌, Option, refl, arith}
use Rattle.std.specs.List.{AllByRecursion}
use denote.Hole.Carrier.{hidden, roll}
use Rattle.csl_tree.specs.declared.token.Token.{Token}
use Rattle.csl_tree.specs.declared.token.TokenKind.TheVariants as kind
use Rattle.csl_tree.specs.declared.token.Mark.TheVariants as mark
use Rattle.csl_tree.specs.declared.program.Expr.{Expr}
use Rattle.csl_tree.specs.declared.program.Node.TheBlock.{shape-the_row-Expr-0, hidden-the_row-Expr-0, shape-the_row-Expr-1, hidden-the_row-Expr-1}
use Rattle.csl_tree.specs.declared.program.Place.{Place, roll-Place}
use Rattle.csl_tree.specs.declared.program.Call.{Call, roll-Call}
use Rattle.csl_tree.specs.declared.program.Item.{Item}
use Rattle.csl_tree.specs.declared.program.Item.TheVariants as item
use Rattle.csl_tree.specs.declared.program.Stmt.{Stmt}
use Rattle.csl_tree.specs.declared.program.Arm.{Arm, Arm', roll-Arm}
use Rattle.csl_tree.specs.declared.program.RoutineBlock.{RoutineBlock, RoutineBlock', roll-RoutineBlock}
use Rattle.csl_tree.specs.declared.program.Form.{Form, Row_of-Arm, more_of-Arm, Row_of-Stmt, Held-Form-If-1, Row_of-RoutineBlock, more_of-RoutineBlock}
use Rattle.csl_tree.specs.declared.program.Form.TheBlock.{shape-the_row-Stmt-1, hidden-the_row-Stmt-1, shape-the_row-Stmt-2, hidden-the_row-Stmt-2, shape-the_row-Arm-0, hidden-the_row-Arm-0}
use Rattle.csl_tree.specs.declared.program.Form.TheBlock.{shape-the_row-RoutineBlock-3, hidden-the_row-RoutineBlock-3, back-Form-If-1}
use Rattle.csl_grammar.specs.Expressions.{SpellsExpr, whole}
use Rattle.csl_grammar.specs.Levels.{Nesting, Opens, Stays, behind}
use Rattle.csl_grammar.specs.Programs.{SpellsPlace, bare, indexed, SpellsCall, called, SpellsDecl, declare, SpellsChange, set, add_to, SpellsItem, text as text_item, value as value_item, MoreOf}
use Rattle.csl_grammar.specs.Programs.{no_more, more, ListOf, nothing, something, SpellsStmt, declared, changed, calls, block, if_else, while_loop, for_loop, break_out, goes_on, returns}
use Rattle.csl_grammar.specs.Programs.{returns_value, asserts, prints, parallel, SpellsStart, declares, changes, SpellsBlock, braces, SpellsStmts, none, one_more, SpellsArm, tested, SpellsElse}
use Rattle.csl_grammar.specs.Programs.{no_else, else_if, else_block, SpellsRoutine, routine, SpellsRoutines, no_routine, one_routine}
use Rattle.compiled_code.specs.Sizes.{item_texts, texts_in, texts_in_row, texts_in_arms, texts_in_last}
use Rattle.accepted_code.proofs.Spelled.{PlaceSpelled, CallSpelled, ExprSpelled, ItemsSpelled, FormSpelled, RowSpelled, ArmsSpelled, LastSpelled, BlocksSpelled}
use Rattle.accepted_code.proofs.Lists.{all_both}
use Rattle.accepted_code.proofs.TokenFacts.{TextFits}
use Rattle.accepted_code.proofs.SpelledValues.{Good, first, inside, value_lower, values_lower, expr_spelled, arguments_spelled}

-- ---- what is behind a statement

-- from some nesting on no token is too deep, and the tokens fit
pub record Onward (limit : ℕ) (tokens : List Token) : Type 0 where
  pub from : Nesting
  pub good : Good limit from tokens

-- so it is behind the first token
pub onward : {limit : ℕ} {token : Token} {rest : List Token} → Onward limit (token ∷ rest) → Onward limit rest
onward {token = token} o = record { from = behind token o.from; good = record { flat = o.good.flat.1; fit = o.good.fit.1 } }

-- texts of at most this many bytes
pub record TextsFit (limit : ℕ) (texts : List (List ℕ)) : Type 0 where
  pub each : AllByRecursion (TextFits limit) texts

pub no_texts : {limit : ℕ} → TextsFit limit []
no_texts = record { each = tt }

both_fit : {limit : ℕ} {xs ys : List (List ℕ)} → TextsFit limit xs → TextsFit limit ys → TextsFit limit (xs ++ ys)
both_fit {limit = limit} {xs = xs} {ys = ys} a b = record { each = all_both (TextFits limit) xs ys a.each b.each }

-- ---- a tree and the texts that it prints

abbrev pub FormStands : ℕ → Form → Type 0
FormStands limit f = FormSpelled f × TextsFit limit (texts_in f)

abbrev pub RowStands : {n : _} → ℕ → Row_of-Stmt n → Type 0
RowStands limit row = RowSpelled row × TextsFit limit (texts_in_row row)

abbrev pub ArmStands : ℕ → Arm → Type 0
ArmStands limit (Arm' test shape body) = ExprSpelled test × RowStands limit body

abbrev pub ArmsStand : {n : _} → ℕ → Row_of-Arm n → Type 0
ArmsStand limit arms = ArmsSpelled arms × TextsFit limit (texts_in_arms arms)

abbrev pub LastStands : ℕ → Held-Form-If-1 → Type 0
LastStands limit last = LastSpelled last × TextsFit limit (texts_in_last last)

abbrev pub BlockSpelled : RoutineBlock → Type 0
BlockSpelled (RoutineBlock' at width width_name id_name shape body) = ExprSpelled width × RowSpelled body

abbrev pub ItemStands : ℕ → Item → Type 0
ItemStands limit (item.Text text) = TextFits limit text.text
ItemStands limit (item.Value e) = ExprSpelled e

abbrev pub ItemsStand : ℕ → List Item → Type 0
ItemsStand limit items = ItemsSpelled items × TextsFit limit (item_texts items)

arms_more : {n : _} (limit : ℕ) (a : Arm) (others : Row_of-Arm n) → ArmStands limit a → ArmsStand limit others → ArmsStand limit (more_of-Arm a others)
arms_more limit (Arm' test shape body) others h rest = ((h.0, h.1.0, rest.0), both_fit h.1.1 rest.1)

blocks_more : {n : _} (r : RoutineBlock) (others : Row_of-RoutineBlock n) → BlockSpelled r → BlocksSpelled others → BlocksSpelled (more_of-RoutineBlock r others)
blocks_more (RoutineBlock' at width width_name id_name shape body) others h rest = (h.0, h.1, rest)

items_more : (limit : ℕ) (x : Item) (xs : List Item) → ItemStands limit x → ItemsStand limit xs → ItemsStand limit (x ∷ xs)
items_more limit (item.Text text) xs h rest = (rest.0, record { each = (h, rest.1.each) })
items_more limit (item.Value e) xs h rest = ((h, rest.0), record { each = rest.1.each })

module _ (limit : ℕ) where
  -- ---- the parts of a statement

  expr_stands : {tokens rest : List Token} {e : Expr} → SpellsExpr whole tokens rest e → Onward limit tokens → ExprSpelled e × Onward limit rest
  expr_stands {e = e} d o =
      let one : _ × _ = expr_spelled limit d o.from o.good in
      (value_lower 0 o.from.level (omega arith) e.node one.0, record { from = one.1.to; good = one.1.good })

  place_stands : {tokens rest : List Token} {p : Place} → SpellsPlace tokens rest p → Onward limit tokens → PlaceSpelled 0 p × Onward limit rest
  unfolding shape-the_row-Expr-0 hidden-the_row-Expr-0 roll-Place hidden roll
  place_stands (bare k) o = (omega arith, onward o)
  place_stands (indexed {name = name} {index = index} k b d c) o =
      let token = first (kind.Named name) Stays k refl o.good in
      let opening = first (kind.Mark mark.OpenBracket) Opens b refl token.good in
      let one : _ × _ = expr_spelled limit d (inside o.from) opening.good in
      (value_lower 1 (o.from.level + 1) (omega arith) index.node one.0, onward (record { from = one.1.to; good = one.1.good }))

  call_stands : {tokens rest : List Token} {q : Call} → SpellsCall tokens rest q → Onward limit tokens → CallSpelled 0 q × Onward limit rest
  unfolding shape-the_row-Expr-1 hidden-the_row-Expr-1 roll-Call hidden roll
  call_stands (called {name = name} {args = args} k b d c) o =
      let token = first (kind.Named name) Stays k refl o.good in
      let opening = first (kind.Mark mark.OpenParen) Opens b refl token.good in
      let all : _ × _ = arguments_spelled limit d o.from opening.good in
      ((omega arith, values_lower 1 (o.from.level + 1) (omega arith) (hidden-the_row-Expr-1 args) all.0), onward (record { from = all.1.to; good = all.1.good }))

  decl_stands : {tokens rest : List Token} {s : Stmt} → SpellsDecl tokens rest s → Onward limit tokens → FormStands limit s.form × Onward limit rest
  decl_stands (declare k i a d) o = let one : _ × _ = expr_stands d (onward (onward (onward o))) in ((one.0, no_texts), one.1)

  change_stands : {tokens rest : List Token} {s : Stmt} → SpellsChange tokens rest s → Onward limit tokens → FormStands limit s.form × Onward limit rest
  change_stands (set p k d) o =
      let place : _ × _ = place_stands p o in
      let one : _ × _ = expr_stands d (onward place.1) in
      (((place.0, one.0), no_texts), one.1)
  change_stands (add_to p k d) o =
      let place : _ × _ = place_stands p o in
      let one : _ × _ = expr_stands d (onward place.1) in
      (((place.0, one.0), no_texts), one.1)

  start_stands : {tokens rest : List Token} {s : Stmt} → SpellsStart tokens rest s → Onward limit tokens → FormStands limit s.form × Onward limit rest
  start_stands (declares d) o = decl_stands d o
  start_stands (changes d) o = change_stands d o

  item_stands : {tokens rest : List Token} {x : Item} → SpellsItem tokens rest x → Onward limit tokens → ItemStands limit x × Onward limit rest
  item_stands (text_item {t = t} k) o = let token = first (kind.Text t) Stays k refl o.good in (token.fits, onward o)
  item_stands (value_item d) o = expr_stands d o

  more_stand : {tokens rest : List Token} {xs : List Item} → MoreOf SpellsItem tokens rest xs → Onward limit tokens → ItemsStand limit xs × Onward limit rest
  more_stand no_more o = ((tt, no_texts), o)
  more_stand (more {x = x} {xs = xs} k d m) o =
      let one : _ × _ = item_stands d (onward o) in
      let others : _ × _ = more_stand m one.1 in
      (items_more limit x xs one.0 others.0, others.1)

  items_stand : {tokens rest : List Token} {xs : List Item} → ListOf SpellsItem tokens rest xs → Onward limit tokens → ItemsStand limit xs × Onward limit rest
  items_stand nothing o = ((tt, no_texts), o)
  items_stand (something {x = x} {xs = xs} d m) o =
      let one : _ × _ = item_stands d o in
      let others : _ × _ = more_stand m one.1 in
      (items_more limit x xs one.0 others.0, others.1)

  -- ---- statements

  mutual
    unfolding shape-the_row-Stmt-1 hidden-the_row-Stmt-1 shape-the_row-Stmt-2 hidden-the_row-Stmt-2 shape-the_row-Arm-0 hidden-the_row-Arm-0 shape-the_row-RoutineBlock-3 hidden-the_row-RoutineBlock-3
        roll-Arm roll-RoutineBlock hidden roll

    pub stmt_stands : {tokens rest : List Token} {s : Stmt} → SpellsStmt tokens rest s → Onward limit tokens → FormStands limit s.form × Onward limit rest
    stmt_stands (declared d k) o = let one : _ × _ = decl_stands d o in (one.0, onward one.1)
    stmt_stands (changed d k) o = let one : _ × _ = change_stands d o in (one.0, onward one.1)
    stmt_stands (calls d k) o = let one : _ × _ = call_stands d o in ((one.0, no_texts), onward one.1)
    stmt_stands (block d) o = block_stands d o
    stmt_stands (if_else {a = a} {arms = arms} k d l) o =
        let one : _ × _ = arm_stands d (onward o) in
        let rest : _ × _ × _ = else_stands l one.1 in
        let all = arms_more limit a (hidden-the_row-Arm-0 arms) one.0 rest.0 in
        (((all.0, rest.1.0), both_fit all.1 rest.1.1), rest.2)
    stmt_stands (while_loop k b d c body) o =
        let test : _ × _ = expr_stands d (onward (onward o)) in
        let inner : _ × _ = block_stands body (onward test.1) in
        (((test.0, inner.0.0), inner.0.1), inner.1)
    stmt_stands (for_loop k b a s t u x c body) o =
        let start : _ × _ = start_stands a (onward (onward o)) in
        let test : _ × _ = expr_stands t (onward start.1) in
        let next : _ × _ = change_stands x (onward test.1) in
        let inner : _ × _ = block_stands body (onward next.1) in
        (((((start.0.0, tt)), test.0, ((next.0.0, tt)), inner.0.0), inner.0.1), inner.1)
    stmt_stands (break_out k s) o = ((tt, no_texts), onward (onward o))
    stmt_stands (goes_on k s) o = ((tt, no_texts), onward (onward o))
    stmt_stands (returns k s) o = ((tt, no_texts), onward (onward o))
    stmt_stands (returns_value k d s) o = let one : _ × _ = expr_stands d (onward o) in ((one.0, no_texts), onward one.1)
    stmt_stands (asserts k b d c s) o = let one : _ × _ = expr_stands d (onward (onward o)) in ((one.0, no_texts), onward (onward one.1))
    stmt_stands (prints k b d c s) o = let all : _ × _ = items_stand d (onward (onward o)) in (all.0, onward (onward all.1))
    stmt_stands (parallel {r = r} {rs = rs} k d ds l s) o =
        let one : _ × _ = routine_stands d (onward o) in
        let others : _ × _ = routines_stand ds one.1 in
        (((omega arith, blocks_more r (hidden-the_row-RoutineBlock-3 rs) one.0 others.0), no_texts), onward (onward others.1))

    pub block_stands : {tokens rest : List Token} {body : List Stmt} → SpellsBlock tokens rest body → Onward limit tokens → RowStands limit (hidden-the_row-Stmt-1 body) × Onward limit rest
    block_stands (braces b d c) o = let all : _ × _ = stmts_stand d (onward o) in (all.0, onward all.1)

    pub stmts_stand : {tokens rest : List Token} {body : List Stmt} → SpellsStmts tokens rest body → Onward limit tokens → RowStands limit (hidden-the_row-Stmt-1 body) × Onward limit rest
    stmts_stand none o = ((tt, no_texts), o)
    stmts_stand (one_more d m) o =
        let one : _ × _ = stmt_stands d o in
        let others : _ × _ = stmts_stand m one.1 in
        (((one.0.0, others.0.0), both_fit one.0.1 others.0.1), others.1)

    pub arm_stands : {tokens rest : List Token} {a : Arm} → SpellsArm tokens rest a → Onward limit tokens → ArmStands limit a × Onward limit rest
    arm_stands (tested b d c body) o =
        let test : _ × _ = expr_stands d (onward o) in
        let inner : _ × _ = block_stands body (onward test.1) in
        ((test.0, inner.0), inner.1)

    pub else_stands : {tokens rest : List Token} {arms : List Arm} {last : Option (List Stmt)} → SpellsElse tokens rest arms last → Onward limit tokens
        → ArmsStand limit (hidden-the_row-Arm-0 arms) × LastStands limit (back-Form-If-1 last) × Onward limit rest
    else_stands no_else o = ((tt, no_texts), (tt, no_texts), o)
    else_stands (else_if {a = a} {arms = arms} k i d l) o =
        let one : _ × _ = arm_stands d (onward (onward o)) in
        let rest : _ × _ × _ = else_stands l one.1 in
        (arms_more limit a (hidden-the_row-Arm-0 arms) one.0 rest.0, rest.1, rest.2)
    else_stands (else_block k body) o =
        let inner : _ × _ = block_stands body (onward o) in
        ((tt, no_texts), inner.0, inner.1)

    pub routine_stands : {tokens rest : List Token} {r : RoutineBlock} → SpellsRoutine tokens rest r → Onward limit tokens → BlockSpelled r × Onward limit rest
    routine_stands (routine k b d c p i a m j n q body) o =
        let width : _ × _ = expr_stands d (onward (onward o)) in
        let inner : _ × _ = block_stands body (onward (onward (onward (onward (onward (onward (onward (onward width.1)))))))) in
        ((width.0, inner.0.0), inner.1)

    pub routines_stand : {tokens rest : List Token} {rs : List RoutineBlock} → SpellsRoutines tokens rest rs → Onward limit tokens
        → BlocksSpelled (hidden-the_row-RoutineBlock-3 rs) × Onward limit rest
    routines_stand no_routine o = (tt, o)
    routines_stand (one_routine {r = r} {rs = rs} d ds) o =
        let one : _ × _ = routine_stands d o in
        let others : _ × _ = routines_stand ds one.1 in
        (blocks_more r (hidden-the_row-RoutineBlock-3 rs) one.0 others.0, others.1)
