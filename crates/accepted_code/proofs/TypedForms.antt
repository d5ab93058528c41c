-- A statement without faults fits.
use Rattle.std.proofs.Common.{◌≡◌, ℕ, suc, ◌+◌, ◌≤◌, Bool, true, false, if◌then◌else◌, List, [], ◌∷◌, ◌++◌, map, length, Option, Some, None, refl, sym, ap, ◌∙◌, subst, arith, length-append}
use Rattle.std.specs.Prelude.{not}
use Rattle.std.specs.List.{AllByRecursion}
use Rattle.std.proofs.lemmas.List.{length-map}
use Rattle.csl_tree.specs.declared.name.Name.{Name}
use Rattle.csl_tree.specs.declared.program.Program.{Program}
use Rattle.cal_terms.specs.declared.types.Gives.{Gives as Result}
use Rattle.cal_terms.specs.declared.types.Gives.TheVariants as result
use Rattle.cal_terms.specs.declared.types.Ty.TheVariants as type
use Rattle.csl_tree.specs.declared.program.Expr.{Expr}
use Rattle.csl_tree.specs.declared.program.Node.{Row_of-Expr}
use Rattle.csl_tree.specs.declared.program.Place.{Place, Place', None', Some'}
use Rattle.csl_tree.specs.declared.program.Call.{Call'}
use Rattle.csl_tree.specs.declared.program.Item.{Item}
use Rattle.csl_tree.specs.declared.program.Item.TheVariants as item
use Rattle.csl_tree.specs.declared.program.Arm.{Arm'}
use Rattle.csl_tree.specs.declared.program.RoutineBlock.{RoutineBlock, RoutineBlock'}
use Rattle.csl_tree.specs.declared.program.Form.{Form, Declare, Set, AddTo, If', While', For', Break, Continue, Return, Assert, Block', Print, Par', Row_of-Arm, end_of-Arm, more_of-Arm, Row_of-Stmt}
use Rattle.csl_tree.specs.declared.program.Form.{end_of-Stmt, more_of-Stmt, Held-Form-If-1, Row_of-RoutineBlock, end_of-RoutineBlock, more_of-RoutineBlock}
use Rattle.csl_tree.specs.declared.program.Form as form
use Rattle.csl_meaning.specs.declared.state.Area.{Area}
use Rattle.csl_meaning.specs.Layout.{Text, area_of}
use Rattle.csl_meaning.specs.Value.{declared as declared_area}
use Rattle.csl_meaning.specs.Effect.{blocks_in}
use Rattle.type_check.specs.declared.fault.Fault.{Fault}
use Rattle.type_check.specs.declared.fault.CheckKind.TheVariants.{WrongType, WrongReturn, OnlyInMain}
use Rattle.type_check.specs.declared.body.Body.{Body}
use Rattle.type_check.specs.declared.body.Body.TheVariants.{Routine}
use Rattle.type_check.specs.declared.body.Here.{Here}
use Rattle.type_check.specs.declared.names.Declaration.{Declaration}
use Rattle.type_check.specs.declared.names.Declaration.TheVariants as declared
use Rattle.type_check.specs.declared.names.Typed.TheVariants as typed
use Rattle.type_check.specs.Listed.{fault, fault_if}
use Rattle.type_check.specs.Listed as listed
use Rattle.type_check.specs.Names.{Names, meant, taken, declare, of_ty, given, same, wanted, some_value, as_scalar, as_array, use_faults}
use Rattle.type_check.specs.Expressions.{place_type, boxed, place_tally, part_of, node_faults, boxed_faults, place_faults, value_faults}
use Rattle.type_check.specs.Bodies.{locals_in_row, after, after_row}
use Rattle.type_check.specs.Statements.{body_of, is_main, result_of, no_bool, return_faults, item_faults, item_at, blocks_at, too_many_locals, most_items, most_blocks, faults, row_faults, arm_faults}
use Rattle.type_check.specs.Statements.{last_faults, block_faults}
use Rattle.type_check.proofs.CleanLemmas.{none_in_first, none_in_second, none_if, place_well_typed}
use Rattle.type_check.proofs.Facts.{within}
use Rattle.bytecode.specs.declared.instr.Instr.{Instr}
use Rattle.bytecode.specs.declared.instr.Instr.TheVariants as i
use Rattle.cal_terms.specs.declared.types.Ty.{Ty}
use Rattle.bytecode.specs.declared.module.Code.{Code}
use Rattle.bytecode.specs.declared.module.Module.{Module}
use Rattle.code_verify.specs.Rules.{HasText}
use Rattle.compiled_code.specs.Slots.{Slot, Slots, slot_of}
use Rattle.compiled_code.specs.Sizes.{size_of, kinds_in, kinds_in_row, kinds_in_arms, kinds_in_last, item_texts, texts_in, texts_in_row, texts_in_arms, texts_in_last, steps_in, steps_in_row}
use Rattle.compiled_code.specs.Sizes.{steps_in_arms, steps_in_last}
use Rattle.compiled_code.specs.Places.{slots_after, slots_after_row}
use Rattle.compiled_code.specs.Values.{kind_in}
use Rattle.compiled_code.specs.Modules.{gives_of}
use Rattle.compiled_code.specs.Statements.{At, printed_kind, printed_items, past, beyond, beyond_row, beyond_arms}
use Rattle.compiled_code.specs.Shape.{OneOf, IsSimple, IsChange, ValueIs, PlaceIs, ItemsAre, ReturnIs, FormIs, RowIs, ArmsAre, LastIs, BlocksAre}
use Rattle.accepted_code.proofs.Spelled.{FormSpelled, RowSpelled, ArmsSpelled, LastSpelled}
use Rattle.accepted_code.proofs.Permits.{Permits}
use Rattle.accepted_code.proofs.Fits.{ValueFits, StoreFits, AddFits, ExprFits, SetFits, AddToFits, ReturnFits, ItemsFit, WidthsFit, FormFits, RowFits, ArmsFit, LastFits}
use Rattle.accepted_code.proofs.Agrees.{Means, Agrees}
use Rattle.accepted_code.proofs.Naming.{Stand, stand_front, stand_back, after_agrees, after_row_agrees}
use Rattle.accepted_code.proofs.TypedValues.{IsKind, kind_of_ty, good_ty, expr_fits, value_fits, index_fits, call_fits}

-- ---- the texts and the blocks of main

-- in main these texts and blocks are those of the module from here on
abbrev pub Room : Bool → Module → At → List Text → List RoutineBlock → Type 0
Room main m at texts blocks = main ≡ true → (at.text + length texts ≤ length m.texts) × (at.block + length blocks ≤ length m.blocks)

-- no texts and no blocks need no more room
room_empty : (main : Bool) (m : Module) (at : At) (t t' : List Text) (b b' : List RoutineBlock) → t' ≡ [] → b' ≡ [] → Room main m at t b → Room main m at t' b'
room_empty main m at t t' b b' no_text no_block room is =
    let one = (room is).0 in
    let two = (room is).1 in
    let l : length t' ≡ 0 = ap length no_text in
    let k : length b' ≡ 0 = ap length no_block in
    (omega (arith, one, l), omega (arith, two, k))

-- nor do they behind others
room_end : (main : Bool) (m : Module) (at later : At) (t t' : List Text) (b b' : List RoutineBlock) → t' ≡ [] → b' ≡ [] → later.text ≡ at.text + length t → later.block ≡ at.block + length b
    → Room main m at t b → Room main m later t' b'
room_end main m at later t t' b b' no_text no_block text block room is =
    let one = (room is).0 in
    let two = (room is).1 in
    let l : length t' ≡ 0 = ap length no_text in
    let k : length b' ≡ 0 = ap length no_block in
    (omega (arith, one, l, text), omega (arith, two, k, block))

room_front : (main : Bool) (m : Module) (at : At) (t t' : List Text) (b b' : List RoutineBlock) → Room main m at (t ++ t') (b ++ b') → Room main m at t b
room_front main m at t t' b b' room is =
    let one = (room is).0 in
    let two = (room is).1 in
    let l = length-append t t' in
    let k = length-append b b' in
    (omega (arith, one, l), omega (arith, two, k))

-- behind the texts and the blocks in front
room_back : (main : Bool) (m : Module) (at later : At) (t t' : List Text) (b b' : List RoutineBlock) → later.text ≡ at.text + length t → later.block ≡ at.block + length b
    → Room main m at (t ++ t') (b ++ b') → Room main m later t' b'
room_back main m at later t t' b b' text block room is =
    let one = (room is).0 in
    let two = (room is).1 in
    let l = length-append t t' in
    let k = length-append b b' in
    (omega (arith, one, l, text), omega (arith, two, k, block))

-- where nothing is printed and no step opened in between
room_same : (main : Bool) (m : Module) (at later : At) (t t' : List Text) (b b' : List RoutineBlock) → t' ≡ [] → b' ≡ [] → later.text ≡ at.text + length t' → later.block ≡ at.block + length b'
    → Room main m at t b → Room main m later t b
room_same main m at later t t' b b' no_text no_block text block room is =
    let one = (room is).0 in
    let two = (room is).1 in
    let l : length t' ≡ 0 = ap length no_text in
    let k : length b' ≡ 0 = ap length no_block in
    (omega (arith, one, l, text), omega (arith, two, k, block))

-- ---- the heads of a `for`

-- a row of one declaration or change prints nothing and opens no step
simple_texts : {n : _} (row : Row_of-Stmt n) → OneOf IsSimple row → texts_in_row row ≡ []
simple_texts end_of-Stmt h = refl
simple_texts (more_of-Stmt at (Declare ty name e) end_of-Stmt) h = refl
simple_texts (more_of-Stmt at (Set place e) end_of-Stmt) h = refl
simple_texts (more_of-Stmt at (AddTo place e) end_of-Stmt) h = refl
simple_texts (more_of-Stmt at f end_of-Stmt) h = absurd h
simple_texts (more_of-Stmt at f (more_of-Stmt at' f' rest)) h = absurd h

simple_steps : {n : _} (row : Row_of-Stmt n) → OneOf IsSimple row → steps_in_row row ≡ []
simple_steps end_of-Stmt h = refl
simple_steps (more_of-Stmt at (Declare ty name e) end_of-Stmt) h = refl
simple_steps (more_of-Stmt at (Set place e) end_of-Stmt) h = refl
simple_steps (more_of-Stmt at (AddTo place e) end_of-Stmt) h = refl
simple_steps (more_of-Stmt at f end_of-Stmt) h = absurd h
simple_steps (more_of-Stmt at f (more_of-Stmt at' f' rest)) h = absurd h

-- nor does one change, which declares nothing either
change_texts : {n : _} (row : Row_of-Stmt n) → OneOf IsChange row → texts_in_row row ≡ []
change_texts end_of-Stmt h = refl
change_texts (more_of-Stmt at (Set place e) end_of-Stmt) h = refl
change_texts (more_of-Stmt at (AddTo place e) end_of-Stmt) h = refl
change_texts (more_of-Stmt at f end_of-Stmt) h = absurd h
change_texts (more_of-Stmt at f (more_of-Stmt at' f' rest)) h = absurd h

change_steps : {n : _} (row : Row_of-Stmt n) → OneOf IsChange row → steps_in_row row ≡ []
change_steps end_of-Stmt h = refl
change_steps (more_of-Stmt at (Set place e) end_of-Stmt) h = refl
change_steps (more_of-Stmt at (AddTo place e) end_of-Stmt) h = refl
change_steps (more_of-Stmt at f end_of-Stmt) h = absurd h
change_steps (more_of-Stmt at f (more_of-Stmt at' f' rest)) h = absurd h

pub change_kinds : {n : _} (row : Row_of-Stmt n) → OneOf IsChange row → kinds_in_row row ≡ []
change_kinds end_of-Stmt h = refl
change_kinds (more_of-Stmt at (Set place e) end_of-Stmt) h = refl
change_kinds (more_of-Stmt at (AddTo place e) end_of-Stmt) h = refl
change_kinds (more_of-Stmt at f end_of-Stmt) h = absurd h
change_kinds (more_of-Stmt at f (more_of-Stmt at' f' rest)) h = absurd h

-- ---- prints and steps

printed_length : (p : Program) (slots : Slots) (items : List Item) (text : ℕ) → length (printed_items p slots items text) ≡ length items
printed_length p slots [] text = refl
printed_length p slots (item.Text name ∷ rest) text = ap suc (printed_length p slots rest (text + 1))
printed_length p slots (item.Value e ∷ rest) text = ap suc (printed_length p slots rest text)

-- the texts of a line are texts of the module
have_texts : (p : Program) (m : Module) (slots : Slots) (items : List Item) (text : ℕ) → text + length (item_texts items) ≤ length m.texts
    → AllByRecursion (HasText m) (printed_items p slots items text)
have_texts p m slots [] text few = tt
have_texts p m slots (item.Text name ∷ rest) text few = (omega (arith, few), have_texts p m slots rest (text + 1) (omega (arith, few)))
have_texts p m slots (item.Value e ∷ rest) text few = (by (kind_in p slots e.node), have_texts p m slots rest text few)
  where
    by : (k : Ty) → HasText m (printed_kind k)
    by type.Int = tt
    by type.Bool = tt

blocks_long : {n : _} (blocks : Row_of-RoutineBlock n) → length (blocks_at blocks) ≡ length (blocks_in blocks)
blocks_long end_of-RoutineBlock = refl
blocks_long (more_of-RoutineBlock (RoutineBlock' at width width_name id_name shape body) rest) = ap suc (blocks_long rest)

is_true : (b : Bool) → not b ≡ false → b ≡ true
is_true true e = refl
is_true false e = cc

-- ---- statements

module _ (p : Program) (m : Module) (c : Code) (visible : ℕ) (main : Bool) (Ok : Instr → Type 0) (permits : Permits m c visible main Ok) (body : Body) where
  module _ (names : Names) (slots : Slots) (agrees : Agrees p m c visible names slots) where
    -- a name that is set
    store_fits : (name : Name) (o : Option Declaration) (k : Ty) → Means p m c visible slots name.text o → use_faults name o (as_scalar o) ≡ [] → IsKind (as_scalar o) k
        → StoreFits m c Ok p (slot_of slots name.text) (declared_area (area_of p.shared name.text)) k
    store_fits name None k h e kind = absurd cc
    store_fits name (Some declared.Word) k h e kind =
        let word = h.1 in
        subst (λ (a : Option Area). StoreFits m c Ok p (slot_of slots name.text) (declared_area a) k) (sym word.found)
        (subst (λ (s : Option Slot). StoreFits m c Ok p s word.area k) (sym h.0) (word.in_range, permits.puts word.area.first word.in_range, kind))
    store_fits name (Some declared.Tally) k h e kind =
        let word = h.1 in
        subst (λ (a : Option Area). StoreFits m c Ok p (slot_of slots name.text) (declared_area a) k) (sym word.found)
        (subst (λ (s : Option Slot). StoreFits m c Ok p s word.area k) (sym h.0) (word.in_range, permits.puts word.area.first word.in_range, kind))
    store_fits name (Some declared.Array) k h e kind = absurd cc
    store_fits name (Some (declared.Local t)) k h e kind =
        subst (λ (s : Option Slot). StoreFits m c Ok p s (declared_area (area_of p.shared name.text)) k) (sym h.found) (h.local ∙ ap Some (sym h.right), kind_of_ty t k kind ∙ sym h.right)
    store_fits name (Some (declared.Function d)) k h e kind = absurd cc

    -- a name that is added to
    add_fits : (name : Name) (o : Option Declaration) (k : Ty) → Means p m c visible slots name.text o → use_faults name o (as_scalar o) ≡ [] → same typed.Bool (as_scalar o) ≡ false
        → IsKind (as_scalar o) k
        → (k ≡ type.Int) × AddFits m c Ok p (slot_of slots name.text) (declared_area (area_of p.shared name.text))
    add_fits name None k h e int kind = absurd cc
    add_fits name (Some declared.Word) k h e int kind =
        let word = h.1 in (
          kind,
          subst (λ (a : Option Area). AddFits m c Ok p (slot_of slots name.text) (declared_area a)) (sym word.found)
              (subst (λ (s : Option Slot). AddFits m c Ok p s word.area) (sym h.0) (word.in_range, permits.add_words word.area.first word.in_range)),
        )
    add_fits name (Some declared.Tally) k h e int kind =
        let word = h.1 in (
          kind,
          subst (λ (a : Option Area). AddFits m c Ok p (slot_of slots name.text) (declared_area a)) (sym word.found)
              (subst (λ (s : Option Slot). AddFits m c Ok p s word.area) (sym h.0) (word.in_range, permits.add_words word.area.first word.in_range)),
        )
    add_fits name (Some declared.Array) k h e int kind = absurd cc
    add_fits name (Some (declared.Local type.Int)) k h e int kind =
        (kind, subst (λ (s : Option Slot). AddFits m c Ok p s (declared_area (area_of p.shared name.text))) (sym h.found) (h.local ∙ ap Some (sym h.right), h.right))
    add_fits name (Some (declared.Local type.Bool)) k h e int kind = absurd cc
    add_fits name (Some (declared.Function d)) k h e int kind = absurd cc

    -- an item of an array is an int
    item_kind : (name : Name) (o : Option Declaration) (k : Ty) → use_faults name o (as_array o) ≡ [] → IsKind (as_array o) k → k ≡ type.Int
    item_kind name None k e kind = absurd cc
    item_kind name (Some declared.Word) k e kind = absurd cc
    item_kind name (Some declared.Tally) k e kind = absurd cc
    item_kind name (Some declared.Array) k e kind = kind
    item_kind name (Some (declared.Local t)) k e kind = absurd cc
    item_kind name (Some (declared.Function d)) k e kind = absurd cc

    -- a place and a value of its type
    place_value : (place : Place) (e : Expr) (middle : List Fault) → place_faults body names place ++ middle ++ value_faults body names (place_type names place) e ≡ [] → ValueIs p e.node
        → (place_faults body names place ≡ []) × (middle ≡ []) × (ValueFits m c Ok p slots e.node × IsKind (place_type names place) (kind_in p slots e.node))
    place_value place e middle h is =
        let first_two = none_in_first (place_faults body names place ++ middle) (value_faults body names (place_type names place) e) h in (
          none_in_first (place_faults body names place) middle first_two,
          none_in_second (place_faults body names place) middle first_two,
          expr_fits p m c visible names slots agrees main Ok permits body (place_type names place) e (place_well_typed body names place middle first_two)
              (none_in_second (place_faults body names place ++ middle) (value_faults body names (place_type names place) e) h) is,
        )

    set_fits : (place : Place) (e : Expr) → place_faults body names place ++ place_tally body names place ++ value_faults body names (place_type names place) e ≡ [] → PlaceIs p place
        → ValueIs p e.node → SetFits m c Ok p slots place e
    set_fits (Place' name None') e h place_is is =
        let parts = place_value (Place' name None') e (place_tally body names (Place' name None')) h is in
        (parts.2.0, store_fits name (meant names name) (kind_in p slots e.node) (agrees name.text) parts.0 parts.2.1)
    set_fits (Place' name (Some' shape index)) e h place_is is =
        let parts = place_value (Place' name (Some' shape index)) e [] h is in
        let items = index_fits p m c visible names slots agrees main Ok permits body name index parts.0 place_is in
        (items.0, items.1, items.2, (parts.2.0, item_kind name (meant names name) (kind_in p slots e.node) (used index parts.0) parts.2.1))
      where
        used : {n : _} (row : Row_of-Expr n) → use_faults name (meant names name) (as_array (meant names name)) ++ boxed_faults body names row ++ wanted typed.Int (boxed names row) ≡ []
            → use_faults name (meant names name) (as_array (meant names name)) ≡ []
        used row h' = none_in_first (use_faults name (meant names name) (as_array (meant names name))) (boxed_faults body names row)
            (none_in_first (use_faults name (meant names name) (as_array (meant names name)) ++ boxed_faults body names row) (wanted typed.Int (boxed names row)) h')

    add_to_fits : (place : Place) (e : Expr) → place_faults body names place ++ no_bool names place ++ value_faults body names (place_type names place) e ≡ [] → PlaceIs p place → ValueIs p e.node
        → AddToFits m c Ok p slots place e
    add_to_fits (Place' name None') e h place_is is =
        let parts = place_value (Place' name None') e (no_bool names (Place' name None')) h is in
        let fits = add_fits name (meant names name) (kind_in p slots e.node) (agrees name.text) parts.0 (none_if (same typed.Bool (as_scalar (meant names name))) WrongType name.at parts.1)
        parts.2.1 in
        ((parts.2.0, fits.0), fits.1)
    add_to_fits (Place' name (Some' shape index)) e h place_is is = set_fits (Place' name (Some' shape index)) e h place_is is

    return_fits : (at : ℕ) (g : Result) (given : Option Expr) → return_faults body names at g given ≡ [] → ReturnIs p given → ReturnFits m c Ok p slots (gives_of g) given
    return_fits at result.Nothing None h is = tt
    return_fits at result.Nothing (Some e) h is = absurd (never (node_faults body names e.node) h)
      where
        never : (others : List Fault) → fault WrongReturn at ++ others ≡ [] → ⊥
        never others h' = cc
    return_fits at result.Int None h is = absurd cc
    return_fits at result.Int (Some e) h is = expr_fits p m c visible names slots agrees main Ok permits body typed.Int e refl h is
    return_fits at result.Bool None h is = absurd cc
    return_fits at result.Bool (Some e) h is = expr_fits p m c visible names slots agrees main Ok permits body typed.Bool e refl h is

    line_fits : (items : List Item) → item_faults body names items ≡ [] → ItemsAre p items → ItemsFit m c Ok p slots items
    line_fits [] h is = tt
    line_fits (item.Text text ∷ rest) h is = line_fits rest h is
    line_fits (item.Value e ∷ rest) h is =
        let both = none_in_first (node_faults body names e.node ++ some_value (part_of names e)) (item_faults body names rest) h in (
          value_fits p m c visible names slots agrees main Ok permits body e.node (none_in_first (node_faults body names e.node) (some_value (part_of names e)) both) is.0,
          line_fits rest (none_in_second (node_faults body names e.node ++ some_value (part_of names e)) (item_faults body names rest) h) is.1,
        )

    widths_fit : {n : _} (globals : Names) (blocks : Row_of-RoutineBlock n) → block_faults globals body names blocks ≡ [] → BlocksAre p blocks → WidthsFit m c Ok p slots (blocks_in blocks)
    widths_fit globals end_of-RoutineBlock h is = tt
    widths_fit globals (more_of-RoutineBlock (RoutineBlock' at width width_name id_name shape statements) rest) h is =
        let inside = declare (declare globals width_name (declared.Local type.Int)) id_name (declared.Local type.Int) in
        let own = value_faults body names typed.Int width in
        let one = taken globals width_name in
        let two = taken (declare globals width_name (declared.Local type.Int)) id_name in
        let three = row_faults globals (body_of Routine) inside statements in
        let four = too_many_locals (width_name ∷ id_name ∷ locals_in_row statements) in
        let all_but_rest = none_in_first (own ++ one ++ two ++ three ++ four) (block_faults globals body names rest) h in (
          expr_fits p m c visible names slots agrees main Ok permits body typed.Int width refl
              (none_in_first own one (none_in_first (own ++ one) two (none_in_first (own ++ one ++ two) three (none_in_first (own ++ one ++ two ++ three) four all_but_rest)))) is.0,
          widths_fit globals rest (none_in_second (own ++ one ++ two ++ three ++ four) (block_faults globals body names rest) h) is.2,
        )

  module _ (globals : Names) (gives : c.gives ≡ gives_of (result_of body)) (is_mains : main ≡ is_main body) where
    -- where a statement of the body stands
    abbrev here : Bool → Here
    here looped = record { body = body; looped = looped }

    test_fits : (names : Names) (slots : Slots) → Agrees p m c visible names slots → (e : Expr) → value_faults body names typed.Bool e ≡ [] → ValueIs p e.node → ExprFits m c Ok p slots e type.Bool
    test_fits names slots agrees e none is = expr_fits p m c visible names slots agrees main Ok permits body typed.Bool e refl none is

    print_fits : (names : Names) (slots : Slots) → Agrees p m c visible names slots → (at : At) (where' : ℕ) (items : List Item) → Room main m at (item_texts items) [] → ItemsAre p items
        → fault_if (not (is_main body)) OnlyInMain where' ++ item_faults body names items ++ listed.beyond most_items (map item_at items) ≡ []
        → ItemsFit m c Ok p slots items × (length items ≤ 64) × AllByRecursion (HasText m) (printed_items p slots items at.text) × Ok (i.Print (printed_items p slots items at.text))
    print_fits names slots agrees at where' items room is h =
        let only = fault_if (not (is_main body)) OnlyInMain where' in
        let first_two = none_in_first (only ++ item_faults body names items) (listed.beyond most_items (map item_at items)) h in
        let mains : main ≡ true = is_mains ∙ is_true (is_main body) (none_if (not (is_main body)) OnlyInMain where' (none_in_first only (item_faults body names items) first_two)) in
        let short = within most_items (map item_at items) (none_in_second (only ++ item_faults body names items) (listed.beyond most_items (map item_at items)) h) in
        let l = length-map items item_at in
        let few : length items ≤ 64 = omega (arith, short, l) in
        let texts = have_texts p m slots items at.text (room mains).0 in
        let k = printed_length p slots items at.text in
        let few_printed : length (printed_items p slots items at.text) ≤ 64 = omega (arith, few, k) in
        (line_fits names slots agrees items (none_in_second only (item_faults body names items) first_two) is, few, texts, permits.prints mains (printed_items p slots items at.text) few_printed texts)

    step_fits : {n : _} (names : Names) (slots : Slots) → Agrees p m c visible names slots → (at : At) (where' : ℕ) (blocks : Row_of-RoutineBlock n) → Room main m at [] (blocks_in blocks)
        → BlocksAre p blocks → 1 ≤ length (blocks_in blocks)
        → (if is_main body then (block_faults globals body names blocks ++ listed.beyond most_blocks (blocks_at blocks)) else fault OnlyInMain where') ≡ []
        → WidthsFit m c Ok p slots (blocks_in blocks) × (length (blocks_in blocks) ≤ 64) × Ok (i.Par at.block (length (blocks_in blocks)))
    step_fits names slots agrees at where' blocks room is some h = by (is_main body) refl h
      where
        by : (b : Bool) → is_main body ≡ b → (if b then (block_faults globals body names blocks ++ listed.beyond most_blocks (blocks_at blocks)) else fault OnlyInMain where') ≡ []
            → WidthsFit m c Ok p slots (blocks_in blocks) × (length (blocks_in blocks) ≤ 64) × Ok (i.Par at.block (length (blocks_in blocks)))
        by false e h' = absurd cc
        by true e h' =
            let mains : main ≡ true = is_mains ∙ e in
            let short = within most_blocks (blocks_at blocks) (none_in_second (block_faults globals body names blocks) (listed.beyond most_blocks (blocks_at blocks)) h') in
            let l = blocks_long blocks in
            let few : length (blocks_in blocks) ≤ 64 = omega (arith, short, l) in
            (widths_fit names slots agrees globals blocks (none_in_first (block_faults globals body names blocks) (listed.beyond most_blocks (blocks_at blocks)) h') is, few, permits.steps mains at.block (length (blocks_in blocks)) some few (room mains).1)

    mutual
      -- a statement
      pub form_fits : (looped : Bool) (names : Names) (slots : Slots) (at : At) (where' : ℕ) (f : Form) → Agrees p m c visible names slots → Stand c.locals at.slot (kinds_in f)
          → Room main m at (texts_in f) (steps_in f)
          → FormIs p f → FormSpelled f → faults globals (here looped) names where' f ≡ [] → FormFits m c Ok p slots at f
      form_fits looped names slots at where' (Declare t name e) agrees there room is spelled h =
          let value = expr_fits p m c visible names slots agrees main Ok permits body (of_ty t) e (good_ty t) (none_in_first (value_faults body names (of_ty t) e) (taken names name) h) is in
          ((value.0, kind_of_ty t (kind_in p slots e.node) value.1), there.0)
      form_fits looped names slots at where' (Set place e) agrees there room is spelled h = set_fits names slots agrees place e h is.0 is.1
      form_fits looped names slots at where' (AddTo place e) agrees there room is spelled h = add_to_fits names slots agrees place e h is.0 is.1
      form_fits looped names slots at where' (If' shape arms last) agrees there room is spelled h = (
        arms_fit looped names slots at arms agrees (stand_front c.locals at.slot (kinds_in_arms arms) (kinds_in_last last) there)
            (room_front main m at (texts_in_arms arms) (texts_in_last last) (steps_in_arms arms) (steps_in_last last) room) is.0 spelled.0
            (none_in_first (arm_faults globals (here looped) names arms) (last_faults globals (here looped) names last) h),
        last_fits looped names slots (beyond_arms p slots at arms) last agrees (stand_back c.locals at.slot (kinds_in_arms arms) (kinds_in_last last) there)
            (room_back main m at (beyond_arms p slots at arms) (texts_in_arms arms) (texts_in_last last) (steps_in_arms arms) (steps_in_last last) refl refl room) is.1 spelled.1
            (none_in_second (arm_faults globals (here looped) names arms) (last_faults globals (here looped) names last) h),
      )
      form_fits looped names slots at where' (While' test shape inner) agrees there room is spelled h = (
        test_fits names slots agrees test (none_in_first (value_faults body names typed.Bool test) (row_faults globals (here true) names inner) h) is.0,
        row_fits true names slots (past p at (size_of test + 1)) inner agrees there room is.1 spelled.1
            (none_in_second (value_faults body names typed.Bool test) (row_faults globals (here true) names inner) h),
      )
      form_fits looped names slots at where' (For' shape first test shape' next' shape'' inner) agrees there room is spelled h =
          let inside = after_row names first in
          let inside_slots = slots_after_row slots at.slot first in
          let head = beyond_row p slots at first in
          let begin = past p head (size_of test + 1) in
          let step = beyond_row p inside_slots begin inner in
          let one = row_faults globals (here looped) names first in
          let two = value_faults body inside typed.Bool test in
          let three = row_faults globals (here looped) inside next' in
          let four = row_faults globals (here true) inside inner in
          let first_three = none_in_first (one ++ two ++ three) four h in
          let first_two = none_in_first (one ++ two) three first_three in
          let first_one = none_in_first one two first_two in
          let first_there = stand_front c.locals at.slot (kinds_in_row first) (kinds_in_row inner) there in
          let inside_agrees = after_row_agrees p m c visible globals (here looped) names slots at.slot first agrees first_one first_there in
          let no_text = simple_texts first is.0 in
          let no_step = simple_steps first is.0 in
          let body_room = room_same main m at begin (texts_in_row inner) (texts_in_row first) (steps_in_row inner) (steps_in_row first) no_text no_step refl refl room in (
            row_fits looped names slots at first agrees first_there
                (room_empty main m at (texts_in_row inner) (texts_in_row first) (steps_in_row inner) (steps_in_row first) no_text no_step room) is.1 spelled.0 first_one,
            test_fits inside inside_slots inside_agrees test (none_in_second one two first_two) is.2,
            row_fits true inside inside_slots begin inner inside_agrees (stand_back c.locals at.slot (kinds_in_row first) (kinds_in_row inner) there) body_room is.5 spelled.3
                (none_in_second (one ++ two ++ three) four h),
            row_fits looped inside inside_slots step next' inside_agrees (subst (λ (ks : List Ty). Stand c.locals step.slot ks) (sym (change_kinds next' is.3)) tt)
                (room_end main m begin step (texts_in_row inner) (texts_in_row next') (steps_in_row inner) (steps_in_row next') (change_texts next' is.3) (change_steps next' is.3) refl refl body_room)
                is.4 spelled.2 (none_in_second (one ++ two) three first_three),
          )
      form_fits looped names slots at where' Break agrees there room is spelled h = tt
      form_fits looped names slots at where' Continue agrees there room is spelled h = tt
      form_fits looped names slots at where' (Return given) agrees there room is spelled h =
          subst (λ (g : Result). ReturnFits m c Ok p slots g given) (sym gives) (return_fits names slots agrees where' (result_of body) given h is)
      form_fits looped names slots at where' (form.CallOf (Call' name shape args)) agrees there room is spelled h = call_fits p m c visible names slots agrees main Ok permits body name args h is.1
      form_fits looped names slots at where' (Assert e) agrees there room is spelled h = test_fits names slots agrees e h is
      form_fits looped names slots at where' (Block' shape inner) agrees there room is spelled h = row_fits looped names slots at inner agrees there room is spelled h
      form_fits looped names slots at where' (Print items) agrees there room is spelled h = print_fits names slots agrees at where' items room is h
      form_fits looped names slots at where' (Par' shape blocks) agrees there room is spelled h = step_fits names slots agrees at where' blocks room is spelled.0 h

      -- the statements of a row
      pub row_fits : {n : _} (looped : Bool) (names : Names) (slots : Slots) (at : At) (row : Row_of-Stmt n) → Agrees p m c visible names slots → Stand c.locals at.slot (kinds_in_row row)
          → Room main m at (texts_in_row row) (steps_in_row row)
          → RowIs p row → RowSpelled row → row_faults globals (here looped) names row ≡ [] → RowFits m c Ok p slots at row
      row_fits looped names slots at end_of-Stmt agrees there room is spelled h = tt
      row_fits looped names slots at (more_of-Stmt where' f rest) agrees there room is spelled h =
          let own = none_in_first (faults globals (here looped) names where' f) (row_faults globals (here looped) (after names f) rest) h in
          let own_there = stand_front c.locals at.slot (kinds_in f) (kinds_in_row rest) there in (
            form_fits looped names slots at where' f agrees own_there (room_front main m at (texts_in f) (texts_in_row rest) (steps_in f) (steps_in_row rest) room) is.0 spelled.0 own,
            row_fits looped (after names f) (slots_after slots at.slot f) (beyond p slots at f) rest
                (after_agrees p m c visible globals (here looped) names slots where' at.slot f agrees own own_there)
                (stand_back c.locals at.slot (kinds_in f) (kinds_in_row rest) there)
                (room_back main m at (beyond p slots at f) (texts_in f) (texts_in_row rest) (steps_in f) (steps_in_row rest) refl refl room) is.1 spelled.1
                (none_in_second (faults globals (here looped) names where' f) (row_faults globals (here looped) (after names f) rest) h),
          )

      -- the arms of an `if`
      pub arms_fit : {n : _} (looped : Bool) (names : Names) (slots : Slots) (at : At) (arms : Row_of-Arm n) → Agrees p m c visible names slots → Stand c.locals at.slot (kinds_in_arms arms)
          → Room main m at (texts_in_arms arms) (steps_in_arms arms)
          → ArmsAre p arms → ArmsSpelled arms → arm_faults globals (here looped) names arms ≡ [] → ArmsFit m c Ok p slots at arms
      arms_fit looped names slots at end_of-Arm agrees there room is spelled h = tt
      arms_fit looped names slots at (more_of-Arm (Arm' test shape inner) rest) agrees there room is spelled h =
          let begin = past p at (size_of test + 1) in
          let behind = past p (beyond_row p slots begin inner) 1 in
          let one = value_faults body names typed.Bool test in
          let two = row_faults globals (here looped) names inner in
          let three = arm_faults globals (here looped) names rest in
          let first_two = none_in_first (one ++ two) three h in (
            test_fits names slots agrees test (none_in_first one two first_two) is.0,
            row_fits looped names slots begin inner agrees (stand_front c.locals at.slot (kinds_in_row inner) (kinds_in_arms rest) there)
                (room_front main m at (texts_in_row inner) (texts_in_arms rest) (steps_in_row inner) (steps_in_arms rest) room) is.1 spelled.1 (none_in_second one two first_two),
            arms_fit looped names slots behind rest agrees (stand_back c.locals at.slot (kinds_in_row inner) (kinds_in_arms rest) there)
                (room_back main m at behind (texts_in_row inner) (texts_in_arms rest) (steps_in_row inner) (steps_in_arms rest) refl refl room) is.2 spelled.2 (none_in_second (one ++ two) three h),
          )

      -- the last block of an `if`
      pub last_fits : (looped : Bool) (names : Names) (slots : Slots) (at : At) (last : Held-Form-If-1) → Agrees p m c visible names slots → Stand c.locals at.slot (kinds_in_last last)
          → Room main m at (texts_in_last last) (steps_in_last last)
          → LastIs p last → LastSpelled last → last_faults globals (here looped) names last ≡ [] → LastFits m c Ok p slots at last
      last_fits looped names slots at form.None' agrees there room is spelled h = tt
      last_fits looped names slots at (form.Some' shape inner) agrees there room is spelled h = row_fits looped names slots at inner agrees there room is spelled h
