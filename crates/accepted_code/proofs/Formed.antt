-- A statement without faults, whose `for` loops have the heads that the grammar asks for, has the shape that the code asks for.
use Rattle.std.proofs.Common.{◌≡◌, ℕ, Bool, true, false, if◌then◌else◌, List, [], ◌∷◌, ◌++◌, map, Option, Some, None, refl}
use Rattle.std.specs.Prelude.{not}
use Rattle.csl_tree.specs.declared.program.Program.{Program}
use Rattle.cal_terms.specs.declared.types.Ty.TheVariants as ty
use Rattle.cal_terms.specs.declared.types.Gives.{Gives}
use Rattle.cal_terms.specs.declared.types.Gives.TheVariants as gives
use Rattle.csl_tree.specs.declared.program.Expr.{Expr}
use Rattle.csl_tree.specs.declared.program.Place.{Place}
use Rattle.csl_tree.specs.declared.program.Item.{Item}
use Rattle.csl_tree.specs.declared.program.Item.TheVariants as item
use Rattle.csl_tree.specs.declared.program.Arm.{Arm'}
use Rattle.csl_tree.specs.declared.program.RoutineBlock.{RoutineBlock'}
use Rattle.csl_tree.specs.declared.program.Form.{Form, Declare, Set, AddTo, If', While', For', Break, Continue, Return, Assert, Block', Print, Par', Row_of-Arm, end_of-Arm, more_of-Arm, Row_of-Stmt}
use Rattle.csl_tree.specs.declared.program.Form.{end_of-Stmt, more_of-Stmt, Held-Form-If-1, Row_of-RoutineBlock, end_of-RoutineBlock, more_of-RoutineBlock}
use Rattle.csl_tree.specs.declared.program.Form as form
use Rattle.type_check.specs.declared.fault.CheckKind.TheVariants.{WrongType, WrongReturn, OnlyInMain}
use Rattle.type_check.specs.declared.body.Body.{Body}
use Rattle.type_check.specs.declared.body.Body.TheVariants as body
use Rattle.type_check.specs.declared.body.Here.{Here}
use Rattle.type_check.specs.declared.names.Declaration.TheVariants as declared
use Rattle.type_check.specs.declared.names.Typed.{Typed}
use Rattle.type_check.specs.declared.names.Typed.TheVariants as typed
use Rattle.type_check.specs.Listed.{fault, fault_if, beyond}
use Rattle.type_check.specs.Names.{Names, taken, declare, of_ty, given, is_bad, same, wanted, some_value}
use Rattle.type_check.specs.Expressions.{place_type, place_tally, part_of, node_faults, place_faults, value_faults}
use Rattle.type_check.specs.Bodies.{locals_in_row, after, after_row}
use Rattle.type_check.specs.Statements.{in_loop, body_of, is_main, result_of, no_bool, return_faults, item_faults, item_at, blocks_at, too_many_locals, most_items, most_blocks, faults, row_faults}
use Rattle.type_check.specs.Statements.{arm_faults, last_faults, block_faults}
use Rattle.type_check.proofs.CleanLemmas.{none_in_first, none_in_second, none_if, wanted_same, well_typed, place_well_typed}
use Rattle.compiled_code.specs.Shape.{OneOf, IsSimple, IsChange, ValueIs, PlaceIs, ItemsAre, ReturnIs, FormIs, RowIs, ArmsAre, LastIs, BlocksAre}
use Rattle.accepted_code.proofs.Known.{Knows, local_known}
use Rattle.accepted_code.proofs.Typed.{IsSome, some_of, some_ty, good_ty, place_some, value_is, place_is, call_is}
use Rattle.accepted_code.proofs.Heads.{HeadsAre, RowHeads, ArmHeads, LastHeads, BlockHeads}

change_simple : (f : Form) → IsChange f → IsSimple f
change_simple (Set place e) h = tt
change_simple (AddTo place e) h = tt
change_simple _ h = absurd h

simple_heads : (f : Form) → IsSimple f → HeadsAre f
simple_heads (Declare t name e) h = tt
simple_heads (Set place e) h = tt
simple_heads (AddTo place e) h = tt
simple_heads _ h = absurd h

one_simple : {n : _} (row : Row_of-Stmt n) → OneOf IsSimple row → RowHeads row
one_simple end_of-Stmt h = tt
one_simple (more_of-Stmt at f end_of-Stmt) h = (simple_heads f h, tt)
one_simple (more_of-Stmt at f (more_of-Stmt at' f' rest)) h = absurd h

one_change : {n : _} (row : Row_of-Stmt n) → OneOf IsChange row → RowHeads row
one_change end_of-Stmt h = tt
one_change (more_of-Stmt at f end_of-Stmt) h = (simple_heads f (change_simple f h), tt)
one_change (more_of-Stmt at f (more_of-Stmt at' f' rest)) h = absurd h

module _ (p : Program) where
  after_known : (names : Names) (f : Form) → Knows p.functions names → Knows p.functions (after names f)
  after_known names (Declare t name e) knows = local_known p.functions names name t knows
  after_known names _ knows = knows

  after_row_known : {n : _} (names : Names) (row : Row_of-Stmt n) → Knows p.functions names → Knows p.functions (after_row names row)
  after_row_known names end_of-Stmt knows = knows
  after_row_known names (more_of-Stmt at f rest) knows = after_row_known (after names f) rest (after_known names f knows)

  -- an expression of the wanted type
  wanted_value : (b : Body) (names : Names) → Knows p.functions names → (want : Typed) (e : Expr) → is_bad want ≡ false → IsSome want → value_faults b names want e ≡ [] → ValueIs p e.node
  wanted_value b names knows want e good some h =
      let clean = none_in_first (node_faults b names e.node) (wanted want (part_of names e)) h in
      let fits = wanted_same want (part_of names e) good (well_typed b names e.node clean) (none_in_second (node_faults b names e.node) (wanted want (part_of names e)) h) in
      value_is p b names knows e.node clean (some_of want (part_of names e).typed some fits)

  return_is : (b : Body) (names : Names) (at : ℕ) (g : Gives) (e : Option Expr) → Knows p.functions names → return_faults b names at g e ≡ [] → ReturnIs p e
  return_is b names at g None knows h = tt
  return_is b names at gives.Nothing (Some e) knows h = absurd (never (node_faults b names e.node) h)
    where
      never : (others : _) → fault WrongReturn at ++ others ≡ [] → ⊥
      never others h' = cc
  return_is b names at gives.Int (Some e) knows h = wanted_value b names knows typed.Int e refl refl h
  return_is b names at gives.Bool (Some e) knows h = wanted_value b names knows typed.Bool e refl refl h

  items_are : (b : Body) (names : Names) (items : List Item) → Knows p.functions names → item_faults b names items ≡ [] → ItemsAre p items
  items_are b names [] knows h = tt
  items_are b names (item.Text text ∷ rest) knows h = items_are b names rest knows h
  items_are b names (item.Value e ∷ rest) knows h =
      let both = none_in_first (node_faults b names e.node ++ some_value (part_of names e)) (item_faults b names rest) h in (
        value_is p b names knows e.node (none_in_first (node_faults b names e.node) (some_value (part_of names e)) both)
            (none_if (same typed.Nothing (part_of names e).typed) WrongType e.at (none_in_second (node_faults b names e.node) (some_value (part_of names e)) both)),
        items_are b names rest knows (none_in_second (node_faults b names e.node ++ some_value (part_of names e)) (item_faults b names rest) h),
      )

  set_is : (b : Body) (names : Names) (place : Place) (e : Expr) (middle : List _) → Knows p.functions names
      → place_faults b names place ++ middle ++ value_faults b names (place_type names place) e ≡ [] → PlaceIs p place × ValueIs p e.node
  set_is b names place e middle knows h =
      let first_two = none_in_first (place_faults b names place ++ middle) (value_faults b names (place_type names place) e) h in (
        place_is p b names knows place (none_in_first (place_faults b names place) middle first_two),
        wanted_value b names knows (place_type names place) e (place_well_typed b names place middle first_two) (place_some names place)
            (none_in_second (place_faults b names place ++ middle) (value_faults b names (place_type names place) e) h),
      )

  module _ (globals : Names) (known : Knows p.functions globals) where
    mutual
      -- a statement
      pub form_is : (here : Here) (names : Names) (at : ℕ) (f : Form) → Knows p.functions names → faults globals here names at f ≡ [] → HeadsAre f → FormIs p f
      form_is here names at (Declare t name e) knows h heads = wanted_value here.body names knows (of_ty t) e (good_ty t) (some_ty t)
          (none_in_first (value_faults here.body names (of_ty t) e) (taken names name) h)
      form_is here names at (Set place e) knows h heads = set_is here.body names place e (place_tally here.body names place) knows h
      form_is here names at (AddTo place e) knows h heads = set_is here.body names place e (no_bool names place) knows h
      form_is here names at (If' shape arms last) knows h heads = (
        arms_are here names arms knows (none_in_first (arm_faults globals here names arms) (last_faults globals here names last) h) heads.0,
        last_is here names last knows (none_in_second (arm_faults globals here names arms) (last_faults globals here names last) h) heads.1,
      )
      form_is here names at (While' test shape body) knows h heads = (
        wanted_value here.body names knows typed.Bool test refl refl (none_in_first (value_faults here.body names typed.Bool test) (row_faults globals (in_loop here) names body) h),
        row_is (in_loop here) names body knows (none_in_second (value_faults here.body names typed.Bool test) (row_faults globals (in_loop here) names body) h) heads,
      )
      form_is here names at (For' shape first test shape' next' shape'' body) knows h heads =
          let inside = after_row names first in
          let inside_knows = after_row_known names first knows in
          let three = none_in_first (row_faults globals here names first ++ value_faults here.body inside typed.Bool test ++ row_faults globals here inside next')
          (row_faults globals (in_loop here) inside body) h in
          let two = none_in_first (row_faults globals here names first ++ value_faults here.body inside typed.Bool test) (row_faults globals here inside next') three in (
            heads.0,
            row_is here names first knows (none_in_first (row_faults globals here names first) (value_faults here.body inside typed.Bool test) two) (one_simple first heads.0),
            wanted_value here.body inside inside_knows typed.Bool test refl refl (none_in_second (row_faults globals here names first) (value_faults here.body inside typed.Bool test) two),
            heads.1,
            row_is here inside next' inside_knows (none_in_second (row_faults globals here names first ++ value_faults here.body inside typed.Bool test) (row_faults globals here inside next') three)
                (one_change next' heads.1),
            row_is (in_loop here) inside body inside_knows (none_in_second (row_faults globals here names first ++ value_faults here.body inside typed.Bool test
                ++ row_faults globals here inside next') (row_faults globals (in_loop here) inside body) h) heads.2,
          )
      form_is here names at Break knows h heads = tt
      form_is here names at Continue knows h heads = tt
      form_is here names at (Return given) knows h heads = return_is here.body names at (result_of here.body) given knows h
      form_is here names at (form.CallOf call) knows h heads = call_is p here.body names knows call h
      form_is here names at (Assert e) knows h heads = wanted_value here.body names knows typed.Bool e refl refl h
      form_is here names at (Block' shape body) knows h heads = row_is here names body knows h heads
      form_is here names at (Print items) knows h heads =
          items_are here.body names items knows
          (none_in_second (fault_if (not (is_main here.body)) OnlyInMain at) (item_faults here.body names items)
          (none_in_first (fault_if (not (is_main here.body)) OnlyInMain at ++ item_faults here.body names items) (beyond most_items (map item_at items)) h))
      form_is here names at (Par' shape blocks) knows h heads = blocks_are here.body names blocks knows (only_main (is_main here.body) h) heads
        where
          only_main : (b : Bool) → (if b then (block_faults globals here.body names blocks ++ beyond most_blocks (blocks_at blocks)) else fault OnlyInMain at) ≡ []
              → block_faults globals here.body names blocks ≡ []
          only_main true h' = none_in_first (block_faults globals here.body names blocks) (beyond most_blocks (blocks_at blocks)) h'
          only_main false h' = cc

      pub row_is : {n : _} (here : Here) (names : Names) (row : Row_of-Stmt n) → Knows p.functions names → row_faults globals here names row ≡ [] → RowHeads row → RowIs p row
      row_is here names end_of-Stmt knows h heads = tt
      row_is here names (more_of-Stmt at f rest) knows h heads = (
        form_is here names at f knows (none_in_first (faults globals here names at f) (row_faults globals here (after names f) rest) h) heads.0,
        row_is here (after names f) rest (after_known names f knows) (none_in_second (faults globals here names at f) (row_faults globals here (after names f) rest) h) heads.1,
      )

      pub arms_are : {n : _} (here : Here) (names : Names) (arms : Row_of-Arm n) → Knows p.functions names → arm_faults globals here names arms ≡ [] → ArmHeads arms → ArmsAre p arms
      arms_are here names end_of-Arm knows h heads = tt
      arms_are here names (more_of-Arm (Arm' test shape body) rest) knows h heads =
          let two = none_in_first (value_faults here.body names typed.Bool test ++ row_faults globals here names body) (arm_faults globals here names rest) h in (
            wanted_value here.body names knows typed.Bool test refl refl (none_in_first (value_faults here.body names typed.Bool test) (row_faults globals here names body) two),
            row_is here names body knows (none_in_second (value_faults here.body names typed.Bool test) (row_faults globals here names body) two) heads.0,
            arms_are here names rest knows (none_in_second (value_faults here.body names typed.Bool test ++ row_faults globals here names body) (arm_faults globals here names rest) h) heads.1,
          )

      pub last_is : (here : Here) (names : Names) (last : Held-Form-If-1) → Knows p.functions names → last_faults globals here names last ≡ [] → LastHeads last → LastIs p last
      last_is here names form.None' knows h heads = tt
      last_is here names (form.Some' shape body) knows h heads = row_is here names body knows h heads

      pub blocks_are : {n : _} (b : Body) (names : Names) (blocks : Row_of-RoutineBlock n) → Knows p.functions names → block_faults globals b names blocks ≡ [] → BlockHeads blocks → BlocksAre p blocks
      blocks_are b names end_of-RoutineBlock knows h heads = tt
      blocks_are b names (more_of-RoutineBlock (RoutineBlock' at width width_name id_name shape statements) rest) knows h heads =
          let inside = declare (declare globals width_name (declared.Local ty.Int)) id_name (declared.Local ty.Int) in
          let inside_knows = local_known p.functions (declare globals width_name (declared.Local ty.Int)) id_name ty.Int (local_known p.functions globals width_name ty.Int known) in
          let head = value_faults b names typed.Int width ++ taken globals width_name ++ taken (declare globals width_name (declared.Local ty.Int)) id_name in
          let all_but_rest = none_in_first (head ++ row_faults globals (body_of body.Routine) inside statements ++ too_many_locals (width_name ∷ id_name ∷ locals_in_row statements))
          (block_faults globals b names rest) h in
          let to_body = none_in_first (head ++ row_faults globals (body_of body.Routine) inside statements) (too_many_locals (width_name ∷ id_name ∷ locals_in_row statements)) all_but_rest in
          let to_head = none_in_first head (row_faults globals (body_of body.Routine) inside statements) to_body in (
            wanted_value b names knows typed.Int width refl refl
                (none_in_first (value_faults b names typed.Int width) (taken globals width_name)
                (none_in_first (value_faults b names typed.Int width ++ taken globals width_name) (taken (declare globals width_name (declared.Local ty.Int)) id_name) to_head)),
            row_is (body_of body.Routine) inside statements inside_knows (none_in_second head (row_faults globals (body_of body.Routine) inside statements) to_body) heads.0,
            blocks_are b names rest knows (none_in_second (head ++ row_faults globals (body_of body.Routine) inside statements ++ too_many_locals (width_name ∷ id_name ∷ locals_in_row statements))
                (block_faults globals b names rest) h) heads.1,
          )
