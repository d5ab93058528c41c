-- The code of statements. A statement begins and ends without operands.
use Rattle.std.specs.Prelude.{ℕ, ◌+◌, List, [], ◌∷◌, ◌++◌, length, Option, Some, None, unwrap_or}
use Rattle.csl_tree.specs.declared.program.Program.{Program}
use Rattle.cal_terms.specs.declared.types.Gives.{Gives}
use Rattle.cal_terms.specs.declared.types.Gives.TheVariants as gives
use Rattle.csl_tree.specs.declared.program.Expr.{Expr}
use Rattle.csl_tree.specs.declared.program.Place.{Place, Place', None', Some'}
use Rattle.csl_tree.specs.declared.program.Call.{Call, Call'}
use Rattle.csl_tree.specs.declared.program.Item.{Item}
use Rattle.csl_tree.specs.declared.program.Item.TheVariants as item
use Rattle.csl_tree.specs.declared.program.Arm.{Arm'}
use Rattle.csl_tree.specs.declared.program.RoutineBlock.{RoutineBlock, RoutineBlock'}
use Rattle.csl_tree.specs.declared.program.Form.{Form, Declare, Set, AddTo, If', While', For', Break, Continue, Return, Assert, Block'}
use Rattle.csl_tree.specs.declared.program.Form.{Print, Par', Row_of-Arm, end_of-Arm, more_of-Arm, Row_of-Stmt, end_of-Stmt, more_of-Stmt}
use Rattle.csl_tree.specs.declared.program.Form.{Held-Form-If-1}
use Rattle.csl_tree.specs.declared.program.Form as form
use Rattle.csl_meaning.specs.declared.state.Area.{Area}
use Rattle.csl_meaning.specs.Layout.{area_of}
use Rattle.csl_meaning.specs.Value.{declared}
use Rattle.csl_meaning.specs.Effect.{function_named, blocks_in}
use Rattle.bytecode.specs.declared.instr.PrintItem.{PrintItem}
use Rattle.bytecode.specs.declared.instr.PrintItem.TheVariants as printed
use Rattle.bytecode.specs.declared.instr.Instr.{Instr}
use Rattle.bytecode.specs.declared.instr.Instr.TheVariants as i
use Rattle.cal_terms.specs.declared.types.Ty.{Ty}
use Rattle.cal_terms.specs.declared.types.Ty.TheVariants as ty
use Rattle.compiled_code.specs.Slots.{Slot, Slots, slot_of}
use Rattle.compiled_code.specs.Places.{slots_after, slots_after_row, form_size, row_size, arms_size}
use Rattle.compiled_code.specs.Sizes.{size_of, boxed_size, given_by, kinds_in, kinds_in_row, kinds_in_arms, texts_in, texts_in_row}
use Rattle.compiled_code.specs.Sizes.{texts_in_arms, steps_in, steps_in_row, steps_in_arms}
use Rattle.compiled_code.specs.Values.{code_of, boxed_code, call_code, kind_in}

-- where code goes on: the place of the next instruction, the next slot, and the numbers of the next text and of the next routine block
pub record At : Type 0 where
  pub place : ℕ
  pub slot : ℕ
  pub text : ℕ
  pub block : ℕ

-- where `break` and `continue` go
pub record Exits : Type 0 where
  pub on_break : ℕ
  pub on_continue : ℕ

-- ---- single statements

-- a value is stored under a name: it is a local, else a shared word
abbrev pub store_instr : Option Slot → Area → Instr
store_instr (Some s) area = i.Store s.number
store_instr None area = i.Put area.first

-- a value is added under a name
abbrev pub add_code : Option Slot → Area → List Instr
add_code (Some s) area = i.Load s.number ∷ i.Add ∷ i.Store s.number ∷ []
add_code None area = i.AddWord area.first ∷ []

-- a result that nobody takes is dropped
abbrev pub drop_code : Gives → List Instr
drop_code gives.Nothing = []
drop_code gives.Int = i.Pop ∷ []
drop_code gives.Bool = i.Pop ∷ []

-- how the value of a kind is printed
abbrev pub printed_kind : Ty → PrintItem
printed_kind ty.Int = printed.Int
printed_kind ty.Bool = printed.Truth

module _ (p : Program) (slots : Slots) where
  -- `x = e` and `a[i] = e`
  abbrev pub set_code : Place → Expr → ℕ → List Instr
  set_code (Place' name None') e at = code_of p slots e at ++ store_instr (slot_of slots name.text) (declared (area_of p.shared name.text))
      ∷ []
  set_code (Place' name (Some' shape index)) e at =
      boxed_code p slots index at ++ code_of p slots e (at + boxed_size index)
      ++ i.SetItem (declared (area_of p.shared name.text)).first (unwrap_or (declared (area_of p.shared name.text)).items 0) ∷ []

  -- `x += e` and `a[i] += e`
  abbrev pub add_to_code : Place → Expr → ℕ → List Instr
  add_to_code (Place' name None') e at = code_of p slots e at ++ add_code (slot_of slots name.text) (declared (area_of p.shared name.text))
  add_to_code (Place' name (Some' shape index)) e at =
      boxed_code p slots index at ++ code_of p slots e (at + boxed_size index)
      ++ i.AddItem (declared (area_of p.shared name.text)).first (unwrap_or (declared (area_of p.shared name.text)).items 0) ∷ []

  -- `return`, with a value or with nothing
  abbrev pub return_code : Option Expr → ℕ → List Instr
  return_code None at = i.Return ∷ []
  return_code (Some e) at = code_of p slots e at ++ i.Return ∷ []

  -- a call as a statement
  abbrev pub statement_code : Call → ℕ → List Instr
  statement_code (Call' name shape args) at = call_code p slots (Call' name shape args) at
      ++ drop_code (given_by (function_named p.functions name.text))

  -- the values of a print, one behind the other
  abbrev pub items_code : List Item → ℕ → List Instr
  items_code [] at = []
  items_code (item.Text text ∷ rest) at = items_code rest at
  items_code (item.Value e ∷ rest) at = code_of p slots e at ++ items_code rest (at + size_of e)

  -- the items of its line, whose texts are numbered from this one on
  abbrev pub printed_items : List Item → ℕ → List PrintItem
  printed_items [] text = []
  printed_items (item.Text name ∷ rest) text = printed.Text text ∷ printed_items rest (text + 1)
  printed_items (item.Value e ∷ rest) text = printed_kind (kind_in p slots e.node) ∷ printed_items rest text

  -- the widths of a step's blocks, one behind the other
  abbrev pub widths_code : List RoutineBlock → ℕ → List Instr
  widths_code [] at = []
  widths_code (RoutineBlock' where' width width_name id_name shape body ∷ rest) at = code_of p slots width at
      ++ widths_code rest (at + size_of width)

module _ (p : Program) where
  -- where code goes on behind this many instructions
  abbrev pub past : At → ℕ → At
  past at size = record at { place = at.place + size }

  -- where it goes on behind a statement in which these locals are visible
  abbrev pub beyond : Slots → At → Form → At
  beyond slots at form = record {
    place = at.place + form_size p form slots at.slot;
    slot = at.slot + length (kinds_in form);
    text = at.text + length (texts_in form);
    block = at.block + length (steps_in form);
  }

  -- behind the statements of a row
  abbrev pub beyond_row : {n : _} → Slots → At → Row_of-Stmt n → At
  beyond_row slots at row = record {
    place = at.place + row_size p row slots at.slot;
    slot = at.slot + length (kinds_in_row row);
    text = at.text + length (texts_in_row row);
    block = at.block + length (steps_in_row row);
  }

  -- behind the arms of an `if`
  abbrev pub beyond_arms : {n : _} → Slots → At → Row_of-Arm n → At
  beyond_arms slots at arms = record {
    place = at.place + arms_size p arms slots at.slot;
    slot = at.slot + length (kinds_in_arms arms);
    text = at.text + length (texts_in_arms arms);
    block = at.block + length (steps_in_arms arms);
  }

  abbrev mutual
    -- the code of a statement
    pub form_code : Form → Slots → At → Exits → List Instr
    form_code (Declare ty name e) slots at exits = code_of p slots e at.place ++ i.Store at.slot ∷ []
    form_code (Set place e) slots at exits = set_code p slots place e at.place
    form_code (AddTo place e) slots at exits = add_to_code p slots place e at.place
    form_code (If' shape arms last) slots at exits =
        arms_code arms slots at exits (at.place + form_size p (If' shape arms last) slots at.slot)
        ++ last_code last slots (beyond_arms slots at arms) exits
    form_code (While' test shape body) slots at exits =
        let back = at.place + size_of test + 1 + row_size p body slots at.slot in
        code_of p slots test at.place
        ++ i.Branch (back + 1) ∷ row_code body slots (past at (size_of test + 1)) (record { on_break = back + 1; on_continue = back })
        ++ i.Loop at.place ∷ []
    form_code (For' shape first test shape' next shape'' body) slots at exits =
        let inner = slots_after_row slots at.slot first in
        let head = beyond_row slots at first in
        let begin = past head (size_of test + 1) in
        let step = beyond_row inner begin body in
        let back = step.place + row_size p next inner step.slot in
        row_code first slots at exits
        ++ code_of p inner test head.place
        ++ i.Branch (back + 1) ∷ row_code body inner begin (record { on_break = back + 1; on_continue = step.place })
        ++ row_code next inner step exits
        ++ i.Loop head.place ∷ []
    form_code Break slots at exits = i.Jump exits.on_break ∷ []
    form_code Continue slots at exits = i.Jump exits.on_continue ∷ []
    form_code (Return given) slots at exits = return_code p slots given at.place
    form_code (form.CallOf call) slots at exits = statement_code p slots call at.place
    form_code (Assert e) slots at exits = code_of p slots e at.place ++ i.Assert ∷ []
    form_code (Block' shape body) slots at exits = row_code body slots at exits
    form_code (Print items) slots at exits = items_code p slots items at.place ++ i.Print (printed_items p slots items at.text) ∷ []
    form_code (Par' shape blocks) slots at exits = widths_code p slots (blocks_in blocks) at.place
        ++ i.Par at.block (length (blocks_in blocks)) ∷ []

    -- the statements of a row, one behind the other
    pub row_code : {n : _} → Row_of-Stmt n → Slots → At → Exits → List Instr
    row_code end_of-Stmt slots at exits = []
    row_code (more_of-Stmt where' form rest) slots at exits =
        form_code form slots at exits ++ row_code rest (slots_after slots at.slot form) (beyond slots at form) exits

    -- the arms of an `if` that ends at this place: each test leads on to the next arm, each block to the end
    pub arms_code : {n : _} → Row_of-Arm n → Slots → At → Exits → ℕ → List Instr
    arms_code end_of-Arm slots at exits end = []
    arms_code (more_of-Arm (Arm' test shape body) rest) slots at exits end =
        let begin = past at (size_of test + 1) in
        let behind = past (beyond_row slots begin body) 1 in
        code_of p slots test at.place
        ++ i.Branch behind.place ∷ row_code body slots begin exits
        ++ i.Jump end ∷ arms_code rest slots behind exits end

    -- the last block of an `if`, if it has one
    pub last_code : Held-Form-If-1 → Slots → At → Exits → List Instr
    last_code form.None' slots at exits = []
    last_code (form.Some' shape body) slots at exits = row_code body slots at exits
