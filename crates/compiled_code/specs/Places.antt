-- How the locals of a body become visible, and the number of instructions of its statements.
use Rattle.std.specs.Prelude.{ℕ, ◌+◌, length, Option, Some, None}
use Rattle.csl_tree.specs.declared.program.Program.{Program}
use Rattle.csl_tree.specs.declared.program.Place.{Place', None', Some'}
use Rattle.csl_tree.specs.declared.program.Call.{Call, Call'}
use Rattle.csl_tree.specs.declared.program.Arm.{Arm'}
use Rattle.csl_tree.specs.declared.program.Form.{Form, Declare, Set, AddTo, If', While', For', Break, Continue, Return, Assert, Block'}
use Rattle.csl_tree.specs.declared.program.Form.{Print, Par', Row_of-Arm, end_of-Arm, more_of-Arm, Row_of-Stmt, end_of-Stmt, more_of-Stmt}
use Rattle.csl_tree.specs.declared.program.Form.{Held-Form-If-1}
use Rattle.csl_tree.specs.declared.program.Form as form
use Rattle.csl_meaning.specs.Effect.{function_named, blocks_in}
use Rattle.compiled_code.specs.Slots.{Slot, Slots, slot_of, with_slot, kind_of}
use Rattle.compiled_code.specs.Sizes.{size_of, place_size, boxed_size, values_size, items_size, widths_size, returned_size, drop_size}
use Rattle.compiled_code.specs.Sizes.{given_by, kinds_in, kinds_in_row, kinds_in_arms}

-- the locals that are visible behind a statement, where its own begin at this slot
abbrev pub slots_after : Slots → ℕ → Form → Slots
slots_after slots slot (Declare ty name e) = with_slot slots name.text slot (kind_of ty)
slots_after slots slot _ = slots

-- behind the statements of a row
abbrev pub slots_after_row : {n : _} → Slots → ℕ → Row_of-Stmt n → Slots
slots_after_row slots slot end_of-Stmt = slots
slots_after_row slots slot (more_of-Stmt where' form rest) = slots_after_row (slots_after slots slot form) (slot + length (kinds_in form))
    rest

-- an adding to a local takes three instructions, and one to a shared word takes one
abbrev pub add_size : Option Slot → ℕ
add_size (Some s) = 3
add_size None = 1

module _ (p : Program) where
  -- a call as a statement
  abbrev pub statement_size : Call → ℕ
  statement_size (Call' name shape args) = values_size args + 1 + drop_size (given_by (function_named p.functions name.text))

  abbrev mutual
    -- the number of instructions of a statement in which these locals are visible, where its own begin at this slot
    pub form_size : Form → Slots → ℕ → ℕ
    form_size (Declare ty name e) slots slot = size_of e + 1
    form_size (Set place e) slots slot = place_size place + size_of e + 1
    form_size (AddTo (Place' name None') e) slots slot = size_of e + add_size (slot_of slots name.text)
    form_size (AddTo (Place' name (Some' shape index)) e) slots slot = boxed_size index + size_of e + 1
    form_size (If' shape arms last) slots slot = arms_size arms slots slot + last_size last slots (slot + length (kinds_in_arms arms))
    form_size (While' test shape body) slots slot = size_of test + 1 + row_size body slots slot + 1
    form_size (For' shape first test shape' next shape'' body) slots slot =
        row_size first slots slot + size_of test + 1
        + row_size body (slots_after_row slots slot first) (slot + length (kinds_in_row first))
        + row_size next (slots_after_row slots slot first) (slot + length (kinds_in_row first) + length (kinds_in_row body))
        + 1
    form_size Break slots slot = 1
    form_size Continue slots slot = 1
    form_size (Return given) slots slot = returned_size given + 1
    form_size (form.CallOf call) slots slot = statement_size call
    form_size (Assert e) slots slot = size_of e + 1
    form_size (Block' shape body) slots slot = row_size body slots slot
    form_size (Print items) slots slot = items_size items + 1
    form_size (Par' shape blocks) slots slot = widths_size (blocks_in blocks) + 1

    pub row_size : {n : _} → Row_of-Stmt n → Slots → ℕ → ℕ
    row_size end_of-Stmt slots slot = 0
    row_size (more_of-Stmt at form rest) slots slot = form_size form slots slot + row_size rest (slots_after slots slot form)
        (slot + length (kinds_in form))

    -- that of the arms of an `if`, each with a jump behind it
    pub arms_size : {n : _} → Row_of-Arm n → Slots → ℕ → ℕ
    arms_size end_of-Arm slots slot = 0
    arms_size (more_of-Arm (Arm' test shape body) rest) slots slot =
        size_of test + 1 + row_size body slots slot + 1 + arms_size rest slots (slot + length (kinds_in_row body))

    pub last_size : Held-Form-If-1 → Slots → ℕ → ℕ
    last_size form.None' slots slot = 0
    last_size (form.Some' shape body) slots slot = row_size body slots slot
