-- The events of main.
use Rattle.std.specs.Prelude.{◌≡◌, ℕ, ◌+◌, ◌<◌, ◌≤◌, ℤ, pos, negsuc, List, map, sum, Option, Some, None, slice_index_or, [], ◌∷◌}
use Rattle.cal_base.specs.declared.value.Val.{Val}
use Rattle.cal_base.specs.declared.value.Val.TheVariants as val
use Rattle.cal_base.specs.Printing.{shown}
use Rattle.cal_base.specs.Widths.{step_widths}
use Rattle.bytecode.specs.declared.instr.PrintItem.{PrintItem}
use Rattle.bytecode.specs.declared.instr.PrintItem.TheVariants as item
use Rattle.bytecode.specs.declared.module.Module.{Module}
use Rattle.machine_meaning.specs.Machine.{many_numbers}
use Rattle.routine_vm.specs.declared.event.Item.{Item}
use Rattle.routine_vm.specs.declared.event.Item.TheVariants.{Text, Int, Truth}
use Rattle.cal_terms.specs.declared.limits.TheConstants.{MOST_ROUTINES}

-- the text of an item of a line; a text that the module has not counts as none
abbrev pub piece_of : Module → Item → List ℕ
piece_of m (Text index) = slice_index_or m.texts index []
piece_of m (Int z) = shown (val.Int z)
piece_of m (Truth b) = shown (val.Truth b)

-- the item is one that the instruction names: its text, or a value of its kind
abbrev pub IsItemOf : PrintItem → Item → Type 0
IsItemOf (item.Text index) (Text text) = text ≡ index
IsItemOf item.Int (Int z) = Unit {0}
IsItemOf item.Truth (Truth b) = Unit {0}
IsItemOf _ _ = ⊥

-- the items are those that the instruction names, in order
abbrev pub AreItemsOf : List PrintItem → List Item → Type 0
AreItemsOf [] [] = Unit {0}
AreItemsOf (x ∷ line) (y ∷ items) = IsItemOf x y × AreItemsOf line items
AreItemsOf _ _ = ⊥

-- the number is this width, and with so many routines besides there are not too many, or it is none
abbrev pub WidthBeside : ℕ → ℤ → Option ℕ → Type 0
WidthBeside total (pos n) None = MOST_ROUTINES < total + n
WidthBeside total (negsuc n) None = Unit {0}
WidthBeside total z (Some width) = (z ≡ pos width) × (total + width ≤ MOST_ROUTINES)

-- the numbers on top are the widths of a step with so many routines, or they are none
abbrev pub TakesWidths : ℕ → List Val → Option ℕ → List Val → List ℕ → Type 0
TakesWidths count before None later widths = (x : List ℤ × List Val) × (many_numbers count before ≡ Some x) × (step_widths x.0 ≡ None)
TakesWidths count before (Some total) later widths = (many_numbers count before ≡ Some (map pos widths, later))
    × (step_widths (map pos widths) ≡ Some widths) × (total ≡ sum widths)
