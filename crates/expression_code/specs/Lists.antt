-- The code of several expressions and of several statements, over lists.
use Rattle.std.specs.Prelude.{ℕ, ◌+◌, List, [], ◌∷◌, ◌++◌, length, Option, Some, None}
use Rattle.csl_tree.specs.declared.program.Program.{Program}
use Rattle.csl_tree.specs.declared.program.BinaryOp.{BinaryOp}
use Rattle.csl_tree.specs.declared.program.BinaryOp.TheVariants.{And, Or}
use Rattle.csl_tree.specs.declared.program.Expr.{Expr}
use Rattle.csl_tree.specs.declared.program.Place.{Place, Place', None', Some'}
use Rattle.csl_tree.specs.declared.program.Form.{Form}
use Rattle.csl_tree.specs.declared.program.Stmt.{Stmt}
use Rattle.csl_tree.specs.declared.program.Arm.{Arm, out-Arm}
use Rattle.csl_tree.specs.declared.program.RoutineBlock.{RoutineBlock, out-RoutineBlock}
use Rattle.csl_meaning.specs.Layout.{Text}
use Rattle.bytecode.specs.declared.instr.Instr.{Instr}
use Rattle.bytecode.specs.declared.instr.Instr.TheVariants as i
use Rattle.cal_terms.specs.declared.types.Ty.{Ty}
use Rattle.compiled_code.specs.Slots.{Slots, slot_of}
use Rattle.compiled_code.specs.Sizes.{size_of, boxed_size, kinds_in, texts_in, steps_in}
use Rattle.compiled_code.specs.Places.{slots_after, add_size, form_size}
use Rattle.compiled_code.specs.Values.{binary_instr, code_of}
use Rattle.compiled_code.specs.Statements.{At, Exits, past, beyond, form_code}
use Rattle.compiled_code.specs.Shape.{FormIs, ValueIs}

-- ---- expressions

-- the number of instructions of several expressions
abbrev pub sizes_of : List Expr → ℕ
sizes_of [] = 0
sizes_of (e ∷ rest) = size_of e + sizes_of rest

-- one expression behind the other
abbrev pub codes_of : Program → Slots → List Expr → ℕ → List Instr
codes_of p slots [] at = []
codes_of p slots (e ∷ rest) at = code_of p slots e at ++ codes_of p slots rest (at + size_of e)

-- an operator and its right operand, whose code of this size is `right`, behind the left operand that ends here
abbrev pub right_code : BinaryOp → (here size : ℕ) → (right : ℕ → List Instr) → List Instr
right_code And here size right = i.Branch (here + 1 + size + 1) ∷ right (here + 1) ++ i.Jump (here + 1 + size + 2) ∷ i.False ∷ []
right_code Or here size right = i.Branch (here + 3) ∷ i.True ∷ i.Jump (here + 3 + size) ∷ right (here + 3)
right_code op here size right = right here ++ binary_instr op ∷ []

-- ---- statements

-- the kinds of the locals that statements declare, in order
abbrev pub kinds_of : List Stmt → List Ty
kinds_of [] = []
kinds_of (s ∷ rest) = kinds_in s.form ++ kinds_of rest

abbrev pub kinds_of_arms : List Arm → List Ty
kinds_of_arms [] = []
kinds_of_arms (a ∷ rest) = kinds_of (out-Arm a).body ++ kinds_of_arms rest

-- the texts that statements print, in order
abbrev pub texts_of : List Stmt → List Text
texts_of [] = []
texts_of (s ∷ rest) = texts_in s.form ++ texts_of rest

abbrev pub texts_of_arms : List Arm → List Text
texts_of_arms [] = []
texts_of_arms (a ∷ rest) = texts_of (out-Arm a).body ++ texts_of_arms rest

-- the routine blocks of the steps that statements open, in order
abbrev pub steps_of : List Stmt → List RoutineBlock
steps_of [] = []
steps_of (s ∷ rest) = steps_in s.form ++ steps_of rest

abbrev pub steps_of_arms : List Arm → List RoutineBlock
steps_of_arms [] = []
steps_of_arms (a ∷ rest) = steps_of (out-Arm a).body ++ steps_of_arms rest

-- the locals that are visible behind statements
abbrev pub slots_after_all : Slots → ℕ → List Stmt → Slots
slots_after_all slots slot [] = slots
slots_after_all slots slot (s ∷ rest) = slots_after_all (slots_after slots slot s.form) (slot + length (kinds_in s.form)) rest

-- an adding to a place: three instructions for a local without an index, else one
abbrev pub adding_size : Slots → Place → Expr → ℕ
adding_size slots (Place' name None') e = size_of e + add_size (slot_of slots name.text)
adding_size slots (Place' name (Some' shape index)) e = boxed_size index + size_of e + 1

-- the kinds of the locals of the last block of an `if`
abbrev pub kinds_of_last : Option (List Stmt) → List Ty
kinds_of_last None = []
kinds_of_last (Some body) = kinds_of body

-- the texts of the last block of an `if`
abbrev pub texts_of_last : Option (List Stmt) → List Text
texts_of_last None = []
texts_of_last (Some body) = texts_of body

-- its steps
abbrev pub steps_of_last : Option (List Stmt) → List RoutineBlock
steps_of_last None = []
steps_of_last (Some body) = steps_of body

module _ (p : Program) where
  -- the number of instructions of several statements
  abbrev pub statements_size : List Stmt → Slots → ℕ → ℕ
  statements_size [] slots slot = 0
  statements_size (s ∷ rest) slots slot = form_size p s.form slots slot + statements_size rest (slots_after slots slot s.form)
      (slot + length (kinds_in s.form))

  -- an arm of an `if`
  abbrev pub one_arm_size : Arm → Slots → ℕ → ℕ
  one_arm_size a slots slot = size_of (out-Arm a).test + 1 + statements_size (out-Arm a).body slots slot + 1

  -- the arms of an `if`
  abbrev pub all_arms_size : List Arm → Slots → ℕ → ℕ
  all_arms_size [] slots slot = 0
  all_arms_size (a ∷ rest) slots slot =
      one_arm_size a slots slot + all_arms_size rest slots (slot + length (kinds_of (out-Arm a).body))

  abbrev pub last_block_size : Option (List Stmt) → Slots → ℕ → ℕ
  last_block_size None slots slot = 0
  last_block_size (Some body) slots slot = statements_size body slots slot

  -- a `for` with one statement before its test and one behind its block
  abbrev pub for_loop_size : (first : Form) (test : Expr) (next : Form) (body : List Stmt) → Slots → ℕ → ℕ
  for_loop_size first test next body slots slot =
      let inner = slots_after slots slot first in
      let begin = slot + length (kinds_in first) in
      form_size p first slots slot + size_of test + 1 + statements_size body inner begin + form_size p next inner
      (begin + length (kinds_of body)) + 1

  -- where code goes on behind several statements
  abbrev pub beyond_all : Slots → At → List Stmt → At
  beyond_all slots at body = record {
    place = at.place + statements_size body slots at.slot;
    slot = at.slot + length (kinds_of body);
    text = at.text + length (texts_of body);
    block = at.block + length (steps_of body);
  }

  -- and behind the arms of an `if`
  abbrev pub beyond_all_arms : Slots → At → List Arm → At
  beyond_all_arms slots at arms = record {
    place = at.place + all_arms_size arms slots at.slot;
    slot = at.slot + length (kinds_of_arms arms);
    text = at.text + length (texts_of_arms arms);
    block = at.block + length (steps_of_arms arms);
  }

  -- one statement behind the other
  abbrev pub statements_code : List Stmt → Slots → At → Exits → List Instr
  statements_code [] slots at exits = []
  statements_code (s ∷ rest) slots at exits = form_code p s.form slots at exits
      ++ statements_code rest (slots_after slots at.slot s.form) (beyond p slots at s.form) exits

  -- the arms of an `if` that ends at this place
  abbrev pub all_arms_code : List Arm → Slots → At → Exits → ℕ → List Instr
  all_arms_code [] slots at exits end = []
  all_arms_code (a ∷ rest) slots at exits end =
      let begin = past p at (size_of (out-Arm a).test + 1) in
      let behind = past p (beyond_all slots begin (out-Arm a).body) 1 in
      code_of p slots (out-Arm a).test at.place
      ++ i.Branch behind.place ∷ statements_code (out-Arm a).body slots begin exits
      ++ i.Jump end ∷ all_arms_code rest slots behind exits end

  abbrev pub last_block_code : Option (List Stmt) → Slots → At → Exits → List Instr
  last_block_code None slots at exits = []
  last_block_code (Some body) slots at exits = statements_code body slots at exits

  -- a `while`
  abbrev pub while_code : Expr → List Stmt → Slots → At → List Instr
  while_code test body slots at =
      let back = at.place + size_of test + 1 + statements_size body slots at.slot in
      code_of p slots test at.place
      ++ i.Branch (back + 1) ∷ statements_code body slots (past p at (size_of test + 1))
      (record { on_break = back + 1; on_continue = back })
      ++ i.Loop at.place ∷ []

  -- each statement has the shape that its code asks for
  abbrev pub StatementsAre : List Stmt → Type 0
  StatementsAre [] = Unit {0}
  StatementsAre (s ∷ rest) = FormIs p s.form × StatementsAre rest

  abbrev pub AllArmsAre : List Arm → Type 0
  AllArmsAre [] = Unit {0}
  AllArmsAre (a ∷ rest) = ValueIs p (out-Arm a).test.node × StatementsAre (out-Arm a).body × AllArmsAre rest

  abbrev pub LastBlockIs : Option (List Stmt) → Type 0
  LastBlockIs None = Unit {0}
  LastBlockIs (Some body) = StatementsAre body

  abbrev pub RoutinesAre : List RoutineBlock → Type 0
  RoutinesAre [] = Unit {0}
  RoutinesAre (b ∷ rest) = StatementsAre (out-RoutineBlock b).body × RoutinesAre rest
