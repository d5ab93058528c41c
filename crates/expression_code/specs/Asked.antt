-- The sizes for which the writer of code asks, in order: how much a branch or a jump leads past, before that is written.
use Rattle.std.specs.Prelude.{ℕ, ◌+◌, List, [], ◌∷◌, ◌++◌, length, Option, Some, None}
use Rattle.csl_tree.specs.declared.program.Program.{Program}
use Rattle.csl_tree.specs.declared.program.Stmt.{Stmt}
use Rattle.csl_tree.specs.declared.program.Arm.{Arm, Arm', out-Arm}
use Rattle.csl_tree.specs.declared.program.Form.{Form, If', While', For', Block', Row_of-Arm, end_of-Arm, more_of-Arm}
use Rattle.csl_tree.specs.declared.program.Form.{Row_of-Stmt, end_of-Stmt, more_of-Stmt, Held-Form-If-1}
use Rattle.csl_tree.specs.declared.program.Form as form
use Rattle.compiled_code.specs.Slots.{Slots}
use Rattle.compiled_code.specs.Sizes.{kinds_in, kinds_in_row, kinds_in_arms}
use Rattle.compiled_code.specs.Places.{slots_after, slots_after_row, form_size, row_size}
use Rattle.expression_code.specs.Lists.{kinds_of, kinds_of_arms, statements_size, all_arms_size, last_block_size}

module _ (p : Program) where
  abbrev mutual
    -- For a statement: an `if` asks for its own size, a `while` for its block's, a `for` for its last statement's and its block's.
    pub asked : Form → Slots → ℕ → List ℕ
    asked (If' shape arms last) slots slot =
        form_size p (If' shape arms last) slots slot
        ∷ asked_in_arms arms slots slot ++ asked_in_last last slots (slot + length (kinds_in_arms arms))
    asked (While' test shape body) slots slot = row_size p body slots slot ∷ asked_in_row body slots slot
    asked (For' shape first test shape' next shape'' body) slots slot =
        let inner = slots_after_row slots slot first in
        let begin = slot + length (kinds_in_row first) in
        let step = begin + length (kinds_in_row body) in
        asked_in_row first slots slot
        ++ (row_size p next inner step ∷ row_size p body inner begin ∷ asked_in_row body inner begin ++ asked_in_row next inner step)
    asked (Block' shape body) slots slot = asked_in_row body slots slot
    asked _ slots slot = []

    -- for the statements of a row
    pub asked_in_row : {n : _} → Row_of-Stmt n → Slots → ℕ → List ℕ
    asked_in_row end_of-Stmt slots slot = []
    asked_in_row (more_of-Stmt at form rest) slots slot =
        asked form slots slot ++ asked_in_row rest (slots_after slots slot form) (slot + length (kinds_in form))

    -- for the arms of an `if`, each of which asks for the size of its block
    pub asked_in_arms : {n : _} → Row_of-Arm n → Slots → ℕ → List ℕ
    asked_in_arms end_of-Arm slots slot = []
    asked_in_arms (more_of-Arm (Arm' test shape body) rest) slots slot =
        row_size p body slots slot ∷ asked_in_row body slots slot ++ asked_in_arms rest slots (slot + length (kinds_in_row body))

    -- for the last block of an `if`, if it has one
    pub asked_in_last : Held-Form-If-1 → Slots → ℕ → List ℕ
    asked_in_last form.None' slots slot = []
    asked_in_last (form.Some' shape body) slots slot = asked_in_row body slots slot

  -- for several statements
  abbrev pub asked_by : List Stmt → Slots → ℕ → List ℕ
  asked_by [] slots slot = []
  asked_by (s ∷ rest) slots slot =
      asked s.form slots slot ++ asked_by rest (slots_after slots slot s.form) (slot + length (kinds_in s.form))

  -- for a block that a branch leads past: its size, and those in it
  abbrev pub asked_inside : List Stmt → Slots → ℕ → List ℕ
  asked_inside body slots slot = statements_size p body slots slot ∷ asked_by body slots slot

  -- for several arms
  abbrev pub asked_by_arms : List Arm → Slots → ℕ → List ℕ
  asked_by_arms [] slots slot = []
  asked_by_arms (a ∷ rest) slots slot =
      asked_inside (out-Arm a).body slots slot ++ asked_by_arms rest slots (slot + length (kinds_of (out-Arm a).body))

  -- for a last block, if there is one
  abbrev pub asked_by_last : Option (List Stmt) → Slots → ℕ → List ℕ
  asked_by_last None slots slot = []
  asked_by_last (Some body) slots slot = asked_by body slots slot

  -- for an `if`
  abbrev pub asked_by_if : List Arm → Option (List Stmt) → Slots → ℕ → List ℕ
  asked_by_if arms last slots slot =
      let behind = slot + length (kinds_of_arms arms) in
      (all_arms_size p arms slots slot + last_block_size p last slots behind)
      ∷ asked_by_arms arms slots slot ++ asked_by_last last slots behind

  -- for a `for` with one statement before its test and one behind its block
  abbrev pub asked_by_for : (first next : Form) → List Stmt → Slots → ℕ → List ℕ
  asked_by_for first next body slots slot =
      let inner = slots_after slots slot first in
      let begin = slot + length (kinds_in first) in
      let step = begin + length (kinds_of body) in
      asked first slots slot ++ (form_size p next inner step ∷ asked_inside body inner begin ++ asked next inner step)
