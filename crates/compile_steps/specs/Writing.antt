-- Code as it is written, instruction by instruction.
use Rattle.std.specs.Prelude.{◌≡◌, ℕ, ◌+◌, List, [], ◌∷◌, ◌++◌, length, drop, Option, None, Some}
use Rattle.std.specs.Io.{StartsWith}
use Rattle.std.specs.List.{AllByRecursion}
use Rattle.csl_tree.specs.declared.program.Program.{Program}
use Rattle.cal_terms.specs.declared.types.Ty.{Ty as Type'}
use Rattle.csl_tree.specs.declared.program.Expr.{Expr}
use Rattle.csl_tree.specs.declared.program.Item.{Item}
use Rattle.csl_tree.specs.declared.program.Stmt.{Stmt}
use Rattle.csl_tree.specs.declared.program.Arm.{Arm}
use Rattle.csl_tree.specs.declared.program.RoutineBlock.{RoutineBlock, out-RoutineBlock}
use Rattle.csl_tree.specs.declared.program.Form.{Form}
use Rattle.csl_meaning.specs.Layout.{Text}
use Rattle.bytecode.specs.declared.instr.Instr.{Instr}
use Rattle.bytecode.specs.declared.instr.Instr.TheVariants as i
use Rattle.compiled_code.specs.Slots.{Slots, with_slot, kind_of}
use Rattle.compiled_code.specs.Sizes.{size_of, kinds_in, texts_in, steps_in, item_texts}
use Rattle.compiled_code.specs.Places.{slots_after}
use Rattle.compiled_code.specs.Values.{code_of}
use Rattle.compiled_code.specs.Statements.{At, Exits, past, beyond, form_code, items_code, printed_items, widths_code}
use Rattle.compiled_code.specs.Modules.{beginning, routine_slots}
use Rattle.expression_code.specs.declared.writer.Writer.{Writer}
use Rattle.compile_steps.specs.declared.statements.Around.{Around}
use Rattle.expression_code.specs.Counts.{IsSmall}
use Rattle.expression_code.specs.Asked.{asked, asked_by, asked_inside, asked_by_arms, asked_by_last}
use Rattle.expression_code.specs.Lists.{beyond_all, beyond_all_arms, slots_after_all, kinds_of, kinds_of_arms}
use Rattle.expression_code.specs.Lists.{kinds_of_last, texts_of, texts_of_arms, texts_of_last, steps_of, steps_of_arms, steps_of_last}
use Rattle.expression_code.specs.Lists.{statements_code, all_arms_code, last_block_code, while_code}

-- where the next statement's code begins, and its locals, texts and blocks
abbrev pub here : Writer → At
here w = record { place = length w.instrs; slot = w.scope.next; text = w.text; block = w.block }

-- numbers of 32 bits say where code goes on, and how many instructions and locals there are in all
pub record Fits (at : At) : Type 0 where
  pub room : IsSmall (at.place + at.slot)
  pub text : IsSmall at.text
  pub block : IsSmall at.block

-- this code was written; these locals are visible; so many locals were declared, texts printed, blocks opened and sizes taken
pub record Wrote (code : List Instr) (visible : Slots) (declared printed opened taken : ℕ) (old new : Writer) : Type 0 where
  pub instrs : new.instrs ≡ old.instrs ++ code
  pub slots : new.scope.slots ≡ visible
  pub locals : new.scope.next ≡ old.scope.next + declared
  pub texts : new.text ≡ old.text + printed
  pub blocks : new.block ≡ old.block + opened
  pub sizes : new.sizes ≡ old.sizes
  pub asked : new.asked ≡ old.asked + taken

-- code without locals, texts and blocks
abbrev pub WroteCode : List Instr → Writer → Writer → Type 0
WroteCode code old new = Wrote code old.scope.slots 0 0 0 0 old new

-- the next of the measured sizes are these
abbrev pub Measured : List ℕ → Writer → Type 0
Measured sizes w = StartsWith (drop w.asked w.sizes) sizes

-- room for a test, its branch, so many instructions in a block and behind it, and a jump
abbrev pub TestFits : Expr → (inside more : ℕ) → Writer → Type 0
TestFits test inside more w = IsSmall (length w.instrs + size_of test + inside + more + 2)

module _ (p : Program) where
  -- there is room for a statement
  abbrev pub FormFits : Form → Writer → Type 0
  FormFits f w = Fits (beyond p w.scope.slots (here w) f)

  -- for statements
  abbrev pub AllFit : List Stmt → Writer → Type 0
  AllFit body w = Fits (beyond_all p w.scope.slots (here w) body)

  -- for the arms of an `if`
  abbrev pub ArmsFit : List Arm → Writer → Type 0
  ArmsFit arms w = Fits (beyond_all_arms p w.scope.slots (here w) arms)

  -- for the last block of an `if`, if there is one
  abbrev pub LastFits : Option (List Stmt) → Writer → Type 0
  LastFits None w = Fits (here w)
  LastFits (Some body) w = AllFit body w

  -- for a test, its branch, a block and a jump
  abbrev pub WhileFits : Expr → List Stmt → Writer → Type 0
  WhileFits test body w = Fits (past p (beyond_all p w.scope.slots (here w) body) (size_of test + 2))

  -- the sizes for which a statement asks are measured
  abbrev pub FormMeasured : Form → Writer → Type 0
  FormMeasured f w = Measured (asked p f w.scope.slots w.scope.next) w

  -- for statements
  abbrev pub AllMeasured : List Stmt → Writer → Type 0
  AllMeasured body w = Measured (asked_by p body w.scope.slots w.scope.next) w

  -- for a block that a branch leads past
  abbrev pub InsideMeasured : List Stmt → Writer → Type 0
  InsideMeasured body w = Measured (asked_inside p body w.scope.slots w.scope.next) w

  -- for the arms of an `if`
  abbrev pub ArmsMeasured : List Arm → Writer → Type 0
  ArmsMeasured arms w = Measured (asked_by_arms p arms w.scope.slots w.scope.next) w

  -- for the last block of an `if`, if there is one
  abbrev pub LastMeasured : Option (List Stmt) → Writer → Type 0
  LastMeasured last w = Measured (asked_by_last p last w.scope.slots w.scope.next) w

  -- there is room for the body of a code, in which these locals are visible and so many declared at first
  abbrev pub BodyFits : List Stmt → Slots → ℕ → Type 0
  BodyFits body slots slot = Fits (beyond_all p slots (beginning slot) body)

  -- for the body of a routine block
  abbrev pub BlockFits : RoutineBlock → Type 0
  BlockFits b = BodyFits (out-RoutineBlock b).body (routine_slots (out-RoutineBlock b).width_name.text (out-RoutineBlock b).id_name.text) 2

  -- for the bodies of routine blocks
  abbrev pub BlocksFit : List RoutineBlock → Type 0
  BlocksFit blocks = AllByRecursion BlockFits blocks

  -- a declaration
  abbrev pub WroteDeclare : Type' → Text → Expr → Writer → Writer → Type 0
  WroteDeclare ty name e old new =
      Wrote (code_of p old.scope.slots e (length old.instrs) ++ i.Store old.scope.next ∷ [])
      (with_slot old.scope.slots name old.scope.next (kind_of ty)) 1 0 0 0 old new

  -- A test in front of a block of so many instructions. Where it is false, it leads on past the block, `more` instructions and a jump.
  pub record WroteTest (test : Expr) (inside more taken : ℕ) (around : Around) (old new : Writer) : Type 0 where
    pub code : Wrote (code_of p old.scope.slots test (length old.instrs) ++ i.Branch around.out ∷ []) old.scope.slots 0 0 0 taken old new
    pub begins : around.test ≡ length old.instrs
    pub behind : around.behind ≡ length old.instrs + size_of test + 1 + inside
    pub out : around.out ≡ around.behind + more + 1

  -- a line
  abbrev pub WrotePrint : List Item → Writer → Writer → Type 0
  WrotePrint items old new =
      Wrote (items_code p old.scope.slots items (length old.instrs) ++ i.Print (printed_items p old.scope.slots items old.text) ∷ [])
      old.scope.slots 0 (length (item_texts items)) 0 0 old new

  -- a step
  abbrev pub WroteStep : List RoutineBlock → Writer → Writer → Type 0
  WroteStep blocks old new = Wrote (widths_code p old.scope.slots blocks (length old.instrs) ++ i.Par old.block (length blocks) ∷ [])
      old.scope.slots 0 0 (length blocks) 0 old new

  -- a statement
  abbrev pub WroteForm : Form → Exits → Writer → Writer → Type 0
  WroteForm f exits old new = Wrote (form_code p f old.scope.slots (here old) exits) (slots_after old.scope.slots old.scope.next f)
      (length (kinds_in f)) (length (texts_in f)) (length (steps_in f)) (length (asked p f old.scope.slots old.scope.next)) old new

  -- statements, one behind the other
  abbrev pub WroteAll : List Stmt → Exits → Writer → Writer → Type 0
  WroteAll body exits old new =
      Wrote (statements_code p body old.scope.slots (here old) exits) (slots_after_all old.scope.slots old.scope.next body)
      (length (kinds_of body)) (length (texts_of body)) (length (steps_of body))
      (length (asked_by p body old.scope.slots old.scope.next)) old new

  -- the statements of a block, whose locals are not visible behind it
  abbrev pub WroteBlock : List Stmt → Exits → Writer → Writer → Type 0
  WroteBlock body exits old new = Wrote (statements_code p body old.scope.slots (here old) exits) old.scope.slots (length (kinds_of body))
      (length (texts_of body)) (length (steps_of body)) (length (asked_by p body old.scope.slots old.scope.next)) old new

  -- the arms of an `if` that ends at this place
  abbrev pub WroteArms : List Arm → Exits → ℕ → Writer → Writer → Type 0
  WroteArms arms exits end old new = Wrote (all_arms_code p arms old.scope.slots (here old) exits end) old.scope.slots
      (length (kinds_of_arms arms)) (length (texts_of_arms arms)) (length (steps_of_arms arms))
      (length (asked_by_arms p arms old.scope.slots old.scope.next)) old new

  -- the last block of an `if`, if there is one
  abbrev pub WroteLast : Option (List Stmt) → Exits → Writer → Writer → Type 0
  WroteLast last exits old new = Wrote (last_block_code p last old.scope.slots (here old) exits) old.scope.slots
      (length (kinds_of_last last)) (length (texts_of_last last)) (length (steps_of_last last))
      (length (asked_by_last p last old.scope.slots old.scope.next)) old new

  -- a `while`
  abbrev pub WroteWhile : Expr → List Stmt → Writer → Writer → Type 0
  WroteWhile test body old new = Wrote (while_code p test body old.scope.slots (here old)) old.scope.slots (length (kinds_of body))
      (length (texts_of body)) (length (steps_of body)) (length (asked_inside p body old.scope.slots old.scope.next)) old new
