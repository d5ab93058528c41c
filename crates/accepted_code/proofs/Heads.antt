-- The heads of the `for` loops of a spelled program: one declaration or change in front of the test, and one change behind it.
use Rattle.std.proofs.Common.{◌≡◌, ℕ, Bool, true, false, if◌then◌else◌, List, Option, Some, subst}
use Rattle.std.specs.Str.{bytes_eq}
use denote.Hole.Carrier.{hidden, roll}
use Rattle.csl_tree.specs.declared.token.Token.{Token}
use Rattle.csl_tree.specs.declared.program.Program.{Program}
use Rattle.csl_tree.specs.declared.program.Function.{Function}
use Rattle.csl_tree.specs.declared.program.Stmt.{Stmt}
use Rattle.csl_tree.specs.declared.program.Arm.{Arm, Arm', roll-Arm}
use Rattle.csl_tree.specs.declared.program.RoutineBlock.{RoutineBlock, RoutineBlock', roll-RoutineBlock}
use Rattle.csl_tree.specs.declared.program.Form.{Form, If', While', For', Block', Par', Row_of-Arm, end_of-Arm, more_of-Arm, Row_of-Stmt, end_of-Stmt, more_of-Stmt, Held-Form-If-1}
use Rattle.csl_tree.specs.declared.program.Form.{Row_of-RoutineBlock, end_of-RoutineBlock, more_of-RoutineBlock}
use Rattle.csl_tree.specs.declared.program.Form as form
use Rattle.csl_tree.specs.declared.program.Form.TheVariants as variant
use Rattle.csl_tree.specs.declared.program.Form.TheBlock.{shape-the_row-Stmt-1, hidden-the_row-Stmt-1, shape-the_row-Stmt-2, hidden-the_row-Stmt-2, shape-the_row-Arm-0, hidden-the_row-Arm-0}
use Rattle.csl_tree.specs.declared.program.Form.TheBlock.{shape-the_row-RoutineBlock-3, hidden-the_row-RoutineBlock-3, back-Form-If-1}
use Rattle.csl_meaning.specs.Effect.{function_named}
use Rattle.csl_grammar.specs.Programs.{SpellsDecl, declare, SpellsChange, set, add_to, SpellsStmt, declared, changed, calls, block, if_else, while_loop, for_loop, break_out, goes_on, returns}
use Rattle.csl_grammar.specs.Programs.{returns_value, asserts, prints, parallel, SpellsStart, declares, changes, SpellsBlock, braces, SpellsStmts, none, one_more, SpellsArm, tested, SpellsElse}
use Rattle.csl_grammar.specs.Programs.{no_else, else_if, else_block, SpellsRoutine, routine, SpellsRoutines, no_routine, one_routine, SpellsFunction, function, Each, stop, again, SpellsProgram}
use Rattle.csl_grammar.specs.Programs.{program}
use Rattle.csl_grammar.specs.Texts.{IsSpelledWithin, text_limit}
use Rattle.compiled_code.specs.Shape.{OneOf, IsSimple, IsChange}

abbrev mutual
  -- each `for` in the statement has one declaration or change before its test, and one change behind it
  pub HeadsAre : Form → Type 0
  HeadsAre (If' shape arms last) = ArmHeads arms × LastHeads last
  HeadsAre (While' test shape body) = RowHeads body
  HeadsAre (For' shape first test shape' next' shape'' body) = OneOf IsSimple first × OneOf IsChange next' × RowHeads body
  HeadsAre (Block' shape body) = RowHeads body
  HeadsAre (Par' shape blocks) = BlockHeads blocks
  HeadsAre _ = Unit {0}

  pub RowHeads : {n : _} → Row_of-Stmt n → Type 0
  RowHeads end_of-Stmt = Unit {0}
  RowHeads (more_of-Stmt at f rest) = HeadsAre f × RowHeads rest

  pub ArmHeads : {n : _} → Row_of-Arm n → Type 0
  ArmHeads end_of-Arm = Unit {0}
  ArmHeads (more_of-Arm (Arm' test shape body) rest) = RowHeads body × ArmHeads rest

  pub LastHeads : Held-Form-If-1 → Type 0
  LastHeads form.None' = Unit {0}
  LastHeads (form.Some' shape body) = RowHeads body

  pub BlockHeads : {n : _} → Row_of-RoutineBlock n → Type 0
  BlockHeads end_of-RoutineBlock = Unit {0}
  BlockHeads (more_of-RoutineBlock (RoutineBlock' at width width_name id_name shape body) rest) = RowHeads body × BlockHeads rest

decl_simple : {ts rest : List Token} {s : Stmt} → SpellsDecl ts rest s → IsSimple s.form
decl_simple (declare k i a d) = tt

decl_heads : {ts rest : List Token} {s : Stmt} → SpellsDecl ts rest s → HeadsAre s.form
decl_heads (declare k i a d) = tt

change_simple : {ts rest : List Token} {s : Stmt} → SpellsChange ts rest s → IsSimple s.form
change_simple (set p k d) = tt
change_simple (add_to p k d) = tt

change_change : {ts rest : List Token} {s : Stmt} → SpellsChange ts rest s → IsChange s.form
change_change (set p k d) = tt
change_change (add_to p k d) = tt

change_heads : {ts rest : List Token} {s : Stmt} → SpellsChange ts rest s → HeadsAre s.form
change_heads (set p k d) = tt
change_heads (add_to p k d) = tt

start_simple : {ts rest : List Token} {s : Stmt} → SpellsStart ts rest s → IsSimple s.form
start_simple (declares d) = decl_simple d
start_simple (changes d) = change_simple d

mutual
  unfolding shape-the_row-Stmt-1 hidden-the_row-Stmt-1 shape-the_row-Stmt-2 hidden-the_row-Stmt-2 shape-the_row-Arm-0 hidden-the_row-Arm-0 shape-the_row-RoutineBlock-3 hidden-the_row-RoutineBlock-3
      roll-Arm roll-RoutineBlock hidden roll

  pub stmt_heads : {ts rest : List Token} {s : Stmt} → SpellsStmt ts rest s → HeadsAre s.form
  stmt_heads (declared d s) = decl_heads d
  stmt_heads (changed d s) = change_heads d
  stmt_heads (calls d s) = tt
  stmt_heads (block d) = block_heads d
  stmt_heads (if_else k a l) = let rest : _ × _ = else_heads l in (arm_heads a _ rest.0, rest.1)
  stmt_heads (while_loop k o d c b) = block_heads b
  stmt_heads (for_loop k o a s t u x c b) = (start_simple a, change_change x, block_heads b)
  stmt_heads (break_out k s) = tt
  stmt_heads (goes_on k s) = tt
  stmt_heads (returns k s) = tt
  stmt_heads (returns_value k d s) = tt
  stmt_heads (asserts k o d c s) = tt
  stmt_heads (prints k o d c s) = tt
  stmt_heads (parallel k r rs l s) = routine_heads r _ (routines_heads rs)

  pub block_heads : {ts rest : List Token} {body : List Stmt} → SpellsBlock ts rest body → RowHeads (hidden-the_row-Stmt-1 body)
  block_heads (braces o d c) = stmts_heads d

  pub stmts_heads : {ts rest : List Token} {body : List Stmt} → SpellsStmts ts rest body → RowHeads (hidden-the_row-Stmt-1 body)
  stmts_heads none = tt
  stmts_heads (one_more d m) = (stmt_heads d, stmts_heads m)

  pub arm_heads : {ts rest : List Token} {a : Arm} → SpellsArm ts rest a → {n : _} (others : Row_of-Arm n) → ArmHeads others → ArmHeads (more_of-Arm a others)
  arm_heads (tested o d c b) others h = (block_heads b, h)

  pub else_heads : {ts rest : List Token} {arms : List Arm} {last : Option (List Stmt)} → SpellsElse ts rest arms last → ArmHeads (hidden-the_row-Arm-0 arms) × LastHeads (back-Form-If-1 last)
  else_heads no_else = (tt, tt)
  else_heads (else_if k i a l) = let rest : _ × _ = else_heads l in (arm_heads a _ rest.0, rest.1)
  else_heads (else_block k b) = (tt, block_heads b)

  pub routine_heads : {ts rest : List Token} {r : RoutineBlock} → SpellsRoutine ts rest r → {n : _} (others : Row_of-RoutineBlock n) → BlockHeads others → BlockHeads (more_of-RoutineBlock r others)
  routine_heads (routine k o d c p i a m j b q body) others h = (block_heads body, h)

  pub routines_heads : {ts rest : List Token} {rs : List RoutineBlock} → SpellsRoutines ts rest rs → BlockHeads (hidden-the_row-RoutineBlock-3 rs)
  routines_heads no_routine = tt
  routines_heads (one_routine r rs) = routine_heads r _ (routines_heads rs)

-- in a spelled function
body_heads : {ts rest : List Token} {f : Function} → SpellsFunction ts rest f → HeadsAre (variant.Block f.body)
body_heads (function w n o p c b) = block_heads b

named_heads : {ts rest : List Token} {fs : List Function} → Each SpellsFunction ts rest fs → (name : List ℕ) (f : Function) → function_named fs name ≡ Some f → HeadsAre (variant.Block f.body)
named_heads stop name f e = absurd cc
named_heads (again {x = g} {xs = fs} d m) name f e = by (bytes_eq g.name.text name) e (body_heads d) (named_heads m name f)
  where
    by : (b : Bool) → (if b then Some g else function_named fs name) ≡ Some f → HeadsAre (variant.Block g.body) → (function_named fs name ≡ Some f → HeadsAre (variant.Block f.body))
        → HeadsAre (variant.Block f.body)
    by true is own others = let same : g ≡ f = cc in subst (λ (h : Function). HeadsAre (variant.Block h.body)) same own
    by false is own others = others is

program_main : {ts : List Token} {p : Program} → SpellsProgram ts p → HeadsAre (variant.Block p.main)
program_main (program w o s c f m b k) = block_heads b

program_functions : {ts : List Token} {p : Program} → SpellsProgram ts p → (name : List ℕ) (f : Function) → function_named p.functions name ≡ Some f → HeadsAre (variant.Block f.body)
program_functions (program w o s c f m b k) = named_heads f

-- so it is in the main of a spelled program
pub main_heads : (p : Program) → IsSpelledWithin text_limit p → HeadsAre (variant.Block p.main)
main_heads p h = program_main h.3.spelled

-- and in its functions
pub function_heads : (p : Program) → IsSpelledWithin text_limit p → (name : List ℕ) (f : Function) → function_named p.functions name ≡ Some f → HeadsAre (variant.Block f.body)
function_heads p h = program_functions h.3.spelled
