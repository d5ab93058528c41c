-- A body without faults, outside of loops: nothing leads out of it, and where it ends by the checker's word it ends.
use Rattle.std.proofs.Common.{◌≡◌, ℕ, Bool, true, false, ◌&&◌, ◌||◌, ◌⊎◌, inl, inr, [], ◌++◌, refl}
use Rattle.std.specs.Prelude.{not}
use Rattle.csl_tree.specs.declared.program.Function.{Function}
use Rattle.csl_tree.specs.declared.program.Arm.{Arm'}
use Rattle.csl_tree.specs.declared.program.Form.{Form, Declare, Set, AddTo, If', While', For', Break, Continue, Return, Assert, Block', Print, Par', Row_of-Arm, end_of-Arm, more_of-Arm, Row_of-Stmt}
use Rattle.csl_tree.specs.declared.program.Form.{end_of-Stmt, more_of-Stmt, Held-Form-If-1}
use Rattle.csl_tree.specs.declared.program.Form as form
use Rattle.csl_tree.specs.declared.program.Form.TheVariants as variant
use Rattle.type_check.specs.declared.fault.CheckKind.TheVariants.{NotInLoop}
use Rattle.type_check.specs.declared.body.Body.TheVariants as body
use Rattle.type_check.specs.declared.body.Here.{Here}
use Rattle.type_check.specs.declared.names.Typed.TheVariants as typed
use Rattle.type_check.specs.Listed.{fault_if}
use Rattle.type_check.specs.Names.{Names}
use Rattle.type_check.specs.Expressions.{value_faults}
use Rattle.type_check.specs.Bodies.{after}
use Rattle.type_check.specs.Bodies as checked
use Rattle.type_check.specs.Statements.{faults, row_faults, arm_faults, last_faults}
use Rattle.type_check.specs.Faults.{body_faults}
use Rattle.type_check.proofs.CleanLemmas.{none_in_first, none_in_second}
use Rattle.compiled_code.specs.Shape.{Stays, RowStays, ArmsStay, LastStays, Ends, RowEnds, ArmsEnd, LastEnds}

-- `break` and `continue` outside of a loop are faults
never : (b : Bool) (at : ℕ) → b ≡ false → fault_if (not b) NotInLoop at ≡ [] → ⊥
never true at out e = cc
never false at out e = cc

module _ (globals : Names) where
  mutual
    -- no `break` and no `continue` leads out of a statement without faults that stands in no loop
    pub stays : (here : Here) (names : Names) (at : ℕ) (f : Form) → here.looped ≡ false → faults globals here names at f ≡ [] → Stays f
    stays here names at (Declare ty name e) out h = tt
    stays here names at (Set place e) out h = tt
    stays here names at (AddTo place e) out h = tt
    stays here names at (If' shape arms last) out h =
        (arms_stay here names arms out (none_in_first (arm_faults globals here names arms) (last_faults globals here names last) h), last_stays here names last out (none_in_second (arm_faults globals here names arms) (last_faults globals here names last) h))
    stays here names at (While' test shape body) out h = tt
    stays here names at (For' shape first test shape' next' shape'' body) out h = tt
    stays here names at Break out h = never here.looped at out h
    stays here names at Continue out h = never here.looped at out h
    stays here names at (Return given) out h = tt
    stays here names at (form.CallOf call) out h = tt
    stays here names at (Assert e) out h = tt
    stays here names at (Block' shape body) out h = row_stays here names body out h
    stays here names at (Print items) out h = tt
    stays here names at (Par' shape blocks) out h = tt

    pub row_stays : {n : _} (here : Here) (names : Names) (row : Row_of-Stmt n) → here.looped ≡ false → row_faults globals here names row ≡ [] → RowStays row
    row_stays here names end_of-Stmt out h = tt
    row_stays here names (more_of-Stmt at f rest) out h =
        (stays here names at f out (none_in_first (faults globals here names at f) (row_faults globals here (after names f) rest) h), row_stays here (after names f) rest out (none_in_second (faults globals here names at f) (row_faults globals here (after names f) rest) h))

    pub arms_stay : {n : _} (here : Here) (names : Names) (arms : Row_of-Arm n) → here.looped ≡ false → arm_faults globals here names arms ≡ [] → ArmsStay arms
    arms_stay here names end_of-Arm out h = tt
    arms_stay here names (more_of-Arm (Arm' test shape body) rest) out h =
        (row_stays here names body out (none_in_second (value_faults here.body names typed.Bool test) (row_faults globals here names body) (none_in_first (value_faults here.body names typed.Bool test ++ row_faults globals here names body) (arm_faults globals here names rest) h)), arms_stay here names rest out (none_in_second (value_faults here.body names typed.Bool test ++ row_faults globals here names body) (arm_faults globals here names rest) h))

    pub last_stays : (here : Here) (names : Names) (last : Held-Form-If-1) → here.looped ≡ false → last_faults globals here names last ≡ [] → LastStays last
    last_stays here names form.None' out h = tt
    last_stays here names (form.Some' shape body) out h = row_stays here names body out h

both_are : (a b : Bool) → a && b ≡ true → (a ≡ true) × (b ≡ true)
both_are true b e = (refl, e)
both_are false b e = absurd cc

one_is : (a b : Bool) → a || b ≡ true → (a ≡ true) ⊎ (b ≡ true)
one_is true b e = inl refl
one_is false b e = inr e

either : {A B : Type 0} (a b : Bool) → (a ≡ true) ⊎ (b ≡ true) → (a ≡ true → A) → (b ≡ true → B) → A ⊎ B
either a b (inl h) one two = inl (one h)
either a b (inr h) one two = inr (two h)

mutual
  -- what ends by the checker's word never ends normally
  pub ends_are : (f : Form) → checked.ends f ≡ true → Ends f
  ends_are (Declare ty name e) h = absurd cc
  ends_are (Set place e) h = absurd cc
  ends_are (AddTo place e) h = absurd cc
  ends_are (If' shape arms last) h = let both : _ × _ = both_are (checked.arms_end arms) (checked.last_ends last) h in (arms_end_are arms both.0, last_ends_are last both.1)
  ends_are (While' test shape body) h = absurd cc
  ends_are (For' shape first test shape' next' shape'' body) h = absurd cc
  ends_are Break h = absurd cc
  ends_are Continue h = absurd cc
  ends_are (Return given) h = tt
  ends_are (form.CallOf call) h = absurd cc
  ends_are (Assert e) h = absurd cc
  ends_are (Block' shape body) h = row_ends_are body h
  ends_are (Print items) h = absurd cc
  ends_are (Par' shape blocks) h = absurd cc

  pub row_ends_are : {n : _} (row : Row_of-Stmt n) → checked.row_ends row ≡ true → RowEnds row
  row_ends_are end_of-Stmt h = absurd cc
  row_ends_are (more_of-Stmt at f rest) h = either (checked.ends f) (checked.row_ends rest) (one_is (checked.ends f) (checked.row_ends rest) h) (ends_are f) (row_ends_are rest)

  pub arms_end_are : {n : _} (arms : Row_of-Arm n) → checked.arms_end arms ≡ true → ArmsEnd arms
  arms_end_are end_of-Arm h = tt
  arms_end_are (more_of-Arm (Arm' test shape body) rest) h = let both : _ × _ = both_are (checked.row_ends body) (checked.arms_end rest) h in (row_ends_are body both.0, arms_end_are rest both.1)

  pub last_ends_are : (last : Held-Form-If-1) → checked.last_ends last ≡ true → LastEnds last
  last_ends_are form.None' h = absurd cc
  last_ends_are (form.Some' shape body) h = row_ends_are body h

-- nothing leads out of the body of a function without faults
pub function_returns : (globals names : Names) (f : Function) → body_faults globals (body.Function f.gives) names f.body ≡ [] → Stays (variant.Block f.body)
function_returns globals names f h = stays globals _ names 0 (variant.Block f.body) refl h

-- and one that ends by the checker's word never ends normally
pub function_ends : (f : Function) → checked.ends (variant.Block f.body) ≡ true → Ends (variant.Block f.body)
function_ends f h = ends_are (variant.Block f.body) h
