-- The definitions of several expressions and of an `if`, over lists.
use Rattle.std.specs.Prelude.{Bool, true, false, if◌then◌else◌, List, [], ◌∷◌, Option, Some, None}
use Rattle.cal_base.specs.declared.value.Val.{Val}
use Rattle.csl_tree.specs.declared.program.Program.{Program}
use Rattle.csl_tree.specs.declared.program.Expr.{Expr}
use Rattle.csl_tree.specs.declared.program.Place.{Place}
use Rattle.csl_tree.specs.declared.program.Stmt.{Stmt}
use Rattle.csl_tree.specs.declared.program.Arm.{Arm, out-Arm}
use Rattle.csl_meaning.specs.declared.state.Ending.TheVariants as ending
use Rattle.csl_meaning.specs.Operators.{truth_in}
use Rattle.csl_meaning.specs.Locals.{Locals}
use Rattle.csl_meaning.specs.Runs.{Run, ◌>>=◌, pure}
use Rattle.csl_meaning.specs.Value.{Calls, value_of}
use Rattle.csl_meaning.specs.Effect.{Went, MainOnly, statements, scoped, set, add_to}

-- the values of several expressions, from left to right
abbrev pub values_of : Program → Calls → Locals → List Expr → Run (List Val)
values_of p calls locals [] = pure []
values_of p calls locals (e ∷ rest) = do
  v ← value_of p calls locals e
  vs ← values_of p calls locals rest
  pure (v ∷ vs)

-- a place is set, or added to
abbrev pub changed : Bool → Program → Calls → Locals → Place → Expr → Run Locals
changed true p calls locals place e = add_to p calls locals place e
changed false p calls locals place e = set p calls locals place e

module _ (p : Program) (calls : Calls) (in_main : MainOnly → Locals → Run Went) where
  -- the first arm whose test is true, else the last block
  abbrev pub chosen : List Arm → (Locals → Run Went) → Locals → Run Went
  chosen [] last locals = last locals
  chosen (arm ∷ rest) last locals = do
    v ← value_of p calls locals (out-Arm arm).test
    if truth_in v then scoped (statements p calls in_main (out-Arm arm).body) locals else chosen rest last locals

  -- the last block of an `if`, if there is one
  abbrev pub last_block : Option (List Stmt) → Locals → Run Went
  last_block None locals = pure (ending.Normal, locals)
  last_block (Some body) locals = scoped (statements p calls in_main body) locals
