-- What a program means: what main shows, which steps it opens, and how it ends.
use Rattle.std.specs.Prelude.{ℕ, ℤ, suc, List, [], ◌∷◌, Option, Some, None}
use Rattle.cal_base.specs.declared.ends.Cause.TheVariants.{BadWidth}
use Rattle.cal_base.specs.declared.ends.RunEnd.TheVariants.{Done, MainFault}
use Rattle.cal_base.specs.declared.value.Store.TheVariants as store
use Rattle.cal_base.specs.Stores.{memory_in}
use Rattle.cal_base.specs.Printing.{shown, line_of}
use Rattle.cal_base.specs.Widths.{step_widths}
use Rattle.cal_base.specs.Main.{Main, Ends, Shows, Opens, Meaning, meaning_of}
use Rattle.csl_tree.specs.declared.program.Program.{Program}
use Rattle.csl_tree.specs.declared.program.Item.{Item}
use Rattle.csl_tree.specs.declared.program.Item.TheVariants as item
use Rattle.csl_tree.specs.declared.program.RoutineBlock.{RoutineBlock, RoutineBlock'}
use Rattle.csl_meaning.specs.declared.state.Ending.TheVariants as ending
use Rattle.csl_meaning.specs.declared.state.World.{World}
use Rattle.csl_meaning.specs.Layout.{first_memory}
use Rattle.csl_meaning.specs.Locals.{Locals}
use Rattle.csl_meaning.specs.Operators.{number_in}
use Rattle.csl_meaning.specs.Runs.{Outcome, Gives, Stops, ShowsLine, OpensStep, Run, ◌>>=◌, ◌>>◌, pure, stop, take_unit}
use Rattle.csl_meaning.specs.Value.{Calls, value_of}
use Rattle.csl_meaning.specs.Effect.{Went, MainOnly, Printing, Stepping, statements, calls_to, most_levels}
use Rattle.csl_meaning.specs.Routines.{answers}

-- shows a line
abbrev pub show : List ℕ → Run (Unit {0})
show line = λ w. ShowsLine line (Gives tt w)

module _ (p : Program) (calls : Calls) (locals : Locals) where
  -- the text of each printed item, the values evaluated from left to right
  abbrev pub pieces : List Item → Run (List (List ℕ))
  pieces [] = pure []
  pieces (item.Text text ∷ rest) = do
    more ← pieces rest
    pure (text.text ∷ more)
  pieces (item.Value e ∷ rest) = do
    v ← value_of p calls locals e
    more ← pieces rest
    pure (shown v ∷ more)

  -- the widths of a step's blocks, evaluated from left to right
  abbrev pub widths_of : List RoutineBlock → Run (List ℤ)
  widths_of [] = pure []
  widths_of (RoutineBlock' at width width_name id_name shape body ∷ rest) = do
    v ← value_of p calls locals width
    more ← widths_of rest
    pure (number_in v ∷ more)

-- goes on with the widths, unless they are no step's
abbrev pub good_widths : Option (List ℕ) → Run (List ℕ)
good_widths None = stop BadWidth
good_widths (Some widths) = pure widths

-- opens the next step on the memory as it is, where each routine has the whole fuel, and goes on with the memory that the step leaves
abbrev pub open_step : Program → ℕ → List RoutineBlock → List ℕ → Run (Unit {0})
open_step p fuel blocks widths = λ w.
    OpensStep (record { number = suc w.steps; opening = memory_in w.store; answers = answers p (memory_in w.store) fuel blocks widths })
    (λ later. Gives tt (record w { store = store.Main later; steps = suc w.steps }))

-- the statements of main alone: `print` shows a line, and `parbegin` evaluates its widths, tests them, takes one unit of fuel and opens a step
abbrev pub in_main : Program → ℕ → MainOnly → Locals → Run Went
in_main p fuel (Printing items) locals = do
  texts ← pieces p (calls_to p most_levels) locals items
  show (line_of texts)
  pure (ending.Normal, locals)
in_main p fuel (Stepping blocks) locals = do
  numbers ← widths_of p (calls_to p most_levels) locals blocks
  widths ← good_widths (step_widths numbers)
  take_unit
  open_step p fuel blocks widths
  pure (ending.Normal, locals)

-- the world in which main begins: the first memory, the whole fuel, and no step
abbrev pub first_world : Program → ℕ → World
first_world p fuel = record { store = store.Main (first_memory p.shared); fuel = fuel; steps = 0 }

-- main's run
abbrev pub run_of : Program → ℕ → Outcome Went
run_of p fuel = statements p (calls_to p most_levels) (in_main p fuel) p.main [] (first_world p fuel)

-- an outcome as what main does: it is done where its body has ended, and a cause is a fault in main
abbrev pub main_of : {A : Type 0} → Outcome A → Main
main_of (Gives a w) = Ends (Done w.steps)
main_of (Stops cause w) = Ends (MainFault w.steps cause)
main_of (ShowsLine line rest) = Shows line (main_of rest)
main_of (OpensStep job rest) = Opens job (λ later. main_of (rest later))

-- what a program does, run with this much fuel
abbrev pub main : Program → ℕ → Main
main p fuel = main_of (run_of p fuel)

-- what a program means, run with this much fuel: its events and its end
abbrev pub meaning : Program → ℕ → Meaning
meaning p fuel = meaning_of (main p fuel)
