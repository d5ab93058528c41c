-- What comes before a step opens.
use Rattle.std.specs.Prelude.{ℕ, List}
use Rattle.csl_tree.specs.declared.program.Program.{Program}
use Rattle.csl_tree.specs.declared.program.RoutineBlock.{RoutineBlock}
use Rattle.csl_meaning.specs.Locals.{Locals}
use Rattle.csl_meaning.specs.Runs.{Run, ◌>>=◌, ◌>>◌, pure, take_unit}
use Rattle.csl_meaning.specs.Effect.{calls_to, most_levels}
use Rattle.cal_base.specs.Widths.{step_widths}
use Rattle.csl_meaning.specs.Meaning.{widths_of, good_widths}

-- the widths of a step are evaluated and tested, and one unit of fuel is taken
abbrev pub ready_widths : Program → Locals → List RoutineBlock → Run (List ℕ)
ready_widths p locals blocks = do
  numbers ← widths_of p (calls_to p most_levels) locals blocks
  widths ← good_widths (step_widths numbers)
  take_unit
  pure widths
