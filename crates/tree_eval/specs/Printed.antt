-- What comes before a line is printed.
use Rattle.std.specs.Prelude.{◌≡◌, ℕ, List, Result, Ok, Err}
use Rattle.std.specs.declared.option.Option.{Option}
use Rattle.csl_tree.specs.declared.program.Program.{Program}
use Rattle.csl_tree.specs.declared.program.Item.{Item}
use Rattle.csl_meaning.specs.declared.state.World.{World}
use Rattle.csl_meaning.specs.Locals.{Locals}
use Rattle.csl_meaning.specs.Runs.{Gives}
use Rattle.csl_meaning.specs.Effect.{calls_to, most_levels}
use Rattle.cal_base.specs.Printing.{line_of}
use Rattle.csl_meaning.specs.Meaning.{pieces}
use Rattle.tree_eval.specs.declared.main_halt.MainHalt.{MainHalt}
use Rattle.tree_eval.specs.Told.{TellsOf}

-- the line of these items, or why there is none
abbrev pub IsPrinted : Program → List Item → Locals → World → Result (List ℕ) MainHalt → World → Type 0
IsPrinted p items locals w (Ok line) later =
    (texts : List (List ℕ)) × (pieces p (calls_to p most_levels) locals items w ≡ Gives texts later) × (line ≡ line_of texts)
IsPrinted p items locals w (Err halt) later =
    (text : Option (List ℕ)) → TellsOf (pieces p (calls_to p most_levels) locals items w) (Err halt) later text text
