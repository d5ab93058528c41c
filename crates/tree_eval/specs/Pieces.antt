-- The pieces of a printed line.
use Rattle.std.specs.Prelude.{ℕ, Bool, true, false, List, [], ◌∷◌, ◌++◌}
use Rattle.csl_tree.specs.declared.program.Program.{Program}
use Rattle.csl_tree.specs.declared.program.Item.{Item}
use Rattle.csl_tree.specs.declared.program.Item.TheVariants as item
use Rattle.csl_meaning.specs.Locals.{Locals}
use Rattle.csl_meaning.specs.Runs.{Run, ◌>>=◌, pure}
use Rattle.csl_meaning.specs.Value.{Calls, value_of}
use Rattle.cal_base.specs.Printing.{shown}

-- the text of a printed item
abbrev pub piece_of : Program → Calls → Locals → Item → Run (List ℕ)
piece_of p calls locals (item.Text text) = pure text.text
piece_of p calls locals (item.Value e) = do
  v ← value_of p calls locals e
  pure (shown v)

-- a piece of a line, with a blank behind it unless it is the last one
abbrev pub spaced : Bool → List ℕ → List ℕ
spaced true text = text
spaced false text = text ++ 32 ∷ []
