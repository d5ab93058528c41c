-- Writing and adding, by one flag: does the statement add?
use Rattle.std.specs.Prelude.{ℕ, ◌+ℤ◌, Bool, true, false}
use Rattle.cal_base.specs.declared.value.Val.{Val}
use Rattle.cal_base.specs.Arithmetic.{checked}
use Rattle.csl_tree.specs.declared.program.Program.{Program}
use Rattle.csl_meaning.specs.Layout.{Text, area_of}
use Rattle.csl_meaning.specs.Locals.{Locals, local_value, set_local}
use Rattle.csl_meaning.specs.Operators.{number_in, as_int}
use Rattle.csl_meaning.specs.Runs.{Run, ◌>>=◌, pure, try, put_word, raise_word}
use Rattle.csl_meaning.specs.Value.{declared, in_range, item_at}
use Rattle.csl_meaning.specs.Effect.{set_name, add_to_name}

-- a word is written, or added to
abbrev pub changed_word : Bool → ℕ → Val → Run (Unit {0})
changed_word true address v = raise_word address (number_in v)
changed_word false address v = put_word address (number_in v)

-- a local that had a value gets another one, or is added to
abbrev pub changed_local : Bool → Val → Text → Val → Locals → Run Locals
changed_local true old name v locals = do
  sum ← try (as_int (checked (number_in old +ℤ number_in v)))
  pure (set_local locals name sum)
changed_local false old name v locals = pure (set_local locals name v)

-- a name is set, or added to
abbrev pub changed_name : Bool → Program → Text → Val → Locals → Run Locals
changed_name true p name v locals = add_to_name (local_value locals name) (declared (area_of p.shared name)) name v locals
changed_name false p name v locals = set_name (local_value locals name) (declared (area_of p.shared name)) name v locals

-- an array's item is set, or added to
abbrev pub changed_item : Bool → Program → Text → Val → Val → Run (Unit {0})
changed_item adds p name x v = do
  address ← in_range (item_at (declared (area_of p.shared name)) (number_in x))
  changed_word adds address v
