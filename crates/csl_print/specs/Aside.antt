-- What a text spells, positions aside.
use Rattle.std.specs.Prelude.{◌≡◌, ℕ, List}
use Rattle.csl_tree.specs.declared.program.Program.{Program}
use Rattle.csl_grammar.specs.Texts.{Spells, IsSpelled}
use Rattle.csl_print.specs.Bare.{bare}
use Rattle.csl_print.specs.Canonical.{canonical}

-- a text spells a program that is the same but for positions
pub record SpellsAside (text : List ℕ) (p : Program) : Type 0 where
  pub spelled : Program
  pub spells : Spells text spelled
  pub same : bare spelled ≡ bare p

-- the canonical text of a program that some text spells spells it, positions aside
abbrev pub CanonicalSpells : Type 0
CanonicalSpells = (p : Program) → IsSpelled p → SpellsAside (canonical p) p
