-- The laws of readings.
use Rattle.std.specs.Prelude.{◌≡◌, ℕ, List, ◌↔◌}
use Rattle.csl_tree.specs.declared.program.Program.{Program}
use Rattle.csl_grammar.specs.Texts.{Spells}
use Rattle.type_check.specs.Faults.{IsAccepted}
use Rattle.csl_reader.specs.Readings.{Reading, accepted, IsRead}

-- a text is read in one way at most
abbrev pub ReadOneWay : Type 0
ReadOneWay = (text : List ℕ) (one two : Reading) → IsRead text one → IsRead text two → one ≡ two

-- a text is an accepted program exactly where it spells it and the program has no fault
abbrev pub AcceptedAreSpelled : Type 0
AcceptedAreSpelled = (text : List ℕ) (p : Program) → IsRead text (accepted p) ↔ (Spells text p × IsAccepted p)
