-- The law of what commands come to.
use Rattle.std.specs.Prelude.{◌≡◌}
use Rattle.command_words.specs.Commands.{Command}
use Rattle.calypso_cli.specs.Outcomes.{Sight, Outcome}
use Rattle.calypso_cli.specs.Commands.{ComesTo}

-- on the same sight of the outside a command comes to one outcome at most
abbrev pub ComesToOne : Type 0
ComesToOne = (command : Command) (sight : Sight) (one two : Outcome) → ComesTo command sight one → ComesTo command sight two → one ≡ two
