-- The command that is read from what `clap` found behind a command's name.
use Rattle.std.specs.Prelude.{ℕ, Bool, false, List, Option, Some, None, option_map, codes}
use Rattle.std.specs.Str.{bytes_eq}
use Rattle.clap.specs.Matches.{first_value}
use Rattle.clap.specs.declared.parser.matches.Found.{Found}
use Rattle.command_words.specs.declared.name.Verb.{Verb}
use Rattle.command_words.specs.declared.name.Verb.TheVariants.{Check, Eval, Run, Sim, Build, Exec, Gen, Selfrun}
use Rattle.command_words.specs.Commands.{Flags, Command, check, eval, run, sim, build, exec, gen, selfrun}
use Rattle.command_words.specs.Words.{of_two, of_three, number_or, numbers_in}

-- is it the value of a flag that is set?
abbrev pub is_true : Option (List ℕ) → Bool
is_true None = false
is_true (Some text) = bytes_eq text (codes "true")

-- the one operand, or the first of two
abbrev pub first_found : Found → Option (List ℕ)
first_found found = first_value found (codes "FIRST")

-- both operands
abbrev pub both_found : Found → Option (List ℕ × List ℕ)
both_found found = of_two (λ one two. (one, two)) (first_value found (codes "FIRST")) (first_value found (codes "SECOND"))

-- the options of a run
abbrev pub flags_found : Found → Option Flags
flags_found found =
    of_three (λ workers fuel frames. record {
      workers = workers;
      fuel = fuel;
      frames = frames;
      script = first_value found (codes "script");
      log = first_value found (codes "log");
      report = is_true (first_value found (codes "report"));
      steps = is_true (first_value found (codes "steps"));
    })
    (number_or 4 0 32 (first_value found (codes "workers")))
    (number_or 1000000 1 4294967295 (first_value found (codes "fuel")))
    (number_or 64 2 4096 (first_value found (codes "frames")))

-- the command of this name
abbrev pub command_found : Verb → Found → Option Command
command_found Check found = option_map check (first_found found)
command_found Eval found = option_map eval (first_found found)
command_found Run found = of_two run (first_found found) (flags_found found)
command_found Sim found = option_map (λ files. sim files.0 files.1 (first_value found (codes "log"))) (both_found found)
command_found Build found = option_map (λ files. build files.0 files.1) (both_found found)
command_found Exec found = of_two exec (first_found found) (flags_found found)
command_found Gen found = option_map (λ numbers. gen numbers.0 numbers.1) (numbers_in (both_found found))
command_found Selfrun found = option_map (λ numbers. selfrun numbers.0 numbers.1) (numbers_in (both_found found))
