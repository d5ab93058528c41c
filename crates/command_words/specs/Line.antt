-- The command lines of which `clap` reads the words behind a command's name.
use Rattle.std.specs.Prelude.{ℕ, Bool, true, false, not, ◌&&◌, ◌||◌, ◌==◌, List, [], ◌∷◌, ◌++◌, Some, codes, if◌then◌else◌, map}
use Rattle.clap.specs.Walk.{Rule, Text}
use Rattle.clap.specs.Simple.{App, Shape, new_rule, new_shape}
use Rattle.clap.specs.declared.builder.action.ArgAction.TheVariants.{Set, SetTrue}
use Rattle.command_words.specs.declared.name.Verb.{Verb}
use Rattle.command_words.specs.declared.name.Verb.TheVariants.{Check, Eval, Run, Sim, Build, Exec, Gen, Selfrun}
use Rattle.command_words.specs.declared.name.Setting.{Setting}
use Rattle.command_words.specs.declared.name.Setting.TheVariants.{Workers, Fuel, Frames, Script, Log, Report, Steps}
use Rattle.std.specs.List.{after_first}
use Rattle.command_words.specs.Words.{has_value, is_plain, is_equals, has_equals}

-- the name of an option or a flag, without its two dashes
abbrev pub name_of : Setting → Text
name_of Workers = codes "workers"
name_of Fuel = codes "fuel"
name_of Frames = codes "frames"
name_of Script = codes "script"
name_of Log = codes "log"
name_of Report = codes "report"
name_of Steps = codes "steps"

-- the argument of an option or a flag, which comes at most once
abbrev pub setting_rule : Setting → Rule
setting_rule setting = record (new_rule (name_of setting)) { long = Some (name_of setting); action = Some (if has_value setting then Set else SetTrue) }

-- an operand, which must be there
abbrev pub operand_rule : Text → Rule
operand_rule id = record (new_rule id) { action = Some Set; required = true }

-- two operands or one?
abbrev pub has_two : Verb → Bool
has_two Check = false
has_two Eval = false
has_two Run = false
has_two Sim = true
has_two Build = true
has_two Exec = false
has_two Gen = true
has_two Selfrun = true

abbrev pub operand_rules : Bool → List Rule
operand_rules false = operand_rule (codes "FIRST") ∷ []
operand_rules true = operand_rule (codes "FIRST") ∷ operand_rule (codes "SECOND") ∷ []

-- the options and flags of a command
abbrev pub settings_of : Verb → List Setting
settings_of Check = []
settings_of Eval = []
settings_of Run = Workers ∷ Fuel ∷ Frames ∷ Script ∷ Log ∷ Report ∷ Steps ∷ []
settings_of Sim = Log ∷ []
settings_of Build = []
settings_of Exec = Workers ∷ Fuel ∷ Frames ∷ Script ∷ Log ∷ Report ∷ Steps ∷ []
settings_of Gen = []
settings_of Selfrun = []

-- a line of words with no name of a program before them, and no help
abbrev pub bare_shape : Shape
bare_shape = record (new_shape (codes "calypso")) { no_binary_name = true; disable_help_flag = true }

-- the command line behind the name of a command
abbrev pub line_of : Verb → App
line_of verb = record { top = record bare_shape { rules = operand_rules (has_two verb) ++ map setting_rule (settings_of verb) }; subs = [] }

-- the word begins with two dashes and goes on
abbrev pub is_named : List ℕ → Bool
is_named [] = false
is_named (one ∷ []) = false
is_named (one ∷ two ∷ []) = false
is_named (one ∷ two ∷ three ∷ rest) = one == 45 && two == 45

-- no value behind `=` that can't be one
abbrev pub has_plain_value : List ℕ → Bool
has_plain_value word = not (has_equals word) || is_plain (after_first is_equals word)

-- `clap` may read the word: it can be an operand or a value, or it begins with two dashes and has no value that can't be one
abbrev pub is_readable : List ℕ → Bool
is_readable word = is_plain word || (is_named word && has_plain_value word)
